use Rattle.std.proofs.Common.{sym, ◌∙◌}
use Rattle.clk_tool.proofs.Numbers.{reads, reads_none}
use Rattle.clk_tool.proofs.command.number_of.Goals as goal

pub returns-then-is_plain : goal.returns-then-is_plain
returns-then-is_plain c =
    let plain = rw c.as_bytes.ensures.value at (sym c.is_plain.ensures ∙ c.if-is_plain.true) in
    c.ok.ensures.value ∙ reads _ _ plain c.parse.ensures.value.0

pub returns-else-is_plain : goal.returns-else-is_plain
returns-else-is_plain c =
    reads_none _ (rw c.as_bytes.ensures.value at (sym c.is_plain.ensures ∙ c.if-is_plain.false))
