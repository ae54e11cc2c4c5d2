use Rattle.std.proofs.Common.{◌∙◌, sym}
use Rattle.clk_base.proofs.Firsts.{refused_each_at}
use Rattle.clk_machine.proofs.threads.test_words.Goals as goal

pub returns-then-is_some : goal.returns-then-is_some
returns-then-is_some c =
    refused_each_at _ _ _ _ _ _ c.loop-i-test.true c.test_word-refusal.ensures (sym c.is_some.ensures ∙ c.if-is_some.true)
    ∙ sym c.loop-i.invariant
