use Rattle.std.proofs.Common.{arith}
use Rattle.clk_trace.proofs.Gaining.{sorts_more}
use Rattle.clk_trace.proofs.gather.sort_lists.Goals as goal

pub loop-lines-preserved : goal.loop-lines-preserved
loop-lines-preserved c =
    sorts_more c.args.opening.now c.loop-lines.lines-index c.args.lists.now c.loop-lines.lists c.lines-item.result c.sort_lines.new.lines
    (omega (arith, c.loop-lines.auto.lists, c.loop-lines-test.true)) c.loop-lines.invariant c.sort_lines.ensures
