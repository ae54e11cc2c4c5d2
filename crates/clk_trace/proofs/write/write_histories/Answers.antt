use Rattle.std.proofs.Common.{[]}
use Rattle.clk_trace.specs.WriterParts.{history_text}
use Rattle.clk_trace.proofs.Lining.{takes_item}
use Rattle.clk_trace.proofs.write.write_histories.Goals as goal

pub loop-word-preserved : goal.loop-word-preserved
loop-word-preserved g c =
    takes_item _ _ _ [] history_text c.args.histories.now c.loop-word.word _ _ c.loop-word.invariant c.write_history.ensures c.loop-word-test.true c.index-histories-word.is
