use Rattle.std.proofs.Common.{[], refl}
use Rattle.clk_trace.specs.WriterParts.{attempt_text}
use Rattle.clk_trace.proofs.Lining.{takes_item}
use Rattle.clk_trace.proofs.write_watch.write_attempts.Goals as goal

pub loop-attempt-preserved : goal.loop-attempt-preserved
loop-attempt-preserved g c =
    takes_item _ _ _ [] (attempt_text c.args.source) c.args.attempts.now c.loop-attempt.attempt-index _ _ c.loop-attempt.invariant c.write_attempt.ensures c.loop-attempt-test.true refl
