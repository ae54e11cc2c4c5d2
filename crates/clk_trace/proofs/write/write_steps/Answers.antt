use Rattle.std.proofs.Common.{[], refl}
use Rattle.clk_trace.specs.WriterParts.{step_text}
use Rattle.clk_trace.proofs.Lining.{takes_item}
use Rattle.clk_trace.proofs.write.write_steps.Goals as goal

pub loop-step-preserved : goal.loop-step-preserved
loop-step-preserved g c = takes_item _ _ _ [] step_text c.args.steps.now c.loop-step.step-index _ _ c.loop-step.invariant c.write_step.ensures c.loop-step-test.true refl
