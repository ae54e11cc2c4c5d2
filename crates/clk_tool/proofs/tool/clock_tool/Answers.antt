use Rattle.std.proofs.Common.{inr}
use Rattle.clk_tool.proofs.Accepting.{done_or_memory, holds_no_machine}
use Rattle.clk_tool.proofs.tool.clock_tool.Goals as goal

pub returns-in-Ok-clause-complete : goal.returns-in-Ok-clause-complete
returns-in-Ok-clause-complete g c = λ form holds still calm.
    done_or_memory c.run_booted.result c.run_booted.ensures.answers (λ e. calm (c.run_booted.ensures.write_fault e))

pub returns-in-Err-clause-complete : goal.returns-in-Err-clause-complete
returns-in-Err-clause-complete g c = λ form holds still calm. inr (c.in-Err.ensures.complete holds still)

pub returns-in-Ok-clause-refuses : goal.returns-in-Ok-clause-refuses
returns-in-Ok-clause-refuses g c = λ r form holds still. absurd (holds_no_machine _ _ _ r holds _ c.in-Ok.ensures.came)

pub returns-in-Err-clause-refuses : goal.returns-in-Err-clause-refuses
returns-in-Err-clause-refuses g c = λ r form holds still. c.in-Err.ensures.refuses r holds still
