use Rattle.std.proofs.Common.{ap, Err}
use Rattle.clk_tool.proofs.Accepting.{holds_no_cause, memory_alone, holds_no_machine, refused_so, refused_or_memory}
use Rattle.clk_tool.proofs.run.read_run.Goals as goal

pub returns-in-Err-clause-complete : goal.returns-in-Err-clause-complete
returns-in-Err-clause-complete g c = λ holds still.
    memory_alone c.in-Err.status c.in-Err.ensures.answers (λ e. still (c.in-Err.ensures.read_fault (ap Err e)))
    (λ r e. holds_no_cause _ _ _ r holds (c.in-Err.ensures.refused r (ap Err e)))

pub returns-in-Ok-boot-clause-refuses : goal.returns-in-Ok-boot-clause-refuses
returns-in-Ok-boot-clause-refuses g c = λ r holds still. absurd (holds_no_machine _ _ _ r holds _ c.in-Ok.ensures.ok)

pub returns-in-Err-clause-refuses : goal.returns-in-Err-clause-refuses
returns-in-Err-clause-refuses g c = λ r holds still.
    refused_or_memory r c.in-Err.status c.in-Err.ensures.answers (λ e. still (c.in-Err.ensures.read_fault (ap Err e)))
    (λ q e. refused_so _ _ _ r holds q (c.in-Err.ensures.refused q (ap Err e)))
