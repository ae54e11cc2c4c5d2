use Rattle.std.proofs.Common.{sym, pos}
use Rattle.clk_base.specs.First.{first}
use Rattle.clk_base.proofs.Firsts.{told_refused, told_passed}
use Rattle.clk_machine.specs.Plan.{delay_plan}
use Rattle.clk_machine.specs.Ranges.{delay_tests, after_delay}
use Rattle.clk_machine.proofs.delays.test_each.Goals as goal

pub returns-in-Err : goal.returns-in-Err
returns-in-Err c =
    sym (told_refused (λ told entry d. first (delay_tests c.args.limit told entry d)) after_delay delay_plan (0, 0) c.loop-i.told c.args.delays.now c.loop-i.i record { ticket = pos 0; ns = pos 0; sum = 0 } c.in-Err.refusal
    c.loop-i.invariant.left c.loop-i-test.true c.in-Err.ensures)

pub loop-i-preserved : goal.loop-i-preserved
loop-i-preserved c =
    let passed = c.in-Ok.ensures in
    let next = told_passed (λ told entry d. first (delay_tests c.args.limit told entry d)) after_delay delay_plan (0, 0) c.loop-i.told c.args.delays.now c.loop-i.i record { ticket = pos 0; ns = pos 0; sum = 0 }
    c.loop-i.invariant.left c.loop-i-test.true passed.0 in
    record { left = rw passed.1 next; small = passed.2 }
