use Rattle.std.proofs.Common.{sym, pos}
use Rattle.clk_base.proofs.Firsts.{told_refused, told_passed}
use Rattle.clk_machine.specs.Plan.{jump_plan}
use Rattle.clk_machine.specs.Ranges.{jump_test, after_jump}
use Rattle.clk_machine.proofs.jumps.test_each.Goals as goal

pub returns-in-Err : goal.returns-in-Err
returns-in-Err c =
    sym (told_refused (jump_test c.args.row c.args.entry) after_jump jump_plan (0, 0) c.loop-i.told c.args.jumps.now c.loop-i.i record { at = pos 0; cycles = pos 0; sum = pos 0 } c.in-Err.refusal
    c.loop-i.invariant.left c.loop-i-test.true c.in-Err.ensures)

pub loop-i-preserved : goal.loop-i-preserved
loop-i-preserved c =
    let passed = c.in-Ok.ensures in
    let next = told_passed (jump_test c.args.row c.args.entry) after_jump jump_plan (0, 0) c.loop-i.told c.args.jumps.now c.loop-i.i record { at = pos 0; cycles = pos 0; sum = pos 0 }
    c.loop-i.invariant.left c.loop-i-test.true passed.0 in
    record { left = rw passed.1 next; small = passed.2 }
