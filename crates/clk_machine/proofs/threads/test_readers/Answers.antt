use Rattle.std.proofs.Common.{◌+◌, sym}
use Rattle.clk_base.specs.First.{first}
use Rattle.clk_base.proofs.Firsts.{told_refused, told_passed}
use Rattle.clk_machine.specs.Plan.{reader_plan}
use Rattle.clk_machine.specs.Ranges.{reader_tests, script_length}
use Rattle.clk_machine.specs.Short.{IsShortReader}
use Rattle.clk_machine.proofs.Passing.{plan_at}
use Rattle.clk_machine.proofs.threads.test_readers.Goals as goal

pub test_reader-requires-clause-short : goal.test_reader-requires-clause-short
test_reader-requires-clause-short c =
    plan_at reader_plan IsShortReader c.args.list.now c.loop-i.i c.index-list-i.result c.loop-i-test.true c.index-list-i.is c.requires.each

pub returns-in-Err : goal.returns-in-Err
returns-in-Err c =
    sym (told_refused (λ before entry r. first (reader_tests c.args.cpus entry before r)) (λ before r. before + script_length r.script) reader_plan
    c.args.words c.loop-i.before c.args.list.now c.loop-i.i c.index-list-i.result c.in-Err.refusal
    c.loop-i.invariant.left c.loop-i-test.true (rw (← c.index-list-i.is) c.in-Err.ensures))

pub loop-i-preserved : goal.loop-i-preserved
loop-i-preserved c =
    let passed = c.in-Ok.ensures in
    let next = told_passed (λ before entry r. first (reader_tests c.args.cpus entry before r)) (λ before r. before + script_length r.script) reader_plan
    c.args.words c.loop-i.before c.args.list.now c.loop-i.i c.index-list-i.result
    c.loop-i.invariant.left c.loop-i-test.true (rw (← c.index-list-i.is) passed.0) in
    record { left = rw passed.1 (rw (← c.index-list-i.is) at next); few = passed.2 }
