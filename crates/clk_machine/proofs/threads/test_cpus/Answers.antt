use Rattle.std.proofs.Common.{◌+◌, arith}
use Rattle.clk_base.specs.First.{first}
use Rattle.clk_base.proofs.Firsts.{told_refused, told_passed}
use Rattle.clk_machine.specs.Plan.{cpu_plan}
use Rattle.clk_machine.specs.Ranges.{cpu_tests, script_length}
use Rattle.clk_machine.specs.Short.{IsShortCpu}
use Rattle.clk_machine.proofs.Passing.{plan_at, words_left}
use Rattle.clk_machine.proofs.threads.test_cpus.Goals as goal

pub test_cpu-requires-clause-short : goal.test_cpu-requires-clause-short
test_cpu-requires-clause-short c =
    plan_at cpu_plan IsShortCpu c.args.list.now c.loop-i.i c.index-list-i.result c.loop-i-test.true c.index-list-i.is c.requires.each

pub returns-in-Err : goal.returns-in-Err
returns-in-Err c =
    told_refused (λ words entry p. first (cpu_tests c.args.cpus entry words p)) (λ words p. words + script_length p.script) cpu_plan
    0 c.loop-i.before c.args.list.now c.loop-i.i c.index-list-i.result c.in-Err.refusal
    c.loop-i.invariant.left c.loop-i-test.true (rw (← c.index-list-i.is) c.in-Err.ensures)

pub loop-i-preserved : goal.loop-i-preserved
loop-i-preserved c =
    let passed = c.in-Ok.ensures in
    let next = told_passed (λ words entry p. first (cpu_tests c.args.cpus entry words p)) (λ words p. words + script_length p.script) cpu_plan
    0 c.loop-i.before c.args.list.now c.loop-i.i c.index-list-i.result
    c.loop-i.invariant.left c.loop-i-test.true (rw (← c.index-list-i.is) passed.0) in
    record {
      left = rw passed.1 (rw (← c.index-list-i.is) at next);
      words = (let rest = words_left c.args.list.now c.loop-i.i c.index-list-i.result c.loop-i-test.true c.index-list-i.is in rw passed.1 (omega (arith, rest, c.loop-i.invariant.words)));
      few = passed.2;
    }
