use Rattle.std.proofs.Common.{◌||◌, false, sym}
use Rattle.clk_base.specs.First.{first}
use Rattle.clk_base.proofs.Firsts.{told_refused, told_passed}
use Rattle.clk_machine.specs.Plan.{source_plan}
use Rattle.clk_machine.specs.Ranges.{source_tests}
use Rattle.clk_machine.specs.Short.{IsShort}
use Rattle.clk_machine.proofs.Passing.{plan_at}
use Rattle.clk_machine.proofs.sources.test_each.Goals as goal

pub test_source-requires : goal.test_source-requires
test_source-requires c =
    plan_at source_plan (λ s. IsShort s.jumps) c.args.sources.now c.loop-i.i c.index-sources-i.result c.loop-i-test.true c.index-sources-i.is c.requires.each

pub returns-in-Err : goal.returns-in-Err
returns-in-Err c =
    sym (told_refused (λ own_before entry s. first (source_tests entry own_before s)) (λ own_before s. own_before || s.tsc) source_plan
    false c.loop-i.own_before c.args.sources.now c.loop-i.i c.index-sources-i.result c.in-Err.refusal
    c.loop-i.invariant c.loop-i-test.true (rw (← c.index-sources-i.is) c.in-Err.ensures))

pub loop-i-preserved : goal.loop-i-preserved
loop-i-preserved c =
    let passed = c.in-Ok.ensures in
    let next = told_passed (λ own_before entry s. first (source_tests entry own_before s)) (λ own_before s. own_before || s.tsc) source_plan
    false c.loop-i.own_before c.args.sources.now c.loop-i.i c.index-sources-i.result
    c.loop-i.invariant c.loop-i-test.true (rw (← c.index-sources-i.is) passed.0) in
    rw passed.1 (rw (← c.index-sources-i.is) at next)
