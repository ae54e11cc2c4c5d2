use Rattle.std.proofs.Common.{sym, ◌∙◌, map, FitsSigned, w64, to_z-of_z, rules}
use Rattle.clk_machine.specs.Plan.{jump_plan}
use Rattle.clk_machine.proofs.Halving.{sum_is_jumped, jumped_near, no_jump_passed}
use Rattle.clk_machine.proofs.counters.jump_until.Goals as goal

pub returns-then-passed-eq0-clause-cycles : goal.returns-then-passed-eq0-clause-cycles
returns-then-passed-eq0-clause-cycles c =
    sym (no_jump_passed c.args.time c.args.jumps.now (rw c.if-passed-eq0.true at c.jumps_passed-passed.ensures))

pub returns-else-passed-eq0-clause-cycles : goal.returns-else-passed-eq0-clause-cycles
returns-else-passed-eq0-clause-cycles c =
    let fits : FitsSigned w64 c.sum.result = search rules in
    to_z-of_z fits ∙ c.sum.ensures ∙ sum_is_jumped c.args.time c.args.jumps.now c.jumps_passed-passed.result _ c.requires.sums c.jumps_passed-passed.ensures c.if-passed-eq0.false

pub returns-else-passed-eq0-clause-near : goal.returns-else-passed-eq0-clause-near
returns-else-passed-eq0-clause-near c =
    let fits : FitsSigned w64 c.sum.result = search rules in
    let is = c.sum.ensures ∙ sum_is_jumped c.args.time c.args.jumps.now c.jumps_passed-passed.result _ c.requires.sums c.jumps_passed-passed.ensures c.if-passed-eq0.false in
    rw (to_z-of_z fits, is) (jumped_near c.args.time (map jump_plan c.args.jumps.now) c.requires.jumps)
