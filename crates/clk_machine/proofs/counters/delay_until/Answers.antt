use Rattle.std.proofs.Common.{sym, ◌∙◌, map, arith}
use Rattle.clk_machine.specs.Plan.{delay_plan}
use Rattle.clk_machine.proofs.Halving.{sum_is_delayed, delayed_few, none_passed}
use Rattle.clk_machine.proofs.counters.delay_until.Goals as goal

pub returns-then-passed-eq0-clause-ns : goal.returns-then-passed-eq0-clause-ns
returns-then-passed-eq0-clause-ns c =
    sym (none_passed c.args.k c.args.delays.now (rw c.if-passed-eq0.true at c.delays_passed-passed.ensures))

pub returns-else-passed-eq0-clause-ns : goal.returns-else-passed-eq0-clause-ns
returns-else-passed-eq0-clause-ns c =
    c.sum.ensures ∙ sum_is_delayed c.args.k c.args.delays.now c.delays_passed-passed.result _ c.requires.sums c.delays_passed-passed.ensures c.if-passed-eq0.false

pub returns-else-passed-eq0-clause-few : goal.returns-else-passed-eq0-clause-few
returns-else-passed-eq0-clause-few c =
    let is = c.sum.ensures ∙ sum_is_delayed c.args.k c.args.delays.now c.delays_passed-passed.result _ c.requires.sums c.delays_passed-passed.ensures c.if-passed-eq0.false in
    let few = delayed_few c.args.k (map delay_plan c.args.delays.now) in
    let most = c.requires.few in
    omega (arith, is, few, most)
