use Rattle.std.proofs.Common.{◌≤◌, ◌*◌, ◌^◌, ◌+ℤ◌, pos, rules, sym, ap, ◌∙◌, subst, arith}
use Rattle.std.proofs.lemmas.Int.{ints}
use Rattle.clk_num.specs.Range.{IsFrom0To}
use Rattle.clk_num.specs.Wrapping.{IsValue, above, wrap}
use Rattle.clk_latch.proofs.Converting.{is_added, ns_is, sum_above}
use Rattle.clk_latch.proofs.convert.ns_since.Goals as goal

pub cyc_to_ns-requires-clause-fits : goal.cyc_to_ns-requires-clause-fits
cyc_to_ns-requires-clause-fits c =
    let few = is_added _ _ _ _ _ _ c.requires.limits c.requires.cyc c.requires.epoch c.bits.ensures.bits c.masked_delta-cycles.ensures c.sched_rate.ensures.rate in
    omega (arith, few.1)

pub overflow_cast-result : goal.overflow_cast-result
overflow_cast-result c =
    let few = is_added _ _ _ _ _ _ c.requires.limits c.requires.cyc c.requires.epoch c.bits.ensures.bits c.masked_delta-cycles.ensures c.sched_rate.ensures.rate in
    let small : c.cyc_to_ns.result ≤ 41 * 2 ^ 52 = subst (λ n. n ≤ 41 * 2 ^ 52) (sym c.cyc_to_ns.ensures) few.1 in
    omega (arith, ints, small)

pub returns-clause-value : goal.returns-clause-value
returns-clause-value c =
    let few = is_added _ _ _ _ _ _ c.requires.limits c.requires.cyc c.requires.epoch c.bits.ensures.bits c.masked_delta-cycles.ensures c.sched_rate.ensures.rate in
    let small : c.cyc_to_ns.result ≤ 41 * 2 ^ 52 = subst (λ n. n ≤ 41 * 2 ^ 52) (sym c.cyc_to_ns.ensures) few.1 in
    let fits : IsValue c.args.epoch_ns.now = search rules in
    ns_is c.args.epoch_ns.now c.cyc_to_ns.result fits small ∙ ap (λ n. wrap (c.args.epoch_ns.now +ℤ pos n)) (c.cyc_to_ns.ensures ∙ few.0)

pub returns-clause-bound : goal.returns-clause-bound
returns-clause-bound c =
    let few = is_added _ _ _ _ _ _ c.requires.limits c.requires.cyc c.requires.epoch c.bits.ensures.bits c.masked_delta-cycles.ensures c.sched_rate.ensures.rate in
    let small : c.cyc_to_ns.result ≤ 41 * 2 ^ 52 = subst (λ n. n ≤ 41 * 2 ^ 52) (sym c.cyc_to_ns.ensures) few.1 in
    let fits : IsValue c.args.epoch_ns.now = search rules in
    subst (λ x. IsFrom0To (41 * 2 ^ 52) (above x c.args.epoch_ns.now)) (sym (ns_is c.args.epoch_ns.now c.cyc_to_ns.result fits small))
    (sum_above c.args.epoch_ns.now c.cyc_to_ns.result small)
