use Rattle.std.proofs.Common.{◌≡◌, rules, sym, subst, ◌≤◌, ◌*◌, ◌^◌}
use Rattle.clk_machine.specs.Laws.{IsAdjusted}
use Rattle.clk_machine.specs.Time.{counter_at}
use Rattle.clk_machine.proofs.Readings.{counters_are_small}
use Rattle.clk_latch.proofs.convert.cycles_at.Goals as goal

pub returns-clause-small : goal.returns-clause-small
returns-clause-small c =
    let a : IsAdjusted c.args.counter.machine.now c.args.counter.cpu c.args.counter.adjust = record { limits = c.cpus-cpus.ensures.limits; there = c.requires.cpu; near = c.requires.adjust } in
    let value : c.counter.result ≡ counter_at c.args.counter.machine.now c.args.counter.cpu c.args.counter.adjust c.args.ticket = search rules in
    subst (λ n. n ≤ 83 * 2 ^ 41) (sym value) (counters_are_small _ _ _ _ a c.requires.ticket)
