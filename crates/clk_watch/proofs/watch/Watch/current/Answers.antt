use Rattle.std.proofs.Common.{length, ap, arith}
use Rattle.clk_watch.proofs.Calling.{sources_all}
use Rattle.clk_watch.proofs.watch.Watch.current.Goals as goal

pub current_place-requires : goal.current_place-requires
current_place-requires c =
    let all = sources_all c.self.inside.machine.value c.self.inside.tsc_unstable.value c.self.inside.attempts.items c.self.inside.sources.items c.self.inside.records.items c.self.invariant.sources in
    let few = c.self.invariant.limits.ranges.sources in
    omega (arith, all, few, ap length c.items.ensures)
