-- What a `Watch` keeps true of its fields. No public contract cites it.
use Rattle.std.specs.Prelude.{◌≡◌, ◌+◌, ◌^◌, ◌≤◌, length}
use Rattle.std.specs.List.{All}
use Rattle.clk_machine.specs.Plan.{count_of}
use Rattle.clk_machine.specs.Limits.{IsWithinLimits}
use Rattle.clk_record.specs.Fold.{at_first, watch_after, AreVisits}
use Rattle.clk_watch.specs.declared.watch.Watch.TheInside.{Inside}
use Rattle.clk_watch.specs.Small.{IsSmallWatched}

pub record IsKept (w : Inside) : Type 0 where
  pub limits : IsWithinLimits w.machine.value
  pub visits : AreVisits w.machine.value w.attempts.items (at_first w.machine.value w.tsc_unstable.value) w.records.items
  pub sources : w.sources.items ≡ watch_after w.attempts.items (at_first w.machine.value w.tsc_unstable.value) w.records.items
  pub small : All IsSmallWatched w.sources.items
  pub reference : w.reference ≡ count_of w.machine.value.reference.rating
  pub room : length w.attempts.items + w.attempts.room ≤ 2 ^ 20
