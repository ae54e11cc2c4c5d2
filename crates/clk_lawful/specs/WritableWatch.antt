-- Which lists of a `WatchTrace` the writer may go through.
use Rattle.std.specs.Prelude.{◌≡◌, ℕ, ◌+◌, ◌<◌, ◌≤◌, List, drop, length, All, Option, Some, None}
use Rattle.clk_lawful.specs.Checks.{Visit, visits_from}
use Rattle.clk_lawful.specs.RightReadings.{NeverFall}
use Rattle.clk_lawful.specs.declared.trace.WatchTrace.{WatchTrace}

-- there are as many pauses and places as ends; the ends do not fall, and are at most the number of records; and the
-- attempts that each record names are there
pub record IsSized (w : WatchTrace) : Type 0 where
  pub pauses : length w.pauses.items ≡ length w.last_record.items
  pub currents : length w.currents.items ≡ length w.last_record.items
  pub later : NeverFall 0 w.last_record.items
  pub there : All (λ n. n ≤ length w.watch.records.items) w.last_record.items
  pub named : All (λ r. r.first + r.count ≤ length w.watch.attempts.items) w.watch.records.items

-- checks take CPUs in turn, so that there is one
abbrev pub MayWriteWatch : ℕ → Option WatchTrace → Type 0
MayWriteWatch cpus None = Unit {0}
MayWriteWatch cpus (Some w) = (0 < cpus) × IsSized w

-- the visits from the record at this place on, after so many stable stamps
abbrev pub visits_after : WatchTrace → ℕ → ℕ → List Visit
visits_after w place used = visits_from w.watch.attempts.items w.demotion (drop used w.stamps.items) (drop place w.watch.records.items)
