-- In which mode of the clock an event may stand.
use Rattle.std.specs.Prelude.{◌≡◌, ℤ, ◌+ℤ◌, Bool, true, false, not, ◌||◌, is_some, IsTrue, IsFalse}
use Rattle.clk_num.specs.Wrapping.{wrap}
use Rattle.clk_lawful.specs.Standing.{begins_stable, demotion_by}
use Rattle.clk_lawful.specs.declared.event.EventKind.{EventKind}
use Rattle.clk_lawful.specs.declared.event.EventKind.TheVariants.{Stable, Local, Couple, Stamp, Nothing, Update, Pause}
use Rattle.clk_lawful.specs.declared.trace.Trace.{Trace}

-- ---- what an event shows of the mode

-- an event that shows that the clock is stable
abbrev pub shows_stable : EventKind → Bool
shows_stable (Stable raw value) = true
shows_stable (Local raw tick_raw tick_gtod offset old new) = false
shows_stable (Couple asked own other word old new) = false
shows_stable (Stamp gtod_ticket gtod raw) = false
shows_stable Nothing = true
shows_stable (Update p) = false
shows_stable (Pause ticket count) = false

-- an event that shows that the clock is per-CPU
abbrev pub shows_percpu : EventKind → Bool
shows_percpu (Stable raw value) = false
shows_percpu (Local raw tick_raw tick_gtod offset old new) = true
shows_percpu (Couple asked own other word old new) = true
shows_percpu (Stamp gtod_ticket gtod raw) = true
shows_percpu Nothing = false
shows_percpu (Update p) = false
shows_percpu (Pause ticket count) = false

-- a per-CPU reading of the own clock
abbrev pub reads_percpu : EventKind → Bool
reads_percpu (Stable raw value) = false
reads_percpu (Local raw tick_raw tick_gtod offset old new) = true
reads_percpu (Couple asked own other word old new) = false
reads_percpu (Stamp gtod_ticket gtod raw) = false
reads_percpu Nothing = false
reads_percpu (Update p) = false
reads_percpu (Pause ticket count) = false

-- ---- where it may stand

-- which events a run may show: those of the stable clock, and those of per-CPU clocks
pub record Modes : Type 0 where
  pub stable : Bool
  pub percpu : Bool

-- a clock that is stable as the scripts begin is per-CPU after a demotion alone, and any other clock is per-CPU
-- throughout
abbrev pub modes_of : Trace → Modes
modes_of t = record { stable = begins_stable t; percpu = not (begins_stable t) || is_some (demotion_by t.watch) }

-- an event may stand, where `turned` tells whether its thread made a per-CPU reading before; a stable reading is the
-- raw clock with the offset
abbrev pub IsOfMode : Modes → ℤ → Bool → EventKind → Type 0
IsOfMode m offset turned (Stable raw value) = IsTrue m.stable × IsFalse turned × (value ≡ wrap (raw.ns +ℤ offset))
IsOfMode m offset turned (Local raw tick_raw tick_gtod shown old new) = IsTrue m.percpu
IsOfMode m offset turned (Couple cpu own other word old new) = IsTrue m.percpu
IsOfMode m offset turned (Stamp gtod_ticket gtod raw) = IsTrue m.percpu
IsOfMode m offset turned Nothing = IsTrue m.stable × IsFalse turned
IsOfMode m offset turned (Update p) = Unit {0}
IsOfMode m offset turned (Pause ticket count) = Unit {0}

abbrev pub turned_after : Bool → EventKind → Bool
turned_after turned (Stable raw value) = turned
turned_after turned (Local raw tick_raw tick_gtod offset old new) = true
turned_after turned (Couple cpu own other word old new) = turned
turned_after turned (Stamp gtod_ticket gtod raw) = turned
turned_after turned Nothing = turned
turned_after turned (Update p) = turned
turned_after turned (Pause ticket count) = turned
