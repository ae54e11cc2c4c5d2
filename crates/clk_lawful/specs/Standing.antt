-- What stood when the clock of a run became per-CPU: at its start, by a demotion at boot, or by one of the watchdog.
use Rattle.std.specs.Prelude.{ℕ, ◌==◌, ℤ, Bool, true, false, not, ◌&&◌, is_some, List, [], ◌∷◌, Option, Some, None, if◌then◌else◌}
use Rattle.clk_record.specs.declared.mode.Mode.{Mode}
use Rattle.clk_record.specs.declared.mode.Mode.TheVariants as mode
use Rattle.clk_record.specs.declared.step.Step.{Step}
use Rattle.clk_record.specs.declared.stable.Demotion.{Demotion}
use Rattle.clk_lawful.specs.declared.trace.WatchTrace.{WatchTrace}
use Rattle.clk_lawful.specs.declared.trace.Trace.{Trace}

abbrev pub is_stable : Mode → Bool
is_stable mode.Stable = true
is_stable mode.PerCpu = false

-- the demotion of the watchdog, and its lifts
abbrev pub demotion_by : Option WatchTrace → Option Demotion
demotion_by None = None
demotion_by (Some w) = w.demotion

abbrev pub lifts_by : Option WatchTrace → List Step
lifts_by None = []
lifts_by (Some w) = w.lifts.items

-- whether the clock is stable as the scripts begin
abbrev pub begins_stable : Trace → Bool
begins_stable t = is_stable t.starts && not (is_some t.boot_demotion)

-- the demotion of a run: at boot, or else by the watchdog
abbrev pub either_demotion : Option Demotion → Option Demotion → Option Demotion
either_demotion None d = d
either_demotion (Some d) _ = Some d

abbrev pub demotion_of : Trace → Option Demotion
demotion_of t = either_demotion t.boot_demotion (demotion_by t.watch)

-- the offset that takes monotonic time to the scheduler clock: a demotion's, or else the boot's
abbrev pub offset_at : ℤ → Option Demotion → ℤ
offset_at offset None = offset
offset_at offset (Some d) = d.gtod_offset

abbrev pub standing_offset : Trace → ℤ
standing_offset t = offset_at t.gtod_offset (demotion_of t)

-- where a clock word stood: the first lift of it left it so, or it was as it opened
abbrev pub lifted_from : ℤ → List Step → ℕ → ℤ
lifted_from opening [] w = opening
lifted_from opening (s ∷ lifts) w = if s.word == w then s.new else lifted_from opening lifts w
