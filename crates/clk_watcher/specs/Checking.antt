-- How the watchdog goes from check to check, by what its seats have. A check is told of as a trace shows it.
use Rattle.std.specs.Prelude.{◌≡◌, ℕ, ◌+◌, Bool, true, is_some, List, [], ◌∷◌, flat_map, All, Option, Some, None}
use Rattle.clk_base.specs.Walk.{EachFrom}
use Rattle.clk_ticket.specs.Time.{Draws}
use Rattle.clk_machine.specs.Plan.{cpu_count}
use Rattle.clk_record.specs.declared.attempt.Attempt.{Attempt}
use Rattle.clk_record.specs.Attempts.{IsRightAttempt}
use Rattle.clk_record.specs.declared.stable.StableStamp.{StableStamp}
use Rattle.clk_record.specs.declared.stable.Demotion.{Demotion}
use Rattle.clk_watch.specs.Draws.{DrawsEach}
use Rattle.clk_lawful.specs.Checks.{Visit, Check, pause_of, checks_of}
use Rattle.clk_lawful.specs.RightReadings.{check_cpu}
use Rattle.clk_lawful.specs.Watchdog.{AreChecks, AreCalledFor}
use Rattle.clk_lawful.specs.WritableWatch.{IsSized}
use Rattle.clk_lawful.specs.declared.trace.WatchTrace.{WatchTrace}
use Rattle.clk_demote.specs.Context.{Site, Known}
use Rattle.clk_demote.specs.Lifts.{lifts_of}
use Rattle.clk_demote.specs.Shows.{adjust_at, ShowsStableStamp, ShowsDemotion}

-- attempts at a source on this CPU: each shows the counters at the tickets that were drawn for it
pub record ShowsAttempts (z : Site) (cpu source : ℕ) (v : Known) (attempts : List Attempt) (w : Known) : Type 0 where
  pub right : All (IsRightAttempt z.machine cpu (adjust_at z cpu) source) attempts
  pub draws : DrawsEach (flat_map (λ a. a.ticket) attempts) v.time w.time
  pub rest : w ≡ record v { time = w.time }

-- the pause of a check
pub record ShowsPause (v : Known) (ticket count : ℕ) (w : Known) : Type 0 where
  pub draws : Draws v.time ticket count w.time
  pub rest : w ≡ record v { time = w.time }

-- a stable stamp, or none; a demotion in the check of this number, or none
abbrev pub StampsAt : Site → ℕ → Known → Option StableStamp → Known → Type 0
StampsAt z cpu v None w = v ≡ w
StampsAt z cpu v (Some s) w = ShowsStableStamp z cpu v s w

abbrev pub DemotesAt : Site → ℕ → ℕ → Known → Option Demotion → Known → Type 0
DemotesAt z cpu check v None w = v ≡ w
DemotesAt z cpu check v (Some d) w = ShowsDemotion z cpu check v d w

-- a visit to a source
abbrev pub WatchesVisit : Site → ℕ → ℕ → Known → Visit → Known → Type 0
WatchesVisit z cpu check v visit w =
    (t : Known) × (u : Known)
    × ShowsAttempts z cpu visit.made.source v visit.attempts t × StampsAt z cpu t visit.stamp u × DemotesAt z cpu check u visit.demotion w

abbrev pub WatchesVisits : Site → ℕ → ℕ → Known → List Visit → Known → Type 0
WatchesVisits z cpu check v [] w = v ≡ w
WatchesVisits z cpu check v (visit ∷ visits) w = (u : Known) × WatchesVisit z cpu check v visit u × WatchesVisits z cpu check u visits w

-- the check of this number, on its CPU: a pause, and then its visits
abbrev pub WatchesCheck : Site → ℕ → Known → Check → Known → Type 0
WatchesCheck z number v c w =
    (u : Known) × ShowsPause v c.ticket (pause_of z.machine) u × WatchesVisits z (check_cpu z.machine number) number u c.visits w

-- these checks, one after another, took the seats from v to w
abbrev pub Watches : Site → ℕ → Known → List Check → Known → Type 0
Watches z number v [] w = v ≡ w
Watches z number v (c ∷ checks) w = (u : Known) × WatchesCheck z number v c u × Watches z (number + 1) u checks w

-- the lifts that are kept are those of the demotion, by the seat that had this view
abbrev pub KeepsLifts : Site → Known → WatchTrace → Option Demotion → Type 0
KeepsLifts z began w None = (w.lifts.items ≡ []) × (w.demoted_in ≡ 0)
KeepsLifts z began w (Some d) = w.lifts.items ≡ lifts_of began.view.number began.view.start w.demoted_in d.opening (cpu_count z.machine)

-- a watchdog of this machine, whose clock was stable as it began if `stable` says so, and whose TSC source was lost at
-- boot if `lost` does, made all its checks from `began` to `ended`, and kept this
pub record HasWatched (z : Site) (stable lost : Bool) (began : Known) (w : WatchTrace) (ended : Known) : Type 0 where
  pub checks : AreChecks z.machine lost w
  pub called : AreCalledFor stable w
  pub runs : Watches z 0 began (checks_of w) ended
  pub lifts : KeepsLifts z began w w.demotion
  pub demoted_in : EachFrom (λ n c. All (λ v. is_some v.demotion ≡ true → w.demoted_in ≡ n) c.visits) 0 (checks_of w)
  -- the lists may be written as they are
  pub sized : IsSized w
