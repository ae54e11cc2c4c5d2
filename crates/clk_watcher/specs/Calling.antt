-- What a check asks of the watchdog's context, and what its parts make of it. No public contract cites these.
use Rattle.std.specs.Prelude.{◌≡◌, ℕ, ◌+◌, ◌*◌, ◌^◌, ◌≤◌, Bool, true, not, ◌&&◌, ◌||◌, is_some, List, [], ◌∷◌, ◌++◌, map, length, All, Option, Some, if◌then◌else◌}
use Rattle.std.specs.List.{sum_by}
use Rattle.clk_num.specs.Range.{IsNear}
use Rattle.clk_ticket.specs.Time.{Time, Draws}
use Rattle.clk_machine.specs.Plan.{Plan, SourcePlan, cpu_count}
use Rattle.clk_machine.specs.Time.{source_plan_at}
use Rattle.clk_machine.specs.Limits.{IsWithinLimits}
use Rattle.clk_record.specs.declared.visit.SourceRecord.{SourceRecord}
use Rattle.clk_record.specs.Attempts.{retries_of}
use Rattle.clk_record.specs.Fold.{ends_check, at_first, ratings_of, IsCurrent, AreVisits}
use Rattle.clk_record.specs.Watching.{kept_of}
use Rattle.clk_record.specs.declared.stable.StableStamp.{StableStamp}
use Rattle.clk_record.specs.declared.stable.Demotion.{Demotion}
use Rattle.clk_words.specs.Knowing.{MayDemote}
use Rattle.clk_lawful.specs.Checks.{Visit, listed, pause_of}
use Rattle.clk_lawful.specs.Watchdog.{IsPass}
use Rattle.clk_lawful.specs.declared.trace.WatchTrace.{WatchTrace}
use Rattle.clk_latch.specs.Epoch.{Place}
use Rattle.clk_demote.specs.declared.context.WatchCtx.{WatchCtx}
use Rattle.clk_demote.specs.Context.{Known, site_of, known_of, IsSeated, IsOfMachine, IsUsable, Keeps}
use Rattle.clk_demote.specs.Lifts.{lifts_of}
use Rattle.clk_demote.specs.Shows.{ShowsStableStamp, ShowsDemotion}
use Rattle.clk_worker.specs.declared.shared.Shared.{Shared}
use Rattle.clk_watcher.specs.Checking.{StampsAt, DemotesAt, WatchesVisits}
use Rattle.clk_watcher.specs.VisitsKept.{KeepsVisits, KeepsDemotion, KeepsRest, lifts_in}
use Rattle.clk_watcher.specs.declared.parts.WatchParts.{WatchParts}

-- ---- a context

-- a context over latches as a seat at one names them
abbrev pub ContextOver : {E : Type 0} → (Place → E) → Type 0
ContextOver {E} latch = WatchCtx E Place

abbrev pub Context : Type 0
Context = ContextOver (λ s. s.latch)

abbrev pub known : Context → Known
known ctx = known_of (λ s. s.epoch) ctx

-- the context has these parts
pub record HasPartsOf (ctx : Context) (p : WatchParts) : Type 0 where
  pub seat : p.seat ≡ ctx.seat
  pub latch_seats : p.latch_seats ≡ ctx.latch_seats
  pub time : p.time ≡ ctx.time
  pub sched_offset : p.sched_offset ≡ ctx.sched_offset
  pub gtod_offset : p.gtod_offset ≡ ctx.gtod_offset
  pub last : p.last ≡ ctx.last

-- the context of these parts over the shared things
pub record IsContext (s : Shared) (p : WatchParts) (ctx : Context) : Type 0 where
  pub parts : HasPartsOf ctx p
  pub words : ctx.words.now ≡ s.words
  pub epochs : ctx.epochs.now ≡ s.epochs
  pub adjusts : ctx.adjusts.now ≡ s.adjusts
  pub tickets : ctx.tickets.now ≡ s.tickets
  pub machine : ctx.machine.now ≡ s.machine

-- its seats belong to the objects of one machine, which is the one that is watched
pub record Stands (ctx : Context) (w : WatchTrace) : Type 0 where
  pub limits : IsWithinLimits ctx.machine.now
  pub seated : IsSeated (λ l s. s.latch ≡ l) ctx
  pub of_machine : IsOfMachine ctx
  pub adjusts : All (IsNear 47) ctx.adjusts.now.items
  pub watched : w.watch.machine ≡ ctx.machine.now
  pub few : length w.watch.records.items + w.watch.records.room ≤ 2 ^ 16

-- the clock is stable, and may be stamped and demoted
pub record IsStable (ctx : Context) (w : WatchTrace) : Type 0 where
  pub usable : IsUsable (λ l s. s.latch ≡ l) (λ s. s.epoch) ctx
  pub may : MayDemote ctx.seat.view
  pub room : cpu_count ctx.machine.now ≤ w.lifts.room
  pub none_yet : listed w.demotion ≡ []

-- ---- tickets and room

-- a TSC source may be followed by one stamp or by the demotion
abbrev pub stamps_at : SourcePlan → ℕ
stamps_at s = if s.tsc then 1 else 0

-- at most so many attempts of four tickets, and two tickets for a stamp
abbrev pub visit_tickets : Plan → SourcePlan → ℕ
visit_tickets m s = (retries_of m + 1) * 4 + 2 * stamps_at s

-- there are the tickets and the room for a visit to each of these sources
pub record HasRoomFor (m : Plan) (sources : List SourcePlan) (t : Time) (w : WatchTrace) : Type 0 where
  pub tickets : sum_by (visit_tickets m) sources ≤ t.left
  pub attempts : length sources * (retries_of m + 1) ≤ w.watch.attempts.room
  pub records : length sources ≤ w.watch.records.room
  pub stamps : sum_by stamps_at sources ≤ w.stamps.room

-- no more than those were used
pub record UsesFor (m : Plan) (sources : List SourcePlan) (t : Time) (v : WatchTrace) (u : Time) (w : WatchTrace) : Type 0 where
  pub tickets : t.left ≤ u.left + sum_by (visit_tickets m) sources
  pub attempts : v.watch.attempts.room ≤ w.watch.attempts.room + length sources * (retries_of m + 1)
  pub records : v.watch.records.room ≤ w.watch.records.room + length sources
  pub stamps : v.stamps.room ≤ w.stamps.room + sum_by stamps_at sources

-- ---- after a record

-- a stamp or the demotion, or neither, by this record, where the clock was stable if `stable` says so, and still is if
-- `after` does
pub record Follows (cpu check : ℕ) (r : SourceRecord) (stable : Bool) (v : Context) (a : WatchTrace) (after : Bool) (w : Context) (b : WatchTrace) : Type 0 where
  pub stamp : Option StableStamp
  pub demotion : Option Demotion
  pub middle : Known
  pub stamps : StampsAt (site_of v) cpu (known v) stamp middle
  pub demotes : DemotesAt (site_of v) cpu check middle demotion (known w)
  pub stamp_called : is_some stamp ≡ (stable && r.tsc_current)
  pub demotion_called : is_some demotion ≡ (stable && r.tsc_demoted)
  pub after_is : after ≡ (stable && not r.tsc_demoted)
  pub stamps_are : b.stamps.items ≡ a.stamps.items ++ listed stamp
  pub demotion_is : listed b.demotion ≡ listed a.demotion ++ listed demotion
  pub lifts_are : b.lifts.items ≡ a.lifts.items ++ lifts_in v.seat.view.number v.seat.view.start check (cpu_count v.machine.now) demotion
  pub check_is : b.demoted_in ≡ (if is_some demotion then check else a.demoted_in)
  pub tickets : v.time.left ≤ w.time.left + (if r.tsc_current || r.tsc_demoted then 2 else 0)
  pub room : a.stamps.room ≤ b.stamps.room + (if r.tsc_current || r.tsc_demoted then 1 else 0)
  pub watch : b.watch ≡ a.watch
  pub rest : KeepsRest a b
  pub keeps : Keeps v w
  pub seated : IsSeated (λ l s. s.latch ≡ l) w

-- a stamp was made and kept
pub record Stamps (cpu : ℕ) (v : Context) (a : WatchTrace) (w : Context) (b : WatchTrace) : Type 0 where
  pub stamp : StableStamp
  pub shows : ShowsStableStamp (site_of v) cpu (known v) stamp (known w)
  pub stamps : b.stamps.items ≡ a.stamps.items ++ stamp ∷ []
  pub room : b.stamps.room + 1 ≡ a.stamps.room
  pub rest : b ≡ record a { stamps = b.stamps }
  pub spends : w.time.left + 2 ≡ v.time.left
  pub keeps : Keeps v w
  pub stable : IsStable w b

-- the demotion was made and kept
pub record Demotes (cpu check : ℕ) (v : Context) (a : WatchTrace) (w : Context) (b : WatchTrace) : Type 0 where
  pub demotion : Demotion
  pub shows : ShowsDemotion (site_of v) cpu check (known v) demotion (known w)
  pub lifts : b.lifts.items ≡ a.lifts.items ++ lifts_of v.seat.view.number v.seat.view.start check demotion.opening (cpu_count v.machine.now)
  pub rest : b ≡ record a { lifts = b.lifts; demotion = Some demotion; demoted_in = check }
  pub spends : w.time.left + 2 ≡ v.time.left
  pub keeps : Keeps v w
  pub seated : IsSeated (λ l s. s.latch ≡ l) w

-- ---- the pause and the end of a check

-- a pause was drawn and kept
pub record Pauses (v : Context) (a : WatchTrace) (w : Context) (b : WatchTrace) : Type 0 where
  pub ticket : ℕ
  pub draws : Draws v.time ticket (pause_of v.machine.now) w.time
  pub rest : w ≡ record v { time = w.time }
  pub pauses : b.pauses.items ≡ a.pauses.items ++ ticket ∷ []
  pub room : b.pauses.room + 1 ≡ a.pauses.room
  pub others : b ≡ record a { pauses = b.pauses }

-- how many records there are, and which source is current, were kept
pub record EndsCheck (a b : WatchTrace) : Type 0 where
  pub current : ℕ
  pub ends : b.last_record.items ≡ a.last_record.items ++ length a.watch.records.items ∷ []
  pub ends_room : b.last_record.room + 1 ≡ a.last_record.room
  pub currents : b.currents.items ≡ a.currents.items ++ current ∷ []
  pub currents_room : b.currents.room + 1 ≡ a.currents.room
  pub is : IsCurrent (ratings_of a.watch.machine (kept_of a.watch)) current
  pub visits : AreVisits a.watch.machine a.watch.attempts.items (at_first a.watch.machine a.watch.tsc_unstable) a.watch.records.items
  pub others : b ≡ record a { last_record = b.last_record; currents = b.currents }

-- ---- visits

-- these visits, one after another, took the watchdog on
pub record MakesVisits (cpu check : ℕ) (stable : Bool) (v : Context) (a : WatchTrace) (visits : List Visit) (after : Bool) (w : Context) (b : WatchTrace) : Type 0 where
  pub watches : WatchesVisits (site_of v) cpu check (known v) visits (known w)
  pub kept : KeepsVisits stable a visits after b
  pub demotes : KeepsDemotion v.seat.view.number v.seat.view.start check (cpu_count v.machine.now) a visits b
  pub rest : KeepsRest a b
  pub keeps : Keeps v w
  pub stands : Stands w b
  pub if_stable : after ≡ true → IsStable w b

-- a visit to this source
pub record MakesVisit (cpu check source : ℕ) (stable : Bool) (v : Context) (a : WatchTrace) (ends after : Bool) (w : Context) (b : WatchTrace) : Type 0 where
  pub visit : Visit
  pub makes : MakesVisits cpu check stable v a (visit ∷ []) after w b
  pub source_is : visit.made.source ≡ source
  pub ends_is : ends ≡ ends_check visit.made.outcome
  pub uses : UsesFor v.machine.now (source_plan_at v.machine.now source ∷ []) v.time a w.time b

-- visits to each source in order, unless one ends the check
pub record MakesPass (cpu check : ℕ) (stable : Bool) (v : Context) (a : WatchTrace) (after : Bool) (w : Context) (b : WatchTrace) : Type 0 where
  pub visits : List Visit
  pub makes : MakesVisits cpu check stable v a visits after w b
  pub passes : IsPass 0 (length v.machine.now.source) (map (λ x. x.made) visits)
  pub uses : UsesFor v.machine.now v.machine.now.source v.time a w.time b
