-- What a whole run is made of: how each thread began and ended, and what the tables answered at the end. A runner's
-- own; the lawful trace is what is to be believed.
use Rattle.std.specs.Prelude.{◌≡◌, ℕ, ◌+◌, ◌<◌, ◌≤◌, Bool, true, false, nat_lt, List, [], ◌∷◌, ◌++◌, map, flat_map, length, slice_index_or, is_some, ◌⊎◌, Option, Some, None, option_map, if◌then◌else◌}
use Rattle.std.specs.List.{All}
use mathlib.Core.List.{IsPrefix}
use Rattle.clk_base.specs.Blocks.{Covers}
use Rattle.clk_base.specs.Walk.{EachFrom}
use Rattle.clk_num.specs.Listed.{Listed}
use Rattle.clk_ticket.specs.Time.{Tickets, Time}
use Rattle.clk_machine.specs.Plan.{Plan, cpu_count, thread_at, threads_of}
use Rattle.clk_machine.specs.Limits.{IsWithinLimits}
use Rattle.clk_machine.specs.Records.{record_zero}
use Rattle.clk_record.specs.declared.mode.Mode.TheVariants.{Stable, PerCpu}
use Rattle.clk_record.specs.declared.step.Step.{Step}
use Rattle.clk_record.specs.declared.up.CpuUp.{CpuUp}
use Rattle.clk_record.specs.declared.up.BroughtUp.{BroughtUp}
use Rattle.clk_record.specs.BroughtUp.{IsBroughtUp}
use Rattle.clk_record.specs.declared.stable.StableStamp.{StableStamp}
use Rattle.clk_words.specs.declared.kind.SeatKind.{SeatKind}
use Rattle.clk_words.specs.declared.opening.Start.{Start}
use Rattle.clk_words.specs.declared.view.View.{View}
use Rattle.clk_words.specs.Calls.{IsComplete, own_steps}
use Rattle.clk_words.specs.Fronts.{Begins}
use Rattle.clk_words.specs.Histories.{opens_at, steps_on}
use Rattle.clk_words.specs.Parts.{gtod_of, raw_of, part_of, PartBegins}
use Rattle.clk_words.specs.Rights.{owned_by}
use Rattle.clk_words.specs.Views.{is_percpu, pairs_known}
use Rattle.clk_lawful.specs.Checks.{listed, demotion_blocks}
use Rattle.clk_lawful.specs.Demoted.{boot_stamp}
use Rattle.clk_lawful.specs.Standing.{begins_stable}
use Rattle.clk_lawful.specs.Filling.{FillsHistories}
use Rattle.clk_lawful.specs.RightReadings.{adjust_in}
use Rattle.clk_lawful.specs.ScriptEvents.{AreEventsOf}
use Rattle.clk_lawful.specs.SortedHistory.{Change, change_of as change_in}
use Rattle.clk_lawful.specs.TicketOrder.{boot_blocks, up_blocks}
use Rattle.clk_lawful.specs.declared.event.Event.{Event}
use Rattle.clk_lawful.specs.declared.trace.WatchTrace.{WatchTrace}
use Rattle.clk_lawful.specs.declared.trace.Trace.{Trace}
use Rattle.clk_local.specs.Context.{Site, Known}
use Rattle.clk_demote.specs.Context.{Site as WatchSite, Known as WatchKnown}
use Rattle.clk_demote.specs.Stamping.{epoch_at}
use Rattle.clk_worker.specs.Running.{Runs}
use Rattle.clk_watcher.specs.Checking.{HasWatched}
use Rattle.clk_threads.specs.Booting.{gtod_offset_of, sched_offset_of, AreStamps, FitsBoot, HasDrawnBefore}
use Rattle.clk_threads.specs.Preparing.{start_of, kind_on, adjusts_of}

-- ---- a thread

-- how it began and ended, and what it kept
pub record Ran : Type 0 where
  pub began : Known
  pub ended : Known
  pub events : Listed Event

abbrev pub events_of : List Ran → List (Listed Event)
events_of rans = map (λ r. r.events) rans

-- the own seat of a thread as it was given: it has made and seen nothing, and in a per-CPU start alone it knows each
-- pair of the opening, and the offset
pub record IsGiven (start : Start) (thread : ℕ) (kind : SeatKind) (v : View) : Type 0 where
  pub start_is : v.start ≡ start
  pub number_is : v.number ≡ thread + 1
  pub kind_is : v.kind ≡ kind
  pub mine_is : v.mine ≡ []
  pub seen_is : v.seen ≡ []
  pub parts_is : v.pairs.parts ≡ (if is_percpu start.opening.mode then pairs_known start.cpus start.opening else [])
  pub found_is : v.modes.found ≡ is_percpu start.opening.mode
  pub offset_is : v.modes.offset ≡ (if is_percpu start.opening.mode then Some start.opening.offset else None)
  pub watch_is : v.modes.watch ≡ false
  pub owns_is : v.pairs.owns ≡ owned_by kind

-- where a thread on this CPU stands after this boot and this bring-up
abbrev pub site_on : Plan → List StableStamp → List CpuUp → ℕ → Site
site_on m stamps ups cpu = record { machine = m; cpu = cpu; adjust = adjust_in cpu ups; sched_offset = sched_offset_of m stamps; call = 0 }

-- a thread, from its fresh seats on, made its whole script; the ticket word had reached `low` by then
pub record RanWhole (m : Plan) (stamps : List StableStamp) (ups : List CpuUp) (start : Start) (low thread : ℕ) (r : Ran) : Type 0 where
  pub given : IsGiven start thread (kind_on m thread) r.began.view
  pub owner : r.began.epoch.owner ≡ nat_lt thread (cpu_count m)
  pub records : r.began.epoch.records ≡ record_zero m ∷ []
  pub blocks : r.began.time.blocks ≡ []
  pub later : low ≤ r.began.time.seen
  pub script : AreEventsOf (thread_at m thread).0 0 (thread_at m thread).1 r.events.items
  pub runs : Runs (site_on m stamps ups (thread_at m thread).0) r.began r.events.items r.ended

-- what one view knows of stamps and of the offset, another knows too
pub record KnowsNoMore (v w : View) : Type 0 where
  pub parts : (r : ℕ) → PartBegins (part_of v.pairs.parts r) (part_of w.pairs.parts r)
  pub offset : (v.modes.offset ≡ None) ⊎ (v.modes.offset ≡ w.modes.offset)

-- what a thread on this CPU knew at its end of the CPU's stamps after stamp 0, and of its records, begins what the
-- CPU's own thread knew
pub record FollowsOwner (cpu : ℕ) (rans : List Ran) (r : Ran) : Type 0 where
  pub raws : (d : Ran) → Begins (part_of r.ended.view.pairs.parts (raw_of cpu)).after (part_of (slice_index_or rans cpu d).ended.view.pairs.parts (raw_of cpu)).after
  pub gtods : (d : Ran) → Begins (part_of r.ended.view.pairs.parts (gtod_of cpu)).after (part_of (slice_index_or rans cpu d).ended.view.pairs.parts (gtod_of cpu)).after
  pub records : (d : Ran) → IsPrefix r.ended.epoch.records (slice_index_or rans cpu d).ended.epoch.records

-- ---- the watchdog

-- what it was given, and what it had at its end
pub record Watched : Type 0 where
  pub began : WatchKnown
  pub ended : WatchKnown
  pub kept : WatchTrace

-- where it stands
abbrev pub watch_site : Plan → List StableStamp → List CpuUp → WatchSite
watch_site m stamps ups = record { machine = m; adjusts = adjusts_of ups; sched_offset = sched_offset_of m stamps }

-- its seat at the words as it was given: in a stable start it alone may end the stable mode
pub record IsGivenWatch (start : Start) (threads : ℕ) (v : View) : Type 0 where
  pub start_is : v.start ≡ start
  pub number_is : v.number ≡ threads + 1
  pub mine_is : v.mine ≡ []
  pub seen_is : v.seen ≡ []
  pub found_is : v.modes.found ≡ is_percpu start.opening.mode
  pub watch_is : v.modes.watch ≡ true
  pub held_is : v.modes.held ≡ Some start.opening.offset

-- from its fresh seats on it made all its checks: stable as the scripts begin if `stable` says so; the ticket word had
-- reached `low` by then. What it found of each CPU's records begins what the CPU's own thread had at its end
pub record WatchedWhole (m : Plan) (stamps : List StableStamp) (up : BroughtUp) (start : Start) (stable : Bool) (low : ℕ) (rans : List Ran) (w : Watched) : Type 0 where
  pub given : IsGivenWatch start (length (threads_of m)) w.began.view
  pub records : All (λ e. (e.records ≡ record_zero m ∷ []) × (e.owner ≡ false)) w.began.epochs
  pub latches : length w.began.epochs ≡ cpu_count m
  pub blocks : w.began.time.blocks ≡ []
  pub later : low ≤ w.began.time.seen
  pub offset : w.began.gtod_offset ≡ gtod_offset_of stamps
  pub last : (s : StableStamp) → w.began.last ≡ boot_stamp (gtod_offset_of stamps) s stamps
  pub watched : HasWatched (watch_site m stamps up.cpus.items) stable up.failed w.began w.kept w.ended
  pub follow : (cpu : ℕ) (d : Ran) → cpu < cpu_count m → IsPrefix (epoch_at w.ended.epochs cpu).records (slice_index_or rans cpu d).ended.epoch.records

-- ---- the run

-- the trace shows a boot by these stamps, a bring-up after it, a run of each thread's whole script from there, and what
-- the tables answered at their end: the words' history, complete for a seat that was joined with all others, and the
-- number of tickets
pub record IsRunOf (m : Plan) (t : Trace) (closed : List Step) : Type 0 where
  pub limits : IsWithinLimits m
  -- the boot
  pub stamps : AreStamps m t.boots.items
  pub demotion : FitsBoot m t.boots.items t.ups.failed t.boot_demotion
  pub tickets : Tickets
  pub booted : Time
  pub drawn : HasDrawnBefore tickets t.boots.items t.ups.cpus.items t.boot_demotion booted
  -- the threads
  pub rans : List Ran
  pub count : length rans ≡ length (threads_of m)
  pub each : EachFrom (λ thread r. RanWhole m t.boots.items t.ups.cpus.items (start_of m t.boots.items t.boot_demotion) booted.seen thread r) 0 rans
  pub follow : EachFrom (λ thread r. FollowsOwner (thread_at m thread).0 rans r) 0 rans
  -- the watchdog, if there is one
  pub watched : Option Watched
  pub watch_is : t.watch ≡ option_map (λ w. w.kept) watched
  pub watch_there : is_some t.watch ≡ is_some m.watchdog
  pub watch : All (WatchedWhole m t.boots.items t.ups (start_of m t.boots.items t.boot_demotion) (begins_stable t) booted.seen rans) (listed watched)
  -- the end: the joined seat knows what each thread's and the watchdog's knew of stamps, of the offset and of the mode
  pub joined : View
  pub complete : IsComplete (start_of m t.boots.items t.boot_demotion) joined closed
  pub steps : own_steps joined ≡ flat_map (λ r. r.ended.view.mine) rans ++ flat_map (λ w. w.ended.view.mine) (listed watched)
  pub begins : All (λ r. Begins r.ended.view.seen closed) rans
  pub watch_begins : All (λ w. Begins w.ended.view.seen closed) (listed watched)
  pub known : All (λ r. KnowsNoMore r.ended.view joined) rans
  pub watch_known : All (λ w. KnowsNoMore w.ended.view joined) (listed watched)
  pub covers : Covers
      (((boot_blocks 0 t.boots.items ++ up_blocks t.ups.cpus.items ++ flat_map demotion_blocks (listed t.boot_demotion))
      ++ flat_map (λ r. r.ended.time.blocks) rans) ++ flat_map (λ w. w.ended.time.blocks) (listed watched)) t.tickets
  -- the trace
  pub epoch_ticket : t.epoch_ticket ≡ 0
  pub epoch_cyc : t.epoch_cyc ≡ (record_zero m).cyc
  pub starts : t.starts ≡ (if m.stable then Stable else PerCpu)
  pub sched_offset : t.sched_offset ≡ sched_offset_of m t.boots.items
  pub gtod_offset : t.gtod_offset ≡ gtod_offset_of t.boots.items
  pub ups : IsBroughtUp m None t.ups
  pub start_word : t.start_word ≡ opens_at (start_of m t.boots.items t.boot_demotion)
  pub cpu_of : t.cpu_of.items ≡ map (λ s. s.0) (threads_of m)
  pub threads : t.threads.items ≡ events_of rans
  pub before : Trace
  pub fills : FillsHistories before t
  pub words : length t.histories.items ≡ cpu_count m

-- ---- what it shows of the words

abbrev pub change_of : Step → Change
change_of s = record { old = s.old; new = s.new }

-- the history of the clock words has, on each word, the steps that the trace shows, in order
abbrev pub ShowsHistory : List Step → Trace → Type 0
ShowsHistory history t = EachFrom (λ w lines. map change_of (steps_on w history) ≡ map change_in lines.items) 0 t.histories.items
