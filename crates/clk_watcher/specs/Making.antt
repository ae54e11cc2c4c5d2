-- How a watchdog goes on with its checks: from how it was made to how it is.
use Rattle.std.specs.Prelude.{◌≡◌, ℕ, ◌+◌, ◌-◌, ◌*◌, ◌^◌, ◌≤◌, Bool, true, List, [], ◌∷◌, ◌++◌, map, length, All, Option, Some, None}
use Rattle.std.specs.List.{AllZip}
use Rattle.clk_num.specs.Range.{IsNear, IsFrom0To}
use Rattle.clk_ticket.specs.Time.{Time}
use Rattle.clk_machine.specs.Plan.{Plan, cpu_count, threads_of}
use Rattle.clk_machine.specs.Limits.{IsWithinLimits}
use Rattle.clk_machine.specs.Records.{above_base}
use Rattle.clk_machine.specs.Tickets.{watch_tickets}
use Rattle.clk_record.specs.Attempts.{retries_of}
use Rattle.clk_record.specs.Watching.{checks_asked, started, kept_of}
use Rattle.clk_record.specs.Fold.{at_first, ratings_of, IsCurrent, AreVisits}
use Rattle.clk_record.specs.Demotions.{offset_by}
use Rattle.clk_words.specs.Held.{place_of}
use Rattle.clk_words.specs.Histories.{opens_at}
use Rattle.clk_words.specs.Knowing.{MayDemote}
use Rattle.clk_lawful.specs.Checks.{Check, pause_of}
use Rattle.clk_lawful.specs.Watchdog.{IsPass}
use Rattle.clk_lawful.specs.declared.trace.WatchTrace.{WatchTrace}
use Rattle.clk_local.specs.Context.{BeginsAtBase}
use Rattle.clk_demote.specs.Context.{Site, Known, IsUnlifted}
use Rattle.clk_worker.specs.declared.shared.Shared.{Shared}
use Rattle.clk_watcher.specs.Checking.{WatchesCheck, Watches, KeepsLifts, HasWatched}
use Rattle.clk_watcher.specs.VisitsKept.{KeepsVisits, KeepsDemotion, KeepsChecks}
use Rattle.clk_watcher.specs.declared.parts.WatchParts.{WatchParts}

-- what contracts see of a watcher: its parts, the number of its next check, whether the clock is stable by what it did,
-- and what it keeps
pub record Hand : Type 0 where
  pub parts : Option WatchParts
  pub next : ℕ
  pub stable : Bool
  pub trace : WatchTrace

-- what its calls do not change, and what its seats have
abbrev pub site_at : Shared → WatchParts → Site
site_at s p = record { machine = s.machine; adjusts = s.adjusts.items; sched_offset = p.sched_offset }

abbrev pub has : WatchParts → Known
has p = record {
  view = p.seat.view;
  epochs = map (λ x. x.epoch) p.latch_seats.items;
  time = p.time;
  gtod_offset = p.gtod_offset;
  last = p.last;
}

-- ---- what it stands on

-- the seats belong to the shared things, which are those of the CPUs of one machine, and it watches that machine
pub record SeatsServe (s : Shared) (p : WatchParts) (w : WatchTrace) : Type 0 where
  pub limits : IsWithinLimits s.machine
  pub cpus : s.words.start.cpus ≡ cpu_count s.machine
  pub latches : length s.epochs.items ≡ cpu_count s.machine
  pub adjusts : length s.adjusts.items ≡ cpu_count s.machine
  pub near : All (IsNear 47) s.adjusts.items
  pub of_words : place_of p.seat ≡ s.words
  pub of_latches : AllZip (λ l x. x.latch ≡ l) s.epochs.items p.latch_seats.items
  pub of_tickets : p.time.table ≡ s.tickets.table
  pub watched : w.watch.machine ≡ s.machine
  pub few : length w.watch.records.items + w.watch.records.room ≤ 2 ^ 16

-- the clock is stable, and may be stamped and demoted by these parts
pub record IsStable (s : Shared) (p : WatchParts) (w : WatchTrace) : Type 0 where
  pub may : MayDemote p.seat.view
  pub sched_offset : IsNear 57 p.sched_offset
  pub held : p.seat.view.modes.held ≡ Some p.gtod_offset
  pub by_last : p.gtod_offset ≡ offset_by p.sched_offset p.last.gtod p.last.raw.ns
  pub unlifted : IsUnlifted p.seat.view
  pub base : All (BeginsAtBase s.machine) (has p).epochs
  pub opening : IsFrom0To (2 ^ 57) (above_base s.machine (opens_at p.seat.view.start))
  pub room : cpu_count s.machine ≤ w.lifts.room
  pub none_yet : w.demotion ≡ None

-- the tickets of a check: its pause, its attempts, and a stamp
abbrev pub check_tickets : Plan → ℕ
check_tickets m = pause_of m + length m.source * ((retries_of m + 1) * 4) + 2

-- there are the tickets and the room for so many checks
pub record HasEnough (m : Plan) (checks : ℕ) (t : Time) (w : WatchTrace) : Type 0 where
  pub tickets : checks * check_tickets m ≤ t.left
  pub attempts : checks * (length m.source * (retries_of m + 1)) ≤ w.watch.attempts.room
  pub records : checks * length m.source ≤ w.watch.records.room
  pub stamps : checks ≤ w.stamps.room
  pub pauses : checks ≤ w.pauses.room
  pub ends : checks ≤ w.last_record.room
  pub currents : checks ≤ w.currents.room

-- how many checks are left after the first n
abbrev pub checks_left : Plan → ℕ → ℕ
checks_left m n = checks_asked m.watchdog - n

-- nothing is kept yet
pub record IsEmpty (w : WatchTrace) : Type 0 where
  pub pauses : w.pauses.items ≡ []
  pub ends : w.last_record.items ≡ []
  pub currents : w.currents.items ≡ []
  pub stamps : w.stamps.items ≡ []
  pub lifts : w.lifts.items ≡ []
  pub demotion : w.demotion ≡ None
  pub demoted_in : w.demoted_in ≡ 0

-- a watchdog may begin with these parts and these lists, while the clock is stable if `stable` says so
pub record MayBegin (s : Shared) (p : WatchParts) (w : WatchTrace) (stable : Bool) : Type 0 where
  pub limits : IsWithinLimits s.machine
  pub cpus : s.words.start.cpus ≡ cpu_count s.machine
  pub latches : length s.epochs.items ≡ cpu_count s.machine
  pub adjusts : length s.adjusts.items ≡ cpu_count s.machine
  pub near : All (IsNear 47) s.adjusts.items
  pub of_words : place_of p.seat ≡ s.words
  pub of_latches : AllZip (λ l x. x.latch ≡ l) s.epochs.items p.latch_seats.items
  pub of_tickets : p.time.table ≡ s.tickets.table
  pub tickets : watch_tickets s.machine s.machine.watchdog ≤ p.time.left
  pub watch : w.watch ≡ started s.machine w.watch.tsc_unstable
  pub thread : w.thread ≡ length (threads_of s.machine)
  pub empty : IsEmpty w
  pub pauses : checks_asked s.machine.watchdog ≤ w.pauses.room
  pub ends : checks_asked s.machine.watchdog ≤ w.last_record.room
  pub currents : checks_asked s.machine.watchdog ≤ w.currents.room
  pub stamps : checks_asked s.machine.watchdog ≤ w.stamps.room
  pub if_stable : stable ≡ true → IsStable s p w

-- ---- what it made

-- the first n checks, by parts that it began with
pub record HasMade (s : Shared) (began : WatchParts) (stable lost : Bool) (n : ℕ) (p : WatchParts) (now : Bool) (w : WatchTrace) : Type 0 where
  pub within : n ≤ checks_asked s.machine.watchdog
  pub checks : List Check
  pub count : length checks ≡ n
  pub kept : KeepsChecks s.machine stable checks now w
  pub watches : Watches (site_at s began) 0 (has began) checks (has p)
  pub lifts : KeepsLifts (site_at s began) (has began) w w.demotion
  pub sched_offset : p.sched_offset ≡ began.sched_offset
  pub lost_is : w.watch.tsc_unstable ≡ lost
  pub thread : w.thread ≡ length (threads_of s.machine)
  pub serves : SeatsServe s p w
  pub enough : HasEnough s.machine (checks_left s.machine n) p.time w
  pub if_stable : now ≡ true → IsStable s p w

-- from how a watcher was made to how it is
pub record IsGoing (s : Shared) (first h : Hand) : Type 0 where
  pub began : WatchParts
  pub began_is : first.parts ≡ Some began
  pub parts : WatchParts
  pub parts_is : h.parts ≡ Some parts
  pub made : HasMade s began first.stable first.trace.watch.tsc_unstable h.next parts h.stable h.trace

-- made on these parts and these lists, it is as it was made, with whatever shared things they may begin
abbrev pub Begins : WatchParts → WatchTrace → Bool → Hand → Type 0
Begins p w stable h = (s : Shared) → MayBegin s p w stable → IsGoing s h h

-- it is the run's watcher
abbrev pub BelongsTo : Shared → Hand → Type 0
BelongsTo s h = (first : Hand) × IsGoing s first h

-- it went on from v to w, however it had been made
abbrev pub WentOn : Shared → Hand → Hand → Type 0
WentOn s v w = (first : Hand) → IsGoing s first v → IsGoing s first w

-- made so, it made all its checks
pub record HasRun (s : Shared) (first h : Hand) : Type 0 where
  pub began : WatchParts
  pub began_is : first.parts ≡ Some began
  pub ended : WatchParts
  pub ended_is : h.parts ≡ Some ended
  pub watched : HasWatched (site_at s began) first.stable first.trace.watch.tsc_unstable (has began) h.trace (has ended)

-- so it did from v to w, however it had been made
abbrev pub RanAll : Shared → Hand → Hand → Type 0
RanAll s v w = (first : Hand) → IsGoing s first v → HasRun s first w

-- ---- one check

-- the lists of a watchdog grow by this check
pub record KeepsCheck (m : Plan) (stable : Bool) (before : WatchTrace) (c : Check) (after : Bool) (w : WatchTrace) : Type 0 where
  pub kept : KeepsVisits stable before c.visits after w
  pub pauses : w.pauses.items ≡ before.pauses.items ++ c.ticket ∷ []
  pub ends : w.last_record.items ≡ before.last_record.items ++ length w.watch.records.items ∷ []
  pub currents : w.currents.items ≡ before.currents.items ++ c.current ∷ []
  pub passes : IsPass 0 (length m.source) (map (λ v. v.made) c.visits)
  pub current : IsCurrent (ratings_of m (kept_of w.watch)) c.current
  pub visits : AreVisits m w.watch.attempts.items (at_first m w.watch.tsc_unstable) w.watch.records.items
  pub lost : w.watch.tsc_unstable ≡ before.watch.tsc_unstable
  pub thread : w.thread ≡ before.thread

-- no more than for one check was used
pub record UsesCheck (m : Plan) (t : Time) (v : WatchTrace) (u : Time) (w : WatchTrace) : Type 0 where
  pub tickets : t.left ≤ u.left + check_tickets m
  pub attempts : v.watch.attempts.room ≤ w.watch.attempts.room + length m.source * (retries_of m + 1)
  pub records : v.watch.records.room ≤ w.watch.records.room + length m.source
  pub stamps : v.stamps.room ≤ w.stamps.room + 1
  pub pauses : v.pauses.room ≤ w.pauses.room + 1
  pub ends : v.last_record.room ≤ w.last_record.room + 1
  pub currents : v.currents.room ≤ w.currents.room + 1

-- this check took the parts and the lists on
pub record MakesAt (s : Shared) (number : ℕ) (p : WatchParts) (stable : Bool) (a : WatchTrace) (q : WatchParts) (after : Bool) (b : WatchTrace) : Type 0 where
  pub check : Check
  pub watches : WatchesCheck (site_at s p) number (has p) check (has q)
  pub kept : KeepsCheck s.machine stable a check after b
  pub demotes : KeepsDemotion p.seat.view.number p.seat.view.start number (cpu_count s.machine) a check.visits b
  pub sched_offset : q.sched_offset ≡ p.sched_offset
  pub serves : SeatsServe s q b
  pub uses : UsesCheck s.machine p.time a q.time b
  pub if_stable : after ≡ true → IsStable s q b

-- check m was made, and the watcher went on
pub record MakesCheck (s : Shared) (number : ℕ) (v w : Hand) : Type 0 where
  pub next : w.next ≡ number + 1
  pub check : Check
  pub kept : KeepsCheck s.machine v.stable v.trace check w.stable w.trace
  pub went : WentOn s v w
