-- The seats and the lists that a run begins with.
use Rattle.std.specs.Prelude.{◌≡◌, ℕ, zero, suc, ◌+◌, ◌*◌, ◌<◌, ◌≤◌, nat_lt, ℤ, pos, List, [], ◌∷◌, ◌++◌, length, map, slice_index_or, is_some, Bool, false, Option, Some, None, if◌then◌else◌}
use Rattle.std.specs.List.{sum_by}
use Rattle.clk_base.specs.Walk.{EachFrom}
use Rattle.clk_num.specs.Listed.{Listed}
use Rattle.clk_ticket.specs.Time.{Time, fresh, without, share_of}
use Rattle.clk_machine.specs.declared.script.Word.{Word}
use Rattle.clk_machine.specs.declared.reading.Published.{Published}
use Rattle.clk_machine.specs.Plan.{Plan, cpu_count, thread_at, threads_of}
use Rattle.clk_machine.specs.Limits.{most_tickets, IsWithinLimits}
use Rattle.clk_machine.specs.Tickets.{tickets_of, word_tickets, watch_tickets}
use Rattle.clk_machine.specs.Steps.{steps_for}
use Rattle.clk_machine.specs.Records.{record_zero}
use Rattle.clk_record.specs.declared.up.CpuUp.{CpuUp}
use Rattle.clk_record.specs.declared.up.BroughtUp.{BroughtUp}
use Rattle.clk_record.specs.BroughtUp.{IsBroughtUp}
use Rattle.clk_record.specs.Watching.{checks_asked, started}
use Rattle.clk_record.specs.declared.stable.StableStamp.{StableStamp}
use Rattle.clk_record.specs.declared.stable.Demotion.{Demotion}
use Rattle.clk_words.specs.declared.kind.SeatKind.{SeatKind}
use Rattle.clk_words.specs.declared.kind.SeatKind.TheVariants.{Owner, Reader, Watch}
use Rattle.clk_words.specs.declared.opening.Start.{Start}
use Rattle.clk_words.specs.declared.view.View.{View}
use Rattle.clk_words.specs.Held.{Place, Held}
use Rattle.clk_words.specs.Views.{first_view, giver_view, given_view}
use Rattle.clk_lawful.specs.declared.event.Event.{Event}
use Rattle.clk_lawful.specs.declared.trace.HistoryStep.{HistoryStep}
use Rattle.clk_lawful.specs.Checks.{listed}
use Rattle.clk_lawful.specs.declared.trace.WatchTrace.{WatchTrace}
use Rattle.clk_latch.specs.Epoch.{Epoch, reader_of}
use Rattle.clk_latch.specs.Epoch.{Place as LatchPlace}
use Rattle.clk_threads.specs.Booting.{opening_of, sched_offset_of, gtod_offset_of, AreStamps, FitsBoot, HasDrawnBefore, IsDemotedFor}
use Rattle.clk_threads.specs.declared.opened.Opened.{Opened}
use Rattle.clk_threads.specs.declared.latches.Latches.{Latches}
use Rattle.clk_threads.specs.declared.lists.Lists.{Lists}
use Rattle.clk_threads.specs.declared.booted.Booted.{Booted}
use Rattle.clk_threads.specs.declared.prepared.Made.{Made}
use Rattle.clk_threads.specs.declared.prepared.Prepared.{Prepared}

-- ---- the clock words

-- what they begin with
abbrev pub start_of : Plan → List StableStamp → Option Demotion → Start
start_of m stamps demotion = record { cpus = cpu_count m; tick = m.tick; opening = opening_of m stamps demotion }

-- the kind of a thread's seat: a CPU's own thread is its owner, and any other reads there
abbrev pub kind_on : Plan → ℕ → SeatKind
kind_on m thread = if nat_lt thread (cpu_count m) then Owner thread else Reader (thread_at m thread).0

-- the first seat after it gave those of the first n threads
abbrev pub gave : Plan → ℕ → View → View
gave m zero v = v
gave m (suc n) v = giver_view (kind_on m n) (gave m n v)

-- the seat of a thread, and those of the first n threads, in order
abbrev pub thread_seat : Plan → Place → ℕ → Held
thread_seat m p thread = record { table = p.table; view = given_view (kind_on m thread) (gave m thread (first_view p.start)) }

abbrev pub thread_seats : Plan → Place → ℕ → List Held
thread_seats m p zero = []
thread_seats m p (suc n) = thread_seats m p n ++ thread_seat m p n ∷ []

-- the first seat after all threads got theirs, and after the watchdog did, where there is one; and the watchdog's seat
abbrev pub gave_threads : Plan → Start → View
gave_threads m start = gave m (length (threads_of m)) (first_view start)

abbrev pub gave_all : Plan → Start → View
gave_all m start = if is_some m.watchdog then giver_view Watch (gave_threads m start) else gave_threads m start

abbrev pub watch_seat : Plan → Place → Held
watch_seat m p = record { table = p.table; view = given_view Watch (gave_threads m p.start) }

pub record HasOpened (m : Plan) (stamps : List StableStamp) (demotion : Option Demotion) (o : Opened) : Type 0 where
  pub start : o.words.start ≡ start_of m stamps demotion
  pub seats : o.seats.items ≡ thread_seats m o.words (length (threads_of m))
  pub watch : o.watch ≡ (if is_some m.watchdog then Some (watch_seat m o.words) else None)
  pub first : o.first ≡ record { table = o.words.table; view = gave_all m o.words.start }

-- ---- the latches

-- what a thread's seat has: record 0, and that of a CPU's own thread the owner's right and the most updates of a script
abbrev pub epoch_on : Plan → Published → ℕ → Epoch
epoch_on m first thread = record {
  owner = nat_lt thread (cpu_count m);
  left = if nat_lt thread (cpu_count m) then 1024 else 0;
  records = first ∷ [];
  begins = [];
}

-- a thread's seat is one of its CPU's latch
abbrev pub IsOfLatch : Plan → Latches → ℕ → LatchPlace → Type 0
IsOfLatch m l thread s = s.latch ≡ slice_index_or l.epochs.items (thread_at m thread).0 s.latch

abbrev pub IsLatchSeat : Plan → Published → Latches → ℕ → LatchPlace → Type 0
IsLatchSeat m first l thread s = IsOfLatch m l thread s × (s.epoch ≡ epoch_on m first thread)

-- there is a latch of each CPU, and a seat of each of the first n threads, in order
pub record HaveLatches (m : Plan) (first : Published) (n : ℕ) (l : Latches) : Type 0 where
  pub latches : length l.epochs.items ≡ cpu_count m
  pub count : length l.seats.items ≡ n
  pub each : EachFrom (IsLatchSeat m first l) 0 l.seats.items

-- the watchdog's seat at each CPU's latch, if there is a watchdog: a reader's, split off the owner's
pub record IsWatchLatch (first : Published) (l : Latches) (cpu : ℕ) (s : LatchPlace) : Type 0 where
  pub latch : s.latch ≡ slice_index_or l.epochs.items cpu s.latch
  pub epoch : s.epoch ≡ record { owner = false; left = 0; records = first ∷ []; begins = [] }

-- each of these CPUs has its owner's seat, which is of its latch; and a seat was split off each owner's, in order
abbrev pub AreOwners : ℕ → Latches → Type 0
AreOwners cpus l = (cpu : ℕ) (s d : LatchPlace) → cpu < cpus → (slice_index_or l.seats.items cpu s).latch ≡ slice_index_or l.epochs.items cpu d.latch

abbrev pub IsSplitOff : Latches → ℕ → LatchPlace → Type 0
IsSplitOff l cpu s = (s.latch ≡ slice_index_or l.epochs.items cpu s.latch) × (s.epoch ≡ reader_of (slice_index_or l.seats.items cpu s).epoch)

abbrev pub AreSplitOff : Latches → Type 0
AreSplitOff l = EachFrom (IsSplitOff l) 0 l.watch.items

pub record HaveWatchLatches (m : Plan) (first : Published) (l : Latches) : Type 0 where
  pub count : length l.watch.items ≡ (if is_some m.watchdog then cpu_count m else 0)
  pub each : EachFrom (IsWatchLatch first l) 0 l.watch.items

-- ---- the tickets

-- the tickets of a thread's script
abbrev pub thread_tickets : ℕ × List Word → ℕ
thread_tickets t = sum_by tickets_of t.1

-- the seat that a thread gets of this one
abbrev pub time_seat : Time → ℕ × List Word → Time
time_seat time t = fresh time.table (thread_tickets t) time.seen

-- the seat that the watchdog gets
abbrev pub watch_time : Plan → Time → Time
watch_time m time = fresh time.table (watch_tickets m m.watchdog) time.seen

-- ---- the lists

-- no event of a thread, and room for the most that its script makes
abbrev pub no_events : ℕ × List Word → Listed Event
no_events t = record { items = []; room = 3 * length t.1 }

-- the most steps of all threads on a clock word, and a lift by the watchdog, if there is one
abbrev pub lifts_room : Plan → ℕ
lifts_room m = if is_some m.watchdog then 1 else 0

abbrev pub steps_room : Plan → ℕ → ℕ
steps_room m w = lifts_room m + sum_by (λ t. sum_by (steps_for w t.0) t.1) (threads_of m)

-- no step of a word, and room for those; and so for each of the first n words, in order
abbrev pub no_steps : Plan → ℕ → Listed HistoryStep
no_steps m w = record { items = []; room = steps_room m w }

abbrev pub histories_below : Plan → ℕ → List (Listed HistoryStep)
histories_below m zero = []
histories_below m (suc n) = histories_below m n ++ no_steps m n ∷ []

-- what is added to the counter of each CPU: nothing to CPU 0's, and to any other's what its bring-up found
abbrev pub adjusts_of : List CpuUp → List ℤ
adjusts_of ups = pos 0 ∷ map (λ up. up.adjust) ups

-- what a watchdog fills: nothing yet, with room for an item of each check, and for a lift of each CPU. Its TSC source
-- was lost at boot where a bring-up failed
abbrev pub no_items : {A : Type 0} → ℕ → Listed A
no_items n = record { items = []; room = n }

abbrev pub empty_watch : Plan → Bool → WatchTrace
empty_watch m lost = record {
  thread = length (threads_of m);
  pauses = no_items (checks_asked m.watchdog);
  watch = started m lost;
  last_record = no_items (checks_asked m.watchdog);
  stamps = no_items (checks_asked m.watchdog);
  demotion = None;
  demoted_in = 0;
  lifts = no_items (cpu_count m);
  currents = no_items (checks_asked m.watchdog);
}

pub record AreLists (m : Plan) (up : BroughtUp) (l : Lists) : Type 0 where
  pub cpu_of : l.cpu_of.items ≡ map (λ t. t.0) (threads_of m)
  pub events : l.events.items ≡ map no_events (threads_of m)
  pub threads : l.threads ≡ record { items = []; room = length (threads_of m) }
  pub histories : l.histories.items ≡ histories_below m (cpu_count m)
  pub adjusts : l.adjusts.items ≡ adjusts_of up.cpus.items
  pub latches : l.latches ≡ record { items = []; room = length (threads_of m) }
  pub slots : l.slots.items ≡ []
  pub slots_room : length (threads_of m) ≤ l.slots.room
  pub workers : l.workers.items ≡ []
  pub workers_room : length (threads_of m) ≤ l.workers.room
  pub watch : l.watch ≡ (if is_some m.watchdog then Some (empty_watch m up.failed) else None)

-- ---- what takes memory

-- the seats and the lists of a run after this boot and this demotion at boot, whose seat gave the tickets of the
-- scripts away
pub record IsMade (b : Booted) (up : BroughtUp) (demotion : Option Demotion) (made : Made) : Type 0 where
  pub before : Time
  pub booted : IsDemotedFor b.machine up demotion (record b { time = before })
  pub lists : AreLists b.machine up made.lists
  pub latches : HaveLatches b.machine b.epoch (length (threads_of b.machine)) made.latches
  pub watch_latches : HaveWatchLatches b.machine b.epoch made.latches
  pub opened : HasOpened b.machine b.stamps.items demotion made.opened
  pub times : made.times.items ≡ map (time_seat before) (threads_of b.machine)
  pub time_is : b.time ≡ without (word_tickets b.machine) before

-- ---- all of it

pub record IsPrepared (m : Plan) (p : Prepared) : Type 0 where
  pub limits : IsWithinLimits m
  pub machine : p.machine ≡ m
  pub total : p.tickets.total ≡ most_tickets
  -- the boot
  pub epoch : p.epoch ≡ record_zero m
  pub stamps : AreStamps m p.stamps.items
  pub sched_offset : p.sched_offset ≡ sched_offset_of m p.stamps.items
  pub gtod_offset : p.gtod_offset ≡ gtod_offset_of p.stamps.items
  -- the bring-up
  pub up : IsBroughtUp m None p.up
  pub demotion : FitsBoot m p.stamps.items p.up.failed p.boot_demotion
  -- the seats
  pub opened : HasOpened m p.stamps.items p.boot_demotion p.opened
  pub latches : HaveLatches m (record_zero m) (length (threads_of m)) p.latches
  pub watch_latches : HaveWatchLatches m (record_zero m) p.latches
  pub booted : Time
  pub drawn : HasDrawnBefore p.tickets p.stamps.items p.up.cpus.items p.boot_demotion booted
  pub times : p.times.items ≡ map (time_seat booted) (threads_of m)
  pub watch_time : p.watch_time ≡ (if is_some m.watchdog then Some (watch_time m booted) else None)
  pub time : p.time ≡ without (word_tickets m + watch_tickets m m.watchdog) booted
  pub share : share_of p.time + sum_by share_of p.times.items + sum_by share_of (listed p.watch_time) ≡ p.tickets.total
  -- the memory
  pub lists : AreLists m p.up p.lists
