-- How a run is opened, and how it is closed: the seats of all workers are joined again, and the tables answer. A
-- runner's own: no public contract cites it.
use Rattle.std.specs.Prelude.{◌≡◌, ℕ, ◌+◌, ◌<◌, ◌≤◌, true, List, [], ◌∷◌, ◌++◌, length, map, flat_map, slice_index_or, Option, Some, None, option_map, if◌then◌else◌}
use Rattle.std.specs.List.{All, sum_by}
use mathlib.Core.List.{IsPrefix}
use Rattle.clk_base.specs.Blocks.{Covers}
use Rattle.clk_base.specs.Walk.{EachFrom}
use Rattle.clk_num.specs.Listed.{Listed}
use Rattle.clk_ticket.specs.Time.{Time, share_of}
use Rattle.clk_machine.specs.Limits.{IsWithinLimits}
use Rattle.clk_machine.specs.Plan.{Plan, cpu_count, thread_at, threads_of}
use Rattle.clk_record.specs.declared.mode.Mode.TheVariants.{Stable, PerCpu}
use Rattle.clk_words.specs.declared.view.View.{View}
use Rattle.clk_words.specs.Bounds.{opens_of}
use Rattle.clk_words.specs.Calls.{IsComplete}
use Rattle.clk_words.specs.Fronts.{Begins}
use Rattle.clk_words.specs.Held.{Held, place_of}
use Rattle.clk_words.specs.Knowing.{HasAll}
use Rattle.clk_words.specs.Views.{together}
use Rattle.clk_lawful.specs.Checks.{listed}
use Rattle.clk_lawful.specs.Filling.{MayFill, FillsHistories}
use Rattle.clk_lawful.specs.declared.event.Event.{Event}
use Rattle.clk_lawful.specs.declared.trace.Trace.{Trace}
use Rattle.clk_lawful.specs.declared.trace.WatchTrace.{WatchTrace}
use Rattle.clk_latch.specs.Epoch.{Place as LatchPlace}
use Rattle.clk_worker.specs.declared.own.Own.{Own}
use Rattle.clk_worker.specs.declared.shared.Shared.{Shared}
use Rattle.clk_worker.specs.Making.{Hand}
use Rattle.clk_watcher.specs.Making.{Hand as WatchHand}
use Rattle.clk_watcher.specs.declared.parts.WatchParts.{WatchParts}
use Rattle.clk_threads.specs.Booting.{opening_of}
use Rattle.clk_threads.specs.Finishing.{KnowsNoMore}
use Rattle.clk_threads.specs.Workers.{AreInSlots, IsWatcherOf}
use Rattle.clk_threads.specs.Parts.{shared_of, seats_of, watch_seats_of, runs_stable}
use Rattle.clk_threads.specs.declared.prepared.Prepared.{Prepared}
use Rattle.clk_threads.specs.declared.run.Finished.{Finished}
use Rattle.clk_threads.specs.declared.running.Begun.{Begun}
use Rattle.clk_threads.specs.declared.running.Running.{Running}
use Rattle.clk_threads.specs.declared.running.Sorted.{Sorted}

-- the trace so far: what the boot and the bring-up left, and lists that are to be filled
abbrev pub begun_by : Plan → Begun → Trace
begun_by m b = record {
  epoch_ticket = b.epoch.ticket;
  epoch_cyc = b.epoch.cyc;
  boots = b.stamps;
  starts = if m.stable then Stable else PerCpu;
  sched_offset = b.sched_offset;
  gtod_offset = b.gtod_offset;
  ups = b.up;
  boot_demotion = b.boot_demotion;
  start_word = opens_of (opening_of m b.stamps.items b.boot_demotion);
  cpu_of = b.cpu_of;
  threads = b.threads;
  watch = None;
  histories = b.histories;
  tickets = 0;
}

abbrev pub begun_of : Prepared → Begun
begun_of p = record {
  epoch = p.epoch;
  stamps = p.stamps;
  boot_demotion = p.boot_demotion;
  sched_offset = p.sched_offset;
  gtod_offset = p.gtod_offset;
  up = p.up;
  cpu_of = p.lists.cpu_of;
  threads = p.lists.threads;
  histories = p.lists.histories;
}

abbrev pub begun_trace : Prepared → Trace
begun_trace p = begun_by p.machine (begun_of p)

-- what was prepared, by who begins with it
abbrev pub sorted_of : Prepared → Sorted
sorted_of p = record {
  shared = shared_of p;
  seats = seats_of p;
  watch = watch_seats_of p;
  begun = begun_of p;
  first = p.opened.first;
  time = p.time;
  latches = p.lists.latches;
  slots = p.lists.slots;
  workers = p.lists.workers;
}

pub record IsOpened (p : Prepared) (r : Running) : Type 0 where
  pub shared : r.shared ≡ shared_of p
  pub workers : AreInSlots p.machine p.lists.adjusts.items p.sched_offset (seats_of p) r.slots.items
  pub watcher : IsWatcherOf p.stamps.items p.sched_offset p.gtod_offset (runs_stable p) (watch_seats_of p) r.watcher
  pub first : r.first ≡ p.opened.first
  pub time : r.time ≡ p.time
  pub latches : r.latches ≡ p.lists.latches
  pub trace : r.trace ≡ begun_trace p

-- ---- the seats of workers

-- the workers that are there
abbrev pub hands_in : List (Option Hand) → List Hand
hands_in slots = flat_map listed slots

abbrev pub own_list : Option Own → List Own
own_list None = []
own_list (Some o) = o ∷ []

abbrev pub owns_of : List Hand → List Own
owns_of hands = flat_map (λ h. own_list h.own) hands

-- a worker's seats are of these words and tickets
abbrev pub MayJoin : Shared → Hand → Type 0
MayJoin s h = (o : Own) → h.own ≡ Some o → (place_of o.seat ≡ s.words) × (o.time.table ≡ s.tickets.table)

-- all workers are there, and so are their seats
abbrev pub MayJoinSlot : Shared → Option Hand → Type 0
MayJoinSlot s slot = (h : Hand) × (slot ≡ Some h) × MayJoin s h

pub record MayGather (s : Shared) (slots : List (Option Hand)) (first : Held) (time : Time) (threads : Listed (Listed Event)) (latches : Listed LatchPlace) : Type 0 where
  pub first_own : place_of first ≡ s.words
  pub time_own : time.table ≡ s.tickets.table
  pub workers : All (MayJoinSlot s) slots
  pub room : length slots ≤ threads.room
  pub latches_room : length slots ≤ latches.room

-- the views of these seats joined with the first one, one after another
abbrev pub all_together : View → List View → View
all_together v [] = v
all_together v (w ∷ views) = all_together (together v w) views

-- the two seats have what those of all workers had, and the events and the latch seat of each worker were kept, in
-- order
pub record HasGathered (s : Shared) (hands : List Hand) (first : Held) (time : Time) (threads : Listed (Listed Event)) (latches : Listed LatchPlace)
    (whole : Held) (drawn : Time) (kept : Listed (Listed Event)) (seats : Listed LatchPlace) : Type 0 where
  pub whole_own : place_of whole ≡ s.words
  pub view_is : whole.view ≡ all_together first.view (map (λ o. o.seat.view) (owns_of hands))
  pub seen : All (λ o. Begins o.seat.view.seen whole.view.seen) (owns_of hands)
  pub known : All (λ o. KnowsNoMore o.seat.view whole.view) (owns_of hands)
  pub drawn_own : drawn.table ≡ s.tickets.table
  pub blocks : drawn.blocks ≡ time.blocks ++ flat_map (λ o. o.time.blocks) (owns_of hands)
  pub share : share_of drawn ≡ share_of time + sum_by (λ o. share_of o.time) (owns_of hands)
  pub events : kept.items ≡ threads.items ++ map (λ h. h.events) hands
  pub seats_are : seats.items ≡ latches.items ++ map (λ o. o.latch_seat) (owns_of hands)

-- ---- the latch seats

-- a thread's seat is one of its CPU's latch, with the owner's right if it is the CPU's own thread
pub record FitsLatch (s : Shared) (thread : ℕ) (seat : LatchPlace) : Type 0 where
  pub latch : seat.latch ≡ slice_index_or s.epochs.items (thread_at s.machine thread).0 seat.latch
  pub owner : thread < cpu_count s.machine → seat.epoch.owner ≡ true

-- there is a latch of each CPU, and a seat of each thread, in order
pub record FitLatches (s : Shared) (seats : List LatchPlace) : Type 0 where
  pub limits : IsWithinLimits s.machine
  pub latches : length s.epochs.items ≡ cpu_count s.machine
  pub count : length seats ≡ length (threads_of s.machine)
  pub each : EachFrom (FitsLatch s) 0 seats

-- the records that a seat has seen begin those of its CPU's own thread
abbrev pub RecordsBegin : Plan → List LatchPlace → ℕ → LatchPlace → Type 0
RecordsBegin m seats thread s = (d : LatchPlace) → IsPrefix s.epoch.records (slice_index_or seats (thread_at m thread).0 d).epoch.records

-- the seats of the CPUs' own threads are left, each of its CPU's latch, with the owner's right and the records that it
-- had
pub record IsOwnerLeft (s : Shared) (seats : List LatchPlace) (cpu : ℕ) (o : LatchPlace) : Type 0 where
  pub latch : o.latch ≡ slice_index_or s.epochs.items cpu o.latch
  pub owner : o.epoch.owner ≡ true
  pub records : (d : LatchPlace) → o.epoch.records ≡ (slice_index_or seats cpu d).epoch.records

pub record AreOwnersLeft (s : Shared) (seats owners : List LatchPlace) : Type 0 where
  pub count : length owners ≡ cpu_count s.machine
  pub each : EachFrom (IsOwnerLeft s seats) 0 owners

-- ---- the watchdog's seats

abbrev pub part_list : Option WatchParts → List WatchParts
part_list None = []
part_list (Some p) = p ∷ []

abbrev pub parts_of : Option WatchHand → List WatchParts
parts_of watcher = flat_map (λ h. part_list h.parts) (listed watcher)

-- each seat at the latches is of its CPU's, where an owner's seat is too
abbrev pub IsAtLatch : Shared → ℕ → LatchPlace → Type 0
IsAtLatch s cpu seat = seat.latch ≡ slice_index_or s.epochs.items cpu seat.latch

abbrev pub IsOwnerAt : Shared → ℕ → LatchPlace → Type 0
IsOwnerAt s cpu seat = IsAtLatch s cpu seat × (seat.epoch.owner ≡ true)

pub record FitWatch (s : Shared) (owners watch : List LatchPlace) : Type 0 where
  pub latches : length owners ≡ length s.epochs.items
  pub count : length watch ≡ length owners
  pub owners_fit : EachFrom (IsOwnerAt s) 0 owners
  pub watch_fit : EachFrom (IsAtLatch s) 0 watch

-- what the watchdog has seen of the records of each CPU begins what its owner has
abbrev pub WatchFollows : List LatchPlace → ℕ → LatchPlace → Type 0
WatchFollows owners cpu s = (d : LatchPlace) → IsPrefix s.epoch.records (slice_index_or owners cpu d).epoch.records

-- the watchdog's seats may be joined with these
pub record MayJoinWatch (s : Shared) (owners : List LatchPlace) (p : WatchParts) : Type 0 where
  pub words : place_of p.seat ≡ s.words
  pub tickets : p.time.table ≡ s.tickets.table
  pub latches : FitWatch s owners p.latch_seats.items

pub record MayGatherWatch (s : Shared) (watcher : Option WatchHand) (owners : List LatchPlace) (first : Held) (time : Time) : Type 0 where
  pub first_own : place_of first ≡ s.words
  pub time_own : time.table ≡ s.tickets.table
  pub watch : All (MayJoinWatch s owners) (parts_of watcher)

-- the two seats have what those of the watchdog had, and what it found was kept
pub record HasGatheredWatch (s : Shared) (watcher : Option WatchHand) (owners : List LatchPlace) (first : Held) (time : Time) (whole : Held) (drawn : Time) (kept : Option WatchTrace) : Type 0 where
  pub whole_own : place_of whole ≡ s.words
  pub view_is : whole.view ≡ all_together first.view (map (λ p. p.seat.view) (parts_of watcher))
  pub first_seen : Begins first.view.seen whole.view.seen
  pub first_known : KnowsNoMore first.view whole.view
  pub seen : All (λ p. Begins p.seat.view.seen whole.view.seen) (parts_of watcher)
  pub known : All (λ p. KnowsNoMore p.seat.view whole.view) (parts_of watcher)
  pub drawn_own : drawn.table ≡ s.tickets.table
  pub blocks : drawn.blocks ≡ time.blocks ++ flat_map (λ p. p.time.blocks) (parts_of watcher)
  pub share : share_of drawn ≡ share_of time + sum_by (λ p. share_of p.time) (parts_of watcher)
  pub kept_is : kept ≡ option_map (λ h. h.trace) watcher
  pub follow : All (λ p. EachFrom (WatchFollows owners) 0 p.latch_seats.items) (parts_of watcher)

-- ---- the end

-- the trace with the events of all threads, what the watchdog left, and this number of tickets
abbrev pub whole_trace : Trace → Listed (Listed Event) → Option WatchTrace → ℕ → Trace
whole_trace t threads watch tickets = record t { threads = threads; watch = watch; tickets = tickets }

-- the workers were gathered, and then the watchdog
pub record AreGathered (r : Running) (first : Held) (time : Time) (kept : Listed (Listed Event)) (seats : Listed LatchPlace) (owners : List LatchPlace)
    (whole : Held) (drawn : Time) (watch : Option WatchTrace) : Type 0 where
  pub threads : HasGathered r.shared (hands_in r.slots.items) r.first r.time r.trace.threads r.latches first time kept seats
  pub owners_left : AreOwnersLeft r.shared seats.items owners
  pub watchdog : HasGatheredWatch r.shared r.watcher owners first time whole drawn watch

-- the seats are whole, and the histories may be filled
pub record AreWhole (r : Running) (kept : Listed (Listed Event)) (whole : Held) (drawn : Time) (watch : Option WatchTrace) : Type 0 where
  pub all : HasAll whole.view
  pub share : share_of drawn ≡ r.shared.tickets.total
  pub fill : (tickets : ℕ) → MayFill (whole_trace r.trace kept watch tickets)

pub record MayClose (r : Running) : Type 0 where
  pub gather : MayGather r.shared r.slots.items r.first r.time r.trace.threads r.latches
  pub latches : (first : Held) (time : Time) (kept : Listed (Listed Event)) (seats : Listed LatchPlace)
      → HasGathered r.shared (hands_in r.slots.items) r.first r.time r.trace.threads r.latches first time kept seats → FitLatches r.shared seats.items
  pub watch : (first : Held) (time : Time) (kept : Listed (Listed Event)) (seats : Listed LatchPlace) (owners : List LatchPlace)
      → HasGathered r.shared (hands_in r.slots.items) r.first r.time r.trace.threads r.latches first time kept seats → AreOwnersLeft r.shared seats.items owners
      → MayGatherWatch r.shared r.watcher owners first time
  pub whole : (first : Held) (time : Time) (kept : Listed (Listed Event)) (seats : Listed LatchPlace) (owners : List LatchPlace) (whole : Held) (drawn : Time) (watch : Option WatchTrace)
      → AreGathered r first time kept seats owners whole drawn watch → AreWhole r kept whole drawn watch

pub record HasClosed (r : Running) (f : Finished) : Type 0 where
  pub first : Held
  pub time : Time
  pub kept : Listed (Listed Event)
  pub seats : Listed LatchPlace
  pub owners : List LatchPlace
  pub whole : Held
  pub drawn : Time
  pub watch : Option WatchTrace
  pub gathered : AreGathered r first time kept seats owners whole drawn watch
  pub follow : EachFrom (RecordsBegin r.shared.machine seats.items) 0 seats.items
  pub complete : IsComplete r.shared.words.start whole.view f.closed.history
  pub covers : Covers drawn.blocks f.trace.tickets
  pub fills : FillsHistories (whole_trace r.trace kept watch f.trace.tickets) f.trace
