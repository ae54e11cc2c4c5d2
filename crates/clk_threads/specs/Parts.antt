-- A run that can be taken apart: what contracts see of it, and which workers are its own.
use Rattle.std.specs.Prelude.{◌≡◌, ℕ, ◌<◌, Bool, not, ◌&&◌, is_some, List, length, set, slice_index_or, Option, Some, None}
use Rattle.std.specs.List.{All}
use Rattle.clk_machine.specs.Plan.{threads_of}
use Rattle.clk_record.specs.Watching.{checks_asked}
use Rattle.clk_lawful.specs.Checks.{listed}
use Rattle.clk_worker.specs.declared.shared.Shared.{Shared}
use Rattle.clk_worker.specs.Making.{Hand, script_of, IsGoing}
use Rattle.clk_watcher.specs.Making.{Hand as WatchHand, IsGoing as IsWatchGoing}
use Rattle.clk_threads.specs.Workers.{IsOfSeats, AreInSlots, IsOfWatch, IsWatcherOf}
use Rattle.clk_threads.specs.declared.prepared.Prepared.{Prepared}
use Rattle.clk_threads.specs.declared.workers.Seats.{Seats}
use Rattle.clk_threads.specs.declared.workers.WatchSeats.{WatchSeats}

-- ---- what was prepared for it

-- what the threads use together, and what each of them and the watchdog begins with
abbrev pub shared_of : Prepared → Shared
shared_of p = record { words = p.opened.words; epochs = p.latches.epochs; adjusts = p.lists.adjusts; tickets = p.tickets; machine = p.machine }

abbrev pub seats_of : Prepared → Seats
seats_of p = record { seats = p.opened.seats; latches = p.latches.seats; times = p.times; events = p.lists.events }

abbrev pub watch_seats_of : Prepared → WatchSeats
watch_seats_of p = record { seat = p.opened.watch; latches = p.latches.watch; time = p.watch_time; trace = p.lists.watch }

-- whether the clock is stable as the scripts begin
abbrev pub runs_stable : Prepared → Bool
runs_stable p = p.machine.stable && not (is_some p.boot_demotion)

-- ---- what contracts see

-- what it was prepared from, and each worker that is not taken: those of the threads, in order, and the watcher, if
-- there is one
pub record Parts : Type 0 where
  pub prepared : Prepared
  pub slots : List (Option Hand)
  pub watcher : Option WatchHand

-- the worker of a thread, if it is one of the run's and is not taken
abbrev pub slot_at : Parts → ℕ → Option Hand
slot_at r thread = slice_index_or r.slots thread None

abbrev pub with_slot : ℕ → Option Hand → Parts → Parts
with_slot thread slot r = record { prepared = r.prepared; slots = set r.slots thread slot; watcher = r.watcher }

abbrev pub with_watcher : Option WatchHand → Parts → Parts
with_watcher watcher r = record { prepared = r.prepared; slots = r.slots; watcher = watcher }

-- ---- how it is opened

-- all are there, made of the seats that were prepared: a worker of each CPU and of each reader, and a watcher where the
-- machine has a watchdog
pub record IsOpenedFrom (p : Prepared) (r : Parts) : Type 0 where
  pub prepared : r.prepared ≡ p
  pub count : length r.slots ≡ length (threads_of p.machine)
  pub workers : AreInSlots p.machine p.lists.adjusts.items p.sched_offset (seats_of p) r.slots
  pub watcher : IsWatcherOf p.stamps.items p.sched_offset p.gtod_offset (runs_stable p) (watch_seats_of p) r.watcher
  pub watched : is_some r.watcher ≡ is_some p.machine.watchdog

-- ---- which workers are its own

-- it goes on from the worker that was made for this thread: by the words that it made since, if any, with what the run
-- lends. A word, and the run of all that are left, tells so (`WentOn`)
pub record CameAt (p : Prepared) (thread : ℕ) (h : Hand) : Type 0 where
  pub first : Hand
  pub given : IsOfSeats p.machine p.lists.adjusts.items p.sched_offset (seats_of p) thread first
  pub going : IsGoing (shared_of p) first h

-- from the one that was made for its own thread
pub record CameFrom (p : Prepared) (h : Hand) : Type 0 where
  pub there : h.post.thread < length (threads_of p.machine)
  pub came : CameAt p h.post.thread h

-- the watcher, by its checks
pub record WatchCame (p : Prepared) (h : WatchHand) : Type 0 where
  pub first : WatchHand
  pub given : IsOfWatch p.stamps.items p.sched_offset p.gtod_offset (runs_stable p) (watch_seats_of p) first
  pub going : IsWatchGoing (shared_of p) first h

-- ---- how it may be closed

-- the worker is there, and made its whole script
abbrev pub HasMadeAll : Shared → Option Hand → Type 0
HasMadeAll s slot = (h : Hand) × (slot ≡ Some h) × (h.next ≡ length (script_of s h.post))

-- all are back: each worker has made all its words, and the watcher, if the machine has a watchdog, all its checks
pub record AreBack (r : Parts) : Type 0 where
  pub workers : All (HasMadeAll (shared_of r.prepared)) r.slots
  pub watcher : is_some r.watcher ≡ is_some r.prepared.machine.watchdog
  pub checks : All (λ h. h.next ≡ checks_asked r.prepared.machine.watchdog) (listed r.watcher)
