-- The workers of a run and its watcher: how they are made of seats, and how they have run.
use Rattle.std.specs.Prelude.{◌≡◌, ℕ, ◌<◌, ℤ, pos, List, [], ◌∷◌, ◌++◌, length, map, slice_index_or, Bool, is_some, Option, Some, None}
use Rattle.std.specs.List.{All}
use Rattle.clk_base.specs.Walk.{EachFrom}
use Rattle.clk_num.specs.Listed.{Listed}
use Rattle.clk_machine.specs.Plan.{Plan, thread_at}
use Rattle.clk_record.specs.declared.stable.StableStamp.{StableStamp}
use Rattle.clk_record.specs.Watching.{checks_asked}
use Rattle.clk_lawful.specs.Checks.{listed}
use Rattle.clk_lawful.specs.Demoted.{boot_stamp}
use Rattle.clk_lawful.specs.declared.trace.WatchTrace.{WatchTrace}
use Rattle.clk_lawful.specs.declared.event.Event.{Event}
use Rattle.clk_worker.specs.declared.shared.Shared.{Shared}
use Rattle.clk_worker.specs.declared.own.Post.{Post}
use Rattle.clk_worker.specs.declared.own.Own.{Own}
use Rattle.clk_worker.specs.Making.{Hand, script_of, WentOn}
use Rattle.clk_watcher.specs.Making.{Hand as WatchHand, Begins as WatchBegins, WentOn as WatchWentOn}
use Rattle.clk_watcher.specs.declared.parts.WatchParts.{WatchParts}
use Rattle.clk_threads.specs.declared.workers.Seats.{Seats}
use Rattle.clk_threads.specs.declared.workers.WatchSeats.{WatchSeats}

-- there are seats and a list for each of n threads
pub record HaveSeats (n : ℕ) (s : Seats) : Type 0 where
  pub seats : length s.seats.items ≡ n
  pub latches : length s.latches.items ≡ n
  pub times : length s.times.items ≡ n
  pub events : length s.events.items ≡ n

-- where a thread stands, by what is added to the counter of each CPU
abbrev pub post_of : Plan → List ℤ → ℤ → ℕ → Post
post_of m adjusts sched_offset thread = record {
  thread = thread;
  cpu = (thread_at m thread).0;
  adjust = slice_index_or adjusts (thread_at m thread).0 (pos 0);
  sched_offset = sched_offset;
}

-- a worker that has made no word
abbrev pub fresh_hand : Post → Own → Listed Event → Hand
fresh_hand p o events = record { post = p; next = 0; own = Some o; events = events }

-- the worker of the last thread, whose seats are gone
pub record IsOfLast (m : Plan) (adjusts : List ℤ) (sched_offset : ℤ) (before after : Seats) (h : Hand) : Type 0 where
  pub own : Own
  pub list : Listed Event
  pub seats : after.seats.items ++ own.seat ∷ [] ≡ before.seats.items
  pub latches : after.latches.items ++ own.latch_seat ∷ [] ≡ before.latches.items
  pub times : after.times.items ++ own.time ∷ [] ≡ before.times.items
  pub events : after.events.items ++ list ∷ [] ≡ before.events.items
  pub hand : h ≡ fresh_hand (post_of m adjusts sched_offset (length after.seats.items)) own list

-- the worker of the thread with this number
pub record IsOfSeats (m : Plan) (adjusts : List ℤ) (sched_offset : ℤ) (s : Seats) (thread : ℕ) (h : Hand) : Type 0 where
  pub own : Own
  pub list : Listed Event
  pub seat : own.seat ≡ slice_index_or s.seats.items thread own.seat
  pub latch_seat : own.latch_seat ≡ slice_index_or s.latches.items thread own.latch_seat
  pub time : own.time ≡ slice_index_or s.times.items thread own.time
  pub events : list ≡ slice_index_or s.events.items thread list
  pub hand : h ≡ fresh_hand (post_of m adjusts sched_offset thread) own list

-- those of all threads, in order
pub record AreOfSeats (m : Plan) (adjusts : List ℤ) (sched_offset : ℤ) (s : Seats) (hands : List Hand) : Type 0 where
  pub count : length hands ≡ length s.seats.items
  pub each : EachFrom (IsOfSeats m adjusts sched_offset s) 0 hands

-- these are all there, each in its slot; and none of so many is
abbrev pub all_there : List Hand → List (Option Hand)
all_there hands = map (λ h. Some h) hands

abbrev pub all_taken : List Hand → List (Option Hand)
all_taken hands = map (λ _. None) hands

-- the workers of all threads in their slots
pub record AreInSlots (m : Plan) (adjusts : List ℤ) (sched_offset : ℤ) (s : Seats) (slots : List (Option Hand)) : Type 0 where
  pub hands : List Hand
  pub there : slots ≡ all_there hands
  pub of_seats : AreOfSeats m adjusts sched_offset s hands

-- ---- the watcher

-- there is all of it or nothing
pub record HaveWatchSeats (w : WatchSeats) : Type 0 where
  pub time : is_some w.time ≡ is_some w.seat
  pub trace : is_some w.trace ≡ is_some w.seat

-- a watcher that has made no check, on these seats and lists; it goes by the last of these stamps
pub record IsOfWatch (stamps : List StableStamp) (sched_offset gtod_offset : ℤ) (stable : Bool) (w : WatchSeats) (h : WatchHand) : Type 0 where
  pub parts : WatchParts
  pub trace : WatchTrace
  pub seat : w.seat ≡ Some parts.seat
  pub latches : parts.latch_seats ≡ w.latches
  pub time : w.time ≡ Some parts.time
  pub sched_offset_is : parts.sched_offset ≡ sched_offset
  pub gtod_offset_is : parts.gtod_offset ≡ gtod_offset
  pub last : (s : StableStamp) → parts.last ≡ boot_stamp gtod_offset s stamps
  pub trace_is : w.trace ≡ Some trace
  pub hand : h ≡ record { parts = Some parts; next = 0; stable = stable; trace = trace }
  pub begins : WatchBegins parts trace stable h

-- one where there are seats for it
pub record IsWatcherOf (stamps : List StableStamp) (sched_offset gtod_offset : ℤ) (stable : Bool) (w : WatchSeats) (watcher : Option WatchHand) : Type 0 where
  pub there : is_some watcher ≡ is_some w.seat
  pub each : All (IsOfWatch stamps sched_offset gtod_offset stable w) (listed watcher)

-- ---- the run on threads: a runner's own

-- the worker made all words that were left
pub record HasRun (s : Shared) (v w : Hand) : Type 0 where
  pub went : WentOn s v w
  pub next : w.next ≡ length (script_of s v.post)

pub record HaveRun (s : Shared) (before after : List Hand) : Type 0 where
  pub count : length after ≡ length before
  pub each : (i : ℕ) (d : Hand) → i < length before → HasRun s (slice_index_or before i d) (slice_index_or after i d)

-- the watcher made all checks that were left
pub record HasWatchRun (s : Shared) (v w : WatchHand) : Type 0 where
  pub went : WatchWentOn s v w
  pub next : w.next ≡ checks_asked s.machine.watchdog

-- so did the one that there is
abbrev pub WatcherRan : Shared → Option WatchHand → Option WatchHand → Type 0
WatcherRan s None after = after ≡ None
WatcherRan s (Some v) after = (w : WatchHand) × (after ≡ Some w) × HasWatchRun s v w
