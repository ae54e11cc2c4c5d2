-- How a worker goes on with its script: from how it was made to how it is.
use Rattle.std.specs.Prelude.{◌≡◌, ℕ, zero, suc, ◌+◌, ◌*◌, ◌^◌, ◌<◌, ◌≤◌, List, [], ◌++◌, length, take, drop, slice_index_or, Option, Some}
use Rattle.std.specs.List.{sum_by}
use Rattle.clk_num.specs.Listed.{Listed}
use Rattle.clk_num.specs.Range.{IsNear, IsFrom0To}
use Rattle.clk_ticket.specs.Time.{share_of}
use Rattle.clk_machine.specs.Plan.{cpu_count, threads_of, thread_at}
use Rattle.clk_machine.specs.Limits.{IsWithinLimits}
use Rattle.clk_machine.specs.Records.{above_base}
use Rattle.clk_machine.specs.Tickets.{tickets_of}
use Rattle.clk_machine.specs.declared.script.Word.{Word}
use Rattle.clk_words.specs.Held.{place_of}
use Rattle.clk_words.specs.Histories.{opens_at}
use Rattle.clk_words.specs.Kinds.{cpu_of}
use Rattle.clk_words.specs.Knowing.{IsReadingKind}
use Rattle.clk_lawful.specs.ScriptEvents.{Calls, events_at, AreEventsOf}
use Rattle.clk_lawful.specs.declared.event.Event.{Event}
use Rattle.clk_lawful.specs.declared.event.EventKind.{EventKind}
use Rattle.clk_worker.specs.Running.{IsSound, OwnsClock, Runs}
use Rattle.clk_worker.specs.Calling.{Context, site_at, has, HasSeatsOf, IsContext, updates_in, Makes}
use Rattle.clk_worker.specs.declared.shared.Shared.{Shared}
use Rattle.clk_worker.specs.declared.own.Post.{Post}
use Rattle.clk_worker.specs.declared.own.Own.{Own}

-- what contracts see of a worker: its next word, its seats, and the events that it kept
pub record Hand : Type 0 where
  pub post : Post
  pub next : ℕ
  pub own : Option Own
  pub events : Listed Event

-- ---- its script

abbrev pub script_of : Shared → Post → List Word
script_of s p = (thread_at s.machine p.thread).1

-- the words from this one on
abbrev pub words_from : Shared → Post → ℕ → List Word
words_from s p n = drop n (script_of s p)

-- ---- what it stands on

-- the shared things are those of one machine
pub record FitTogether (s : Shared) : Type 0 where
  pub limits : IsWithinLimits s.machine
  pub cpus : s.words.start.cpus ≡ cpu_count s.machine
  pub latches : length s.epochs.items ≡ cpu_count s.machine
  pub tick : s.words.start.tick ≡ s.machine.tick
  pub opening : IsFrom0To (2 ^ 57) (above_base s.machine (opens_at s.words.start))

-- the seats serve a thread of the machine on its CPU, with so many of the run's tickets, drawn or left
pub record SeatsServe (s : Shared) (p : Post) (share : ℕ) (o : Own) : Type 0 where
  pub shared : FitTogether s
  pub thread : p.thread < length (threads_of s.machine)
  pub stands : p.cpu ≡ (thread_at s.machine p.thread).0
  pub cpu : p.cpu < cpu_count s.machine
  pub near : IsNear 47 p.adjust
  pub offset : IsNear 59 p.sched_offset
  pub of_words : place_of o.seat ≡ s.words
  pub of_latch : o.latch_seat.latch ≡ slice_index_or s.epochs.items p.cpu o.latch_seat.latch
  pub of_tickets : o.time.table ≡ s.tickets.table
  pub reading : IsReadingKind o.seat.view.kind
  pub cpu_is : p.cpu ≡ cpu_of o.seat.view.kind
  pub sound : IsSound (site_at s p 0) share (has o)
  -- a CPU's own thread owns its clock
  pub owner : p.thread < cpu_count s.machine → OwnsClock (site_at s p 0) (has o)

-- what the words from n on need is left: of tickets, of updates, and of room for three events a word
pub record HasEnough (s : Shared) (p : Post) (n : ℕ) (o : Own) (events : Listed Event) : Type 0 where
  pub tickets : sum_by tickets_of (words_from s p n) ≤ o.time.left
  pub updates : sum_by updates_in (words_from s p n) ≤ o.latch_seat.epoch.left
  pub room : 3 * length (words_from s p n) ≤ events.room

-- a thread may begin with these seats and this empty list
pub record MayBegin (s : Shared) (p : Post) (o : Own) (events : Listed Event) : Type 0 where
  pub serves : SeatsServe s p (share_of o.time) o
  pub enough : HasEnough s p 0 o events
  pub empty : events.items ≡ []

-- ---- what it made

-- the first n words, by seats that it began with
pub record HasMade (s : Shared) (p : Post) (began : Own) (n : ℕ) (o : Own) (events : Listed Event) : Type 0 where
  pub within : n ≤ length (script_of s p)
  pub script : AreEventsOf p.cpu 0 (take n (script_of s p)) events.items
  pub runs : Runs (site_at s p 0) (has began) events.items (has o)
  pub few : length events.items ≤ 3 * n
  pub serves : SeatsServe s p (share_of began.time) o
  pub enough : HasEnough s p n o events

-- from how a worker was made to how it is
pub record IsGoing (s : Shared) (first h : Hand) : Type 0 where
  pub began : Own
  pub began_is : first.own ≡ Some began
  pub own : Own
  pub own_is : h.own ≡ Some own
  pub post : h.post ≡ first.post
  pub made : HasMade s h.post began h.next own h.events

-- made on these seats and this list, it is as it was made, with whatever shared things they may begin
abbrev pub Begins : Post → Own → Listed Event → Hand → Type 0
Begins p o events h = (s : Shared) → MayBegin s p o events → IsGoing s h h

-- it is one of the run's workers
abbrev pub BelongsTo : Shared → Hand → Type 0
BelongsTo s h = (first : Hand) × IsGoing s first h

-- it went on from v to w, however it had been made
abbrev pub WentOn : Shared → Hand → Hand → Type 0
WentOn s v w = (first : Hand) → IsGoing s first v → IsGoing s first w

-- ---- one word

-- this word took the seats and the events on, in a context of the thread
pub record MakesAt (s : Shared) (p : Post) (m : ℕ) (o : Own) (a : Listed Event) (after : Own) (b : Listed Event) : Type 0 where
  pub word : Word
  pub word_is : word ≡ slice_index_or (script_of s p) m word
  pub before : Context
  pub context : IsContext s p m o before
  pub later : Context
  pub makes : Makes word before a later b
  pub seats : HasSeatsOf later after

-- word m was made: the events that it calls for were appended, and the worker went on
pub record MakesWord (s : Shared) (m : ℕ) (v w : Hand) : Type 0 where
  pub next : w.next ≡ m + 1
  pub word : Word
  pub word_is : word ≡ slice_index_or (script_of s v.post) m word
  pub kinds : List EventKind
  pub calls : Calls v.post.cpu word kinds
  pub events : w.events.items ≡ v.events.items ++ events_at m kinds
  pub went : WentOn s v w

-- so many words were made from v to w, one after another
abbrev pub MakesWords : ℕ → Shared → Hand → Hand → Type 0
MakesWords zero s v w = w ≡ v
MakesWords (suc n) s v w = (u : Hand) × MakesWords n s v u × MakesWord s u.next u w
