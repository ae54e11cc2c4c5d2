-- What contracts see of a thread's context, what each call asks of it, and what each call keeps.
use Rattle.std.specs.Prelude.{◌≡◌, ℕ, ◌+◌, ◌^◌, ◌<◌, ℤ, slice_index_or}
use Rattle.clk_num.specs.Range.{IsNear, IsFrom0To}
use Rattle.clk_ticket.specs.Time.{Time, share_of}
use Rattle.clk_words.specs.declared.view.View.{View}
use Rattle.clk_words.specs.Kinds.{cpu_of}
use Rattle.clk_words.specs.Held.{place_of}
use Rattle.clk_words.specs.Histories.{opens_at}
use Rattle.clk_words.specs.Knowing.{HasFoundPerCpu, IsOwner, IsReadingKind, StampsAreWhole}
use Rattle.clk_words.specs.Calls.{KeepsSeat}
use Rattle.clk_machine.specs.Plan.{Plan, cpu_count}
use Rattle.clk_machine.specs.Records.{base_of, above_base}
use Rattle.clk_machine.specs.declared.reading.Published.{Published}
use Rattle.clk_latch.specs.Epoch.{Epoch}
use Rattle.clk_local.specs.declared.context.Ctx.{Ctx}

-- where a thread stands, what it adds to a stable reading, and its own number for the call: what its calls do not
-- change
pub record Site : Type 0 where
  pub machine : Plan
  pub cpu : ℕ
  pub adjust : ℤ
  pub sched_offset : ℤ
  pub call : ℕ

abbrev pub site_of : {E S : Type 0} → Ctx E S → Site
site_of ctx = record { machine = ctx.counter.machine.now; cpu = ctx.counter.cpu; adjust = ctx.counter.adjust; sched_offset = ctx.sched_offset; call = ctx.call }

-- what a thread's seats have: of the clock words, of its latch, and of the tickets
pub record Known : Type 0 where
  pub view : View
  pub epoch : Epoch
  pub time : Time

abbrev pub known_of : {E S : Type 0} → (S → Epoch) → Ctx E S → Known
known_of epoch ctx = record { view = ctx.seat.view; epoch = epoch ctx.latch_seat; time = ctx.time }

-- record 0 of a latch has the machine's base as its ns
pub record BeginsAtBase (m : Plan) (e : Epoch) : Type 0 where
  pub zero : (d : Published) → (slice_index_or e.records 0 d).ns ≡ base_of m

-- what every call asks of its context: each seat belongs to its object, the words' seat shows a CPU's kind, the counter
-- is that CPU's, the words were made with the machine's tick, and the latch and the words begin near the machine's
-- base, so that every raw reading is near the opening of the words
pub record IsUsable {E S : Type 0} (fits : E → S → Type 0) (epoch : S → Epoch) (ctx : Ctx E S) : Type 0 where
  pub of_words : place_of ctx.seat ≡ ctx.words.now
  pub of_latch : fits ctx.epochs.now ctx.latch_seat
  pub of_tickets : ctx.time.table ≡ ctx.tickets.now.table
  pub reading : IsReadingKind ctx.seat.view.kind
  pub cpu_is : ctx.counter.cpu ≡ cpu_of ctx.seat.view.kind
  pub machine_cpu : ctx.counter.cpu < cpu_count ctx.counter.machine.now
  pub near : IsNear 47 ctx.counter.adjust
  pub tick_is : ctx.words.now.start.tick ≡ ctx.counter.machine.now.tick
  pub offset : IsNear 59 ctx.sched_offset
  pub base : BeginsAtBase ctx.counter.machine.now (epoch ctx.latch_seat)
  pub opening : IsFrom0To (2 ^ 57) (above_base ctx.counter.machine.now (opens_at ctx.seat.view.start))

-- what a call that stamps asks besides: the right to the CPU's pair, with as many raws as GTODs
pub record MayStamp (v : View) : Type 0 where
  pub owner : IsOwner v
  pub whole : StampsAreWhole v

-- the view v with what w has found by looks at the mode
abbrev pub looked_as : View → View → View
looked_as w v = record v { modes = record v.modes { looks = w.modes.looks; found = w.modes.found } }

-- what looks leave too: what a seat is and may do, and that it has found the mode per-CPU
pub record KeepsRole (v w : View) : Type 0 where
  pub seat : KeepsSeat (looked_as w v) w
  pub found : HasFoundPerCpu v → HasFoundPerCpu w

-- what no call changes, and that the next call may use the context again, and may stamp if this one might
pub record Keeps {E S : Type 0} (fits : E → S → Type 0) (epoch : S → Epoch) (before after : Ctx E S) : Type 0 where
  pub words : after.words.now ≡ before.words.now
  pub epochs : after.epochs.now ≡ before.epochs.now
  pub tickets : after.tickets.now ≡ before.tickets.now
  pub site : site_of after ≡ site_of before
  pub role : KeepsRole before.seat.view after.seat.view
  pub usable : IsUsable fits epoch after
  pub may_stamp : MayStamp before.seat.view → MayStamp after.seat.view

-- n tickets were drawn from what was left to the seat, and its share of them all is the same
pub record Spends (n : ℕ) (before after : Time) : Type 0 where
  pub table_is : after.table ≡ before.table
  pub left : after.left + n ≡ before.left
  pub share : share_of after ≡ share_of before
