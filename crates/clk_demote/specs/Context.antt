-- What contracts see of the watchdog's context, what each call asks of it, and what each call keeps.
use Rattle.std.specs.Prelude.{◌≡◌, ℕ, ◌^◌, ◌<◌, ℤ, false, List, map, length, All, Some}
use Rattle.std.specs.List.{AllZip}
use Rattle.clk_num.specs.Range.{IsNear, IsFrom0To}
use Rattle.clk_ticket.specs.Time.{Time}
use Rattle.clk_machine.specs.Plan.{Plan, cpu_count}
use Rattle.clk_machine.specs.Records.{above_base}
use Rattle.clk_record.specs.declared.stable.StableStamp.{StableStamp}
use Rattle.clk_record.specs.Demotions.{offset_by}
use Rattle.clk_words.specs.declared.view.View.{View}
use Rattle.clk_words.specs.Held.{place_of}
use Rattle.clk_words.specs.Histories.{opens_at, has_lift}
use Rattle.clk_latch.specs.Epoch.{Epoch}
use Rattle.clk_local.specs.Context.{BeginsAtBase}
use Rattle.clk_demote.specs.declared.context.WatchCtx.{WatchCtx}

-- what the watchdog's calls do not change: the machine, its CPUs' adjustments, and what a stable reading adds
pub record Site : Type 0 where
  pub machine : Plan
  pub adjusts : List ℤ
  pub sched_offset : ℤ

abbrev pub site_of : {E S : Type 0} → WatchCtx E S → Site
site_of ctx = record { machine = ctx.machine.now; adjusts = ctx.adjusts.now.items; sched_offset = ctx.sched_offset }

-- what its seats have: of the clock words, of the latches, and of the tickets; and the offset and the stamp that it
-- goes by
pub record Known : Type 0 where
  pub view : View
  pub epochs : List Epoch
  pub time : Time
  pub gtod_offset : ℤ
  pub last : StableStamp

abbrev pub known_of : {E S : Type 0} → (S → Epoch) → WatchCtx E S → Known
known_of epoch ctx = record {
  view = ctx.seat.view;
  epochs = map epoch ctx.latch_seats.items;
  time = ctx.time;
  gtod_offset = ctx.gtod_offset;
  last = ctx.last;
}

-- each seat belongs to its object
pub record IsSeated {E S : Type 0} (fits : E → S → Type 0) (ctx : WatchCtx E S) : Type 0 where
  pub of_words : place_of ctx.seat ≡ ctx.words.now
  pub of_latches : AllZip fits ctx.epochs.now.items ctx.latch_seats.items
  pub of_tickets : ctx.time.table ≡ ctx.tickets.now.table

-- the words, the latches and the adjustments are those of the machine's CPUs
pub record IsOfMachine {E S : Type 0} (ctx : WatchCtx E S) : Type 0 where
  pub words : ctx.words.now.start.cpus ≡ cpu_count ctx.machine.now
  pub latches : length ctx.epochs.now.items ≡ cpu_count ctx.machine.now
  pub adjusts : length ctx.adjusts.now.items ≡ cpu_count ctx.machine.now

-- no word was lifted
abbrev pub IsUnlifted : View → Type 0
IsUnlifted v = (w : ℕ) → w < v.start.cpus → has_lift v.seen w ≡ false

-- what every call asks of its context besides the watchdog's right: the offset of the context is the one that the
-- seat's view holds, and the one of the last stable stamp; and the latches and the words begin near the machine's base,
-- so that every raw reading is near the opening of the words
pub record IsUsable {E S : Type 0} (fits : E → S → Type 0) (epoch : S → Epoch) (ctx : WatchCtx E S) : Type 0 where
  pub seated : IsSeated fits ctx
  pub of_machine : IsOfMachine ctx
  pub adjusts : All (IsNear 47) ctx.adjusts.now.items
  pub sched_offset : IsNear 57 ctx.sched_offset
  pub held : ctx.seat.view.modes.held ≡ Some ctx.gtod_offset
  pub by_last : ctx.gtod_offset ≡ offset_by ctx.sched_offset ctx.last.gtod ctx.last.raw.ns
  pub unlifted : IsUnlifted ctx.seat.view
  pub base : All (BeginsAtBase ctx.machine.now) (map epoch ctx.latch_seats.items)
  pub opening : IsFrom0To (2 ^ 57) (above_base ctx.machine.now (opens_at ctx.seat.view.start))

-- what no call changes
pub record Keeps {E S : Type 0} (before after : WatchCtx E S) : Type 0 where
  pub words : after.words.now ≡ before.words.now
  pub epochs : after.epochs.now ≡ before.epochs.now
  pub adjusts : after.adjusts.now ≡ before.adjusts.now
  pub tickets : after.tickets.now ≡ before.tickets.now
  pub machine : after.machine.now ≡ before.machine.now
  pub sched_offset : after.sched_offset ≡ before.sched_offset
