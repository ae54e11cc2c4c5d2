-- What the boot leaves, and what a bring-up after it leaves of that.
use Rattle.std.specs.Prelude.{◌≡◌, ℕ, ◌+◌, ◌*◌, ◌^◌, ◌≤◌, true, ℤ, pos, ◌+ℤ◌, ◌-ℤ◌, List, [], ◌∷◌, ◌++◌, length, flat_map, is_some, Bool, ◌&&◌, Option, Some, None, if◌then◌else◌}
use Rattle.std.specs.List.{All}
use Rattle.clk_base.specs.Blocks.{AllEndBy, Rises}
use Rattle.clk_num.specs.Range.{IsNear, IsFrom0To}
use Rattle.clk_num.specs.Wrapping.{wrap}
use Rattle.clk_ticket.specs.Time.{Tickets, Time, Draws, fresh, share_of}
use Rattle.clk_machine.specs.Plan.{Plan}
use Rattle.clk_machine.specs.Limits.{most_tickets, IsWithinLimits}
use Rattle.clk_machine.specs.Tickets.{boot_tickets, word_tickets, watch_tickets}
use Rattle.clk_machine.specs.Records.{record_zero, above_base}
use Rattle.clk_record.specs.declared.mode.Mode.TheVariants.{Stable, PerCpu}
use Rattle.clk_record.specs.declared.up.CpuUp.{CpuUp}
use Rattle.clk_record.specs.declared.up.BroughtUp.{BroughtUp}
use Rattle.clk_record.specs.Demotions.{IsDemotion}
use Rattle.clk_record.specs.declared.stable.StableStamp.{StableStamp}
use Rattle.clk_record.specs.declared.stable.Demotion.{Demotion}
use Rattle.clk_words.specs.declared.opening.Opening.{Opening}
use Rattle.clk_words.specs.Bounds.{IsGtod, opens_of, IsOpening}
use Rattle.clk_lawful.specs.TicketOrder.{boot_blocks, up_blocks}
use Rattle.clk_lawful.specs.Checks.{listed, demotion_blocks}
use Rattle.clk_lawful.specs.Demoted.{boot_stamp}
use Rattle.clk_lawful.specs.RightReadings.{IsRightStamp, taken_stamp}
use Rattle.clk_lawful.specs.Stamps.{no_pair, first_pair, last_pair}
use Rattle.clk_latch.specs.Epoch.{Epoch}
use Rattle.clk_threads.specs.declared.booted.Booted.{Booted}
use Rattle.clk_threads.specs.declared.booted.Started.{Started}

-- the epoch drew ticket 0 of the whole of a table
abbrev pub HasEpoch : Tickets → Time → Type 0
HasEpoch tickets time = Draws (fresh tickets.table most_tickets 0) 0 1 time

-- ---- a stamp

-- the boot may stamp: by record 0, on the owner's seat, with two tickets
pub record MayStampAtBoot (m : Plan) (tickets : Tickets) (time : Time) (epoch : Epoch) : Type 0 where
  pub owner : epoch.owner ≡ true
  pub records : epoch.records ≡ record_zero m ∷ []
  pub table : time.table ≡ tickets.table
  pub left : 2 ≤ time.left

-- the stamp is right, drew the next two tickets, and its values are small
pub record HasStamped (m : Plan) (before after : Time) (epoch : Epoch) (s : StableStamp) : Type 0 where
  pub right : IsRightStamp m s
  pub gtod_small : IsGtod s.gtod
  pub raw_small : IsFrom0To (6 * 2 ^ 52) (above_base m s.raw.ns)
  pub offset : s.offset ≡ wrap (s.raw.ns -ℤ s.gtod)
  pub middle : Time
  pub first : Draws before s.gtod_ticket 1 middle
  pub second : Draws middle s.raw.ticket 1 after
  pub owner : epoch.owner ≡ true
  pub records : epoch.records ≡ record_zero m ∷ []

-- ---- the start

-- the offsets by these stamps: the first takes monotonic time to the raw clock, and in a stable start the last takes
-- the raw clock there
abbrev pub gtod_offset_of : List StableStamp → ℤ
gtod_offset_of stamps = wrap ((first_pair no_pair stamps).raw -ℤ (first_pair no_pair stamps).gtod)

abbrev pub stable_offset_of : List StableStamp → ℤ
stable_offset_of stamps = wrap (((last_pair no_pair stamps).gtod +ℤ gtod_offset_of stamps) -ℤ (last_pair no_pair stamps).raw)

abbrev pub sched_offset_of : Plan → List StableStamp → ℤ
sched_offset_of m stamps = if m.stable then stable_offset_of stamps else pos 0

-- the clock words open by the last stamp, or by a demotion at boot, after which the clock is per-CPU
abbrev pub opening_of : Plan → List StableStamp → Option Demotion → Opening
opening_of m stamps None = record {
  mode = if m.stable then Stable else PerCpu;
  offset = gtod_offset_of stamps;
  tick_gtod = (last_pair no_pair stamps).gtod;
  tick_raw = (last_pair no_pair stamps).raw;
}
opening_of m stamps (Some d) = record { mode = PerCpu; offset = gtod_offset_of stamps; tick_gtod = d.gtod; tick_raw = d.raw.ns }

-- the stamps of a start: right, and such that the words open near the machine's base
pub record AreStamps (m : Plan) (stamps : List StableStamp) : Type 0 where
  pub count : length stamps ≡ (if m.stable then 2 else 1)
  pub right : All (IsRightStamp m) stamps
  pub offsets : All (λ s. s.offset ≡ gtod_offset_of stamps) stamps
  pub opening : IsOpening (opening_of m stamps None)
  pub near : IsFrom0To (2 ^ 57) (above_base m (opens_of (opening_of m stamps None)))
  pub sched_near : IsNear 57 (sched_offset_of m stamps)

-- a demotion at boot after these stamps: it took a right stamp of CPU 0, went by the last of them, and the words open
-- by it near the machine's base
pub record IsBootDemotion (m : Plan) (stamps : List StableStamp) (d : Demotion) : Type 0 where
  pub right : IsRightStamp m (taken_stamp d)
  pub is : (s : StableStamp) → IsDemotion (sched_offset_of m stamps) (gtod_offset_of stamps) (boot_stamp (gtod_offset_of stamps) s stamps) d
  pub opening : IsOpening (opening_of m stamps (Some d))
  pub near : IsFrom0To (2 ^ 57) (above_base m (opens_of (opening_of m stamps (Some d))))

abbrev pub IsDemotedAtBootBy : Plan → List StableStamp → Option Demotion → Type 0
IsDemotedAtBootBy m stamps demotion = (d : Demotion) → demotion ≡ Some d → IsBootDemotion m stamps d

-- there is one exactly where a bring-up of a stable start failed
pub record FitsBoot (m : Plan) (stamps : List StableStamp) (failed : Bool) (demotion : Option Demotion) : Type 0 where
  pub called : is_some demotion ≡ (m.stable && failed)
  pub is : IsDemotedAtBootBy m stamps demotion

-- what such a demotion draws
abbrev pub demotion_tickets : Plan → Bool → ℕ
demotion_tickets m failed = if m.stable && failed then 2 else 0

-- the seat drew the tickets of the epoch, of these stamps and of the readings of these CPUs' bring-up, the first of the
-- run, and has the rest
pub record HasDrawnFirst (tickets : Tickets) (stamps : List StableStamp) (ups : List CpuUp) (time : Time) : Type 0 where
  pub table : time.table ≡ tickets.table
  pub blocks : time.blocks ≡ boot_blocks 0 stamps ++ up_blocks ups
  pub share : share_of time ≡ most_tickets
  pub rises : Rises time.blocks
  pub ends : AllEndBy time.seen time.blocks
  pub within : time.seen ≤ most_tickets

-- and then those of a demotion at boot
pub record HasDrawnBefore (tickets : Tickets) (stamps : List StableStamp) (ups : List CpuUp) (demotion : Option Demotion) (time : Time) : Type 0 where
  pub table : time.table ≡ tickets.table
  pub blocks : time.blocks ≡ boot_blocks 0 stamps ++ up_blocks ups ++ flat_map demotion_blocks (listed demotion)
  pub share : share_of time ≡ most_tickets
  pub rises : Rises time.blocks
  pub ends : AllEndBy time.seen time.blocks
  pub within : time.seen ≤ most_tickets

pub record HasStarted (m : Plan) (tickets : Tickets) (time : Time) (s : Started) : Type 0 where
  pub stamps : AreStamps m s.stamps.items
  pub drawn : HasDrawnFirst tickets s.stamps.items [] time
  pub left : time.left + boot_tickets m ≡ most_tickets
  pub sched_offset : s.sched_offset ≡ sched_offset_of m s.stamps.items
  pub gtod_offset : s.gtod_offset ≡ gtod_offset_of s.stamps.items

-- ---- the boot

-- all that it leaves but the tickets
pub record HasBooted (m : Plan) (b : Booted) : Type 0 where
  pub limits : IsWithinLimits m
  pub machine : b.machine ≡ m
  pub total : b.tickets.total ≡ most_tickets
  pub epoch : b.epoch ≡ record_zero m
  pub stamps : AreStamps m b.stamps.items
  pub sched_offset : b.sched_offset ≡ sched_offset_of m b.stamps.items
  pub gtod_offset : b.gtod_offset ≡ gtod_offset_of b.stamps.items

-- and its own are drawn
pub record IsBooted (m : Plan) (b : Booted) : Type 0 where
  pub boot : HasBooted m b
  pub drawn : HasDrawnFirst b.tickets b.stamps.items [] b.time
  pub left : b.time.left + boot_tickets m ≡ most_tickets

-- and so are those of this bring-up after them; those of a demotion at boot, of all scripts and of the watchdog are
-- left
pub record IsBootedFor (m : Plan) (up : BroughtUp) (b : Booted) : Type 0 where
  pub boot : HasBooted m b
  pub drawn : HasDrawnFirst b.tickets b.stamps.items up.cpus.items b.time
  pub left : demotion_tickets m up.failed + (word_tickets m + watch_tickets m m.watchdog) ≤ b.time.left

-- and so are those of this demotion at boot, if there is one; those of all scripts and of the watchdog are left
pub record IsDemotedFor (m : Plan) (up : BroughtUp) (demotion : Option Demotion) (b : Booted) : Type 0 where
  pub boot : HasBooted m b
  pub fits : FitsBoot m b.stamps.items up.failed demotion
  pub drawn : HasDrawnBefore b.tickets b.stamps.items up.cpus.items demotion b.time
  pub left : word_tickets m + watch_tickets m m.watchdog ≤ b.time.left
