-- What a contract sees of a run's state under the warp lock, and what one section does to it.
use Rattle.std.specs.Prelude.{◌≡◌, ℕ, ◌+◌, ◌*◌, ◌≤◌, Bool, true, false, not, ◌&&◌, ℤ, pos, List, [], ◌∷◌, ◌++◌, Option, Some, None, option_map, is_some}
use Rattle.atomic_table.specs.Seated.{TableId}
use Rattle.clk_num.specs.Range.{IsNear}
use Rattle.clk_ticket.specs.Time.{Time, Draws, after_draw}
use Rattle.clk_machine.specs.Plan.{Plan}
use Rattle.clk_machine.specs.Time.{counter_at}
use Rattle.clk_record.specs.declared.warp.Side.{Side}
use Rattle.clk_record.specs.declared.warp.Side.TheVariants.{Source, Target}
use Rattle.clk_record.specs.declared.warp.WarpReading.{WarpReading}
use Rattle.clk_record.specs.Sides.{is_same}
use Rattle.clk_record.specs.Falls.{Limits, is_started, is_ended}
use Rattle.clk_record.specs.WarpLimits.{turns_in, limits_in, cpu_of, side_adjust}
use Rattle.clk_warp.specs.declared.section.Section.{Section}
use Rattle.clk_warp.specs.declared.section.Section.TheVariants.{Read, SourceArrives, TargetArrives, Pass}

-- the machine, the ticket table, the CPU that is brought up and what it adds to its counter, whether it is here, the
-- time seat, which the source brings, the readings in lock order, and how many sections were made
pub record Run : Type 0 where
  pub machine : Plan
  pub tickets : TableId
  pub cpu : ℕ
  pub adjust : ℤ
  pub target : Bool
  pub time : Option Time
  pub readings : List WarpReading
  pub sections : ℕ

-- ---- limits

abbrev pub limits_at : Run → Limits
limits_at s = limits_in s.machine s.cpu

-- the most readings that a run makes
abbrev pub most_readings : Plan → ℕ
most_readings m = 2 * (turns_in m.bringup + 10)

-- ---- who is here, and which counter is read

abbrev pub is_here : Side → Run → Bool
is_here Source s = is_some s.time
is_here Target s = s.target

abbrev pub both_here : Run → Bool
both_here s = is_here Source s && is_here Target s

abbrev pub side_ended : Side → Run → Bool
side_ended side s = is_ended (limits_at s) side s.readings

-- a reading is the counter of its side's CPU at its ticket
abbrev pub ShowsCounter : Run → WarpReading → Type 0
ShowsCounter s r = r.tsc ≡ counter_at s.machine (cpu_of r.side s.cpu) (side_adjust r.side s.adjust) r.ticket

-- ---- sections

-- what a section makes of the state
abbrev pub counted : Run → Run
counted s = record s { sections = s.sections + 1 }

abbrev pub change : Run → Section → Run
change s (Read r) = record s { readings = s.readings ++ r ∷ []; time = option_map (λ t. after_draw t r.ticket 1) s.time; sections = s.sections + 1 }
change s (SourceArrives time adjust) = record s { time = Some time; adjust = adjust; sections = s.sections + 1 }
change s TargetArrives = record s { target = true; sections = s.sections + 1 }
change s Pass = counted s

-- a reading: both sides are here, its side has not ended, its ticket was drawn for it, and it shows the counter there
pub record IsReading (s : Run) (r : WarpReading) : Type 0 where
  pub here : both_here s ≡ true
  pub going : side_ended r.side s ≡ false
  pub start : r.start ≡ not (is_started r.side s.readings)
  pub time : Time
  pub has : s.time ≡ Some time
  pub draws : Draws time r.ticket 1 (after_draw time r.ticket 1)
  pub shows : ShowsCounter s r

-- the source brings a seat of the state's ticket table, with a ticket for each reading that the run may make
pub record IsStart (s : Run) (time : Time) (adjust : ℤ) : Type 0 where
  pub table : time.table ≡ s.tickets
  pub enough : most_readings s.machine ≤ time.left
  pub near : IsNear 48 adjust

abbrev pub IsSection : Run → Section → Type 0
IsSection s (Read r) = IsReading s r
IsSection s (SourceArrives time adjust) = (is_here Source s ≡ false) × IsStart s time adjust
IsSection s TargetArrives = is_here Target s ≡ false
IsSection s Pass = Unit {0}

-- the side of a section; a pass is of none
abbrev pub is_of : Side → Section → Bool
is_of side (Read r) = is_same side r.side
is_of side (SourceArrives time adjust) = is_same side Source
is_of side TargetArrives = is_same side Target
is_of side Pass = false

-- ---- states that are made

abbrev pub new_run : Plan → ℕ → ℤ → Time → Run
new_run m cpu adjust time = record {
  machine = m;
  tickets = time.table;
  cpu = cpu;
  adjust = adjust;
  target = true;
  time = Some time;
  readings = [];
  sections = 0;
}

abbrev pub apart_run : Plan → TableId → ℕ → Run
apart_run m tickets cpu = record {
  machine = m;
  tickets = tickets;
  cpu = cpu;
  adjust = pos 0;
  target = false;
  time = None;
  readings = [];
  sections = 0;
}

-- what the source brings, and nothing else
abbrev pub IsStartOf : Side → Run → Option (Time × ℤ) → Type 0
IsStartOf Source s None = ⊥
IsStartOf Source s (Some (time, adjust)) = IsStart s time adjust
IsStartOf Target s None = Unit {0}
IsStartOf Target s (Some start) = ⊥

abbrev pub arrival : Side → Option (Time × ℤ) → Section
arrival Source None = Pass
arrival Source (Some (time, adjust)) = SourceArrives time adjust
arrival Target start = TargetArrives
