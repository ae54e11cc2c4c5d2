-- What one side of a warp run does.
use Rattle.std.specs.Prelude.{◌≡◌, ℕ, ◌+◌, true, false, List, [], ◌∷◌, length}
use mathlib.Core.List.{IsPrefix}
use Rattle.clk_record.specs.declared.warp.Side.{Side}
use Rattle.clk_record.specs.declared.warp.WarpReading.{WarpReading}
use Rattle.clk_warp.specs.declared.section.Section.{Section}
use Rattle.clk_warp.specs.declared.section.Section.TheVariants.{Read, SourceArrives, TargetArrives, Pass}
use Rattle.clk_warp.specs.Run.{both_here, side_ended}
use Rattle.clk_warp.specs.Sections.{after, sections_of}
use Rattle.clk_warp.specs.Turns.{Lock, Turn}

-- the readings among some sections
abbrev pub readings_of : List Section → List WarpReading
readings_of [] = []
readings_of (Read r ∷ es) = r ∷ readings_of es
readings_of (SourceArrives time adjust ∷ es) = readings_of es
readings_of (TargetArrives ∷ es) = readings_of es
readings_of (Pass ∷ es) = readings_of es

-- the seat of a side, outside, of a lock whose first state had no section, and it has found both sides here
pub record IsReady (lock : Lock) (side : Side) (seat : Turn) : Type 0 where
  pub lock_is : seat.lock ≡ lock
  pub side_is : seat.side ≡ side
  pub outside : seat.inside ≡ false
  pub first_readings : lock.first.readings ≡ []
  pub first_sections : lock.first.sections ≡ 0
  pub here : both_here (after lock.first seat.known) ≡ true
  pub mine : sections_of side seat.known ≡ sections_of side seat.own

-- n sections more, by which its side has ended
pub record Works (lock : Lock) (side : Side) (before : Turn) (n : ℕ) (now : Turn) : Type 0 where
  pub ready : IsReady lock side now
  pub grown : IsPrefix before.known now.known
  pub count : length now.own ≡ length before.own + n
  pub ended : side_ended side (after lock.first now.known) ≡ true
