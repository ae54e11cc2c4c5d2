-- What a pair of sides leaves behind.
use Rattle.std.specs.Prelude.{◌≡◌, ℕ, ◌+◌, ◌<◌, true, ℤ, List, [], ◌∷◌, ◌++◌, map, length}
use Rattle.std.specs.List.{All}
use Rattle.clk_base.specs.declared.block.Block.{Block}
use Rattle.clk_base.specs.Blocks.{Rises}
use Rattle.clk_ticket.specs.Sizes.{most_tickets}
use Rattle.clk_ticket.specs.Time.{Time, after_draw, share_of}
use Rattle.clk_machine.specs.Plan.{Plan}
use Rattle.clk_machine.specs.Time.{counter_at}
use Rattle.clk_record.specs.declared.warp.Side.TheVariants.{Source, Target}
use Rattle.clk_record.specs.declared.warp.WarpReading.{WarpReading}
use Rattle.clk_record.specs.declared.warp.WarpRun.{WarpRun}
use Rattle.clk_record.specs.WarpLimits.{limits_in, cpu_of, side_adjust}
use Rattle.clk_record.specs.Warps.{IsWarpRun}
use Rattle.clk_warp.specs.declared.section.Section.{Section}
use Rattle.clk_warp.specs.Run.{Run, side_ended}
use Rattle.clk_warp.specs.Sections.{after, AreSections}
use Rattle.clk_warp.specs.Turns.{Lock, Turn, Closes}
use Rattle.clk_warp.specs.Working.{Works}

-- the seat once the tickets of some readings are drawn
abbrev pub drawn_for : Time → List WarpReading → Time
drawn_for t [] = t
drawn_for t (r ∷ rs) = drawn_for (after_draw t r.ticket 1) rs

-- the block of a reading's ticket
abbrev pub block_of : WarpReading → Block
block_of r = record { first = r.ticket; count = 1 }

-- the tickets of the readings are exactly those that were drawn, in lock order, and each is one of the table's
pub record DrawsFor (before : Time) (rs : List WarpReading) (now : Time) : Type 0 where
  pub is : now ≡ drawn_for before rs
  pub within : All (λ r. r.ticket < most_tickets) rs
  pub table : now.table ≡ before.table
  pub left : now.left + length rs ≡ before.left
  pub blocks : now.blocks ≡ before.blocks ++ map block_of rs
  pub rises : Rises before.blocks → Rises now.blocks
  pub share : share_of now ≡ share_of before

-- a finished run of a CPU with this adjustment
pub record IsPaired (m : Plan) (cpu : ℕ) (adjust : ℤ) (before : Time) (run : WarpRun) (now : Time) : Type 0 where
  pub run_is : IsWarpRun (limits_in m cpu) run
  pub counters : All (λ r. r.tsc ≡ counter_at m (cpu_of r.side cpu) (side_adjust r.side adjust) r.ticket) run.readings.items
  pub tickets : DrawsFor before run.readings.items now

-- both sides have ended
pub record IsFinished (first : Run) (state : Run) : Type 0 where
  pub all : List Section
  pub legal : AreSections first all
  pub state_is : state ≡ after first all
  pub source_ended : side_ended Source state ≡ true
  pub target_ended : side_ended Target state ≡ true

-- each by its own side's sections
pub record HasRun (lock : Lock) (source target : Turn) (state : Run) : Type 0 where
  pub source_now : Turn
  pub target_now : Turn
  pub source_readings : ℕ
  pub target_readings : ℕ
  pub source_works : Works lock Source source source_readings source_now
  pub target_works : Works lock Target target target_readings target_now
  pub closes : Closes lock.first source_now target_now state
