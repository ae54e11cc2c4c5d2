-- A `TimeSeat` as contracts see it.
use Rattle.std.specs.Prelude.{◌≡◌, ℕ, []}
use Rattle.atomic_table.specs.declared.shared.Seat.{Seat}
use Rattle.clk_base.specs.Blocks.{AllEndBy}
use Rattle.clk_ticket.specs.Time.{Time}
use Rattle.clk_ticket.specs.declared.rule.Knows.{Knows}

-- what the seat's view says
abbrev pub time_of : Seat (Unit {0}) Knows → Time
time_of s = record { table = s.table_id; left = s.me.0.left; blocks = s.me.0.blocks; seen = s.me.0.seen }

-- the number at hand is the budget, no slot is held, and all blocks lie below what was seen
pub record IsSeated (left : ℕ) (s : Seat (Unit {0}) Knows) : Type 0 where
  pub budget : left ≡ s.me.0.left
  pub empty : s.me.1 ≡ []
  pub behind : AllEndBy s.me.0.seen s.me.0.blocks
