-- A `TurnSeat` as contracts see it, and what it keeps true. No public contract cites it.
use Rattle.std.specs.Prelude.{◌≡◌, true, false, [], ◌∷◌, Some, None}
use Rattle.clk_warp.specs.declared.seat.TurnSeat.TheInside.{Inside}
use Rattle.clk_warp.specs.declared.view.Role.TheVariants.{Of}
use Rattle.clk_warp.specs.declared.view.Stage.TheVariants.{Away, Inside as InsideStage}
use Rattle.clk_warp.specs.Turns.{Turn}

abbrev pub turn_of : Inside → Turn
turn_of s = record {
  lock = record { table = s.seat.table_id; first = s.first.value };
  side = s.side;
  inside = s.inside;
  ticket = s.ticket;
  known = s.seat.me.0.known;
  own = s.seat.me.0.own;
}

-- the seat is one of its side, and holds the empty slot exactly while it is inside
pub record IsSeated (s : Inside) : Type 0 where
  pub role : s.seat.me.0.role ≡ Of s.side
  pub first_is : s.seat.me.0.first ≡ Some s.first.value
  pub outside : s.inside ≡ false → (s.seat.me.0.stage ≡ Away) × (s.seat.me.1 ≡ [])
  pub within : s.inside ≡ true → (s.seat.me.0.stage ≡ InsideStage) × (s.seat.me.1 ≡ (0, None) ∷ [])
