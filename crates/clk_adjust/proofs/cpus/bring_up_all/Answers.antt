use Rattle.std.proofs.Common.{ℕ, subst}
use Rattle.std.specs.List.{All}
use Rattle.clk_adjust.specs.Outcomes.{HasRoom}
use Rattle.clk_adjust.proofs.Drawing.{drawn_none}
use Rattle.clk_adjust.proofs.cpus.bring_up_all.Goals as goal

pub returns-in_err-ups-clause-drawn : goal.returns-in_err-ups-clause-drawn
returns-in_err-ups-clause-drawn g c = drawn_none _ _

pub returns-in_err-rooms-clause-drawn : goal.returns-in_err-rooms-clause-drawn
returns-in_err-rooms-clause-drawn g c = drawn_none _ _

pub bring_up_each-requires-clause-runs_room : goal.bring_up_each-requires-clause-runs_room
bring_up_each-requires-clause-runs_room g c κs within =
    subst (λ (n : ℕ). All (HasRoom n) c.in_ok-rooms.rooms.items) c.runs_of.ensures c.in_ok-rooms.ensures.each
