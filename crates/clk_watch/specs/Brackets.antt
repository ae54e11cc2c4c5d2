-- Brackets: readings of a source between readings of the reference.
use Rattle.std.specs.Prelude.{◌≡◌, ℕ, ◌+◌, ◌*◌, ℤ, List, ◌++◌, length}
use Rattle.std.specs.List.{All, flat_map}
use Rattle.clk_num.specs.Listed.{Listed}
use Rattle.clk_ticket.specs.Time.{Time}
use Rattle.clk_machine.specs.Plan.{Plan}
use Rattle.clk_record.specs.declared.attempt.Attempt.{Attempt}
use Rattle.clk_record.specs.declared.attempt.Bracket.{Bracket}
use Rattle.clk_record.specs.Attempts.{IsRightAttempt, IsBracket}
use Rattle.clk_watch.specs.Draws.{DrawsEach}

-- ---- what a call does to the list of attempts

-- these attempts at source s were made and appended, each right at the tickets that were drawn for it
pub record Tries (m : Plan) (cpu : ℕ) (adjust : ℤ) (s : ℕ) (before : Listed Attempt) (made : List Attempt) (after : Listed Attempt) (t u : Time) : Type 0 where
  pub attempts : after.items ≡ before.items ++ made
  pub room : after.room + length made ≡ before.room
  pub right : All (IsRightAttempt m cpu adjust s) made
  pub draws : DrawsEach (flat_map (λ a. a.ticket) made) t u
  pub left : u.left + 4 * length made ≡ t.left

-- a bracket of source s was made, with this outcome
pub record Brackets (m : Plan) (cpu : ℕ) (adjust : ℤ) (s : ℕ) (before after : Listed Attempt) (t u : Time) (outcome : Bracket) : Type 0 where
  pub made : List Attempt
  pub tries : Tries m cpu adjust s before made after t u
  pub bracket : IsBracket m made outcome
