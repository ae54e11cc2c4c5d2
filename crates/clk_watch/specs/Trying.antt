-- What one attempt does. No public contract cites it.
use Rattle.std.specs.Prelude.{◌≡◌, ℕ, ℤ, [], ◌∷◌, Option}
use Rattle.clk_num.specs.Listed.{Listed}
use Rattle.clk_ticket.specs.Time.{Time}
use Rattle.clk_machine.specs.Plan.{Plan}
use Rattle.clk_record.specs.declared.attempt.Attempt.{Attempt}
use Rattle.clk_record.specs.declared.attempt.Bracket.{Bracket}
use Rattle.clk_record.specs.Attempts.{decided}
use Rattle.clk_watch.specs.Brackets.{Tries}

-- an attempt was made and appended, and this is what it decides
pub record TriesOnce (m : Plan) (cpu : ℕ) (adjust : ℤ) (s : ℕ) (before after : Listed Attempt) (t u : Time) (outcome : Option Bracket) : Type 0 where
  pub attempt : Attempt
  pub tries : Tries m cpu adjust s before (attempt ∷ []) after t u
  pub decides : outcome ≡ decided m attempt
