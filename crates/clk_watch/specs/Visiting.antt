-- What the parts of a visit do. No public contract cites these.
use Rattle.std.specs.Prelude.{◌↔◌, ℕ, ◌+◌, ◌≤◌, Bool, ◌&&◌, IsTrue, ℤ, List, [], ◌∷◌, ◌++◌, map, length, Option, Some}
use Rattle.clk_num.specs.Listed.{Listed}
use Rattle.clk_ticket.specs.Time.{Time}
use Rattle.clk_machine.specs.Plan.{Plan}
use Rattle.clk_record.specs.declared.attempt.Attempt.{Attempt}
use Rattle.clk_record.specs.declared.attempt.Bracket.{Bracket}
use Rattle.clk_record.specs.declared.attempt.Bracket.TheVariants.{Accepted}
use Rattle.clk_record.specs.declared.visit.Outcome.{Outcome}
use Rattle.clk_record.specs.declared.watched.Pair.{Pair}
use Rattle.clk_record.specs.declared.watched.Watched.{Watched}
use Rattle.clk_record.specs.Attempts.{retries_of}
use Rattle.clk_record.specs.Fold.{is_good, IsCurrent, IsReadBy}
use Rattle.clk_watch.specs.Brackets.{Tries}

-- a source was read, if it is not unstable, and these attempts were made and appended
pub record IsRead (m : Plan) (cpu : ℕ) (adjust : ℤ) (s : ℕ) (w : Watched) (before after : Listed Attempt) (t u : Time) (ends : Option Bracket) : Type 0 where
  pub made : List Attempt
  pub tries : Tries m cpu adjust s before made after t u
  pub few : length made ≤ retries_of m + 1
  pub read : IsReadBy m w made ends

-- a TSC source was good, and is current
abbrev pub HasFlags : List Watched → ℕ → ℕ → Bool → Outcome → Bool → Type 0
HasFlags ws reference s tsc outcome flag =
    IsTrue flag ↔ (IsTrue (is_good outcome && tsc) × IsCurrent (map (λ w. w.rating) ws ++ reference ∷ []) s)

-- the pair of an accepted bracket
abbrev pub pair_in : Option Bracket → Pair
pair_in (Some (Accepted cs wd)) = record { cs = cs; wd = wd }
pair_in _ = record { cs = 0; wd = 0 }
