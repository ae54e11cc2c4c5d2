-- Attempts at a source between readings of the reference, and what they decide.
use Rattle.std.specs.Prelude.{◌≡◌, ℕ, ◌/◌, ◌≤◌, nat_lt, nat_le, ℤ, List, [], ◌∷◌, ◌++◌, length, slice_index, Option, Some, None, unwrap_or, if◌then◌else◌}
use Rattle.std.specs.List.{All}
use Rattle.clk_num.specs.Conversion.{convert}
use Rattle.clk_num.specs.Masked.{low_bits, masked_delta}
use Rattle.clk_machine.specs.declared.parts.WatchPart.{WatchPart}
use Rattle.clk_machine.specs.Plan.{Plan, count_of}
use Rattle.clk_machine.specs.Time.{counter_at, source_plan_at, source_at, reference_at, reference_rate}
use Rattle.clk_record.specs.declared.attempt.Attempt.{Attempt}
use Rattle.clk_record.specs.declared.attempt.Bracket.{Bracket}
use Rattle.clk_record.specs.declared.attempt.Bracket.TheVariants.{Accepted, Skip, Slow}

-- ---- the numbers of a watchdog; without a table of it they are 0

abbrev pub skew_in : Option WatchPart → ℕ
skew_in None = 0
skew_in (Some w) = count_of w.skew

abbrev pub skew_of : Plan → ℕ
skew_of m = skew_in m.watchdog

abbrev pub retries_in : Option WatchPart → ℕ
retries_in None = 0
retries_in (Some w) = count_of w.retries

abbrev pub retries_of : Plan → ℕ
retries_of m = retries_in m.watchdog

-- ---- readings

-- the watchdog reads the low bits of the reference
abbrev pub reference_shown : Plan → ℕ → ℕ
reference_shown m k = low_bits (count_of m.reference.bits) (reference_at m k)

-- a TSC source is the counter of the CPU that reads it
abbrev pub source_reading : Plan → ℕ → ℤ → ℕ → ℕ → ℕ
source_reading m cpu adjust s k = if (source_plan_at m s).tsc then counter_at m cpu adjust k else source_at m s k

-- the ns of the reference from one of its readings to another
abbrev pub reference_ns : Plan → ℕ → ℕ → ℕ
reference_ns m last now = convert (masked_delta now last (count_of m.reference.bits)) (reference_rate m)

-- the four readings of an attempt at source s, on this CPU, are those at its tickets
pub record IsRightAttempt (m : Plan) (cpu : ℕ) (adjust : ℤ) (s : ℕ) (a : Attempt) : Type 0 where
  pub tickets : length a.ticket ≡ 4
  pub values : length a.value ≡ 4
  pub before : slice_index a.value 0 ≡ reference_shown m (slice_index a.ticket 0)
  pub source : slice_index a.value 1 ≡ source_reading m cpu adjust s (slice_index a.ticket 1)
  pub after : slice_index a.value 2 ≡ reference_shown m (slice_index a.ticket 2)
  pub again : slice_index a.value 3 ≡ reference_shown m (slice_index a.ticket 3)

-- ---- what attempts decide

-- an attempt is accepted where its reading of the source took at most the skew; else it says to skip where the
-- reference's two readings after that alone took more than half the skew, rounded down; else it decides nothing
abbrev pub decided : Plan → Attempt → Option Bracket
decided m a =
    if nat_le (reference_ns m (slice_index a.value 0) (slice_index a.value 2)) (skew_of m)
    then Some (Accepted (slice_index a.value 1) (slice_index a.value 0))
    else (if nat_lt (skew_of m / 2) (reference_ns m (slice_index a.value 2) (slice_index a.value 3)) then Some Skip else None)

-- all attempts but the last decide nothing, and the bracket is slow where none does after all retries
pub record IsBracket (m : Plan) (attempts : List Attempt) (outcome : Bracket) : Type 0 where
  pub before : List Attempt
  pub last : Attempt
  pub attempts_are : attempts ≡ before ++ last ∷ []
  pub undecided : All (λ a. decided m a ≡ None) before
  pub few : length before ≤ retries_of m
  pub outcome_is : outcome ≡ unwrap_or (decided m last) Slow
  pub all : decided m last ≡ None → length before ≡ retries_of m
