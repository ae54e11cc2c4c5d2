-- How great readings are, so that their conversions fit. No public contract cites these.
use Rattle.std.specs.Prelude.{ℕ, ◌*◌, ◌^◌, ◌≤◌, Option, Some, None}
use Rattle.std.specs.List.{All}
use Rattle.clk_record.specs.declared.attempt.Attempt.{Attempt}
use Rattle.clk_record.specs.declared.attempt.Bracket.{Bracket}
use Rattle.clk_record.specs.declared.attempt.Bracket.TheVariants.{Accepted}
use Rattle.clk_record.specs.declared.watched.Pair.{Pair}
use Rattle.clk_record.specs.declared.watched.Watched.{Watched}

-- a count of cycles that some counter of a machine may show
abbrev pub IsSmall : ℕ → Type 0
IsSmall cycles = cycles ≤ 147 * 2 ^ 41

pub record IsSmallPair (p : Pair) : Type 0 where
  pub cs : IsSmall p.cs
  pub wd : IsSmall p.wd

abbrev pub IsSmallKept : Option Pair → Type 0
IsSmallKept None = Unit {0}
IsSmallKept (Some p) = IsSmallPair p

abbrev pub IsSmallWatched : Watched → Type 0
IsSmallWatched w = IsSmallKept w.kept

abbrev pub IsSmallAttempt : Attempt → Type 0
IsSmallAttempt a = All IsSmall a.value

abbrev pub IsSmallBracket : Option Bracket → Type 0
IsSmallBracket (Some (Accepted cs wd)) = IsSmallPair (record { cs = cs; wd = wd })
IsSmallBracket _ = Unit {0}
