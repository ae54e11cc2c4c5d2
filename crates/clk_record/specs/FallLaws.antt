-- Laws of falls: what the counts of a run mean. A function of `clk_warp` carries them.
use Rattle.std.specs.Prelude.{◌≡◌, ◌≢◌, ◌↔◌, ◌<◌, ◌≤◌, List, [], ◌∷◌, ◌++◌}
use Rattle.std.specs.List.{All}
use Rattle.clk_record.specs.declared.warp.Side.{Side}
use Rattle.clk_record.specs.declared.warp.WarpReading.{WarpReading}
use Rattle.clk_record.specs.Falls.{Limits, Fall, falls, greatest, changes, greatest_seen}

-- no reading is below one before it
abbrev pub NeverFall : List WarpReading → Type 0
NeverFall [] = Unit {0}
NeverFall (r ∷ rs) = All (λ s. r.tsc ≤ s.tsc) rs × NeverFall rs

abbrev pub NoFallWhereNoneFalls : Type 0
NoFallWhereNoneFalls = (l : Limits) (rs : List WarpReading) → NeverFall rs → falls l rs ≡ []

-- no fall is above the greatest, nor is what a side saw
abbrev pub GreatestIsMost : Type 0
GreatestIsMost = (fs : List Fall) → All (λ f. f.size ≤ greatest fs) fs

abbrev pub SeenIsAtMostGreatest : Type 0
SeenIsAtMostGreatest = (side : Side) (fs : List Fall) → greatest_seen side fs ≤ greatest fs

-- two falls in a row, on different sides
pub record HasChange (fs : List Fall) : Type 0 where
  pub front : List Fall
  pub one : Fall
  pub next : Fall
  pub rest : List Fall
  pub all : fs ≡ front ++ one ∷ (next ∷ rest)
  pub apart : one.side ≢ next.side

abbrev pub ChangesWhereSidesChange : Type 0
ChangesWhereSidesChange = (fs : List Fall) → (0 < changes fs) ↔ HasChange fs
