-- What the counters of a warp run are, of the readings so far.
use Rattle.std.specs.Prelude.{◌≡◌, ℕ, Bool, List, [], ◌∷◌, ◌++◌, length, Option, Some, None}
use Rattle.clk_record.specs.declared.warp.Side.{Side}
use Rattle.clk_record.specs.declared.warp.Side.TheVariants.{Source, Target}
use Rattle.clk_record.specs.declared.warp.WarpReading.{WarpReading}
use Rattle.clk_record.specs.Falls.{Limits, Fall, is_started, start_of, next_turn, is_ended, turn_before, falls, greatest, changes, greatest_seen}
use Rattle.clk_warp.specs.declared.progress.Progress.{Progress}
use Rattle.clk_warp.specs.declared.counts.WarpCounts.{WarpCounts}

abbrev pub progress_of : Side → WarpCounts → Progress
progress_of Source c = c.source
progress_of Target c = c.target

abbrev pub limits_of : WarpCounts → Limits
limits_of c = record { span = c.span; turns = c.turns }

-- the side of the last fall
abbrev pub last_side : List Fall → Option Side
last_side [] = None
last_side (f ∷ []) = Some f.side
last_side (f ∷ (g ∷ fs)) = last_side (g ∷ fs)

pub record IsProgressOf (l : Limits) (side : Side) (rs : List WarpReading) (p : Progress) : Type 0 where
  pub started : p.started ≡ is_started side rs
  pub start : p.start ≡ start_of side rs
  pub turn : p.turn ≡ next_turn side rs
  pub ended : p.ended ≡ is_ended l side rs

-- the counters of a run with these limits and these readings so far
pub record AreCountsOf (l : Limits) (rs : List WarpReading) (c : WarpCounts) : Type 0 where
  pub limits : limits_of c ≡ l
  pub nr : c.nr ≡ length (falls l rs)
  pub max : c.max ≡ greatest (falls l rs)
  pub random : c.random ≡ changes (falls l rs)
  pub cur_source : c.cur_source ≡ greatest_seen Source (falls l rs)
  pub cur_target : c.cur_target ≡ greatest_seen Target (falls l rs)
  pub last : c.last ≡ last_side (falls l rs)
  pub prev : c.prev ≡ turn_before rs
  pub source : IsProgressOf l Source rs c.source
  pub target : IsProgressOf l Target rs c.target

-- one more reading, at whichever ticket
abbrev pub AddsReading : WarpCounts → Side → Bool → ℕ → WarpCounts → Type 0
AddsReading before side start tsc after =
    (l : Limits) (rs : List WarpReading) (ticket : ℕ) → AreCountsOf l rs before
    → AreCountsOf l (rs ++ (record { side = side; start = start; ticket = ticket; tsc = tsc }) ∷ []) after
