-- The words of a new table.
use Rattle.std.specs.Prelude.{◌≡◌, ℕ, zero, suc, ◌+◌, ◌*◌, ◌<◌, List, [], ◌∷◌, ◌++◌, length, slice_index, if◌then◌else◌}
use Rattle.clk_num.specs.Wrapping.{IsBitsOf}
use Rattle.clk_words.specs.declared.opening.Start.{Start}
use Rattle.clk_words.specs.Histories.{opens_at}
use Rattle.clk_words.specs.Heights.{IsClockWord}
use Rattle.clk_words.specs.Parts.{gtod_of, raw_of}
use Rattle.clk_words.specs.Views.{is_percpu}

-- a GTOD and a raw value for each of n CPUs
abbrev pub pair_words : ℕ → ℕ → ℕ → List ℕ
pair_words zero gtod raw = []
pair_words (suc n) gtod raw = pair_words n gtod raw ++ gtod ∷ raw ∷ []

-- the clocks, the pairs, the mode and the offset
pub record AreFirst (start : Start) (words : List ℕ) : Type 0 where
  pub wide : length words ≡ 3 * start.cpus + 2
  pub clocks : (w : ℕ) → w < start.cpus → IsClockWord start (opens_at start) (slice_index words w)
  pub gtods : (c : ℕ) → c < start.cpus → IsBitsOf start.opening.tick_gtod (slice_index words (start.cpus + gtod_of c))
  pub raws : (c : ℕ) → c < start.cpus → IsBitsOf start.opening.tick_raw (slice_index words (start.cpus + raw_of c))
  pub mode : slice_index words (3 * start.cpus) ≡ (if is_percpu start.opening.mode then 1 else 0)
  pub offset : IsBitsOf start.opening.offset (slice_index words (3 * start.cpus + 1))
