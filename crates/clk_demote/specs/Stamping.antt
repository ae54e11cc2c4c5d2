-- What a stamp reads, and what it stores at CPUs.
use Rattle.std.specs.Prelude.{◌≡◌, ℕ, zero, suc, ℤ, false, List, [], slice_index_or, slice_set, Some}
use Rattle.clk_words.specs.declared.view.View.{View}
use Rattle.clk_words.specs.declared.view.ModeView.{ModeView}
use Rattle.clk_words.specs.declared.view.Part.{Part}
use Rattle.clk_words.specs.Parts.{gtod_of, raw_of, part_of}
use Rattle.clk_words.specs.Told.{cloned_modes}
use Rattle.clk_machine.specs.Plan.{Plan}
use Rattle.clk_machine.specs.declared.reading.RawReading.{RawReading}
use Rattle.clk_latch.specs.Epoch.{Epoch}
use Rattle.clk_latch.specs.Calls.{Reads}

-- what is had of the latch of a CPU, of what is had of all
abbrev pub epoch_at : List Epoch → ℕ → Epoch
epoch_at epochs cpu = slice_index_or epochs cpu (record { owner = false; left = 0; records = []; begins = [] })

-- a raw reading by the latch of one CPU, and by no other
pub record ReadsAt (m : Plan) (cpu : ℕ) (adjust : ℤ) (before after : List Epoch) (r : RawReading) : Type 0 where
  pub epoch : Epoch
  pub reads : Reads m cpu adjust (epoch_at before cpu) epoch r
  pub after_is : after ≡ slice_set before cpu epoch

-- a pair is stored at a CPU, or at the first n
abbrev pub with_pair : ℕ → ℤ → ℤ → ModeView → ModeView
with_pair cpu gtod raw m = cloned_modes (raw_of cpu) raw (cloned_modes (gtod_of cpu) gtod m)

abbrev pub with_pairs : ℕ → ℤ → ℤ → ModeView → ModeView
with_pairs zero gtod raw m = m
with_pairs (suc n) gtod raw m = with_pair n gtod raw (with_pairs n gtod raw m)

abbrev pub pair_stored : ℕ → ℤ → ℤ → View → View
pair_stored cpu gtod raw v = record v { modes = with_pair cpu gtod raw v.modes }

abbrev pub pairs_stored : ℕ → ℤ → ℤ → View → View
pairs_stored n gtod raw v = record v { modes = with_pairs n gtod raw v.modes }

-- the pair is the CPU's stamp 0, after which none is known
abbrev pub stamp_zero : ℤ → Part
stamp_zero x = record { zero = Some x; after = [] }

pub record HasPair (cpu : ℕ) (gtod raw : ℤ) (v : View) : Type 0 where
  pub gtod_is : part_of v.pairs.parts (gtod_of cpu) ≡ stamp_zero gtod
  pub raw_is : part_of v.pairs.parts (raw_of cpu) ≡ stamp_zero raw
