-- What a step wants its word to be.
use Rattle.std.specs.Prelude.{ℤ, ◌+ℤ◌}
use Rattle.clk_num.specs.Clamp.{local_target, elapsed}
use Rattle.clk_record.specs.declared.step.Why.{Why}
use Rattle.clk_record.specs.declared.step.Why.TheVariants.{Raise, Couple, Lift}

-- a local reading: the stamp's time and what has passed since, at most one tick; else the value named
abbrev pub target : ℤ → Why → ℤ
target tick (Raise raw tick_raw tick_gtod offset) = local_target (tick_gtod +ℤ offset) (elapsed raw tick_raw) tick
target tick (Couple from value) = value
target tick (Lift value) = value
