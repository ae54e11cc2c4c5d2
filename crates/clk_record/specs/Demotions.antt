-- The offset of a stable stamp, and the opening and the drift of a demotion. All are clock values, which wrap.
use Rattle.std.specs.Prelude.{◌≡◌, ℤ, ◌+ℤ◌, ◌-ℤ◌}
use Rattle.clk_num.specs.Wrapping.{wrap, above}
use Rattle.clk_record.specs.declared.stable.StableStamp.{StableStamp}
use Rattle.clk_record.specs.declared.stable.Demotion.{Demotion}

-- the stable clock at a raw value, and what takes monotonic time there
abbrev pub stable_value : ℤ → ℤ → ℤ
stable_value sched_offset raw = wrap (raw +ℤ sched_offset)

abbrev pub offset_by : ℤ → ℤ → ℤ → ℤ
offset_by sched_offset gtod raw = wrap ((raw +ℤ sched_offset) -ℤ gtod)

-- where the clock words open
abbrev pub opening_of : ℤ → ℤ → ℤ
opening_of gtod gtod_offset = wrap (gtod +ℤ gtod_offset)

-- how far the raw clock went ahead of monotonic time since a stable stamp
abbrev pub drift_of : StableStamp → ℤ → ℤ → ℤ
drift_of stable gtod raw = wrap (above raw stable.raw.ns -ℤ (gtod -ℤ stable.gtod))

-- a demotion, where this was the last stable stamp and these offsets stood
pub record IsDemotion (sched_offset gtod_offset : ℤ) (stable : StableStamp) (d : Demotion) : Type 0 where
  pub stable_is : d.stable ≡ stable
  pub sched_offset_is : d.sched_offset ≡ sched_offset
  pub gtod_offset_is : d.gtod_offset ≡ gtod_offset
  pub opening_is : d.opening ≡ opening_of d.gtod d.gtod_offset
  pub drift_is : d.drift ≡ drift_of d.stable d.gtod d.raw.ns

-- the clock opens at the stable value of the demotion's raw reading, less the drift
abbrev pub OpensLessDrift : Demotion → Type 0
OpensLessDrift d = d.opening ≡ wrap (stable_value d.sched_offset d.raw.ns -ℤ d.drift)

-- a demotion by the offset of the last stable stamp does
abbrev pub DemotionsShiftByDrift : Type 0
DemotionsShiftByDrift =
    (sched_offset gtod_offset : ℤ) (stable : StableStamp) (d : Demotion) → IsDemotion sched_offset gtod_offset stable d
    → gtod_offset ≡ offset_by sched_offset stable.gtod stable.raw.ns → OpensLessDrift d
