-- The bounds on what is handed in, all in ns. Values wrap, so all but a GTOD are bounded from the words' opening on.
use Rattle.std.specs.Prelude.{◌≡◌, ◌-◌, ◌^◌, ℤ, pos, ◌+ℤ◌, ◌-ℤ◌, ◌≤ℤ◌}
use Rattle.clk_num.specs.Range.{IsNear, IsFrom0To}
use Rattle.clk_num.specs.Wrapping.{IsValue, wrap, above}
use Rattle.clk_words.specs.declared.opening.Opening.{Opening}

-- what each clock word begins with
abbrev pub opens_of : Opening → ℤ
opens_of o = wrap (o.tick_gtod +ℤ o.offset)

-- a monotonic time
abbrev pub IsGtod : ℤ → Type 0
IsGtod x = IsFrom0To (2 ^ 42) x

-- a raw reading
abbrev pub IsRaw : ℤ → ℤ → Type 0
IsRaw opens x = IsNear 59 (above x opens)

abbrev pub IsOffset : ℤ → ℤ → Type 0
IsOffset opens x = ((pos 0 -ℤ pos (2 ^ 59 - 2 ^ 42)) ≤ℤ above x opens) × (above x opens ≤ℤ pos (2 ^ 59 - 2 ^ 42))

-- the value of a clock word; it follows from the others
abbrev pub IsClock : ℤ → ℤ → Type 0
IsClock opens x = IsValue x × (pos 0 ≤ℤ above x opens) × (above x opens ≤ℤ pos (2 ^ 60))

abbrev pub IsTick : ℤ → Type 0
IsTick x = (pos 1 ≤ℤ x) × (x ≤ℤ pos (2 ^ 30))

-- what a word may be lifted to: the sum of a GTOD and an offset in range
pub record IsLiftValue (opens value : ℤ) : Type 0 where
  pub gtod : ℤ
  pub offset : ℤ
  pub value_is : value ≡ wrap (gtod +ℤ offset)
  pub gtod_range : IsGtod gtod
  pub offset_range : IsOffset opens offset

-- an opening in range; its offset needs no condition, since the words open at the sum of it and the GTOD
pub record IsOpening (o : Opening) : Type 0 where
  pub gtod : IsGtod o.tick_gtod
  pub raw : IsRaw (opens_of o) o.tick_raw
