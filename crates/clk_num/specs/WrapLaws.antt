-- Laws of clock values that functions of this crate carry.
use Rattle.std.specs.Prelude.{◌≡◌, ℕ, ◌^◌, ◌<◌, ℤ, pos, ◌+ℤ◌, ◌*ℤ◌, ◌≤ℤ◌, ◌<ℤ◌, ◌⊎◌, ◌↔◌}
use Rattle.std.specs.Int.{int_max}
use Rattle.clk_num.specs.Range.{IsNear}
use Rattle.clk_num.specs.Wrapping.{IsValue, wrap, above, IsNotBelow, IsAbove, raise, bits_of, IsBitsOf}

-- what is left of a number is a value, and differs from it by whole turns of 2^64
abbrev pub WrapsByTurns : Type 0
WrapsByTurns = (n : ℤ) → IsValue (wrap n) × (turns : ℤ) × (n ≡ wrap n +ℤ turns *ℤ pos (2 ^ 64))

-- a value is left as it is
abbrev pub WrapKeepsValues : Type 0
WrapKeepsValues = (n : ℤ) → IsValue n → wrap n ≡ n

-- an opening and a height make one value, and a value has one height: within 2^62 the two correspond
abbrev pub HeightsAreValues : Type 0
HeightsAreValues =
    (opening : ℤ) → ((value : ℤ) → IsValue value → wrap (opening +ℤ above value opening) ≡ value)
    × ((height : ℤ) → IsNear 62 height → above (wrap (opening +ℤ height)) opening ≡ height)

-- heights within 2^61 compare as their values do
abbrev pub HeightsCompare : Type 0
HeightsCompare =
    (opening value other : ℤ) → IsNear 61 (above value opening) → IsNear 61 (above other opening)
    → (IsNotBelow value other ↔ (above other opening ≤ℤ above value opening)) × (IsAbove value other ↔ (above other opening <ℤ above value opening))

-- a register that is raised never falls: it stays, or what it holds is above what it held
abbrev pub RaisesNeverFall : Type 0
RaisesNeverFall = (old value : ℤ) → IsNotBelow (raise old value) old × ((raise old value ≡ old) ⊎ IsAbove (raise old value) old)

-- it is raised far enough
abbrev pub RaisesReach : Type 0
RaisesReach = (old value : ℤ) → IsNear 62 (above value old) → IsNotBelow (raise old value) value

-- over heights within 2^61 it is the greater of the two
abbrev pub RaisesAreGreatest : Type 0
RaisesAreGreatest =
    (opening old value : ℤ) → IsNear 61 (above old opening) → IsNear 61 (above value opening)
    → above (raise old value) opening ≡ int_max (above old opening) (above value opening)

-- a value has one word in two's complement, and a word one value
abbrev pub BitsAreInverse : Type 0
BitsAreInverse =
    ((value : ℤ) → IsValue value → IsBitsOf value (bits_of value))
    × ((value other : ℤ) (word another : ℕ) → word < 2 ^ 64 → another < 2 ^ 64 → IsBitsOf value word → IsBitsOf other another → (value ≡ other) ↔ (word ≡ another))
