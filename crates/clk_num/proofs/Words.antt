-- Words and the values that they keep.
use Rattle.std.proofs.Common.{◌≡◌, ℕ, ◌^◌, ◌<◌, ◌≤◌, ℤ, pos, ◌-ℤ◌, ◌≤ℤ◌, ◌<ℤ◌, ◌↔◌, arith}
use Rattle.std.proofs.lemmas.Int.{ints}
use Rattle.clk_num.specs.Biased.{IsWordOf}

-- equal values have equal words, and the other way round
pub inverse : (value other : ℤ) (word another : ℕ) → IsWordOf value word → IsWordOf other another → (value ≡ other) ↔ (word ≡ another)
inverse value other word another a b = (λ e. omega (arith, ints), λ e. omega (arith, ints))

-- both orders
pub compare : (value other : ℤ) (word another : ℕ) → IsWordOf value word → IsWordOf other another
    → ((value ≤ℤ other) ↔ (word ≤ another)) × ((value <ℤ other) ↔ (word < another))
compare value other word another a b =
    ((λ e. omega (arith, ints), λ e. omega (arith, ints)), (λ e. omega (arith, ints), λ e. omega (arith, ints)))

-- the bounds of the one are those of the other
pub in_range : (value : ℤ) (word : ℕ) → IsWordOf value word → ((pos 0 -ℤ pos (2 ^ 62)) ≤ℤ value) × ((word < 2 ^ 63) ↔ (value <ℤ pos (2 ^ 62)))
in_range value word a = (omega (arith, ints), (λ e. omega (arith, ints), λ e. omega (arith, ints)))
