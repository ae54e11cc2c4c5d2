-- Clock values and their heights above an opening. The signs of differences compare values as their heights compare,
-- while the heights are within 2^61 of 0: twice that is still less than half a turn.
use Rattle.std.proofs.Common.{◌≡◌, ℕ, ◌+◌, ◌-◌, ◌%◌, ◌^◌, ◌<◌, ℤ, pos, ◌+ℤ◌, ◌-ℤ◌, ◌≤ℤ◌, ◌<ℤ◌, ◌⊎◌, inl, inr, arith, ap, sym, ◌∙◌, refl, subst, Bool, true, false, cond, w64, to_z, of_z, to_z-of_z}
use Rattle.std.proofs.lemmas.Int.{ints, clamps, to_z_pos, of_z-to_z}
use Rattle.std.proofs.lemmas.Bool.{cases_lt}
use Rattle.std.specs.Prelude.{int_lt}
use Rattle.std.specs.Int.{int_max}
use Rattle.clk_num.specs.Range.{IsNear}
use Rattle.clk_num.specs.Wrapping.{IsValue, wrap, above, IsNotBelow, IsAbove, raise, bits_of, IsBitsOf}
use Rattle.clk_num.proofs.Wraps.{wrapped}

-- what is left of a number fits 64 bits
pub wrap_fits : (n : ℤ) → IsValue (wrap n)
wrap_fits n = omega (arith, ints, wrapped)

-- a value is left as it is
pub wrap_stays : (n : ℤ) → IsValue n → wrap n ≡ n
wrap_stays n f = omega (arith, ints, wrapped)

-- to wrap on the way changes nothing
pub wrap_again : (a b : ℤ) → wrap (wrap a +ℤ b) ≡ wrap (a +ℤ b)
wrap_again a b = omega (arith, ints, wrapped)

-- a value is its opening and its height
pub wrap_above : (o x : ℤ) → IsValue x → wrap (o +ℤ above x o) ≡ x
wrap_above o x f = omega (arith, ints, wrapped)

-- the height of an opening and a height
pub above_wrap : (o h : ℤ) → IsNear 62 h → above (wrap (o +ℤ h)) o ≡ h
above_wrap o h near = omega (arith, ints, wrapped)

-- nothing is above itself
pub above_same : (x : ℤ) → above x x ≡ pos 0
above_same x = omega (arith, ints, wrapped)

-- values of one height are one value
pub same_above : (o x y : ℤ) → IsValue x → IsValue y → above x o ≡ above y o → x ≡ y
same_above o x y f g e = omega (arith, ints, wrapped)

-- how far one value is above another is how far its height is
pub above_is : (o x y : ℤ) → IsNear 61 (above x o) → IsNear 61 (above y o) → above x y ≡ above x o -ℤ above y o
above_is o x y p q = omega (arith, ints, wrapped)

raised_by : (old value : ℤ) (t : Bool) → int_lt (pos 0) (above value old) ≡ t
    → (IsAbove value old × (cond t value old ≡ value)) ⊎ ((above value old ≤ℤ pos 0) × (cond t value old ≡ old))
raised_by old value true e = inl (omega (arith, ints), refl)
raised_by old value false e = inr (omega (arith, ints), refl)

-- a raise takes the new value where that is above the old one, and else keeps the old one
pub raise_is : (old value : ℤ)
    → (IsAbove value old × (raise old value ≡ value)) ⊎ ((above value old ≤ℤ pos 0) × (raise old value ≡ old))
raise_is old value = raised_by old value (int_lt (pos 0) (above value old)) refl

-- a raise leaves the greater height
pub above_raise : (o old value : ℤ) → IsNear 61 (above old o) → IsNear 61 (above value o)
    → above (raise old value) o ≡ int_max (above old o) (above value o)
above_raise o old value p q =
    let d = above_is o value old q p in
    elim (raise_is old value) [
      | inl up ↦ ap (λ x. above x o) up.1 ∙ (let h : pos 0 <ℤ above value old = up.0 in omega (arith, ints, clamps))
      | inr stays ↦ ap (λ x. above x o) stays.1 ∙ (let h : above value old ≤ℤ pos 0 = stays.0 in omega (arith, ints, clamps))
    ]

-- a raise is of a value
pub raise_fits : (old value : ℤ) → IsValue old → IsValue value → IsValue (raise old value)
raise_fits old value f g =
    elim (raise_is old value) [ inl up ↦ subst IsValue (sym up.1) g | inr stays ↦ subst IsValue (sym stays.1) f ]

-- what a raise leaves is not below what it found
pub raise_rises : (old value : ℤ) → IsNotBelow (raise old value) old
raise_rises old value =
    elim (raise_is old value) [
      | inl up ↦ (let h : pos 0 <ℤ above value old = up.0 in subst (λ x. pos 0 ≤ℤ above x old) (sym up.1) (omega (arith, ints)))
      | inr stays ↦ subst (λ x. pos 0 ≤ℤ above x old) (sym stays.1) (let e = above_same old in omega (arith, ints))
    ]

-- it is what it found, or above it
pub raise_up : (old value : ℤ) → (raise old value ≡ old) ⊎ IsAbove (raise old value) old
raise_up old value =
    elim (raise_is old value) [
      | inl up ↦ inr (subst (λ x. pos 0 <ℤ above x old) (sym up.1) up.0)
      | inr stays ↦ inl stays.1
    ]

-- and, heights apart by less than half a turn, it is not below the value that was put in
pub raise_reaches : (old value : ℤ) → IsNear 62 (above value old) → IsNotBelow (raise old value) value
raise_reaches old value near =
    elim (raise_is old value) [
      | inl up ↦ subst (λ x. pos 0 ≤ℤ above x value) (sym up.1) (let e = above_same value in omega (arith, ints))
      | inr stays ↦ subst (λ x. pos 0 ≤ℤ above x value) (sym stays.1) (let h : above value old ≤ℤ pos 0 = stays.0 in omega (arith, ints, wrapped))
    ]

-- not below is transitive over heights
pub not_below_after : (o x y z : ℤ) → IsNear 61 (above x o) → IsNear 61 (above y o) → IsNear 61 (above z o)
    → IsNotBelow y x → IsNotBelow z y → IsNotBelow z x
not_below_after o x y z p q r a b =
    let first = above_is o y x q p in
    let second = above_is o z y r q in
    let both = above_is o z x r p in
    omega (arith, ints)

-- the signed reading of a word is what is left of the word
pub signed_is : (n : ℕ) → n < 2 ^ 64 → to_z w64 n ≡ wrap (pos n)
signed_is n h =
    elim (cases_lt n (2 ^ 63)) [
      | inl low ↦ to_z_pos w64 n low ∙ omega (arith, ints, wrapped)
      | inr high ↦ (let e = of_z-to_z w64 n h in omega (arith, ints, wrapped))
    ]

-- a sum of two words, and a difference, as the code takes them
pub sum_is : (x y : ℤ) → IsValue x → IsValue y → to_z w64 ((of_z w64 x + of_z w64 y) % 2 ^ 64) ≡ wrap (x +ℤ y)
sum_is x y f g = let e = signed_is ((of_z w64 x + of_z w64 y) % 2 ^ 64) (omega arith) in e ∙ omega (arith, ints, wrapped)

pub difference_is : (x y : ℤ) → IsValue x → IsValue y → to_z w64 ((of_z w64 x + (2 ^ 64 - of_z w64 y)) % 2 ^ 64) ≡ wrap (x -ℤ y)
difference_is x y f g = let e = signed_is ((of_z w64 x + (2 ^ 64 - of_z w64 y)) % 2 ^ 64) (omega arith) in e ∙ omega (arith, ints, wrapped)

-- two's complement keeps a value
pub bits_are : (x : ℤ) → IsValue x → IsBitsOf x (bits_of x)
bits_are x f = to_z-of_z f

-- a word keeps one value
pub bits_keep : (x y : ℤ) (n : ℕ) → IsBitsOf x n → IsBitsOf y n → x ≡ y
bits_keep x y n e f = sym e ∙ f

-- and a value is kept by one word
pub bits_once : (x : ℤ) (n m : ℕ) → n < 2 ^ 64 → m < 2 ^ 64 → IsBitsOf x n → IsBitsOf x m → n ≡ m
bits_once x n m p q e f = sym (of_z-to_z w64 n p) ∙ ap (of_z w64) (e ∙ sym f) ∙ of_z-to_z w64 m q

-- what a word keeps is a value
pub bits_fit : (x : ℤ) (n : ℕ) → IsBitsOf x n → IsValue x
bits_fit x n e = subst IsValue e (omega (arith, ints))
