-- Conversions of cycles, and of their sums.
use Rattle.std.proofs.Common.{◌≡◌, ℕ, ◌+◌, ◌*◌, ◌/◌, ◌%◌, ◌^◌, ◌<◌, ◌≤◌, ◌⊎◌, inl, inr, arith}
use Rattle.std.proofs.lemmas.Nat.{pow_pos, div-add-mod', mod_below}
use Rattle.std.proofs.Math.Nat.{mul-le-mul_right, div-eq_of_lt-le}
use Rattle.std.proofs.lemmas.Bool.{cases_lt}
use Rattle.std.proofs.Math.Pow.{shr_mono}
use Rattle.clk_num.specs.declared.rate.Rate.{Rate}
use Rattle.clk_num.specs.Conversion.{convert}

-- more cycles, no fewer ns
pub convert_rises : (rate : Rate) (a b : ℕ) → a ≤ b → convert a rate ≤ convert b rate
convert_rises rate a b h = shr_mono rate.shift (mul-le-mul_right rate.mult h)

-- a quotient of a sum
quotient_adds : (x y d : ℕ) → 0 < d → ((x + y) / d ≡ x / d + y / d) ⊎ ((x + y) / d ≡ x / d + y / d + 1)
quotient_adds x y d h =
    let first = div-add-mod' x d in
    let second = div-add-mod' y d in
    let p = mod_below x d h in
    let q = mod_below y d h in
    elim (cases_lt (x % d + y % d) d) [
      | inl small ↦ inl (div-eq_of_lt-le d (omega arith) (omega arith))
      | inr large ↦ inr (div-eq_of_lt-le d (omega arith) (omega arith))
    ]

-- the conversion of a sum
pub convert_adds : (rate : Rate) (a b : ℕ)
    → (convert (a + b) rate ≡ convert a rate + convert b rate) ⊎ (convert (a + b) rate ≡ convert a rate + convert b rate + 1)
convert_adds rate a b =
    let sum : (a + b) * rate.mult ≡ a * rate.mult + b * rate.mult = omega arith in
    rw sum (quotient_adds (a * rate.mult) (b * rate.mult) (2 ^ rate.shift) (pow_pos rate.shift))
