-- A conversion by a rate that was chosen gives at most the true time, and a little for the mult's rounding.
use Rattle.std.proofs.Common.{◌≡◌, ℕ, ◌+◌, ◌-◌, ◌*◌, ◌/◌, ◌^◌, ◌<◌, ◌≤◌, Option, Some, None, sym, ap, ◌∙◌, subst, arith}
use Rattle.std.specs.Option.{MatchOption}
use Rattle.std.proofs.lemmas.Int.Digits.{length-digits_of-le}
use Rattle.std.proofs.lemmas.Nat.{div_below, pow-add, pow_pos}
use Rattle.std.proofs.Math.Nat.{div-mul-le_self, mul-le-mul_left, mul-le-mul_right, le_of_mul-le-mul_left, pow-le-pow_right}
use Rattle.clk_num.specs.Conversion.{convert}
use Rattle.clk_num.specs.Rates.{mult_bits, quotient, greatest_shift, rate_at, mult_shift}
use Rattle.clk_num.specs.Laws.{NoShiftPasses, IsGreatestShift}
use Rattle.clk_num.proofs.Rating.{shift_is_greatest}

-- the mult may have 11 bits where the cycles of maxsec seconds are few
eleven_bits : (from maxsec : ℕ) → maxsec * from < 2 ^ 53 → 11 ≤ mult_bits from maxsec
unfolding mult_bits
eleven_bits from maxsec h =
    let high : maxsec * from / 2 ^ 32 < 2 ^ 21 = div_below (maxsec * from) (2 ^ 32) (2 ^ 21) (omega arith) (omega arith) in
    let few = length-digits_of-le 2 21 (maxsec * from / 2 ^ 32) (omega arith) high in
    omega arith

-- the mult at shift 1 has no more, where a cycle takes at most 1,000 units
first_passes : (from to : ℕ) → 0 < from → to ≤ 1000 * from → quotient from to 1 < 2 ^ 11
first_passes from to p h = div_below (to * 2 ^ 1 + from / 2) from (2 ^ 11) p (omega arith)

-- the true time of a mult, and half a cycle's for its rounding, over twice h
bounded_over : (from to cyc mult ns h : ℕ) → 1 ≤ h → ns * (2 * h) ≤ cyc * mult → mult * from ≤ to * (2 * h) + from / 2
    → 4 * (ns * from) ≤ 4 * (cyc * to) + cyc * from
bounded_over from to cyc mult ns h low down true =
    let a = mul-le-mul_right from down in
    let b = mul-le-mul_left cyc true in
    let c = mul-le-mul_right (cyc * from) low in
    let d = mul-le-mul_left cyc (let e : 2 * (from / 2) ≤ from = omega arith in e) in
    le_of_mul-le-mul_left {k = h} (omega arith) (omega arith)

-- and over a shift of at least 1
bounded_at : (from to cyc mult shift : ℕ) → 1 ≤ shift → mult * from ≤ to * 2 ^ shift + from / 2
    → 4 * (cyc * mult / 2 ^ shift * from) ≤ 4 * (cyc * to) + cyc * from
bounded_at from to cyc mult shift low h =
    let twice : 2 ^ shift ≡ 2 * 2 ^ (shift - 1) = (let s : shift ≡ 1 + (shift - 1) = omega arith in ap (λ n. 2 ^ n) s ∙ pow-add 2 1 (shift - 1)) in
    let down = rw twice at (div-mul-le_self (cyc * mult) (2 ^ shift)) in
    let P : ℕ → Type 0 = λ n. 4 * (cyc * mult / n * from) ≤ 4 * (cyc * to) + cyc * from in
    subst P (sym twice) (bounded_over from to cyc mult (cyc * mult / (2 * 2 ^ (shift - 1))) (2 ^ (shift - 1)) (pow_pos (shift - 1)) down (rw twice at h))

bounded_by : (from to maxsec cyc : ℕ) → 0 < from → to ≤ 1000 * from → maxsec * from < 2 ^ 53 → (o : Option ℕ)
    → MatchOption o (NoShiftPasses from to maxsec) (IsGreatestShift from to maxsec)
    → 4 * (convert cyc (rate_at from to o) * from) ≤ 4 * (cyc * to) + cyc * from
bounded_by from to maxsec cyc p h few None told =
    let first = first_passes from to p h in
    let room : 2 ^ 11 ≤ 2 ^ mult_bits from maxsec = pow-le-pow_right (omega arith) (eleven_bits from maxsec few) in
    let none = told 1 (omega arith) (omega arith) in
    absurd (omega arith)
bounded_by from to maxsec cyc p h few (Some s) told =
    bounded_at from to cyc (quotient from to s) s told.low (div-mul-le_self (to * 2 ^ s + from / 2) from)

pub convert_bounded : (from to maxsec cyc : ℕ) → 0 < from → to ≤ 1000 * from → maxsec * from < 2 ^ 53
    → 4 * (convert cyc (mult_shift from to maxsec) * from) ≤ 4 * (cyc * to) + cyc * from
convert_bounded from to maxsec cyc p h few =
    bounded_by from to maxsec cyc p h few (greatest_shift from to maxsec) (shift_is_greatest from to maxsec)
