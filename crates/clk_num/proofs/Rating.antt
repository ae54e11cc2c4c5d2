-- The search for a shift, and what its result is good for.
use Rattle.std.proofs.Common.{◌≡◌, ℕ, ◌+◌, ◌-◌, ◌*◌, ◌/◌, ◌%◌, ◌^◌, ◌<◌, ◌≤◌, true, false, ◌==◌, ◌&&◌, nat_lt, if◌then◌else◌, Option, Some, None, inl, inr, length, sym, ◌∙◌, ap, subst, arith}
use Rattle.std.specs.Option.{MatchOption}
use Rattle.std.specs.Int.Digits.{digits_of}
use lib.Count.{count_leading_zeros}
use Rattle.std.proofs.lemmas.Nat.{leading_length, pow_pos, pow-add, div-add-mod', mod_below, le-div, mul-lt, mul-le, div_below}
use Rattle.std.proofs.lemmas.Int.Digits.{length-digits_of-le, number_lt, number_digits_of, all_below_base_digits_of}
use Rattle.std.proofs.lemmas.Bool.{cases_lt}
use Rattle.std.proofs.lemmas.Bool.Decides.{nat_tests}
use Rattle.std.proofs.Math.Nat.{div-eq_of_lt, mod-eq_of_lt, div-mul-le_self, eq-or-lt_of_le, pow-le-pow_right, le_refl}
use Rattle.clk_num.specs.Rates.{mult_bits, quotient, passes, greatest_shift, rate_at, mult_shift, max_seconds}
use Rattle.clk_num.specs.Masked.{mask_of}
use Rattle.clk_num.specs.Laws.{NoShiftPasses, IsGreatestShift}
use Rattle.clk_num.proofs.Greatest.{NonePasses, IsGreatest, greatest_is, none_is, greatest_tells}

-- ---- binary digits

-- a number is below 2^d, where d is how many digits it has
below_digits : (n : ℕ) → n < 2 ^ length (digits_of 2 n)
below_digits n =
    let same = number_digits_of 2 n (omega arith) in
    let below = number_lt 2 (digits_of 2 n) (all_below_base_digits_of 2 n (omega arith)) in
    subst (λ (m : ℕ). m < 2 ^ length (digits_of 2 n)) same below

-- no length that a number fills is greater than one that holds it
no_shorter : (n m d : ℕ) → n < 2 ^ d → 2 ^ m ≤ 2 * n + 1 → m ≤ d
no_shorter n m d below above =
    elim (cases_lt d m) [
      | inl lt ↦ (let up : 2 ^ (1 + d) ≤ 2 ^ m = pow-le-pow_right (omega arith) (omega arith) in let e = pow-add 2 1 d in absurd (omega arith))
      | inr le ↦ le
    ]

-- the zeros above a number of at most k digits
pub zeros_above : (k n : ℕ) → n < 2 ^ k → count_leading_zeros k n ≡ k - length (digits_of 2 n)
zeros_above k n h =
    let m : ℕ = (leading_length k n h).0 in
    let e : count_leading_zeros k n + m ≡ k = (leading_length k n h).1 in
    let most : length (digits_of 2 n) ≤ m = length-digits_of-le 2 m n (omega arith) (leading_length k n h).2 in
    let least : m ≤ length (digits_of 2 n) = no_shorter n m (length (digits_of 2 n)) (below_digits n) (leading_length k n h).3 in
    omega arith

-- the upper half of a product of two numbers of 32 bits
pub high_fits : (from maxsec : ℕ) → from < 2 ^ 32 → maxsec < 2 ^ 32 → maxsec * from / 2 ^ 32 < 2 ^ 32
high_fits from maxsec f m = div_below (maxsec * from) (2 ^ 32) (2 ^ 32) (omega arith) (mul-lt maxsec from (2 ^ 32) (2 ^ 32) m f)

-- what the code counts is how many bits the mult may have
pub bits_are : (from maxsec : ℕ) → from < 2 ^ 32 → maxsec < 2 ^ 32 → count_leading_zeros 32 (maxsec * from / 2 ^ 32) ≡ mult_bits from maxsec
unfolding mult_bits
bits_are from maxsec f m = zeros_above 32 (maxsec * from / 2 ^ 32) (high_fits from maxsec f m)

-- ---- one shift

-- too many bits, as a test
fails : (q b : ℕ) → 2 ^ b ≤ q → (q / 2 ^ b == 0) ≡ false
fails q b h = let one = le-div 1 q (2 ^ b) (pow_pos b) (omega arith) in grind (arith, nat_tests)

-- few enough bits, from the test
fits : (q b : ℕ) → (q / 2 ^ b == 0) ≡ true → q < 2 ^ b
fits q b h =
    elim (cases_lt q (2 ^ b)) [
      | inl lt ↦ lt
      | inr le ↦ (let no = fails q b le in cc)
    ]

-- too many bits, from the test
large : (q b : ℕ) → (q / 2 ^ b == 0) ≡ false → 2 ^ b ≤ q
large q b h =
    elim (cases_lt q (2 ^ b)) [
      | inl lt ↦ (let e : q / 2 ^ b ≡ 0 = div-eq_of_lt lt in grind (arith, nat_tests))
      | inr le ↦ le
    ]

-- ---- the search

-- the loop returned at a shift
pub shift_found : (from to maxsec bits shift : ℕ) → bits ≡ mult_bits from maxsec → 1 ≤ shift → shift < 33 → quotient from to shift / 2 ^ bits ≡ 0
    → ((k : ℕ) → shift < k → k < 33 → 2 ^ bits ≤ quotient from to k) → greatest_shift from to maxsec ≡ Some shift
unfolding greatest_shift
shift_found from to maxsec bits shift e low high now above =
    let good : passes from to maxsec shift ≡ true = rw (← e, now) in
    greatest_is (passes from to maxsec) 1 32 shift low high good
    (λ k l h. subst (λ (b : ℕ). (quotient from to k / 2 ^ b == 0) ≡ false) e (fails (quotient from to k) bits (above k (omega arith) h)))

-- the loop went through
pub shift_missing : (from to maxsec bits : ℕ) → bits ≡ mult_bits from maxsec → ((k : ℕ) → 1 ≤ k → k < 33 → 2 ^ bits ≤ quotient from to k)
    → greatest_shift from to maxsec ≡ None
unfolding greatest_shift
shift_missing from to maxsec bits e all =
    none_is (passes from to maxsec) 1 32
    (λ k l h. subst (λ (b : ℕ). (quotient from to k / 2 ^ b == 0) ≡ false) e (fails (quotient from to k) bits (all k l h)))

-- ---- the laws

-- what the search tells, in the words of the law
told : (from to maxsec : ℕ) (o : Option ℕ) → MatchOption o (NonePasses (passes from to maxsec) 1 33) (λ s. IsGreatest (passes from to maxsec) 1 33 s)
    → MatchOption o (NoShiftPasses from to maxsec) (IsGreatestShift from to maxsec)
told from to maxsec None h = λ k l u. large (quotient from to k) (mult_bits from maxsec) (h k l (omega arith))
told from to maxsec (Some s) h = record {
  low = h.low;
  high = (let u = h.high in omega arith);
  fits = fits (quotient from to s) (mult_bits from maxsec) h.good;
  above = λ k l u. large (quotient from to k) (mult_bits from maxsec) (h.above k (omega arith) (omega arith));
}

-- the greatest shift that passes, or none does
pub shift_is_greatest : (from to maxsec : ℕ) → MatchOption (greatest_shift from to maxsec) (NoShiftPasses from to maxsec) (IsGreatestShift from to maxsec)
unfolding greatest_shift
shift_is_greatest from to maxsec = told from to maxsec (greatest_shift from to maxsec) (greatest_tells (passes from to maxsec) 1 32)

-- the cycles of maxsec seconds have at most 32 digits more than their upper half
cycles_below : (n d : ℕ) → n / 2 ^ 32 < d → n < d * 2 ^ 32
cycles_below n d h = let e = div-add-mod' n (2 ^ 32) in let r = mod_below n (2 ^ 32) (omega arith) in omega arith

-- d digits and 32 more, times what is left of 32
product_below : (cyc mult d : ℕ) → d ≤ 32 → cyc < 2 ^ d * 2 ^ 32 → mult < 2 ^ (32 - d) → cyc * mult < 2 ^ 64
product_below cyc mult d le c m =
    let below = mul-lt cyc mult (2 ^ d * 2 ^ 32) (2 ^ (32 - d)) c m in
    let whole : 2 ^ d * 2 ^ (32 - d) ≡ 2 ^ 32 = sym (pow-add 2 d (32 - d)) ∙ (let e : d + (32 - d) ≡ 32 = omega arith in ap (λ n. 2 ^ n) e) in
    let e : 2 ^ d * 2 ^ 32 * 2 ^ (32 - d) ≡ 2 ^ d * 2 ^ (32 - d) * 2 ^ 32 = omega arith in
    omega arith

-- cycles of maxsec seconds, times a mult of no more bits than it may have
pub product_fits : (from maxsec cyc mult : ℕ) → from < 2 ^ 32 → maxsec < 2 ^ 32 → cyc ≤ maxsec * from → mult < 2 ^ mult_bits from maxsec → cyc * mult < 2 ^ 64
unfolding mult_bits
product_fits from maxsec cyc mult f m le small =
    let high = high_fits from maxsec f m in
    let few : length (digits_of 2 (maxsec * from / 2 ^ 32)) ≤ 32 = length-digits_of-le 2 32 (maxsec * from / 2 ^ 32) (omega arith) high in
    let below = cycles_below (maxsec * from) (2 ^ length (digits_of 2 (maxsec * from / 2 ^ 32))) (below_digits (maxsec * from / 2 ^ 32)) in
    product_below cyc mult (length (digits_of 2 (maxsec * from / 2 ^ 32))) few (omega arith) small

-- the same, of what the search tells
all_fit : (from to maxsec cyc : ℕ) → from < 2 ^ 32 → maxsec < 2 ^ 32 → cyc ≤ maxsec * from → (o : Option ℕ)
    → MatchOption o (NoShiftPasses from to maxsec) (IsGreatestShift from to maxsec)
    → MatchOption o (Unit {0}) (λ best. cyc * quotient from to best < 2 ^ 64)
all_fit from to maxsec cyc f m le None h = tt
all_fit from to maxsec cyc f m le (Some s) h = product_fits from maxsec cyc (quotient from to s) f m le h.fits

-- and of the greatest shift
pub products_fit : (from to maxsec cyc : ℕ) → from < 2 ^ 32 → maxsec < 2 ^ 32 → cyc ≤ maxsec * from
    → MatchOption (greatest_shift from to maxsec) (Unit {0}) (λ best. cyc * quotient from to best < 2 ^ 64)
products_fit from to maxsec cyc f m le = all_fit from to maxsec cyc f m le (greatest_shift from to maxsec) (shift_is_greatest from to maxsec)

-- ---- the mult is not 0

-- the mult may have a bit where the cycles of maxsec seconds fit 63
some_bits : (from maxsec : ℕ) → maxsec * from < 2 ^ 63 → 1 ≤ mult_bits from maxsec
unfolding mult_bits
some_bits from maxsec h =
    let high : maxsec * from / 2 ^ 32 < 2 ^ 31 = div_below (maxsec * from) (2 ^ 32) (2 ^ 31) (omega arith) (omega arith) in
    let few = length-digits_of-le 2 31 (maxsec * from / 2 ^ 32) (omega arith) high in
    omega arith

-- where the mult at a shift is 0, that at the next one is at most 1
next_small : (a from : ℕ) → 0 < from → a + from / 2 < from → (2 * a + from / 2) / from < 2
next_small a from p small = div_below (2 * a + from / 2) from 2 p (omega arith)

-- so it is not 0 where that at the next shift is 2 or more
some_mult_before : (from to shift : ℕ) → 0 < from → 2 ≤ quotient from to (shift + 1) → 0 < quotient from to shift
some_mult_before from to shift p two =
    elim (cases_lt (to * 2 ^ shift + from / 2) from) [
      | inl small ↦ (let e : to * 2 ^ (shift + 1) ≡ 2 * (to * 2 ^ shift) = (let f = pow-add 2 shift 1 in ap (λ n. to * n) f ∙ omega arith) in
          let one = next_small (to * 2 ^ shift) from p small in
          let two' : 2 ≤ (2 * (to * 2 ^ shift) + from / 2) / from = rw (← e) two in
          absurd (omega arith))
      | inr large ↦ le-div 1 (to * 2 ^ shift + from / 2) from p (omega arith)
    ]

-- the mult at shift 1 has 32 bits where the target is below 2^31
first_fits : (from to : ℕ) → 0 < from → to < 2 ^ 31 → quotient from to 1 < 2 ^ 32
first_fits from to p small = div_below (to * 2 ^ 1 + from / 2) from (2 ^ 32) p (omega arith)

-- a number of more bits than some is 2 or more
two_at_least : (bits q : ℕ) → 1 ≤ bits → 2 ^ bits ≤ q → 2 ≤ q
two_at_least bits q one h = let two : 2 ^ 1 ≤ 2 ^ bits = pow-le-pow_right (omega arith) one in omega arith

-- the mult is not 0, by what the search tells
some_mult_of : (from to maxsec : ℕ) → 0 < from → from < 2 ^ 32 → 0 < to → to < 2 ^ 31 → maxsec * from < 2 ^ 63 → (o : Option ℕ)
    → MatchOption o (NoShiftPasses from to maxsec) (IsGreatestShift from to maxsec) → 0 < (rate_at from to o).mult
some_mult_of from to maxsec p f tp t m None h =
    let two = two_at_least (mult_bits from maxsec) (quotient from to 1) (some_bits from maxsec m) (h 1 (omega arith) (omega arith)) in
    let whole : quotient from to 1 % 2 ^ 32 ≡ quotient from to 1 = mod-eq_of_lt (first_fits from to p t) in
    rw whole (omega arith)
some_mult_of from to maxsec p f tp t m (Some s) h =
    elim (eq-or-lt_of_le h.high) [
      | inl last ↦ subst (λ (n : ℕ). 0 < quotient from to n) (sym last) (le-div 1 (to * 2 ^ 32 + from / 2) from p (omega arith))
      | inr lt ↦ some_mult_before from to s p
          (two_at_least (mult_bits from maxsec) (quotient from to (s + 1)) (some_bits from maxsec m) (h.above (s + 1) (omega arith) (omega arith)))
    ]

-- and so that of the rate
pub some_mult : (from to maxsec : ℕ) → 0 < from → from < 2 ^ 32 → 0 < to → to < 2 ^ 31 → maxsec * from < 2 ^ 63 → 0 < (mult_shift from to maxsec).mult
some_mult from to maxsec p f tp t m = some_mult_of from to maxsec p f tp t m (greatest_shift from to maxsec) (shift_is_greatest from to maxsec)

-- ---- the seconds of a source

-- the cycles of the seconds of a source are few: by the quotient of the mask
few_of : (mask hz q : ℕ) → q * hz ≤ mask → hz < 2 ^ 32
    → (if q == 0 then 1 else (if nat_lt 600 q && nat_lt (2 ^ 32 - 1) mask then 600 else q)) * hz < 2 ^ 42
few_of mask hz q le small =
    elim (cases_lt 600 q) [
      | inl many ↦ grind (arith, nat_tests)
      | inr few ↦ (let most = mul-le q hz 600 hz few (le_refl hz) in grind (arith, nat_tests))
    ]

-- and by the mask
pub few_cycles : (hz bits : ℕ) → hz < 2 ^ 32 → max_seconds hz bits * hz < 2 ^ 42
few_cycles hz bits small = few_of (mask_of bits) hz (mask_of bits / hz) (div-mul-le_self (mask_of bits) hz) small
