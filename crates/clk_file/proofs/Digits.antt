-- Numbers of up to nine digits.
use Rattle.std.proofs.Common.{◌≡◌, ℕ, zero, suc, ◌+◌, ◌-◌, ◌*◌, ◌^◌, ◌<◌, ◌≤◌, true, not, List, [], ◌∷◌, length, get_or, ◌&&◌, ◌||◌, leb, eqb, arith}
use Rattle.std.specs.List.{list_all}
use Rattle.std.proofs.Math.Nat.{pow-suc}
use Rattle.std.proofs.lemmas.Bool.{and_parts}
use Rattle.std.proofs.lemmas.Bool.Decides.{nat_tests}
use Rattle.clk_file.specs.Words.{is_digit, is_number}

digit-range : (c : ℕ) → is_digit c ≡ true → (48 ≤ c) × (c ≤ 57)
digit-range c h =
    let (low, high) = and_parts (leb 48 c) (leb c 57) h in
    (grind (arith, nat_tests), grind (arith, nat_tests))

pub digit_at : (text : List ℕ) (i : ℕ) → i < length text → list_all is_digit text ≡ true → (48 ≤ get_or text i 0) × (get_or text i 0 ≤ 57)
digit_at [] i low h = absurd (omega arith)
digit_at (c ∷ cs) zero low h = digit-range c (and_parts (is_digit c) (list_all is_digit cs) h).0
digit_at (c ∷ cs) (suc i) low h = digit_at cs i (omega arith) (and_parts (is_digit c) (list_all is_digit cs) h).1

-- what the test of a number says of it
pub record IsNumber (text : List ℕ) : Type 0 where
  pub some : 1 ≤ length text
  pub short : length text ≤ 9
  pub digits : list_all is_digit text ≡ true
  pub first : get_or text 0 0 ≡ 48 → length text ≡ 1

pub number-parts : (text : List ℕ) → is_number text ≡ true → IsNumber text
unfolding is_number
number-parts text h =
    let (lengths, rest) = and_parts (leb 1 (length text) && leb (length text) 9) (list_all is_digit text && (eqb (length text) 1 || not (eqb (get_or text 0 0) 48))) h in
    let (some, few) = and_parts (leb 1 (length text)) (leb (length text) 9) lengths in
    let (digits, first) = and_parts (list_all is_digit text) (eqb (length text) 1 || not (eqb (get_or text 0 0) 48)) rest in
    record {
      some = grind (arith, nat_tests);
      short = grind (arith, nat_tests);
      digits = digits;
      first = λ zero. grind (arith, nat_tests);
    }

ten_more : (i k : ℕ) → 10 ^ i ≤ 10 ^ (i + k)
ten_more i zero = let e : i + 0 ≡ i = omega arith in rw e (omega arith)
ten_more i (suc k) =
    let e : i + suc k ≡ suc (i + k) = omega arith in
    rw (e, pow-suc 10 (i + k)) (omega (arith, ten_more i k))

pub nine_digits : (i : ℕ) → i ≤ 8 → 10 ^ i ≤ 100000000
nine_digits i h =
    let e : i + (8 - i) ≡ 8 = omega arith in
    rw e at (ten_more i (8 - i))

-- one more digit
pub digit-more : (n i c : ℕ) → n < 10 ^ i → c ≤ 57 → n * 10 + (c - 48) < 10 ^ (i + 1)
digit-more n i c h low =
    let e : i + 1 ≡ suc i = omega arith in
    rw (e, pow-suc 10 i) (omega arith)

-- a text of several digits is a number where the first is not 0
pub long_number : (text : List ℕ) → 1 ≤ length text → length text ≤ 9 → list_all is_digit text ≡ true → (length text ≡ 1 → ⊥)
    → is_number text ≡ not (eqb (get_or text 0 0) 48)
unfolding is_number
long_number text some short digits more = rw digits (grind (arith, nat_tests))
