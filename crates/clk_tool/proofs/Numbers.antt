-- A word that begins as a number does is read by std as the number whose decimal it is.
use Rattle.std.proofs.Common.{◌≡◌, ℕ, ◌^◌, ◌<◌, ◌≤◌, ◌≢◌, ◌&&◌, Bool, true, false, cond, List, zero, suc, length, get_or, Some, None, Result, Ok, Err, refl, sym, ◌∙◌, arith}
use Rattle.std.proofs.lemmas.Bool.{false≢true}
use Rattle.std.proofs.lemmas.Bool.Decides.{nat_tests}
use Rattle.std.proofs.lemmas.Fmt.{decimal_is_IsNumeral, decimal-digits_value, decimal_digit, first_decimal}
use Rattle.std.proofs.lemmas.Slice.Eq.{bytes_eq-Decides}
use Rattle.std.proofs.lemmas.Str.Parse.{IsNumeralModel, numerals_by_value, tells_digits, digit_at, parse_plain}
use Rattle.std.specs.Fmt.{decimal}
use Rattle.std.specs.Result.{result_ok}
use Rattle.std.specs.Str.{bytes_eq}
use Rattle.std.specs.Str.Parse.{digits_value, AllDigits, ParsesUnsigned}
use Rattle.clk_tool.specs.Commands.{number_of, is_plain}

own : IsNumeralModel (AllDigits 10) (digits_value 10)
own = numerals_by_value _ tells_digits

-- ---- what begins so

begins_low : (word : List ℕ) → is_plain word ≡ true → get_or word 0 0 ≢ 43
begins_low word plain = λ e. grind (arith, nat_tests)

zero_alone : (word : List ℕ) → is_plain word ≡ true → get_or word 0 0 ≡ 48 → length word ≡ 1
zero_alone word plain e = grind (arith, nat_tests)

plain_first : (word : List ℕ) → 48 < get_or word 0 0 → get_or word 0 0 ≤ 57 → is_plain word ≡ true
plain_first word low high = grind (arith, nat_tests)

plain_decimal : (n : ℕ) → n < 2 ^ 64 → is_plain (decimal n) ≡ true
plain_decimal zero h = rw (decimal_digit 0 (omega arith)) refl
plain_decimal (suc n) h =
    let ((some, digits), value) = decimal_is_IsNumeral (suc n) h in
    let (low, high) = digit_at (decimal (suc n)) 0 digits some in
    plain_first (decimal (suc n)) (first_decimal (suc n) (omega arith) h) high

-- ---- what the number is

found : (word : List ℕ) (n : ℕ) → word ≡ decimal n → n < 2 ^ 32 → number_of word ≡ Some n
unfolding number_of
found word n e small =
    let (numeral, is) = decimal_is_IsNumeral n (omega arith) in
    let value : digits_value 10 word ≡ n = rw e is in
    let same : bytes_eq word (decimal n) ≡ true = (bytes_eq-Decides word (decimal n)).1 e in
    rw value (grind (arith, nat_tests))

not_both : {A : Type 0} (b c : Bool) (x : A) → (b ≡ true → c ≡ true → ⊥) → cond (b && c) (Some x) None ≡ None
not_both true true x h = absurd (h refl refl)
not_both true false x h = refl
not_both false c x h = refl

none_found : (word : List ℕ) → ((n : ℕ) → word ≡ decimal n → n < 2 ^ 32 → ⊥) → number_of word ≡ None
unfolding number_of
none_found word never =
    not_both _ _ _ (λ same few. never (digits_value 10 word) ((bytes_eq-Decides _ _).0 same) (grind (arith, nat_tests)))

-- ---- what std reads

-- a number's decimal is digits that stand for a small number
written : (word : List ℕ) (n : ℕ) → word ≡ decimal n → n < 2 ^ 32 → AllDigits 10 word × (0 < length word) × (digits_value 10 word < 2 ^ 32)
written word n is small =
    let ((some, digits), value) = decimal_is_IsNumeral n (omega arith) in
    rw is (digits, some, rw value small)

pub reads : {E : Type 0} (word : List ℕ) (r : Result ℕ E) → is_plain word ≡ true → ParsesUnsigned 32 10 word r → result_ok r ≡ number_of word
reads {E} word (Ok n) plain parses =
    let ((digits, some, small), is) = parse_plain own {E = E} 32 word (Ok n) parses (begins_low word plain) in
    let low : digits_value 10 word < 2 ^ 64 = omega (arith, small) in
    let same = decimal-digits_value own word digits some (zero_alone word plain) low in
    rw is (sym (found word (digits_value 10 word) (sym same) small))
reads {E} word (Err e) plain parses =
    let never = parse_plain own {E = E} 32 word (Err e) parses (begins_low word plain) in
    sym (none_found word (λ n is small. never (written word n is small)))

pub reads_none : (word : List ℕ) → is_plain word ≡ false → None ≡ number_of word
reads_none word plain =
    sym (none_found word (λ n is small. false≢true (sym plain ∙ (rw is (plain_decimal n (omega arith))))))
