-- Laws that functions of this crate carry.
use Rattle.std.specs.Prelude.{◌≡◌, ℕ, ◌+◌, ◌-◌, ◌*◌, ◌^◌, ◌<◌, ◌≤◌, ℤ, pos, ◌-ℤ◌, ◌≤ℤ◌, ◌<ℤ◌, ◌⊎◌, ◌↔◌, MatchOption}
use Rattle.std.specs.Int.{abs_diff}
use Rattle.clk_num.specs.declared.rate.Rate.{Rate}
use Rattle.clk_num.specs.Conversion.{convert}
use Rattle.clk_num.specs.Masked.{low_bits, masked_delta}
use Rattle.clk_num.specs.Rates.{mult_bits, quotient, greatest_shift, max_seconds, mult_shift}
use Rattle.clk_num.specs.Biased.{IsWordOf}

-- a conversion never falls as cycles grow
abbrev pub ConversionRises : Type 0
ConversionRises = (rate : Rate) (a b : ℕ) → a ≤ b → convert a rate ≤ convert b rate

-- that of a sum is the sum of the two, or one more, since each of them is rounded down
abbrev pub ConversionAdds : Type 0
ConversionAdds =
    (rate : Rate) (a b : ℕ)
    → (convert (a + b) rate ≡ convert a rate + convert b rate) ⊎ (convert (a + b) rate ≡ convert a rate + convert b rate + 1)

-- where a cycle takes at most 1,000 of the units that it is converted to, and the cycles of maxsec seconds are few, the
-- time of a conversion is at most the true one and a quarter of a unit a cycle
abbrev pub ConversionIsTrue : Type 0
ConversionIsTrue =
    (from to maxsec cyc : ℕ) → 0 < from → to ≤ 1000 * from → maxsec * from < 2 ^ 53
    → 4 * (convert cyc (mult_shift from to maxsec) * from) ≤ 4 * (cyc * to) + cyc * from

-- the cycles of the seconds of a source are few
abbrev pub SourceCyclesAreFew : Type 0
SourceCyclesAreFew = (hz bits : ℕ) → hz < 2 ^ 32 → max_seconds hz bits * hz < 2 ^ 42

-- what the counter shows of two counts less than half a turn apart tells how far they are apart
abbrev pub MaskedDifferenceIsTrue : Type 0
MaskedDifferenceIsTrue =
    (bits last now : ℕ) → 1 ≤ bits → bits ≤ 64 → last ≤ now → now < last + 2 ^ (bits - 1)
    → masked_delta (low_bits bits now) (low_bits bits last) bits ≡ now - last

-- and from half a turn to below a whole one it tells nothing
abbrev pub MaskedDifferenceIsNone : Type 0
MaskedDifferenceIsNone =
    (bits last now : ℕ) → 1 ≤ bits → bits ≤ 64 → last + 2 ^ (bits - 1) ≤ now → now < last + 2 ^ bits
    → masked_delta (low_bits bits now) (low_bits bits last) bits ≡ 0

-- and in any case no more than how far they are apart, whichever is greater
abbrev pub MaskedDifferenceIsShort : Type 0
MaskedDifferenceIsShort =
    (bits last now : ℕ) → 1 ≤ bits → bits ≤ 64 → masked_delta (low_bits bits now) (low_bits bits last) bits ≤ abs_diff now last

-- a word has one value, and a value one word
abbrev pub WordsAreInverse : Type 0
WordsAreInverse =
    (value other : ℤ) (word another : ℕ) → IsWordOf value word → IsWordOf other another → (value ≡ other) ↔ (word ≡ another)

-- words compare as their values do
abbrev pub WordsCompare : Type 0
WordsCompare =
    (value other : ℤ) (word another : ℕ) → IsWordOf value word → IsWordOf other another
    → ((value ≤ℤ other) ↔ (word ≤ another)) × ((value <ℤ other) ↔ (word < another))

-- the values from -2^62 to below 2^62 are those with a word below 2^63
abbrev pub WordsInRange : Type 0
WordsInRange =
    (value : ℤ) (word : ℕ) → IsWordOf value word
    → ((pos 0 -ℤ pos (2 ^ 62)) ≤ℤ value) × ((word < 2 ^ 63) ↔ (value <ℤ pos (2 ^ 62)))

-- at this shift the mult has more bits than it may have
abbrev pub IsTooLong : ℕ → ℕ → ℕ → ℕ → Type 0
IsTooLong from to maxsec shift = 2 ^ mult_bits from maxsec ≤ quotient from to shift

-- the mult has few enough bits, and at each greater shift too many
pub record IsGreatestShift (from to maxsec best : ℕ) : Type 0 where
  pub low : 1 ≤ best
  pub high : best ≤ 32
  pub fits : quotient from to best < 2 ^ mult_bits from maxsec
  pub above : (shift : ℕ) → best < shift → shift ≤ 32 → IsTooLong from to maxsec shift

-- no shift from 1 to 32 passes
abbrev pub NoShiftPasses : ℕ → ℕ → ℕ → Type 0
NoShiftPasses from to maxsec = (shift : ℕ) → 1 ≤ shift → shift ≤ 32 → IsTooLong from to maxsec shift

abbrev pub ShiftIsGreatest : Type 0
ShiftIsGreatest =
    (from to maxsec : ℕ) → MatchOption (greatest_shift from to maxsec) (NoShiftPasses from to maxsec) (IsGreatestShift from to maxsec)

-- at the greatest shift that passes, the product of the mult and the cycles of maxsec seconds or fewer fits 64 bits
abbrev pub ProductsFit : Type 0
ProductsFit =
    (from to maxsec cyc : ℕ) → from < 2 ^ 32 → maxsec < 2 ^ 32 → cyc ≤ maxsec * from
    → MatchOption (greatest_shift from to maxsec) (Unit {0}) (λ best. cyc * quotient from to best < 2 ^ 64)
