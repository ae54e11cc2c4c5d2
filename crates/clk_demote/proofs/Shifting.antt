-- The opening of a demotion and the offset of a stable stamp, in range and as the code takes them.
use Rattle.std.proofs.Common.{◌≡◌, ℕ, ◌+◌, ◌-◌, ◌*◌, ◌%◌, ◌^◌, ℤ, ◌+ℤ◌, ◌-ℤ◌, ap, sym, ◌∙◌, subst, arith, w64, to_z, of_z}
use Rattle.std.proofs.lemmas.Int.{ints, of_z-to_z}
use Rattle.clk_num.specs.Range.{IsNear, IsFrom0To}
use Rattle.clk_num.specs.Wrapping.{IsValue, wrap, above}
use Rattle.clk_num.proofs.Wraps.{wrapped}
use Rattle.clk_num.proofs.Heights.{wrap_fits, sum_is, difference_is}
use Rattle.clk_record.specs.declared.stable.Demotion.{Demotion}
use Rattle.clk_record.specs.declared.stable.StableStamp.{StableStamp}
use Rattle.clk_record.specs.Demotions.{offset_by, IsDemotion}
use Rattle.clk_record.proofs.Shifting.{wrap_first}
use Rattle.clk_words.specs.Bounds.{IsGtod, IsOffset, IsLiftValue}

-- the offset of a stable stamp is in the range of the words
pub offset_near : (base opens raw sched gtod : ℤ) → IsFrom0To (2 ^ 57) (above opens base) → IsFrom0To (11 * 2 ^ 55) (above raw base) → IsNear 57 sched → IsGtod gtod
    → IsOffset opens (offset_by sched gtod raw)
offset_near base opens raw sched gtod p q near low = (omega (arith, ints, wrapped), omega (arith, ints, wrapped))

-- words may be lifted to the opening
pub lift_value : (opens sched_offset gtod_offset : ℤ) (stable : StableStamp) (d : Demotion) → IsDemotion sched_offset gtod_offset stable d → IsGtod d.gtod
    → IsOffset opens gtod_offset → IsLiftValue opens d.opening
lift_value opens sched_offset gtod_offset stable d is bound near = record {
  gtod = d.gtod;
  offset = d.gtod_offset;
  value_is = is.opening_is;
  gtod_range = bound;
  offset_range = subst (IsOffset opens) (sym is.gtod_offset_is) near;
}

-- ---- the sums and differences of words, as the code takes them

wrap_second : (a b : ℤ) → wrap (a -ℤ wrap b) ≡ wrap (a -ℤ b)
wrap_second a b = omega (arith, ints, wrapped)

pub offset_is : (raw sched gtod : ℤ) → IsValue raw → IsValue sched → IsValue gtod
    → to_z w64 (((of_z w64 raw + of_z w64 sched) % 2 ^ 64 + (2 ^ 64 - of_z w64 gtod)) % 2 ^ 64) ≡ offset_by sched gtod raw
offset_is raw sched gtod f g h =
    let n : ℕ = (of_z w64 raw + of_z w64 sched) % 2 ^ 64 in
    let sum : to_z w64 n ≡ wrap (raw +ℤ sched) = sum_is raw sched f g in
    let back : of_z w64 (to_z w64 n) ≡ n = of_z-to_z w64 n (omega arith) in
    ap (λ (k : ℕ). to_z w64 ((k + (2 ^ 64 - of_z w64 gtod)) % 2 ^ 64)) (sym back)
    ∙ difference_is (to_z w64 n) gtod (subst IsValue (sym sum) (wrap_fits (raw +ℤ sched))) h
    ∙ ap (λ x. wrap (x -ℤ gtod)) sum
    ∙ wrap_first (raw +ℤ sched) gtod

pub drift_is : (went gtod stable_gtod : ℤ) → IsValue went → IsValue gtod → IsValue stable_gtod
    → to_z w64 ((of_z w64 went + (2 ^ 64 - (of_z w64 gtod + (2 ^ 64 - of_z w64 stable_gtod)) % 2 ^ 64)) % 2 ^ 64) ≡ wrap (went -ℤ (gtod -ℤ stable_gtod))
drift_is went gtod stable_gtod f g h =
    let n : ℕ = (of_z w64 gtod + (2 ^ 64 - of_z w64 stable_gtod)) % 2 ^ 64 in
    let passed : to_z w64 n ≡ wrap (gtod -ℤ stable_gtod) = difference_is gtod stable_gtod g h in
    let back : of_z w64 (to_z w64 n) ≡ n = of_z-to_z w64 n (omega arith) in
    ap (λ (k : ℕ). to_z w64 ((of_z w64 went + (2 ^ 64 - k)) % 2 ^ 64)) (sym back)
    ∙ difference_is went (to_z w64 n) f (subst IsValue (sym passed) (wrap_fits (gtod -ℤ stable_gtod)))
    ∙ ap (λ x. wrap (went -ℤ x)) passed
    ∙ wrap_second went (gtod -ℤ stable_gtod)
