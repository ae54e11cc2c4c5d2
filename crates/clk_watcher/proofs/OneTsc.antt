-- One source at most is the TSC.
use Rattle.std.proofs.Common.{◌≡◌, ℕ, zero, suc, ◌≤◌, pos, Bool, true, false, List, [], ◌∷◌, get_or, ap, refl, arith}
use Rattle.std.specs.Prelude.{◌&&◌, cond}
use Rattle.std.specs.List.{count_by}
use Rattle.std.proofs.lemmas.List.Sums.{sum_by-cons}
use Rattle.clk_machine.specs.Plan.{SourcePlan}

pub both_true : (a b : Bool) → (a && b) ≡ true → (a ≡ true) × (b ≡ true)
both_true true true h = (refl, refl)
both_true true false h = absurd (cc h)
both_true false b h = absurd (cc h)

pub false_by : (b : Bool) → (b ≡ true → ⊥) → b ≡ false
false_by true h = absurd (h refl)
false_by false h = refl

abbrev pub nothing : SourcePlan
nothing = record { tsc = false; rating = pos 0; margin = pos 0; khz = pos 0; nominal_khz = pos 0; bits = pos 0; jumps = [] }

abbrev one_if : SourcePlan → ℕ
one_if s = cond s.tsc 1 0

some_tsc : (xs : List SourcePlan) (i : ℕ) → (get_or xs i nothing).tsc ≡ true → 1 ≤ count_by (λ s. s.tsc) xs
some_tsc [] i e = absurd (cc e)
some_tsc (x ∷ xs) zero e =
    let sum = sum_by-cons one_if x xs in
    let one : one_if x ≡ 1 = ap (λ (b : Bool). cond b 1 0) e in
    omega (arith, sum, one)
some_tsc (x ∷ xs) (suc i) e =
    let sum = sum_by-cons one_if x xs in
    let rest = some_tsc xs i e in
    omega (arith, sum, rest)

pub tsc_once : (xs : List SourcePlan) (i j : ℕ) → count_by (λ s. s.tsc) xs ≤ 1 → (get_or xs i nothing).tsc ≡ true → (get_or xs j nothing).tsc ≡ true → i ≡ j
tsc_once [] i j few p q = absurd (cc p)
tsc_once (x ∷ xs) zero zero few p q = refl
tsc_once (x ∷ xs) zero (suc j) few p q =
    let sum = sum_by-cons one_if x xs in
    let one : one_if x ≡ 1 = ap (λ (b : Bool). cond b 1 0) p in
    let rest = some_tsc xs j q in
    absurd (omega (arith, sum, one, rest, few))
tsc_once (x ∷ xs) (suc i) zero few p q =
    let sum = sum_by-cons one_if x xs in
    let one : one_if x ≡ 1 = ap (λ (b : Bool). cond b 1 0) q in
    let rest = some_tsc xs i p in
    absurd (omega (arith, sum, one, rest, few))
tsc_once (x ∷ xs) (suc i) (suc j) few p q =
    let sum = sum_by-cons one_if x xs in
    ap suc (tsc_once xs i j (omega (arith, sum, few)) p q)
