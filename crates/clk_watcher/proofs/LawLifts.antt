-- The lifts of a demotion, one by one.
use Rattle.std.proofs.Common.{◌≡◌, ℕ, zero, suc, ◌+◌, ℤ, List, [], ◌∷◌, ◌++◌, length, refl, subst, arith, length-append}
use Rattle.std.specs.List.{All}
use Rattle.std.proofs.lemmas.List.Elements.{All-nil, All-cons, All-append}
use Rattle.clk_base.specs.Walk.{EachFrom}
use Rattle.clk_record.specs.declared.step.Step.{Step}
use Rattle.clk_words.specs.declared.opening.Start.{Start}
use Rattle.clk_words.specs.Histories.{opens_at}
use Rattle.clk_demote.specs.Lifts.{lift_of, lifts_of}
use Rattle.clk_watcher.specs.Shown.{IsLift}

each_both : {A : Type 0} (P : ℕ → A → Type 0) (n : ℕ) (xs ys : List A) → EachFrom P n xs → EachFrom P (n + length xs) ys → EachFrom P n (xs ++ ys)
each_both P n [] ys first second = subst (λ k. EachFrom P k ys) (omega arith) second
each_both P n (x ∷ xs) ys first second = (first.0, each_both P (n + 1) xs ys first.1 (subst (λ k. EachFrom P k ys) (omega arith) second))

pub lifts_count : (by : ℕ) (start : Start) (check : ℕ) (opening : ℤ) (n : ℕ) → length (lifts_of by start check opening n) ≡ n
lifts_count by start check opening zero = refl
lifts_count by start check opening (suc n) =
    let rest = lifts_count by start check opening n in
    omega (arith, rest, length-append (lifts_of by start check opening n) (lift_of by start check opening n ∷ []))

pub lifts_each : (by : ℕ) (start : Start) (check : ℕ) (opening : ℤ) (n : ℕ) → EachFrom (IsLift check (opens_at start) opening) 0 (lifts_of by start check opening n)
lifts_each by start check opening zero = tt
lifts_each by start check opening (suc n) =
    let count = lifts_count by start check opening n in
    each_both (IsLift check (opens_at start) opening) 0 (lifts_of by start check opening n) (lift_of by start check opening n ∷ []) (lifts_each by start check opening n)
    (record { word = omega (arith, count); call = refl; why = refl; old = refl; new = refl }, tt)

pub lifts_by : (by : ℕ) (start : Start) (check : ℕ) (opening : ℤ) (n : ℕ) → All (λ s. s.by ≡ by) (lifts_of by start check opening n)
lifts_by by start check opening zero = All-nil (λ (s : Step). s.by ≡ by)
lifts_by by start check opening (suc n) =
    All-append (λ (s : Step). s.by ≡ by) (lifts_of by start check opening n) (lift_of by start check opening n ∷ []) (lifts_by by start check opening n)
    (All-cons (λ (s : Step). s.by ≡ by) (lift_of by start check opening n) [] refl (All-nil (λ (s : Step). s.by ≡ by)))
