-- A walk over two lists in a row, what holds of each item and its number, and what holds of all items.
use Rattle.std.proofs.Common.{◌≡◌, ℕ, zero, suc, ◌+◌, ◌<◌, List, [], ◌∷◌, ◌++◌, length, get_or, subst, arith}
use Rattle.std.specs.List.{All}
use Rattle.std.proofs.lemmas.List.Elements.{All-nil, All-cons, All-head, All-tail}
use Rattle.clk_base.specs.Walk.{Along, told_after, EachFrom}

pub along_both : {A S : Type 0} (Test : S → A → Type 0) (after : S → A → S) (told : S) (xs ys : List A)
    → Along Test after told xs → Along Test after (told_after after told xs) ys → Along Test after told (xs ++ ys)
along_both Test after told [] ys first second = second
along_both Test after told (x ∷ xs) ys first second = (first.0, along_both Test after (after told x) xs ys first.1 second)

pub along_split : {A S : Type 0} (Test : S → A → Type 0) (after : S → A → S) (told : S) (xs ys : List A)
    → Along Test after told (xs ++ ys) → Along Test after told xs × Along Test after (told_after after told xs) ys
along_split Test after told [] ys h = (tt, h)
along_split Test after told (x ∷ xs) ys h = let more = along_split Test after (after told x) xs ys h.1 in ((h.0, more.0), more.1)

-- what holds at each place holds of each item and its number
pub each_from : {A : Type 0} (P : ℕ → A → Type 0) (n : ℕ) (xs : List A) → ((k : ℕ) (d : A) → k < length xs → P (n + k) (get_or xs k d)) → EachFrom P n xs
each_from P n [] h = tt
each_from P n (x ∷ xs) h =
    let e : n + 0 ≡ n = omega arith in (
      subst (λ k. P k x) e (h 0 x (omega arith)),
      each_from P (n + 1) xs (λ k d low. let e : n + suc k ≡ n + 1 + k = omega arith in subst (λ i. P i (get_or xs k d)) e (h (suc k) d (omega arith))),
    )

-- and the other way round
pub each_at : {A : Type 0} (P : ℕ → A → Type 0) (n : ℕ) (xs : List A) (k : ℕ) (d : A) → k < length xs → EachFrom P n xs → P (n + k) (get_or xs k d)
each_at P n [] k d low each = absurd (omega (arith, low))
each_at P n (x ∷ xs) zero d low each = let e : n ≡ n + 0 = omega arith in subst (λ (i : ℕ). P i x) e each.0
each_at P n (x ∷ xs) (suc k) d low each =
    let e : n + 1 + k ≡ n + suc k = omega arith in subst (λ (i : ℕ). P i (get_or xs k d)) e (each_at P (n + 1) xs k d (omega (arith, low)) each.1)

-- what holds of two lists in a row holds of each
pub all_both : {A : Type 0} (P : A → Type 0) (xs ys : List A) → All P (xs ++ ys) → All P xs × All P ys
all_both P [] ys all = (All-nil P, all)
all_both P (x ∷ xs) ys all =
    let rest = all_both P xs ys (All-tail P x (xs ++ ys) all) in (All-cons P x xs (All-head P x (xs ++ ys) all) rest.0, rest.1)
