-- Sums over a list of which one place changes, and sums that one place has whole.
use Rattle.std.proofs.Common.{◌≡◌, ℕ, zero, suc, ◌+◌, ◌≤◌, List, [], ◌∷◌, set, sym, refl, ap, arith}
use mathlib.Core.Option.{some, some-ne-none, some-injective}
use lib.ListN.{get_elem?}
use Rattle.std.specs.List.{sum_by}
use Rattle.std.proofs.lemmas.List.Sums.{sum_by-cons}

module _ {A : Type 0} (f : A → ℕ) where
  -- the sum loses what stood there, and gains what stands there now
  pub total_set : (xs : List A) (i : ℕ) (a b : A) → get_elem? xs i ≡ some a → sum_by f (set xs i b) + f a ≡ sum_by f xs + f b
  total_set [] i a b at = absurd (some-ne-none a (sym at))
  total_set (x ∷ xs) zero a b at = omega (arith, sum_by-cons f b xs, sum_by-cons f x xs, ap f (some-injective x a at))
  total_set (x ∷ xs) (suc i) a b at = omega (arith, sum_by-cons f x (set xs i b), sum_by-cons f x xs, total_set xs i a b at)

  -- no term is above the sum
  pub total_has : (xs : List A) (i : ℕ) (a : A) → get_elem? xs i ≡ some a → f a ≤ sum_by f xs
  total_has [] i a at = absurd (some-ne-none a (sym at))
  total_has (x ∷ xs) zero a at = omega (arith, sum_by-cons f x xs, ap f (some-injective x a at))
  total_has (x ∷ xs) (suc i) a at = omega (arith, sum_by-cons f x xs, total_has xs i a at)

  module _ (g : A → ℕ) (follows : (a : A) → f a ≡ 0 → g a ≡ 0) where
    -- where there is nothing of f there is nothing of g
    none_of_it : (xs : List A) → sum_by f xs ≡ 0 → sum_by g xs ≡ 0
    none_of_it [] whole = refl
    none_of_it (x ∷ xs) whole =
        let head : f x ≡ 0 = omega (arith, sum_by-cons f x xs) in
        let tail : sum_by f xs ≡ 0 = omega (arith, sum_by-cons f x xs) in
        omega (arith, sum_by-cons g x xs, follows x head, none_of_it xs tail)

    -- where one place has the whole of f, it has the whole of g
    pub has_all : (xs : List A) (i : ℕ) (a : A) → get_elem? xs i ≡ some a → sum_by f xs ≡ f a → sum_by g xs ≡ g a
    has_all [] i a at whole = absurd (some-ne-none a (sym at))
    has_all (x ∷ xs) zero a at whole =
        let same = some-injective x a at in
        let tail : sum_by f xs ≡ 0 = omega (arith, sum_by-cons f x xs, ap f same) in
        omega (arith, sum_by-cons g x xs, ap g same, none_of_it xs tail)
    has_all (x ∷ xs) (suc i) a at whole =
        let within = total_has xs i a at in
        let head : f x ≡ 0 = omega (arith, sum_by-cons f x xs) in
        let tail : sum_by f xs ≡ f a = omega (arith, sum_by-cons f x xs) in
        omega (arith, sum_by-cons g x xs, follows x head, has_all xs i a at tail)
