-- Lists of which one place changes, or that grow by one.
use Rattle.std.proofs.Common.{◌≡◌, ◌≢◌, ℕ, zero, suc, ◌+◌, ◌<◌, ◌⊎◌, cond, List, [], ◌∷◌, ◌++◌, length, get_or, set, All, nat_eq, count_by, refl, sym, ap, ◌∙◌, subst, inl, inr, ⊎_elim, arith, eq-eqb, ne_eqb}
use Rattle.std.proofs.lemmas.List.Sums.{sum_by-cons, sum_by-append}
use Rattle.std.proofs.lemmas.List.Elements.{All-nil, All-cons}
use mathlib.Core.Option.{some, some-injective, some-ne-none}
use mathlib.Core.Logic.{dite}
use native.Mathlib.Decide.{ℕ_discrete}
use lib.ListN.{get_elem?}
use Rattle.atomic_table.proofs.Lists.{at_set}

-- a word that is stored as it was
pub set_same : (ws : List ℕ) (i : ℕ) → set ws i (get_or ws i 0) ≡ ws
set_same [] i = refl
set_same (x ∷ ws) zero = refl
set_same (x ∷ ws) (suc i) = ap (λ zs. x ∷ zs) (set_same ws i)

module _ {V : Type 0} where
  -- what holds of each place, where one place has changed
  pub placed : (P Q : ℕ → V → Type 0) (views : List V) (id : ℕ) (w : V) → ((j : ℕ) (u : V) → get_elem? views j ≡ some u → P j u)
      → ((j : ℕ) (u : V) → j ≢ id → P j u → Q j u) → Q id w → (j : ℕ) (u : V) → get_elem? (set views id w) j ≡ some u → Q j u
  placed P Q views id w each others here j u at =
      ⊎_elim
      (λ (x : (j ≡ id) × (w ≡ u)). subst (λ k. Q k u) (sym x.0) (subst (Q id) x.1 here))
      (λ (x : (j ≢ id) × (get_elem? views j ≡ some u)). others j u x.0 (each j u x.1))
      (at_set views id j w u at)

  at_end : (xs : List V) (w u : V) (j : ℕ) → get_elem? (xs ++ w ∷ []) j ≡ some u → (get_elem? xs j ≡ some u) ⊎ ((j ≡ length xs) × (w ≡ u))
  at_end [] w u zero e = inr (refl, some-injective w u e)
  at_end [] w u (suc j) e = absurd (some-ne-none u (sym e))
  at_end (x ∷ xs) w u zero e = inl e
  at_end (x ∷ xs) w u (suc j) e = ⊎_elim (λ p. inl p) (λ p. inr (ap suc p.0, p.1)) (at_end xs w u j e)

  -- and where a place was added
  pub grown : (P Q : ℕ → V → Type 0) (views : List V) (w : V) → ((j : ℕ) (u : V) → get_elem? views j ≡ some u → P j u)
      → ((j : ℕ) (u : V) → P j u → Q j u) → Q (length views) w → (j : ℕ) (u : V) → get_elem? (views ++ w ∷ []) j ≡ some u → Q j u
  grown P Q views w each others here j u at =
      ⊎_elim
      (λ (x : get_elem? views j ≡ some u). others j u (each j u x))
      (λ (x : (j ≡ length views) × (w ≡ u)). subst (λ k. Q k u) (sym x.0) (subst (Q (length views)) x.1 here))
      (at_end views w u j at)

  -- a place that is there lies below the length
  pub at_below : (xs : List V) (j : ℕ) (u : V) → get_elem? xs j ≡ some u → j < length xs
  at_below [] j u e = absurd (some-ne-none u (sym e))
  at_below (x ∷ xs) zero u e = omega arith
  at_below (x ∷ xs) (suc j) u e = omega (arith, at_below xs j u e)

  -- another place than the one that changed
  pub at_other : (xs : List V) (i j : ℕ) (w u : V) → j ≢ i → get_elem? (set xs i w) j ≡ some u → get_elem? xs j ≡ some u
  at_other xs i j w u ne at = ⊎_elim (λ (x : (j ≡ i) × (w ≡ u)). absurd (ne x.0)) (λ (x : (j ≢ i) × (get_elem? xs j ≡ some u)). x.1) (at_set xs i j w u at)

-- how often a number stands before lists
module _ {B : Type 0} where
  abbrev pub times : ℕ → List (ℕ × B) → ℕ
  times n os = count_by (λ own. nat_eq own.0 n) os

  pub times_here : (n : ℕ) (b : B) (os : List (ℕ × B)) → times n ((n, b) ∷ os) ≡ 1 + times n os
  times_here n b os = let t = eq-eqb n n refl in sum_by-cons (λ (own : ℕ × B). cond (nat_eq own.0 n) 1 0) (n, b) os ∙ rw t refl

  pub times_at : (n : ℕ) (own : ℕ × B) (os : List (ℕ × B)) → own.0 ≡ n → times n (own ∷ os) ≡ 1 + times n os
  times_at n own os e = let t = eq-eqb own.0 n e in sum_by-cons (λ (o : ℕ × B). cond (nat_eq o.0 n) 1 0) own os ∙ rw t refl

  pub times_off : (n : ℕ) (own : ℕ × B) (os : List (ℕ × B)) → own.0 ≢ n → times n (own ∷ os) ≡ times n os
  times_off n own os k = let t = ne_eqb own.0 n k in sum_by-cons (λ (o : ℕ × B). cond (nat_eq o.0 n) 1 0) own os ∙ rw t (omega arith)

  pub times_append : (n : ℕ) (os ps : List (ℕ × B)) → times n (os ++ ps) ≡ times n os + times n ps
  times_append n os ps = sum_by-append (λ (o : ℕ × B). cond (nat_eq o.0 n) 1 0) os ps

  -- a number that stands nowhere differs from each that does
  pub times_none : (n : ℕ) (os : List (ℕ × B)) → times n os ≡ 0 → All (λ own. own.0 ≢ n) os
  times_none n [] e = All-nil (λ (own : ℕ × B). own.0 ≢ n)
  times_none n (own ∷ os) e =
      dite (ℕ_discrete own.0 n)
      (λ h. absurd (omega (arith, times_at n own os h)))
      (λ k. All-cons (λ (o : ℕ × B). o.0 ≢ n) own os k (times_none n os (omega (arith, times_off n own os k))))

  -- and a number from which all differ stands nowhere
  pub none_times : (P : ℕ × B → Type 0) (n : ℕ) (os : List (ℕ × B)) → ((own : ℕ × B) → P own → own.0 ≢ n) → All P os → times n os ≡ 0
  none_times P n [] k h = refl
  none_times P n (own ∷ os) k h =
      times_off n own os (k own (h 0 own (omega arith))) ∙ none_times P n os k (λ i d l. h (suc i) d (omega arith))
