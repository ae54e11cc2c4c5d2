-- Beginnings of one list, and what stands at its places.
use Rattle.std.proofs.Common.{◌≡◌, ℕ, zero, suc, ◌<◌, ◌≤◌, List, [], ◌∷◌, ◌++◌, length, get_or, refl, ap, sym, ◌∙◌, subst, arith, append_assoc, length-append}
use mathlib.Core.Option.{some, some-injective, some-ne-none}
use mathlib.Core.List.{IsPrefix}
use lib.ListN.{get_elem?}
use Rattle.atomic_table.proofs.Lists.{at_last, at_longer}

module _ {A : Type 0} where
  -- each list begins with itself
  pub prefix_self : (xs : List A) → IsPrefix xs xs
  prefix_self [] = ([], refl)
  prefix_self (x ∷ xs) = (let r = prefix_self xs in r.0, ap (λ ys. x ∷ ys) (prefix_self xs).1)

  pub prefix_trans : (xs ys zs : List A) → IsPrefix xs ys → IsPrefix ys zs → IsPrefix xs zs
  prefix_trans xs ys zs p q = (p.0 ++ q.0, sym (append_assoc xs p.0 q.0) ∙ (ap (λ w. w ++ q.0) p.1 ∙ q.1))

  -- a list begins one that goes on from it
  pub prefix_more : (xs ys : List A) → IsPrefix xs (xs ++ ys)
  prefix_more xs ys = (ys, refl)

  pub prefix_length : (xs ys : List A) → IsPrefix xs ys → length xs ≤ length ys
  prefix_length xs ys p = omega (arith, sym (ap length p.1) ∙ length-append xs p.0)

  -- of two beginnings of one list the shorter begins the longer
  pub prefix_shorter : (xs ys zs : List A) → IsPrefix xs zs → IsPrefix ys zs → length xs ≤ length ys → IsPrefix xs ys
  prefix_shorter [] ys zs p q le = (ys, refl)
  prefix_shorter (x ∷ xs) [] zs p q le = absurd (omega arith)
  prefix_shorter (x ∷ xs) (y ∷ ys) [] p q le = absurd (cc (p.1))
  prefix_shorter (x ∷ xs) (y ∷ ys) (z ∷ zs) p q le =
      let heads : x ≡ y = cc (p.1, q.1) in
      let rest = prefix_shorter xs ys zs (p.0, cc (p.1)) (q.0, cc (q.1)) (omega arith) in
      (rest.0, cc (heads, rest.1))

  -- what stands in a beginning stands in the whole, at the same place
  pub prefix_at : (xs ys : List A) (k : ℕ) (x : A) → IsPrefix xs ys → get_elem? xs k ≡ some x → get_elem? ys k ≡ some x
  prefix_at xs ys k x p e = subst (λ zs. get_elem? zs k ≡ some x) p.1 (at_longer xs p.0 k x e)

  -- what stands at a place is read there
  pub at_reads : (xs : List A) (k : ℕ) (x d : A) → get_elem? xs k ≡ some x → get_or xs k d ≡ x
  at_reads [] k x d e = absurd (some-ne-none x (sym e))
  at_reads (y ∷ xs) zero x d e = some-injective y x e
  at_reads (y ∷ xs) (suc k) x d e = at_reads xs k x d e

  -- something stands at each place of a list
  pub at_within : (xs : List A) (k : ℕ) → k < length xs → (x : A) × (get_elem? xs k ≡ some x)
  at_within [] k low = absurd (omega arith)
  at_within (x ∷ xs) zero low = (x, refl)
  at_within (x ∷ xs) (suc k) low = at_within xs k (omega arith)

  -- a place has one item
  pub at_once : (xs : List A) (k : ℕ) (x y : A) → get_elem? xs k ≡ some x → get_elem? xs k ≡ some y → x ≡ y
  at_once xs k x y e f = some-injective x y (sym e ∙ f)

  -- the last item
  pub at_end : (xs : List A) (x y : A) (k : ℕ) → length xs ≡ k → get_elem? (xs ++ x ∷ []) k ≡ some y → x ≡ y
  at_end xs x y k e f = at_once (xs ++ x ∷ []) k x y (at_last xs x k e) f
