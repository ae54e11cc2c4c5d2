-- Parts, register by register.
use Rattle.std.proofs.Common.{◌≡◌, ◌≢◌, ℕ, zero, suc, ◌+◌, ◌*◌, ◌/◌, ◌<◌, ◌≤◌, ◌⊎◌, ℤ, Bool, true, false, cond, List, [], ◌∷◌, ◌++◌, length, max, nat_lt, Some, None, Option, refl, sym, ap, ◌∙◌, subst, inl, inr, ⊎_elim, arith, length-append, append_assoc, ltb-true, ltb-false}
use Rattle.std.proofs.lemmas.List.{get_or_past, get_or_append_left}
use Rattle.std.proofs.Math.Seq.{get_or-append_seam}
use mathlib.Core.Logic.{dite}
use native.Mathlib.Decide.{ℕ_discrete, dec_le}
use Rattle.clk_words.specs.declared.view.Part.{Part}
use Rattle.clk_words.specs.Fronts.{Begins}
use Rattle.clk_words.specs.Parts.{nothing, part_of, put_part, last_from, PartBegins, either_zero, kept_after, joint_part, parts_below, owns_register, joint_parts}
use Rattle.clk_words.specs.WordsRule.{Chain, Knows}
use Rattle.clk_words.proofs.Fronts.{begins_self, begins_shorter}

pub put_here : (ps : List Part) (r : ℕ) (p : Part) → part_of (put_part ps r p) r ≡ p
put_here [] zero p = refl
put_here [] (suc r) p = put_here [] r p
put_here (q ∷ ps) zero p = refl
put_here (q ∷ ps) (suc r) p = put_here ps r p

pub put_else : (ps : List Part) (r k : ℕ) (p : Part) → k ≢ r → part_of (put_part ps r p) k ≡ part_of ps k
put_else [] zero zero p ne = absurd (ne refl)
put_else [] zero (suc k) p ne = refl
put_else [] (suc r) zero p ne = refl
put_else [] (suc r) (suc k) p ne = put_else [] r k p (λ e. ne (ap suc e))
put_else (q ∷ ps) zero zero p ne = absurd (ne refl)
put_else (q ∷ ps) zero (suc k) p ne = refl
put_else (q ∷ ps) (suc r) zero p ne = refl
put_else (q ∷ ps) (suc r) (suc k) p ne = put_else ps r k p (λ e. ne (ap suc e))

-- the last of a list that has grown
pub last_more : (x y : ℤ) (ys : List ℤ) → last_from x (ys ++ y ∷ []) ≡ y
last_more x y [] = refl
last_more x y (z ∷ ys) = last_more z y ys

below_length : (n : ℕ) (f : ℕ → Part) → length (parts_below n f) ≡ n
below_length zero f = refl
below_length (suc n) f = omega (arith, below_length n f, length-append (parts_below n f) (f n ∷ []))

below_at : (n k : ℕ) (f : ℕ → Part) → k < n → part_of (parts_below n f) k ≡ f k
below_at zero k f low = absurd (omega arith)
below_at (suc n) k f low =
    let long = below_length n f in
    dite (ℕ_discrete k n)
    (λ e. subst (λ i. part_of (parts_below n f ++ f n ∷ []) i ≡ f k) (long ∙ sym e) (get_or-append_seam (parts_below n f) (f n) [] nothing ∙ ap f (sym e)))
    (λ ne. let under : k < length (parts_below n f) = omega arith in
    get_or_append_left (parts_below n f) (f n ∷ []) nothing k under ∙ below_at n k f (omega arith))

nothing_joint : (a b : Bool) → joint_part a b nothing nothing ≡ nothing
nothing_joint true b = refl
nothing_joint false true = refl
nothing_joint false false = refl

-- the joint part of each register
pub joint_at : (owns_a owns_b : ℕ → Bool) (ps qs : List Part) (r : ℕ)
    → part_of (joint_parts owns_a owns_b ps qs) r ≡ joint_part (owns_register owns_a r) (owns_register owns_b r) (part_of ps r) (part_of qs r)
joint_at owns_a owns_b ps qs r = by_size (dec_le (max (length ps) (length qs)) r)
  where
    f : ℕ → Part
    f k = joint_part (owns_register owns_a k) (owns_register owns_b k) (part_of ps k) (part_of qs k)

    by_size : Dec (max (length ps) (length qs) ≤ r) → part_of (parts_below (max (length ps) (length qs)) f) r ≡ f r
    by_size (yes high) =
        let long = below_length (max (length ps) (length qs)) f in
        let none : part_of (parts_below (max (length ps) (length qs)) f) r ≡ nothing = get_or_past (parts_below (max (length ps) (length qs)) f) r nothing (omega arith) in
        let first : part_of ps r ≡ nothing = get_or_past ps r nothing (omega arith) in
        let second : part_of qs r ≡ nothing = get_or_past qs r nothing (omega arith) in
        none ∙ sym (rw (first, second) (nothing_joint (owns_register owns_a r) (owns_register owns_b r)))
    by_size (no low) = below_at (max (length ps) (length qs)) r f (omega arith)

-- what one part knows, the same part with more knows
pub part_through : (p q r : Part) → PartBegins p q → PartBegins q r → PartBegins p r
part_through p q r a b = record {
  zero_is = ⊎_elim
      (λ (e : p.zero ≡ None). inl e)
      (λ (e : p.zero ≡ q.zero). ⊎_elim (λ (f : q.zero ≡ None). inl (e ∙ f)) (λ (f : q.zero ≡ r.zero). inr (e ∙ f)) b.zero_is)
      a.zero_is;
  after = record { rest = a.after.rest ++ b.after.rest; is = b.after.is ∙ ap (λ zs. zs ++ b.after.rest) a.after.is ∙ append_assoc p.after a.after.rest b.after.rest };
}

-- of two parts of one list
pub knows_joint : (c : Chain) (a b : Bool) (p q : Part) → Knows c p → Knows c q → Knows c (joint_part a b p q)
knows_joint c a b p q k l = record { zero_is = zero_joint p.zero q.zero k.zero_is l.zero_is; after = after_joint a b k.after l.after }
  where
    zero_joint : (x y : Option ℤ) → (x ≡ None) ⊎ (x ≡ Some c.zero_is) → (y ≡ None) ⊎ (y ≡ Some c.zero_is)
        → (either_zero x y ≡ None) ⊎ (either_zero x y ≡ Some c.zero_is)
    zero_joint None y h g = g
    zero_joint (Some x) y h g = h

    after_joint : (a b : Bool) → Begins p.after c.after → Begins q.after c.after → Begins (kept_after a b p.after q.after) c.after
    after_joint true b h g = h
    after_joint false true h g = g
    after_joint false false h g = at (nat_lt (length p.after) (length q.after)) h g
      where
        at : (t : Bool) → Begins p.after c.after → Begins q.after c.after → Begins (cond t q.after p.after) c.after
        at true h g = g
        at false h g = h

-- the kept list is whole where one of the two owners has it whole
pub kept_whole : (a b : Bool) (xs ys zs : List ℤ) → (a ≡ true → xs ≡ zs) → (b ≡ true → ys ≡ zs) → (a ≡ true) ⊎ (b ≡ true) → kept_after a b xs ys ≡ zs
kept_whole true b xs ys zs h g own = h refl
kept_whole false true xs ys zs h g own = g refl
kept_whole false false xs ys zs h g own = ⊎_elim (λ (e : false ≡ true). absurd (cc)) (λ (e : false ≡ true). absurd (cc)) own

-- and each side begins it
kept_begins : (a b : Bool) (xs ys zs : List ℤ) → Begins xs zs → Begins ys zs → (a ≡ true → xs ≡ zs) → (b ≡ true → ys ≡ zs)
    → Begins xs (kept_after a b xs ys) × Begins ys (kept_after a b xs ys)
kept_begins true b xs ys zs p q h g = (begins_self xs, subst (Begins ys) (sym (h refl)) q)
kept_begins false true xs ys zs p q h g = (subst (Begins xs) (sym (g refl)) p, begins_self ys)
kept_begins false false xs ys zs p q h g = at (nat_lt (length xs) (length ys)) refl
  where
    at : (t : Bool) → nat_lt (length xs) (length ys) ≡ t → Begins xs (cond t ys xs) × Begins ys (cond t ys xs)
    at true e = let low = ltb-true (length xs) (length ys) e in (begins_shorter xs ys zs p q (omega arith), begins_self ys)
    at false e = let low = ltb-false (length xs) (length ys) e in (begins_self xs, begins_shorter ys xs zs q p low)

pub begins_joint : (c : Chain) (a b : Bool) (p q : Part) → Knows c p → Knows c q → (a ≡ true → p.after ≡ c.after) → (b ≡ true → q.after ≡ c.after)
    → PartBegins p (joint_part a b p q) × PartBegins q (joint_part a b p q)
begins_joint c a b p q k l h g =
    let both = kept_begins a b p.after q.after c.after k.after l.after h g in
    let zeros = zero_begins p.zero q.zero k.zero_is l.zero_is in
    (record { zero_is = zeros.0; after = both.0 }, record { zero_is = zeros.1; after = both.1 })
  where
    zero_begins : (x y : Option ℤ) → (x ≡ None) ⊎ (x ≡ Some c.zero_is) → (y ≡ None) ⊎ (y ≡ Some c.zero_is)
        → ((x ≡ None) ⊎ (x ≡ either_zero x y)) × ((y ≡ None) ⊎ (y ≡ either_zero x y))
    zero_begins None y h g = (inl refl, inr refl)
    zero_begins (Some x) y h g = (
      inr refl,
      ⊎_elim
          (λ (e : y ≡ None). inl e)
          (λ (e : y ≡ Some c.zero_is). inr (e ∙ sym (⊎_elim (λ (n : Some x ≡ None). absurd (cc)) (λ (n : Some x ≡ Some c.zero_is). n) h)))
          g,
    )

-- the CPU of a register
pub cpu_of_gtod : (c : ℕ) → (2 * c) / 2 ≡ c
cpu_of_gtod c = omega arith

pub cpu_of_raw : (c : ℕ) → (2 * c + 1) / 2 ≡ c
cpu_of_raw c = omega arith
