-- The greatest number of a range that passes a test.
use Rattle.std.proofs.Common.{◌≡◌, ℕ, zero, suc, ◌+◌, ◌<◌, ◌≤◌, max, Bool, true, false, cond, Some, None, List, [], ◌∷◌, ◌⊎◌, inl, inr, refl, sym, ◌∙◌, ap, subst, arith}
use Rattle.std.specs.List.{filter, reduce, fold, range_with_len}
use Rattle.std.specs.Option.{MatchOption}
use Rattle.std.proofs.Math.Nat.{eq-or-lt_of_le}

-- no number of the range passes
abbrev pub NonePasses : (ℕ → Bool) → ℕ → ℕ → Type 0
NonePasses p from end = (k : ℕ) → from ≤ k → k < end → p k ≡ false

-- the greatest of more numbers
fold_max : (a y : ℕ) (ys : List ℕ) → fold max (max a y) ys ≡ max a (fold max y ys)
fold_max a y [] = refl
fold_max a y (z ∷ zs) = let e : max (max a y) z ≡ max a (max y z) = omega arith in rw e (fold_max a (max y z) zs)

-- a number in front that is no greater
max_front : (a s : ℕ) (ys : List ℕ) → reduce max ys ≡ Some s → a ≤ s → reduce max (a ∷ ys) ≡ Some s
max_front a s [] h le = cc
max_front a s (y ∷ ys) h le =
    let best : fold max y ys ≡ s = cc in
    let e : max a (fold max y ys) ≡ s = omega arith in
    ap Some (fold_max a y ys ∙ e)

-- the same, of a number that is kept or left out
front_kept : (b : Bool) (a s : ℕ) (ys : List ℕ) → reduce max ys ≡ Some s → a ≤ s → reduce max (cond b (a ∷ ys) ys) ≡ Some s
front_kept true a s ys h le = max_front a s ys h le
front_kept false a s ys h le = h

-- where none passes, none is kept
none_left : (p : ℕ → Bool) (a n : ℕ) → NonePasses p a (a + n) → filter p (range_with_len a n) ≡ []
none_left p a zero h = refl
none_left p a (suc n) h =
    let here : p a ≡ false = h a (omega arith) (omega arith) in
    rw (here) (none_left p (a + 1) n (λ k low high. h k (omega arith) (omega arith)))

-- and there is no greatest
pub none_is : (p : ℕ → Bool) (a n : ℕ) → NonePasses p a (a + n) → reduce max (filter p (range_with_len a n)) ≡ None
none_is p a n h = rw (none_left p a n h)

-- a number that passes, above which none does
pub greatest_is : (p : ℕ → Bool) (a n s : ℕ) → a ≤ s → s < a + n → p s ≡ true → NonePasses p (s + 1) (a + n)
    → reduce max (filter p (range_with_len a n)) ≡ Some s
greatest_is p a zero s low high good above = absurd (omega arith)
greatest_is p a (suc n) s low high good above =
    elim (eq-or-lt_of_le low) [
      | inl e ↦ (let here : p a ≡ true = subst (λ (k : ℕ). p k ≡ true) (sym e) good in
          let rest = none_left p (a + 1) n (λ k l h. above k (omega arith) (omega arith)) in
          rw (here, rest) (ap Some e))
      | inr lt ↦ front_kept (p a) a s _ (greatest_is p (a + 1) n s (omega arith) (omega arith) good (λ k l h. above k (omega arith) (omega arith))) low
    ]

-- it is there, or no number passes
pub record IsGreatest (p : ℕ → Bool) (from end best : ℕ) : Type 0 where
  pub low : from ≤ best
  pub high : best < end
  pub good : p best ≡ true
  pub above : NonePasses p (best + 1) end

-- one more number below, which passes or not
at_front : (p : ℕ → Bool) (a n : ℕ) (b : Bool) → p a ≡ b → NonePasses p (a + 1) (a + 1 + n)
    → NonePasses p a (a + suc n) ⊎ ((s : ℕ) × IsGreatest p a (a + suc n) s)
at_front p a n true e none =
    inr (a, record { low = omega arith; high = omega arith; good = e; above = λ k l h. none k (omega arith) (omega arith) })
at_front p a n false e none =
    inl (λ k l h. elim (eq-or-lt_of_le l) [
      | inl same ↦ subst (λ (j : ℕ). p j ≡ false) same e
      | inr lt ↦ none k (omega arith) (omega arith)
    ])

-- each range has a greatest number that passes, or none passes
scan : (p : ℕ → Bool) (a n : ℕ) → NonePasses p a (a + n) ⊎ ((s : ℕ) × IsGreatest p a (a + n) s)
scan p a zero = inl (λ k l h. absurd (omega arith))
scan p a (suc n) =
    elim (scan p (a + 1) n) [
      | inl none ↦ at_front p a n (p a) refl none
      | inr found ↦ inr (
        found.0,
        record {
          low = (let l = found.1.low in omega arith);
          high = (let h = found.1.high in omega arith);
          good = found.1.good;
          above = λ k l h. found.1.above k l (omega arith);
        },
      )
    ]

-- what the greatest of the numbers that pass is
pub greatest_tells : (p : ℕ → Bool) (a n : ℕ)
    → MatchOption (reduce max (filter p (range_with_len a n))) (NonePasses p a (a + n)) (λ s. IsGreatest p a (a + n) s)
greatest_tells p a n =
    elim (scan p a n) [
      | inl none ↦ rw (none_is p a n none) none
      | inr found ↦ rw (greatest_is p a n found.0 found.1.low found.1.high found.1.good found.1.above) found.1
    ]
