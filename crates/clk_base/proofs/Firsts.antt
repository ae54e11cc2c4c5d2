-- The first refusal of tests: once there is one it stays, and a list that passes leaves what comes after it to decide.
use Rattle.std.proofs.Common.{◌≡◌, ℕ, suc, ◌<◌, get_or, drop, drop-cons, add-one, ◌+◌, List, [], ◌∷◌, ◌++◌, length, Bool, true, false, Option, Some, None, refl, sym, ◌∙◌, ap, arith}
use Rattle.std.proofs.Common.{map}
use Rattle.std.proofs.lemmas.List.{length-map, get_or-map}
use Rattle.std.specs.Option.{IsNone, MatchOption, is_some, option_or}
use Rattle.std.specs.List.{All}
use Rattle.std.proofs.lemmas.List.Elements.{All-nil, All-cons}
use Rattle.clk_base.specs.First.{unless, first_from, first, each_from, each, each_told_from, each_told, IsFirst}

-- a refusal that came before stays
pub first_from-some : {R : Type 0} (r : R) (ts : List (Option R)) → first_from (Some r) ts ≡ Some r
first_from-some r [] = refl
first_from-some r (t ∷ ts) = first_from-some r ts

pub each_from-some : {A R : Type 0} (r : R) (f : ℕ → A → Option R) (n : ℕ) (xs : List A) → each_from (Some r) f n xs ≡ Some r
each_from-some r f n [] = refl
each_from-some r f n (x ∷ xs) = each_from-some r f (n + 1) xs

pub each_told_from-some : {A S R : Type 0} (r : R) (f : S → ℕ → A → Option R) (g : S → A → S) (s : S) (n : ℕ) (xs : List A) → each_told_from (Some r) f g s n xs ≡ Some r
each_told_from-some r f g s n [] = refl
each_told_from-some r f g s n (x ∷ xs) = each_told_from-some r f g (g s x) (n + 1) xs

-- what came before decides, and else the tests do
pub option_or-none : {R : Type 0} (t : Option R) → option_or t None ≡ t
option_or-none None = refl
option_or-none (Some r) = refl

pub first_from-is : {R : Type 0} (t : Option R) (ts : List (Option R)) → first_from t ts ≡ option_or t (first ts)
first_from-is None ts = refl
first_from-is (Some r) ts = first_from-some r ts

pub each_from-is : {A R : Type 0} (t : Option R) (f : ℕ → A → Option R) (n : ℕ) (xs : List A) → each_from t f n xs ≡ option_or t (each f n xs)
each_from-is None f n xs = refl
each_from-is (Some r) f n xs = each_from-some r f n xs

-- tests after others
pub first_from-append : {R : Type 0} (t : Option R) (ts us : List (Option R)) → first_from t (ts ++ us) ≡ first_from (first_from t ts) us
first_from-append t [] us = refl
first_from-append t (u ∷ ts) us = first_from-append (option_or t u) ts us

pub first-append : {R : Type 0} (ts us : List (Option R)) → first (ts ++ us) ≡ option_or (first ts) (first us)
first-append ts us = first_from-append None ts us ∙ first_from-is (first ts) us

pub each_from-append : {A R : Type 0} (t : Option R) (f : ℕ → A → Option R) (n : ℕ) (xs ys : List A)
    → each_from t f n (xs ++ ys) ≡ each_from (each_from t f n xs) f (n + length xs) ys
each_from-append t f n [] ys = let e : n + 0 ≡ n = omega arith in rw e
each_from-append t f n (x ∷ xs) ys =
    let e : n + length (x ∷ xs) ≡ n + 1 + length xs = omega arith in
    rw e (each_from-append (option_or t (f n x)) f (n + 1) xs ys)

-- one more test in front of what a law tells of the rest
one_in_front : {R : Type 0} (t : Option R) (ts : List (Option R))
    → MatchOption (first ts) (All (λ u. IsNone u) ts) (IsFirst ts) → MatchOption (option_or t (first ts)) (All (λ u. IsNone u) (t ∷ ts)) (IsFirst (t ∷ ts))
one_in_front (Some r) ts told =
    record { front = []; back = ts; stands = refl; passed = All-nil (λ u. IsNone u) }
one_in_front {R} None ts told = passed_in_front (first ts) told
  where
    passed_in_front : (o : Option R) → MatchOption o (All (λ u. IsNone u) ts) (IsFirst ts)
        → MatchOption o (All (λ (u : Option R). IsNone u) (None ∷ ts)) (IsFirst (None ∷ ts))
    passed_in_front None all = All-cons (λ (u : Option R). IsNone u) None ts refl all
    passed_in_front (Some r) found = record {
      front = None ∷ found.front;
      back = found.back;
      stands = ap (λ us. None ∷ us) found.stands;
      passed = All-cons (λ (u : Option R). IsNone u) None found.front refl found.passed;
    }

pub first_decides : {R : Type 0} (ts : List (Option R)) → MatchOption (first ts) (All (λ t. IsNone t) ts) (IsFirst ts)
first_decides [] = All-nil (λ t. IsNone t)
first_decides (t ∷ ts) = rw (first_from-is t ts) (one_in_front t ts (first_decides ts))

-- tests that all pass, one by one
pub option_or-passed : {R : Type 0} (t u : Option R) → option_or t u ≡ None → (t ≡ None) × (u ≡ None)
option_or-passed None u h = (refl, h)
option_or-passed (Some r) u h = absurd (cc)

pub first-passed : {R : Type 0} (t : Option R) (ts : List (Option R)) → first (t ∷ ts) ≡ None → (t ≡ None) × (first ts ≡ None)
first-passed t ts h = option_or-passed t (first ts) (sym (first_from-is t ts) ∙ h)

-- each of the tests passes
abbrev pub EachPasses : {R : Type 0} → List (Option R) → Type 0
EachPasses [] = Unit {0}
EachPasses (t ∷ ts) = (t ≡ None) × EachPasses ts

pub each_passes : {R : Type 0} (ts : List (Option R)) → first ts ≡ None → EachPasses ts
each_passes [] h = tt
each_passes (t ∷ ts) h = let (here, more) = first-passed t ts h in (here, each_passes ts more)

pub first_append-passed : {R : Type 0} (ts us : List (Option R)) → first (ts ++ us) ≡ None → (first ts ≡ None) × (first us ≡ None)
first_append-passed ts us h = option_or-passed (first ts) (first us) (sym (first-append ts us) ∙ h)

pub each_from-passed : {A R : Type 0} (f : ℕ → A → Option R) (n : ℕ) (x : A) (xs : List A) → each f n (x ∷ xs) ≡ None → (f n x ≡ None) × (each f (n + 1) xs ≡ None)
each_from-passed f n x xs h = option_or-passed (f n x) (each f (n + 1) xs) (sym (each_from-is (f n x) f (n + 1) xs) ∙ h)

pub each_told_from-is : {A S R : Type 0} (t : Option R) (f : S → ℕ → A → Option R) (g : S → A → S) (s : S) (n : ℕ) (xs : List A)
    → each_told_from t f g s n xs ≡ option_or t (each_told f g s n xs)
each_told_from-is None f g s n xs = refl
each_told_from-is (Some r) f g s n xs = each_told_from-some r f g s n xs

pub each_told-passed : {A S R : Type 0} (f : S → ℕ → A → Option R) (g : S → A → S) (s : S) (n : ℕ) (x : A) (xs : List A)
    → each_told f g s n (x ∷ xs) ≡ None → (f s n x ≡ None) × (each_told f g (g s x) (n + 1) xs ≡ None)
each_told-passed f g s n x xs h = option_or-passed (f s n x) (each_told f g (g s x) (n + 1) xs) (sym (each_told_from-is (f s n x) f g (g s x) (n + 1) xs) ∙ h)

-- a refusal at the item that a loop stands at, which decides where what is left decides
refused_first : {A S R : Type 0} (f : S → ℕ → A → Option R) (g : S → A → S) (s : S) (n : ℕ) (x : A) (xs : List A) (r : R)
    → f s n x ≡ Some r → each_told f g s n (x ∷ xs) ≡ Some r
refused_first f g s n x xs r e = each_told_from-is (f s n x) f g (g s x) (n + 1) xs ∙ ap (λ t. option_or t (each_told f g (g s x) (n + 1) xs)) e

pub refused_at : {A S R : Type 0} (f : S → ℕ → A → Option R) (g : S → A → S) (s : S) (n : ℕ) (xs : List A) (i : ℕ) (d : A) (r : R)
    → i < length xs → f s n (get_or xs i d) ≡ Some r → each_told f g s n (drop i xs) ≡ Some r
refused_at f g s n xs i d r h e = rw (drop-cons xs i d h) (refused_first f g s n (get_or xs i d) (drop (suc i) xs) r e)

passed_first : {A S R : Type 0} (f : S → ℕ → A → Option R) (g : S → A → S) (s : S) (n : ℕ) (x : A) (xs : List A)
    → f s n x ≡ None → each_told f g s n (x ∷ xs) ≡ each_told f g (g s x) (n + 1) xs
passed_first f g s n x xs e = each_told_from-is (f s n x) f g (g s x) (n + 1) xs ∙ ap (λ t. option_or t (each_told f g (g s x) (n + 1) xs)) e

-- an item that passes leaves those after it to decide
pub passed_at : {A S R : Type 0} (f : S → ℕ → A → Option R) (g : S → A → S) (s : S) (n : ℕ) (xs : List A) (i : ℕ) (d : A)
    → i < length xs → f s n (get_or xs i d) ≡ None → each_told f g s n (drop i xs) ≡ each_told f g (g s (get_or xs i d)) (n + 1) (drop (i + 1) xs)
passed_at f g s n xs i d h e = rw (drop-cons xs i d h, add-one i) (passed_first f g s n (get_or xs i d) (drop (suc i) xs) e)

-- the same where an item is told its number alone
refused_each : {A R : Type 0} (f : ℕ → A → Option R) (n : ℕ) (x : A) (xs : List A) (o : Option R) → o ≡ f n x → is_some o ≡ true → o ≡ each f n (x ∷ xs)
refused_each f n x xs None e s = absurd (cc)
refused_each f n x xs (Some r) e s = sym (each_from-is (f n x) f (n + 1) xs ∙ ap (λ t. option_or t (each f (n + 1) xs)) (sym e))

pub refused_each_at : {A R : Type 0} (f : ℕ → A → Option R) (n : ℕ) (xs : List A) (i : ℕ) (d : A) (o : Option R) → i < length xs
    → o ≡ f n (get_or xs i d) → is_some o ≡ true → o ≡ each f n (drop i xs)
refused_each_at f n xs i d o h e s = rw (drop-cons xs i d h) (refused_each f n (get_or xs i d) (drop (suc i) xs) o e s)

-- the same of a loop over the items that a list is seen as, where what is left decides
pub told_refused : {A B S R : Type 0} (f : S → ℕ → B → Option R) (g : S → B → S) (view : A → B) (start s : S) (xs : List A) (i : ℕ) (d : A) (r : R)
    → each_told f g start 1 (map view xs) ≡ each_told f g s (i + 1) (drop i (map view xs)) → i < length xs → f s (i + 1) (view (get_or xs i d)) ≡ Some r
    → each_told f g start 1 (map view xs) ≡ Some r
told_refused f g view start s xs i d r left h e =
    left ∙ refused_at f g s (i + 1) (map view xs) i (view d) r (rw (length-map xs view) h) (rw (get_or-map view xs i d (view d) h) e)

pub told_passed : {A B S R : Type 0} (f : S → ℕ → B → Option R) (g : S → B → S) (view : A → B) (start s : S) (xs : List A) (i : ℕ) (d : A)
    → each_told f g start 1 (map view xs) ≡ each_told f g s (i + 1) (drop i (map view xs)) → i < length xs → f s (i + 1) (view (get_or xs i d)) ≡ None
    → each_told f g start 1 (map view xs) ≡ each_told f g (g s (view (get_or xs i d))) (i + 1 + 1) (drop (i + 1) (map view xs))
told_passed f g view start s xs i d left h e =
    let at : get_or (map view xs) i (view d) ≡ view (get_or xs i d) = get_or-map view xs i d (view d) h in
    let low : i < length (map view xs) = rw (length-map xs view) h in
    let here = passed_at f g s (i + 1) (map view xs) i (view d) low (rw at e) in
    left ∙ rw at at here

pub unless-passed : {R : Type 0} (b : Bool) (r : R) → unless b r ≡ None → b ≡ true
unless-passed true r h = refl
unless-passed false r h = absurd (cc)
