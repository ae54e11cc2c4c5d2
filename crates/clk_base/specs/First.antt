-- The first failing test decides. A test is `None` where it passes, and else what it refuses with.
use Rattle.std.specs.Prelude.{◌≡◌, ℕ, ◌+◌, Bool, List, [], ◌∷◌, ◌++◌, Option, Some, None, IsNone, MatchOption, if◌then◌else◌}
use Rattle.std.specs.Option.{option_or}
use Rattle.std.specs.List.{All}

-- a test that passes where it holds, and else refuses
abbrev pub unless : {R : Type 0} → Bool → R → Option R
unless holds refusal = if holds then None else Some refusal

-- the first refusal of some tests, where one came before them or none did
abbrev pub first_from : {R : Type 0} → Option R → List (Option R) → Option R
first_from before [] = before
first_from before (test ∷ tests) = first_from (option_or before test) tests

abbrev pub first : {R : Type 0} → List (Option R) → Option R
first tests = first_from None tests

-- the first refusal at the items of a list, each of which is told its number, counted from n
abbrev pub each_from : {A R : Type 0} → Option R → (ℕ → A → Option R) → ℕ → List A → Option R
each_from before test n [] = before
each_from before test n (x ∷ xs) = each_from (option_or before (test n x)) test (n + 1) xs

abbrev pub each : {A R : Type 0} → (ℕ → A → Option R) → ℕ → List A → Option R
each test n xs = each_from None test n xs

-- the same where each item is also told what came before it, which goes on from item to item
abbrev pub each_told_from : {A S R : Type 0} → Option R → (S → ℕ → A → Option R) → (S → A → S) → S → ℕ → List A → Option R
each_told_from before test after told n [] = before
each_told_from before test after told n (x ∷ xs) = each_told_from (option_or before (test told n x)) test after (after told x) (n + 1) xs

abbrev pub each_told : {A S R : Type 0} → (S → ℕ → A → Option R) → (S → A → S) → S → ℕ → List A → Option R
each_told test after told n xs = each_told_from None test after told n xs

-- a refusal of a list of tests is that of one of them, before which all pass
pub record IsFirst {R : Type 0} (tests : List (Option R)) (refusal : R) : Type 0 where
  pub front : List (Option R)
  pub back : List (Option R)
  pub stands : tests ≡ front ++ Some refusal ∷ back
  pub passed : All (λ test. IsNone test) front

-- the first failing test, in plain words
abbrev pub FirstDecides : Type 0 → Type 0
FirstDecides R = (tests : List (Option R)) → MatchOption (first tests) (All (λ test. IsNone test) tests) (IsFirst tests)
