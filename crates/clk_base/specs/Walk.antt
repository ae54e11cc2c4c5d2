-- One walk over a list: each item is tested with what the items before it have told.
use Rattle.std.specs.Prelude.{ℕ, ◌+◌, List, [], ◌∷◌, ◌++◌}

-- each item passes its test
abbrev pub Along : {A S : Type 0} → (S → A → Type 0) → (S → A → S) → S → List A → Type 0
Along Test after told [] = Unit {0}
Along Test after told (x ∷ xs) = Test told x × Along Test after (after told x) xs

-- what all items have told
abbrev pub told_after : {A S : Type 0} → (S → A → S) → S → List A → S
told_after after told [] = told
told_after after told (x ∷ xs) = told_after after (after told x) xs

-- what holds of each item and its number, counted from n
abbrev pub EachFrom : {A : Type 0} → (ℕ → A → Type 0) → ℕ → List A → Type 0
EachFrom P n [] = Unit {0}
EachFrom P n (x ∷ xs) = P n x × EachFrom P (n + 1) xs

-- what f gives for each item and its number, counted from n
abbrev pub flat_from : {A B : Type 0} → (ℕ → A → List B) → ℕ → List A → List B
flat_from f n [] = []
flat_from f n (x ∷ xs) = f n x ++ flat_from f (n + 1) xs
