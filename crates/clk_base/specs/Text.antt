-- Lines of a text: words that one space parts, ended by one line feed.
use Rattle.std.specs.Prelude.{ℕ, ◌+◌, List, [], ◌∷◌, ◌++◌}

-- the words after the first of a line, and its end
abbrev pub tail_of : List (List ℕ) → List ℕ
tail_of [] = 10 ∷ []
tail_of (word ∷ words) = (32 ∷ word) ++ tail_of words

-- a line of these words
abbrev pub line : List (List ℕ) → List ℕ
line [] = 10 ∷ []
line (word ∷ words) = word ++ tail_of words

-- the lines that f gives for each item and its number, counted from n
abbrev pub lines_from : {A : Type 0} → (ℕ → A → List ℕ) → ℕ → List A → List ℕ
lines_from f n [] = []
lines_from f n (x ∷ xs) = f n x ++ lines_from f (n + 1) xs
