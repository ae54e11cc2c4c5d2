-- Texts by their lines, as loops write them.
use Rattle.std.proofs.Common.{◌≡◌, ℕ, ◌+◌, ◌<◌, List, [], ◌∷◌, ◌++◌, length, take, get_or, add-one, length-take, take_all, ◌≤◌, arith, append_assoc, append-nil}
use Rattle.std.proofs.Math.Seq.{take-suc}
use Rattle.clk_base.specs.Text.{lines_from}
use Rattle.clk_base.proofs.Lines.{lines_from-append}
use Rattle.clk_trace.specs.Taking.{Progress, Takes}
use Rattle.clk_trace.proofs.Taking.{takes_more}

-- the lines of one item more
pub lines_from-next : {A : Type 0} (f : ℕ → A → List ℕ) (xs : List A) (i : ℕ) (x d : A) → x ≡ get_or xs i d → i < length xs → lines_from f 0 (take (i + 1) xs) ≡ lines_from f 0 (take i xs) ++ f i x
lines_from-next f xs i x d e h =
    let taken : take (i + 1) xs ≡ take i xs ++ (x ∷ []) = rw (add-one, take-suc xs i d h, ← e) in
    let n : 0 + length (take i xs) ≡ i = omega (arith, length-take i xs) in
    rw (taken, lines_from-append f 0 (take i xs) (x ∷ []), n, append-nil)

-- what is written of a list grows by the lines of its next item
pub takes_item : {A : Type 0} (a b c : Progress) (front : List ℕ) (f : ℕ → A → List ℕ) (xs : List A) (i : ℕ) (x d : A)
    → Takes a b (front ++ lines_from f 0 (take i xs)) → Takes b c (f i x) → i < length xs → x ≡ get_or xs i d → Takes a c (front ++ lines_from f 0 (take (i + 1) xs))
takes_item a b c front f xs i x d p q h e =
    rw (lines_from-next f xs i x d e h, ← append_assoc) (takes_more a b c (front ++ lines_from f 0 (take i xs)) (f i x) p q)

-- after its last item the whole list is written
pub takes_whole : {A : Type 0} (a b : Progress) (front : List ℕ) (f : ℕ → A → List ℕ) (xs : List A) (i : ℕ)
    → length xs ≤ i → Takes a b (front ++ lines_from f 0 (take i xs)) → Takes a b (front ++ lines_from f 0 xs)
takes_whole a b front f xs i h p = rw take_all at p
