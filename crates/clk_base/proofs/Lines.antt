-- Lines of a list, by its parts.
use Rattle.std.proofs.Common.{◌≡◌, ℕ, ◌+◌, List, [], ◌∷◌, ◌++◌, length, arith, append_assoc}
use Rattle.clk_base.specs.Text.{lines_from}

pub lines_from-append : {A : Type 0} (f : ℕ → A → List ℕ) (n : ℕ) (xs ys : List A) → lines_from f n (xs ++ ys) ≡ lines_from f n xs ++ lines_from f (n + length xs) ys
lines_from-append f n [] ys = let e : n + 0 ≡ n = omega arith in rw e
lines_from-append f n (x ∷ xs) ys =
    let e : n + length (x ∷ xs) ≡ n + 1 + length xs = omega arith in
    rw (e, lines_from-append f (n + 1) xs ys, append_assoc)
