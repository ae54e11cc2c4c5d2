-- Laws that functions of this crate carry.
use Rattle.std.specs.Prelude.{◌≡◌, ℕ, ◌+◌, List, ◌++◌, length}
use Rattle.clk_base.specs.Text.{lines_from}
use Rattle.clk_base.specs.declared.block.Block.{Block}
use Rattle.clk_base.specs.Blocks.{Covers, Rises, Follows}

-- the numbers of the second list's lines go on where those of the first ended
abbrev pub LinesOfJoined : (A : Type 0) → Type 0
LinesOfJoined A =
    (f : ℕ → A → List ℕ) (n : ℕ) (xs ys : List A)
    → lines_from f n (xs ++ ys) ≡ lines_from f n xs ++ lines_from f (n + length xs) ys

abbrev pub ConsecutiveBlocksCover : Type 0
ConsecutiveBlocksCover = (bs : List Block) (n : ℕ) → Follows 0 bs n → Covers bs n × Rises bs
