-- Blocks of consecutive numbers, as a thread draws tickets.
use Rattle.std.specs.Prelude.{◌≡◌, ℕ, ◌+◌, ◌-◌, ◌≤◌, List, [], ◌∷◌, nat_lt, if◌then◌else◌}
use Rattle.std.specs.List.{sum_by, All}
use Rattle.clk_base.specs.declared.block.Block.{Block}

-- the number after the last of a block
abbrev pub end_of : Block → ℕ
end_of b = b.first + b.count

-- 1 where x is below n, else 0
abbrev pub once_below : ℕ → ℕ → ℕ
once_below x n = if nat_lt x n then 1 else 0

-- how often x stands in a block, and in some blocks
abbrev pub in_block : ℕ → Block → ℕ
in_block x b = once_below x (end_of b) - once_below x b.first

abbrev pub times_in : ℕ → List Block → ℕ
times_in x bs = sum_by (in_block x) bs

-- the blocks are disjoint, and cover exactly the numbers below n
abbrev pub Covers : List Block → ℕ → Type 0
Covers bs n = (x : ℕ) → times_in x bs ≡ once_below x n

-- each block ends by n
abbrev pub AllEndBy : ℕ → List Block → Type 0
AllEndBy n bs = All (λ b. end_of b ≤ n) bs

-- each block lies above those before it
abbrev pub Rises : List Block → Type 0
Rises [] = Unit {0}
Rises (b ∷ bs) = All (λ c. end_of b ≤ c.first) bs × Rises bs

-- the first block begins at n or above, and each other one where the one before it ended or above
abbrev pub RisesFrom : ℕ → List Block → Type 0
RisesFrom n [] = Unit {0}
RisesFrom n (b ∷ bs) = (n ≤ b.first) × RisesFrom (end_of b) bs

-- where such blocks end
abbrev pub top_of : ℕ → List Block → ℕ
top_of n [] = n
top_of n (b ∷ bs) = top_of (end_of b) bs

-- the first block begins at n, each other one where the one before it ended, and the last one ends at m
abbrev pub Follows : ℕ → List Block → ℕ → Type 0
Follows n [] m = n ≡ m
Follows n (b ∷ bs) m = (b.first ≡ n) × Follows (end_of b) bs m
