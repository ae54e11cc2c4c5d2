-- Blocks that cover the numbers below n have n numbers in all.
use Rattle.std.proofs.Common.{◌≡◌, ℕ, zero, suc, ◌+◌, ◌-◌, ◌≤◌, min, List, [], ◌∷◌, refl, subst, add-one, arith}
use Rattle.std.specs.List.{sum_by}
use Rattle.std.proofs.lemmas.List.Sums.{sum_by-cons}
use Rattle.std.proofs.lemmas.Bool.Decides.{nat_tests}
use Rattle.clk_base.specs.declared.block.Block.{Block}
use Rattle.clk_base.specs.Blocks.{end_of, once_below, in_block, times_in, Covers}

-- the lengths of the blocks, added up
abbrev pub size : List Block → ℕ
size bs = sum_by (λ b. b.count) bs

-- how many numbers below m a block has, and some blocks
abbrev part_of : ℕ → Block → ℕ
part_of m b = min m (end_of b) - min m b.first

abbrev parts : ℕ → List Block → ℕ
parts m bs = sum_by (part_of m) bs

-- with one number more
min_next : (x a b : ℕ) → a ≤ b → min (x + 1) b - min (x + 1) a ≡ (min x b - min x a) + (once_below x b - once_below x a)
min_next x a b up = grind (arith, nat_tests)

parts_next : (x : ℕ) (bs : List Block) → parts (x + 1) bs ≡ parts x bs + times_in x bs
parts_next x [] = refl
parts_next x (b ∷ bs) =
    omega (
      arith,
      sum_by-cons (part_of (x + 1)) b bs,
      sum_by-cons (part_of x) b bs,
      sum_by-cons (in_block x) b bs,
      min_next x b.first (end_of b) (omega arith),
      parts_next x bs,
    )

parts_none : (bs : List Block) → parts 0 bs ≡ 0
parts_none [] = refl
parts_none (b ∷ bs) = omega (arith, sum_by-cons (part_of 0) b bs, parts_none bs)

once_more : (x n : ℕ) → min (x + 1) n ≡ min x n + once_below x n
once_more x n = grind (arith, nat_tests)

-- so many of them are below m
parts_below : (m n : ℕ) (bs : List Block) → Covers bs n → parts m bs ≡ min m n
parts_below zero n bs cover = omega (arith, parts_none bs)
parts_below (suc m) n bs cover =
    let step : parts (m + 1) bs ≡ parts m bs + times_in m bs = parts_next m bs in
    subst (λ (k : ℕ). parts k bs ≡ min k n) (add-one m) (omega (arith, step, parts_below m n bs cover, cover m, once_more m n))

-- and far enough up all are
parts_whole : (m : ℕ) (bs : List Block) → sum_by end_of bs ≤ m → parts m bs ≡ size bs
parts_whole m [] high = refl
parts_whole m (b ∷ bs) high =
    let ends = sum_by-cons end_of b bs in
    omega (arith, ends, sum_by-cons (part_of m) b bs, sum_by-cons (λ (c : Block). c.count) b bs, parts_whole m bs (omega (arith, ends)))

pub size_covered : (n : ℕ) (bs : List Block) → Covers bs n → size bs ≡ n
size_covered n bs cover =
    let top : ℕ = n + sum_by end_of bs in
    omega (arith, parts_below top n bs cover, parts_whole top bs (omega arith))
