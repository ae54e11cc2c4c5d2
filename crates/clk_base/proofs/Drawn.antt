-- Blocks of which each begins where the one before it ended.
use Rattle.std.proofs.Common.{◌≡◌, ℕ, ◌+◌, ◌-◌, ◌≤◌, List, [], ◌∷◌, ◌++◌, arith}
use Rattle.std.specs.List.{All}
use Rattle.std.proofs.lemmas.List.Sums.{sum_by-cons}
use Rattle.std.proofs.lemmas.List.Elements.{All-nil, All-cons}
use Rattle.std.proofs.lemmas.Bool.Decides.{nat_tests}
use Rattle.clk_base.specs.declared.block.Block.{Block}
use Rattle.clk_base.specs.Blocks.{end_of, once_below, in_block, times_in, Covers, Rises, Follows}

pub follows_up : (n : ℕ) (bs : List Block) (m : ℕ) → Follows n bs m → n ≤ m
follows_up n [] m h = omega arith
follows_up n (b ∷ bs) m h = let later = follows_up (end_of b) bs m h.1 in omega arith

-- what lies from a to b, and what lies from b to c
once_between : (x a b c : ℕ) → a ≤ b → b ≤ c → (once_below x b - once_below x a) + (once_below x c - once_below x b) ≡ once_below x c - once_below x a
once_between x a b c low high = grind (arith, nat_tests)

pub times_in-follows : (x n : ℕ) (bs : List Block) (m : ℕ) → Follows n bs m → times_in x bs ≡ once_below x m - once_below x n
times_in-follows x n [] m h = grind (arith, nat_tests)
times_in-follows x n (b ∷ bs) m h =
    let later = follows_up (end_of b) bs m h.1 in
    let up : b.first ≤ end_of b = omega arith in
    rw (sum_by-cons (in_block x) b bs, times_in-follows x (end_of b) bs m h.1, ← h.0) (once_between x b.first (end_of b) m up later)

pub follows_above : (n k : ℕ) (bs : List Block) (m : ℕ) → Follows n bs m → k ≤ n → All (λ c. k ≤ c.first) bs
follows_above n k [] m h low = All-nil (λ c. k ≤ c.first)
follows_above n k (b ∷ bs) m h low = All-cons (λ c. k ≤ c.first) b bs (omega arith) (follows_above (end_of b) k bs m h.1 (omega arith))

pub follows_rises : (n : ℕ) (bs : List Block) (m : ℕ) → Follows n bs m → Rises bs
follows_rises n [] m h = tt
follows_rises n (b ∷ bs) m h = (follows_above (end_of b) (end_of b) bs m h.1 (omega arith), follows_rises (end_of b) bs m h.1)

pub follows_cover : (bs : List Block) (n : ℕ) → Follows 0 bs n → Covers bs n
follows_cover bs n h x = let all = times_in-follows x 0 bs n h in grind (arith, nat_tests)

pub follows-append : (n m k : ℕ) (bs cs : List Block) → Follows n bs m → Follows m cs k → Follows n (bs ++ cs) k
follows-append n m k [] cs h g = rw h g
follows-append n m k (b ∷ bs) cs h g = (h.0, follows-append (end_of b) m k bs cs h.1 g)
