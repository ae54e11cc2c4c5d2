-- Parts of blocks that rise.
use Rattle.std.proofs.Common.{ℕ, ◌≤◌, List, [], ◌∷◌, ◌++◌}
use Rattle.std.specs.List.{All}
use Rattle.std.proofs.lemmas.List.Elements.{All-nil, All-cons, All-head, All-tail}
use Rattle.clk_base.specs.declared.block.Block.{Block}
use Rattle.clk_base.specs.Blocks.{end_of, AllEndBy, Rises, RisesFrom, top_of}
use Rattle.clk_base.proofs.Walks.{all_both}

pub rises_front : (bs cs : List Block) → Rises (bs ++ cs) → Rises bs
rises_front [] cs h = tt
rises_front (b ∷ bs) cs h = ((all_both (λ (c : Block). end_of b ≤ c.first) bs cs h.0).0, rises_front bs cs h.1)

pub rises_back : (bs cs : List Block) → Rises (bs ++ cs) → Rises cs
rises_back [] cs h = h
rises_back (b ∷ bs) cs h = rises_back bs cs h.1

-- one block more that ends before each of these begins
ends_more : (b : Block) (bs cs : List Block) → All (λ (c : Block). end_of b ≤ c.first) cs → All (λ (c : Block). AllEndBy c.first bs) cs
    → All (λ (c : Block). AllEndBy c.first (b ∷ bs)) cs
ends_more b bs [] here later = All-nil (λ (c : Block). AllEndBy c.first (b ∷ bs))
ends_more b bs (c ∷ cs) here later =
    All-cons (λ (c : Block). AllEndBy c.first (b ∷ bs)) c cs
    (All-cons (λ (a : Block). end_of a ≤ c.first) b bs (All-head (λ (c : Block). end_of b ≤ c.first) c cs here) (All-head (λ (c : Block). AllEndBy c.first bs) c cs later))
    (ends_more b bs cs (All-tail (λ (c : Block). end_of b ≤ c.first) c cs here) (All-tail (λ (c : Block). AllEndBy c.first bs) c cs later))

ends_none : (cs : List Block) → All (λ (c : Block). AllEndBy c.first []) cs
ends_none [] = All-nil (λ (c : Block). AllEndBy c.first [])
ends_none (c ∷ cs) = All-cons (λ (c : Block). AllEndBy c.first []) c cs (All-nil (λ (a : Block). end_of a ≤ c.first)) (ends_none cs)

-- each block of the second list begins when those of the first have ended
pub rises_apart : (bs cs : List Block) → Rises (bs ++ cs) → All (λ (c : Block). AllEndBy c.first bs) cs
rises_apart [] cs h = ends_none cs
rises_apart (b ∷ bs) cs h = ends_more b bs cs (all_both (λ (c : Block). end_of b ≤ c.first) bs cs h.0).1 (rises_apart bs cs h.1)

-- blocks that rise, the first of them at n or above, each begin where the one before ended or above
pub rises_from : (n : ℕ) (bs : List Block) → All (λ (b : Block). n ≤ b.first) bs → Rises bs → RisesFrom n bs
rises_from n [] low h = tt
rises_from n (b ∷ bs) low h = (All-head (λ (c : Block). n ≤ c.first) b bs low, rises_from (end_of b) bs h.0 h.1)

-- those of two lists in a row, of which the second begins where the first ended or above
pub RisesFrom-append : (n : ℕ) (bs cs : List Block) → RisesFrom n (bs ++ cs) → RisesFrom n bs × RisesFrom (top_of n bs) cs
RisesFrom-append n [] cs h = (tt, h)
RisesFrom-append n (b ∷ bs) cs h = let more = RisesFrom-append (end_of b) bs cs h.1 in ((h.0, more.0), more.1)

-- and the other way round
pub RisesFrom-both : (n : ℕ) (bs cs : List Block) → RisesFrom n bs → RisesFrom (top_of n bs) cs → RisesFrom n (bs ++ cs)
RisesFrom-both n [] cs first second = second
RisesFrom-both n (b ∷ bs) cs first second = (first.0, RisesFrom-both (end_of b) bs cs first.1 second)
