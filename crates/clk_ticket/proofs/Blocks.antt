-- One more block, and blocks of no numbers.
use Rattle.std.proofs.Common.{◌≡◌, ℕ, ◌+◌, ◌-◌, ◌≤◌, List, [], ◌∷◌, ◌++◌, refl, arith}
use Rattle.std.specs.Prelude.{max}
use Rattle.std.proofs.lemmas.List.Sums.{sum_by-cons, sum_by_push}
use Rattle.std.proofs.lemmas.List.Elements.{All-nil, All-head, All-tail, All-push, All-append, All-weaker}
use Rattle.std.proofs.lemmas.Bool.Decides.{nat_tests}
use Rattle.clk_base.specs.declared.block.Block.{Block}
use Rattle.clk_base.specs.Blocks.{end_of, once_below, in_block, times_in, Rises}
use Rattle.clk_base.specs.Blocks.{AllEndBy}
use Rattle.clk_ticket.specs.Sizes.{size_of}
use Rattle.clk_ticket.specs.Time.{Time, after_draw, share_of}

-- a block from m to n, and the numbers below m
in_next : (x m n : ℕ) → m ≤ n → (once_below x n - once_below x m) + once_below x m ≡ once_below x n
in_next x m n up = grind (arith, nat_tests)

-- the block that goes on where the numbers below `first` end
pub block_more : (x first n : ℕ) (bs : List Block)
    → times_in x (bs ++ (record { first = first; count = n }) ∷ []) + once_below x first ≡ times_in x bs + once_below x (first + n)
block_more x first n bs =
    omega (arith, sum_by_push (in_block x) bs (record { first = first; count = n }), in_next x first (first + n) (omega arith))

-- a block of no numbers has none
in_none : (x m n : ℕ) → n ≡ 0 → once_below x (m + n) - once_below x m ≡ 0
in_none x m n e = grind (arith, nat_tests)

-- nor have blocks of no size
pub no_size : (x : ℕ) (bs : List Block) → size_of bs ≡ 0 → times_in x bs ≡ 0
no_size x [] e = refl
no_size x (b ∷ bs) e =
    let here : b.count ≡ 0 = omega (arith, sum_by-cons (λ (c : Block). c.count) b bs) in
    let rest : size_of bs ≡ 0 = omega (arith, sum_by-cons (λ (c : Block). c.count) b bs) in
    omega (arith, sum_by-cons (in_block x) b bs, in_none x b.first b.count here, no_size x bs rest)

-- blocks below m lie below a greater n
pub ends_later : (m n : ℕ) (bs : List Block) → m ≤ n → AllEndBy m bs → AllEndBy n bs
ends_later m n bs up h = All-weaker (λ b. end_of b ≤ m) (λ b. end_of b ≤ n) (λ b low. omega arith) bs h

-- after a draw from a word that the seat is not above
pub ends_more : (m first n : ℕ) (bs : List Block) → m ≤ first → AllEndBy m bs → AllEndBy (first + n) (bs ++ (record { first = first; count = n }) ∷ [])
ends_more m first n bs up h =
    All-push (λ b. end_of b ≤ first + n) bs (record { first = first; count = n }) (ends_later m (first + n) bs (omega arith) h) (omega arith)

-- the blocks of two seats lie below the greater of what both had seen
pub ends_both : (m n : ℕ) (bs cs : List Block) → AllEndBy m bs → AllEndBy n cs → AllEndBy (max m n) (bs ++ cs)
ends_both m n bs cs h g =
    All-append (λ b. end_of b ≤ max m n) bs cs (ends_later m (max m n) bs (omega arith) h) (ends_later n (max m n) cs (omega arith) g)

-- blocks still rise with one more above them
pub rises_more : (m first n : ℕ) (bs : List Block) → m ≤ first → AllEndBy m bs → Rises bs → Rises (bs ++ (record { first = first; count = n }) ∷ [])
rises_more m first n [] up h r = (All-nil (λ c. first + n ≤ c.first), tt)
rises_more m first n (b ∷ bs) up h r =
    let head : end_of b ≤ m = All-head (λ c. end_of c ≤ m) b bs h in (
      All-push (λ c. end_of b ≤ c.first) bs (record { first = first; count = n }) r.0 (omega arith),
      rises_more m first n bs up (All-tail (λ c. end_of c ≤ m) b bs h) r.1,
    )

-- a draw takes from the budget what it adds to the blocks
pub share_drawn : (t : Time) (first n : ℕ) → n ≤ t.left → share_of (after_draw t first n) ≡ share_of t
share_drawn t first n within = omega (arith, within, sum_by_push (λ (b : Block). b.count) t.blocks (record { first = first; count = n }))
