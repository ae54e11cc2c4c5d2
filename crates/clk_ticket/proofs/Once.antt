-- A number stands in a block at one place, or is counted there once.
use Rattle.std.proofs.Common.{◌≡◌, ℕ, zero, suc, ◌-◌, ◌<◌, ◌≤◌, ◌⊎◌, List, [], ◌∷◌, inl, inr, ⊎_elim, refl, ap, arith, lt_of_not-le}
use Rattle.std.specs.Prelude.{Some}
use Rattle.std.proofs.lemmas.List.Sums.{sum_by-cons}
use Rattle.std.proofs.lemmas.Bool.Decides.{nat_tests}
use native.Mathlib.Decide.{dec_le}
use Rattle.clk_base.specs.declared.block.Block.{Block}
use Rattle.clk_base.specs.Blocks.{end_of, once_below, in_block, times_in, Covers}
use Rattle.clk_ticket.specs.Laws.{StandsAt, EachOnce}

-- how often a number stands in the block from m to n, in each case
is_in : (x m n : ℕ) → m ≤ x → x < n → once_below x n - once_below x m ≡ 1
is_in x m n low high = grind (arith, nat_tests)

is_under : (x m n : ℕ) → x < m → once_below x n - once_below x m ≡ 0
is_under x m n low = grind (arith, nat_tests)

is_past : (x m n : ℕ) → n ≤ x → once_below x n - once_below x m ≡ 0
is_past x m n high = grind (arith, nat_tests)

in_decided : (x m n : ℕ) → Dec (m ≤ x) → Dec (n ≤ x) → (once_below x n - once_below x m ≡ 0) ⊎ ((m ≤ x) × (x < n))
in_decided x m n (no p) q = inl (is_under x m n (lt_of_not-le p))
in_decided x m n (yes p) (yes q) = inl (is_past x m n q)
in_decided x m n (yes p) (no q) = inr (p, lt_of_not-le q)

-- it stands there or is not counted
in_cases : (x : ℕ) (b : Block) → (in_block x b ≡ 0) ⊎ ((b.first ≤ x) × (x < end_of b))
in_cases x b = in_decided x b.first (end_of b) (dec_le b.first x) (dec_le (end_of b) x)

-- one place on, behind one more block, and back
stands_next : (x i : ℕ) (b : Block) (bs : List Block) → StandsAt bs i x → StandsAt (b ∷ bs) (suc i) x
stands_next x i b bs h = record { block = h.block; there = h.there; from = h.from; below = h.below }

stands_back : (x i : ℕ) (b : Block) (bs : List Block) → StandsAt (b ∷ bs) (suc i) x → StandsAt bs i x
stands_back x i b bs h = record { block = h.block; there = h.there; from = h.from; below = h.below }

-- what stands at a place is counted
counted : (x i : ℕ) (bs : List Block) → StandsAt bs i x → 0 < times_in x bs
counted x i [] h = absurd (let e = h.there in cc)
counted x zero (b ∷ bs) h =
    let same : b ≡ h.block = let e = h.there in cc in
    omega (arith, sum_by-cons (in_block x) b bs, is_in x h.block.first (end_of h.block) h.from h.below, ap (in_block x) same)
counted x (suc i) (b ∷ bs) h =
    omega (arith, sum_by-cons (in_block x) b bs, counted x i bs (record { block = h.block; there = h.there; from = h.from; below = h.below }))

-- what is counted stands somewhere
found : (x : ℕ) (bs : List Block) → 0 < times_in x bs → (i : ℕ) × StandsAt bs i x
found x [] h = absurd (omega arith)
found x (b ∷ bs) h = ⊎_elim
    (λ (away : in_block x b ≡ 0). let rest = found x bs (omega (arith, sum_by-cons (in_block x) b bs)) in (suc rest.0, stands_next x rest.0 b bs rest.1))
    (λ (here : (b.first ≤ x) × (x < end_of b)). (0, record { block = b; there = refl; from = here.0; below = here.1 }))
    (in_cases x b)

-- a number that is counted at most once does not stand in the first block and in another
apart : (x i : ℕ) (b c : Block) (bs : List Block) → times_in x (b ∷ bs) ≤ 1 → Some b ≡ Some c → c.first ≤ x → x < end_of c → StandsAt bs i x → ⊥
apart x i b c bs few is from below h =
    let same : b ≡ c = cc in
    omega (arith, sum_by-cons (in_block x) b bs, counted x i bs h, is_in x c.first (end_of c) from below, ap (in_block x) same)

-- so it stands at one place
alone : (x i j : ℕ) (bs : List Block) → times_in x bs ≤ 1 → StandsAt bs i x → StandsAt bs j x → i ≡ j
alone x i j [] few h g = absurd (let e = h.there in cc)
alone x zero zero (b ∷ bs) few h g = refl
alone x zero (suc j) (b ∷ bs) few h g = absurd (apart x j b h.block bs few h.there h.from h.below (stands_back x j b bs g))
alone x (suc i) zero (b ∷ bs) few h g = absurd (apart x i b g.block bs few g.there g.from g.below (stands_back x i b bs h))
alone x (suc i) (suc j) (b ∷ bs) few h g =
    ap suc (alone x i j bs (omega (arith, sum_by-cons (in_block x) b bs)) (stands_back x i b bs h) (stands_back x j b bs g))

-- a number that stands in the first block, and at one place at most, does not stand in the others
none_else : (x : ℕ) (b : Block) (bs : List Block) → ((i j : ℕ) → StandsAt (b ∷ bs) i x → StandsAt (b ∷ bs) j x → i ≡ j)
    → StandsAt (b ∷ bs) 0 x → 1 ≤ times_in x bs → ⊥
none_else x b bs one here some =
    let other = found x bs some in
    let e = one 0 (suc other.0) here (stands_next x other.0 b bs other.1) in
    omega arith

-- what stands at one place at most is counted at most once
seldom : (x : ℕ) (bs : List Block) → ((i j : ℕ) → StandsAt bs i x → StandsAt bs j x → i ≡ j) → times_in x bs ≤ 1
seldom x [] one = omega arith
seldom x (b ∷ bs) one = ⊎_elim
    (λ (away : in_block x b ≡ 0).
    let rest = seldom x bs (λ i j h g. let e = one (suc i) (suc j) (stands_next x i b bs h) (stands_next x j b bs g) in omega arith) in
    omega (arith, sum_by-cons (in_block x) b bs))
    (λ (has : (b.first ≤ x) × (x < end_of b)).
    let first = is_in x b.first (end_of b) has.0 has.1 in
    let rest : times_in x bs < 1 = lt_of_not-le (none_else x b bs one (record { block = b; there = refl; from = has.0; below = has.1 })) in
    omega (arith, sum_by-cons (in_block x) b bs))
    (in_cases x b)

-- how often a number stands below n, in each case
below_once : (x n : ℕ) → x < n → once_below x n ≡ 1
below_once x n low = grind (arith, nat_tests)

not_below : (x n : ℕ) → n ≤ x → once_below x n ≡ 0
not_below x n high = grind (arith, nat_tests)

at_most_once : (x n : ℕ) → once_below x n ≤ 1
at_most_once x n = grind (arith, nat_tests)

-- from the count to the places, and back
pub covers_each : (bs : List Block) (n : ℕ) → Covers bs n → EachOnce bs n
covers_each bs n cover = record {
  once = λ x i j h g. alone x i j bs (omega (arith, cover x, at_most_once x n)) h g;
  each = λ x low. found x bs (omega (arith, cover x, below_once x n low));
  none = λ x i h. lt_of_not-le (λ (high : n ≤ x). omega (arith, cover x, not_below x n high, counted x i bs h));
}

-- what stands nowhere is not counted
nowhere : (x n : ℕ) (bs : List Block) → EachOnce bs n → n ≤ x → 1 ≤ times_in x bs → ⊥
nowhere x n bs each high some =
    let at = found x bs some in
    let low = each.none x at.0 at.1 in
    omega arith

covers_decided : (bs : List Block) (n : ℕ) → EachOnce bs n → (x : ℕ) → Dec (n ≤ x) → times_in x bs ≡ once_below x n
covers_decided bs n each x (no low) =
    let at = each.each x (lt_of_not-le low) in
    omega (arith, seldom x bs (each.once x), counted x at.0 bs at.1, below_once x n (lt_of_not-le low))
covers_decided bs n each x (yes high) =
    let never : times_in x bs < 1 = lt_of_not-le (nowhere x n bs each high) in
    omega (arith, not_below x n high)

pub each_covers : (bs : List Block) (n : ℕ) → EachOnce bs n → Covers bs n
each_covers bs n each x = covers_decided bs n each x (dec_le n x)
