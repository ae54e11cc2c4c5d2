-- A chain of steps that go up, in the order of a history, is the same chain: it is already in the order of its ranks,
-- and steps of one rank show the same.
use Rattle.std.proofs.Common.{◌≡◌, ℕ, suc, ◌+◌, ◌⊎◌, inl, inr, ℤ, pos, ◌+ℤ◌, ◌≤ℤ◌, ◌<ℤ◌, int_le, Bool, true, false, cond, List, [], ◌∷◌, map, get_or, refl, sym, ◌∙◌, ap, subst, arith}
use Rattle.std.proofs.lemmas.Int.{ints}
use Rattle.std.proofs.lemmas.Bool.Decides.{nat_tests}
use Rattle.std.specs.List.{All, sum_by}
use Rattle.std.specs.List.Sorted.{IsPermutation, IsSorted}
use Rattle.std.specs.declared.cmp.Ordering.{Ordering}
use Rattle.std.specs.declared.cmp.Ordering.TheVariants.{Less, Equal, Greater}
use Rattle.std.specs.Ordering.{ordering_then, is_lt, int_cmp, int_eq, bool_cmp, nat_cmp}
use Rattle.std.proofs.lemmas.List.Sums.{sum_by-cons}
use Rattle.std.proofs.lemmas.List.Elements.{All-nil, All-cons, All-head, All-tail}
use Rattle.std.proofs.lemmas.List.Sorted.{sum_by-IsPermutation, All-permutation}
use Rattle.clk_base.specs.Chains.{IsChainBy}
use Rattle.clk_num.specs.Wrapping.{above}
use Rattle.clk_num.proofs.Heights.{same_above}
use Rattle.clk_lawful.specs.WordHistory.{is_flat, history_cmp}
use Rattle.clk_lawful.specs.SortedHistory.{GoesUp, Change, change_of, SortedIsChain}
use Rattle.clk_lawful.specs.declared.trace.HistoryStep.{HistoryStep}

-- ---- numbers in order

-- none of these is below x, and each is below none after it
abbrev AtLeast : ℤ → List ℤ → Type 0
AtLeast x [] = Unit {0}
AtLeast x (y ∷ ys) = (x ≤ℤ y) × AtLeast x ys

abbrev Up : List ℤ → Type 0
Up [] = Unit {0}
Up (x ∷ xs) = AtLeast x xs × Up xs

at_least_lower : (x y : ℤ) (zs : List ℤ) → x ≤ℤ y → AtLeast y zs → AtLeast x zs
at_least_lower x y [] low h = tt
at_least_lower x y (z ∷ zs) low h = (let first = h.0 in omega (arith, ints, low, first), at_least_lower x y zs low h.1)

-- how many are at most n
abbrev one_up_to : ℤ → ℤ → ℕ
one_up_to n x = cond (int_le x n) 1 0

abbrev times : ℤ → List ℤ → ℕ
times n [] = 0
times n (x ∷ xs) = one_up_to n x + times n xs

one_in : (n x : ℤ) → x ≤ℤ n → one_up_to n x ≡ 1
one_in n x low = grind (arith, ints, nat_tests)

one_out : (n x : ℤ) → n <ℤ x → one_up_to n x ≡ 0
one_out n x high = grind (arith, ints, nat_tests)

times_none : (n x : ℤ) (xs : List ℤ) → n <ℤ x → AtLeast x xs → times n xs ≡ 0
times_none n x [] low h = refl
times_none n x (y ∷ ys) low h =
    let above_n : n <ℤ y = let first = h.0 in omega (arith, ints, low, first) in
    let here = one_out n y above_n in
    let rest = times_none n x ys low h.1 in
    omega (arith, here, rest)

compared : (x y : ℤ) → (x <ℤ y) ⊎ (x ≡ y) ⊎ (y <ℤ x)
compared x y = grind (arith, ints)

-- two lists in order with as many up to each number are one
same_up : (xs ys : List ℤ) → Up xs → Up ys → ((n : ℤ) → times n xs ≡ times n ys) → xs ≡ ys
same_up [] [] p q same = refl
same_up [] (y ∷ ys) p q same =
    let e = same y in let here = one_in y y (omega (arith, ints)) in absurd (omega (arith, e, here))
same_up (x ∷ xs) [] p q same =
    let e = same x in let here = one_in x x (omega (arith, ints)) in absurd (omega (arith, e, here))
same_up (x ∷ xs) (y ∷ ys) p q same =
    elim (compared x y) [
      | inl low ↦
          let e = same x in
          let here = one_in x x (omega (arith, ints)) in
          let there = one_out x y low in
          let rest = times_none x y ys low q.0 in
          absurd (omega (arith, e, here, there, rest))
      | inr (inl is) ↦
          let more : (n : ℤ) → times n xs ≡ times n ys =
          λ n. let e = same n in let heads = ap (one_up_to n) is in omega (arith, e, heads) in
          let tails = same_up xs ys p.1 q.1 more in
          ap (λ z. z ∷ xs) is ∙ ap (λ (zs : List ℤ). y ∷ zs) tails
      | inr (inr low) ↦
          let e = same y in
          let here = one_in y y (omega (arith, ints)) in
          let there = one_out y x low in
          let rest = times_none y x xs low p.0 in
          absurd (omega (arith, e, here, there, rest))
    ]

-- ---- ranks of steps

abbrev height : ℤ → ℤ → ℤ
height opening x = above x opening

abbrev flat : HistoryStep → ℤ
flat s = cond (is_flat s) (pos 1) (pos 0)

-- rising steps come before flat ones that left the word alike
abbrev rank : ℤ → HistoryStep → ℤ
rank opening s = (height opening s.new +ℤ height opening s.new) +ℤ flat s

abbrev ranks : ℤ → List HistoryStep → List ℤ
ranks opening ss = map (rank opening) ss

times-sum : (opening n : ℤ) (ss : List HistoryStep) → times n (ranks opening ss) ≡ sum_by (λ s. one_up_to n (rank opening s)) ss
times-sum opening n [] = refl
times-sum opening n (s ∷ ss) =
    let more = sum_by-cons (λ (x : HistoryStep). one_up_to n (rank opening x)) s ss in
    let rest = times-sum opening n ss in
    omega (arith, more, rest)

same_times : (opening : ℤ) (xs ys : List HistoryStep) → IsPermutation xs ys → (n : ℤ) → times n (ranks opening xs) ≡ times n (ranks opening ys)
same_times opening xs ys p n =
    times-sum opening n xs ∙ sym (sum_by-IsPermutation (λ (s : HistoryStep). one_up_to n (rank opening s)) xs ys p) ∙ sym (times-sum opening n ys)

-- ---- a chain is in order

int_eq-refl : (x y : ℤ) → x ≡ y → int_eq x y ≡ true
int_eq-refl x y e = rw e (grind (arith, ints, nat_tests))

is_flat-true : (s : HistoryStep) → s.old ≡ s.new → flat s ≡ pos 1
is_flat-true s e = ap (λ b. cond b (pos 1) (pos 0)) (int_eq-refl s.old s.new e)

flat_bounds : (b : Bool) → (pos 0 ≤ℤ cond b (pos 1) (pos 0)) × (cond b (pos 1) (pos 0) ≤ℤ pos 1)
flat_bounds true = (omega (arith, ints), omega (arith, ints))
flat_bounds false = (omega (arith, ints), omega (arith, ints))

-- the rank of a step that found this, and how high it left the word
first_rank : (opening x : ℤ) (s : HistoryStep) → s.old ≡ x → GoesUp opening s
    → (((height opening x +ℤ height opening x) +ℤ pos 1) ≤ℤ rank opening s) × (height opening x ≤ℤ height opening s.new)
first_rank opening x s from up = by_case up.up
  where
    by_case : (s.old ≡ s.new) ⊎ (above s.old opening <ℤ above s.new opening)
        → (((height opening x +ℤ height opening x) +ℤ pos 1) ≤ℤ rank opening s) × (height opening x ≤ℤ height opening s.new)
    by_case (inl same) =
        let one = is_flat-true s same in
        let high : height opening x ≡ height opening s.new = ap (height opening) (sym from ∙ same) in
        (omega (arith, ints, one, high), omega (arith, ints, high))
    by_case (inr rises) =
        let high : height opening s.old ≡ height opening x = ap (height opening) from in
        let least = (flat_bounds (is_flat s)).0 in
        (omega (arith, ints, rises, high, least), omega (arith, ints, rises, high))

chain_low : (opening x : ℤ) (ss : List HistoryStep) → IsChainBy (λ s. s.old) (λ s. s.new) x ss → All (GoesUp opening) ss
    → AtLeast ((height opening x +ℤ height opening x) +ℤ pos 1) (ranks opening ss)
chain_low opening x [] chain up = tt
chain_low opening x (s ∷ ss) chain up =
    let first = first_rank opening x s chain.0 (All-head (GoesUp opening) s ss up) in
    let rest = chain_low opening s.new ss chain.1 (All-tail (GoesUp opening) s ss up) in
    let high = first.1 in
    (first.0, at_least_lower ((height opening x +ℤ height opening x) +ℤ pos 1) ((height opening s.new +ℤ height opening s.new) +ℤ pos 1) (ranks opening ss) (omega (arith, ints, high)) rest)

chain_up : (opening x : ℤ) (ss : List HistoryStep) → IsChainBy (λ s. s.old) (λ s. s.new) x ss → All (GoesUp opening) ss → Up (ranks opening ss)
chain_up opening x [] chain up = tt
chain_up opening x (s ∷ ss) chain up =
    let rest = All-tail (GoesUp opening) s ss up in
    let most = (flat_bounds (is_flat s)).1 in (
      at_least_lower (rank opening s) ((height opening s.new +ℤ height opening s.new) +ℤ pos 1) (ranks opening ss) (omega (arith, ints, most))
          (chain_low opening s.new ss chain.1 rest),
      chain_up opening s.new ss chain.1 rest,
    )

-- ---- a sorted list is in order

then_first : (a b : Ordering) → is_lt (ordering_then a b) ≡ false → is_lt a ≡ false
then_first Less b e = e
then_first Equal b e = refl
then_first Greater b e = e

-- two steps of which the second is not before the first
ranked : (opening : ℤ) (a b : HistoryStep) → is_lt (history_cmp opening b a) ≡ false → rank opening a ≤ℤ rank opening b
ranked opening a b e = by_height (then_first _ (nat_cmp b.thread a.thread) (then_first _ (nat_cmp b.call a.call) (then_first _ (nat_cmp b.part a.part) (then_first _ (int_cmp b.old a.old) e))))
  where
    by_flat : (f g : Bool) (m n : ℤ) → is_lt (ordering_then (int_cmp n m) (bool_cmp g f)) ≡ false
        → ((m +ℤ m) +ℤ cond f (pos 1) (pos 0)) ≤ℤ ((n +ℤ n) +ℤ cond g (pos 1) (pos 0))
    by_flat f g m n h = grind (arith, ints, nat_tests)

    by_height : is_lt (ordering_then (int_cmp (above b.new opening) (above a.new opening)) (bool_cmp (is_flat b) (is_flat a))) ≡ false → rank opening a ≤ℤ rank opening b
    by_height h = by_flat (is_flat a) (is_flat b) (above a.new opening) (above b.new opening) h

sorted_tail : (opening : ℤ) (s : HistoryStep) (ss : List HistoryStep) → IsSorted (history_cmp opening) (s ∷ ss) → IsSorted (history_cmp opening) ss
sorted_tail opening s ss h k d low high = let e : suc k + 1 ≡ suc (k + 1) = omega arith in rw e at (h (suc k) d (omega arith) (omega (arith, high)))

sorted_low : (opening : ℤ) (s : HistoryStep) (ss : List HistoryStep) → IsSorted (history_cmp opening) (s ∷ ss) → AtLeast (rank opening s) (ranks opening ss)
sorted_low opening s [] h = tt
sorted_low opening s (t ∷ ts) h =
    let first : rank opening s ≤ℤ rank opening t = ranked opening s t (h 0 s (omega arith) (omega arith)) in
    (first, at_least_lower (rank opening s) (rank opening t) (ranks opening ts) first (sorted_low opening t ts (sorted_tail opening s (t ∷ ts) h)))

sorted_up : (opening : ℤ) (ss : List HistoryStep) → IsSorted (history_cmp opening) ss → Up (ranks opening ss)
sorted_up opening [] h = tt
sorted_up opening (s ∷ ss) h = (sorted_low opening s ss h, sorted_up opening ss (sorted_tail opening s ss h))

-- ---- steps of one rank show the same

abbrev Alike : ℤ → HistoryStep → HistoryStep → Type 0
Alike opening s t = rank opening s ≡ rank opening t → change_of s ≡ change_of t

same_change : (s t : HistoryStep) → s.old ≡ t.old → s.new ≡ t.new → change_of s ≡ change_of t
same_change s t e f = ap (λ x. record { old = x; new = s.new }) e ∙ ap (λ x. record { old = t.old; new = x }) f

-- a step and one that came after it
alike_later : (opening : ℤ) (s t : HistoryStep) → GoesUp opening s → GoesUp opening t → ((height opening s.new +ℤ height opening s.new) +ℤ pos 1) ≤ℤ rank opening t
    → Alike opening s t
alike_later opening s t up later low same =
    let odd = is_flat_odd (is_flat s) (is_flat t) (height opening s.new) (height opening t.new) same low in
    let s_flat : s.old ≡ s.new = flat_is s odd.0 in
    let t_flat : t.old ≡ t.new = flat_is t odd.1 in
    let new : s.new ≡ t.new = same_above opening s.new t.new up.new_fits later.new_fits odd.2 in
    same_change s t (s_flat ∙ new ∙ sym t_flat) new
  where
    is_flat_odd : (f g : Bool) (m n : ℤ) → (m +ℤ m) +ℤ cond f (pos 1) (pos 0) ≡ (n +ℤ n) +ℤ cond g (pos 1) (pos 0)
        → ((m +ℤ m) +ℤ pos 1) ≤ℤ ((n +ℤ n) +ℤ cond g (pos 1) (pos 0)) → (f ≡ true) × (g ≡ true) × (m ≡ n)
    is_flat_odd true true m n e h = (refl, refl, omega (arith, ints, e))
    is_flat_odd true false m n e h = absurd (omega (arith, ints, e))
    is_flat_odd false g m n e h = absurd (omega (arith, ints, e, h))

    flat_is : (s : HistoryStep) → is_flat s ≡ true → s.old ≡ s.new
    flat_is s e = grind (arith, ints, nat_tests)

alike_sym : (opening : ℤ) (s t : HistoryStep) → Alike opening s t → Alike opening t s
alike_sym opening s t h e = sym (h (sym e))

-- each step is alike with all of them
alike_head : (opening : ℤ) (s : HistoryStep) (ss : List HistoryStep) → GoesUp opening s → All (GoesUp opening) ss
    → AtLeast ((height opening s.new +ℤ height opening s.new) +ℤ pos 1) (ranks opening ss) → All (Alike opening s) ss
alike_head opening s [] up ups low = All-nil (Alike opening s)
alike_head opening s (t ∷ ts) up ups low =
    All-cons (Alike opening s) t ts (alike_later opening s t up (All-head (GoesUp opening) t ts ups) low.0)
    (alike_head opening s ts up (All-tail (GoesUp opening) t ts ups) low.1)

abbrev AlikeAll : ℤ → List HistoryStep → HistoryStep → Type 0
AlikeAll opening ss t = All (λ s. Alike opening s t) ss

alike_more : (opening : ℤ) (s : HistoryStep) (ss ts : List HistoryStep) → All (Alike opening s) ts → All (AlikeAll opening ss) ts → All (AlikeAll opening (s ∷ ss)) ts
alike_more opening s ss [] first rest = All-nil (AlikeAll opening (s ∷ ss))
alike_more opening s ss (t ∷ ts) first rest =
    All-cons (AlikeAll opening (s ∷ ss)) t ts
    (All-cons (λ (x : HistoryStep). Alike opening x t) s ss (All-head (Alike opening s) t ts first) (All-head (AlikeAll opening ss) t ts rest))
    (alike_more opening s ss ts (All-tail (Alike opening s) t ts first) (All-tail (AlikeAll opening ss) t ts rest))

alike_back : (opening : ℤ) (s : HistoryStep) (ss : List HistoryStep) → All (Alike opening s) ss → All (λ x. Alike opening x s) ss
alike_back opening s [] h = All-nil (λ (x : HistoryStep). Alike opening x s)
alike_back opening s (t ∷ ts) h =
    All-cons (λ (x : HistoryStep). Alike opening x s) t ts (alike_sym opening s t (All-head (Alike opening s) t ts h))
    (alike_back opening s ts (All-tail (Alike opening s) t ts h))

chain_alike : (opening x : ℤ) (ss : List HistoryStep) → IsChainBy (λ s. s.old) (λ s. s.new) x ss → All (GoesUp opening) ss → All (AlikeAll opening ss) ss
chain_alike opening x [] chain up = All-nil (AlikeAll opening [])
chain_alike opening x (s ∷ ss) chain up =
    let rest = All-tail (GoesUp opening) s ss up in
    let first = alike_head opening s ss (All-head (GoesUp opening) s ss up) rest (chain_low opening s.new ss chain.1 rest) in
    let itself : Alike opening s s = λ e. refl in
    All-cons (AlikeAll opening (s ∷ ss)) s ss (All-cons (λ (x : HistoryStep). Alike opening x s) s ss itself (alike_back opening s ss first))
    (alike_more opening s ss ss first (chain_alike opening s.new ss chain.1 rest))

-- ---- both together

head_of : (x y : ℤ) (xs ys : List ℤ) → x ∷ xs ≡ y ∷ ys → x ≡ y
head_of x y xs ys e = ap (λ (zs : List ℤ). get_or zs 0 x) e

tail_of : (x y : ℤ) (xs ys : List ℤ) → x ∷ xs ≡ y ∷ ys → xs ≡ ys
tail_of x y xs ys e = ap rest_of e
  where
    rest_of : List ℤ → List ℤ
    rest_of [] = []
    rest_of (z ∷ zs) = zs

alike_tail : (opening : ℤ) (s : HistoryStep) (ss ts : List HistoryStep) → All (AlikeAll opening (s ∷ ss)) ts → All (AlikeAll opening ss) ts
alike_tail opening s ss [] h = All-nil (AlikeAll opening ss)
alike_tail opening s ss (t ∷ ts) h =
    All-cons (AlikeAll opening ss) t ts (All-tail (λ (x : HistoryStep). Alike opening x t) s ss (All-head (AlikeAll opening (s ∷ ss)) t ts h))
    (alike_tail opening s ss ts (All-tail (AlikeAll opening (s ∷ ss)) t ts h))

same_changes : (opening : ℤ) (ss ts : List HistoryStep) → ranks opening ss ≡ ranks opening ts → All (AlikeAll opening ss) ts → map change_of ss ≡ map change_of ts
same_changes opening [] [] e h = refl
same_changes opening [] (t ∷ ts) e h = absurd (cc)
same_changes opening (s ∷ ss) [] e h = absurd (cc)
same_changes opening (s ∷ ss) (t ∷ ts) e h =
    let here = All-head (λ (x : HistoryStep). Alike opening x t) s ss (All-head (AlikeAll opening (s ∷ ss)) t ts h) (head_of _ _ _ _ e) in
    let rest = same_changes opening ss ts (tail_of _ _ _ _ e) (alike_tail opening s ss ts (All-tail (AlikeAll opening (s ∷ ss)) t ts h)) in
    ap (λ c. c ∷ map change_of ss) here ∙ ap (λ (cs : List Change). change_of t ∷ cs) rest

-- a chain by what its lines show
chain_of_changes : (x : ℤ) (ss : List HistoryStep) → IsChainBy (λ s. s.old) (λ s. s.new) x ss → IsChainBy (λ (c : Change). c.old) (λ c. c.new) x (map change_of ss)
chain_of_changes x [] h = tt
chain_of_changes x (s ∷ ss) h = (h.0, chain_of_changes s.new ss h.1)

changes_of_chain : (x : ℤ) (ss : List HistoryStep) → IsChainBy (λ (c : Change). c.old) (λ c. c.new) x (map change_of ss) → IsChainBy (λ s. s.old) (λ s. s.new) x ss
changes_of_chain x [] h = tt
changes_of_chain x (s ∷ ss) h = (h.0, changes_of_chain s.new ss h.1)

pub sorted_chain : SortedIsChain
sorted_chain opening steps lines chain up all sorted =
    let same = same_up (ranks opening steps) (ranks opening lines) (chain_up opening opening steps chain up) (sorted_up opening lines sorted) (same_times opening steps lines all) in
    let alike = All-permutation (AlikeAll opening steps) steps lines all (chain_alike opening opening steps chain up) in
    let changes = same_changes opening steps lines same alike in (
      sym changes,
      changes_of_chain opening lines (subst (λ (cs : List Change). IsChainBy (λ (c : Change). c.old) (λ c. c.new) opening cs) changes (chain_of_changes opening steps chain)),
    )
