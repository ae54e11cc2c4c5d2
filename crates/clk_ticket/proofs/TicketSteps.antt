-- Each step keeps the rule.
use Rattle.std.proofs.Common.{◌≡◌, ◌≢◌, ℕ, ◌+◌, ◌%◌, ◌^◌, ◌<◌, ◌≤◌, List, [], ◌∷◌, length, get_or, set, refl, sym, ap, ◌∙◌, subst, ⊎_elim, arith, get_or-set_same, length-set}
use Rattle.std.specs.List.{sum_by}
use Rattle.std.proofs.lemmas.List.Sums.{sum_by_push, sum_by-append}
use mathlib.Core.Option.{some, none, some-injective, some-ne-none}
use lib.ListN.{get_elem?}
use Rattle.atomic_table.specs.Table.{State, Me, keeps, step, Allows, Splits, Joins, Final, Seen}
use Rattle.atomic_table.proofs.Lists.{at_set, at_snoc}
use Rattle.clk_base.specs.declared.block.Block.{Block}
use Rattle.clk_base.specs.Blocks.{once_below, in_block, times_in, Covers}
use Rattle.clk_base.specs.Blocks.{AllEndBy}
use Rattle.clk_ticket.specs.Sizes.{size_of}
use Rattle.clk_ticket.specs.declared.rule.Knows.{Knows}
use Rattle.clk_ticket.specs.TicketRule.{word_of, Kept, knows_budget, knows_more, knows_less, knows_both, Drew, Looked}
use Rattle.clk_ticket.proofs.Totals.{total_set, total_has, has_all}
use Rattle.clk_ticket.proofs.Blocks.{block_more, no_size, ends_more, ends_both}

-- what the rule says of one view
abbrev Behind : ℕ → Knows → Type 0
Behind n v = (v.seen ≤ n) × AllEndBy v.seen v.blocks

-- it holds of all views after one has changed
behind_set : (n id : ℕ) (w : Knows) (views : List Knows) → ((j : ℕ) (u : Knows) → get_elem? views j ≡ some u → Behind n u) → Behind n w
    → (j : ℕ) (u : Knows) → get_elem? (set views id w) j ≡ some u → Behind n u
behind_set n id w views others mine j u e =
    ⊎_elim
    (λ (x : (j ≡ id) × (w ≡ u)). subst (Behind n) x.1 mine)
    (λ (x : (j ≢ id) × (get_elem? views j ≡ some u)). others j u x.1)
    (at_set views id j w u e)

-- how the word and one view may change together
record Moves (m n : ℕ) (v w : Knows) : Type 0 where
  later : m ≤ n
  budget : n + w.left ≡ m + v.left
  size : size_of w.blocks + m ≡ size_of v.blocks + n
  cover : (x : ℕ) → times_in x w.blocks + once_below x m ≡ times_in x v.blocks + once_below x n
  behind : (w.seen ≤ n) × AllEndBy w.seen w.blocks

-- any such change keeps the rule
placed : (total id n : ℕ) (s : State (Unit {0}) Knows) (v w : Knows) → Kept total s → get_elem? s.views id ≡ some v → Moves (word_of s) n v w
    → Kept total (record { words = set s.words 0 n; homes = s.homes; views = set s.views id w })
placed total id n s v w kept at moves =
    let room : 0 < length s.words = omega (arith, kept.wide) in
    let now : get_or (set s.words 0 n) 0 0 ≡ n = get_or-set_same s.words 0 n 0 room in
    record {
      wide = length-set s.words 0 n ∙ kept.wide;
      bound = kept.bound;
      budget = omega (arith, now, kept.budget, moves.budget, total_set (λ (u : Knows). u.left) s.views id v w at);
      size = omega (arith, now, kept.size, moves.size, total_set (λ (u : Knows). size_of u.blocks) s.views id v w at);
      cover = λ x. rw now (omega (arith, kept.cover x, moves.cover x, total_set (λ (u : Knows). times_in x u.blocks) s.views id v w at));
      behind = rw now (behind_set n id w s.views (λ j u e. (omega (arith, (kept.behind j u e).0, moves.later), (kept.behind j u e).1)) moves.behind);
    }

-- a draw of no more than the seat has left
pub draws : (total slots id k : ℕ) (me : Me (Unit {0}) Knows) → k ≤ me.0.left
    → Allows (Kept total) slots id me 0 (λ n. (n + k) % 2 ^ 64) (Drew (step slots 0 k 0 none) me)
draws total slots id k me within s kept homes at small =
    let m = word_of s in
    let behind = kept.behind id me.0 at in
    let fits : m + me.0.left ≤ total = omega (arith, kept.budget, total_has (λ (u : Knows). u.left) s.views id me.0 at) in
    let next : (m + k) % 2 ^ 64 ≡ m + k = omega (arith, kept.bound) in
    let w = knows_more m k me.0 in (
      w,
      keeps,
      tt,
      rw next (placed total id (m + k) s me.0 w kept at (record {
        later = omega arith;
        budget = omega arith;
        size = omega (arith, sum_by_push (λ (b : Block). b.count) me.0.blocks (record { first = m; count = k }));
        cover = λ x. block_more x m k me.0.blocks;
        behind = (omega arith, ends_more me.0.seen m k me.0.blocks behind.0 behind.1);
      })),
      record { is = refl; later = behind.0; budget = omega (arith, kept.bound); bound = omega (arith, kept.bound) },
    )

-- a load
pub looks : (total slots id : ℕ) (me : Me (Unit {0}) Knows) → Allows (Kept total) slots id me 0 (λ n. n) (Looked (step slots 0 0 0 none) me)
looks total slots id me s kept homes at small =
    let m = word_of s in
    let behind = kept.behind id me.0 at in (
      me.0,
      keeps,
      tt,
      placed total id m s me.0 me.0 kept at (record { later = omega arith; budget = refl; size = refl; cover = λ x. refl; behind = behind }),
      record {
        is = refl;
        fits = omega (arith, kept.bound, kept.budget, total_has (λ (u : Knows). u.left) s.views id me.0 at);
        behind = behind.1;
      },
    )

-- a split of no more than the seat has left
pub splits : (total id n : ℕ) (v : Knows) → n ≤ v.left → Splits (Kept total) id v (knows_less n v) (knows_budget n v.seen)
splits total id n v within s kept at =
    let m = word_of s in
    let behind = kept.behind id v at in
    let left = knows_less n v in
    let right = knows_budget n v.seen in
    let views = set s.views id left in
    record {
      wide = kept.wide;
      bound = kept.bound;
      budget = omega (arith, kept.budget, total_set (λ (u : Knows). u.left) s.views id v left at, sum_by_push (λ (u : Knows). u.left) views right);
      size = omega (arith, kept.size, total_set (λ (u : Knows). size_of u.blocks) s.views id v left at, sum_by_push (λ (u : Knows). size_of u.blocks) views right);
      cover = λ x. omega (arith, kept.cover x, total_set (λ (u : Knows). times_in x u.blocks) s.views id v left at, sum_by_push (λ (u : Knows). times_in x u.blocks) views right);
      behind = λ j u e. ⊎_elim
          (λ old. behind_set m id left s.views kept.behind behind j u old)
          (λ (new : right ≡ u). subst (Behind m) new (behind.0, λ i d low. absurd (omega arith)))
          (at_snoc views right u j e);
    }

-- a join of any two
pub joins : (total id other : ℕ) (v w : Knows) → Joins (Kept total) id v other w (knows_both v w) (knows_budget 0 0)
joins total id other v w s kept at apart there =
    let m = word_of s in
    let both = knows_both v w in
    let spent = knows_budget 0 0 in
    let views = set s.views id both in
    let theirs : get_elem? s.views other ≡ some w = ⊎_elim
    (λ (x : (other ≡ id) × (both ≡ w)). absurd (apart x.0))
    (λ (x : (other ≢ id) × (get_elem? s.views other ≡ some w)). x.1)
    (at_set s.views id other both w there) in
    let mine = kept.behind id v at in
    let yours = kept.behind other w theirs in
    record {
      wide = kept.wide;
      bound = kept.bound;
      budget = omega (arith, kept.budget, total_set (λ (u : Knows). u.left) s.views id v both at, total_set (λ (u : Knows). u.left) views other w spent there);
      size = omega (
        arith,
        kept.size,
        total_set (λ (u : Knows). size_of u.blocks) s.views id v both at,
        total_set (λ (u : Knows). size_of u.blocks) views other w spent there,
        sum_by-append (λ (b : Block). b.count) v.blocks w.blocks,
      );
      cover = λ x. omega (
        arith,
        kept.cover x,
        total_set (λ (u : Knows). times_in x u.blocks) s.views id v both at,
        total_set (λ (u : Knows). times_in x u.blocks) views other w spent there,
        sum_by-append (in_block x) v.blocks w.blocks,
      );
      behind = behind_set m other spent views
          (behind_set m id both s.views kept.behind (omega arith, ends_both v.seen w.seen v.blocks w.blocks mine.1 yours.1))
          (omega arith, λ i d low. absurd (omega arith));
    }

-- a word by its place and by its index
word_at : (ws : List ℕ) (n : ℕ) → get_elem? ws 0 ≡ some n → get_or ws 0 0 ≡ n
word_at [] n at = absurd (some-ne-none n (sym at))
word_at (x ∷ xs) n at = some-injective x n at

-- at the end, for a seat that has the whole total
pub finishes : (total id n : ℕ) (v : Knows) (ws : List ℕ) (xs : List (Unit {0})) → Final (Seen (Kept total) id v) ws xs
    → v.left + size_of v.blocks ≡ total → get_elem? ws 0 ≡ some n → Covers v.blocks n × (size_of v.blocks ≡ n)
finishes total id n v ws xs final whole at =
    let s = final.0 in
    let kept = final.1.0 in
    let mine = final.1.1 in
    let word : word_of s ≡ n = ap (λ (us : List ℕ). get_or us 0 0) final.2 ∙ word_at ws n at in
    let left = total_has (λ (u : Knows). u.left) s.views id v mine in
    let drawn = total_has (λ (u : Knows). size_of u.blocks) s.views id v mine in
    let size : sum_by (λ (u : Knows). size_of u.blocks) s.views ≡ size_of v.blocks = omega (arith, kept.budget, kept.size) in (
      λ x. sym (has_all (λ (u : Knows). size_of u.blocks) (λ (u : Knows). times_in x u.blocks) (λ u e. no_size x u.blocks e) s.views id v mine size)
          ∙ kept.cover x ∙ ap (once_below x) word,
      sym size ∙ kept.size ∙ word,
    )
