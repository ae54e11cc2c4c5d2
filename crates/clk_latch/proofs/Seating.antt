-- The first seat, splits and joins keep the rule.
use Rattle.std.proofs.Common.{◌≡◌, ◌≢◌, ℕ, zero, suc, ◌+◌, ◌≤◌, Bool, true, false, cond, not, ◌||◌, ◌&&◌, leb, max, List, [], ◌∷◌, length, set, refl, sym, ap, ◌∙◌, subst, ◌⊎◌, ⊎_elim, inl, inr, arith}
use Rattle.std.proofs.lemmas.Bool.{leb-true, cases_Bool, false_from_ne_true}
use Rattle.std.proofs.lemmas.Bool.Decides.{nat_tests}
use mathlib.Core.Option.{some, some-injective, some-ne-none}
use mathlib.Core.List.{IsPrefix}
use lib.ListN.{get_elem?}
use Rattle.atomic_table.specs.Table.{Splits, Joins, opening}
use Rattle.atomic_table.proofs.Lists.{at_set, at_snoc}
use Rattle.clk_num.specs.Wrapping.{IsBitsOf}
use Rattle.clk_machine.specs.declared.reading.Published.{Published}
use Rattle.clk_latch.specs.declared.rule.Knows.{Knows}
use Rattle.clk_latch.specs.LatchRule.{sequence, idle, Holds, IsSmallIn, Known, Latched, knows_first, knows_reader, knows_nothing, first_stays, stays_beside, knows_both}
use Rattle.clk_latch.specs.Calls.{Joins as Merges}
use Rattle.clk_latch.specs.LatchSeats.{epoch_of}
use Rattle.clk_latch.proofs.Prefixes.{prefix_self, prefix_length}
use Rattle.clk_latch.proofs.LatchSteps.{view_set, true_not_false, stands_none}

-- ---- the start

first_known : (r : Published) (updates : ℕ) (ws : List ℕ) → updates ≤ 1024 → Known 0 (r ∷ []) ws (knows_first r updates)
first_known r updates ws few = record {
  begun = omega arith;
  seen = omega arith;
  records = prefix_self (r ∷ []);
  told = (r ∷ [], refl);
  once = refl;
  reader = λ o. absurd (true_not_false o);
  owner = λ _. record { seen = refl; records = refl; left = omega arith; wrote = stands_none ws (idle 0) };
}

pub alone : {A : Type 0} (P : ℕ → A → Type 0) (a : A) → P 0 a → (j : ℕ) (b : A) → get_elem? (a ∷ []) j ≡ some b → P j b
alone P a here zero b e = subst (P 0) (some-injective a b e) here
alone P a here (suc j) b e = absurd (some-ne-none b (sym e))

pub starts : (r : Published) (updates word : ℕ) → updates ≤ 1024 → IsBitsOf r.ns word → IsSmallIn (r ∷ []) r
    → Latched (opening (0 ∷ r.cyc ∷ word ∷ 0 ∷ 0 ∷ []) [] (knows_first r updates))
starts r updates word few ns small =
    let ws : List ℕ = 0 ∷ r.cyc ∷ word ∷ 0 ∷ 0 ∷ [] in
    record {
      all = r ∷ [];
      wide = refl;
      low = omega arith;
      count = refl;
      whole = λ p e. subst (Holds ws 1) (some-injective r p e) (record { cyc = refl; ns = ns });
      small = alone (λ _ p. IsSmallIn (r ∷ []) p) r small;
      known = alone (λ _ v. Known 0 (r ∷ []) ws v) (knows_first r updates) (first_known r updates ws few);
      owner = 0;
      one_owner = alone (λ j v. v.owner ≡ true → j ≡ 0) (knows_first r updates) (λ _. refl);
    }

-- ---- splits

pub reader_known : (n : ℕ) (all : List Published) (ws : List ℕ) (v : Knows) → Known n all ws v → Known n all ws (knows_reader v)
reader_known n all ws v k = record {
  begun = k.begun;
  seen = k.seen;
  records = k.records;
  told = (all, refl);
  once = refl;
  reader = λ _. refl;
  owner = λ o. absurd (true_not_false (sym o));
}

pub splits : (id : ℕ) (v : Knows) → Splits Latched id v v (knows_reader v)
splits id v s l at =
    let k = l.known id v at in
    let views = set s.views id v in
    let old_known = view_set (λ _ u. Known (sequence s) l.all s.words u) id v s.views (λ j u _ e. l.known j u e) k in
    let old_owner = view_set (λ j u. u.owner ≡ true → j ≡ l.owner) id v s.views (λ j u _ e. l.one_owner j u e) (l.one_owner id v at) in
    record {
      all = l.all;
      wide = l.wide;
      low = l.low;
      count = l.count;
      whole = l.whole;
      small = l.small;
      known = λ j u e. ⊎_elim
          (λ (old : get_elem? views j ≡ some u). old_known j u old)
          (λ (new : knows_reader v ≡ u). subst (Known (sequence s) l.all s.words) new (reader_known (sequence s) l.all s.words v k))
          (at_snoc views (knows_reader v) u j e);
      owner = l.owner;
      one_owner = λ j u e. ⊎_elim
          (λ (old : get_elem? views j ≡ some u). old_owner j u old)
          (λ (new : knows_reader v ≡ u) (o : u.owner ≡ true). absurd (true_not_false (sym o ∙ sym (ap (λ (x : Knows). x.owner) new))))
          (at_snoc views (knows_reader v) u j e);
    }

-- ---- joins

-- what the choice of a join tells of the view that stays and the other
pub record IsChosen (v w stays other : Knows) : Type 0 where
  pub right : other.owner ≡ true → (stays.owner ≡ true) × ((v.owner && w.owner) ≡ true)
  pub longer : stays.owner ≡ false → length other.records ≤ length stays.records
  pub sum : v.left + w.left ≡ stays.left + other.left
  pub one_has : (v.owner || w.owner) ≡ true → stays.owner ≡ true
  pub has : stays.owner ≡ true → (v.owner || w.owner) ≡ true
  pub none_has : (v.owner || w.owner) ≡ false → (stays.owner ≡ false) × (other.owner ≡ false)
  pub lengths : max (length v.records) (length w.records) ≡ max (length stays.records) (length other.records)
  pub each : IsPrefix other.records stays.records → IsPrefix v.records stays.records × IsPrefix w.records stays.records
  pub first_owner : v.owner ≡ true → stays.records ≡ v.records
  pub second_owner : w.owner ≡ true → (v.owner && w.owner) ≡ false → stays.records ≡ w.records

record GoesFirst (a b test : Bool) : Type 0 where
  right : b ≡ true → (a ≡ true) × ((a && b) ≡ true)
  passed : a ≡ false → test ≡ true
  one_has : (a || b) ≡ true → a ≡ true
  has : a ≡ true → (a || b) ≡ true
  none_has : (a || b) ≡ false → (a ≡ false) × (b ≡ false)

pub no_true : false ≡ true → ⊥
no_true e = true_not_false (sym e)

is_first : (a b test : Bool) → (a || (not b && test)) ≡ true → GoesFirst a b test
is_first true b test e = record {
  right = λ o. (refl, o);
  passed = λ o. absurd (true_not_false o);
  one_has = λ _. refl;
  has = λ _. refl;
  none_has = λ o. absurd (true_not_false o);
}
is_first false true test e = absurd (no_true e)
is_first false false test e = record {
  right = λ o. absurd (no_true o);
  passed = λ _. e;
  one_has = λ o. absurd (no_true o);
  has = λ o. absurd (no_true o);
  none_has = λ _. (refl, refl);
}

record IsSecond (a b test : Bool) : Type 0 where
  reader : a ≡ false
  failed : b ≡ false → test ≡ false
  one_has : (a || b) ≡ true → b ≡ true
  has : b ≡ true → (a || b) ≡ true
  none_has : (a || b) ≡ false → b ≡ false

is_second : (a b test : Bool) → (a || (not b && test)) ≡ false → IsSecond a b test
is_second true b test e = absurd (true_not_false e)
is_second false b test e = record { reader = refl; failed = failed b e; one_has = λ o. o; has = λ o. o; none_has = λ o. o }
  where
    failed : (b : Bool) → (not b && test) ≡ false → b ≡ false → test ≡ false
    failed true _ o = absurd (true_not_false o)
    failed false e _ = e

not_le : (m n : ℕ) → leb m n ≡ false → n ≤ m
not_le m n e = grind (arith, nat_tests)

pub first_chosen : (v w : Knows) → first_stays v w ≡ true → IsChosen v w v w
first_chosen v w e =
    let t = is_first v.owner w.owner (leb (length w.records) (length v.records)) e in
    record {
      right = t.right;
      longer = λ o. leb-true _ _ (t.passed o);
      sum = refl;
      one_has = t.one_has;
      has = t.has;
      none_has = t.none_has;
      lengths = refl;
      each = λ p. (prefix_self v.records, p);
      first_owner = λ _. refl;
      second_owner = λ o both. absurd (true_not_false (sym (t.right o).1 ∙ both));
    }

pub second_chosen : (v w : Knows) → first_stays v w ≡ false → IsChosen v w w v
second_chosen v w e =
    let t = is_second v.owner w.owner (leb (length w.records) (length v.records)) e in
    record {
      right = λ o. absurd (true_not_false (sym o ∙ t.reader));
      longer = λ o. not_le _ _ (t.failed o);
      sum = omega arith;
      one_has = t.one_has;
      has = t.has;
      none_has = λ o. (t.none_has o, t.reader);
      lengths = omega arith;
      each = λ p. (p, prefix_self w.records);
      first_owner = λ o. absurd (true_not_false (sym o ∙ t.reader));
      second_owner = λ _ _. refl;
    }

-- a join makes one of two views
either_way : (P : Knows → Type 0) (v w : Knows) → ((stays other : Knows) → ((Q : Knows → Type 0) → Q v → Q w → Q stays × Q other) → IsChosen v w stays other → P (stays_beside v w stays other))
    → P (knows_both v w)
either_way P v w make = decided (first_stays v w) refl
  where
    decided : (test : Bool) → first_stays v w ≡ test → P (cond test (stays_beside v w v w) (stays_beside v w w v))
    decided true e = make v w (λ Q x y. (x, y)) (first_chosen v w e)
    decided false e = make w v (λ Q x y. (y, x)) (second_chosen v w e)

and_false : (a b : Bool) → (a ≡ true → b ≡ true → ⊥) → (a && b) ≡ false
and_false true true apart = absurd (apart refl refl)
and_false true false apart = refl
and_false false b apart = refl

-- what the rule says of the view that a join makes
pub both_known : (n : ℕ) (all : List Published) (ws : List ℕ) (v w : Knows) → Known n all ws v → Known n all ws w → (v.owner ≡ true → w.owner ≡ true → ⊥)
    → Known n all ws (knows_both v w)
both_known n all ws v w kv kw apart = either_way (Known n all ws) v w made
  where
    once : (v.owner && w.owner) ≡ false
    once = and_false v.owner w.owner apart

    made : (stays other : Knows) → ((Q : Knows → Type 0) → Q v → Q w → Q stays × Q other) → IsChosen v w stays other → Known n all ws (stays_beside v w stays other)
    made stays other pair c =
        let ks = (pair (Known n all ws) kv kw).0 in
        let ko = (pair (Known n all ws) kv kw).1 in
        let nothing : other.left ≡ 0 = ko.reader (false_from_ne_true other.owner (λ o. true_not_false (sym (c.right o).1 ∙ once))) in
        record {
          begun = ks.begun;
          seen = ks.seen;
          records = ks.records;
          told = ko.records;
          once = once;
          reader = λ o. let none_of = ks.reader (c.none_has o).0 in omega (arith, c.sum, nothing, none_of);
          owner = λ o. let x = ks.owner (c.one_has o) in record { seen = x.seen; records = x.records; left = omega (arith, x.left, c.sum, nothing); wrote = x.wrote };
        }

pub nothing_known : (n : ℕ) (all : List Published) (ws : List ℕ) → Known n all ws knows_nothing
nothing_known n all ws = record {
  begun = omega arith;
  seen = omega arith;
  records = (all, refl);
  told = (all, refl);
  once = refl;
  reader = λ _. refl;
  owner = λ o. absurd (no_true o);
}

-- the seat that has the owner's right after a join of two
pub record HasRight (views : List Knows) : Type 0 where
  pub seat : ℕ
  pub alone : (j : ℕ) (u : Knows) → get_elem? views j ≡ some u → u.owner ≡ true → j ≡ seat

pub or_cases : (a b : Bool) → (a || b) ≡ true → (a ≡ true) ⊎ (b ≡ true)
or_cases true b e = inl refl
or_cases false b e = inr e

-- both seats of a join aside, no seat has the right where one of the two has it
no_other : (id other owner : ℕ) (v w : Knows) (views : List Knows) → get_elem? views id ≡ some v → get_elem? views other ≡ some w
    → ((j : ℕ) (u : Knows) → get_elem? views j ≡ some u → u.owner ≡ true → j ≡ owner) → (v.owner || w.owner) ≡ true
    → (j : ℕ) (u : Knows) → j ≢ id → j ≢ other → get_elem? views j ≡ some u → u.owner ≡ true → ⊥
no_other id other owner v w views at there one e j u away far f o =
    ⊎_elim
    (λ (x : v.owner ≡ true). away (one j u f o ∙ sym (one id v at x)))
    (λ (x : w.owner ≡ true). far (one j u f o ∙ sym (one other w there x)))
    (or_cases v.owner w.owner e)

pub right_after : (id other owner : ℕ) (v w : Knows) (views : List Knows) → get_elem? views id ≡ some v → get_elem? views other ≡ some w
    → ((j : ℕ) (u : Knows) → get_elem? views j ≡ some u → u.owner ≡ true → j ≡ owner) → (test : Bool) → (v.owner || w.owner) ≡ test
    → HasRight (set (set views id (knows_both v w)) other knows_nothing)
right_after id other owner v w views at there one true e =
    let first = view_set (λ j u. j ≢ other → u.owner ≡ true → j ≡ id) id (knows_both v w) views
    (λ j u away f far o. absurd (no_other id other owner v w views at there one e j u away far f o)) (λ _ _. refl) in
    record {
      seat = id;
      alone = view_set (λ j u. u.owner ≡ true → j ≡ id) other knows_nothing (set views id (knows_both v w)) (λ j u far f. first j u f far) (λ o. absurd (no_true o));
    }
right_after id other owner v w views at there one false e =
    let reads : (knows_both v w).owner ≡ false = either_way (λ k. k.owner ≡ false) v w (λ stays rest _ _. e) in
    let first = view_set (λ j u. u.owner ≡ true → j ≡ owner) id (knows_both v w) views (λ j u _ f. one j u f) (λ o. absurd (true_not_false (sym o ∙ reads))) in
    record {
      seat = owner;
      alone = view_set (λ j u. u.owner ≡ true → j ≡ owner) other knows_nothing (set views id (knows_both v w)) (λ j u _ f. first j u f) (λ o. absurd (no_true o));
    }

pub joins : (id other : ℕ) (v w : Knows) → Joins Latched id v other w (knows_both v w) knows_nothing
joins id other v w s l at apart there =
    let n = sequence s in
    let theirs : get_elem? s.views other ≡ some w = ⊎_elim
    (λ (x : (other ≡ id) × (knows_both v w ≡ w)). absurd (apart x.0))
    (λ (x : (other ≢ id) × (get_elem? s.views other ≡ some w)). x.1)
    (at_set s.views id other (knows_both v w) w there) in
    let one : v.owner ≡ true → w.owner ≡ true → ⊥ = λ a b. apart (l.one_owner other w theirs b ∙ sym (l.one_owner id v at a)) in
    let both = both_known n l.all s.words v w (l.known id v at) (l.known other w theirs) one in
    let views = set s.views id (knows_both v w) in
    let right = right_after id other l.owner v w s.views at theirs l.one_owner (v.owner || w.owner) refl in
    record {
      all = l.all;
      wide = l.wide;
      low = l.low;
      count = l.count;
      whole = l.whole;
      small = l.small;
      known = view_set (λ _ u. Known n l.all s.words u) other knows_nothing views
          (λ j u _ e. view_set (λ _ x. Known n l.all s.words x) id (knows_both v w) s.views (λ i x _ f. l.known i x f) both j u e)
          (nothing_known n l.all s.words);
      owner = right.seat;
      one_owner = right.alone;
    }

-- what a join gives, by the load after it
pub joined : (v w k : Knows) → k ≡ knows_both v w → k.twice ≡ false → (length k.told ≤ length k.records → IsPrefix k.told k.records)
    → (k.owner ≡ true → IsPrefix k.told k.records) → Merges (epoch_of v) (epoch_of w) (epoch_of k)
joined v w k is once told owner =
    subst (λ x. Merges (epoch_of v) (epoch_of w) (epoch_of x)) (sym is)
    (either_way (λ x. x.twice ≡ false → (length x.told ≤ length x.records → IsPrefix x.told x.records) → (x.owner ≡ true → IsPrefix x.told x.records)
    → Merges (epoch_of v) (epoch_of w) (epoch_of x)) v w made
    (subst (λ x. x.twice ≡ false) is once)
    (subst (λ x. length x.told ≤ length x.records → IsPrefix x.told x.records) is told)
    (subst (λ x. x.owner ≡ true → IsPrefix x.told x.records) is owner))
  where
    made : (stays other : Knows) → ((Q : Knows → Type 0) → Q v → Q w → Q stays × Q other) → IsChosen v w stays other
        → (v.owner && w.owner) ≡ false → (length other.records ≤ length stays.records → IsPrefix other.records stays.records)
        → ((v.owner || w.owner) ≡ true → IsPrefix other.records stays.records)
        → Merges (epoch_of v) (epoch_of w) (epoch_of (stays_beside v w stays other))
    made stays other pair c apart shorter owned =
        let begins_it : IsPrefix other.records stays.records = ⊎_elim
        (λ (o : stays.owner ≡ true). owned (c.has o))
        (λ (o : stays.owner ≡ false). shorter (c.longer o))
        (cases_Bool stays.owner) in
        let both = c.each begins_it in
        record {
          owner = refl;
          once = apart;
          left = refl;
          begins = refl;
          first = both.0;
          second = both.1;
          longer = omega (arith, c.lengths, prefix_length other.records stays.records begins_it);
          first_owner = c.first_owner;
          second_owner = λ o. c.second_owner o apart;
        }
