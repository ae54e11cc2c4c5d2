-- Each step on the cell keeps the rule.
use Rattle.std.proofs.Common.{◌≡◌, ◌≢◌, ℕ, zero, suc, ◌+◌, ◌-◌, ◌*◌, ◌<◌, ◌≤◌, true, false, ◌||◌, List, [], ◌∷◌, ◌++◌, length, set, refl, sym, ap, ◌∙◌, subst, ◌⊎◌, ⊎_elim, inl, inr, arith, length-append}
use Rattle.std.proofs.lemmas.Bool.{cases_Bool}
use mathlib.Core.Option.{some, some-injective, some-ne-none}
use mathlib.Core.List.{IsPrefix}
use lib.ListN.{get_elem?}
use Rattle.atomic_table.proofs.Lists.{at_set, at_snoc}
use Rattle.crossbeam_utils.specs.Register.{Turns, Forks, Merges}
use Rattle.clk_num.specs.Wrapping.{IsBitsOf}
use Rattle.clk_machine.specs.declared.reading.Published.{Published}
use Rattle.clk_latch.specs.declared.rule.Knows.{Knows}
use Rattle.clk_latch.specs.declared.cell_rule.CellRecord.{CellRecord}
use Rattle.clk_latch.specs.LatchRule.{idle, IsSmallIn, Known, knows_nothing, knows_reader, knows_begun, knows_both, knows_published, knows_settled}
use Rattle.clk_latch.specs.Turns.{MayPublish}
use Rattle.clk_latch.specs.CellRule.{IsIn, CellKept, cell_sequence, knows_unopened, knows_stored, Found, Told, MayStore}
use Rattle.clk_latch.proofs.Prefixes.{prefix_self, prefix_trans, prefix_more, prefix_shorter, at_end}
use Rattle.clk_latch.proofs.LatchSteps.{true_not_false, view_set, other_knows, stands_none, small_more}
use Rattle.clk_latch.proofs.Seating.{alone, reader_known, both_known, nothing_known, HasRight, right_after, no_true}

-- ---- the start

unopened_known : (ws : List ℕ) → Known 0 [] ws knows_unopened
unopened_known ws = record {
  begun = omega arith;
  seen = omega arith;
  records = ([], refl);
  told = ([], refl);
  once = refl;
  reader = λ o. absurd (true_not_false o);
  owner = λ _. record { seen = refl; records = refl; left = omega arith; wrote = stands_none ws 3 };
}

pub opens : CellKept (record { rec = 0; cyc = 0; ns = 0 }) (knows_unopened ∷ [])
opens = record {
  all = [];
  low = omega arith;
  count = λ more. absurd (omega (arith, more));
  last = λ p e. absurd (some-ne-none p (sym e));
  small = λ i p e. absurd (some-ne-none p (sym e));
  known = alone (λ _ v. Known 0 [] [] v) knows_unopened (unopened_known []);
  owner = 0;
  one_owner = alone (λ j v. v.owner ≡ true → j ≡ 0) knows_unopened (λ _. refl);
}

-- ---- reads

-- the cell stays, and one view changes
watched : (x : CellRecord) (views : List Knows) (id : ℕ) (w : Knows) (l : CellKept x views) → Known (cell_sequence x) l.all [] w → (w.owner ≡ true → id ≡ l.owner)
    → CellKept x (set views id w)
watched x views id w l mine right = record {
  all = l.all;
  low = l.low;
  count = l.count;
  last = l.last;
  small = l.small;
  known = view_set (λ _ u. Known (cell_sequence x) l.all [] u) id w views (λ j u _ e. l.known j u e) mine;
  owner = l.owner;
  one_owner = view_set (λ j u. u.owner ≡ true → j ≡ l.owner) id w views (λ j u _ e. l.one_owner j u e) right;
}

pub finds : (ticket id : ℕ) (v : Knows) → Turns CellKept id v (λ x. x) (Found ticket)
finds ticket id v x views l at =
    let n = cell_sequence x in
    let k = l.known id v at in
    let w = knows_begun ticket n l.all v in
    let mine : Known n l.all [] w = record {
      begun = omega arith;
      seen = omega arith;
      records = prefix_self l.all;
      told = k.told;
      once = k.once;
      reader = k.reader;
      owner = λ o. let y = k.owner o in record { seen = refl; records = refl; left = y.left; wrote = y.wrote };
    } in (
      w,
      watched x views id w l mine (l.one_owner id v at),
      record {
        records = l.all;
        is = refl;
        grown = k.records;
        low = l.low;
        later = k.seen;
        count = l.count;
        last = l.last;
        small = λ p e. l.small x.rec p e;
        owner = λ o. let y = k.owner o in (sym y.records, sym y.seen);
      },
    )

pub tells : (id : ℕ) (v : Knows) → Turns CellKept id v (λ x. x) Told
tells id v x views l at =
    let k = l.known id v at in (
      v,
      watched x views id v l k (l.one_owner id v at),
      record {
        is = refl;
        once = k.once;
        told = prefix_shorter v.told v.records l.all k.told k.records;
        owner = λ o. subst (λ rs. IsPrefix v.told rs) (sym (k.owner o).records) k.told;
      },
    )

-- ---- writes

-- something stands in a list only where it is not empty
some_within : (xs : List Published) (k : ℕ) (p : Published) → get_elem? xs k ≡ some p → 0 < length xs
some_within [] k p e = absurd (some-ne-none p (sym e))
some_within (x ∷ xs) k p e = omega arith

pub stores : (id : ℕ) (v : Knows) (y : CellRecord) (p : Published) (left : ℕ) → MayStore y p left v
    → Turns CellKept id v (λ _. y) (λ before _ _ after. after ≡ knows_stored p left before)
stores id v y p left may x views l at =
    let k = l.known id v at in
    let o = k.owner may.owner in
    let here : id ≡ l.owner = l.one_owner id v at may.owner in
    let more = l.all ++ p ∷ [] in
    let w = knows_stored p left v in
    let count : length v.records ≡ length l.all = ap length o.records in
    let number : length l.all ≡ y.rec = omega (arith, count, may.number) in
    let later : cell_sequence x ≤ cell_sequence y = omega (arith, o.seen, may.later, may.number) in
    let mine : Known (cell_sequence y) more [] w = record {
      begun = omega (arith, k.begun, may.later);
      seen = omega (arith, may.number);
      records = subst (λ rs. IsPrefix (rs ++ p ∷ []) more) (sym o.records) (prefix_self more);
      told = prefix_trans v.told l.all more k.told (prefix_more l.all (p ∷ []));
      once = k.once;
      reader = λ r. absurd (true_not_false (sym may.owner ∙ r));
      owner = λ _. record {
        seen = omega (arith, may.number);
        records = ap (λ rs. rs ++ p ∷ []) o.records;
        left = omega (arith, may.few, may.number);
        wrote = stands_none [] (idle (cell_sequence y));
      };
    } in (
      w,
      record {
        all = more;
        low = omega (arith, may.few, may.number);
        count = λ _. omega (arith, length-append l.all (p ∷ []), number);
        last = λ q e. subst (λ z. IsIn z y) (at_end l.all p q y.rec number e) may.holds;
        small = λ i q e. ⊎_elim
            (λ (old : get_elem? l.all i ≡ some q). small_more l.all p q (some_within l.all i q old) (l.small i q old))
            (λ (new : p ≡ q). subst (IsSmallIn more) new (subst (λ rs. IsSmallIn (rs ++ p ∷ []) p) o.records may.small))
            (at_snoc l.all p q i e);
        known = view_set (λ _ u. Known (cell_sequence y) more [] u) id w views
            (λ j u apart e. other_knows (cell_sequence x) (cell_sequence y) l.all more [] [] u later (prefix_more l.all (p ∷ [])) (l.known j u e)
            (λ r. apart (l.one_owner j u e r ∙ sym here)))
            mine;
        owner = l.owner;
        one_owner = view_set (λ j u. u.owner ≡ true → j ≡ l.owner) id w views (λ j u _ e. l.one_owner j u e) (λ _. here);
      },
      refl,
    )

-- a step is told the record and the updates left by what its caller picks
pub may_picked : (y : CellRecord) (pick p : Published) (few left : ℕ) (v : Knows) → pick ≡ p → few ≡ left → MayStore y p left v → MayStore y pick few v
may_picked y pick p few left v is same may = subst (λ q. MayStore y q few v) (sym is) (subst (λ n. MayStore y p n v) (sym same) may)

pub picked : (pick p : Published) (few left : ℕ) (v w : Knows) → pick ≡ p → few ≡ left → w ≡ knows_stored pick few v → w ≡ knows_stored p left v
picked pick p few left v w is same stored = stored ∙ (ap (λ q. knows_stored q few v) is ∙ ap (λ n. knows_stored p n v) same)

-- record 0 may be written, and the record that follows
pub may_open : (p : Published) (updates word : ℕ) → updates ≤ 1024 → IsSmallIn (p ∷ []) p → IsBitsOf p.ns word
    → MayStore (record { rec = 0; cyc = p.cyc; ns = word }) p updates knows_unopened
may_open p updates word few small ns = record {
  owner = refl;
  number = refl;
  holds = record { cyc = refl; ns = ns };
  later = omega arith;
  few = omega (arith, few);
  small = small;
}

pub may_follow : (p : Published) (rec word : ℕ) (v : Knows) → MayPublish p v → p.rec ≡ length v.records → v.seen + 2 * v.left ≤ 2048 → rec ≡ p.rec → IsBitsOf p.ns word
    → MayStore (record { rec = rec; cyc = p.cyc; ns = word }) p (v.left - 1) v
may_follow p rec word v may number few same ns = record {
  owner = may.owner;
  number = same ∙ number;
  holds = record { cyc = refl; ns = ns };
  later = omega (arith, may.even);
  few = omega (arith, may.even, few, may.left);
  small = small_more v.records p p (omega (arith, may.even)) may.small;
}

-- a write does what an update does to the seat of a latch over words
pub follows : (p : Published) (v : Knows) → v.seen + 2 ≡ 2 * length v.records → knows_stored p (v.left - 1) v ≡ knows_settled (knows_published p v)
follows p v even =
    let seen : 2 * length v.records ≡ v.seen + 1 + 1 = omega (arith, even) in
    ap (λ n. record v { left = v.left - 1; records = v.records ++ p ∷ []; seen = n; wrote = [] }) seen

-- ---- splits

-- what stands in a list with one more behind it
at_behind : {A : Type 0} (xs : List A) (x y : A) (j : ℕ) → get_elem? (xs ++ x ∷ []) j ≡ some y → (get_elem? xs j ≡ some y) ⊎ ((j ≡ length xs) × (x ≡ y))
at_behind [] x y zero e = inr (refl, some-injective x y e)
at_behind [] x y (suc j) e = absurd (some-ne-none y (sym e))
at_behind (z ∷ xs) x y zero e = inl e
at_behind (z ∷ xs) x y (suc j) e =
    ⊎_elim
    (λ (old : get_elem? xs j ≡ some y). inl old)
    (λ (new : (j ≡ length xs) × (x ≡ y)). inr (ap suc new.0, new.1))
    (at_behind xs x y j e)

-- one view changes, and a new one comes
given : (x : CellRecord) (views : List Knows) (id : ℕ) (v w : Knows) (l : CellKept x views) → Known (cell_sequence x) l.all [] v → Known (cell_sequence x) l.all [] w
    → HasRight (set views id v ++ w ∷ []) → CellKept x (set views id v ++ w ∷ [])
given x views id v w l mine theirs right =
    let old_known = view_set (λ _ u. Known (cell_sequence x) l.all [] u) id v views (λ j u _ e. l.known j u e) mine in
    record {
      all = l.all;
      low = l.low;
      count = l.count;
      last = l.last;
      small = l.small;
      known = λ j u e. ⊎_elim
          (λ (old : get_elem? (set views id v) j ≡ some u). old_known j u old)
          (λ (new : w ≡ u). subst (Known (cell_sequence x) l.all []) new theirs)
          (at_snoc (set views id v) w u j e);
      owner = right.seat;
      one_owner = right.alone;
    }

-- the right stays where it is, if the new seat has none
right_stays : (views : List Knows) (id owner : ℕ) (v w : Knows) → ((j : ℕ) (u : Knows) → get_elem? views j ≡ some u → u.owner ≡ true → j ≡ owner)
    → (v.owner ≡ true → id ≡ owner) → (w.owner ≡ true → ⊥) → HasRight (set views id v ++ w ∷ [])
right_stays views id owner v w one mine none =
    let old_owner = view_set (λ j u. u.owner ≡ true → j ≡ owner) id v views (λ j u _ e. one j u e) mine in
    record {
      seat = owner;
      alone = λ j u e. ⊎_elim
          (λ (old : get_elem? (set views id v) j ≡ some u). old_owner j u old)
          (λ (new : w ≡ u) (o : u.owner ≡ true). absurd (none (ap (λ (k : Knows). k.owner) new ∙ o)))
          (at_snoc (set views id v) w u j e);
    }

-- it goes to the new seat with all else that its seat knows
right_goes : (views : List Knows) (id owner : ℕ) (v : Knows) → get_elem? views id ≡ some v → ((j : ℕ) (u : Knows) → get_elem? views j ≡ some u → u.owner ≡ true → j ≡ owner)
    → v.owner ≡ true → HasRight (set views id knows_nothing ++ v ∷ [])
right_goes views id owner v at one own =
    let others = view_set (λ _ u. u.owner ≡ true → ⊥) id knows_nothing views (λ j u apart e o. apart (one j u e o ∙ sym (one id v at own))) no_true in
    record {
      seat = length (set views id knows_nothing);
      alone = λ j u e o. ⊎_elim
          (λ (old : get_elem? (set views id knows_nothing) j ≡ some u). absurd (others j u old o))
          (λ (new : (j ≡ length (set views id knows_nothing)) × (v ≡ u)). new.0)
          (at_behind (set views id knows_nothing) v u j e);
    }

pub splits : (id : ℕ) (v : Knows) → Forks CellKept id v v (knows_reader v)
splits id v x views l at =
    let k = l.known id v at in
    given x views id v (knows_reader v) l k (reader_known (cell_sequence x) l.all [] v k) (right_stays views id l.owner v (knows_reader v) l.one_owner (l.one_owner id v at) no_true)

pub hands : (id : ℕ) (v : Knows) → Forks CellKept id v knows_nothing v
hands id v x views l at =
    given x views id knows_nothing v l (nothing_known (cell_sequence x) l.all []) (l.known id v at)
    (⊎_elim
    (λ (own : v.owner ≡ true). right_goes views id l.owner v at l.one_owner own)
    (λ (reads : v.owner ≡ false). right_stays views id l.owner knows_nothing v l.one_owner (λ o. absurd (no_true o)) (λ o. true_not_false (sym o ∙ reads)))
    (cases_Bool v.owner))

-- ---- joins

pub joins : (id : ℕ) (v : Knows) (other : ℕ) (w : Knows) → Merges CellKept id v other w (knows_both v w) knows_nothing
joins id v other w x views l at apart there =
    let n = cell_sequence x in
    let theirs : get_elem? views other ≡ some w = ⊎_elim
    (λ (e : (other ≡ id) × (knows_both v w ≡ w)). absurd (apart e.0))
    (λ (e : (other ≢ id) × (get_elem? views other ≡ some w)). e.1)
    (at_set views id other (knows_both v w) w there) in
    let one : v.owner ≡ true → w.owner ≡ true → ⊥ = λ a b. apart (l.one_owner other w theirs b ∙ sym (l.one_owner id v at a)) in
    let both = both_known n l.all [] v w (l.known id v at) (l.known other w theirs) one in
    let right = right_after id other l.owner v w views at theirs l.one_owner (v.owner || w.owner) refl in
    record {
      all = l.all;
      low = l.low;
      count = l.count;
      last = l.last;
      small = l.small;
      known = view_set (λ _ u. Known n l.all [] u) other knows_nothing (set views id (knows_both v w))
          (λ j u _ e. view_set (λ _ y. Known n l.all [] y) id (knows_both v w) views (λ i y _ f. l.known i y f) both j u e)
          (nothing_known n l.all []);
      owner = right.seat;
      one_owner = right.alone;
    }
