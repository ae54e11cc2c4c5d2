-- What the calls of a cell latch do to a seat, by what its steps tell.
use Rattle.std.proofs.Common.{◌≡◌, ℕ, ◌+◌, ◌<◌, ◌≤◌, Bool, true, false, cond, ◌||◌, ◌&&◌, ℤ, List, [], ◌∷◌, ◌++◌, length, Option, Some, None, refl, sym, ap, ◌∙◌, subst, arith, length-append, append-nil}
use Rattle.std.proofs.lemmas.List.Elements.{All-nil, All-cons}
use Rattle.std.specs.Option.{option_or}
use Rattle.std.proofs.lemmas.Bool.{false_from_ne_true}
use lib.ListN.{get_elem?}
use Rattle.clk_base.specs.declared.block.Block.{Block}
use Rattle.clk_num.specs.Wrapping.{IsBitsOf}
use Rattle.clk_machine.specs.Plan.{Plan}
use Rattle.clk_machine.specs.declared.reading.Published.{Published}
use Rattle.clk_latch.specs.declared.rule.Knows.{Knows}
use Rattle.clk_latch.specs.declared.rule.TurnBegin.{TurnBegin}
use Rattle.clk_latch.specs.declared.cell_rule.CellRecord.{CellRecord}
use Rattle.clk_latch.specs.Epoch.{Epoch}
use Rattle.clk_latch.specs.Calls.{Updates}
use Rattle.clk_latch.specs.LatchRule.{number, IsSmallIn, knows_first, knows_reader, first_stays, stays_beside, knows_both, knows_published, knows_settled}
use Rattle.clk_latch.specs.LatchSeats.{AreUpdatesInOrder, IsOwner, epoch_of}
use Rattle.clk_latch.specs.Turns.{Went, HasCurrent, BeganLast}
use Rattle.clk_latch.specs.CellRule.{cell_sequence, Found, IsCellSeated}
use Rattle.clk_latch.proofs.Prefixes.{prefix_length, at_within}
use Rattle.clk_latch.proofs.LatchSteps.{true_not_false}
use Rattle.clk_latch.proofs.Seating.{no_true, first_chosen, second_chosen}
use Rattle.clk_latch.proofs.Reading.{owner_stays, reader_stays}
use Rattle.clk_latch.proofs.Updating.{IsUpdate, first_owner, still_owner}

-- ---- a reading

-- a read is told the ticket by what its caller picks
pub found_by : (pick ticket : ℕ) (v w : Knows) (x : CellRecord) → pick ≡ ticket → Found pick v x x w → Found ticket v x x w
found_by pick ticket v w x is found = subst (λ t. Found t v x x w) is found

pub cell_went : (ticket : ℕ) (v w : Knows) (x : CellRecord) → Found ticket v x x w → Went ticket (v, []) (w, [])
cell_went ticket v w x f =
    let turn : TurnBegin = record { ticket = ticket; rec = number (cell_sequence x) } in
    subst (λ (k : Knows). Went ticket (v, []) (k, [])) (sym f.is) (record {
      is = refl;
      records = f.grown;
      begins = record { more = turn ∷ []; is = refl; same = All-cons (λ (b : TurnBegin). b.ticket ≡ ticket) turn [] refl (All-nil (λ (b : TurnBegin). b.ticket ≡ ticket)) };
      later = f.later;
      owner = λ o. f.owner o;
    })

pub cell_began : (ticket : ℕ) (v w : Knows) (x : CellRecord) (rec : ℕ) → Found ticket v x x w → rec ≡ x.rec → BeganLast ticket v.begins w.begins rec
cell_began ticket v w x rec f is =
    let named : number (cell_sequence x) ≡ rec = omega (arith, is) in
    record {
      between = [];
      same = All-nil (λ (b : TurnBegin). b.ticket ≡ ticket);
      is = ap (λ (k : Knows). k.begins) f.is
          ∙ (ap (λ n. v.begins ++ record { ticket = ticket; rec = n } ∷ []) named
          ∙ ap (λ bs. bs ++ record { ticket = ticket; rec = rec } ∷ []) (sym (append-nil v.begins)));
    }

pub cell_current : (ticket : ℕ) (v w : Knows) (x : CellRecord) (rec : ℕ) (ns : ℤ) → Found ticket v x x w → 0 < length v.records → rec ≡ x.rec → IsBitsOf ns x.ns
    → HasCurrent w (record { rec = rec; cyc = x.cyc; ns = ns })
cell_current ticket v w x rec ns f seen is word =
    let some_there : 0 < length f.records = omega (arith, seen, prefix_length v.records f.records f.grown) in
    let count = f.count some_there in
    let p = at_within f.records x.rec (omega (arith, count)) in
    let holds = f.last p.0 p.1 in
    subst (λ (k : Knows). HasCurrent k (record { rec = rec; cyc = x.cyc; ns = ns })) (sym f.is) (record {
      record_is = p.0;
      there = ap (λ i. get_elem? f.records i) is ∙ p.1;
      cyc = sym holds.cyc;
      ns = sym holds.ns ∙ word;
      small = f.small p.0 p.1;
      count = count ∙ ap (λ i. i + 1) (sym is);
    })

-- the seat stays what it is
pub still_seated : (ticket : ℕ) (current : Option Published) (v w : Knows) → Went ticket (v, []) (w, []) → IsCellSeated current v → IsCellSeated current w
still_seated ticket current v w went s = record {
  some_seen = omega (arith, s.some_seen, prefix_length v.records w.records went.records);
  reader = reader_stays ticket current (v, []) (w, []) went s.reader;
  owner = owner_stays ticket current (v, []) (w, []) went s.owner;
}

-- ---- an update

pub cell_updates : (m : Plan) (cpu : ℕ) (adjust : ℤ) (e : Epoch) (v w : Knows) (p : Published) (bs : List Block) → epoch_of v ≡ e → IsUpdate m cpu adjust v p bs
    → w ≡ knows_settled (knows_published p v) → Updates m cpu adjust e (epoch_of w) p
cell_updates m cpu adjust e v w p bs view u is =
    subst (λ (x : Epoch). Updates m cpu adjust x (epoch_of w) p) view
    (subst (λ (x : Knows). Updates m cpu adjust (epoch_of v) (epoch_of x) p) (sym is)
    (record { is = refl; next = u.next; number = u.number; records = u.records }))

pub updated_seat : (last p : Published) (current : Option Published) (v w : Knows) → IsOwner current v → current ≡ Some last → p.rec ≡ last.rec + 1 → IsSmallIn v.records p
    → AreUpdatesInOrder (v.records ++ p ∷ []) → 1 ≤ v.left → v.owner ≡ true → w ≡ knows_settled (knows_published p v) → IsCellSeated (Some p) w
updated_seat last p current v w o hand named small order left own is =
    subst (IsCellSeated (Some p)) (sym is) (record {
      some_seen = omega (arith, length-append v.records (p ∷ []));
      reader = λ r. absurd (true_not_false (sym own ∙ r));
      owner = λ _. still_owner last p current v o hand named small order left;
    })

-- ---- a join

both_false : (a b : Bool) → (a || b) ≡ false → (a ≡ false) × (b ≡ false)
both_false true b e = absurd (true_not_false e)
both_false false b e = (refl, e)

-- the owner's seat stays what it is beside a reader's
owner_beside : (current : Option Published) (v w stays other : Knows) → IsOwner current stays → v.left + w.left ≡ stays.left → IsOwner current (stays_beside v w stays other)
owner_beside current v w stays other o left = record {
  last = o.last;
  hand = o.hand;
  before = o.before;
  records = o.records;
  number = o.number;
  small = o.small;
  order = o.order;
  even = o.even;
  few = omega (arith, o.few, left);
  idle = o.idle;
}

-- the record at hand is the owner's
pub joined_seat : (v w k : Knows) (mine theirs both : Option Published) → IsCellSeated mine v → IsCellSeated theirs w → k ≡ knows_both v w → k.twice ≡ false
    → ((p : Published) → mine ≡ Some p → both ≡ Some p) → (mine ≡ None → both ≡ theirs) → IsCellSeated both k
joined_seat v w k mine theirs both sv sw is once first second =
    subst (IsCellSeated both) (sym is) (decided (first_stays v w) refl (subst (λ (x : Knows). x.twice ≡ false) is once))
  where
    none : (v.owner || w.owner) ≡ false → (both ≡ None) × (v.left + w.left ≡ 0)
    none e =
        let each = both_false v.owner w.owner e in
        let a = sv.reader each.0 in
        let b = sw.reader each.1 in
        (second a.0 ∙ b.0, omega (arith, a.1, b.1))

    firsts : first_stays v w ≡ true → (v.owner && w.owner) ≡ false → IsCellSeated both (stays_beside v w v w)
    firsts e apart =
        let c = first_chosen v w e in
        record {
          some_seen = sv.some_seen;
          reader = none;
          owner = λ o.
              let own = sv.owner (c.one_has o) in
              let reads : w.owner ≡ false = false_from_ne_true w.owner (λ r. true_not_false (sym (c.right r).1 ∙ apart)) in
              let at_hand : both ≡ mine = first own.last own.hand ∙ sym own.hand in
              let alone : IsOwner both v = subst (λ x. IsOwner x v) (sym at_hand) own in
              owner_beside both v w v w alone (omega (arith, (sw.reader reads).1));
        }

    seconds : first_stays v w ≡ false → (v.owner && w.owner) ≡ false → IsCellSeated both (stays_beside v w w v)
    seconds e apart =
        let c = second_chosen v w e in
        record {
          some_seen = sw.some_seen;
          reader = none;
          owner = λ o.
              let own = sw.owner (c.one_has o) in
              let reads : v.owner ≡ false = false_from_ne_true v.owner (λ r. true_not_false (sym (c.right r).1 ∙ apart)) in
              let alone : IsOwner both w = subst (λ x. IsOwner x w) (sym (second (sv.reader reads).0)) own in
              owner_beside both v w w v alone (omega (arith, (sv.reader reads).1));
        }

    decided : (test : Bool) → first_stays v w ≡ test → (cond test (stays_beside v w v w) (stays_beside v w w v)).twice ≡ false
        → IsCellSeated both (cond test (stays_beside v w v w) (stays_beside v w w v))
    decided true e apart = firsts e apart
    decided false e apart = seconds e apart

-- ---- seats

-- the first one is the owner's
pub opened_seat : (zero : Published) (updates : ℕ) (v : Knows) → v ≡ knows_first zero updates → updates ≤ 1024 → zero.rec ≡ 0 → IsSmallIn (zero ∷ []) zero
    → IsCellSeated (Some zero) v
opened_seat zero updates v is few named small =
    subst (IsCellSeated (Some zero)) (sym is) (record {
      some_seen = omega arith;
      reader = λ o. absurd (true_not_false o);
      owner = λ _. first_owner zero updates few named small;
    })

-- one that a split gives is a reader's
pub reader_seat : (v w : Knows) → w ≡ knows_reader v → 0 < length v.records → IsCellSeated None w
reader_seat v w is seen =
    subst (IsCellSeated None) (sym is) (record { some_seen = seen; reader = λ _. (refl, refl); owner = λ o. absurd (no_true o) })

-- the record at hand after a join
pub or_first : (a b : Option Published) (p : Published) → a ≡ Some p → option_or a b ≡ Some p
or_first a b p is = ap (λ x. option_or x b) is

pub or_second : (a b : Option Published) → a ≡ None → option_or a b ≡ b
or_second a b is = ap (λ x. option_or x b) is
