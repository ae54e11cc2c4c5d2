-- A reading by the record that was current when the last turn began.
use Rattle.std.proofs.Common.{◌≡◌, ℕ, ◌+◌, ◌*◌, ◌^◌, true, false, ℤ, pos, ◌+ℤ◌, [], ◌∷◌, ◌++◌, length, get_or, Option, None, sym, ap, ◌∙◌, subst, arith}
use Rattle.std.proofs.lemmas.Int.{ints}
use mathlib.Core.Option.{some}
use lib.ListN.{get_elem?}
use Rattle.atomic_table.specs.Table.{Me}
use Rattle.clk_num.specs.Conversion.{convert}
use Rattle.clk_num.specs.Masked.{masked_delta}
use Rattle.clk_num.specs.Range.{IsFrom0To}
use Rattle.clk_num.specs.Wrapping.{above, wrap}
use Rattle.clk_num.proofs.Wraps.{wrapped}
use Rattle.clk_machine.specs.Plan.{Plan, count_of}
use Rattle.clk_machine.specs.Time.{counter_at, sched_rate}
use Rattle.clk_machine.specs.Records.{record_zero, raw_by}
use Rattle.clk_machine.specs.declared.reading.Published.{Published}
use Rattle.clk_machine.specs.declared.reading.RawReading.{RawReading}
use Rattle.clk_latch.specs.declared.rule.Knows.{Knows}
use Rattle.clk_latch.specs.declared.turn.Current.{Current}
use Rattle.clk_latch.specs.Calls.{Reads}
use Rattle.clk_latch.specs.LatchRule.{IsSmallIn}
use Rattle.clk_latch.specs.LatchSeats.{AreUpdatesInOrder, IsOwner, epoch_of}
use Rattle.clk_latch.specs.Turns.{Went, HasCurrent, BeganLast}
use Rattle.clk_latch.proofs.Prefixes.{at_reads, at_within}

-- a reading is as far above record 0 as its record is, and the cycles since
far_above : (ns epoch zero : ℤ) → IsFrom0To (41 * 2 ^ 52) (above ns epoch) → IsFrom0To (46 * 2 ^ 52) (above epoch zero) → IsFrom0To (11 * 2 ^ 55) (above ns zero)
far_above ns epoch zero more small = (omega (arith, ints, wrapped, more.0, more.1, small.0, small.1), omega (arith, ints, wrapped, more.0, more.1, small.0, small.1))

pub reads : (m : Plan) (cpu : ℕ) (adjust : ℤ) (a b : Me (Unit {0}) Knows) (c : Current) (r : RawReading) → Went r.ticket a b
    → BeganLast r.ticket a.0.begins b.0.begins c.rec
    → HasCurrent b.0 c → r.rec ≡ c.rec → r.cyc ≡ counter_at m cpu adjust r.ticket
    → r.ns ≡ wrap (c.ns +ℤ pos (convert (masked_delta r.cyc c.cyc (count_of m.bits)) (sched_rate m))) → IsFrom0To (41 * 2 ^ 52) (above r.ns c.ns)
    → Reads m cpu adjust (epoch_of a.0) (epoch_of b.0) r
reads m cpu adjust a b c r went began has named shows time bound =
    let p = has.record_is in
    let at : get_elem? b.0.records r.rec ≡ some p = ap (λ i. get_elem? b.0.records i) named ∙ has.there in
    let used : get_or b.0.records r.rec (record_zero m) ≡ p = at_reads b.0.records r.rec p (record_zero m) at in
    let by_p : r.ns ≡ raw_by m p r.cyc = subst (λ n. r.ns ≡ wrap (n +ℤ pos (convert (masked_delta r.cyc p.cyc (count_of m.bits)) (sched_rate m)))) (sym has.ns)
    (subst (λ y. r.ns ≡ wrap (c.ns +ℤ pos (convert (masked_delta r.cyc y (count_of m.bits)) (sched_rate m)))) (sym has.cyc) time) in
    record {
      right = record {
        counter = shows;
        number = omega (arith, has.count, named);
        time = subst (λ (x : Published). r.ns ≡ raw_by m x r.cyc) (sym used) by_p;
      };
      seen = went.records;
      last = has.count ∙ ap (λ i. i + 1) (sym named);
      between = began.between;
      same = began.same;
      begun = began.is ∙ ap (λ i. (a.0.begins ++ began.between) ++ record { ticket = r.ticket; rec = i } ∷ []) (sym named);
      owner = λ o. (went.owner o).0;
      kept = (ap (λ (me : Me (Unit {0}) Knows). me.0.owner) went.is, ap (λ (me : Me (Unit {0}) Knows). me.0.left) went.is);
      bound = λ d.
          let z = at_within b.0.records 0 (omega (arith, has.count)) in
          let small : IsFrom0To (46 * 2 ^ 52) (above c.ns z.0.ns) = subst (λ n. IsFrom0To (46 * 2 ^ 52) (above n z.0.ns)) has.ns (has.small.ns z.0 z.1) in
          subst (λ (x : Published). IsFrom0To (11 * 2 ^ 55) (above r.ns x.ns)) (sym (at_reads b.0.records 0 z.0 d z.1)) (far_above r.ns c.ns z.0.ns bound small);
    }

-- the owner's seat stays what it is
pub owner_stays : (ticket : ℕ) (current : Option Published) (a b : Me (Unit {0}) Knows) → Went ticket a b → (a.0.owner ≡ true → IsOwner current a.0) → b.0.owner ≡ true
    → IsOwner current b.0
owner_stays ticket current a b went was o =
    let own : a.0.owner ≡ true = sym (ap (λ (me : Me (Unit {0}) Knows). me.0.owner) went.is) ∙ o in
    let old = was own in
    let records : b.0.records ≡ a.0.records = (went.owner own).0 in
    let seen : b.0.seen ≡ a.0.seen = (went.owner own).1 in
    let left : b.0.left ≡ a.0.left = ap (λ (me : Me (Unit {0}) Knows). me.0.left) went.is in
    let wrote : b.0.wrote ≡ a.0.wrote = ap (λ (me : Me (Unit {0}) Knows). me.0.wrote) went.is in
    let count : length b.0.records ≡ length a.0.records = ap length records in
    record {
      last = old.last;
      hand = old.hand;
      before = old.before;
      records = records ∙ old.records;
      number = omega (arith, old.number, count);
      small = subst (λ rs. IsSmallIn rs old.last) (sym records) old.small;
      order = subst AreUpdatesInOrder (sym records) old.order;
      even = omega (arith, old.even, count, seen);
      few = omega (arith, old.few, left, seen);
      idle = wrote ∙ old.idle;
    }

pub reader_stays : (ticket : ℕ) (current : Option Published) (a b : Me (Unit {0}) Knows) → Went ticket a b → (a.0.owner ≡ false → (current ≡ None) × (a.0.left ≡ 0))
    → b.0.owner ≡ false → (current ≡ None) × (b.0.left ≡ 0)
reader_stays ticket current a b went was o =
    let old = was (sym (ap (λ (me : Me (Unit {0}) Knows). me.0.owner) went.is) ∙ o) in
    (old.0, ap (λ (me : Me (Unit {0}) Knows). me.0.left) went.is ∙ old.1)
