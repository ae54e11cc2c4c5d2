-- How far records and readings go: each adds what the counter travelled.
use Rattle.std.proofs.Common.{◌≡◌, ℕ, ◌+◌, ◌-◌, ◌*◌, ◌^◌, ◌<◌, ◌≤◌, ℤ, pos, ◌+ℤ◌, List, [], ◌∷◌, get_or, refl, arith}
use Rattle.std.specs.List.{All}
use Rattle.std.proofs.lemmas.Int.{ints, clamps}
use Rattle.std.proofs.lemmas.List.Elements.{All-cons}
use Rattle.clk_num.specs.Range.{IsNear, IsFrom0To}
use Rattle.clk_num.specs.Wrapping.{wrap, above}
use Rattle.clk_num.specs.Conversion.{convert}
use Rattle.clk_num.specs.Masked.{masked_delta}
use Rattle.clk_num.proofs.Wraps.{wrapped}
use Rattle.clk_num.proofs.Heights.{above_same}
use Rattle.clk_machine.specs.Plan.{Plan, count_of, cpu_count}
use Rattle.clk_machine.specs.Time.{counter_at, shown, sched_rate}
use Rattle.clk_machine.specs.Limits.{most_tickets, AreInRange}
use Rattle.clk_machine.specs.Records.{record_zero, base_of, above_base, raw_by, IsNextRecord, AreNextRecords, AreRecords}
use Rattle.clk_machine.specs.Laws.{IsAdjusted, AreInOrder, CountersAreSmall, CountersAdjustedTwiceAreSmall, RecordsAreSmall, ReadingsAreSmall, FirstReadingsAreSmall}
use Rattle.clk_machine.specs.declared.reading.Published.{Published}
use Rattle.clk_machine.proofs.Bounds.{convert_small, count_of_cpu, count_small, counter_small, counter_small_twice, masked_small}
use Rattle.clk_machine.proofs.Travel.{travel, travel_few, differ_by_travel}

pub counters_are_small : CountersAreSmall
counters_are_small m cpu adjust k a h = counter_small m cpu adjust k a.limits a.there a.near h

pub counters_adjusted_twice_are_small : CountersAdjustedTwiceAreSmall
counters_adjusted_twice_are_small m cpu adjust k l there near h = counter_small_twice m cpu adjust k l there near h

-- so much more than a value that is not far above another is above it still
more_above : (value other : ℤ) (n most : ℕ) → IsFrom0To most (above value other) → most + n < 2 ^ 63
    → above (wrap (value +ℤ pos n)) other ≡ above value other +ℤ pos n
more_above value other n most (low, high) few = omega (arith, ints, clamps, wrapped)

-- what a record adds at most for a counter value that is not far
added : (m : Plan) (p : Published) (cyc most far : ℕ) → AreInRange m → IsFrom0To most (above_base m p.ns) → most + 1001 * far < 2 ^ 63
    → masked_delta cyc p.cyc (count_of m.bits) ≤ far → IsFrom0To (most + 1001 * far) (above_base m (raw_by m p cyc))
added m p cyc most far r (low, high) few less =
    let some = convert_small m (masked_delta cyc p.cyc (count_of m.bits)) r in
    let more = more_above p.ns (base_of m) (convert (masked_delta cyc p.cyc (count_of m.bits)) (sched_rate m)) most (low, high) (omega (arith, some)) in
    rw more (omega (arith, ints, some), omega (arith, ints, some))

from_0_to_more : (a b : ℕ) (ns : ℤ) → a ≤ b → IsFrom0To a ns → IsFrom0To b ns
from_0_to_more a b ns h (low, high) = (low, omega (arith, ints))

-- a record that shows the CPU's own counter, as all after record 0 do
record IsOwnRecord (m : Plan) (cpu : ℕ) (adjust : ℤ) (p : Published) : Type 0 where
  counter : p.cyc ≡ counter_at m cpu adjust p.ticket
  ticket : p.ticket < most_tickets
  few : IsFrom0To (1001 * (83 * 2 ^ 41) + 1001 * travel m cpu p.ticket) (above_base m p.ns)

own_next : (m : Plan) (cpu : ℕ) (adjust : ℤ) (last p : Published) → IsAdjusted m cpu adjust → IsOwnRecord m cpu adjust last
    → IsNextRecord m cpu adjust last p → last.ticket ≤ p.ticket → p.ticket < most_tickets → IsOwnRecord m cpu adjust p
own_next m cpu adjust last p a own n later small =
    let way = differ_by_travel m cpu adjust last.ticket p.ticket a.limits.ranges later in
    let less : masked_delta p.cyc last.cyc (count_of m.bits) ≤ travel m cpu p.ticket - travel m cpu last.ticket = rw (n.counter, own.counter) (omega (arith, way)) in
    let far = travel_few m cpu p.ticket a.limits.ranges a.there small in
    let more = added m last p.cyc (1001 * (83 * 2 ^ 41) + 1001 * travel m cpu last.ticket) (travel m cpu p.ticket - travel m cpu last.ticket) a.limits.ranges own.few (omega (arith, way, far)) less in
    let wider = from_0_to_more _ (1001 * (83 * 2 ^ 41) + 1001 * travel m cpu p.ticket) (above_base m (raw_by m last p.cyc)) (omega (arith, way)) more in
    record { counter = n.counter; ticket = small; few = rw n.time wider }

-- what holds of all records: each shows a count that is not far, and its ns are few
record IsSmallRecord (m : Plan) (p : Published) : Type 0 where
  count : ℤ
  counter : p.cyc ≡ shown m.bits count
  far : count_of count ≤ 83 * 2 ^ 41
  few : IsFrom0To (46 * 2 ^ 52) (above_base m p.ns)

own_small : (m : Plan) (cpu : ℕ) (adjust : ℤ) (p : Published) → IsAdjusted m cpu adjust → IsOwnRecord m cpu adjust p → IsSmallRecord m p
own_small m cpu adjust p a own =
    let few = travel_few m cpu p.ticket a.limits.ranges a.there own.ticket in
    record {
      count = count_of_cpu m cpu adjust p.ticket;
      counter = own.counter;
      far = count_small m cpu adjust p.ticket a.limits a.there a.near own.ticket;
      few = from_0_to_more _ (46 * 2 ^ 52) (above_base m p.ns) (omega (arith, few)) own.few;
    }

later_small : (m : Plan) (cpu : ℕ) (adjust : ℤ) (last : Published) (ps : List Published) → IsAdjusted m cpu adjust → IsOwnRecord m cpu adjust last
    → AreNextRecords m cpu adjust last ps → AreInOrder last.ticket ps → All (IsSmallRecord m) ps
later_small m cpu adjust last [] a own n o = λ k d h. absurd (omega arith)
later_small m cpu adjust last (p ∷ ps) a own (n, next) (later, small, order) =
    let here = own_next m cpu adjust last p a own n later small in
    All-cons (IsSmallRecord m) p ps (own_small m cpu adjust p a here) (later_small m cpu adjust p ps a here next order)

zero_near : IsNear 47 (pos 0)
zero_near = (omega (arith, ints), omega (arith, ints))

zero_few : (m : Plan) (most : ℕ) → IsFrom0To most (above_base m (record_zero m).ns)
zero_few m most = rw (above_same (base_of m)) (omega (arith, ints), omega (arith, ints))

zero_small : (m : Plan) (cpu : ℕ) (adjust : ℤ) → IsAdjusted m cpu adjust → IsSmallRecord m (record_zero m)
zero_small m cpu adjust a =
    record {
      count = count_of_cpu m 0 (pos 0) 0;
      counter = refl;
      far = count_small m 0 (pos 0) 0 a.limits (omega (arith, a.there)) zero_near (omega arith);
      few = zero_few m (46 * 2 ^ 52);
    }

-- the first update goes on from the counter of CPU 0
own_first : (m : Plan) (cpu : ℕ) (adjust : ℤ) (p : Published) → IsAdjusted m cpu adjust → IsNextRecord m cpu adjust (record_zero m) p
    → p.ticket < most_tickets → IsOwnRecord m cpu adjust p
own_first m cpu adjust p a n small =
    let far = count_small m cpu adjust p.ticket a.limits a.there a.near small in
    let near = count_small m 0 (pos 0) 0 a.limits (omega (arith, a.there)) zero_near (omega arith) in
    let most = masked_small m (count_of_cpu m cpu adjust p.ticket) (count_of_cpu m 0 (pos 0) 0) (83 * 2 ^ 41) a.limits.ranges far near in
    let less : masked_delta p.cyc (counter_at m 0 (pos 0) 0) (count_of m.bits) ≤ 83 * 2 ^ 41 = rw n.counter most in
    let more = added m (record_zero m) p.cyc 0 (83 * 2 ^ 41) a.limits.ranges (zero_few m 0) (omega arith) less in
    let wider = from_0_to_more _ (1001 * (83 * 2 ^ 41) + 1001 * travel m cpu p.ticket) (above_base m (raw_by m (record_zero m) p.cyc)) (omega arith) more in
    record { counter = n.counter; ticket = small; few = rw n.time wider }

updates_small : (m : Plan) (cpu : ℕ) (adjust : ℤ) (ps : List Published) → IsAdjusted m cpu adjust → AreNextRecords m cpu adjust (record_zero m) ps
    → AreInOrder 0 ps → All (IsSmallRecord m) ps
updates_small m cpu adjust [] a n o = λ k d h. absurd (omega arith)
updates_small m cpu adjust (p ∷ ps) a (n, next) (later, small, order) =
    let here = own_first m cpu adjust p a n small in
    All-cons (IsSmallRecord m) p ps (own_small m cpu adjust p a here) (later_small m cpu adjust p ps a here next order)

all_small : (m : Plan) (cpu : ℕ) (adjust : ℤ) (records : List Published) → IsAdjusted m cpu adjust → AreRecords m cpu adjust records
    → AreInOrder 0 records → All (IsSmallRecord m) records
all_small m cpu adjust records a r o =
    let (zero_late, low, order) = rw r.all at o in
    rw r.all (All-cons (IsSmallRecord m) (record_zero m) r.updates (zero_small m cpu adjust a) (updates_small m cpu adjust r.updates a r.next order))

pub records_are_small : RecordsAreSmall
records_are_small m cpu adjust records a r o = λ k d h. (all_small m cpu adjust records a r o k d h).few

pub readings_are_small : ReadingsAreSmall
readings_are_small m cpu adjust records r a all o small right =
    let p = all_small m cpu adjust records a all o r.rec (record_zero m) right.number in
    let far = count_small m cpu adjust r.ticket a.limits a.there a.near small in
    let most = masked_small m (count_of_cpu m cpu adjust r.ticket) p.count (83 * 2 ^ 41) a.limits.ranges far p.far in
    let less : masked_delta r.cyc (get_or records r.rec (record_zero m)).cyc (count_of m.bits) ≤ 83 * 2 ^ 41 = rw (right.counter, p.counter) most in
    let near = added m (get_or records r.rec (record_zero m)) r.cyc (46 * 2 ^ 52) (83 * 2 ^ 41) a.limits.ranges p.few (omega arith) less in
    rw right.time (from_0_to_more _ (87 * 2 ^ 52) (above_base m (raw_by m (get_or records r.rec (record_zero m)) r.cyc)) (omega arith) near)

one_cpu : (m : Plan) → AreInRange m → 0 < cpu_count m
one_cpu m r = let some = rw r.cpu_each at r.cpus in omega (arith, some.1)

pub first_readings_are_small : FirstReadingsAreSmall
first_readings_are_small m records r l all first small right =
    let few = travel_few m 0 r.ticket l.ranges (one_cpu m l.ranges) small in
    let way = differ_by_travel m 0 (pos 0) 0 r.ticket l.ranges (omega arith) in
    let less : masked_delta r.cyc (record_zero m).cyc (count_of m.bits) ≤ 11 * 2 ^ 41 = rw right.counter (omega (arith, few, way)) in
    let zero : get_or records r.rec (record_zero m) ≡ record_zero m = rw (first, all.all) refl in
    let near = added m (record_zero m) r.cyc 0 (11 * 2 ^ 41) l.ranges (zero_few m 0) (omega arith) less in
    rw (right.time, zero) (from_0_to_more _ (6 * 2 ^ 52) (above_base m (raw_by m (record_zero m) r.cyc)) (omega arith) near)
