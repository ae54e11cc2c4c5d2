-- An update makes the record that follows, and the owner's seat stays what it is.
use Rattle.std.proofs.Common.{◌≡◌, ℕ, ◌+◌, ◌-◌, ◌*◌, ◌^◌, ◌<◌, ◌≤◌, true, ℤ, pos, List, [], ◌∷◌, ◌++◌, length, get_or, Option, Some, ⊎_elim, refl, sym, ap, ◌∙◌, subst, arith, length-append}
use mir.Syntax.{w64}
use mir.Val.{to_z, of_z}
use Rattle.std.specs.List.{All}
use mathlib.Core.List.{IsPrefix}
use Rattle.std.proofs.Math.Seq.{get_or-append_seam}
use Rattle.std.proofs.lemmas.List.Sums.{sum_by-cons, sum_by_push}
use Rattle.std.proofs.lemmas.List.Elements.{All-nil, All-head, All-tail, All-push, All-weaker}
use Rattle.std.proofs.lemmas.Bool.{cases_lt}
use Rattle.std.proofs.lemmas.Bool.Decides.{nat_tests}
use Rattle.clk_base.specs.declared.block.Block.{Block}
use Rattle.clk_base.specs.Blocks.{end_of, once_below, in_block, times_in, AllEndBy}
use Rattle.std.proofs.lemmas.Int.{ints}
use Rattle.clk_num.specs.Range.{IsFrom0To, IsNear}
use Rattle.clk_num.specs.Wrapping.{above}
use Rattle.clk_num.proofs.Wraps.{wrapped}
use Rattle.clk_machine.specs.Plan.{Plan, count_of, cpu_count}
use Rattle.clk_machine.specs.Limits.{most_tickets}
use Rattle.clk_machine.specs.Time.{counter_at}
use Rattle.clk_machine.specs.Records.{above_base, record_zero, raw_by, IsNextRecord, AreNextRecords, AreRecords}
use Rattle.clk_machine.specs.Laws.{IsAdjusted, AreInOrder}
use Rattle.clk_machine.proofs.Readings.{counters_are_small, records_are_small}
use Rattle.clk_machine.specs.declared.reading.Published.{Published}
use Rattle.clk_latch.specs.declared.rule.Knows.{Knows}
use Rattle.atomic_table.specs.Table.{Me}
use Rattle.atomic_table.specs.declared.shared.Seat.{Seat}
use Rattle.clk_ticket.specs.Time.{Time, after_draw}
use Rattle.clk_latch.specs.Epoch.{Epoch, Place}
use Rattle.clk_latch.specs.Calls.{AreDrawn, last_of, IsRecordZero, Updates}
use Rattle.clk_latch.specs.LatchRule.{IsSmallIn, knows_first, knows_published, knows_settled}
use Rattle.clk_latch.specs.LatchSeats.{AreUpdatesInOrder, IsOwner, IsSeated, place_of, epoch_of}
use Rattle.clk_latch.proofs.Converting.{sum_stays}
use Rattle.clk_latch.proofs.LatchSteps.{small_by, small_more}
use Rattle.clk_latch.proofs.Prefixes.{prefix_self, prefix_more}

-- ---- tickets

-- a number that is counted in a block lies below its end
counted_below : (x m n : ℕ) → 0 < once_below x n - once_below x m → x < n
counted_below x m n some = grind (arith, nat_tests)

once_here : (x : ℕ) → once_below x (x + 1) - once_below x x ≡ 1
once_here x = grind (arith, nat_tests)

-- what is counted in blocks lies below the number that they end by
drawn_below : (x n : ℕ) (bs : List Block) → AllEndBy n bs → 0 < times_in x bs → x < n
drawn_below x n [] ends some = absurd (omega arith)
drawn_below x n (b ∷ bs) ends some =
    let head : end_of b ≤ n = All-head (λ (c : Block). end_of c ≤ n) b bs ends in
    let tail = All-tail (λ (c : Block). end_of c ≤ n) b bs ends in
    ⊎_elim
    (λ (here : 0 < in_block x b). omega (arith, counted_below x b.first (end_of b) here, head))
    (λ (away : in_block x b ≤ 0). drawn_below x n bs tail (omega (arith, sum_by-cons (in_block x) b bs, some, away)))
    (cases_lt 0 (in_block x b))

-- one block more counts no less
drawn_more : (x : ℕ) (bs : List Block) (b : Block) → 0 < times_in x bs → 0 < times_in x (bs ++ b ∷ [])
drawn_more x bs b some = omega (arith, sum_by_push (in_block x) bs b, some)

drawn_now : (x : ℕ) (bs : List Block) → 0 < times_in x (bs ++ (record { first = x; count = 1 }) ∷ [])
drawn_now x bs = omega (arith, sum_by_push (in_block x) bs (record { first = x; count = 1 }), once_here x)

-- ---- what holds of records holds with one more

pub drawn_push : (bs : List Block) (records : List Published) (p : Published) → AreDrawn bs records
    → AreDrawn (bs ++ (record { first = p.ticket; count = 1 }) ∷ []) (records ++ p ∷ [])
drawn_push bs [] p drawn = All-nil (λ (q : Published). 0 < times_in q.ticket (bs ++ (record { first = p.ticket; count = 1 }) ∷ []))
drawn_push bs (r ∷ updates) p drawn =
    let more : List Block = bs ++ (record { first = p.ticket; count = 1 }) ∷ [] in
    All-push (λ (q : Published). 0 < times_in q.ticket more) updates p
    (All-weaker (λ (q : Published). 0 < times_in q.ticket bs) (λ (q : Published). 0 < times_in q.ticket more)
    (λ q some. drawn_more q.ticket bs (record { first = p.ticket; count = 1 }) some) updates drawn)
    (drawn_now p.ticket bs)

order_more : (n : ℕ) (ps : List Published) (p : Published) → AreInOrder n ps → All (λ (q : Published). q.ticket < p.ticket) ps → n ≤ p.ticket → p.ticket < most_tickets
    → AreInOrder n (ps ++ p ∷ [])
order_more n [] p order below low high = (low, high, tt)
order_more n (q ∷ ps) p order below low high =
    let head : q.ticket < p.ticket = All-head (λ (r : Published). r.ticket < p.ticket) q ps below in
    let tail = All-tail (λ (r : Published). r.ticket < p.ticket) q ps below in
    (order.0, order.1, order_more q.ticket ps p order.2 tail (omega (arith, head)) high)

pub order_push : (n : ℕ) (bs : List Block) (records : List Published) (p : Published) → AreUpdatesInOrder records → AreDrawn bs records → AllEndBy n bs → n ≤ p.ticket
    → p.ticket < most_tickets → AreUpdatesInOrder (records ++ p ∷ [])
order_push n bs [] p order drawn ends later bound = tt
order_push n bs (r ∷ updates) p order drawn ends later bound =
    order_more 0 updates p order
    (All-weaker (λ (q : Published). 0 < times_in q.ticket bs) (λ (q : Published). q.ticket < p.ticket)
    (λ q some. let low = drawn_below q.ticket n bs ends some in omega (arith, low, later)) updates drawn)
    (omega arith) bound

-- ---- the next record

no_end : (before : List Published) (last : Published) → [] ≡ before ++ last ∷ [] → ⊥
no_end [] last e = cc
no_end (b ∷ before) last e = cc

next_more : (m : Plan) (cpu : ℕ) (adjust : ℤ) (q : Published) (ps before : List Published) (last p : Published) → q ∷ ps ≡ before ++ last ∷ []
    → AreNextRecords m cpu adjust q ps → IsNextRecord m cpu adjust last p → AreNextRecords m cpu adjust q (ps ++ p ∷ [])
next_more m cpu adjust q [] [] last p e all next =
    let same : last ≡ q = cc in
    (subst (λ x. IsNextRecord m cpu adjust x p) same next, tt)
next_more m cpu adjust q [] (b ∷ before) last p e all next = absurd (no_end before last (let f : [] ≡ before ++ last ∷ [] = cc in f))
next_more m cpu adjust q (r ∷ ps) [] last p e all next = absurd (let f : r ∷ ps ≡ [] = cc in cc)
next_more m cpu adjust q (r ∷ ps) (b ∷ before) last p e all next =
    let rest : r ∷ ps ≡ before ++ last ∷ [] = cc in
    (all.0, next_more m cpu adjust r ps before last p rest all.1 next)

pub records_push : (m : Plan) (cpu : ℕ) (adjust : ℤ) (records before : List Published) (last p : Published) → records ≡ before ++ last ∷ []
    → AreRecords m cpu adjust records → IsNextRecord m cpu adjust last p → AreRecords m cpu adjust (records ++ p ∷ [])
records_push m cpu adjust records before last p ends are next = record {
  updates = are.updates ++ p ∷ [];
  all = ap (λ rs. rs ++ p ∷ []) are.all;
  next = next_more m cpu adjust (record_zero m) are.updates before last p (sym are.all ∙ ends) are.next next;
}

pub last_is : (d last : Published) (records before : List Published) → records ≡ before ++ last ∷ [] → last_of d records ≡ last
last_is d last records before ends =
    let count : length (before ++ last ∷ []) - 1 ≡ length before = omega (arith, length-append before (last ∷ [])) in
    ap (last_of d) ends ∙ ap (λ i. get_or (before ++ last ∷ []) i d) count ∙ get_or-append_seam before last [] d

-- the records of a counter are small
in_order : (m : Plan) (records updates : List Published) → records ≡ record_zero m ∷ updates → AreUpdatesInOrder records → AreInOrder 0 records
in_order m records updates is order =
    subst (AreInOrder 0) (sym is) (omega arith, omega arith, subst AreUpdatesInOrder is order)

pub next_small : (m : Plan) (cpu : ℕ) (adjust : ℤ) (records : List Published) (p : Published) → IsAdjusted m cpu adjust → AreRecords m cpu adjust (records ++ p ∷ [])
    → AreUpdatesInOrder (records ++ p ∷ []) → p.ticket < most_tickets → p.cyc ≡ counter_at m cpu adjust p.ticket → IsSmallIn records p
next_small m cpu adjust records p a are order bound shows =
    let each = records_are_small m cpu adjust (records ++ p ∷ []) a are (in_order m (records ++ p ∷ []) are.updates are.all order) in
    let there : length records < length (records ++ p ∷ []) = omega (arith, length-append records (p ∷ [])) in
    small_by records are.updates (record_zero m) p
    (subst (IsPrefix records) are.all (prefix_more records (p ∷ [])))
    (subst (λ n. n ≤ 83 * 2 ^ 41) (sym shows) (counters_are_small m cpu adjust p.ticket a bound))
    (subst (λ (x : Published). IsFrom0To (46 * 2 ^ 52) (above_base m x.ns)) (get_or-append_seam records p [] p) (each (length records) p there))

-- ---- the owner's seat

some_same : (x y : Published) → Some x ≡ Some y → x ≡ y
some_same x y e = cc

pub first_owner : (r : Published) (updates : ℕ) → updates ≤ 1024 → r.rec ≡ 0 → IsSmallIn (r ∷ []) r → IsOwner (Some r) (knows_first r updates)
first_owner r updates few named small = record {
  last = r;
  hand = refl;
  before = [];
  records = refl;
  number = omega (arith, named);
  small = small;
  order = tt;
  even = refl;
  few = omega (arith, few);
  idle = refl;
}

pub still_owner : (last p : Published) (current : Option Published) (v : Knows) → IsOwner current v → current ≡ Some last → p.rec ≡ last.rec + 1 → IsSmallIn v.records p
    → AreUpdatesInOrder (v.records ++ p ∷ []) → 1 ≤ v.left → IsOwner (Some p) (knows_settled (knows_published p v))
still_owner last p current v o hand named small order left =
    let same : o.last ≡ last = some_same o.last last (sym o.hand ∙ hand) in
    record {
      last = p;
      hand = refl;
      before = v.records;
      records = refl;
      number = omega (arith, length-append v.records (p ∷ []), named, o.number, ap (λ (x : Published). x.rec) same);
      small = small_more v.records p p (omega (arith, o.even)) small;
      order = order;
      even = omega (arith, length-append v.records (p ∷ []), o.even);
      few = omega (arith, o.few, left);
      idle = refl;
    }

-- ---- record 0

-- a value is not above itself
none_above : (x : ℤ) → IsFrom0To (46 * 2 ^ 52) (above x x)
none_above x = (omega (arith, ints, wrapped), omega (arith, ints, wrapped))

pub zero_small : (r : Published) → IsRecordZero r → IsSmallIn (r ∷ []) r
zero_small r z =
    let m = z.machine in
    let few = z.limits.ranges.cpus in
    let each = z.limits.ranges.cpu_each in
    let near : IsNear 47 (pos 0) = (omega (arith, ints), omega (arith, ints)) in
    let there : 0 < cpu_count m = omega (arith, few.1, ap count_of each) in
    small_by (r ∷ []) [] r r
    (prefix_self (r ∷ []))
    (subst (λ n. n ≤ 83 * 2 ^ 41) (sym z.cyc) (counters_are_small m 0 (pos 0) 0 (record { limits = z.limits; there = there; near = near }) (omega arith)))
    (none_above r.ns)

-- ---- an update

pub record IsUpdate (m : Plan) (cpu : ℕ) (adjust : ℤ) (v : Knows) (p : Published) (bs : List Block) : Type 0 where
  pub next : IsNextRecord m cpu adjust (last_of (record_zero m) v.records) p
  pub number : p.rec ≡ length v.records
  pub records : AreRecords m cpu adjust (v.records ++ p ∷ [])
  pub small : IsSmallIn v.records p
  pub order : AreUpdatesInOrder (v.records ++ p ∷ [])
  pub drawn : AreDrawn (bs ++ (record { first = p.ticket; count = 1 }) ∷ []) (v.records ++ p ∷ [])

pub is_update : (m : Plan) (cpu : ℕ) (adjust : ℤ) (v : Knows) (current : Option Published) (last p : Published) (bs : List Block) (n : ℕ) → IsOwner current v → current ≡ Some last
    → IsAdjusted m cpu adjust → AreRecords m cpu adjust v.records → AreDrawn bs v.records → AllEndBy n bs → n ≤ p.ticket → p.ticket < most_tickets
    → p.rec ≡ last.rec + 1 → p.cyc ≡ counter_at m cpu adjust p.ticket → p.ns ≡ raw_by m last p.cyc → IsUpdate m cpu adjust v p bs
is_update m cpu adjust v current last p bs n o hand a are drawn ends later bound named shows time =
    let same : o.last ≡ last = some_same o.last last (sym o.hand ∙ hand) in
    let ends_with : v.records ≡ o.before ++ last ∷ [] = o.records ∙ ap (λ x. o.before ++ x ∷ []) same in
    let next : IsNextRecord m cpu adjust last p = record { number = named; counter = shows; time = time } in
    let all = records_push m cpu adjust v.records o.before last p ends_with are next in
    let order = order_push n bs v.records p o.order drawn ends later bound in
    record {
      next = subst (λ x. IsNextRecord m cpu adjust x p) (sym (last_is (record_zero m) last v.records o.before ends_with)) next;
      number = omega (arith, named, o.number, ap (λ (x : Published). x.rec) same);
      records = all;
      small = next_small m cpu adjust v.records p a all order bound shows;
      order = order;
      drawn = drawn_push bs v.records p drawn;
    }

-- the same by what the calls of an update tell
pub record IsMade (m : Plan) (cpu : ℕ) (adjust : ℤ) (s : Place) (current : Option Published) (v : Knows) (p : Published) (bs : List Block) : Type 0 where
  pub own : v.owner ≡ true
  pub owner : IsOwner current v
  pub left : v.left ≡ s.epoch.left
  pub update : IsUpdate m cpu adjust v p bs

pub made_at : (m : Plan) (cpu : ℕ) (adjust : ℤ) (s : Place) (v : Knows) (current : Option Published) (last : Published) (time : Time) (ticket cyc : ℕ) (ns : ℤ)
    → epoch_of v ≡ s.epoch → (v.owner ≡ true → IsOwner current v) → s.epoch.owner ≡ true → current ≡ Some last → IsAdjusted m cpu adjust
    → AreRecords m cpu adjust s.epoch.records → AreDrawn time.blocks s.epoch.records → AllEndBy time.seen time.blocks → time.seen ≤ ticket → ticket + 1 ≤ most_tickets
    → cyc ≡ counter_at m cpu adjust ticket → ns ≡ raw_by m last cyc
    → IsMade m cpu adjust s current v (record { rec = last.rec + 1; ticket = ticket; cyc = cyc; ns = to_z w64 (of_z w64 ns) }) time.blocks
made_at m cpu adjust s v current last time ticket cyc ns view owns right hand a are drawn ends later bound shows value =
    let own : v.owner ≡ true = ap (λ (x : Epoch). x.owner) view ∙ right in
    let owner = owns own in
    let mine = subst (λ (x : Epoch). AreRecords m cpu adjust x.records) (sym view) are in
    let among = subst (λ (x : Epoch). AreDrawn time.blocks x.records) (sym view) drawn in
    record {
      own = own;
      owner = owner;
      left = ap (λ (x : Epoch). x.left) view;
      update = is_update m cpu adjust v current last (record { rec = last.rec + 1; ticket = ticket; cyc = cyc; ns = to_z w64 (of_z w64 ns) }) time.blocks time.seen
          owner hand a mine among ends later (omega (arith, bound)) refl shows (sum_stays ns _ value ∙ value);
    }

-- of a seat over words
pub is_made : (m : Plan) (cpu : ℕ) (adjust : ℤ) (s : Place) (seat : Seat (Unit {0}) Knows) (current : Option Published) (last : Published) (time : Time) (ticket cyc : ℕ) (ns : ℤ)
    → place_of seat ≡ s → IsSeated current seat → s.epoch.owner ≡ true → current ≡ Some last → IsAdjusted m cpu adjust
    → AreRecords m cpu adjust s.epoch.records → AreDrawn time.blocks s.epoch.records → AllEndBy time.seen time.blocks → time.seen ≤ ticket → ticket + 1 ≤ most_tickets
    → cyc ≡ counter_at m cpu adjust ticket → ns ≡ raw_by m last cyc
    → IsMade m cpu adjust s current seat.me.0 (record { rec = last.rec + 1; ticket = ticket; cyc = cyc; ns = to_z w64 (of_z w64 ns) }) time.blocks
is_made m cpu adjust s seat current last time ticket cyc ns view seated =
    made_at m cpu adjust s seat.me.0 current last time ticket cyc ns (ap (λ (x : Place). x.epoch) view) seated.owner

-- what an update does to the seat
pub updates : (m : Plan) (cpu : ℕ) (adjust : ℤ) (s : Place) (seat : Seat (Unit {0}) Knows) (p : Published) (bs : List Block) (after : Me (Unit {0}) Knows) → place_of seat ≡ s
    → IsUpdate m cpu adjust seat.me.0 p bs → after ≡ (knows_settled (knows_published p seat.me.0), seat.me.1) → Updates m cpu adjust s.epoch (epoch_of after.0) p
updates m cpu adjust s seat p bs after view u is =
    subst (λ (x : Place). Updates m cpu adjust x.epoch (epoch_of after.0) p) view
    (subst (λ (x : Me (Unit {0}) Knows). Updates m cpu adjust (epoch_of seat.me.0) (epoch_of x.0) p) (sym is)
    (record { is = refl; next = u.next; number = u.number; records = u.records }))

pub drawn_after : (v : Knows) (slots : List (ℕ × Unit {0})) (p : Published) (t after : Time) (me : Me (Unit {0}) Knows) → after ≡ after_draw t p.ticket 1
    → me ≡ (knows_settled (knows_published p v), slots) → AreDrawn (t.blocks ++ (record { first = p.ticket; count = 1 }) ∷ []) (v.records ++ p ∷ [])
    → AreDrawn after.blocks me.0.records
drawn_after v slots p t after me drew is drawn =
    subst (λ (x : Time). AreDrawn x.blocks me.0.records) (sym drew)
    (subst (λ (x : Me (Unit {0}) Knows). AreDrawn (t.blocks ++ (record { first = p.ticket; count = 1 }) ∷ []) x.0.records) (sym is) drawn)
