-- The boot's stamps: which tickets they draw, and where the clock words open by them.
use Rattle.std.proofs.Common.{◌≡◌, ℕ, ◌+◌, ◌-◌, ◌*◌, ◌%◌, ◌^◌, ◌<◌, ◌≤◌, true, false, ℤ, ◌+ℤ◌, ◌-ℤ◌, ◌≤ℤ◌, List, [], ◌∷◌, ◌++◌, refl, sym, ap, ◌∙◌, arith, w64, to_z, of_z}
use Rattle.std.proofs.lemmas.Int.{ints}
use Rattle.std.proofs.lemmas.List.Elements.{All-nil, All-cons, All-head, All-tail, All-append}
use Rattle.std.proofs.Math.Nat.{mul-le-mul_right}
use Rattle.clk_base.specs.declared.block.Block.{Block}
use Rattle.clk_base.specs.Blocks.{end_of, AllEndBy, Rises}
use Rattle.clk_num.specs.Range.{IsNear, IsFrom0To}
use Rattle.clk_num.specs.Wrapping.{IsValue, wrap, above}
use Rattle.clk_num.proofs.Wraps.{wrapped}
use Rattle.clk_num.proofs.Heights.{above_is, signed_is}
use Rattle.clk_num.proofs.Converting.{convert_rises}
use Rattle.clk_ticket.specs.Time.{Tickets, Time, Draws, fresh, share_of}
use Rattle.clk_machine.specs.Plan.{Plan, count_of}
use Rattle.clk_machine.specs.Limits.{most_tickets}
use Rattle.clk_machine.specs.Tickets.{boot_tickets}
use Rattle.clk_machine.specs.Time.{reference_at, reference_rate, gtod_at}
use Rattle.clk_machine.specs.Records.{record_zero, base_of}
use Rattle.clk_machine.proofs.Travel.{time_rises}
use Rattle.clk_record.specs.declared.stable.StableStamp.{StableStamp}
use Rattle.clk_words.specs.Bounds.{IsGtod}
use Rattle.clk_lawful.specs.Checks.{one}
use Rattle.clk_lawful.specs.TicketOrder.{boot_blocks, up_blocks}
use Rattle.clk_lawful.specs.RightReadings.{IsRightStamp}
use Rattle.clk_latch.specs.Epoch.{Epoch, owner_of}
use Rattle.clk_threads.specs.Booting.{HasEpoch, MayStampAtBoot, HasStamped, gtod_offset_of, AreStamps, HasDrawnFirst}

-- monotonic time does not fall
pub gtod_rises : (m : Plan) (i k : ℕ) → i ≤ k → gtod_at m i ≤ℤ gtod_at m k
gtod_rises m i k h =
    let times = time_rises m i k h in
    let most = mul-le-mul_right (count_of m.reference.khz) times in
    let cycles : reference_at m i ≤ reference_at m k = omega (arith, most) in
    let ns = convert_rises (reference_rate m) (reference_at m i) (reference_at m k) cycles in
    omega (arith, ints, ns)

-- ---- tickets

pub all_end_later : (n k : ℕ) (bs : List Block) → n ≤ k → AllEndBy n bs → AllEndBy k bs
all_end_later n k [] h all = All-nil (λ (b : Block). end_of b ≤ k)
all_end_later n k (b ∷ bs) h all =
    let here = All-head (λ (c : Block). end_of c ≤ n) b bs all in
    All-cons (λ (c : Block). end_of c ≤ k) b bs (omega (arith, here, h)) (all_end_later n k bs h (All-tail (λ (c : Block). end_of c ≤ n) b bs all))

-- the seat with all tickets of a table drew these first blocks of n tickets
pub record HasDrawn (tickets : Tickets) (bs : List Block) (n : ℕ) (time : Time) : Type 0 where
  pub table : time.table ≡ tickets.table
  pub blocks : time.blocks ≡ bs
  pub left : time.left + n ≡ most_tickets
  pub share : share_of time ≡ most_tickets
  pub rises : Rises time.blocks
  pub ends : AllEndBy time.seen time.blocks
  pub within : time.seen ≤ most_tickets

ends_after : (before after : Time) (k : ℕ) → Draws before k 1 after → AllEndBy after.seen after.blocks
ends_after before after k d =
    let seen = ap (λ (t : Time). t.seen) d.is in
    let blocks = ap (λ (t : Time). t.blocks) d.is in
    let earlier = all_end_later before.seen after.seen before.blocks (omega (arith, d.later, seen)) d.above in
    let own = All-cons (λ (b : Block). end_of b ≤ after.seen) (one k) [] (omega (arith, seen)) (All-nil (λ (b : Block). end_of b ≤ after.seen)) in
    rw blocks (All-append (λ (b : Block). end_of b ≤ after.seen) before.blocks (one k ∷ []) earlier own)

pub draws_one : (tickets : Tickets) (bs : List Block) (n k : ℕ) (before after : Time) → HasDrawn tickets bs n before → n < most_tickets
    → Draws before k 1 after → HasDrawn tickets (bs ++ one k ∷ []) (n + 1) after
draws_one tickets bs n k before after h few d =
    let was = h.left in
    let left = ap (λ (t : Time). t.left) d.is in
    let seen = ap (λ (t : Time). t.seen) d.is in
    let bound = d.bound in
    record {
      table = ap (λ (t : Time). t.table) d.is ∙ h.table;
      blocks = ap (λ (t : Time). t.blocks) d.is ∙ ap (λ (cs : List Block). cs ++ one k ∷ []) h.blocks;
      left = omega (arith, was, left, few);
      share = d.share ∙ h.share;
      rises = d.rises h.rises;
      ends = ends_after before after k d;
      within = omega (arith, seen, bound);
    }

pub draws_epoch : (tickets : Tickets) (time : Time) → HasEpoch tickets time → HasDrawn tickets (one 0 ∷ []) 1 time
draws_epoch tickets time d =
    let left = ap (λ (t : Time). t.left) d.is in
    let seen = ap (λ (t : Time). t.seen) d.is in
    record {
      table = ap (λ (t : Time). t.table) d.is;
      blocks = ap (λ (t : Time). t.blocks) d.is;
      left = omega (arith, left);
      share = d.share;
      rises = d.rises tt;
      ends = ends_after (fresh tickets.table most_tickets 0) time 0 d;
      within = omega (arith, seen);
    }

-- ---- heights

-- the clock words open well by a first stamp of this raw reading and this monotonic time, and by a later one
pub record OpensWell (o raw gtod second later : ℤ) : Type 0 where
  pub near : IsFrom0To (2 ^ 57) (above (wrap (later +ℤ wrap (raw -ℤ gtod))) o)
  pub raw_near : IsNear 59 (above second (wrap (later +ℤ wrap (raw -ℤ gtod))))
  pub sched_near : IsNear 57 (wrap ((later +ℤ wrap (raw -ℤ gtod)) -ℤ second))

opening_above : (o raw gtod later : ℤ) → IsFrom0To (6 * 2 ^ 52) (above raw o) → IsGtod gtod → IsGtod later
    → above (wrap (later +ℤ wrap (raw -ℤ gtod))) o ≡ above raw o +ℤ (later -ℤ gtod)
opening_above o raw gtod later (low, high) (a, b) (c, d) = omega (arith, ints, wrapped)

-- to wrap before a difference changes nothing
wrap_before : (a b : ℤ) → wrap (wrap a -ℤ b) ≡ wrap (a -ℤ b)
wrap_before a b = omega (arith, ints, wrapped)

pub opens_well : (o raw gtod second later : ℤ) → IsFrom0To (6 * 2 ^ 52) (above raw o) → IsFrom0To (6 * 2 ^ 52) (above second o) → IsGtod gtod
    → IsGtod later → gtod ≤ℤ later → OpensWell o raw gtod second later
opens_well o raw gtod second later (low, high) (below, top) (a, b) (c, d) order =
    let opens : ℤ = wrap (later +ℤ wrap (raw -ℤ gtod)) in
    let height = opening_above o raw gtod later (low, high) (a, b) (c, d) in
    let apart : above second opens ≡ above second o -ℤ above opens o =
    above_is o second opens (omega (arith, ints), omega (arith, ints)) (omega (arith, ints, height), omega (arith, ints, height)) in
    let back : wrap ((later +ℤ wrap (raw -ℤ gtod)) -ℤ second) ≡ above opens o -ℤ above second o =
    sym (wrap_before (later +ℤ wrap (raw -ℤ gtod)) second)
    ∙ above_is o opens second (omega (arith, ints, height), omega (arith, ints, height)) (omega (arith, ints), omega (arith, ints)) in
    record {
      near = (omega (arith, ints, height), omega (arith, ints, height));
      raw_near = (omega (arith, ints, height, apart), omega (arith, ints, height, apart));
      sched_near = (omega (arith, ints, height, back), omega (arith, ints, height, back));
    }

-- the offset of the stable clock, as it is computed
pub stable_offset_is : (gtod offset raw : ℤ) → IsValue gtod → IsValue offset → IsValue raw
    → to_z w64 (((of_z w64 gtod + of_z w64 offset) % 2 ^ 64 + (2 ^ 64 - of_z w64 raw)) % 2 ^ 64) ≡ wrap ((gtod +ℤ offset) -ℤ raw)
stable_offset_is gtod offset raw f g h =
    let e = signed_is (((of_z w64 gtod + of_z w64 offset) % 2 ^ 64 + (2 ^ 64 - of_z w64 raw)) % 2 ^ 64) (omega arith) in
    e ∙ omega (arith, ints, wrapped)

-- ---- stamps

pub stamp_draws : (tickets : Tickets) (bs : List Block) (n : ℕ) (m : Plan) (before after : Time) (epoch : Epoch) (s : StableStamp) → n + 2 ≤ most_tickets
    → HasDrawn tickets bs n before → HasStamped m before after epoch s
    → HasDrawn tickets ((bs ++ one s.gtod_ticket ∷ []) ++ one s.raw.ticket ∷ []) ((n + 1) + 1) after
stamp_draws tickets bs n m before after epoch s few h t =
    draws_one tickets (bs ++ one s.gtod_ticket ∷ []) (n + 1) s.raw.ticket t.middle after
    (draws_one tickets bs n s.gtod_ticket before t.middle h (omega (arith, few)) t.first) (omega (arith, few)) t.second

pub may_begin : (m : Plan) (tickets : Tickets) (time : Time) (epoch : Epoch) → HasEpoch tickets time → epoch ≡ owner_of (record_zero m) 0
    → MayStampAtBoot m tickets time epoch
may_begin m tickets time epoch d e =
    let left = ap (λ (t : Time). t.left) d.is in
    record {
      owner = ap (λ (x : Epoch). x.owner) e;
      records = ap (λ (x : Epoch). x.records) e;
      table = ap (λ (t : Time). t.table) d.is;
      left = omega (arith, left);
    }

-- a stamp comes later than the one before it
stamp_later : (m : Plan) (before middle after : Time) (d e : Epoch) (s t : StableStamp) → HasStamped m before middle d s → HasStamped m middle after e t
    → s.gtod ≤ℤ t.gtod
stamp_later m before middle after d e s t h k =
    let drew = ap (λ (x : Time). x.seen) h.first.is in
    let read = ap (λ (x : Time). x.seen) h.second.is in
    let between = h.second.later in
    let later = k.first.later in
    rw (h.right.0, k.right.0) (gtod_rises m s.gtod_ticket t.gtod_ticket (omega (arith, drew, read, between, later)))

-- the one stamp of a per-CPU start
pub one_stamp : (m : Plan) (before after : Time) (epoch : Epoch) (s : StableStamp) → m.stable ≡ false → HasStamped m before after epoch s
    → AreStamps m (s ∷ [])
one_stamp m before after epoch s percpu h =
    let well = opens_well (base_of m) s.raw.ns s.gtod s.raw.ns s.gtod h.raw_small h.raw_small h.gtod_small h.gtod_small (omega (arith, ints)) in
    record {
      count = rw percpu refl;
      right = All-cons (IsRightStamp m) s [] h.right (All-nil (IsRightStamp m));
      offsets =
          All-cons (λ (t : StableStamp). t.offset ≡ gtod_offset_of (s ∷ [])) s [] h.offset
          (All-nil (λ (t : StableStamp). t.offset ≡ gtod_offset_of (s ∷ [])));
      opening = record { gtod = h.gtod_small; raw = well.raw_near };
      near = well.near;
      sched_near = rw percpu (omega (arith, ints), omega (arith, ints));
    }

-- what such a boot drew of a table's tickets, and what it left
pub record Drew (m : Plan) (tickets : Tickets) (stamps : List StableStamp) (time : Time) : Type 0 where
  pub drawn : HasDrawnFirst tickets stamps [] time
  pub left : time.left + boot_tickets m ≡ most_tickets

drawn_first : (tickets : Tickets) (stamps : List StableStamp) (n : ℕ) (time : Time) → HasDrawn tickets (boot_blocks 0 stamps ++ up_blocks []) n time
    → HasDrawnFirst tickets stamps [] time
drawn_first tickets stamps n time h =
    record { table = h.table; blocks = h.blocks; share = h.share; rises = h.rises; ends = h.ends; within = h.within }

pub one_drawn : (m : Plan) (tickets : Tickets) (before after : Time) (epoch : Epoch) (s : StableStamp) → m.stable ≡ false → HasEpoch tickets before
    → HasStamped m before after epoch s → Drew m tickets (s ∷ []) after
one_drawn m tickets before after epoch s percpu d h =
    let drawn = stamp_draws tickets (one 0 ∷ []) 1 m before after epoch s (omega arith) (draws_epoch tickets before d) h in
    record { drawn = drawn_first tickets (s ∷ []) 3 after drawn; left = rw percpu drawn.left }

-- the second stamp with the offset of the first
abbrev pub with_offset : ℤ → StableStamp → StableStamp
with_offset offset s = record { gtod_ticket = s.gtod_ticket; gtod = s.gtod; raw = s.raw; offset = offset }

-- the two stamps of a stable start
pub two_stamps : (m : Plan) (before middle after : Time) (d e : Epoch) (s t : StableStamp) → m.stable ≡ true → HasStamped m before middle d s
    → HasStamped m middle after e t → AreStamps m (s ∷ with_offset s.offset t ∷ [])
two_stamps m before middle after d e s t stable h k =
    let later = stamp_later m before middle after d e s t h k in
    let well = opens_well (base_of m) s.raw.ns s.gtod t.raw.ns t.gtod h.raw_small k.raw_small h.gtod_small k.gtod_small later in
    let last = with_offset s.offset t in
    let all : List StableStamp = s ∷ last ∷ [] in
    record {
      count = rw stable refl;
      right = All-cons (IsRightStamp m) s (last ∷ []) h.right (All-cons (IsRightStamp m) last [] k.right (All-nil (IsRightStamp m)));
      offsets =
          All-cons (λ (x : StableStamp). x.offset ≡ gtod_offset_of all) s (last ∷ []) h.offset
          (All-cons (λ (x : StableStamp). x.offset ≡ gtod_offset_of all) last [] h.offset (All-nil (λ (x : StableStamp). x.offset ≡ gtod_offset_of all)));
      opening = record { gtod = k.gtod_small; raw = well.raw_near };
      near = well.near;
      sched_near = rw stable well.sched_near;
    }

pub two_drawn : (m : Plan) (tickets : Tickets) (before middle after : Time) (d e : Epoch) (s t : StableStamp) → m.stable ≡ true → HasEpoch tickets before
    → HasStamped m before middle d s → HasStamped m middle after e t → Drew m tickets (s ∷ with_offset s.offset t ∷ []) after
two_drawn m tickets before middle after d e s t stable began h k =
    let first = stamp_draws tickets (one 0 ∷ []) 1 m before middle d s (omega arith) (draws_epoch tickets before began) h in
    let drawn = stamp_draws tickets (one 0 ∷ one s.gtod_ticket ∷ one s.raw.ticket ∷ []) 3 m middle after e t (omega arith) first k in
    record { drawn = drawn_first tickets (s ∷ with_offset s.offset t ∷ []) 5 after drawn; left = rw stable drawn.left }
