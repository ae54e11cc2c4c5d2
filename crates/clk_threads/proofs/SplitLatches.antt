-- The watchdog's seats at the latches: each is split off the owner's of a CPU.
use Rattle.std.proofs.Common.{◌≡◌, ℕ, ◌+◌, ◌<◌, ◌≤◌, Bool, true, false, cond, List, [], ◌∷◌, ◌++◌, length, get_or, sym, ap, ◌∙◌, subst, arith}
use Rattle.clk_base.specs.Walk.{EachFrom}
use Rattle.clk_base.proofs.Walks.{each_from}
use Rattle.clk_machine.specs.declared.reading.Published.{Published}
use Rattle.clk_machine.specs.Plan.{Plan, cpu_count, thread_at}
use Rattle.clk_latch.specs.Epoch.{reader_of}
use Rattle.clk_latch.specs.Epoch.{Place as LatchPlace}
use Rattle.clk_threads.specs.Preparing.{epoch_on, IsLatchSeat, HaveLatches, IsWatchLatch, AreOwners, IsSplitOff, AreSplitOff}
use Rattle.clk_threads.specs.declared.latches.Latches.{Latches}
use Rattle.clk_threads.proofs.Filling.{each_push}
use Rattle.clk_threads.proofs.Latching.{epoch_owner, owner_there}
use Rattle.clk_threads.proofs.Numbering.{each_of}

-- the seats of the threads stay as they are while the watchdog's are split off
pub have_same : (m : Plan) (first : Published) (n : ℕ) (l k : Latches) → k.epochs.items ≡ l.epochs.items → k.seats.items ≡ l.seats.items
    → HaveLatches m first n l → HaveLatches m first n k
have_same m first n l k epochs seats h =
    record {
      latches = ap length epochs ∙ h.latches;
      count = ap length seats ∙ h.count;
      each =
          subst (EachFrom (IsLatchSeat m first k) 0) (sym seats)
          (subst (λ (es : _). EachFrom (λ thread (s : LatchPlace). (s.latch ≡ get_or es (thread_at m thread).0 s.latch) × (s.epoch ≡ epoch_on m first thread)) 0 l.seats.items)
          (sym epochs) h.each);
    }

-- the first CPUs have their owners' seats
pub owners_are : (m : Plan) (first : Published) (n cpus : ℕ) (l : Latches) → HaveLatches m first n l → cpu_count m ≤ n → cpus ≤ cpu_count m → AreOwners cpus l
owners_are m first n cpus l h past few = λ cpu s d low. owner_there m first l n cpu s d h (omega (arith, low, few)) past

-- one seat more
pub split_more : (l k : Latches) (s : LatchPlace) → AreSplitOff l → k.epochs.items ≡ l.epochs.items → k.seats.items ≡ l.seats.items
    → k.watch.items ≡ l.watch.items ++ s ∷ [] → IsSplitOff l (length l.watch.items) s → AreSplitOff k
split_more l k s all epochs seats items here =
    let zero_on : 0 + length l.watch.items ≡ length l.watch.items = omega arith in
    let both = each_push (IsSplitOff l) 0 l.watch.items s all (subst (λ (i : ℕ). IsSplitOff l i s) (sym zero_on) here) in
    subst (EachFrom (IsSplitOff k) 0) (sym items)
    (subst (λ (es : _). EachFrom (λ cpu (x : LatchPlace). (x.latch ≡ get_or es cpu x.latch) × (x.epoch ≡ reader_of (get_or k.seats.items cpu x).epoch)) 0 (l.watch.items ++ s ∷ []))
    (sym epochs)
    (subst (λ (xs : List LatchPlace). EachFrom (λ cpu (x : LatchPlace). (x.latch ≡ get_or l.epochs.items cpu x.latch) × (x.epoch ≡ reader_of (get_or xs cpu x).epoch)) 0 (l.watch.items ++ s ∷ []))
    (sym seats) both))

-- all of them, as readers that have seen record 0
pub watch_latches : (m : Plan) (first : Published) (n : ℕ) (l : Latches) → HaveLatches m first n l → cpu_count m ≤ n → length l.watch.items ≤ cpu_count m → AreSplitOff l
    → EachFrom (IsWatchLatch first l) 0 l.watch.items
watch_latches m first n l h past few all =
    each_from (IsWatchLatch first l) 0 l.watch.items (λ k d low.
    let s : LatchPlace = get_or l.watch.items k d in
    let on : k ≡ 0 + k = omega arith in
    let many = h.count in
    let off : IsSplitOff l k s = each_of (IsSplitOff l) l.watch.items k d low all in
    let own : k < cpu_count m = omega (arith, low, few) in
    let owner : IsLatchSeat m first l k (get_or l.seats.items k s) = each_of (IsLatchSeat m first l) l.seats.items k s (omega (arith, own, past, many)) h.each in
    subst (λ (i : ℕ). IsWatchLatch first l i s) on
    (record { latch = off.0; epoch = off.1 ∙ ap reader_of (owner.1 ∙ epoch_owner m first k own) }))

-- no more of them than there are CPUs
pub watched_few : (watched : Bool) (cpus : ℕ) → cond watched cpus 0 ≤ cpus
watched_few true cpus = omega arith
watched_few false cpus = omega arith
