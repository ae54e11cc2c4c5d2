-- What a thread knew of its CPU's stamps after stamp 0 and of its records begins what the CPU's own thread knew: that
-- one owns them, so once all seats are joined there is no more of them than it knew.
use Rattle.std.proofs.Common.{◌≡◌, ℕ, ◌+◌, ◌/◌, ◌<◌, ◌≤◌, nat_eq, Bool, true, false, ◌||◌, List, [], ◌∷◌, map, length, get_or, refl, sym, ap, ◌∙◌, subst, arith, eq-eqb}
use Rattle.std.specs.List.{All}
use Rattle.std.proofs.lemmas.Bool.Decides.{nat_tests}
use Rattle.std.proofs.lemmas.List.{length-map, get_or-map}
use Rattle.std.proofs.lemmas.List.Elements.{All-get_or}
use mathlib.Core.List.{IsPrefix}
use Rattle.clk_base.specs.Walk.{EachFrom}
use Rattle.clk_base.proofs.Walks.{each_from}
use Rattle.clk_machine.specs.Plan.{Plan, cpu_count, thread_at, threads_of}
use Rattle.clk_machine.specs.Limits.{IsWithinLimits}
use Rattle.clk_words.specs.declared.kind.SeatKind.{SeatKind}
use Rattle.clk_words.specs.declared.view.View.{View}
use Rattle.clk_words.specs.Fronts.{Begins}
use Rattle.clk_words.specs.Parts.{gtod_of, raw_of, part_of}
use Rattle.clk_words.specs.Rights.{has_number, owned_by}
use Rattle.clk_words.proofs.Registers.{cpu_of_gtod, cpu_of_raw}
use Rattle.clk_latch.specs.Epoch.{Epoch}
use Rattle.clk_latch.specs.Epoch.{Place as LatchPlace}
use Rattle.clk_threads.specs.Preparing.{kind_on}
use Rattle.clk_threads.specs.Finishing.{Ran, KnowsNoMore, FollowsOwner}
use Rattle.clk_threads.specs.Ending.{all_together, RecordsBegin}
use Rattle.clk_threads.proofs.Gathering.{after_taken}
use Rattle.clk_threads.proofs.LawfulLists.{thread_cpu}
use Rattle.clk_threads.proofs.Numbering.{each_of, cpu_low, kind_owner}

-- what a thread has at its end: it owns what its seat was given
pub record EndsOn (m : Plan) (thread : ℕ) (r : Ran) : Type 0 where
  pub owns : r.ended.view.pairs.owns ≡ owned_by (kind_on m thread)

-- ---- the stamps

owns_own : (m : Plan) (cpu : ℕ) → cpu < cpu_count m → has_number (owned_by (kind_on m cpu)) cpu ≡ true
owns_own m cpu low =
    let same : nat_eq cpu cpu ≡ true = eq-eqb cpu cpu refl in
    ap (λ (k : SeatKind). has_number (owned_by k) cpu) (kind_owner m cpu low) ∙ ap (λ (t : Bool). t || false) same

owns_other : (m : Plan) (thread cpu : ℕ) → thread < cpu → cpu < cpu_count m → has_number (owned_by (kind_on m thread)) cpu ≡ false
owns_other m thread cpu lower low =
    let apart : nat_eq thread cpu ≡ false = grind (arith, nat_tests) in
    ap (λ (k : SeatKind). has_number (owned_by k) cpu) (kind_owner m thread (omega (arith, lower, low))) ∙ ap (λ (t : Bool). t || false) apart

-- a register of a CPU is known as far as its own thread knew it
own_kept : (m : Plan) (v : View) (rans : List Ran) (cpu r : ℕ) (d : Ran) → cpu < cpu_count m → cpu < length rans → r / 2 ≡ cpu
    → EachFrom (EndsOn m) 0 rans → has_number v.pairs.owns cpu ≡ false
    → (part_of (all_together v (map (λ (x : Ran). x.ended.view) rans)).pairs.parts r).after ≡ (part_of (get_or rans cpu d).ended.view.pairs.parts r).after
own_kept m v rans cpu r d own low half each none =
    let Ended : Ran → View = λ x. x.ended.view in
    let views : List View = map Ended rans in
    let at : (k : ℕ) → k < length rans → get_or views k d.ended.view ≡ (get_or rans k d).ended.view = λ k there. get_or-map Ended rans k d d.ended.view there in
    let owns : (k : ℕ) → k < length rans → has_number (get_or views k d.ended.view).pairs.owns (r / 2) ≡ has_number (owned_by (kind_on m k)) cpu = λ k there.
    ap (λ (i : ℕ). has_number (get_or views k d.ended.view).pairs.owns i) half
    ∙ ap (λ (x : View). has_number x.pairs.owns cpu) (at k there)
    ∙ ap (λ (ns : List ℕ). has_number ns cpu) (each_of (EndsOn m) rans k d there each).owns in
    let count = length-map rans Ended in
    after_taken v views r cpu d.ended.view (omega (arith, low, count)) (ap (has_number v.pairs.owns) half ∙ none)
    (λ j lower. owns j (omega (arith, lower, low)) ∙ owns_other m j cpu lower own)
    (owns cpu low ∙ owns_own m cpu own)
    ∙ ap (λ (x : View). (part_of x.pairs.parts r).after) (at cpu low)

-- ---- the records

-- what the latch seats tell
records_each : (m : Plan) (all : List LatchPlace) (rans : List Ran) → IsWithinLimits m → length rans ≡ length (threads_of m) → length all ≡ length rans
    → map (λ (s : LatchPlace). s.epoch) all ≡ map (λ (r : Ran). r.ended.epoch) rans → (n : ℕ) (seats : List LatchPlace) (some : List Ran)
    → n + length seats ≤ length (threads_of m) → map (λ (s : LatchPlace). s.epoch) seats ≡ map (λ (r : Ran). r.ended.epoch) some
    → EachFrom (RecordsBegin m all) n seats
    → EachFrom (λ k (r : Ran). (d : Ran) → IsPrefix r.ended.epoch.records (get_or rans (thread_at m k).0 d).ended.epoch.records) n some
records_each m all rans limits count many same n [] [] few here each = tt
records_each m all rans limits count many same n [] (r ∷ some) few here each = absurd (omega (arith, ap length here))
records_each m all rans limits count many same n (s ∷ seats) [] few here each = absurd (omega (arith, ap length here))
records_each m all rans limits count many same n (s ∷ seats) (r ∷ some) few here each =
    let EpochAt : LatchPlace → Epoch = λ x. x.epoch in
    let EpochOf : Ran → Epoch = λ x. x.ended.epoch in
    let cpu : ℕ = (thread_at m n).0 in
    let below : cpu < cpu_count m = thread_cpu m n limits (omega (arith, few)) in
    let low : cpu < length rans = (let within = cpu_low m cpu below in omega (arith, within, count)) in
    let head : s.epoch ≡ r.ended.epoch = cc (here) in (
      λ d.
          let own : (get_or all cpu s).epoch ≡ (get_or rans cpu d).ended.epoch =
          sym (get_or-map EpochAt all cpu s s.epoch (omega (arith, low, many)))
          ∙ ap (λ (es : List Epoch). get_or es cpu s.epoch) same ∙ get_or-map EpochOf rans cpu d s.epoch low in
          subst (λ (e : Epoch). IsPrefix e.records (get_or rans cpu d).ended.epoch.records) head
          (subst (λ (e : Epoch). IsPrefix s.epoch.records e.records) own (each.0 s)),
      records_each m all rans limits count many same (n + 1) seats some (omega (arith, few)) (cc (here)) each.1,
    )

-- ---- both

-- the seats of all threads were joined with one that owns no CPU of an own thread
pub record AreTogether (m : Plan) (v whole : View) (seats : List LatchPlace) (rans : List Ran) : Type 0 where
  pub limits : IsWithinLimits m
  pub count : length rans ≡ length (threads_of m)
  pub ends : EachFrom (EndsOn m) 0 rans
  pub free : (cpu : ℕ) → cpu < cpu_count m → has_number v.pairs.owns cpu ≡ false
  pub is : whole ≡ all_together v (map (λ (r : Ran). r.ended.view) rans)
  pub known : All (λ (r : Ran). KnowsNoMore r.ended.view whole) rans
  pub many : length seats ≡ length rans
  pub epochs : map (λ (s : LatchPlace). s.epoch) seats ≡ map (λ (r : Ran). r.ended.epoch) rans
  pub records : EachFrom (RecordsBegin m seats) 0 seats

pub follow : (m : Plan) (v whole : View) (seats : List LatchPlace) (rans : List Ran) → AreTogether m v whole seats rans
    → EachFrom (λ thread r. FollowsOwner (thread_at m thread).0 rans r) 0 rans
follow m v whole seats rans t =
    each_from (λ thread r. FollowsOwner (thread_at m thread).0 rans r) 0 rans (λ k d low.
    let e : k ≡ 0 + k = omega arith in
    let count = t.count in
    subst (λ (i : ℕ). FollowsOwner (thread_at m i).0 rans (get_or rans k d)) e
    (record {
      raws = λ x. registers k d low (raw_of (thread_at m k).0) (cpu_of_raw (thread_at m k).0) x;
      gtods = λ x. registers k d low (gtod_of (thread_at m k).0) (cpu_of_gtod (thread_at m k).0) x;
      records = each_of (λ i (r : Ran). (x : Ran) → IsPrefix r.ended.epoch.records (get_or rans (thread_at m i).0 x).ended.epoch.records) rans k d low
          (records_each m seats rans t.limits t.count t.many t.epochs 0 seats rans (let many = t.many in omega (arith, many, count)) t.epochs t.records);
    }))
  where
    own : (k : ℕ) → k < length (threads_of m) → (thread_at m k).0 < cpu_count m
    own k low = thread_cpu m k t.limits low

    there : (cpu : ℕ) → cpu < cpu_count m → cpu < length rans
    there cpu low = let within = cpu_low m cpu low in let count = t.count in omega (arith, within, count)

    registers : (k : ℕ) (d : Ran) → k < length rans → (r : ℕ) → r / 2 ≡ (thread_at m k).0 → (x : Ran)
        → Begins (part_of (get_or rans k d).ended.view.pairs.parts r).after (part_of (get_or rans (thread_at m k).0 x).ended.view.pairs.parts r).after
    registers k d low r half x =
        let cpu : ℕ = (thread_at m k).0 in
        let count = t.count in
        let below : cpu < cpu_count m = own k (omega (arith, low, count)) in
        let within = there cpu below in
        let kept = ap (λ (w : View). (part_of w.pairs.parts r).after) t.is ∙ own_kept m v rans cpu r x below within half t.ends (t.free cpu below) in
        let known : KnowsNoMore (get_or rans k d).ended.view whole = All-get_or (λ (y : Ran). KnowsNoMore y.ended.view whole) rans k d low t.known in
        subst (Begins (part_of (get_or rans k d).ended.view.pairs.parts r).after) kept (known.parts r).after
