-- Each thread of a run may begin with what was prepared for it.
use Rattle.std.proofs.Common.{◌≡◌, ℕ, zero, suc, ◌+◌, ◌^◌, ◌<◌, ℤ, pos, Bool, true, false, cond, nat_eq, List, [], length, get_or, Option, Some, None, refl, sym, ap, ◌∙◌, subst, arith, eq-eqb}
use Rattle.std.proofs.lemmas.Int.{ints}
use Rattle.std.proofs.lemmas.List.{get_or-map}
use Rattle.std.proofs.lemmas.List.Elements.{All-nil}
use Rattle.clk_num.specs.Listed.{Listed}
use Rattle.clk_num.specs.Range.{IsNear, IsFrom0To}
use Rattle.clk_ticket.specs.Time.{Time, share_of}
use Rattle.clk_machine.specs.Plan.{Plan, cpu_count, thread_at, threads_of}
use Rattle.clk_machine.specs.Records.{above_base, record_zero}
use Rattle.clk_record.specs.declared.up.CpuUp.{CpuUp}
use Rattle.clk_record.specs.declared.stable.StableStamp.{StableStamp}
use Rattle.clk_record.specs.declared.stable.Demotion.{Demotion}
use Rattle.clk_words.specs.declared.kind.SeatKind.{SeatKind}
use Rattle.clk_words.specs.declared.opening.Opening.{Opening}
use Rattle.clk_words.specs.declared.opening.Start.{Start}
use Rattle.clk_words.specs.declared.view.Part.{Part}
use Rattle.clk_words.specs.declared.view.View.{View}
use Rattle.clk_words.specs.Held.{Place, Held}
use Rattle.clk_words.specs.Histories.{opens_at}
use Rattle.clk_words.specs.Parts.{part_of, gtod_of, raw_of}
use Rattle.clk_words.specs.Views.{is_percpu, pairs_known, first_view, given_view}
use Rattle.clk_lawful.specs.RightReadings.{adjust_in}
use Rattle.clk_lawful.specs.declared.event.Event.{Event}
use Rattle.clk_latch.specs.Epoch.{Epoch}
use Rattle.clk_latch.specs.Epoch.{Place as LatchPlace}
use Rattle.clk_local.specs.Context.{MayStamp}
use Rattle.clk_worker.specs.declared.own.Own.{Own}
use Rattle.clk_worker.specs.declared.own.Post.{Post}
use Rattle.clk_worker.specs.Making.{Hand, FitTogether, SeatsServe, MayBegin}
use Rattle.clk_worker.specs.Running.{IsSound, OwnsClock}
use Rattle.clk_worker.specs.Calling.{site_at, has}
use Rattle.clk_worker.proofs.RunFirst.{HasGiven, given_none, given_more}
use Rattle.clk_threads.specs.Booting.{sched_offset_of, AreStamps, IsDemotedAtBootBy}
use Rattle.clk_threads.specs.Preparing.{start_of, kind_on, gave, thread_seat, thread_seats, epoch_on, IsOfLatch, IsLatchSeat, time_seat, no_events, IsPrepared}
use Rattle.clk_threads.specs.Workers.{post_of, fresh_hand, IsOfSeats}
use Rattle.clk_threads.specs.Parts.{seats_of, shared_of}
use Rattle.clk_threads.specs.declared.prepared.Prepared.{Prepared}
use Rattle.clk_threads.proofs.Adjusting.{adjust_after, adjust_at}
use Rattle.clk_threads.proofs.Built.{built_at}
use Rattle.clk_threads.proofs.Giving.{gave_start}
use Rattle.clk_threads.proofs.LawfulLists.{thread_cpu}
use Rattle.clk_threads.proofs.Numbering.{each_of, own_thread, kind_owner, kind_cpu, kind_reads, updates_left}

-- ---- the seat of each thread

seat_at : (m : Plan) (p : Place) (n k : ℕ) (d : Held) → k < n → get_or (thread_seats m p n) k d ≡ thread_seat m p k
seat_at m p = built_at (thread_seats m p) (thread_seat m p) (record { none = refl; more = λ n. refl })

-- ---- what a thread begins with

-- its seats, of which this one is at its latch
abbrev pub fresh_own : Prepared → Time → LatchPlace → ℕ → Own
fresh_own p booted latch thread = record {
  seat = thread_seat p.machine p.opened.words thread;
  latch_seat = record latch { epoch = epoch_on p.machine (record_zero p.machine) thread };
  time = time_seat booted (thread_at p.machine thread);
}

-- where it stands
abbrev pub post_at : Prepared → ℕ → Post
post_at p thread = record {
  thread = thread;
  cpu = (thread_at p.machine thread).0;
  adjust = adjust_in (thread_at p.machine thread).0 p.up.cpus.items;
  sched_offset = sched_offset_of p.machine p.stamps.items;
}

pub record IsFresh (p : Prepared) (booted : Time) (thread : ℕ) (h : Hand) : Type 0 where
  pub latch : LatchPlace
  pub there : IsOfLatch p.machine p.latches thread latch
  pub hand : h ≡ fresh_hand (post_at p thread) (fresh_own p booted latch thread) (no_events (thread_at p.machine thread))

post_is : (p : Prepared) → IsPrepared p.machine p → (thread : ℕ) → thread < length (threads_of p.machine)
    → post_of p.machine p.lists.adjusts.items p.sched_offset thread ≡ post_at p thread
post_is p ip thread low =
    let cpu : ℕ = (thread_at p.machine thread).0 in
    let ups : List CpuUp = p.up.cpus.items in
    let count = ip.up.count in
    let there = thread_cpu p.machine thread ip.limits low in
    let adjust : get_or p.lists.adjusts.items cpu (pos 0) ≡ adjust_in cpu ups =
    ap (λ (xs : List ℤ). get_or xs cpu (pos 0)) ip.lists.adjusts ∙ adjust_at cpu ups (pos 0) (omega (arith, there, count)) ip.up.numbers in
    ap (λ (x : ℤ). record { thread = thread; cpu = cpu; adjust = x; sched_offset = p.sched_offset }) adjust
    ∙ ap (λ (x : ℤ). record { thread = thread; cpu = cpu; adjust = adjust_in cpu ups; sched_offset = x }) ip.sched_offset

own_is : (o : Own) (seat : Held) (latch : LatchPlace) (time : Time) → o.seat ≡ seat → o.latch_seat ≡ latch → o.time ≡ time
    → o ≡ record { seat = seat; latch_seat = latch; time = time }
own_is o seat latch time a b c =
    ap (λ (x : Held). record { seat = x; latch_seat = o.latch_seat; time = o.time }) a
    ∙ ap (λ (x : LatchPlace). record { seat = seat; latch_seat = x; time = o.time }) b
    ∙ ap (λ (x : Time). record { seat = seat; latch_seat = latch; time = x }) c

pub fresh_worker : (p : Prepared) (ip : IsPrepared p.machine p) (thread : ℕ) (h : Hand) → thread < length (threads_of p.machine)
    → IsOfSeats p.machine p.lists.adjusts.items p.sched_offset (seats_of p) thread h → IsFresh p ip.booted thread h
fresh_worker p ip thread h low w =
    let m : Plan = p.machine in
    let booted : Time = ip.booted in
    let o : Own = w.own in
    let count = ip.latches.count in
    let there : thread < length p.latches.seats.items = omega (arith, low, count) in
    let found : LatchPlace = get_or p.latches.seats.items thread o.latch_seat in
    let is : IsLatchSeat m (record_zero m) p.latches thread found =
    each_of (IsLatchSeat m (record_zero m) p.latches) p.latches.seats.items thread o.latch_seat there ip.latches.each in
    let latch : IsLatchSeat m (record_zero m) p.latches thread o.latch_seat =
    subst (IsLatchSeat m (record_zero m) p.latches thread) (sym w.latch_seat) is in
    let seat : o.seat ≡ thread_seat m p.opened.words thread =
    w.seat ∙ ap (λ (xs : List Held). get_or xs thread o.seat) ip.opened.seats ∙ seat_at m p.opened.words (length (threads_of m)) thread o.seat low in
    let time : o.time ≡ time_seat booted (thread_at m thread) =
    w.time ∙ ap (λ (xs : List Time). get_or xs thread o.time) ip.times ∙ get_or-map (time_seat booted) (threads_of m) thread (0, []) o.time low in
    let list : w.list ≡ no_events (thread_at m thread) =
    w.events ∙ ap (λ (xs : List (Listed Event)). get_or xs thread w.list) ip.lists.events ∙ get_or-map no_events (threads_of m) thread (0, []) w.list low in
    let own = own_is o (thread_seat m p.opened.words thread) (record o.latch_seat { epoch = epoch_on m (record_zero m) thread }) (time_seat booted (thread_at m thread)) seat
    (ap (λ (e : Epoch). record o.latch_seat { epoch = e }) latch.1) time in
    record {
      latch = o.latch_seat;
      there = latch.0;
      hand =
          w.hand ∙ ap (λ (x : Post). fresh_hand x o w.list) (post_is p ip thread low)
          ∙ ap (λ (x : Own). fresh_hand (post_at p thread) x w.list) own
          ∙ ap (λ (l : Listed Event). fresh_hand (post_at p thread) (fresh_own p booted o.latch_seat thread) l) list;
    }

-- ---- it may begin

-- the words open near the machine's base
pub opens_near : (m : Plan) (stamps : List StableStamp) (demotion : Option Demotion) → AreStamps m stamps → IsDemotedAtBootBy m stamps demotion
    → IsFrom0To (2 ^ 57) (above_base m (opens_at (start_of m stamps demotion)))
opens_near m stamps None are by = are.near
opens_near m stamps (Some d) are by = (by d refl).near

pub fit : (p : Prepared) → IsPrepared p.machine p → FitTogether (shared_of p)
fit p ip =
    let start = ip.opened.start in
    record {
      limits = ip.limits;
      cpus = ap (λ (s : Start). s.cpus) start;
      latches = ip.latches.latches;
      tick = ap (λ (s : Start). s.tick) start;
      opening =
          subst (λ (s : Start). IsFrom0To (2 ^ 57) (above_base p.machine (opens_at s))) (sym start)
          (opens_near p.machine p.stamps.items p.boot_demotion ip.stamps ip.demotion.is);
    }

pub given_all : (m : Plan) (start : Start) (n : ℕ) → HasGiven start n (gave m n (first_view start))
given_all m start zero = given_none start
given_all m start (suc n) =
    let on : n + 1 ≡ suc n = omega arith in
    subst (λ (k : ℕ). HasGiven start k (gave m (suc n) (first_view start))) on
    (given_more start n (gave m n (first_view start)) (kind_on m n) (given_all m start n))

none_known : (n r : ℕ) (o : Opening) → (part_of (pairs_known n o) r).after ≡ []
none_known zero r o = refl
none_known (suc n) zero o = refl
none_known (suc n) (suc zero) o = refl
none_known (suc n) (suc (suc r)) o = none_known n r o

-- after stamp 0 nothing is known
none_after : (b : Bool) (n r : ℕ) (o : Opening) → (part_of (cond b (pairs_known n o) []) r).after ≡ []
none_after true n r o = none_known n r o
none_after false n r o = refl

may_stamp : (p : Prepared) (thread : ℕ) → thread < cpu_count p.machine → MayStamp (thread_seat p.machine p.opened.words thread).view
may_stamp p thread low =
    let start = p.opened.words.start in
    let before : View = gave p.machine thread (first_view start) in
    let parts = (given_all p.machine start thread).parts in
    let none : (r : ℕ) → length (part_of before.pairs.parts r).after ≡ 0 = λ r.
    ap (λ (ps : List Part). length (part_of ps r).after) parts ∙ ap length (none_after (is_percpu start.opening.mode) start.cpus r start.opening) in
    let same : nat_eq thread thread ≡ true = eq-eqb thread thread refl in
    subst (λ (k : SeatKind). MayStamp (given_view k before)) (sym (kind_owner p.machine thread low))
    (record { owner = rw same refl; whole = none (gtod_of thread) ∙ sym (none (raw_of thread)) })

owns_clock : (p : Prepared) (booted : Time) (latch : LatchPlace) (thread : ℕ) → thread < cpu_count p.machine
    → OwnsClock (site_at (shared_of p) (post_at p thread) 0) (has (fresh_own p booted latch thread))
owns_clock p booted latch thread low =
    record {
      may_stamp = may_stamp p thread low;
      owner = own_thread p.machine thread low;
      records = record { updates = []; all = refl; next = tt };
      drawn = All-nil _;
    }

sound : (p : Prepared) (booted : Time) (latch : LatchPlace) (thread : ℕ)
    → IsSound (site_at (shared_of p) (post_at p thread) 0) (share_of (fresh_own p booted latch thread).time) (has (fresh_own p booted latch thread))
sound p booted latch thread = record { base = record { zero = λ d. refl }; share_is = refl; rises = tt }

wider : (x : ℤ) → IsNear 57 x → IsNear 59 x
wider x near = let low = near.0 in let high = near.1 in (omega (arith, ints, low), omega (arith, ints, high))

serve : (p : Prepared) (ip : IsPrepared p.machine p) (latch : LatchPlace) (thread : ℕ) → thread < length (threads_of p.machine)
    → IsOfLatch p.machine p.latches thread latch
    → SeatsServe (shared_of p) (post_at p thread) (share_of (fresh_own p ip.booted latch thread).time) (fresh_own p ip.booted latch thread)
serve p ip latch thread low there =
    record {
      shared = fit p ip;
      thread = low;
      stands = refl;
      cpu = thread_cpu p.machine thread ip.limits low;
      near = adjust_after p.machine p.up p.tickets p.stamps.items p.boot_demotion ip.booted (thread_at p.machine thread).0 ip.limits ip.up ip.drawn;
      offset = wider (sched_offset_of p.machine p.stamps.items) ip.stamps.sched_near;
      of_words = ap (λ (s : Start). record { table = p.opened.words.table; start = s }) (gave_start p.machine thread (first_view p.opened.words.start));
      of_latch = there;
      of_tickets = ip.drawn.table;
      reading = kind_reads p.machine thread;
      cpu_is = sym (kind_cpu p.machine thread);
      sound = sound p ip.booted latch thread;
      owner = λ own. owns_clock p ip.booted latch thread own;
    }

pub may_begin : (p : Prepared) (ip : IsPrepared p.machine p) (latch : LatchPlace) (thread : ℕ) → thread < length (threads_of p.machine)
    → IsOfLatch p.machine p.latches thread latch
    → MayBegin (shared_of p) (post_at p thread) (fresh_own p ip.booted latch thread) (no_events (thread_at p.machine thread))
may_begin p ip latch thread low there =
    record {
      serves = serve p ip latch thread low there;
      enough = record { tickets = omega arith; updates = updates_left p.machine thread ip.limits low; room = omega arith };
      empty = refl;
    }
