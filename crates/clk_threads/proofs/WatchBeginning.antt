-- The watchdog of a run may begin with what was prepared for it.
use Rattle.std.proofs.Common.{◌≡◌, ℕ, zero, suc, ◌+◌, ◌^◌, ◌<◌, ℤ, pos, ◌+ℤ◌, ◌-ℤ◌, Bool, true, false, cond, not, ◌&&◌, List, [], ◌∷◌, map, length, get_or, Option, Some, None, refl, sym, ap, ◌∙◌, subst, arith}
use Rattle.std.specs.Prelude.{IsTrue, is_some}
use Rattle.std.specs.List.{All, AllZip}
use Rattle.std.proofs.lemmas.Int.{ints}
use Rattle.std.proofs.lemmas.List.{get_or_default}
use Rattle.std.proofs.lemmas.List.Elements.{All-nil, All-cons, All-head, All-from_get_or}
use Rattle.clk_base.specs.Walk.{EachFrom}
use Rattle.clk_num.specs.Listed.{Listed}
use Rattle.clk_num.specs.Range.{IsNear, IsFrom0To}
use Rattle.clk_num.specs.Wrapping.{wrap}
use Rattle.clk_num.proofs.Wraps.{wrapped}
use Rattle.clk_ticket.specs.Time.{Time}
use Rattle.clk_machine.specs.Plan.{Plan, cpu_count, threads_of}
use Rattle.clk_machine.specs.Records.{record_zero, above_base}
use Rattle.clk_record.specs.declared.mode.Mode.TheVariants.{Stable, PerCpu}
use Rattle.clk_record.specs.declared.step.Step.{Step}
use Rattle.clk_record.specs.declared.up.CpuUp.{CpuUp}
use Rattle.clk_record.specs.declared.stable.StableStamp.{StableStamp}
use Rattle.clk_record.specs.declared.stable.Demotion.{Demotion}
use Rattle.clk_record.specs.Demotions.{offset_by}
use Rattle.clk_words.specs.declared.kind.SeatKind.TheVariants.{Watch}
use Rattle.clk_words.specs.declared.opening.Start.{Start}
use Rattle.clk_words.specs.declared.view.View.{View}
use Rattle.clk_words.specs.Held.{Held}
use Rattle.clk_words.specs.Histories.{opens_at, has_lift}
use Rattle.clk_words.specs.Views.{is_percpu, first_view, given_view}
use Rattle.clk_lawful.specs.Checks.{listed}
use Rattle.clk_lawful.specs.Demoted.{last_stamp, boot_stamp}
use Rattle.clk_lawful.specs.RightReadings.{adjust_in}
use Rattle.clk_lawful.specs.Stamps.{Pair, no_pair, boot_pair, last_pair}
use Rattle.clk_lawful.specs.declared.trace.WatchTrace.{WatchTrace}
use Rattle.clk_latch.specs.Epoch.{Place as LatchPlace}
use Rattle.clk_local.specs.Context.{BeginsAtBase}
use Rattle.clk_watcher.specs.Making.{IsStable}
use Rattle.clk_watcher.specs.Making.{Hand as WatchHand, Begins as WatchBegins, MayBegin as MayWatch, BelongsTo as WatchBelongsTo, IsGoing as IsWatchGoing}
use Rattle.clk_watcher.specs.declared.parts.WatchParts.{WatchParts}
use Rattle.clk_threads.specs.Booting.{gtod_offset_of, stable_offset_of, sched_offset_of, opening_of}
use Rattle.clk_threads.specs.Preparing.{start_of, gave, gave_threads, watch_seat, IsWatchLatch, watch_time, empty_watch, IsPrepared}
use Rattle.clk_threads.specs.Workers.{IsOfWatch, IsWatcherOf}
use Rattle.clk_threads.specs.Parts.{shared_of, watch_seats_of, runs_stable}
use Rattle.clk_threads.specs.declared.prepared.Prepared.{Prepared}
use Rattle.clk_threads.proofs.Beginning.{opens_near, fit, given_all}
use Rattle.clk_threads.proofs.Adjusting.{adjust_after, adjust_at}
use Rattle.clk_threads.proofs.Giving.{gave_start, not_watch}
use Rattle.clk_threads.proofs.Lasts.{some_stamps}
use Rattle.clk_threads.proofs.Numbering.{each_of}
use Rattle.clk_threads.proofs.Opening.{adjusts_count}

-- ---- what is there if a test holds

pub there_is : {A : Type 0} (b : Bool) (x y : A) → cond b (Some x) None ≡ Some y → y ≡ x
there_is true x y e = cc
there_is false x y e = absurd (cc)

pub there_by : {A : Type 0} (b : Bool) (x y : A) → cond b (Some x) None ≡ Some y → b ≡ true
there_by true x y e = refl
there_by false x y e = absurd (cc)

-- items of two lists of one length, place by place
pub zip_from : {A B : Type 0} (R : A → B → Type 0) (xs : List A) (ys : List B) → length ys ≡ length xs
    → ((k : ℕ) (d : A) (e : B) → k < length xs → R (get_or xs k d) (get_or ys k e)) → AllZip R xs ys
zip_from R [] [] same h = tt
zip_from R [] (y ∷ ys) same h = absurd (omega (arith, same))
zip_from R (x ∷ xs) [] same h = absurd (omega (arith, same))
zip_from R (x ∷ xs) (y ∷ ys) same h = (h 0 x y (omega arith), zip_from R xs ys (omega (arith, same)) (λ k d e low. h (suc k) d e (omega (arith, low))))

-- ---- what the watchdog begins with

pub record IsFreshWatch (p : Prepared) (booted : Time) (parts : WatchParts) (h : WatchHand) : Type 0 where
  pub there : is_some p.machine.watchdog ≡ true
  pub seat : parts.seat ≡ watch_seat p.machine p.opened.words
  pub latches : parts.latch_seats ≡ p.latches.watch
  pub time : parts.time ≡ watch_time p.machine booted
  pub sched_offset_is : parts.sched_offset ≡ sched_offset_of p.machine p.stamps.items
  pub gtod_offset_is : parts.gtod_offset ≡ gtod_offset_of p.stamps.items
  pub last : (s : StableStamp) → parts.last ≡ boot_stamp (gtod_offset_of p.stamps.items) s p.stamps.items
  pub hand : h ≡ record { parts = Some parts; next = 0; stable = runs_stable p; trace = empty_watch p.machine p.up.failed }
  pub begins : WatchBegins parts (empty_watch p.machine p.up.failed) (runs_stable p) h

pub fresh_watch : (p : Prepared) (ip : IsPrepared p.machine p) (h : WatchHand)
    → (w : IsOfWatch p.stamps.items p.sched_offset p.gtod_offset (runs_stable p) (watch_seats_of p) h) → IsFreshWatch p ip.booted w.parts h
fresh_watch p ip h w =
    let b : Bool = is_some p.machine.watchdog in
    let seat = sym ip.opened.watch ∙ w.seat in
    let trace : w.trace ≡ empty_watch p.machine p.up.failed =
    there_is b (empty_watch p.machine p.up.failed) w.trace (sym ip.lists.watch ∙ w.trace_is) in
    record {
      there = there_by b (watch_seat p.machine p.opened.words) w.parts.seat seat;
      seat = there_is b (watch_seat p.machine p.opened.words) w.parts.seat seat;
      latches = w.latches;
      time = there_is b (watch_time p.machine ip.booted) w.parts.time (sym ip.watch_time ∙ w.time);
      sched_offset_is = w.sched_offset_is ∙ ip.sched_offset;
      gtod_offset_is = w.gtod_offset_is ∙ ip.gtod_offset;
      last = λ s. w.last s ∙ ap (λ (o : ℤ). boot_stamp o s p.stamps.items) ip.gtod_offset;
      hand = w.hand ∙ ap (λ (t : WatchTrace). record { parts = Some w.parts; next = 0; stable = runs_stable p; trace = t }) trace;
      begins = subst (λ (t : WatchTrace). WatchBegins w.parts t (runs_stable p) h) trace w.begins;
    }

-- ---- its seat at the words

pub gave_held : (m : Plan) (start : Start) (n : ℕ) → (gave m n (first_view start)).modes.held ≡ Some start.opening.offset
gave_held m start zero = refl
gave_held m start (suc n) =
    ap (λ (b : Bool). cond b None (gave m n (first_view start)).modes.held) (not_watch m n) ∙ gave_held m start n

-- the watchdog's right is its own, as it was given, with the offset of the opening
pub record IsWatchSeat (start : Start) (n : ℕ) (v : View) : Type 0 where
  pub start_is : v.start ≡ start
  pub number_is : v.number ≡ n + 1
  pub mine_is : v.mine ≡ []
  pub joined_is : v.joined ≡ []
  pub seen_is : v.seen ≡ []
  pub found_is : v.modes.found ≡ is_percpu start.opening.mode
  pub watch_is : v.modes.watch ≡ true
  pub held_is : v.modes.held ≡ Some start.opening.offset

pub watch_given : (m : Plan) (start : Start) → IsWatchSeat start (length (threads_of m)) (given_view Watch (gave_threads m start))
watch_given m start =
    let n : ℕ = length (threads_of m) in
    let all = given_all m start n in
    record {
      start_is = all.start_is;
      number_is = all.made;
      mine_is = refl;
      joined_is = refl;
      seen_is = all.seen;
      found_is = all.found;
      watch_is = refl;
      held_is = gave_held m start n;
    }

-- ---- where it begins stable

-- the last stamp by its pair
last_by : (s : StableStamp) (p : Pair) (stamps : List StableStamp) → last_pair (boot_pair s) stamps ≡ boot_pair (last_stamp s stamps)
last_by s p [] = refl
last_by s p (x ∷ stamps) = last_by x p stamps

last_some : (s : StableStamp) (stamps : List StableStamp) → 0 < length stamps → last_pair no_pair stamps ≡ boot_pair (last_stamp s stamps)
last_some s [] some = absurd (omega (arith, some))
last_some s (x ∷ stamps) some = last_by x no_pair stamps

-- the stable offset was made so that the offset of the last stamp is that of the boot
back : (gtod raw n : ℤ) → wrap n ≡ offset_by (wrap ((gtod +ℤ wrap n) -ℤ raw)) gtod raw
back gtod raw n = omega (arith, ints, wrapped)

both_hold : (a b : Bool) → (a && not b) ≡ true → (a ≡ true) × (b ≡ false)
both_hold true false e = (refl, refl)
both_hold true true e = absurd (cc)
both_hold false b e = absurd (cc)

none_there : {A : Type 0} (o : Option A) → is_some o ≡ false → o ≡ None
none_there None e = refl
none_there (Some x) e = absurd (cc)

held_by : (m : Plan) (stamps : List StableStamp) (demotion : Option Demotion) → (start_of m stamps demotion).opening.offset ≡ gtod_offset_of stamps
held_by m stamps None = refl
held_by m stamps (Some d) = refl

by_last : (p : Prepared) (ip : IsPrepared p.machine p) (parts : WatchParts) (h : WatchHand) → IsFreshWatch p ip.booted parts h → p.machine.stable ≡ true
    → parts.gtod_offset ≡ offset_by parts.sched_offset parts.last.gtod parts.last.raw.ns
by_last p ip parts h f stable =
    let stamps : List StableStamp = p.stamps.items in
    let g : ℤ = gtod_offset_of stamps in
    let last : StableStamp = last_stamp parts.last stamps in
    let some : 0 < length stamps = some_stamps p.machine.stable (length stamps) ip.stamps.count in
    let pair = last_some parts.last stamps some in
    let is = f.last parts.last in
    let gtod : parts.last.gtod ≡ (last_pair no_pair stamps).gtod = ap (λ (s : StableStamp). s.gtod) is ∙ sym (ap (λ (q : Pair). q.gtod) pair) in
    let raw : parts.last.raw.ns ≡ (last_pair no_pair stamps).raw = ap (λ (s : StableStamp). s.raw.ns) is ∙ sym (ap (λ (q : Pair). q.raw) pair) in
    let sched : parts.sched_offset ≡ stable_offset_of stamps =
    f.sched_offset_is ∙ ap (λ (b : Bool). cond b (stable_offset_of stamps) (pos 0)) stable in
    f.gtod_offset_is ∙ back (last_pair no_pair stamps).gtod (last_pair no_pair stamps).raw _
    ∙ sym (ap (λ (x : ℤ). offset_by x parts.last.gtod parts.last.raw.ns) sched
    ∙ ap (λ (x : ℤ). offset_by (stable_offset_of stamps) x parts.last.raw.ns) gtod
    ∙ ap (λ (x : ℤ). offset_by (stable_offset_of stamps) (last_pair no_pair stamps).gtod x) raw)

-- every latch seat begins at the machine's base
base_of_seat : (p : Prepared) (ip : IsPrepared p.machine p) → All (BeginsAtBase p.machine) (map (λ (s : LatchPlace). s.epoch) p.latches.watch.items)
base_of_seat p ip = each 0 p.latches.watch.items ip.watch_latches.each
  where
    each : (n : ℕ) (seats : List LatchPlace) → EachFrom (IsWatchLatch (record_zero p.machine) p.latches) n seats
        → All (BeginsAtBase p.machine) (map (λ (s : LatchPlace). s.epoch) seats)
    each n [] h = All-nil (BeginsAtBase p.machine)
    each n (s ∷ seats) h =
        All-cons (BeginsAtBase p.machine) s.epoch (map (λ (x : LatchPlace). x.epoch) seats)
        (subst (BeginsAtBase p.machine) (sym h.0.epoch) (record { zero = λ d. refl })) (each (n + 1) seats h.1)

is_stable : (p : Prepared) (ip : IsPrepared p.machine p) (parts : WatchParts) (h : WatchHand) → IsFreshWatch p ip.booted parts h → runs_stable p ≡ true
    → IsStable (shared_of p) parts (empty_watch p.machine p.up.failed)
is_stable p ip parts h f runs =
    let m : Plan = p.machine in
    let stamps : List StableStamp = p.stamps.items in
    let start : Start = p.opened.words.start in
    let both = both_hold m.stable (is_some p.boot_demotion) runs in
    let none = none_there p.boot_demotion both.1 in
    let given : IsWatchSeat start (length (threads_of m)) parts.seat.view =
    subst (λ (s : Held). IsWatchSeat start (length (threads_of m)) s.view) (sym f.seat) (watch_given m start) in
    let mode : is_percpu start.opening.mode ≡ false =
    ap (λ (s : Start). is_percpu s.opening.mode) ip.opened.start
    ∙ ap (λ (d : Option Demotion). is_percpu (opening_of m stamps d).mode) none
    ∙ ap (λ (b : Bool). is_percpu (cond b Stable PerCpu)) both.0 in
    let offset = ap (λ (s : Start). s.opening.offset) ip.opened.start ∙ held_by m stamps p.boot_demotion in
    record {
      may = record { watch = subst IsTrue (sym given.watch_is) refl; stable = given.found_is ∙ mode };
      sched_offset = subst (IsNear 57) (sym f.sched_offset_is) ip.stamps.sched_near;
      held = given.held_is ∙ ap (λ (x : ℤ). Some x) (offset ∙ sym f.gtod_offset_is);
      by_last = by_last p ip parts h f both.0;
      unlifted = λ w low. ap (λ (seen : List Step). has_lift seen w) given.seen_is;
      base = subst (λ (l : Listed LatchPlace). All (BeginsAtBase m) (map (λ (s : LatchPlace). s.epoch) l.items)) (sym f.latches) (base_of_seat p ip);
      opening =
          subst (λ (s : Start). IsFrom0To (2 ^ 57) (above_base m (opens_at s))) (sym (given.start_is ∙ ip.opened.start)) (opens_near m stamps p.boot_demotion ip.stamps ip.demotion.is);
      room = omega arith;
      none_yet = refl;
    }

-- ---- it may begin

near_all : (p : Prepared) (ip : IsPrepared p.machine p) → All (IsNear 47) p.lists.adjusts.items
near_all p ip =
    let all = adjusts_count p ip in
    let count = ip.up.count in
    let ups : List CpuUp = p.up.cpus.items in
    All-from_get_or (IsNear 47) p.lists.adjusts.items (pos 0) (λ i low.
    let is : get_or p.lists.adjusts.items i (pos 0) ≡ adjust_in i ups =
    ap (λ (xs : List ℤ). get_or xs i (pos 0)) ip.lists.adjusts ∙ adjust_at i ups (pos 0) (omega (arith, low, all, count)) ip.up.numbers in
    subst (IsNear 47) (sym is)
    (adjust_after p.machine p.up p.tickets p.stamps.items p.boot_demotion ip.booted i ip.limits ip.up ip.drawn))

latches_zip : (p : Prepared) (ip : IsPrepared p.machine p) → is_some p.machine.watchdog ≡ true
    → AllZip (λ l (x : LatchPlace). x.latch ≡ l) p.latches.epochs.items p.latches.watch.items
latches_zip p ip there =
    let count : length p.latches.watch.items ≡ cpu_count p.machine =
    ip.watch_latches.count ∙ ap (λ (b : Bool). cond b (cpu_count p.machine) 0) there in
    let latches = ip.latches.latches in
    zip_from (λ l (x : LatchPlace). x.latch ≡ l) p.latches.epochs.items p.latches.watch.items (count ∙ sym latches) (λ k d e low.
    let here : k < length p.latches.watch.items = omega (arith, low, count, latches) in
    let is : IsWatchLatch (record_zero p.machine) p.latches k (get_or p.latches.watch.items k e) =
    each_of (IsWatchLatch (record_zero p.machine) p.latches) p.latches.watch.items k e here ip.watch_latches.each in
    is.latch ∙ get_or_default p.latches.epochs.items k (get_or p.latches.watch.items k e).latch d low)

pub may_watch : (p : Prepared) (ip : IsPrepared p.machine p) (parts : WatchParts) (h : WatchHand) → IsFreshWatch p ip.booted parts h
    → MayWatch (shared_of p) parts (empty_watch p.machine p.up.failed) (runs_stable p)
may_watch p ip parts h f =
    let m : Plan = p.machine in
    let start : Start = p.opened.words.start in
    let together = fit p ip in
    let left = ap (λ (t : Time). t.left) f.time in
    record {
      limits = ip.limits;
      cpus = together.cpus;
      latches = together.latches;
      adjusts = adjusts_count p ip;
      near = near_all p ip;
      of_words =
          ap (λ (s : Held). record { table = s.table; start = s.view.start }) f.seat
          ∙ ap (λ (s : Start). record { table = p.opened.words.table; start = s }) (gave_start m (length (threads_of m)) (first_view start));
      of_latches =
          subst (λ (l : Listed LatchPlace). AllZip (λ e (x : LatchPlace). x.latch ≡ e) p.latches.epochs.items l.items) (sym f.latches) (latches_zip p ip f.there);
      of_tickets = ap (λ (t : Time). t.table) f.time ∙ ip.drawn.table;
      tickets = omega (arith, left);
      watch = refl;
      thread = refl;
      empty = record { pauses = refl; ends = refl; currents = refl; stamps = refl; lifts = refl; demotion = refl; demoted_in = refl };
      pauses = omega arith;
      ends = omega arith;
      currents = omega arith;
      stamps = omega arith;
      if_stable = λ runs. is_stable p ip parts h f runs;
    }

pub watch_going : (p : Prepared) (ip : IsPrepared p.machine p) (parts : WatchParts) (h : WatchHand) → IsFreshWatch p ip.booted parts h
    → IsWatchGoing (shared_of p) h h
watch_going p ip parts h f = f.begins (shared_of p) (may_watch p ip parts h f)

-- so the run's watcher does, if there is one
pub watch_belongs : (p : Prepared) (ip : IsPrepared p.machine p) (watcher : Option WatchHand)
    → IsWatcherOf p.stamps.items p.sched_offset p.gtod_offset (runs_stable p) (watch_seats_of p) watcher → All (WatchBelongsTo (shared_of p)) (listed watcher)
watch_belongs p ip None w = All-nil (WatchBelongsTo (shared_of p))
watch_belongs p ip (Some h) w =
    let Of : WatchHand → Type 0 = IsOfWatch p.stamps.items p.sched_offset p.gtod_offset (runs_stable p) (watch_seats_of p) in
    let is : Of h = All-head Of h [] w.each in
    All-cons (WatchBelongsTo (shared_of p)) h [] (h, watch_going p ip is.parts h (fresh_watch p ip h is)) (All-nil (WatchBelongsTo (shared_of p)))
