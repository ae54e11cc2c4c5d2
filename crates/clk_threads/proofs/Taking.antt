-- A run whose workers are taken and come back: what stands in its slots is always its own.
use Rattle.std.proofs.Common.{◌≡◌, ℕ, zero, suc, ◌+◌, ◌<◌, ◌≤◌, true, List, [], ◌∷◌, length, get_or, set, Option, Some, None, refl, sym, ap, ◌∙◌, subst, arith}
use Rattle.std.specs.Prelude.{is_some}
use Rattle.std.specs.List.{All}
use Rattle.std.proofs.lemmas.List.{length-map, length-set}
use Rattle.std.proofs.lemmas.List.Elements.{All-nil, All-cons, All-head}
use Rattle.clk_base.specs.Walk.{EachFrom}
use Rattle.clk_num.specs.Listed.{Listed}
use Rattle.clk_machine.specs.Plan.{threads_of}
use Rattle.clk_lawful.specs.Checks.{listed}
use Rattle.clk_worker.specs.Making.{Hand, WentOn}
use Rattle.clk_watcher.specs.Making.{Hand as WatchHand, WentOn as WatchWentOn}
use Rattle.clk_threads.specs.Preparing.{watch_seat, IsPrepared}
use Rattle.clk_threads.specs.Workers.{IsOfSeats, all_there, IsOfWatch, IsWatcherOf}
use Rattle.clk_threads.specs.Parts.{shared_of, seats_of, watch_seats_of, runs_stable, IsOpenedFrom, CameAt, CameFrom, WatchCame}
use Rattle.clk_threads.specs.Ending.{IsOpened}
use Rattle.clk_threads.specs.PartsKept.{StandsAt, IsRunFrom}
use Rattle.clk_threads.specs.declared.prepared.Prepared.{Prepared}
use Rattle.clk_threads.specs.declared.running.Running.{Running}
use Rattle.clk_threads.proofs.Beginning.{fresh_worker}
use Rattle.clk_threads.proofs.Closing.{seen_as}
use Rattle.clk_threads.proofs.Leaving.{going_first}
use Rattle.clk_threads.proofs.Numbering.{each_of}
use Rattle.clk_threads.proofs.Opening.{is_some_by, seats_count}
use Rattle.clk_threads.proofs.WatchBeginning.{fresh_watch, watch_going}

-- ---- one slot

each_set : {A : Type 0} (P : ℕ → A → Type 0) (n : ℕ) (xs : List A) (k : ℕ) (y : A) → EachFrom P n xs → P (n + k) y → EachFrom P n (set xs k y)
each_set P n [] k y each here = tt
each_set P n (x ∷ xs) zero y each here = let e : n + 0 ≡ n = omega arith in (subst (λ (i : ℕ). P i y) e here, each.1)
each_set P n (x ∷ xs) (suc k) y each here =
    let e : n + suc k ≡ n + 1 + k = omega arith in
    (each.0, each_set P (n + 1) xs k y each.1 (subst (λ (i : ℕ). P i y) e here))

pub slot_low : (slots : List (Option Hand)) (k : ℕ) → is_some (get_or slots k None) ≡ true → k < length slots
slot_low [] k e = absurd (cc)
slot_low (x ∷ slots) zero e = omega arith
slot_low (x ∷ slots) (suc k) e = let rest = slot_low slots k e in omega (arith, rest)

pub run_set : (p : Prepared) (r : Running) (slots : Listed (Option Hand)) (k : ℕ) (slot : Option Hand) → IsRunFrom p r → slots.items ≡ set r.slots.items k slot
    → StandsAt p k slot → IsRunFrom p (record r { slots = slots })
run_set p r slots k slot o e stands =
    let on : k ≡ 0 + k = omega arith in
    record {
      prepared = o.prepared;
      shared = o.shared;
      count = ap length e ∙ length-set r.slots.items k slot ∙ o.count;
      slots = subst (EachFrom (StandsAt p) 0) (sym e) (each_set (StandsAt p) 0 r.slots.items k slot o.slots (subst (λ (i : ℕ). StandsAt p i slot) on stands));
      watcher = o.watcher;
      first = o.first;
      time = o.time;
      latches = o.latches;
      trace = o.trace;
    }

pub run_watch : (p : Prepared) (r : Running) (watcher : Option WatchHand) → IsRunFrom p r → All (WatchCame p) (listed watcher) → IsRunFrom p (record r { watcher = watcher })
run_watch p r watcher o came =
    record {
      prepared = o.prepared;
      shared = o.shared;
      count = o.count;
      slots = o.slots;
      watcher = came;
      first = o.first;
      time = o.time;
      latches = o.latches;
      trace = o.trace;
    }

pub none_stands : (p : Prepared) (k : ℕ) → StandsAt p k None
none_stands p k = All-nil (CameAt p k)

pub one_stands : (p : Prepared) (k : ℕ) (h : Hand) → CameAt p k h → StandsAt p k (Some h)
one_stands p k h came = All-cons (CameAt p k) h [] came (All-nil (CameAt p k))

pub watch_stands : (p : Prepared) (h : WatchHand) → WatchCame p h → All (WatchCame p) (listed (Some h))
watch_stands p h came = All-cons (WatchCame p) h [] came (All-nil (WatchCame p))

-- ---- whose it is

-- it stays so as it makes words, or checks
pub came_on : (p : Prepared) (k : ℕ) (v w : Hand) → CameAt p k v → WentOn (shared_of p) v w → CameAt p k w
came_on p k v w c went = record { first = c.first; given = c.given; going = went c.first c.going }

pub watch_came_on : (p : Prepared) (v w : WatchHand) → WatchCame p v → WatchWentOn (shared_of p) v w → WatchCame p w
watch_came_on p v w c went = record { first = c.first; given = c.given; going = went c.first c.going }

pub thread_is : (p : Prepared) (k : ℕ) (h : Hand) → CameAt p k h → h.post.thread ≡ k
thread_is p k h c = ap (λ x. x.thread) c.going.post ∙ ap (λ (x : Hand). x.post.thread) c.given.hand

came_from : (p : Prepared) (k : ℕ) (h : Hand) → k < length (threads_of p.machine) → CameAt p k h → CameFrom p h
came_from p k h low c =
    let is = thread_is p k h c in
    record { there = omega (arith, low, is); came = subst (λ (n : ℕ). CameAt p n h) (sym is) c }

pub came_here : (p : Prepared) (r : Running) (k : ℕ) (h : Hand) → IsRunFrom p r → get_or r.slots.items k None ≡ Some h → CameAt p k h
came_here p r k h o is =
    let low : k < length r.slots.items = slot_low r.slots.items k (ap is_some is) in
    let stands : StandsAt p k (Some h) = subst (StandsAt p k) is (each_of (StandsAt p) r.slots.items k None low o.slots) in
    All-head (CameAt p k) h [] stands

pub came_slot : (p : Prepared) (r : Running) (k : ℕ) (h : Hand) → IsRunFrom p r → get_or r.slots.items k None ≡ Some h → CameFrom p h
came_slot p r k h o is =
    let low : k < length r.slots.items = slot_low r.slots.items k (ap is_some is) in
    let count = o.count in
    came_from p k h (omega (arith, low, count)) (came_here p r k h o is)

-- ---- as it is opened

pub first_came : (p : Prepared) (ip : IsPrepared p.machine p) (n : ℕ) (hands : List Hand) → n + length hands ≤ length (threads_of p.machine)
    → EachFrom (IsOfSeats p.machine p.lists.adjusts.items p.sched_offset (seats_of p)) n hands → EachFrom (CameAt p) n hands
first_came p ip n [] few each = tt
first_came p ip n (h ∷ hands) few each =
    let low : n < length (threads_of p.machine) = omega (arith, few) in (
      record { first = h; given = each.0; going = going_first p ip n h low (fresh_worker p ip n h low each.0) },
      first_came p ip (n + 1) hands (omega (arith, few)) each.1,
    )

all_stand : (p : Prepared) (n : ℕ) (hands : List Hand) → EachFrom (CameAt p) n hands → EachFrom (StandsAt p) n (all_there hands)
all_stand p n [] each = tt
all_stand p n (h ∷ hands) each = (one_stands p n h each.0, all_stand p (n + 1) hands each.1)

pub watch_first_came : (p : Prepared) (ip : IsPrepared p.machine p) (watcher : Option WatchHand)
    → IsWatcherOf p.stamps.items p.sched_offset p.gtod_offset (runs_stable p) (watch_seats_of p) watcher → All (WatchCame p) (listed watcher)
watch_first_came p ip None w = All-nil (WatchCame p)
watch_first_came p ip (Some h) w =
    let is = All-head (IsOfWatch p.stamps.items p.sched_offset p.gtod_offset (runs_stable p) (watch_seats_of p)) h [] w.each in
    watch_stands p h (record { first = h; given = is; going = watch_going p ip is.parts h (fresh_watch p ip h is) })

watch_there : (p : Prepared) (ip : IsPrepared p.machine p) (watcher : Option WatchHand)
    → IsWatcherOf p.stamps.items p.sched_offset p.gtod_offset (runs_stable p) (watch_seats_of p) watcher → is_some watcher ≡ is_some p.machine.watchdog
watch_there p ip watcher w = w.there ∙ ap is_some ip.opened.watch ∙ is_some_by (is_some p.machine.watchdog) (watch_seat p.machine p.opened.words)

opened_count : (p : Prepared) (ip : IsPrepared p.machine p) (r : Running) → IsOpened p r → length r.slots.items ≡ length (threads_of p.machine)
opened_count p ip r o =
    ap length o.workers.there ∙ length-map o.workers.hands (λ (h : Hand). Some h) ∙ o.workers.of_seats.count ∙ seats_count p ip

pub opened_run : (p : Prepared) → IsPrepared p.machine p → (r : Running) → IsOpened p r → IsRunFrom p r
opened_run p ip r o =
    let hands : List Hand = o.workers.hands in
    let count = o.workers.of_seats.count ∙ seats_count p ip in
    record {
      prepared = ip;
      shared = o.shared;
      count = opened_count p ip r o;
      slots =
          subst (EachFrom (StandsAt p) 0) (sym o.workers.there)
          (all_stand p 0 hands (first_came p ip 0 hands (omega (arith, count)) o.workers.of_seats.each));
      watcher = watch_first_came p ip r.watcher o.watcher;
      first = o.first;
      time = o.time;
      latches = o.latches;
      trace = o.trace;
    }

pub opened_from : (p : Prepared) → IsPrepared p.machine p → (r : Running) → IsOpened p r → IsOpenedFrom p (seen_as p r)
opened_from p ip r o = record { prepared = refl; count = opened_count p ip r o; workers = o.workers; watcher = o.watcher; watched = watch_there p ip r.watcher o.watcher }
