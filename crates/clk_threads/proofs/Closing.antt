-- A run that was opened, run and closed is a run of its machine.
use Rattle.std.proofs.Common.{◌≡◌, ℕ, zero, suc, ◌+◌, ◌<◌, ◌≤◌, nat_eq, Bool, true, false, cond, not, ◌&&◌, ◌||◌, List, [], ◌∷◌, ◌++◌, map, length, get_or, Option, Some, None, inl, inr, refl, sym, ap, ◌∙◌, subst, arith, eq-eqb, append-nil}
use Rattle.std.specs.Prelude.{IsTrue, is_some, option_map, IfSome}
use Rattle.std.specs.List.{All, AllZip, flat_map, sum_by}
use Rattle.std.proofs.lemmas.Bool.{cases_lt}
use Rattle.std.proofs.lemmas.Bool.Decides.{nat_tests}
use Rattle.std.proofs.lemmas.Grind.{flat_map-append}
use Rattle.std.proofs.lemmas.List.{get_or-map, map-append}
use Rattle.std.proofs.lemmas.List.Elements.{All-nil, All-cons, All-head, All-tail, All-weaker}
use Rattle.std.proofs.lemmas.List.Sums.{sum_by-cons}
use Rattle.std.proofs.lemmas.Slice.Zip.{AllZip-long}
use mathlib.Core.List.{IsPrefix}
use Rattle.clk_base.specs.declared.block.Block.{Block}
use Rattle.clk_base.specs.Blocks.{Covers}
use Rattle.clk_base.specs.Walk.{EachFrom}
use Rattle.clk_base.proofs.Walks.{each_from}
use Rattle.clk_num.specs.Listed.{Listed}
use Rattle.clk_ticket.specs.Time.{Time, share_of}
use Rattle.clk_machine.specs.declared.reading.Published.{Published}
use Rattle.clk_machine.specs.Plan.{Plan, cpu_count, threads_of}
use Rattle.clk_record.specs.declared.mode.Mode.TheVariants.{Stable, PerCpu}
use Rattle.clk_record.specs.declared.step.Step.{Step}
use Rattle.clk_words.specs.declared.kind.SeatKind.TheVariants.{Watch}
use Rattle.clk_words.specs.declared.opening.Start.{Start}
use Rattle.clk_words.specs.declared.view.View.{View}
use Rattle.clk_words.specs.Calls.{IsComplete}
use Rattle.clk_words.specs.Fronts.{Begins}
use Rattle.clk_words.specs.Held.{Held, place_of}
use Rattle.clk_words.specs.Knowing.{HasAll}
use Rattle.clk_words.specs.Rights.{has_number}
use Rattle.clk_words.specs.Views.{own_lists, first_view, giver_view}
use Rattle.clk_words.proofs.Fronts.{begins_through}
use Rattle.clk_lawful.specs.Checks.{listed, demotion_blocks}
use Rattle.clk_lawful.specs.Filling.{FillsHistories}
use Rattle.clk_lawful.specs.Standing.{is_stable}
use Rattle.clk_lawful.specs.TicketOrder.{boot_blocks, up_blocks}
use Rattle.clk_lawful.specs.WritableWatch.{MayWriteWatch}
use Rattle.clk_lawful.specs.declared.event.Event.{Event}
use Rattle.clk_lawful.specs.declared.trace.HistoryStep.{HistoryStep}
use Rattle.clk_lawful.specs.declared.trace.Trace.{Trace}
use Rattle.clk_lawful.specs.declared.trace.WatchTrace.{WatchTrace}
use Rattle.clk_latch.specs.Epoch.{Epoch}
use Rattle.clk_latch.specs.Epoch.{Place as LatchPlace}
use Rattle.clk_demote.specs.Context.{Known as WatchKnown}
use Rattle.clk_demote.specs.Stamping.{epoch_at}
use Rattle.clk_demote.proofs.Zipping.{zip_at}
use Rattle.clk_worker.specs.declared.own.Own.{Own}
use Rattle.clk_worker.specs.declared.shared.Shared.{Shared}
use Rattle.clk_worker.specs.Making.{Hand, BelongsTo}
use Rattle.clk_watcher.specs.Checking.{HasWatched}
use Rattle.clk_watcher.specs.Making.{Hand as WatchHand, has as has_parts}
use Rattle.clk_watcher.specs.declared.parts.WatchParts.{WatchParts}
use Rattle.clk_threads.specs.Preparing.{start_of, gave, gave_threads, gave_all, lifts_room, no_steps, histories_below, watch_time, IsPrepared}
use Rattle.clk_threads.specs.Finishing.{Ran, RanWhole, KnowsNoMore, Watched, watch_site, WatchedWhole, IsRunOf}
use Rattle.clk_threads.specs.Workers.{IsOfSeats, AreOfSeats}
use Rattle.clk_threads.specs.Parts.{shared_of, seats_of, Parts, CameAt, HasMadeAll, AreBack}
use Rattle.clk_threads.specs.PartsKept.{StandsAt, IsRunFrom}
use Rattle.clk_threads.specs.Ending.{begun_trace, whole_trace, hands_in, MayJoin, MayJoinSlot, owns_of, all_together, HasGathered, FitLatches, RecordsBegin, IsOwnerLeft, AreOwnersLeft, parts_of, IsAtLatch, IsOwnerAt, FitWatch, WatchFollows, MayJoinWatch, HasGatheredWatch, MayClose, HasClosed}
use Rattle.clk_threads.specs.declared.prepared.Prepared.{Prepared}
use Rattle.clk_threads.specs.declared.run.Finished.{Finished}
use Rattle.clk_threads.specs.declared.running.Running.{Running}
use Rattle.clk_threads.proofs.Beginning.{fresh_worker}
use Rattle.clk_threads.proofs.Built.{built_count}
use Rattle.clk_threads.proofs.Following.{EndsOn, AreTogether, follow}
use Rattle.clk_threads.proofs.Gathering.{together_lists, together_made, known_through}
use Rattle.clk_threads.proofs.Giving.{gave_start, gave_made, owns_none}
use Rattle.clk_threads.proofs.LawfulLists.{threads_at}
use Rattle.clk_threads.proofs.Leaving.{HasLeft, going_first, has_left, ran_of, ran_whole, left_owns, rans_of, rans_count, rans_events, rans_each, rans_blocks, rans_all, rans_map, latches_fit, latches_count, latches_epochs, rans_join, rans_share, rans_lists, lists_from, lists_steps, lists_numbers}
use Rattle.clk_threads.proofs.Numbering.{each_of, cpu_low, cpus_few, threads_cover}
use Rattle.clk_threads.proofs.Opening.{seats_count}
use Rattle.clk_threads.proofs.Rooms.{FitsIn, fits_in, histories_built, may_fill}
use Rattle.clk_threads.proofs.WatchLeaving.{HasWatchLeft, watched_of, watch_is_given, watch_lists, watch_share, watch_records, watch_count, watch_parts, WatchLeft, watch_left, watched_by}
use Rattle.clk_threads.proofs.WatchRooms.{FewLifts, left_few, left_number}

-- ---- the workers, by number

-- what holds of each of so many holds of all
all_below : {A : Type 0} (c : ℕ) (P : ℕ → A → Type 0) (Q : A → Type 0) → ((k : ℕ) (x : A) → k < c → P k x → Q x) → (n : ℕ) (xs : List A) → n + length xs ≤ c
    → EachFrom P n xs → All Q xs
all_below c P Q f n [] few each = All-nil Q
all_below c P Q f n (x ∷ xs) few each = All-cons Q x xs (f n x (omega (arith, few)) each.0) (all_below c P Q f (n + 1) xs (omega (arith, few)) each.1)

pub belong : (p : Prepared) (ip : IsPrepared p.machine p) (hands : List Hand) → AreOfSeats p.machine p.lists.adjusts.items p.sched_offset (seats_of p) hands
    → All (BelongsTo (shared_of p)) hands
belong p ip hands w =
    let count = w.count ∙ seats_count p ip in
    all_below (length (threads_of p.machine)) (IsOfSeats p.machine p.lists.adjusts.items p.sched_offset (seats_of p)) (BelongsTo (shared_of p))
    (λ k h low is. (h, going_first p ip k h low (fresh_worker p ip k h low is)))
    0
    hands
    (omega (arith, count))
    w.each

-- the workers in their slots, which are the run's own and made their scripts
slots_left : (p : Prepared) (ip : IsPrepared p.machine p) (n : ℕ) (slots : List (Option Hand)) → n + length slots ≤ length (threads_of p.machine)
    → EachFrom (StandsAt p) n slots → All (HasMadeAll (shared_of p)) slots → EachFrom (HasLeft p ip.booted) n (hands_in slots)
slots_left p ip n [] few each all = tt
slots_left p ip n (x ∷ slots) few each all =
    let made : HasMadeAll (shared_of p) x = All-head (HasMadeAll (shared_of p)) x slots all in
    let h : Hand = made.0 in
    let stands : StandsAt p n (Some h) = subst (StandsAt p n) made.1 each.0 in
    let came : CameAt p n h = All-head (CameAt p n) h [] stands in
    let low : n < length (threads_of p.machine) = omega (arith, few) in
    subst (λ (y : Option Hand). EachFrom (HasLeft p ip.booted) n (listed y ++ hands_in slots)) (sym made.1) (
      has_left p ip n came.first h (fresh_worker p ip n came.first low came.given) came.going made.2,
      slots_left p ip (n + 1) slots (omega (arith, few)) each.1 (All-tail (HasMadeAll (shared_of p)) x slots all),
    )

slots_count : (s : Shared) (slots : List (Option Hand)) → All (HasMadeAll s) slots → length (hands_in slots) ≡ length slots
slots_count s [] all = refl
slots_count s (x ∷ slots) all =
    let made : HasMadeAll s x = All-head (HasMadeAll s) x slots all in
    let rest = slots_count s slots (All-tail (HasMadeAll s) x slots all) in
    let one = ap (λ (y : Option Hand). length (listed y ++ hands_in slots)) made.1 in
    omega (arith, rest, one)

slots_join : (s : Shared) (slots : List (Option Hand)) → All (HasMadeAll s) slots → All (MayJoin s) (hands_in slots) → All (MayJoinSlot s) slots
slots_join s [] all joins = All-nil (MayJoinSlot s)
slots_join s (x ∷ slots) all joins =
    let made : HasMadeAll s x = All-head (HasMadeAll s) x slots all in
    let there : All (MayJoin s) (made.0 ∷ hands_in slots) = subst (λ (y : Option Hand). All (MayJoin s) (listed y ++ hands_in slots)) made.1 joins in
    All-cons (MayJoinSlot s) x slots (made.0, made.1, All-head (MayJoin s) made.0 (hands_in slots) there)
    (slots_join s slots (All-tail (HasMadeAll s) x slots all) (All-tail (MayJoin s) made.0 (hands_in slots) there))

-- ---- the run, whose workers made their scripts, and whose watcher its checks

abbrev pub run_of : Prepared → Listed (Option Hand) → Option WatchHand → Running
run_of p slots watcher = record {
  shared = shared_of p;
  slots = slots;
  watcher = watcher;
  first = p.opened.first;
  time = p.time;
  latches = p.lists.latches;
  trace = begun_trace p;
}

-- the workers that are there
abbrev hands_of : Listed (Option Hand) → Listed Hand
hands_of slots = record { items = hands_in slots.items; room = slots.room }

run_is : (p : Prepared) (r : Running) → IsRunFrom p r → r ≡ run_of p r.slots r.watcher
run_is p r o =
    ap (λ (x : Shared). record { shared = x; slots = r.slots; watcher = r.watcher; first = r.first; time = r.time; latches = r.latches; trace = r.trace }) o.shared
    ∙ ap (λ (x : Held). record { shared = shared_of p; slots = r.slots; watcher = r.watcher; first = x; time = r.time; latches = r.latches; trace = r.trace }) o.first
    ∙ ap (λ (x : Time). record { shared = shared_of p; slots = r.slots; watcher = r.watcher; first = p.opened.first; time = x; latches = r.latches; trace = r.trace }) o.time
    ∙ ap (λ (x : Listed LatchPlace). record { shared = shared_of p; slots = r.slots; watcher = r.watcher; first = p.opened.first; time = p.time; latches = x; trace = r.trace }) o.latches
    ∙ ap (λ (x : Trace). record { shared = shared_of p; slots = r.slots; watcher = r.watcher; first = p.opened.first; time = p.time; latches = p.lists.latches; trace = x }) o.trace

-- the workers made their scripts, and the watcher its checks
pub record HaveLeft (p : Prepared) (booted : Time) (after : List Hand) (watcher : Option WatchHand) : Type 0 where
  pub count : length after ≡ length (threads_of p.machine)
  pub each : EachFrom (HasLeft p booted) 0 after
  pub watch : WatchLeft p booted watcher

-- the seats and the events of all workers were gathered, and then those of the watcher
abbrev Gathered : Prepared → Listed Hand → Held → Time → Listed (Listed Event) → Listed LatchPlace → Type 0
Gathered p after first time kept seats = HasGathered (shared_of p) after.items p.opened.first p.time p.lists.threads p.lists.latches first time kept seats

kept_are : (p : Prepared) (ip : IsPrepared p.machine p) (after : Listed Hand) (first : Held) (time : Time) (kept : Listed (Listed Event)) (seats : Listed LatchPlace)
    → Gathered p after first time kept seats → kept.items ≡ map (λ (h : Hand). h.events) after.items
kept_are p ip after first time kept seats g =
    g.events ∙ ap (λ (l : Listed (Listed Event)). l.items ++ map (λ (h : Hand). h.events) after.items) ip.lists.threads

latches_are : (p : Prepared) (ip : IsPrepared p.machine p) (after : Listed Hand) (first : Held) (time : Time) (kept : Listed (Listed Event)) (seats : Listed LatchPlace)
    → Gathered p after first time kept seats → seats.items ≡ map (λ (o : Own). o.latch_seat) (owns_of after.items)
latches_are p ip after first time kept seats g =
    g.seats_are ∙ ap (λ (l : Listed LatchPlace). l.items ++ map (λ (o : Own). o.latch_seat) (owns_of after.items)) ip.lists.latches

-- ---- the own lists: first that of the seat that gave the others, which made no step

gave_lists : (m : Plan) (n : ℕ) (v : View) → own_lists (gave m n v) ≡ own_lists v
gave_lists m zero v = refl
gave_lists m (suc n) v = gave_lists m n v

gave_all_lists : (m : Plan) (start : Start) → own_lists (gave_all m start) ≡ (0, []) ∷ []
gave_all_lists m start = at (is_some m.watchdog)
  where
    at : (b : Bool) → own_lists (cond b (giver_view Watch (gave_threads m start)) (gave_threads m start)) ≡ (0, []) ∷ []
    at true = gave_lists m (length (threads_of m)) (first_view start)
    at false = gave_lists m (length (threads_of m)) (first_view start)

gave_all_made : (m : Plan) (start : Start) → (gave_all m start).made ≡ 1 + length (threads_of m) + cond (is_some m.watchdog) 1 0
gave_all_made m start = at (is_some m.watchdog)
  where
    made : (gave_threads m start).made ≡ 1 + length (threads_of m)
    made = gave_made m (length (threads_of m)) (first_view start)

    at : (b : Bool) → (cond b (giver_view Watch (gave_threads m start)) (gave_threads m start)).made ≡ 1 + length (threads_of m) + cond b 1 0
    at true = omega (arith, made)
    at false = omega (arith, made)

gave_all_owns : (m : Plan) (start : Start) → (gave_all m start).pairs.owns ≡ (gave_threads m start).pairs.owns
gave_all_owns m start = at (is_some m.watchdog)
  where
    at : (b : Bool) → (cond b (giver_view Watch (gave_threads m start)) (gave_threads m start)).pairs.owns ≡ (gave_threads m start).pairs.owns
    at true = refl
    at false = refl

gave_all_start : (m : Plan) (start : Start) → (gave_all m start).start ≡ start
gave_all_start m start = at (is_some m.watchdog)
  where
    at : (b : Bool) → (cond b (giver_view Watch (gave_threads m start)) (gave_threads m start)).start ≡ start
    at true = gave_start m (length (threads_of m)) (first_view start)
    at false = gave_start m (length (threads_of m)) (first_view start)

first_lists : (p : Prepared) (ip : IsPrepared p.machine p) (after : Listed Hand) (each : EachFrom (HasLeft p ip.booted) 0 after.items)
    → (first : Held) (time : Time) (kept : Listed (Listed Event)) (seats : Listed LatchPlace) → Gathered p after first time kept seats
    → own_lists first.view ≡ (0, []) ∷ lists_from 0 (rans_of p ip.booted 0 after.items each)
first_lists p ip after each first time kept seats g =
    let views : List View = map (λ (o : Own). o.seat.view) (owns_of after.items) in
    let own : own_lists p.opened.first.view ≡ (0, []) ∷ [] =
    ap (λ (h : Held). own_lists h.view) ip.opened.first ∙ gave_all_lists p.machine p.opened.words.start in
    ap own_lists g.view_is ∙ together_lists p.opened.first.view views
    ∙ ap (λ (xs : List (ℕ × List Step)). xs ++ flat_map own_lists views) own
    ∙ ap (λ (xs : List (ℕ × List Step)). (0, []) ∷ xs) (rans_lists p ip 0 after.items each)

-- the watchdog's own list, if there is a watchdog
abbrev pub watch_list : Plan → Option Watched → List (ℕ × List Step)
watch_list m None = []
watch_list m (Some w) = (length (threads_of m) + 1, w.ended.view.mine) ∷ []

parts_lists : (p : Prepared) (ip : IsPrepared p.machine p) (watcher : Option WatchHand) (l : WatchLeft p ip.booted watcher)
    → flat_map own_lists (map (λ (x : WatchParts). x.seat.view) (parts_of watcher)) ≡ watch_list p.machine (watched_by p ip.booted watcher l)
parts_lists p ip None l = refl
parts_lists p ip (Some h) l =
    ap (λ (ps : List WatchParts). flat_map own_lists (map (λ (x : WatchParts). x.seat.view) ps)) (watch_parts p ip.booted h l)
    ∙ append-nil (own_lists l.ended.seat.view) ∙ watch_lists p ip h l

-- all that was joined
pub record JoinedAll (p : Prepared) (booted : Time) (after : Listed Hand) (watcher : Option WatchHand) (first : Held) (time : Time) (kept : Listed (Listed Event))
    (seats : Listed LatchPlace) (owners : List LatchPlace) (whole : Held) (drawn : Time) (watch : Option WatchTrace) : Type 0 where
  pub left : HaveLeft p booted after.items watcher
  pub threads : Gathered p after first time kept seats
  pub owners_left : AreOwnersLeft (shared_of p) seats.items owners
  pub watchdog : HasGatheredWatch (shared_of p) watcher owners first time whole drawn watch

whole_lists : (p : Prepared) (ip : IsPrepared p.machine p) (after : Listed Hand) (watcher : Option WatchHand) (first : Held) (time : Time) (kept : Listed (Listed Event))
    → (seats : Listed LatchPlace) (owners : List LatchPlace) (whole : Held) (drawn : Time) (watch : Option WatchTrace)
    → (j : JoinedAll p ip.booted after watcher first time kept seats owners whole drawn watch)
    → own_lists whole.view ≡ ((0, []) ∷ lists_from 0 (rans_of p ip.booted 0 after.items j.left.each)) ++ watch_list p.machine (watched_by p ip.booted watcher j.left.watch)
whole_lists p ip after watcher first time kept seats owners whole drawn watch j =
    let views : List View = map (λ (x : WatchParts). x.seat.view) (parts_of watcher) in
    ap own_lists j.watchdog.view_is ∙ together_lists first.view views
    ∙ ap (λ (xs : List (ℕ × List Step)). xs ++ flat_map own_lists views) (first_lists p ip after j.left.each first time kept seats j.threads)
    ∙ ap (λ (xs : List (ℕ × List Step)). ((0, []) ∷ lists_from 0 (rans_of p ip.booted 0 after.items j.left.each)) ++ xs) (parts_lists p ip watcher j.left.watch)

number_first : (rans : List Ran) (k : ℕ) → k < length rans + 1 → IsTrue (has_number (map (λ (own : ℕ × List Step). own.0) ((0, []) ∷ lists_from 0 rans)) k)
number_first rans zero low = refl
number_first rans (suc k) low =
    let other : nat_eq 0 (suc k) ≡ false = grind (arith, nat_tests) in rw other (lists_numbers (suc k) 0 rans (omega arith) (omega (arith, low)))

-- a number that is in either list is in both together
has_either : (xs ys : List ℕ) (n : ℕ) → IsTrue (has_number xs n) → IsTrue (has_number (xs ++ ys) n)
has_either [] ys n h = absurd (cc)
has_either (x ∷ xs) ys n h = at (nat_eq x n) h (λ rest. has_either xs ys n rest)
  where
    at : (b : Bool) → IsTrue (b || has_number xs n) → (IsTrue (has_number xs n) → IsTrue (has_number (xs ++ ys) n)) → IsTrue (b || has_number (xs ++ ys) n)
    at true t rest = refl
    at false t rest = rest t

has_second : (xs ys : List ℕ) (n : ℕ) → IsTrue (has_number ys n) → IsTrue (has_number (xs ++ ys) n)
has_second [] ys n h = h
has_second (x ∷ xs) ys n h = at (nat_eq x n) (has_second xs ys n h)
  where
    at : (b : Bool) → IsTrue (has_number (xs ++ ys) n) → IsTrue (b || has_number (xs ++ ys) n)
    at true rest = refl
    at false rest = rest

number_there : (m : Plan) (rans : List Ran) (watched : Option Watched) (k : ℕ) → length rans ≡ length (threads_of m) → k < 1 + length rans + cond (is_some watched) 1 0
    → IsTrue (has_number (map (λ (own : ℕ × List Step). own.0) (((0, []) ∷ lists_from 0 rans) ++ watch_list m watched)) k)
number_there m rans watched k count low =
    subst (λ (ns : List ℕ). IsTrue (has_number ns k)) (sym (map-append Number ((0, []) ∷ lists_from 0 rans) (watch_list m watched)))
    (elim (cases_lt k (length rans + 1)) [
      | inl there ↦ has_either (map Number ((0, []) ∷ lists_from 0 rans)) (map Number (watch_list m watched)) k (number_first rans k there)
      | inr past ↦ has_second (map Number ((0, []) ∷ lists_from 0 rans)) (map Number (watch_list m watched)) k (last watched low past)
    ])
  where
    Number : ℕ × List Step → ℕ
    Number own = own.0

    last : (w : Option Watched) → k < 1 + length rans + cond (is_some w) 1 0 → length rans + 1 ≤ k → IsTrue (has_number (map Number (watch_list m w)) k)
    last None few past = absurd (omega (arith, few, past))
    last (Some w) few past =
        let same : nat_eq (length (threads_of m) + 1) k ≡ true = eq-eqb (length (threads_of m) + 1) k (omega (arith, few, past, count)) in
        rw same refl

watched_there : (p : Prepared) (booted : Time) (watcher : Option WatchHand) (l : WatchLeft p booted watcher) → is_some (watched_by p booted watcher l) ≡ is_some p.machine.watchdog
watched_there p booted None l = sym l
watched_there p booted (Some h) l = sym l.fresh.there

-- ---- it may be closed

each_fits : (p : Prepared) (ip : IsPrepared p.machine p) (n : ℕ) (hands : List Hand) → n + length hands ≤ length (threads_of p.machine)
    → EachFrom (HasLeft p ip.booted) n hands → EachFrom (FitsIn p.machine) n (map (λ (h : Hand). h.events) hands)
each_fits p ip n [] few each = tt
each_fits p ip n (h ∷ hands) few each =
    (fits_in p ip n h (omega (arith, few)) each.0, each_fits p ip (n + 1) hands (omega (arith, few)) each.1)

events_count : (hands : List Hand) → length (map (λ (h : Hand). h.events) hands) ≡ length hands
events_count [] = refl
events_count (h ∷ hands) = let rest = events_count hands in omega (arith, rest)

-- the latch seats may be joined
fit_latches : (p : Prepared) (ip : IsPrepared p.machine p) (after : List Hand) → length after ≡ length (threads_of p.machine) → EachFrom (HasLeft p ip.booted) 0 after
    → FitLatches (shared_of p) (map (λ (o : Own). o.latch_seat) (owns_of after))
fit_latches p ip after count each =
    record { limits = ip.limits; latches = ip.latches.latches; count = latches_count p ip.booted 0 after each ∙ count; each = latches_fit p ip.booted 0 after each }

-- the watchdog's too, with those of the owners
at_latch : (s : Shared) (owners seats : List LatchPlace) → AreOwnersLeft s seats owners → length s.epochs.items ≡ cpu_count s.machine → EachFrom (IsOwnerAt s) 0 owners
at_latch s owners seats h all =
    each_from (IsOwnerAt s) 0 owners (λ k d low.
    let e : k ≡ 0 + k = omega arith in
    let o : IsOwnerLeft s seats k (get_or owners k d) = each_of (IsOwnerLeft s seats) owners k d low h.each in
    subst (λ (i : ℕ). IsOwnerAt s i (get_or owners k d)) e (o.latch, o.owner))

watch_at : (s : Shared) (watch : List LatchPlace) → AllZip (λ l (x : LatchPlace). x.latch ≡ l) s.epochs.items watch → EachFrom (IsAtLatch s) 0 watch
watch_at s watch zip =
    each_from (IsAtLatch s) 0 watch (λ k d low.
    let e : k ≡ 0 + k = omega arith in
    let seat : LatchPlace = get_or watch k d in
    let same = AllZip-long (λ l (x : LatchPlace). x.latch ≡ l) s.epochs.items watch zip in
    let is : seat.latch ≡ get_or s.epochs.items k seat.latch =
    zip_at (λ l (x : LatchPlace). x.latch ≡ l) s.epochs.items watch k seat.latch d zip (omega (arith, low, same)) in
    subst (λ (i : ℕ). IsAtLatch s i seat) e is)

fit_watch : (p : Prepared) (ip : IsPrepared p.machine p) (h : WatchHand) (l : HasWatchLeft p ip.booted h) (owners seats : List LatchPlace)
    → AreOwnersLeft (shared_of p) seats owners → FitWatch (shared_of p) owners l.ended.latch_seats.items
fit_watch p ip h l owners seats o =
    let all = ip.latches.latches in
    let same = AllZip-long (λ e (x : LatchPlace). x.latch ≡ e) p.latches.epochs.items l.ended.latch_seats.items l.serves.of_latches in
    let count = o.count in
    record {
      latches = omega (arith, count, all);
      count = omega (arith, same, count, all);
      owners_fit = at_latch (shared_of p) owners seats o all;
      watch_fit = watch_at (shared_of p) l.ended.latch_seats.items l.serves.of_latches;
    }

joins_watch : (p : Prepared) (ip : IsPrepared p.machine p) (watcher : Option WatchHand) (l : WatchLeft p ip.booted watcher) (owners seats : List LatchPlace)
    → AreOwnersLeft (shared_of p) seats owners → All (MayJoinWatch (shared_of p) owners) (parts_of watcher)
joins_watch p ip None l owners seats o = All-nil (MayJoinWatch (shared_of p) owners)
joins_watch p ip (Some h) l owners seats o =
    let May : WatchParts → Type 0 = MayJoinWatch (shared_of p) owners in
    subst (All May) (sym (watch_parts p ip.booted h l))
    (All-cons May l.ended [] (record { words = l.serves.of_words; tickets = l.serves.of_tickets; latches = fit_watch p ip h l owners seats o }) (All-nil May))

-- the shares of the watchdog's seats are those that they were given
shares_watch : (p : Prepared) (ip : IsPrepared p.machine p) (watcher : Option WatchHand) (l : WatchLeft p ip.booted watcher)
    → sum_by (λ (x : WatchParts). share_of x.time) (parts_of watcher) ≡ sum_by share_of (listed p.watch_time)
shares_watch p ip None l =
    ap (λ (o : Option Time). sum_by share_of (listed o)) (sym (ip.watch_time ∙ ap (λ (b : Bool). cond b (Some (watch_time p.machine ip.booted)) None) l))
shares_watch p ip (Some h) l =
    let given = ip.watch_time ∙ ap (λ (b : Bool). cond b (Some (watch_time p.machine ip.booted)) None) l.fresh.there in
    let one = sum_by-cons (λ (x : WatchParts). share_of x.time) l.ended [] in
    let other = sum_by-cons share_of (watch_time p.machine ip.booted) [] in
    let same = watch_share p ip h l in
    let here = ap (sum_by (λ (x : WatchParts). share_of x.time)) (watch_parts p ip.booted h l) in
    let there = ap (λ (o : Option Time). sum_by share_of (listed o)) given in
    omega (arith, one, other, same, here, there)

has_all : (p : Prepared) (ip : IsPrepared p.machine p) (after : Listed Hand) (watcher : Option WatchHand) (first : Held) (time : Time) (kept : Listed (Listed Event))
    → (seats : Listed LatchPlace) (owners : List LatchPlace) (whole : Held) (drawn : Time) (watch : Option WatchTrace)
    → JoinedAll p ip.booted after watcher first time kept seats owners whole drawn watch → HasAll whole.view
has_all p ip after watcher first time kept seats owners whole drawn watch j =
    let m : Plan = p.machine in
    let each = j.left.each in
    let rans : List Ran = rans_of p ip.booted 0 after.items each in
    let watched : Option Watched = watched_by p ip.booted watcher j.left.watch in
    let many : length rans ≡ length (threads_of m) = rans_count p ip.booted 0 after.items each ∙ j.left.count in
    let made : p.opened.first.view.made ≡ 1 + length (threads_of m) + cond (is_some m.watchdog) 1 0 =
    ap (λ (h : Held). h.view.made) ip.opened.first ∙ gave_all_made m p.opened.words.start in
    let views : List View = map (λ (o : Own). o.seat.view) (owns_of after.items) in
    let joined : first.view.made ≡ p.opened.first.view.made =
    ap (λ (v : View). v.made) j.threads.view_is ∙ together_made p.opened.first.view views (omega (arith, made)) in
    let all : whole.view.made ≡ first.view.made =
    ap (λ (v : View). v.made) j.watchdog.view_is
    ∙ together_made first.view (map (λ (x : WatchParts). x.seat.view) (parts_of watcher)) (omega (arith, made, joined)) in
    let lists = whole_lists p ip after watcher first time kept seats owners whole drawn watch j in
    let flag : Bool → ℕ = λ b. cond b 1 0 in
    let there : flag (is_some watched) ≡ flag (is_some m.watchdog) = ap flag (watched_there p ip.booted watcher j.left.watch) in
    record {
      first = omega (arith, made, joined, all);
      each = λ k low.
          subst (λ (xs : List (ℕ × List Step)). IsTrue (has_number (map (λ (own : ℕ × List Step). own.0) xs) k)) (sym lists)
          (number_there m rans watched k many (omega (arith, low, made, joined, all, many, there)));
    }

may_close : (p : Prepared) (ip : IsPrepared p.machine p) (slots : Listed (Option Hand)) (watcher : Option WatchHand) → All (HasMadeAll (shared_of p)) slots.items
    → HaveLeft p ip.booted (hands_in slots.items) watcher → MayClose (run_of p slots watcher)
may_close p ip slots watcher made left =
    let m : Plan = p.machine in
    let after : Listed Hand = hands_of slots in
    let all = slots_count (shared_of p) slots.items made in
    let start = p.opened.words.start in
    let count = left.count in
    let each = left.each in
    let room = ap (λ (l : Listed (Listed Event)). l.room) ip.lists.threads in
    let latches_room = ap (λ (l : Listed LatchPlace). l.room) ip.lists.latches in
    let fits = each_fits p ip 0 after.items (omega (arith, count)) each in
    let shares = rans_share p ip.booted 0 after.items (threads_of m) count each (threads_at m) in
    let given = ap (sum_by share_of) ip.times in
    let watch_shares = shares_watch p ip watcher left.watch in
    let total = ip.share in
    let many = events_count after.items in
    record {
      gather = record {
        first_own = ap place_of ip.opened.first ∙ ap (λ (s : Start). record { table = p.opened.words.table; start = s }) (gave_all_start m start);
        time_own = ap (λ (t : Time). t.table) ip.time ∙ ip.drawn.table;
        workers = slots_join (shared_of p) slots.items made (rans_join p ip.booted 0 after.items each);
        room = omega (arith, count, all, room);
        latches_room = omega (arith, count, all, latches_room);
      };
      latches = λ first time kept seats g.
          subst (FitLatches (shared_of p)) (sym (latches_are p ip after first time kept seats g)) (fit_latches p ip after.items count each);
      watch = λ first time kept seats owners g o.
          record { first_own = g.whole_own; time_own = g.drawn_own; watch = joins_watch p ip watcher left.watch owners seats.items o };
      whole = λ first time kept seats owners whole drawn watch a.
          let j : JoinedAll p ip.booted after watcher first time kept seats owners whole drawn watch =
          record { left = left; threads = a.threads; owners_left = a.owners_left; watchdog = a.watchdog } in
          let kept_is = kept_are p ip after first time kept seats a.threads in
          let thread_share = a.threads.share in
          let share = a.watchdog.share in
          let kept_by = a.watchdog.kept_is in
          record {
            all = has_all p ip after watcher first time kept seats owners whole drawn watch j;
            share = omega (arith, share, thread_share, shares, given, watch_shares, total);
            fill = λ tickets.
                may_fill p ip kept watch tickets (ap length kept_is ∙ many ∙ count) (subst (EachFrom (FitsIn m) 0) (sym kept_is) fits)
                (subst (FewLifts (cpu_count m) (lifts_room m)) (sym kept_by) (left_few p ip.booted watcher left.watch))
                (subst (λ (w : Option WatchTrace). IfSome w (λ x. length (threads_of m) ≤ x.thread)) (sym kept_by) (left_number p ip.booted watcher left.watch));
          };
    }

-- ---- it is a run of the machine

-- what each thread has at its end
ends_on : (p : Prepared) (booted : Time) (thread : ℕ) (h : Hand) → (l : HasLeft p booted thread h) → EndsOn p.machine thread (ran_of p booted thread h l)
ends_on p booted thread h l = record { owns = left_owns p booted thread h l }

together : (p : Prepared) (ip : IsPrepared p.machine p) (after : Listed Hand) → length after.items ≡ length (threads_of p.machine)
    → (each : EachFrom (HasLeft p ip.booted) 0 after.items) → (first : Held) (time : Time) (kept : Listed (Listed Event)) (seats : Listed LatchPlace)
    → Gathered p after first time kept seats → EachFrom (RecordsBegin p.machine seats.items) 0 seats.items
    → AreTogether p.machine p.opened.first.view first.view seats.items (rans_of p ip.booted 0 after.items each)
together p ip after count each first time kept seats g records =
    let m : Plan = p.machine in
    let n : ℕ = length (threads_of m) in
    let rans : List Ran = rans_of p ip.booted 0 after.items each in
    let many : length rans ≡ length after.items = rans_count p ip.booted 0 after.items each in
    let seats_are = latches_are p ip after first time kept seats g in
    let start = p.opened.words.start in
    record {
      limits = ip.limits;
      count = many ∙ count;
      ends = rans_each p ip.booted (EndsOn m) n (λ k h low l. ends_on p ip.booted k h l) 0 after.items (omega (arith, count)) each;
      free = λ cpu low.
          ap (λ (h : Held). has_number h.view.pairs.owns cpu) ip.opened.first
          ∙ ap (λ (ns : List ℕ). has_number ns cpu) (gave_all_owns m start) ∙ owns_none m n cpu (first_view start) (cpu_low m cpu low) low;
      is = g.view_is ∙ ap (all_together p.opened.first.view) (rans_map p ip.booted (λ k. k.view) 0 after.items each);
      known = rans_all p ip.booted (λ k. KnowsNoMore k.view first.view) 0 after.items each g.known;
      many = ap length seats_are ∙ latches_count p ip.booted 0 after.items each ∙ sym many;
      epochs = ap (map (λ (s : LatchPlace). s.epoch)) seats_are ∙ latches_epochs p ip.booted 0 after.items each;
      records = records;
    }

-- what holds of the watchdog's parts holds of what it had at its end
watch_all : (p : Prepared) (booted : Time) (P : WatchKnown → Type 0) (watcher : Option WatchHand) (l : WatchLeft p booted watcher)
    → All (λ (x : WatchParts). P (has_parts x)) (parts_of watcher) → All (λ (w : Watched). P w.ended) (listed (watched_by p booted watcher l))
watch_all p booted P None l all = All-nil (λ (w : Watched). P w.ended)
watch_all p booted P (Some h) l all =
    let Q : WatchParts → Type 0 = λ x. P (has_parts x) in
    let here : All Q (l.ended ∷ []) = subst (All Q) (watch_parts p booted h l) all in
    All-cons (λ (w : Watched). P w.ended) (watched_of p booted h l) [] (All-head Q l.ended [] here) (All-nil (λ (w : Watched). P w.ended))

watch_blocks_are : (p : Prepared) (booted : Time) (watcher : Option WatchHand) (l : WatchLeft p booted watcher)
    → flat_map (λ (x : WatchParts). x.time.blocks) (parts_of watcher) ≡ flat_map (λ (w : Watched). w.ended.time.blocks) (listed (watched_by p booted watcher l))
watch_blocks_are p booted None l = refl
watch_blocks_are p booted (Some h) l = ap (flat_map (λ (x : WatchParts). x.time.blocks)) (watch_parts p booted h l)

watch_steps : (m : Plan) (watched : Option Watched)
    → flat_map (λ (own : ℕ × List Step). own.1) (watch_list m watched) ≡ flat_map (λ (w : Watched). w.ended.view.mine) (listed watched)
watch_steps m None = refl
watch_steps m (Some w) = refl

watch_kept : (p : Prepared) (booted : Time) (watcher : Option WatchHand) (l : WatchLeft p booted watcher)
    → option_map (λ (h : WatchHand). h.trace) watcher ≡ option_map (λ (w : Watched). w.kept) (watched_by p booted watcher l)
watch_kept p booted None l = refl
watch_kept p booted (Some h) l = refl

kept_there : (p : Prepared) (booted : Time) (watcher : Option WatchHand) (l : WatchLeft p booted watcher)
    → is_some (option_map (λ (h : WatchHand). h.trace) watcher) ≡ is_some p.machine.watchdog
kept_there p booted None l = sym l
kept_there p booted (Some h) l = sym l.fresh.there

-- what the watchdog saw of the records of each CPU
follows_each : (p : Prepared) (ip : IsPrepared p.machine p) (h : WatchHand) (l : HasWatchLeft p ip.booted h) (seats : List LatchPlace) (owners : List LatchPlace) (rans : List Ran)
    → AreOwnersLeft (shared_of p) seats owners → length seats ≡ length rans → cpu_count p.machine ≤ length rans
    → map (λ (s : LatchPlace). s.epoch) seats ≡ map (λ (r : Ran). r.ended.epoch) rans → EachFrom (WatchFollows owners) 0 l.ended.latch_seats.items
    → (cpu : ℕ) (d : Ran) → cpu < cpu_count p.machine
    → IsPrefix (epoch_at (map (λ (s : LatchPlace). s.epoch) l.ended.latch_seats.items) cpu).records (get_or rans cpu d).ended.epoch.records
follows_each p ip h l seats owners rans o many cover same each cpu d low =
    let EpochAt : LatchPlace → Epoch = λ x. x.epoch in
    let EpochOf : Ran → Epoch = λ x. x.ended.epoch in
    let none : Epoch = record { owner = false; left = 0; records = []; begins = [] } in
    let place : LatchPlace = record { latch = p.opened.words.table; epoch = none } in
    let all = ip.latches.latches in
    let long = AllZip-long (λ e (x : LatchPlace). x.latch ≡ e) p.latches.epochs.items l.ended.latch_seats.items l.serves.of_latches in
    let here : cpu < length l.ended.latch_seats.items = omega (arith, low, all, long) in
    let count = o.count in
    let own : cpu < length owners = omega (arith, low, count) in
    let within : cpu < length rans = omega (arith, low, cover) in
    let seat : LatchPlace = get_or l.ended.latch_seats.items cpu place in
    let begins : IsPrefix seat.epoch.records (get_or owners cpu place).epoch.records =
    each_of (WatchFollows owners) l.ended.latch_seats.items cpu place here each place in
    let left : IsOwnerLeft (shared_of p) seats cpu (get_or owners cpu place) = each_of (IsOwnerLeft (shared_of p) seats) owners cpu place own o.each in
    let ran : (get_or seats cpu place).epoch ≡ (get_or rans cpu d).ended.epoch =
    sym (get_or-map EpochAt seats cpu place none (omega (arith, within, many)))
    ∙ ap (λ (es : List Epoch). get_or es cpu none) same ∙ get_or-map EpochOf rans cpu d none within in
    let at : epoch_at (map EpochAt l.ended.latch_seats.items) cpu ≡ seat.epoch = get_or-map EpochAt l.ended.latch_seats.items cpu place none here in
    subst (λ (e : Epoch). IsPrefix e.records (get_or rans cpu d).ended.epoch.records) (sym at)
    (subst (IsPrefix seat.epoch.records) (left.records place ∙ ap (λ (e : Epoch). e.records) ran) begins)

-- the start was stable as the scripts began if the trace says so
stable_is : (a b : Bool) → (is_stable (cond a Stable PerCpu) && b) ≡ (a && b)
stable_is true b = refl
stable_is false b = refl

watched_whole : (p : Prepared) (ip : IsPrepared p.machine p) (watcher : Option WatchHand) (l : WatchLeft p ip.booted watcher) (seats : List LatchPlace) (owners : List LatchPlace)
    → (rans : List Ran) → AreOwnersLeft (shared_of p) seats owners → length seats ≡ length rans → cpu_count p.machine ≤ length rans
    → map (λ (s : LatchPlace). s.epoch) seats ≡ map (λ (r : Ran). r.ended.epoch) rans
    → All (λ (x : WatchParts). EachFrom (WatchFollows owners) 0 x.latch_seats.items) (parts_of watcher)
    → All (WatchedWhole p.machine p.stamps.items p.up (start_of p.machine p.stamps.items p.boot_demotion)
    (is_stable (cond p.machine.stable Stable PerCpu) && not (is_some p.boot_demotion)) ip.booted.seen rans) (listed (watched_by p ip.booted watcher l))
watched_whole p ip None l seats owners rans o many cover same all =
    All-nil (WatchedWhole p.machine p.stamps.items p.up (start_of p.machine p.stamps.items p.boot_demotion)
    (is_stable (cond p.machine.stable Stable PerCpu) && not (is_some p.boot_demotion)) ip.booted.seen rans)
watched_whole p ip (Some h) l seats owners rans o many cover same all =
    let stable : Bool = is_stable (cond p.machine.stable Stable PerCpu) && not (is_some p.boot_demotion) in
    let Whole : Watched → Type 0 = WatchedWhole p.machine p.stamps.items p.up (start_of p.machine p.stamps.items p.boot_demotion) stable ip.booted.seen rans in
    let Follows : WatchParts → Type 0 = λ x. EachFrom (WatchFollows owners) 0 x.latch_seats.items in
    let follows : Follows l.ended = All-head Follows l.ended [] (subst (All Follows) (watch_parts p ip.booted h l) all) in
    let seen = ap (λ (t : Time). t.seen) l.fresh.time in
    All-cons Whole (watched_of p ip.booted h l) []
    (record {
      given = watch_is_given p ip h l;
      records = watch_records p ip h l;
      latches = watch_count p ip h l;
      blocks = ap (λ (t : Time). t.blocks) l.fresh.time;
      later = omega (arith, seen);
      offset = l.fresh.gtod_offset_is;
      last = l.fresh.last;
      watched =
          subst (λ (b : Bool). HasWatched (watch_site p.machine p.stamps.items p.up.cpus.items) b p.up.failed (has_parts l.began) h.trace (has_parts l.ended))
          (sym (stable_is p.machine.stable (not (is_some p.boot_demotion)))) l.watched;
      follow = λ cpu d low. follows_each p ip h l seats owners rans o many cover same follows cpu d low;
    })
    (All-nil Whole)

run_at : (p : Prepared) (ip : IsPrepared p.machine p) (after : Listed Hand) (watcher : Option WatchHand) (first : Held) (time : Time) (kept : Listed (Listed Event))
    → (seats : Listed LatchPlace) (owners : List LatchPlace) (whole : Held) (drawn : Time) (watch : Option WatchTrace)
    → (j : JoinedAll p ip.booted after watcher first time kept seats owners whole drawn watch) → EachFrom (RecordsBegin p.machine seats.items) 0 seats.items
    → (tickets : ℕ) (histories : Listed (Listed HistoryStep)) (closed : List Step) → IsComplete p.opened.words.start whole.view closed → Covers drawn.blocks tickets
    → FillsHistories (whole_trace (begun_trace p) kept watch tickets) (record (whole_trace (begun_trace p) kept watch tickets) { histories = histories })
    → IsRunOf p.machine (record (whole_trace (begun_trace p) kept watch tickets) { histories = histories }) closed
run_at p ip after watcher first time kept seats owners whole drawn watch j records tickets histories closed complete covers fills =
    let m : Plan = p.machine in
    let start : Start = start_of m p.stamps.items p.boot_demotion in
    let count = j.left.count in
    let each = j.left.each in
    let rans : List Ran = rans_of p ip.booted 0 after.items each in
    let watched : Option Watched = watched_by p ip.booted watcher j.left.watch in
    let n : ℕ = length (threads_of m) in
    let ran_count : length rans ≡ n = rans_count p ip.booted 0 after.items each ∙ count in
    let all_joined = together p ip after count each first time kept seats j.threads records in
    let Seen : List Step → Own → Type 0 = λ history o. Begins o.seat.view.seen history in
    let SeenWatch : List Step → WatchParts → Type 0 = λ history x. Begins x.seat.view.seen history in
    let through : (o : Own) → Begins o.seat.view.seen first.view.seen → Begins o.seat.view.seen whole.view.seen = λ o b.
    begins_through o.seat.view.seen first.view.seen whole.view.seen b j.watchdog.first_seen in
    let seen : All (Seen whole.view.seen) (owns_of after.items) =
    All-weaker (Seen first.view.seen) (Seen whole.view.seen) through (owns_of after.items) j.threads.seen in
    let Known : View → Own → Type 0 = λ v o. KnowsNoMore o.seat.view v in
    let known : All (Known whole.view) (owns_of after.items) =
    All-weaker (Known first.view) (Known whole.view) (λ o k. known_through o.seat.view first.view whole.view k j.watchdog.first_known) (owns_of after.items) j.threads.known in
    let before : List Block = boot_blocks 0 p.stamps.items ++ up_blocks p.up.cpus.items ++ flat_map demotion_blocks (listed p.boot_demotion) in
    let threads_drawn : time.blocks ≡ before ++ flat_map (λ (r : Ran). r.ended.time.blocks) rans =
    j.threads.blocks
    ∙ ap (λ (bs : List Block). bs ++ flat_map (λ (o : Own). o.time.blocks) (owns_of after.items)) (ap (λ (t : Time). t.blocks) ip.time ∙ ip.drawn.blocks)
    ∙ ap (λ (bs : List Block). before ++ bs) (rans_blocks p ip.booted 0 after.items each) in
    let blocks : drawn.blocks
    ≡ (before ++ flat_map (λ (r : Ran). r.ended.time.blocks) rans) ++ flat_map (λ (w : Watched). w.ended.time.blocks) (listed watched) =
    j.watchdog.blocks
    ∙ ap (λ (bs : List Block). bs ++ flat_map (λ (x : WatchParts). x.time.blocks) (parts_of watcher)) threads_drawn
    ∙ ap (λ (bs : List Block). (before ++ flat_map (λ (r : Ran). r.ended.time.blocks) rans) ++ bs) (watch_blocks_are p ip.booted watcher j.left.watch) in
    let cover = threads_cover m in
    record {
      limits = ip.limits;
      stamps = ip.stamps;
      demotion = ip.demotion;
      tickets = p.tickets;
      booted = ip.booted;
      drawn = ip.drawn;
      rans = rans;
      count = ran_count;
      each = rans_each p ip.booted (RanWhole m p.stamps.items p.up.cpus.items start ip.booted.seen) n (λ k h low l. ran_whole p ip k h l) 0 after.items (omega (arith, count)) each;
      follow = follow m p.opened.first.view first.view seats.items rans all_joined;
      watched = watched;
      watch_is = j.watchdog.kept_is ∙ watch_kept p ip.booted watcher j.left.watch;
      watch_there = ap is_some j.watchdog.kept_is ∙ kept_there p ip.booted watcher j.left.watch;
      watch =
          watched_whole p ip watcher j.left.watch seats.items owners rans j.owners_left all_joined.many (omega (arith, cover, ran_count)) all_joined.epochs j.watchdog.follow;
      joined = whole.view;
      complete = subst (λ (s : Start). IsComplete s whole.view closed) ip.opened.start complete;
      steps =
          ap (flat_map (λ (own : ℕ × List Step). own.1)) (whole_lists p ip after watcher first time kept seats owners whole drawn watch j)
          ∙ flat_map-append (λ (own : ℕ × List Step). own.1) ((0, []) ∷ lists_from 0 rans) (watch_list m watched)
          ∙ ap (λ (xs : List Step). xs ++ flat_map (λ (own : ℕ × List Step). own.1) (watch_list m watched)) (lists_steps 0 rans)
          ∙ ap (λ (xs : List Step). flat_map (λ (r : Ran). r.ended.view.mine) rans ++ xs) (watch_steps m watched);
      begins =
          rans_all p ip.booted (λ k. Begins k.view.seen closed) 0 after.items each
          (subst (λ (history : List Step). All (Seen history) (owns_of after.items)) (sym complete.is) seen);
      watch_begins =
          watch_all p ip.booted (λ k. Begins k.view.seen closed) watcher j.left.watch
          (subst (λ (history : List Step). All (SeenWatch history) (parts_of watcher)) (sym complete.is) j.watchdog.seen);
      known = rans_all p ip.booted (λ k. KnowsNoMore k.view whole.view) 0 after.items each known;
      watch_known = watch_all p ip.booted (λ k. KnowsNoMore k.view whole.view) watcher j.left.watch j.watchdog.known;
      covers = subst (λ (bs : List Block). Covers bs tickets) blocks covers;
      epoch_ticket = ap (λ (e : Published). e.ticket) ip.epoch;
      epoch_cyc = ap (λ (e : Published). e.cyc) ip.epoch;
      starts = refl;
      sched_offset = ip.sched_offset;
      gtod_offset = ip.gtod_offset;
      ups = ip.up;
      start_word = refl;
      cpu_of = ip.lists.cpu_of;
      threads = kept_are p ip after first time kept seats j.threads ∙ rans_events p ip.booted 0 after.items each;
      before = whole_trace (begun_trace p) kept watch tickets;
      fills = fills;
      words = fills.count ∙ ap length ip.lists.histories ∙ built_count (histories_below m) (no_steps m) (histories_built m) (cpu_count m);
    }

is_run : (p : Prepared) (ip : IsPrepared p.machine p) (slots : Listed (Option Hand)) (watcher : Option WatchHand) → HaveLeft p ip.booted (hands_in slots.items) watcher
    → (f : Finished) → HasClosed (run_of p slots watcher) f → IsRunOf p.machine f.trace f.closed.history
is_run p ip slots watcher left f c =
    let after : Listed Hand = hands_of slots in
    let before : Trace = whole_trace (begun_trace p) c.kept c.watch f.trace.tickets in
    let rest = c.fills.rest in
    subst (λ (t : Trace). IsRunOf p.machine t f.closed.history) (sym rest)
    (run_at p ip after watcher c.first c.time c.kept c.seats c.owners c.whole c.drawn c.watch
    (record { left = left; threads = c.gathered.threads; owners_left = c.gathered.owners_left; watchdog = c.gathered.watchdog })
    c.follow f.trace.tickets f.trace.histories f.closed.history c.complete c.covers
    (subst (FillsHistories before) rest c.fills))

-- ---- once all are back

-- what contracts see of it
abbrev pub seen_as : Prepared → Running → Parts
seen_as p r = record { prepared = p; slots = r.slots.items; watcher = r.watcher }

have_left : (p : Prepared) (r : Running) → (o : IsRunFrom p r) → AreBack (seen_as p r) → HaveLeft p o.prepared.booted (hands_in r.slots.items) r.watcher
have_left p r o back =
    let count = o.count in
    record {
      count = slots_count (shared_of p) r.slots.items back.workers ∙ count;
      each = slots_left p o.prepared 0 r.slots.items (omega (arith, count)) o.slots back.workers;
      watch = watch_left p o.prepared r.watcher back.watcher o.watcher back.checks;
    }

pub closes : (p : Prepared) (r : Running) → IsRunFrom p r → AreBack (seen_as p r) → MayClose r
closes p r o back = subst MayClose (sym (run_is p r o)) (may_close p o.prepared r.slots r.watcher back.workers (have_left p r o back))

pub ends : (p : Prepared) (r : Running) → IsRunFrom p r → AreBack (seen_as p r) → (f : Finished) → HasClosed r f → IsRunOf p.machine f.trace f.closed.history
ends p r o back f closed =
    is_run p o.prepared r.slots r.watcher (have_left p r o back) f (subst (λ (x : Running). HasClosed x f) (run_is p r o) closed)

-- the watchdog's part of the trace may be written
sized : (p : Prepared) (booted : Time) (watcher : Option WatchHand) (l : WatchLeft p booted watcher) (cpus : ℕ) → 0 < cpus
    → MayWriteWatch cpus (option_map (λ (h : WatchHand). h.trace) watcher)
sized p booted None l cpus some = tt
sized p booted (Some h) l cpus some = (some, l.watched.sized)

pub writable : (p : Prepared) (r : Running) → IsRunFrom p r → AreBack (seen_as p r) → (f : Finished) → HasClosed r f
    → MayWriteWatch (length f.trace.histories.items) f.trace.watch
writable p r o back f closed =
    let left = have_left p r o back in
    let words = (ends p r o back f closed).words in
    let some = (cpus_few p.machine o.prepared.limits).0 in
    let is = ap (λ (t : Trace). t.watch) closed.fills.rest ∙ closed.gathered.watchdog.kept_is in
    subst (MayWriteWatch (length f.trace.histories.items)) (sym is)
    (sized p o.prepared.booted r.watcher left.watch (length f.trace.histories.items) (omega (arith, words, some)))
