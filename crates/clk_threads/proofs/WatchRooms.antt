-- The lifts of the watchdog: one of each word, or none.
use Rattle.std.proofs.Common.{◌≡◌, ℕ, zero, suc, ◌+◌, ◌<◌, ◌≤◌, ℤ, Bool, true, false, cond, nat_eq, List, [], ◌∷◌, map, length, Option, Some, None, refl, sym, ap, ap₂, ◌∙◌, subst, arith, length-append}
use Rattle.std.specs.Prelude.{option_map, IfSome}
use Rattle.std.specs.List.{All, IsDistinct}
use Rattle.std.proofs.lemmas.Bool.Decides.{nat_tests}
use Rattle.std.proofs.lemmas.List.{map-append}
use Rattle.std.proofs.lemmas.List.Elements.{All-nil, All-cons, All-append, filter-append}
use Rattle.std.proofs.lemmas.Map.Keys.{IsDistinct-from_apart}
use Rattle.clk_ticket.specs.Time.{Time}
use Rattle.clk_machine.specs.Plan.{cpu_count, threads_of}
use Rattle.clk_record.specs.declared.step.Step.{Step}
use Rattle.clk_record.specs.declared.stable.Demotion.{Demotion}
use Rattle.clk_words.specs.declared.opening.Start.{Start}
use Rattle.clk_lawful.specs.Standing.{lifts_by}
use Rattle.clk_lawful.specs.WordHistory.{Placed, placed_lift, lift_steps, placed_on}
use Rattle.clk_lawful.specs.declared.trace.WatchTrace.{WatchTrace}
use Rattle.clk_demote.specs.Lifts.{lift_of, lifts_of}
use Rattle.clk_watcher.specs.Checking.{KeepsLifts}
use Rattle.clk_watcher.specs.Making.{has}
use Rattle.clk_watcher.specs.Making.{Hand as WatchHand}
use Rattle.clk_threads.specs.Preparing.{lifts_room}
use Rattle.clk_threads.specs.Finishing.{watch_site}
use Rattle.clk_threads.specs.declared.prepared.Prepared.{Prepared}
use Rattle.clk_threads.proofs.Built.{IsBuilt, built_count, built_at}
use Rattle.clk_threads.proofs.WatchLeaving.{WatchLeft}

-- there are few lifts: on words below n, none twice, and at most so many on each
pub record FewLifts (n cap : ℕ) (watch : Option WatchTrace) : Type 0 where
  pub below : All (λ s. s.word < n) (lifts_by watch)
  pub once : IsDistinct nat_eq (map (λ s. s.word) (lifts_by watch))
  pub few : (w : ℕ) → length (placed_on w (lift_steps watch)) ≤ cap

-- ---- one of each word

lifts_below : (c by check : ℕ) (start : Start) (opening : ℤ) (n : ℕ) → n ≤ c → All (λ (s : Step). s.word < c) (lifts_of by start check opening n)
lifts_below c by check start opening zero low = All-nil (λ (s : Step). s.word < c)
lifts_below c by check start opening (suc n) low =
    let Below : Step → Type 0 = λ s. s.word < c in
    All-append Below (lifts_of by start check opening n) (lift_of by start check opening n ∷ []) (lifts_below c by check start opening n (omega (arith, low)))
    (All-cons Below (lift_of by start check opening n) [] (omega (arith, low)) (All-nil Below))

abbrev words_in : (by check : ℕ) (start : Start) (opening : ℤ) → ℕ → List ℕ
words_in by check start opening n = map (λ (s : Step). s.word) (lifts_of by start check opening n)

words_built : (by check : ℕ) (start : Start) (opening : ℤ) → IsBuilt (words_in by check start opening) (λ n. n)
words_built by check start opening = record {
  none = refl;
  more = λ n. map-append (λ (s : Step). s.word) (lifts_of by start check opening n) (lift_of by start check opening n ∷ []);
}

lifts_once : (by check : ℕ) (start : Start) (opening : ℤ) (n : ℕ) → IsDistinct nat_eq (words_in by check start opening n)
lifts_once by check start opening n =
    let built = words_built by check start opening in
    let count = built_count (words_in by check start opening) (λ k. k) built n in
    IsDistinct-from_apart nat_eq (words_in by check start opening n) (λ i j d lower low.
    let below : j < n = omega (arith, low, count) in
    let first = built_at (words_in by check start opening) (λ k. k) built n i d (omega (arith, lower, below)) in
    let second = built_at (words_in by check start opening) (λ k. k) built n j d below in
    let apart : nat_eq i j ≡ false = grind (arith, nat_tests) in
    ap₂ nat_eq first second ∙ apart)

abbrev placed : ℕ → List Step → List Placed
placed thread steps = map (placed_lift thread) steps

on_next : (w thread by check : ℕ) (start : Start) (opening : ℤ) (n : ℕ)
    → length (placed_on w (placed thread (lifts_of by start check opening (suc n))))
    ≡ length (placed_on w (placed thread (lifts_of by start check opening n))) + length (placed_on w (placed thread (lift_of by start check opening n ∷ [])))
on_next w thread by check start opening n =
    let before : List Step = lifts_of by start check opening n in
    let one : List Step = lift_of by start check opening n ∷ [] in
    ap (λ (ps : List Placed). length (placed_on w ps)) (map-append (placed_lift thread) before one)
    ∙ ap length (filter-append (λ (p : Placed). nat_eq p.step.word w) (placed thread before) (placed thread one))
    ∙ length-append (placed_on w (placed thread before)) (placed_on w (placed thread one))

on_one : (w thread by check : ℕ) (start : Start) (opening : ℤ) (n : ℕ)
    → length (placed_on w (placed thread (lift_of by start check opening n ∷ []))) ≡ cond (nat_eq n w) 1 0
on_one w thread by check start opening n = at (nat_eq n w)
  where
    at : (b : Bool) → length (cond b (placed_lift thread (lift_of by start check opening n) ∷ []) []) ≡ cond b 1 0
    at true = refl
    at false = refl

on_none : (w thread by check : ℕ) (start : Start) (opening : ℤ) (n : ℕ) → n ≤ w → length (placed_on w (placed thread (lifts_of by start check opening n))) ≡ 0
on_none w thread by check start opening zero low = refl
on_none w thread by check start opening (suc n) low =
    let other : nat_eq n w ≡ false = grind (arith, nat_tests) in
    let here = on_one w thread by check start opening n ∙ ap (λ (b : Bool). cond b 1 0) other in
    let before = on_none w thread by check start opening n (omega (arith, low)) in
    let next = on_next w thread by check start opening n in
    omega (arith, here, before, next)

on_few : (w thread by check : ℕ) (start : Start) (opening : ℤ) (n : ℕ) → length (placed_on w (placed thread (lifts_of by start check opening n))) ≤ 1
on_few w thread by check start opening zero = omega arith
on_few w thread by check start opening (suc n) = at (nat_eq n w) refl (on_few w thread by check start opening n)
  where
    one : length (placed_on w (placed thread (lift_of by start check opening n ∷ []))) ≡ cond (nat_eq n w) 1 0
    one = on_one w thread by check start opening n

    next : length (placed_on w (placed thread (lifts_of by start check opening (suc n))))
        ≡ length (placed_on w (placed thread (lifts_of by start check opening n))) + length (placed_on w (placed thread (lift_of by start check opening n ∷ [])))
    next = on_next w thread by check start opening n

    flag : Bool → ℕ
    flag b = cond b 1 0

    at : (b : Bool) → nat_eq n w ≡ b → length (placed_on w (placed thread (lifts_of by start check opening n))) ≤ 1
        → length (placed_on w (placed thread (lifts_of by start check opening (suc n)))) ≤ 1
    at true e before =
        let low : n ≤ w = grind (arith, nat_tests) in
        let none = on_none w thread by check start opening n low in
        let here : length (placed_on w (placed thread (lift_of by start check opening n ∷ []))) ≡ 1 = one ∙ ap flag e in
        omega (arith, none, next, here)
    at false e before =
        let here : length (placed_on w (placed thread (lift_of by start check opening n ∷ []))) ≡ 0 = one ∙ ap flag e in
        omega (arith, before, next, here)

-- ---- those of the run's watchdog

no_lifts : (n cap thread : ℕ) (steps : List Step) → steps ≡ []
    → All (λ (s : Step). s.word < n) steps × IsDistinct nat_eq (map (λ (s : Step). s.word) steps) × ((w : ℕ) → length (placed_on w (placed thread steps)) ≤ cap)
no_lifts n cap thread steps none =
    subst (λ (xs : List Step).
    All (λ (s : Step). s.word < n) xs × IsDistinct nat_eq (map (λ (s : Step). s.word) xs) × ((w : ℕ) → length (placed_on w (placed thread xs)) ≤ cap)) (sym none)
    (All-nil (λ (s : Step). s.word < n), IsDistinct-from_apart nat_eq [] (λ i j d lower low. absurd (omega (arith, low))), λ w. omega arith)

pub left_few : (p : Prepared) (booted : Time) (watcher : Option WatchHand) → WatchLeft p booted watcher
    → FewLifts (cpu_count p.machine) (lifts_room p.machine) (option_map (λ (h : WatchHand). h.trace) watcher)
left_few p booted None l =
    let h = no_lifts (cpu_count p.machine) (lifts_room p.machine) 0 [] refl in
    record { below = h.0; once = h.1; few = λ w. omega arith }
left_few p booted (Some h) l = at h.trace.demotion l.watched.lifts
  where
    room : lifts_room p.machine ≡ 1
    room = ap (λ (b : Bool). cond b 1 0) l.fresh.there

    at : (o : Option Demotion) → KeepsLifts (watch_site p.machine p.stamps.items p.up.cpus.items) (has l.began) h.trace o
        → FewLifts (cpu_count p.machine) (lifts_room p.machine) (Some h.trace)
    at None k =
        let few = no_lifts (cpu_count p.machine) (lifts_room p.machine) h.trace.thread h.trace.lifts.items k.0 in
        record { below = few.0; once = few.1; few = few.2 }
    at (Some d) k =
        let n : ℕ = cpu_count p.machine in
        let by : ℕ = l.began.seat.view.number in
        let start : Start = l.began.seat.view.start in
        let check : ℕ = h.trace.demoted_in in
        record {
          below = subst (All (λ (s : Step). s.word < n)) (sym k) (lifts_below n by check start d.opening n (omega arith));
          once = subst (λ (xs : List Step). IsDistinct nat_eq (map (λ (s : Step). s.word) xs)) (sym k) (lifts_once by check start d.opening n);
          few = λ w.
              subst (λ (xs : List Step). length (placed_on w (placed h.trace.thread xs)) ≤ lifts_room p.machine) (sym k)
              (let one = on_few w h.trace.thread by check start d.opening n in omega (arith, one, room));
        }

-- its number is the one after those of all threads
pub left_number : (p : Prepared) (booted : Time) (watcher : Option WatchHand) → WatchLeft p booted watcher
    → IfSome (option_map (λ (h : WatchHand). h.trace) watcher) (λ w. length (threads_of p.machine) ≤ w.thread)
left_number p booted None l = tt
left_number p booted (Some h) l = let thread = l.watched.checks.thread in omega (arith, thread)
