-- No more steps than events and lifts.
use Rattle.std.proofs.Common.{◌≡◌, ℕ, ◌+◌, ◌*◌, ◌≤◌, not, nat_eq, List, [], ◌∷◌, length, length-append, Option, Some, None, refl, ap, ◌∙◌, arith}
use Rattle.std.specs.List.{All}
use Rattle.std.proofs.lemmas.List.Elements.{All-head, All-tail}
use Rattle.std.proofs.lemmas.List.{length-map}
use Rattle.std.proofs.lemmas.List.Filters.{length-filter_both}
use Rattle.clk_num.specs.Listed.{Listed}
use Rattle.clk_lawful.specs.Filling.{lines_on}
use Rattle.clk_lawful.specs.Standing.{lifts_by}
use Rattle.clk_lawful.specs.WordHistory.{Placed, steps_of_kind, steps_from, all_steps, placed_lift, lift_steps, steps_of, placed_on, line_of}
use Rattle.clk_lawful.specs.declared.event.Event.{Event}
use Rattle.clk_lawful.specs.declared.event.EventKind.{EventKind}
use Rattle.clk_lawful.specs.declared.event.EventKind.TheVariants.{Stable, Local, Couple, Stamp, Nothing, Update, Pause}
use Rattle.clk_lawful.specs.declared.trace.WatchTrace.{WatchTrace}
use Rattle.clk_lawful.specs.declared.trace.Trace.{Trace}

one_kind : (thread cpu call part : ℕ) (kind : EventKind) → length (steps_of_kind thread cpu call part kind) ≤ 1
one_kind thread cpu call part (Stable raw value) = omega arith
one_kind thread cpu call part (Local raw tick_raw tick_gtod offset old new) = omega arith
one_kind thread cpu call part (Couple asked own other word old new) = omega arith
one_kind thread cpu call part (Stamp gtod_ticket gtod raw) = omega arith
one_kind thread cpu call part Nothing = omega arith
one_kind thread cpu call part (Update p) = omega arith
one_kind thread cpu call part (Pause ticket count) = omega arith

pub few_steps : (thread cpu part : ℕ) (es : List Event) → length (steps_from thread cpu part es) ≤ length es
few_steps thread cpu part [] = omega arith
few_steps thread cpu part (e ∷ es) =
    let first = one_kind thread cpu e.call part e.kind in
    let others = few_steps thread cpu (part + 1) es in
    let both = length-append (steps_of_kind thread cpu e.call part e.kind) (steps_from thread cpu (part + 1) es) in
    omega (arith, first, others, both)

pub few_lines : (w : ℕ) (steps : List Placed) → length (lines_on w steps) ≤ length steps
few_lines w steps =
    let lines = length-map (placed_on w steps) line_of in
    let both = length-filter_both (λ (p : Placed). nat_eq p.step.word w) (λ p. not (nat_eq p.step.word w)) (λ p. refl) steps in
    omega (arith, lines, both)

-- of threads with so few events each
pub few_in_all : (k n : ℕ) (cpus : List ℕ) (threads : List (Listed Event)) → All (λ es. length es.items ≤ k) threads
    → length (all_steps n cpus threads) ≤ k * length threads
few_in_all k n [] threads few = omega arith
few_in_all k n (cpu ∷ cpus) [] few = omega arith
few_in_all k n (cpu ∷ cpus) (es ∷ threads) few =
    let Few : Listed Event → Type 0 = λ l. length l.items ≤ k in
    let here : length es.items ≤ k = All-head Few es threads few in
    let first = few_steps n cpu 0 es.items in
    let others = few_in_all k (n + 1) cpus threads (All-tail Few es threads few) in
    let both = length-append (steps_from n cpu 0 es.items) (all_steps (n + 1) cpus threads) in
    grind (arith, here, first, others, both)

-- the steps of all threads, and one for each lift
lift_count : (o : Option WatchTrace) → length (lift_steps o) ≡ length (lifts_by o)
lift_count None = refl
lift_count (Some w) = length-map w.lifts.items (placed_lift w.thread)

pub step_count : (t : Trace) → length (steps_of t) ≡ length (all_steps 0 t.cpu_of.items t.threads.items) + length (lifts_by t.watch)
step_count t =
    let steps : List Placed = all_steps 0 t.cpu_of.items t.threads.items in
    length-append steps (lift_steps t.watch) ∙ ap (λ (n : ℕ). length steps + n) (lift_count t.watch)
