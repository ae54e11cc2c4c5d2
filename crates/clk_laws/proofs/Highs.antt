-- No step of a lawful trace finds or leaves a word below its opening: the first line of a history rises from there, the
-- later ones are at least as high, and the histories show every step.
use Rattle.std.proofs.Common.{◌≡◌, ℕ, suc, ◌+◌, ℤ, pos, ◌≤ℤ◌, false, List, [], ◌∷◌, ◌++◌, map, filter, flat_map, length, Bool, ◌==◌, Option, Some, None, refl, sym, ap, ◌∙◌, subst, arith, All, IsSorted, int_cmp, nat_cmp, is_lt, Ordering, Less, Equal, Greater}
use Rattle.std.specs.List.{AllZip}
use Rattle.std.specs.Ordering.{ordering_then, bool_cmp}
use Rattle.std.proofs.lemmas.Int.{ints}
use Rattle.std.proofs.lemmas.Bool.Decides.{nat_tests}
use Rattle.std.proofs.lemmas.List.Elements.{All-nil, All-cons, All-head, All-tail, All-append, All-map, All-weaker, All-filter}
use Rattle.std.proofs.lemmas.List.Sorted.{All-permutation, IsPermutation-sym}
use Rattle.clk_base.specs.Chains.{IsChainBy}
use Rattle.clk_base.specs.Walk.{EachFrom}
use Rattle.clk_num.specs.Listed.{Listed}
use Rattle.clk_num.specs.Wrapping.{above, IsNotBelow}
use Rattle.clk_num.proofs.Heights.{above_same, raise_rises}
use Rattle.clk_machine.specs.Plan.{Plan}
use Rattle.clk_record.specs.declared.step.Step.{Step}
use Rattle.clk_record.specs.Targets.{target}
use Rattle.clk_lawful.specs.LawfulTrace.{IsLawful}
use Rattle.clk_lawful.specs.LegalHistory.{ReachesTarget, IsLegalHistory}
use Rattle.clk_lawful.specs.Lines.{Line, step_line}
use Rattle.clk_lawful.specs.Lines.Line.{Step as StepLine}
use Rattle.clk_lawful.specs.SeenBefore.{Seen, seen_at, shown_by_kind, stood_at, IsAboveSeen, NeverFalls}
use Rattle.clk_lawful.specs.Standing.{lifts_by}
use Rattle.clk_lawful.specs.WordHistory.{Placed, steps_of_kind, steps_from, all_steps, placed_lift, lift_steps, steps_of, placed_on, line_of, is_flat, history_cmp}
use Rattle.clk_lawful.specs.declared.event.Event.{Event}
use Rattle.clk_lawful.specs.declared.event.EventKind.{EventKind}
use Rattle.clk_lawful.specs.declared.event.EventKind.TheVariants.{Stable, Local, Couple, Stamp, Nothing, Update, Pause}
use Rattle.clk_lawful.specs.declared.trace.HistoryStep.{HistoryStep}
use Rattle.clk_lawful.specs.declared.trace.WatchTrace.{WatchTrace}
use Rattle.clk_lawful.specs.declared.trace.Trace.{Trace}
use Rattle.clk_laws.specs.Seeing.{found_by_kind}

-- not below the opening
abbrev pub IsHigh : ℤ → ℤ → Type 0
IsHigh o x = IsNotBelow x o

-- a step found and left a word there
pub record AreHigh (o old new : ℤ) : Type 0 where
  pub found : IsHigh o old
  pub left : IsHigh o new

-- ---- a sorted list of steps

then_first : (a b : Ordering) → is_lt (ordering_then a b) ≡ false → is_lt a ≡ false
then_first Less b e = e
then_first Equal b e = refl
then_first Greater b e = e

not_less : (x y : ℤ) → is_lt (int_cmp y x) ≡ false → x ≤ℤ y
not_less x y e = grind (arith, ints, nat_tests)

-- of two steps of which the second is not before the first, the second leaves the word as high
as_high : (o : ℤ) (a b : HistoryStep) → is_lt (history_cmp o b a) ≡ false → above a.new o ≤ℤ above b.new o
as_high o a b e =
    not_less
    (above a.new o)
    (above b.new o)
    (then_first
    _
    (bool_cmp (is_flat b) (is_flat a))
    (then_first _ (nat_cmp b.thread a.thread) (then_first _ (nat_cmp b.call a.call) (then_first _ (nat_cmp b.part a.part) (then_first _ (int_cmp b.old a.old) e)))))

sorted_tail : (o : ℤ) (s : HistoryStep) (ss : List HistoryStep) → IsSorted (history_cmp o) (s ∷ ss) → IsSorted (history_cmp o) ss
sorted_tail o s ss h k d low high = let e : suc k + 1 ≡ suc (k + 1) = omega arith in rw e at (h (suc k) d (omega arith) (omega (arith, high)))

sorted_high : (o : ℤ) (s : HistoryStep) (ss : List HistoryStep) → IsHigh o s.new → IsSorted (history_cmp o) (s ∷ ss) → All (λ x. IsHigh o x.new) (s ∷ ss)
sorted_high o s [] p h = All-cons (λ (x : HistoryStep). IsHigh o x.new) s [] p (All-nil (λ (x : HistoryStep). IsHigh o x.new))
sorted_high o s (next ∷ ss) p h =
    let up : above s.new o ≤ℤ above next.new o = as_high o s next (h 0 s (omega arith) (omega arith)) in
    let q : IsHigh o next.new = omega (arith, ints) in
    All-cons (λ (x : HistoryStep). IsHigh o x.new) s (next ∷ ss) p (sorted_high o next ss q (sorted_tail o s (next ∷ ss) h))

-- ---- the lines of a history

-- what a line shows of its word; another line shows nothing
abbrev old_in : Line → ℤ
old_in (StepLine thread call old new) = old
old_in _ = pos 0

abbrev new_in : Line → ℤ
new_in (StepLine thread call old new) = new
new_in _ = pos 0

abbrev IsHighLine : ℤ → Line → Type 0
IsHighLine o l = AreHigh o (old_in l) (new_in l)

abbrev IsHighStep : ℤ → HistoryStep → Type 0
IsHighStep o s = AreHigh o s.old s.new

-- what holds of each image
of_each : {A B : Type 0} (P : B → Type 0) (f : A → B) (xs : List A) → All P (map f xs) → All (λ x. P (f x)) xs
of_each {A} P f [] h = All-nil (λ (x : A). P (f x))
of_each {A} P f (x ∷ xs) h = All-cons (λ (y : A). P (f y)) x xs (All-head P (f x) (map f xs) h) (of_each P f xs (All-tail P (f x) (map f xs) h))

-- a chain from a high value whose items leave high values
chain_high : (o x : ℤ) (lines : List HistoryStep) → IsHigh o x → IsChainBy (λ s. s.old) (λ s. s.new) x lines → All (λ s. IsHigh o s.new) lines
    → All (IsHighStep o) lines
chain_high o x [] p chain h = All-nil (IsHighStep o)
chain_high o x (s ∷ lines) p chain h =
    let N : HistoryStep → Type 0 = λ l. IsHigh o l.new in
    let left = All-head N s lines h in
    let found : IsHigh o s.old = subst (IsHigh o) (sym chain.0) p in
    All-cons (IsHighStep o) s lines (record { found = found; left = left }) (chain_high o s.new lines left chain.1 (All-tail N s lines h))

-- the first of some lines, and of those that print the same, finds the opening
abbrev first_line : (x : Line) (xs : List Line) → Line
first_line x [] = x
first_line x (y ∷ ys) = y

rise_high : (o : ℤ) (lines ordered : List HistoryStep) → map step_line lines ≡ map step_line ordered → IsChainBy (λ s. s.old) (λ s. s.new) o lines
    → All (λ s. IsNotBelow s.new s.old) ordered → IsSorted (history_cmp o) ordered → All (λ s. IsHigh o s.new) ordered
rise_high o lines [] e chain rises h = All-nil (λ (s : HistoryStep). IsHigh o s.new)
rise_high o [] (s ∷ ordered) e chain rises h = absurd (let n : 0 ≡ suc (length (map step_line ordered)) = ap length e in omega arith)
rise_high o (l ∷ lines) (s ∷ ordered) e chain rises h =
    let same : l.old ≡ s.old = ap (λ (xs : List Line). old_in (first_line (step_line l) xs)) e in
    let opens : s.old ≡ o = sym same ∙ chain.0 in
    let up : IsNotBelow s.new s.old = All-head (λ (x : HistoryStep). IsNotBelow x.new x.old) s ordered rises in
    sorted_high o s ordered (subst (IsNotBelow s.new) opens up) h

step_rises : (tick : ℤ) (p : Placed) → ReachesTarget tick p → IsNotBelow p.step.new p.step.old
step_rises tick p h = subst (λ x. IsNotBelow x p.step.old) (sym h) (raise_rises p.step.old (target tick p.step.why))

opening_high : (o : ℤ) → IsHigh o o
opening_high o = let e = above_same o in omega (arith, ints)

history_high : (o : ℤ) (steps : List Placed) (lines : List HistoryStep) → All (λ p. IsNotBelow p.step.new p.step.old) steps → IsLegalHistory o steps lines
    → All (IsHighStep o) lines
history_high o steps lines rises h =
    let R : HistoryStep → Type 0 = λ s. IsNotBelow s.new s.old in
    let N : Line → Type 0 = λ l. IsHigh o (new_in l) in
    let all = All-permutation R (map line_of steps) h.ordered h.history.all (All-map R line_of steps rises) in
    let ordered = rise_high o lines h.ordered h.printed h.chain all h.history.sorted in
    let printed : All N (map step_line lines) = subst (All N) (sym h.printed) (All-map N step_line h.ordered ordered) in
    chain_high o o lines (opening_high o) h.chain (of_each N step_line lines printed)

-- ---- all steps

some_kept : {A : Type 0} (P : A → Type 0) (keep : A → Bool) (xs : List A) → All P xs → All P (filter keep xs)
some_kept P keep xs h = All-filter keep P xs h

histories_high : (o : ℤ) (steps : List Placed) (w : ℕ) (histories : List (Listed HistoryStep)) → All (λ p. IsNotBelow p.step.new p.step.old) steps
    → EachFrom (λ w lines. IsLegalHistory o (placed_on w steps) lines.items) w histories
    → All (IsHighLine o) (flat_map (λ lines. map step_line lines.items) histories)
histories_high o steps w [] rises h = All-nil (IsHighLine o)
histories_high o steps w (lines ∷ histories) rises h =
    let on : All (λ (p : Placed). IsNotBelow p.step.new p.step.old) (placed_on w steps) = some_kept (λ (p : Placed). IsNotBelow p.step.new p.step.old) (λ p. p.step.word == w) steps rises in
    All-append
    (IsHighLine o)
    (map step_line lines.items)
    (flat_map (λ (l : Listed HistoryStep). map step_line l.items) histories)
    (All-map (IsHighLine o) step_line lines.items (history_high o (placed_on w steps) lines.items on h.0))
    (histories_high o steps (w + 1) histories rises h.1)

abbrev IsHighPlaced : ℤ → Placed → Type 0
IsHighPlaced o p = AreHigh o p.step.old p.step.new

steps_high : (m : Plan) (t : Trace) → IsLawful m t → All (IsHighPlaced t.start_word) (steps_of t)
steps_high m t h =
    let o : ℤ = t.start_word in
    let steps : List Placed = steps_of t in
    let show : Placed → Line = λ p. step_line (line_of p) in
    let rises =
    All-weaker (ReachesTarget m.tick) (λ (p : Placed). IsNotBelow p.step.new p.step.old) (λ p reach. step_rises m.tick p reach) steps h.histories.targets in
    let lines = histories_high o steps 0 t.histories.items rises h.histories.words in
    let shown : List Line = flat_map (λ (l : Listed HistoryStep). map step_line l.items) t.histories.items in
    of_each (IsHighLine o) show steps (All-permutation (IsHighLine o) shown (map show steps) (IsPermutation-sym (map show steps) shown h.once) lines)

-- ---- back to the events

-- what an event found and showed
abbrev pub ShowsNoneBelow : ℤ → ℕ → EventKind → Type 0
ShowsNoneBelow o cpu k = All (λ x. IsHigh o x.value) (found_by_kind cpu k ++ shown_by_kind cpu k)

-- and all that a trace shows of the words
pub record HasNoneBelow (t : Trace) : Type 0 where
  pub lifts : All (λ s. IsHigh t.start_word s.new) (lifts_by t.watch)
  pub threads : AllZip (λ cpu es. All (λ e. ShowsNoneBelow t.start_word cpu e.kind) es.items) t.cpu_of.items t.threads.items

first_ones : {A : Type 0} (P : A → Type 0) (xs ys : List A) → All P (xs ++ ys) → All P xs
first_ones P [] ys h = All-nil P
first_ones P (x ∷ xs) ys h = All-cons P x xs (All-head P x (xs ++ ys) h) (first_ones P xs ys (All-tail P x (xs ++ ys) h))

last_ones : {A : Type 0} (P : A → Type 0) (xs ys : List A) → All P (xs ++ ys) → All P ys
last_ones P [] ys h = h
last_ones P (x ∷ xs) ys h = last_ones P xs ys (All-tail P x (xs ++ ys) h)

kind_high : (o : ℤ) (base : ℕ → ℤ) (seen : List Seen) (thread cpu call part : ℕ) (k : EventKind) → All (IsHighPlaced o) (steps_of_kind thread cpu call part k)
    → IsAboveSeen o base cpu seen k → ShowsNoneBelow o cpu k
kind_high o base seen thread cpu call part (Stable raw value) h found = All-nil (λ (x : Seen). IsHigh o x.value)
kind_high o base seen thread cpu call part (Local raw tick_raw tick_gtod offset old new) h found =
    let both : AreHigh o old new = All-head (IsHighPlaced o) _ [] h in
    let V : Seen → Type 0 = λ x. IsHigh o x.value in
    All-cons V (seen_at cpu old) (seen_at cpu new ∷ []) both.found (All-cons V (seen_at cpu new) [] both.left (All-nil V))
kind_high o base seen thread cpu call part (Couple asked own other word old new) h found =
    let both : AreHigh o old new = All-head (IsHighPlaced o) _ [] h in
    let V : Seen → Type 0 = λ x. IsHigh o x.value in
    let a : Seen = seen_at cpu own in
    let b : Seen = seen_at asked other in
    let c : Seen = seen_at word new in
    let first : IsHigh o own = found.0.over_opening in
    let second : IsHigh o other = found.1.over_opening in
    let shown = All-cons V a (b ∷ c ∷ []) first (All-cons V b (c ∷ []) second (All-cons V c [] both.left (All-nil V))) in
    let step = All-cons V (seen_at word old) (a ∷ b ∷ c ∷ []) both.found shown in
    All-cons V a (b ∷ seen_at word old ∷ a ∷ b ∷ c ∷ []) first (All-cons V b (seen_at word old ∷ a ∷ b ∷ c ∷ []) second step)
kind_high o base seen thread cpu call part (Stamp gtod_ticket gtod raw) h found = All-nil (λ (x : Seen). IsHigh o x.value)
kind_high o base seen thread cpu call part Nothing h found = All-nil (λ (x : Seen). IsHigh o x.value)
kind_high o base seen thread cpu call part (Update p) h found = All-nil (λ (x : Seen). IsHigh o x.value)
kind_high o base seen thread cpu call part (Pause ticket count) h found = All-nil (λ (x : Seen). IsHigh o x.value)

events_high : (o : ℤ) (base : ℕ → ℤ) (seen : List Seen) (thread cpu part : ℕ) (es : List Event) → All (IsHighPlaced o) (steps_from thread cpu part es)
    → NeverFalls o base cpu seen es → All (λ e. ShowsNoneBelow o cpu e.kind) es
events_high o base seen thread cpu part [] h found = All-nil (λ (e : Event). ShowsNoneBelow o cpu e.kind)
events_high o base seen thread cpu part (e ∷ es) h found =
    let here : List Placed = steps_of_kind thread cpu e.call part e.kind in
    let rest : List Placed = steps_from thread cpu (part + 1) es in
    All-cons
    (λ (f : Event). ShowsNoneBelow o cpu f.kind)
    e
    es
    (kind_high o base seen thread cpu e.call part e.kind (first_ones (IsHighPlaced o) here rest h) found.0)
    (events_high o base (seen ++ shown_by_kind cpu e.kind) thread cpu (part + 1) es (last_ones (IsHighPlaced o) here rest h) found.1)

threads_high : (o : ℤ) (base : ℕ → ℤ) (n : ℕ) (cpus : List ℕ) (threads : List (Listed Event)) → AllZip (λ cpu es. NeverFalls o base cpu [] es.items) cpus threads
    → All (IsHighPlaced o) (all_steps n cpus threads) → AllZip (λ cpu es. All (λ e. ShowsNoneBelow o cpu e.kind) es.items) cpus threads
threads_high o base n [] [] found h = tt
threads_high o base n [] (es ∷ threads) found h = absurd found
threads_high o base n (cpu ∷ cpus) [] found h = absurd found
threads_high o base n (cpu ∷ cpus) (es ∷ threads) found h =
    let here : List Placed = steps_from n cpu 0 es.items in
    let rest : List Placed = all_steps (n + 1) cpus threads in (
      events_high o base [] n cpu 0 es.items (first_ones (IsHighPlaced o) here rest h) found.0,
      threads_high o base (n + 1) cpus threads found.1 (last_ones (IsHighPlaced o) here rest h),
    )

lifts_high : (o : ℤ) (w : Option WatchTrace) → All (IsHighPlaced o) (lift_steps w) → All (λ s. IsHigh o s.new) (lifts_by w)
lifts_high o None h = All-nil (λ (s : Step). IsHigh o s.new)
lifts_high o (Some w) h =
    All-weaker
    (λ (s : Step). IsHighPlaced o (placed_lift w.thread s))
    (λ (s : Step). IsHigh o s.new)
    (λ s both. both.left)
    w.lifts.items
    (of_each (IsHighPlaced o) (placed_lift w.thread) w.lifts.items h)

pub none_below : (m : Plan) (t : Trace) → IsLawful m t → HasNoneBelow t
none_below m t h =
    let o : ℤ = t.start_word in
    let scripts : List Placed = all_steps 0 t.cpu_of.items t.threads.items in
    let all = steps_high m t h in
    record {
      lifts = lifts_high o t.watch (last_ones (IsHighPlaced o) scripts (lift_steps t.watch) all);
      threads = threads_high o (stood_at t) 0 t.cpu_of.items t.threads.items h.seen (first_ones (IsHighPlaced o) scripts (lift_steps t.watch) all);
    }
