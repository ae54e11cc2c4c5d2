-- Lists that gain lines, part after part.
use Rattle.std.proofs.Common.{◌≡◌, ℕ, ◌+◌, ◌<◌, ◌≤◌, ℤ, Bool, true, false, cond, nat_eq, List, [], ◌∷◌, ◌++◌, map, length, get_or, set, take, get_or-set_same, get_or-set_other, ◌≢◌, ◌⊎◌, inl, inr, drop, drop-cons, add-one, refl, sym, ◌∙◌, ap, subst, arith, append_assoc, append-nil, length-append, suc}
use Rattle.std.proofs.Math.Seq.{take-append_seam}
use Rattle.std.proofs.lemmas.List.{map-append, get_or_default}
use Rattle.std.specs.List.{refill}
use Rattle.std.proofs.lemmas.List.Elements.{filter-append}
use Rattle.clk_num.specs.Listed.{Listed}
use Rattle.clk_record.specs.declared.step.Step.{Step}
use Rattle.clk_lawful.specs.Filling.{lines_on, Gained, HasRoomFor, Sorts}
use Rattle.clk_lawful.specs.WordHistory.{Placed, steps_of_kind, steps_from, placed_lift, placed_on, line_of}
use Rattle.clk_lawful.specs.declared.event.Event.{Event}
use Rattle.clk_lawful.specs.declared.trace.HistoryStep.{HistoryStep}

pub gained_none : (a : List (Listed HistoryStep)) → Gained a a (λ w. [])
gained_none a = record {
  count = refl;
  items = λ w d low. sym (append-nil (get_or a w d).items);
  room = λ w d low. omega arith;
}

pub gained_more : (a b c : List (Listed HistoryStep)) (f g : ℕ → List HistoryStep) → Gained a b f → Gained b c g → Gained a c (λ w. f w ++ g w)
gained_more a b c f g p q = record {
  count = q.count ∙ p.count;
  items = λ w d low.
      let count = p.count in
      let there : w < length b = omega (arith, count, low) in
      q.items w d there ∙ ap (λ (xs : List HistoryStep). xs ++ g w) (p.items w d low) ∙ append_assoc (get_or a w d).items (f w) (g w);
  room = λ w d low.
      let count = p.count in
      let there : w < length b = omega (arith, count, low) in
      let first = p.room w d low in
      let second = q.room w d there in
      let both = length-append (f w) (g w) in
      omega (arith, first, second, both);
}

pub gained_same : (a b : List (Listed HistoryStep)) (f g : ℕ → List HistoryStep) → ((w : ℕ) → f w ≡ g w) → Gained a b f → Gained a b g
gained_same a b f g same p = record {
  count = p.count;
  items = λ w d low. p.items w d low ∙ ap (λ (xs : List HistoryStep). (get_or a w d).items ++ xs) (same w);
  room = λ w d low.
      let e = ap length (same w) in
      let r = p.room w d low in
      omega (arith, e, r);
}

pub room_same : (a : List (Listed HistoryStep)) (f g : ℕ → List HistoryStep) → ((w : ℕ) → f w ≡ g w) → HasRoomFor a f → HasRoomFor a g
room_same a f g same h = λ w d low. subst (λ (xs : List HistoryStep). length xs ≤ (get_or a w d).room) (same w) (h w d low)

-- on the way from `start`, `left` is still to come: there is room for it, and with it the whole was gained
pub record Fills (start now : List (Listed HistoryStep)) (whole left : ℕ → List HistoryStep) : Type 0 where
  pub room : HasRoomFor now left
  pub goes : (end : List (Listed HistoryStep)) → Gained now end left → Gained start end whole

pub fills_start : (start : List (Listed HistoryStep)) (whole : ℕ → List HistoryStep) → HasRoomFor start whole → Fills start start whole whole
fills_start start whole room = record { room = room; goes = λ end gained. gained }

-- a part of what is left, and the rest
pub fills_room : (start now : List (Listed HistoryStep)) (whole left part rest : ℕ → List HistoryStep) → ((w : ℕ) → left w ≡ part w ++ rest w)
    → Fills start now whole left → HasRoomFor now part
fills_room start now whole left part rest split f = λ w d low.
    let room = f.room w d low in
    let e = ap length (split w) in
    let both = length-append (part w) (rest w) in
    omega (arith, room, e, both)

pub fills_more : (start now next : List (Listed HistoryStep)) (whole left part rest : ℕ → List HistoryStep) → ((w : ℕ) → left w ≡ part w ++ rest w)
    → Fills start now whole left → Gained now next part → Fills start next whole rest
fills_more start now next whole left part rest split f gained = record {
  room = λ w d low.
      let count = gained.count in
      let there : w < length now = omega (arith, count, low) in
      let room = f.room w d there in
      let here = gained.room w d there in
      let e = ap length (split w) in
      let both = length-append (part w) (rest w) in
      omega (arith, room, here, e, both);
  goes = λ end more.
      f.goes end (gained_same now end (λ w. part w ++ rest w) left (λ w. sym (split w)) (gained_more now next end part rest gained more));
}

pub fills_end : (start now : List (Listed HistoryStep)) (whole left : ℕ → List HistoryStep) → ((w : ℕ) → left w ≡ []) → Fills start now whole left → Gained start now whole
fills_end start now whole left none f = f.goes now (gained_same now now (λ w. []) left (λ w. sym (none w)) (gained_none now))

-- ---- the lines of a word

pub lines_on-append : (w : ℕ) (xs ys : List Placed) → lines_on w (xs ++ ys) ≡ lines_on w xs ++ lines_on w ys
lines_on-append w xs ys =
    ap (map line_of) (filter-append (λ (p : Placed). nat_eq p.step.word w) xs ys) ∙ map-append line_of (placed_on w xs) (placed_on w ys)

-- those of one step
one_by : (b : Bool) (p : Placed) → map line_of (cond b (p ∷ []) []) ≡ cond b (line_of p ∷ []) []
one_by true p = refl
one_by false p = refl

pub lines_on-one : (w : ℕ) (p : Placed) → lines_on w (p ∷ []) ≡ cond (nat_eq p.step.word w) (line_of p ∷ []) []
lines_on-one w p = one_by (nat_eq p.step.word w) p

-- a thread's next event
pub thread_next : (thread cpu : ℕ) (es : List Event) (i : ℕ) (d : Event) → i < length es → (w : ℕ)
    → lines_on w (steps_from thread cpu i (drop i es))
    ≡ lines_on w (steps_of_kind thread cpu (get_or es i d).call i (get_or es i d).kind) ++ lines_on w (steps_from thread cpu (i + 1) (drop (i + 1) es))
thread_next thread cpu es i d low w =
    let e : Event = get_or es i d in
    ap (λ (xs : List Event). lines_on w (steps_from thread cpu i xs)) (drop-cons es i d low)
    ∙ lines_on-append w (steps_of_kind thread cpu e.call i e.kind) (steps_from thread cpu (i + 1) (drop (suc i) es))
    ∙ ap (λ (n : ℕ). lines_on w (steps_of_kind thread cpu e.call i e.kind) ++ lines_on w (steps_from thread cpu (i + 1) (drop n es))) (sym (add-one i))

-- the next lift
pub lifts_next : (thread : ℕ) (lifts : List Step) (i : ℕ) (d : Step) → i < length lifts → (w : ℕ)
    → lines_on w (map (placed_lift thread) (drop i lifts))
    ≡ lines_on w (placed_lift thread (get_or lifts i d) ∷ []) ++ lines_on w (map (placed_lift thread) (drop (i + 1) lifts))
lifts_next thread lifts i d low w =
    let p : Placed = placed_lift thread (get_or lifts i d) in
    ap (λ (xs : List Step). lines_on w (map (placed_lift thread) xs)) (drop-cons lifts i d low)
    ∙ lines_on-append w (p ∷ []) (map (placed_lift thread) (drop (suc i) lifts))
    ∙ ap (λ (n : ℕ). lines_on w (p ∷ []) ++ lines_on w (map (placed_lift thread) (drop n lifts))) (sym (add-one i))

-- a slice that was lent out and came back as long
pub refill_same : {X : Type 0} (xs ws : List X) → length ws ≡ length xs → refill (length xs) xs ws ≡ ws
refill_same xs ws e = ap (λ (n : ℕ). take n (ws ++ drop (length ws) xs)) (sym e) ∙ take-append_seam ws (drop (length ws) xs)

-- ---- lists that are sorted one after another

-- those before place n are sorted, the others are as they were
abbrev pub SortedTo : ℤ → ℕ → List (Listed HistoryStep) → List (Listed HistoryStep) → Type 0
SortedTo opening n first now =
    ((w : ℕ) (d : Listed HistoryStep) → w < n → Sorts opening (get_or first w d) (get_or now w d))
    × ((w : ℕ) (d : Listed HistoryStep) → n ≤ w → get_or now w d ≡ get_or first w d)

below_or_at : (w n : ℕ) → w < n + 1 → (w < n) ⊎ (w ≡ n)
below_or_at w n h = grind arith

pub sorts_more : (opening : ℤ) (n : ℕ) (first now : List (Listed HistoryStep)) (item next : Listed HistoryStep) → n < length now
    → SortedTo opening n first now → Sorts opening (get_or now n item) next → SortedTo opening (n + 1) first (set now n next)
sorts_more opening n first now item next low done sorts = (
  λ w d high.
      elim (below_or_at w n high) [
        | inl below ↦
            let apart : w ≢ n = omega (arith, below) in
            subst (λ (l : Listed HistoryStep). Sorts opening (get_or first w d) l) (sym (get_or-set_other now n w next d apart)) (done.0 w d below)
        | inr here ↦
            let was : get_or first n d ≡ get_or now n item = sym (done.1 n d (omega arith)) ∙ get_or_default now n d item low in
            let is : get_or (set now n next) n d ≡ next = get_or-set_same now n next d low in
            subst (λ (k : ℕ). Sorts opening (get_or first k d) (get_or (set now n next) k d)) (sym here)
            (subst (λ (l : Listed HistoryStep). Sorts opening (get_or first n d) l) (sym is)
            (subst (λ (l : Listed HistoryStep). Sorts opening l next) (sym was) sorts))
      ],
  λ w d high.
      let apart : w ≢ n = omega (arith, high) in
      get_or-set_other now n w next d apart ∙ done.1 w d (omega (arith, high)),
)
