-- Lists that gain lines in any order, part after part, up to the histories.
use Rattle.std.proofs.Common.{◌≡◌, ◌≢◌, ℕ, ◌+◌, ◌<◌, ◌≤◌, ℤ, List, [], ◌∷◌, ◌++◌, length, get_or, set, get_or-set_same, get_or-set_other, replicate, drop, drop-cons, add-one, suc, zero, refl, sym, ◌∙◌, ap, subst, arith, append_assoc, append-nil, length-append}
use Rattle.std.specs.List.{All}
use Rattle.std.specs.List.Sorted.{IsPermutation}
use Rattle.std.proofs.lemmas.List.Sorted.{IsPermutation-refl, IsPermutation-trans, IsPermutation-append_left, IsPermutation-append_right, IsPermutation-append_comm, length_permutation}
use Rattle.clk_base.specs.Walk.{EachFrom}
use Rattle.clk_base.proofs.Walks.{each_from}
use Rattle.clk_num.specs.Listed.{Listed}
use Rattle.clk_lawful.specs.Filling.{lines_on, lines_left, steps_left, Gained, Keeps, HasRoomFor, AreSorted}
use Rattle.clk_lawful.specs.WordHistory.{Placed, steps_from, all_steps, lift_steps, steps_of, placed_on, IsHistoryOf}
use Rattle.clk_lawful.specs.declared.trace.Trace.{Trace}
use Rattle.clk_lawful.specs.declared.event.Event.{Event}
use Rattle.clk_lawful.specs.declared.trace.HistoryStep.{HistoryStep}
use Rattle.clk_trace.proofs.Gaining.{gained_none, gained_more, lines_on-append}

pub keeps_none : (a : List (Listed HistoryStep)) (whole : ℕ → List HistoryStep) → Keeps a a whole whole
keeps_none a whole = record { kept = λ w. []; parts = λ w. IsPermutation-refl (whole w); gained = gained_none a }

pub keeps_more : (a b c : List (Listed HistoryStep)) (whole mid left : ℕ → List HistoryStep) → Keeps a b whole mid → Keeps b c mid left → Keeps a c whole left
keeps_more a b c whole mid left p q = record {
  kept = λ w. p.kept w ++ q.kept w;
  parts = λ w.
      subst (λ (xs : List HistoryStep). IsPermutation (whole w) xs) (sym (append_assoc (p.kept w) (q.kept w) (left w)))
      (IsPermutation-trans (whole w) (p.kept w ++ mid w) (p.kept w ++ (q.kept w ++ left w)) (p.parts w)
      (IsPermutation-append_right (p.kept w) (mid w) (q.kept w ++ left w) (q.parts w)));
  gained = gained_more a b c p.kept q.kept p.gained q.gained;
}

pub keeps_same : (a b : List (Listed HistoryStep)) (f g left more : ℕ → List HistoryStep) → ((w : ℕ) → f w ≡ g w) → ((w : ℕ) → left w ≡ more w) → Keeps a b f left → Keeps a b g more
keeps_same a b f g left more same rest k = record {
  kept = k.kept;
  parts = λ w.
      subst (λ (xs : List HistoryStep). IsPermutation xs (k.kept w ++ more w)) (same w)
      (subst (λ (xs : List HistoryStep). IsPermutation (f w) (k.kept w ++ xs)) (rest w) (k.parts w));
  gained = k.gained;
}

-- the first part of what is left
keeps_part : (a b : List (Listed HistoryStep)) (whole part rest : ℕ → List HistoryStep) → ((w : ℕ) → whole w ≡ part w ++ rest w) → Gained a b part → Keeps a b whole rest
keeps_part a b whole part rest split gained = record {
  kept = part;
  parts = λ w. subst (λ (xs : List HistoryStep). IsPermutation (whole w) xs) (split w) (IsPermutation-refl (whole w));
  gained = gained;
}

pub keeps_next : (a b c : List (Listed HistoryStep)) (whole left part rest : ℕ → List HistoryStep) → ((w : ℕ) → left w ≡ part w ++ rest w)
    → Keeps a b whole left → Gained b c part → Keeps a c whole rest
keeps_next a b c whole left part rest split k gained = keeps_more a b c whole left rest k (keeps_part b c left part rest split gained)

-- lines that stay before or behind
keeps_before : (a b : List (Listed HistoryStep)) (front whole left : ℕ → List HistoryStep) → Keeps a b whole left
    → Keeps a b (λ w. front w ++ whole w) (λ w. front w ++ left w)
keeps_before a b front whole left k = record {
  kept = k.kept;
  parts = λ w.
      let f : List HistoryStep = front w in
      let m : List HistoryStep = k.kept w in
      let l : List HistoryStep = left w in
      let apart : IsPermutation (f ++ whole w) (f ++ (m ++ l)) = IsPermutation-append_right f (whole w) (m ++ l) (k.parts w) in
      let turned : IsPermutation ((f ++ m) ++ l) ((m ++ f) ++ l) = IsPermutation-append_left l (f ++ m) (m ++ f) (IsPermutation-append_comm f m) in
      let first : IsPermutation (f ++ whole w) ((f ++ m) ++ l) =
      subst (λ (xs : List HistoryStep). IsPermutation (f ++ whole w) xs) (sym (append_assoc f m l)) apart in
      subst (λ (xs : List HistoryStep). IsPermutation (f ++ whole w) xs) (append_assoc m f l)
      (IsPermutation-trans (f ++ whole w) ((f ++ m) ++ l) ((m ++ f) ++ l) first turned);
  gained = k.gained;
}

keeps_behind : (a b : List (Listed HistoryStep)) (whole left last : ℕ → List HistoryStep) → Keeps a b whole left
    → Keeps a b (λ w. whole w ++ last w) (λ w. left w ++ last w)
keeps_behind a b whole left last k = record {
  kept = k.kept;
  parts = λ w.
      subst (λ (xs : List HistoryStep). IsPermutation (whole w ++ last w) xs) (append_assoc (k.kept w) (left w) (last w))
      (IsPermutation-append_left (last w) (whole w) (k.kept w ++ left w) (k.parts w));
  gained = k.gained;
}

-- the room for what is left, and for a part of it
pub keeps_room : (a b : List (Listed HistoryStep)) (whole left : ℕ → List HistoryStep) → HasRoomFor a whole → Keeps a b whole left → HasRoomFor b left
keeps_room a b whole left room k = λ w d low.
    let count = k.gained.count in
    let there : w < length a = omega (arith, count, low) in
    let before = room w d there in
    let after = k.gained.room w d there in
    let all = length_permutation (whole w) (k.kept w ++ left w) (k.parts w) in
    let both = length-append (k.kept w) (left w) in
    omega (arith, before, after, all, both)

pub room_part : (a : List (Listed HistoryStep)) (whole part rest : ℕ → List HistoryStep) → ((w : ℕ) → whole w ≡ part w ++ rest w) → HasRoomFor a whole → HasRoomFor a part
room_part a whole part rest split room = λ w d low.
    let before = room w d low in
    let e = ap length (split w) in
    let both = length-append (part w) (rest w) in
    omega (arith, before, e, both)

-- ---- what is left of all threads

-- at the begin
steps_start : (f : ℕ → ℕ) (n : ℕ) (cpus : List ℕ) (threads : List (Listed Event)) → ((k : ℕ) → f k ≡ 0) → steps_left f n cpus threads ≡ all_steps n cpus threads
steps_start f n [] threads none = refl
steps_start f n (cpu ∷ cpus) [] none = refl
steps_start f n (cpu ∷ cpus) (es ∷ threads) none =
    ap (λ (k : ℕ). steps_from n cpu k (drop k es.items) ++ steps_left f (n + 1) cpus threads) (none n)
    ∙ ap (λ (xs : List Placed). steps_from n cpu 0 es.items ++ xs) (steps_start f (n + 1) cpus threads none)

pub lines_start : (f : ℕ → ℕ) (cpus : List ℕ) (threads : List (Listed Event)) → ((k : ℕ) → f k ≡ 0) → (w : ℕ)
    → lines_on w (steps_left f 0 cpus threads) ≡ lines_on w (all_steps 0 cpus threads)
lines_start f cpus threads none w = ap (λ (xs : List Placed). lines_on w xs) (steps_start f 0 cpus threads none)

pub none_kept : (n k : ℕ) → ◌≡◌ {A = ℕ} (get_or (replicate n 0) k 0) 0
none_kept zero k = refl
none_kept (suc n) zero = refl
none_kept (suc n) (suc k) = none_kept n k

steps_agree : (f g : ℕ → ℕ) (n : ℕ) (cpus : List ℕ) (threads : List (Listed Event)) → ((k : ℕ) → n ≤ k → f k ≡ g k) → steps_left f n cpus threads ≡ steps_left g n cpus threads
steps_agree f g n [] threads same = refl
steps_agree f g n (cpu ∷ cpus) [] same = refl
steps_agree f g n (cpu ∷ cpus) (es ∷ threads) same =
    ap (λ (k : ℕ). steps_from n cpu k (drop k es.items) ++ steps_left f (n + 1) cpus threads) (same n (omega arith))
    ∙ ap (λ (xs : List Placed). steps_from n cpu (g n) (drop (g n) es.items) ++ xs)
    (steps_agree f g (n + 1) cpus threads (λ k h. same k (omega (arith, h))))

left_split : (f : ℕ → ℕ) (n cpu : ℕ) (cpus : List ℕ) (es : Listed Event) (threads : List (Listed Event)) (w : ℕ)
    → lines_on w (steps_left f n (cpu ∷ cpus) (es ∷ threads)) ≡ lines_left n cpu (f n) es.items w ++ lines_on w (steps_left f (n + 1) cpus threads)
left_split f n cpu cpus es threads w = lines_on-append w (steps_from n cpu (f n) (drop (f n) es.items)) (steps_left f (n + 1) cpus threads)

-- thread j, which is the i-th from n on, goes on from its place in f to that in g
pub keeps_thread : (a b : List (Listed HistoryStep)) (f g : ℕ → ℕ) (n i j : ℕ) (cpus : List ℕ) (threads : List (Listed Event)) (c : ℕ) (d : Listed Event)
    → j ≡ n + i → i < length cpus → i < length threads → ((k : ℕ) → k ≢ j → f k ≡ g k)
    → Keeps a b (lines_left j (get_or cpus i c) (f j) (get_or threads i d).items) (lines_left j (get_or cpus i c) (g j) (get_or threads i d).items)
    → Keeps a b (λ w. lines_on w (steps_left f n cpus threads)) (λ w. lines_on w (steps_left g n cpus threads))
keeps_thread a b f g n i j [] threads c d e here low same k = absurd (omega (arith, here))
keeps_thread a b f g n i j (cpu ∷ cpus) [] c d e here low same k = absurd (omega (arith, low))
keeps_thread a b f g n zero j (cpu ∷ cpus) (es ∷ threads) c d e here low same k =
    let at : j ≡ n = omega (arith, e) in
    let kept = subst (λ (m : ℕ). Keeps a b (lines_left m cpu (f m) es.items) (lines_left m cpu (g m) es.items)) at k in
    let rest : steps_left f (n + 1) cpus threads ≡ steps_left g (n + 1) cpus threads =
    steps_agree f g (n + 1) cpus threads (λ m h. same m (omega (arith, at, h))) in
    let last : ℕ → List HistoryStep = λ w. lines_on w (steps_left f (n + 1) cpus threads) in
    keeps_same a b (λ w. lines_left n cpu (f n) es.items w ++ last w) (λ w. lines_on w (steps_left f n (cpu ∷ cpus) (es ∷ threads)))
    (λ w. lines_left n cpu (g n) es.items w ++ last w) (λ w. lines_on w (steps_left g n (cpu ∷ cpus) (es ∷ threads)))
    (λ w. sym (left_split f n cpu cpus es threads w))
    (λ w. ap (λ (xs : List Placed). lines_left n cpu (g n) es.items w ++ lines_on w xs) rest ∙ sym (left_split g n cpu cpus es threads w))
    (keeps_behind a b (lines_left n cpu (f n) es.items) (lines_left n cpu (g n) es.items) last kept)
keeps_thread a b f g n (suc i) j (cpu ∷ cpus) (es ∷ threads) c d e here low same k =
    let at : f n ≡ g n = same n (omega (arith, e)) in
    let front : ℕ → List HistoryStep = lines_left n cpu (f n) es.items in
    let kept =
    keeps_thread a b f g (n + 1) i j cpus threads c d (omega (arith, e)) (omega (arith, here)) (omega (arith, low)) same k in
    let before : ℕ → List HistoryStep = λ w. lines_on w (steps_left f (n + 1) cpus threads) in
    let after : ℕ → List HistoryStep = λ w. lines_on w (steps_left g (n + 1) cpus threads) in
    keeps_same a b (λ w. front w ++ before w) (λ w. lines_on w (steps_left f n (cpu ∷ cpus) (es ∷ threads))) (λ w. front w ++ after w)
    (λ w. lines_on w (steps_left g n (cpu ∷ cpus) (es ∷ threads))) (λ w. sym (left_split f n cpu cpus es threads w))
    (λ w. ap (λ (m : ℕ). lines_left n cpu m es.items w ++ after w) at ∙ sym (left_split g n cpu cpus es threads w))
    (keeps_before a b front before after kept)

thread_within : (f : ℕ → ℕ) (n i j : ℕ) (cpus : List ℕ) (threads : List (Listed Event)) (c : ℕ) (d : Listed Event) (w : ℕ)
    → j ≡ n + i → i < length cpus → i < length threads
    → length (lines_left j (get_or cpus i c) (f j) (get_or threads i d).items w) ≤ length (lines_on w (steps_left f n cpus threads))
thread_within f n i j [] threads c d w e here low = absurd (omega (arith, here))
thread_within f n i j (cpu ∷ cpus) [] c d w e here low = absurd (omega (arith, low))
thread_within f n zero j (cpu ∷ cpus) (es ∷ threads) c d w e here low =
    let at : n ≡ j = omega (arith, e) in
    let split = ap length (left_split f n cpu cpus es threads w) in
    let both = length-append (lines_left n cpu (f n) es.items w) (lines_on w (steps_left f (n + 1) cpus threads)) in
    subst (λ (m : ℕ). length (lines_left m cpu (f m) es.items w) ≤ length (lines_on w (steps_left f n (cpu ∷ cpus) (es ∷ threads)))) at
    (omega (arith, split, both))
thread_within f n (suc i) j (cpu ∷ cpus) (es ∷ threads) c d w e here low =
    let split = ap length (left_split f n cpu cpus es threads w) in
    let both = length-append (lines_left n cpu (f n) es.items w) (lines_on w (steps_left f (n + 1) cpus threads)) in
    let there = thread_within f (n + 1) i j cpus threads c d w (omega (arith, e)) (omega (arith, here)) (omega (arith, low)) in
    omega (arith, split, both, there)

pub room_thread : (a : List (Listed HistoryStep)) (f : ℕ → ℕ) (i : ℕ) (cpus : List ℕ) (threads : List (Listed Event)) (c : ℕ) (d : Listed Event)
    → i < length cpus → i < length threads → HasRoomFor a (λ w. lines_on w (steps_left f 0 cpus threads))
    → HasRoomFor a (lines_left i (get_or cpus i c) (f i) (get_or threads i d).items)
room_thread a f i cpus threads c d here low room = λ w e there.
    let all = room w e there in
    let within = thread_within f 0 i i cpus threads c d w (omega arith) here low in
    omega (arith, all, within)

-- in the i-th place of `next` the thread's new place is put
pub keeps_set : (a b : List (Listed HistoryStep)) (next : List ℕ) (i was k : ℕ) (cpus : List ℕ) (threads : List (Listed Event)) (c : ℕ) (d : Listed Event)
    → was ≡ get_or next i 0 → i < length next → i < length cpus → i < length threads
    → Keeps a b (lines_left i (get_or cpus i c) was (get_or threads i d).items) (lines_left i (get_or cpus i c) k (get_or threads i d).items)
    → Keeps a b (λ w. lines_on w (steps_left (λ n. get_or next n 0) 0 cpus threads)) (λ w. lines_on w (steps_left (λ n. get_or (set next i k) n 0) 0 cpus threads))
keeps_set a b next i was k cpus threads c d at there here low kept =
    let f : ℕ → ℕ = λ n. get_or next n 0 in
    let g : ℕ → ℕ = λ n. get_or (set next i k) n 0 in
    let left : ℕ → ℕ → List HistoryStep = λ m. lines_left i (get_or cpus i c) m (get_or threads i d).items in
    let from : Keeps a b (left (f i)) (left k) = subst (λ (m : ℕ). Keeps a b (left m) (left k)) at kept in
    let is : g i ≡ k = get_or-set_same next i k 0 there in
    let to : Keeps a b (left (f i)) (left (g i)) = subst (λ (m : ℕ). Keeps a b (left (f i)) (left m)) (sym is) from in
    keeps_thread a b f g 0 i i cpus threads c d (omega arith) here low (λ n apart. sym (get_or-set_other next i n k 0 apart)) to

-- the next thread, of which all is kept
pub left_next : (f : ℕ → ℕ) (cpus : List ℕ) (threads : List (Listed Event)) (i c : ℕ) (d : Listed Event) → i < length cpus → i < length threads → (w : ℕ)
    → lines_on w (steps_left f i (drop i cpus) (drop i threads))
    ≡ lines_left i (get_or cpus i c) (f i) (get_or threads i d).items w ++ lines_on w (steps_left f (i + 1) (drop (i + 1) cpus) (drop (i + 1) threads))
left_next f cpus threads i c d here low w =
    let cpu : ℕ = get_or cpus i c in
    let es : Listed Event = get_or threads i d in
    ap (λ (xs : List ℕ). lines_on w (steps_left f i xs (drop i threads))) (drop-cons cpus i c here)
    ∙ ap (λ (xs : List (Listed Event)). lines_on w (steps_left f i (cpu ∷ drop (suc i) cpus) xs)) (drop-cons threads i d low)
    ∙ left_split f i cpu (drop (suc i) cpus) es (drop (suc i) threads) w
    ∙ ap (λ (n : ℕ). lines_left i cpu (f i) es.items w ++ lines_on w (steps_left f (i + 1) (drop n cpus) (drop n threads))) (sym (add-one i))

pub keeps_all : (a b c : List (Listed HistoryStep)) (whole left part rest : ℕ → List HistoryStep) → ((w : ℕ) → left w ≡ part w ++ rest w)
    → Keeps a b whole left → Keeps b c part (λ w. []) → Keeps a c whole rest
keeps_all a b c whole left part rest split k all =
    keeps_more a b c whole left rest k
    (keeps_same b c (λ w. part w ++ rest w) left (λ w. [] ++ rest w) rest (λ w. sym (split w)) (λ w. refl) (keeps_behind b c part (λ w. []) rest all))

-- ---- empty lists that gained the lifts and then each word's other lines, and then were sorted, are the histories

whole_list : (t : Trace) (w : ℕ) (kept : List HistoryStep) → IsPermutation (lines_on w (all_steps 0 t.cpu_of.items t.threads.items)) (kept ++ [])
    → IsPermutation (lines_on w (steps_of t)) (lines_on w (lift_steps t.watch) ++ kept)
whole_list t w kept parts =
    let steps : List HistoryStep = lines_on w (all_steps 0 t.cpu_of.items t.threads.items) in
    let lifts : List HistoryStep = lines_on w (lift_steps t.watch) in
    let some : IsPermutation steps kept = subst (λ (xs : List HistoryStep). IsPermutation steps xs) (append-nil kept) parts in
    subst (λ (xs : List HistoryStep). IsPermutation xs (lifts ++ kept)) (sym (lines_on-append w (all_steps 0 t.cpu_of.items t.threads.items) (lift_steps t.watch)))
    (IsPermutation-trans (steps ++ lifts) (lifts ++ steps) (lifts ++ kept) (IsPermutation-append_comm steps lifts) (IsPermutation-append_right lifts steps kept some))

pub filled : (opening : ℤ) (t : Trace) (start lifted full sorted : List (Listed HistoryStep)) → All (λ l. l.items ≡ []) start
    → Gained start lifted (λ w. lines_on w (lift_steps t.watch)) → Keeps lifted full (λ w. lines_on w (all_steps 0 t.cpu_of.items t.threads.items)) (λ w. [])
    → AreSorted opening full sorted → EachFrom (λ w lines. IsHistoryOf opening (placed_on w (steps_of t)) lines.items) 0 sorted
filled opening t start lifted full sorted empty lifts keeps sorts = each_from (λ w lines. IsHistoryOf opening (placed_on w (steps_of t)) lines.items) 0 sorted each
  where
    each : (k : ℕ) (d : Listed HistoryStep) → k < length sorted → IsHistoryOf opening (placed_on (0 + k) (steps_of t)) (get_or sorted k d).items
    each k d low =
        let first = lifts.count in
        let second = keeps.gained.count in
        let third = sorts.count in
        let in_full : k < length full = omega (arith, third, low) in
        let in_lifted : k < length lifted = omega (arith, second, third, low) in
        let in_start : k < length start = omega (arith, first, second, third, low) in
        let zero : 0 + k ≡ k = omega arith in
        let opened : List HistoryStep = lines_on k (lift_steps t.watch) in
        let lines : (get_or full k d).items ≡ opened ++ keeps.kept k =
        keeps.gained.items k d in_lifted
        ∙ ap (λ (xs : List HistoryStep). xs ++ keeps.kept k) (lifts.items k d in_start ∙ ap (λ (xs : List HistoryStep). xs ++ opened) (empty k d in_start)) in
        let here = sorts.each k d in_full in
        let from : IsPermutation (opened ++ keeps.kept k) (get_or sorted k d).items =
        subst (λ (xs : List HistoryStep). IsPermutation xs (get_or sorted k d).items) lines here.all in
        subst (λ (w : ℕ). IsHistoryOf opening (placed_on w (steps_of t)) (get_or sorted k d).items) (sym zero)
        (record {
          all =
              IsPermutation-trans (lines_on k (steps_of t)) (opened ++ keeps.kept k) (get_or sorted k d).items (whole_list t k (keeps.kept k) (keeps.parts k)) from;
          sorted = here.sorted;
        })
