-- What a thread finds of a word is not below the highest value that it has seen of it, and so not below any of them.
use Rattle.std.proofs.Common.{◌≡◌, ℕ, ◌==◌, ℤ, ◌-ℤ◌, int_lt, Bool, true, false, cond, if◌then◌else◌, List, [], ◌∷◌, ◌++◌, refl, sym, subst, arith, All, AllPairs, Contains, get_or}
use Rattle.std.specs.List.{AllZip}
use Rattle.std.proofs.lemmas.Int.{ints}
use Rattle.std.proofs.lemmas.Bool.{eqb-false}
use Rattle.std.proofs.lemmas.List.Elements.{All-nil, All-cons, All-head, All-tail, All-append, All-weaker, All-contains, All-contains_itself, Contains-append_left, Contains-append_right}
use Rattle.std.proofs.lemmas.List.Kept.{AllPairs-cons}
use Rattle.clk_num.specs.Wrapping.{above, IsNotBelow}
use Rattle.clk_num.proofs.Heights.{above_same}
use Rattle.clk_num.proofs.Wraps.{wrapped}
use Rattle.clk_num.specs.Listed.{Listed}
use Rattle.clk_record.specs.declared.step.Step.{Step}
use Rattle.clk_record.specs.LowerWord.{is_lower}
use Rattle.clk_lawful.specs.Couples.{CouplesLower}
use Rattle.clk_lawful.specs.SeenBefore.{Seen, seen_at, shown_by_kind, higher, highest, values_on, stood_at, seen_of, IsAboveSeen, NeverFalls}
use Rattle.clk_lawful.specs.Standing.{lifted_from, lifts_by}
use Rattle.clk_lawful.specs.declared.event.Event.{Event}
use Rattle.clk_lawful.specs.declared.event.EventKind.{EventKind}
use Rattle.clk_lawful.specs.declared.event.EventKind.TheVariants.{Stable, Local, Couple, Stamp, Nothing, Update, Pause}
use Rattle.clk_laws.proofs.Highs.{IsHigh, ShowsNoneBelow, none_below}
use Rattle.clk_laws.specs.Seeing.{found_by_kind, FindsNoLess, NoWordFalls}

-- ---- heights

-- how far one value is above another is how far its height is, where both are above the opening
above_is : (o x y : ℤ) → IsHigh o x → IsHigh o y → above x y ≡ above x o -ℤ above y o
above_is o x y p q = omega (arith, ints, wrapped)

not_below_after : (o x y z : ℤ) → IsHigh o x → IsHigh o y → IsHigh o z → IsNotBelow y x → IsNotBelow z y → IsNotBelow z x
not_below_after o x y z p q r a b =
    let first = above_is o y x q p in
    let second = above_is o z y r q in
    let both = above_is o z x r p in
    omega (arith, ints)

-- ---- the highest of some values

record IsOver (y a b : ℤ) : Type 0 where
  first : IsNotBelow y a
  second : IsNotBelow y b

higher_by : (o y a b : ℤ) (t : Bool) → IsHigh o y → IsHigh o a → IsHigh o b → int_lt (above a o) (above b o) ≡ t
    → IsNotBelow y (cond t b a) → IsOver y a b
higher_by o y a b true p q r e h =
    let over = above_is o y b p r in
    let other = above_is o y a p q in
    record { first = omega (arith, ints); second = h }
higher_by o y a b false p q r e h =
    let over = above_is o y a p q in
    let other = above_is o y b p r in
    record { first = h; second = omega (arith, ints) }

over_both : (o y a b : ℤ) → IsHigh o y → IsHigh o a → IsHigh o b → IsNotBelow y (higher o a b) → IsOver y a b
over_both o y a b p q r h = higher_by o y a b (int_lt (above a o) (above b o)) p q r refl h

near_by : (o a b : ℤ) (t : Bool) → IsHigh o a → IsHigh o b → IsHigh o (cond t b a)
near_by o a b true p q = q
near_by o a b false p q = p

higher_near : (o a b : ℤ) → IsHigh o a → IsHigh o b → IsHigh o (higher o a b)
higher_near o a b p q = near_by o a b (int_lt (above a o) (above b o)) p q

record IsOverAll (y a : ℤ) (xs : List ℤ) : Type 0 where
  first : IsNotBelow y a
  others : All (IsNotBelow y) xs

over_all : (o y a : ℤ) (xs : List ℤ) → IsHigh o y → IsHigh o a → All (IsHigh o) xs → IsNotBelow y (highest o a xs) → IsOverAll y a xs
over_all o y a [] p q r h = record { first = h; others = All-nil (IsNotBelow y) }
over_all o y a (x ∷ xs) p q r h =
    let near = All-head (IsHigh o) x xs r in
    let more = over_all o y (higher o a x) xs p (higher_near o a x q near) (All-tail (IsHigh o) x xs r) h in
    let both = over_both o y a x p q near more.first in
    record { first = both.first; others = All-cons (IsNotBelow y) x xs both.second more.others }

-- ---- those of one word

values_near : (P : ℤ → Type 0) (w : ℕ) (seen : List Seen) → All (λ x. P x.value) seen → All P (values_on w seen)
values_near P w [] h = All-nil P
values_near P w (x ∷ seen) h =
    let here = All-head (λ (v : Seen). P v.value) x seen h in
    let more = values_near P w seen (All-tail (λ (v : Seen). P v.value) x seen h) in
    All-append P (if x.word == w then x.value ∷ [] else []) (values_on w seen) (value_near (x.word == w) x.value here) more
  where
    value_near : (t : Bool) (v : ℤ) → P v → All P (if t then v ∷ [] else [])
    value_near true v p = All-cons P v [] p (All-nil P)
    value_near false v p = All-nil P

on_word_by : (P : ℤ → Type 0) (w : ℕ) (x : Seen) (seen : List Seen) (t : Bool) → (x.word == w) ≡ t
    → (All P (values_on w seen) → All (λ v. v.word ≡ w → P v.value) seen)
    → All P ((if t then x.value ∷ [] else []) ++ values_on w seen)
    → All (λ v. v.word ≡ w → P v.value) (x ∷ seen)
on_word_by P w x seen true e more h =
    All-cons
    (λ (v : Seen). v.word ≡ w → P v.value)
    x
    seen
    (λ _. All-head P x.value (values_on w seen) h)
    (more (All-tail P x.value (values_on w seen) h))
on_word_by P w x seen false e more h =
    All-cons (λ (v : Seen). v.word ≡ w → P v.value) x seen (λ same. absurd (eqb-false x.word w e same)) (more h)

on_word : (P : ℤ → Type 0) (w : ℕ) (seen : List Seen) → All P (values_on w seen) → All (λ v. v.word ≡ w → P v.value) seen
on_word P w [] h = All-nil (λ (v : Seen). v.word ≡ w → P v.value)
on_word P w (x ∷ seen) h = on_word_by P w x seen (x.word == w) refl (on_word P w seen) h

-- ---- what an event finds

-- of the words' openings and the values seen so far
record AreHigh (o : ℤ) (base : ℕ → ℤ) (seen : List Seen) : Type 0 where
  bases : (w : ℕ) → IsHigh o (base w)
  values : All (λ x. IsHigh o x.value) seen

abbrev FindsAbove : List Seen → Seen → Type 0
FindsAbove seen y = All (λ x. x.word ≡ y.word → IsNotBelow y.value x.value) seen

finds_above : (o : ℤ) (base : ℕ → ℤ) (seen : List Seen) (w : ℕ) (y : ℤ) → AreHigh o base seen → IsHigh o y → IsNotBelow y (seen_of o base w seen)
    → FindsAbove seen (seen_at w y)
finds_above o base seen w y near p h =
    let all = over_all o y (base w) (values_on w seen) p (near.bases w) (values_near (IsHigh o) w seen near.values) h in
    on_word (IsNotBelow y) w seen all.others

-- a step of a coupling finds no less than was loaded of its word
still_above : (o : ℤ) (seen : List Seen) (w : ℕ) (x y : ℤ) → All (λ v. IsHigh o v.value) seen → IsHigh o x → IsHigh o y → IsNotBelow y x
    → FindsAbove seen (seen_at w x) → FindsAbove seen (seen_at w y)
still_above o seen w x y near p q h above_all k d lt same =
    not_below_after o (get_or seen k d).value x y (near k d lt) p q (above_all k d lt same) h

step_above : (o : ℤ) (seen : List Seen) (cpu asked : ℕ) (own other : ℤ) (t : Bool) (word : ℕ) (old : ℤ) → All (λ v. IsHigh o v.value) seen
    → IsHigh o own → IsHigh o other → IsHigh o old → word ≡ (if t then asked else cpu) → IsNotBelow old (if t then other else own)
    → FindsAbove seen (seen_at cpu own) → FindsAbove seen (seen_at asked other) → FindsAbove seen (seen_at word old)
step_above o seen cpu asked own other true word old near p q r e h first second =
    subst (λ (w : ℕ). FindsAbove seen (seen_at w old)) (sym e) (still_above o seen asked other old near q r h second)
step_above o seen cpu asked own other false word old near p q r e h first second =
    subst (λ (w : ℕ). FindsAbove seen (seen_at w old)) (sym e) (still_above o seen cpu own old near p r h first)

kind_above : (o : ℤ) (base : ℕ → ℤ) (cpu : ℕ) (seen : List Seen) (k : EventKind) → AreHigh o base seen → ShowsNoneBelow o cpu k → CouplesLower cpu k
    → IsAboveSeen o base cpu seen k → All (FindsAbove seen) (found_by_kind cpu k)
kind_above o base cpu seen (Stable raw value) near p c h = All-nil (FindsAbove seen)
kind_above o base cpu seen (Local raw tick_raw tick_gtod offset old new) near p c h =
    All-cons (FindsAbove seen) (seen_at cpu old) [] (finds_above o base seen cpu old near (p 0 (seen_at cpu old) (omega arith)) h.over_seen) (All-nil (FindsAbove seen))
kind_above o base cpu seen (Couple asked own other word old new) near p c h =
    let d : Seen = seen_at cpu own in
    let first = finds_above o base seen cpu own near (p 0 d (omega arith)) h.0.over_seen in
    let second = finds_above o base seen asked other near (p 1 d (omega arith)) h.1.over_seen in
    let third =
    step_above o seen cpu asked own other (is_lower other own) word old near.values (p 0 d (omega arith)) (p 1 d (omega arith)) (p 2 d (omega arith)) c.0 c.1 first second in
    All-cons
    (FindsAbove seen)
    (seen_at cpu own)
    (seen_at asked other ∷ seen_at word old ∷ [])
    first
    (All-cons (FindsAbove seen) (seen_at asked other) (seen_at word old ∷ []) second (All-cons (FindsAbove seen) (seen_at word old) [] third (All-nil (FindsAbove seen))))
kind_above o base cpu seen (Stamp gtod_ticket gtod raw) near p c h = All-nil (FindsAbove seen)
kind_above o base cpu seen Nothing near p c h = All-nil (FindsAbove seen)
kind_above o base cpu seen (Update q) near p c h = All-nil (FindsAbove seen)
kind_above o base cpu seen (Pause ticket count) near p c h = All-nil (FindsAbove seen)

-- ---- along a thread

-- what an event shows is near, as all that it finds and shows is
shown_near : (o : ℤ) (xs ys : List Seen) → All (λ x. IsHigh o x.value) (xs ++ ys) → All (λ x. IsHigh o x.value) ys
shown_near o [] ys h = h
shown_near o (x ∷ xs) ys h = shown_near o xs ys (All-tail (λ (v : Seen). IsHigh o v.value) x (xs ++ ys) h)

near_on : (o : ℤ) (base : ℕ → ℤ) (cpu : ℕ) (seen : List Seen) (k : EventKind) → AreHigh o base seen → ShowsNoneBelow o cpu k
    → AreHigh o base (seen ++ shown_by_kind cpu k)
near_on o base cpu seen k near p = record {
  bases = near.bases;
  values =
      All-append (λ (x : Seen). IsHigh o x.value) seen (shown_by_kind cpu k) near.values (shown_near o (found_by_kind cpu k) (shown_by_kind cpu k) p);
}

-- no event from here on finds less than some of what was seen
later_above : (o : ℤ) (base : ℕ → ℤ) (cpu : ℕ) (seen some_seen : List Seen) (es : List Event) → AreHigh o base seen → All (λ e. ShowsNoneBelow o cpu e.kind) es
    → All (λ e. CouplesLower cpu e.kind) es → NeverFalls o base cpu seen es → All (Contains seen) some_seen
    → All (λ e. All (FindsAbove some_seen) (found_by_kind cpu e.kind)) es
later_above o base cpu seen xs [] near p c h within = All-nil (λ (e : Event). All (FindsAbove xs) (found_by_kind cpu e.kind))
later_above o base cpu seen xs (e ∷ es) near p c h within =
    let P : Event → Type 0 = λ f. ShowsNoneBelow o cpu f.kind in
    let C : Event → Type 0 = λ f. CouplesLower cpu f.kind in
    let shown : List Seen = shown_by_kind cpu e.kind in
    let all = kind_above o base cpu seen e.kind near (All-head P e es p) (All-head C e es c) h.0 in
    let fewer : (y : Seen) → FindsAbove seen y → FindsAbove xs y =
    λ y above_all.
    All-weaker
    (Contains seen)
    (λ (x : Seen). x.word ≡ y.word → IsNotBelow y.value x.value)
    (λ x there. All-contains (λ (v : Seen). v.word ≡ y.word → IsNotBelow y.value v.value) seen x above_all there)
    xs
    within in
    let here = All-weaker (FindsAbove seen) (FindsAbove xs) fewer (found_by_kind cpu e.kind) all in
    let still = All-weaker (Contains seen) (Contains (seen ++ shown)) (λ x there. Contains-append_left seen shown x there) xs within in
    let more = later_above o base cpu (seen ++ shown) xs es (near_on o base cpu seen e.kind near (All-head P e es p)) (All-tail P e es p) (All-tail C e es c) h.1 still in
    All-cons (λ (f : Event). All (FindsAbove xs) (found_by_kind cpu f.kind)) e es here more

none_falls : (o : ℤ) (base : ℕ → ℤ) (cpu : ℕ) (seen : List Seen) (es : List Event) → AreHigh o base seen → All (λ e. ShowsNoneBelow o cpu e.kind) es
    → All (λ e. CouplesLower cpu e.kind) es → NeverFalls o base cpu seen es → AllPairs (λ e f. FindsNoLess cpu e.kind f.kind) es
none_falls o base cpu seen [] near p c h = λ i j d lt within. absurd (omega arith)
none_falls o base cpu seen (e ∷ es) near p c h =
    let P : Event → Type 0 = λ f. ShowsNoneBelow o cpu f.kind in
    let C : Event → Type 0 = λ f. CouplesLower cpu f.kind in
    let shown : List Seen = shown_by_kind cpu e.kind in
    let next = near_on o base cpu seen e.kind near (All-head P e es p) in
    let within = All-weaker (Contains shown) (Contains (seen ++ shown)) (λ x there. Contains-append_right seen shown x there) shown (All-contains_itself shown) in
    let here = later_above o base cpu (seen ++ shown) shown es next (All-tail P e es p) (All-tail C e es c) h.1 within in
    AllPairs-cons
    (λ (a b : Event). FindsNoLess cpu a.kind b.kind)
    e
    es
    here
    (none_falls o base cpu (seen ++ shown) es next (All-tail P e es p) (All-tail C e es c) h.1)

-- ---- all threads

lifted_by : (o : ℤ) (x y : ℤ) (t : Bool) → IsHigh o x → IsHigh o y → IsHigh o (if t then x else y)
lifted_by o x y true p q = p
lifted_by o x y false p q = q

lifted_near : (o : ℤ) (lifts : List Step) (w : ℕ) → All (λ s. IsHigh o s.new) lifts → IsHigh o (lifted_from o lifts w)
lifted_near o [] w h = let e = above_same o in omega (arith, ints)
lifted_near o (s ∷ lifts) w h =
    lifted_by
    o
    s.new
    (lifted_from o lifts w)
    (s.word == w)
    (All-head (λ (l : Step). IsHigh o l.new) s lifts h)
    (lifted_near o lifts w (All-tail (λ (l : Step). IsHigh o l.new) s lifts h))

all_rise : (o : ℤ) (base : ℕ → ℤ) → ((w : ℕ) → IsHigh o (base w)) → (cpus : List ℕ) (threads : List (Listed Event))
    → AllZip (λ cpu es. All (λ e. ShowsNoneBelow o cpu e.kind) es.items) cpus threads → AllZip (λ cpu es. All (λ e. CouplesLower cpu e.kind) es.items) cpus threads
    → AllZip (λ cpu es. NeverFalls o base cpu [] es.items) cpus threads → AllZip (λ cpu es. AllPairs (λ e f. FindsNoLess cpu e.kind f.kind) es.items) cpus threads
all_rise o base near [] [] p c h = tt
all_rise o base near [] (es ∷ threads) p c h = absurd h
all_rise o base near (cpu ∷ cpus) [] p c h = absurd h
all_rise o base near (cpu ∷ cpus) (es ∷ threads) p c h =
    let begun : AreHigh o base [] = record { bases = near; values = All-nil (λ (x : Seen). IsHigh o x.value) } in
    (none_falls o base cpu [] es.items begun p.0 c.0 h.0, all_rise o base near cpus threads p.1 c.1 h.1)

pub no_word_falls : NoWordFalls
no_word_falls m t h =
    let high = none_below m t h in
    all_rise
    t.start_word
    (stood_at t)
    (λ w. lifted_near t.start_word (lifts_by t.watch) w high.lifts)
    t.cpu_of.items
    t.threads.items
    high.threads
    h.script.couples
    h.seen
