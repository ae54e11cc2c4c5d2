-- No reading of a run falls below what its thread had seen: the highest value that was seen of a word, or where the
-- word stood at first, is not higher than what the thread's view shows of it. That holds from the thread's first step
-- on, by when it has seen all lifts.
use Rattle.std.proofs.Common.{◌≡◌, ℕ, ◌^◌, ◌==◌, ℤ, pos, ◌≤ℤ◌, ◌⊎◌, inl, inr, Bool, true, false, cond, List, [], ◌∷◌, ◌++◌, refl, sym, ap, ◌∙◌, subst, arith, append_assoc, append-nil, eq-eqb, ne_eqb}
use Rattle.std.proofs.lemmas.Int.{ints}
use Rattle.std.proofs.lemmas.Grind.{flat_map-append}
use Rattle.std.proofs.lemmas.List.Sums.{fold-append}
use Rattle.std.specs.Prelude.{int_lt, fold}
use native.Mathlib.Decide.{ℕ_discrete}
use Rattle.clk_num.specs.Wrapping.{above, IsNotBelow}
use Rattle.clk_num.proofs.Heights.{above_is, above_same, not_below_after}
use Rattle.clk_machine.specs.declared.reading.RawReading.{RawReading}
use Rattle.clk_record.specs.declared.step.Step.{Step}
use Rattle.clk_words.specs.declared.opening.Start.{Start}
use Rattle.clk_words.specs.declared.view.View.{View}
use Rattle.clk_words.specs.Bounds.{IsClock}
use Rattle.clk_words.specs.Fronts.{Begins}
use Rattle.clk_words.specs.Histories.{opens_at, value_after, is_lift, HadValue, AllFollow, IsGlobalHistory}
use Rattle.clk_words.specs.Heights.{height}
use Rattle.clk_words.specs.Told.{Raises}
use Rattle.clk_words.proofs.Fronts.{begins_self, begins_through}
use Rattle.clk_words.proofs.Replay.{value_here, follow_back, legal_front, legal_range, rises, had_here, had_later, had_below}
use Rattle.clk_lawful.specs.SeenBefore.{Seen, seen_at, higher, seen_of, shown_by_kind, IsFoundAbove, IsAboveSeen, NeverFalls}
use Rattle.clk_lawful.specs.declared.event.Event.{Event}
use Rattle.clk_lawful.specs.declared.event.EventKind.{EventKind}
use Rattle.clk_lawful.specs.declared.event.EventKind.TheVariants.{Stable, Local, Couple, Stamp, Nothing, Update, Pause}
use Rattle.clk_local.specs.Context.{Site, Known}
use Rattle.clk_local.specs.Raising.{shown_on}
use Rattle.clk_local.specs.Shows.{ShowsRaised}
use Rattle.clk_worker.specs.Running.{Shows, ShowsLocal, ShowsCouple, Runs, at_call}
use Rattle.clk_worker.proofs.RunKeeping.{Fixed, IsHome, home_stays, home_looked, home_next, offset_fixed, shows_fixed, shows_grows, step_seen, runs_grows}
use Rattle.clk_worker.proofs.RunLifted.{StoodAt, stood_had, stood_passed, stood_before}
use Rattle.clk_worker.proofs.Showing.{raised_passed}

-- ---- one word

-- the highest value that was seen of a word is not higher than what it holds
pub record Sees (opening seen word : ℤ) : Type 0 where
  pub low : pos 0 ≤ℤ above seen opening
  pub under : above seen opening ≤ℤ above word opening
  pub high : above word opening ≤ℤ pos (2 ^ 60)

-- and so what is not below the word is not below it
sees_over : (opening seen word x : ℤ) → Sees opening seen word → IsClock opening x → IsNotBelow x word → IsFoundAbove opening seen x
sees_over opening seen word x s range over =
    let low = s.low in
    let under = s.under in
    let high = s.high in
    let (_, x_low, x_high) = range in
    let apart = above_is opening word seen (omega (arith, ints), omega (arith, ints)) (omega (arith, ints), omega (arith, ints)) in
    record {
      over_opening = x_low;
      over_seen =
          not_below_after opening seen word x (omega (arith, ints), omega (arith, ints)) (omega (arith, ints), omega (arith, ints))
          (omega (arith, ints), omega (arith, ints)) (omega (arith, ints, apart)) over;
    }

-- of one value more the higher one is as high as the word at most
sees_higher : (opening seen x word : ℤ) (t : Bool) → Sees opening seen word → pos 0 ≤ℤ above x opening → above x opening ≤ℤ above word opening → Sees opening (cond t x seen) word
sees_higher opening seen x word true s low under = record { low = low; under = under; high = s.high }
sees_higher opening seen x word false s low under = s

-- ---- all words

-- so it is with each word, by a history
abbrev pub SeesAll : Start → (ℕ → ℤ) → List Seen → List Step → Type 0
SeesAll start base seen history =
    (word : ℕ) → Sees (opens_at start) (seen_of (opens_at start) base word seen) (value_after (opens_at start) word history)

-- a value that the word held
held_low : (start : Start) (history : List Step) (word : ℕ) (x : ℤ) → IsGlobalHistory start history → HadValue start history word x → pos 0 ≤ℤ above x (opens_at start)
held_low start history word x legal had =
    let front = legal_front start had.front history (record { rest = had.back; is = had.history_is }) legal in
    subst (λ y. pos 0 ≤ℤ above y (opens_at start)) had.value_is (legal_range start had.front front word).1

-- before anything was seen the words are where they stood or higher
sees_first : (start : Start) (base : ℕ → ℤ) (history : List Step) → IsGlobalHistory start history → StoodAt start history base → SeesAll start base [] history
sees_first start base history legal stood word =
    let had = stood_had start history base word stood in
    let range = legal_range start history legal word in
    record { low = held_low start history word (base word) legal had; under = had_below start history word (base word) legal had; high = range.2 }

le_after : (x y z : ℤ) → x ≤ℤ y → y ≤ℤ z → x ≤ℤ z
le_after x y z p q = omega (arith, ints)

-- as the history goes on
sees_later : (start : Start) (base : ℕ → ℤ) (seen : List Seen) (front history : List Step) → Begins front history → IsGlobalHistory start history
    → SeesAll start base seen front → SeesAll start base seen history
sees_later start base seen front history begins legal all word =
    let s = all word in
    let o = opens_at start in
    let more : AllFollow start front begins.rest = follow_back start [] front begins.rest (subst (IsGlobalHistory start) begins.is legal) in
    let up : height start (value_after o word front) ≤ℤ height start (value_after o word history) =
    subst (λ (zs : List Step). height start (value_after o word front) ≤ℤ height start (value_after o word zs)) (sym begins.is)
    (rises start front begins.rest word more (legal_range start front (legal_front start front history begins legal))) in
    let range = legal_range start history legal word in
    record { low = s.low; under = le_after (above (seen_of o base word seen) o) (above (value_after o word front) o) (above (value_after o word history) o) s.under up; high = range.2 }

-- a thread that has seen nothing yet has not seen all lifts either; from its first step on its view shows what was seen
abbrev pub MaySee : Start → (ℕ → ℤ) → List Seen → List Step → Type 0
MaySee start base seen history = (seen ≡ []) ⊎ SeesAll start base seen history

sees_now : (start : Start) (base : ℕ → ℤ) (seen : List Seen) (front history : List Step) → Begins front history → IsGlobalHistory start history
    → StoodAt start history base → MaySee start base seen front → SeesAll start base seen history
sees_now start base seen front history begins legal stood (inl nothing) =
    subst (λ (xs : List Seen). SeesAll start base xs history) (sym nothing) (sees_first start base history legal stood)
sees_now start base seen front history begins legal stood (inr all) = sees_later start base seen front history begins legal all

-- one value of the word w more was seen
fold_by : (t : Bool) (f : ℤ → ℤ → ℤ) (x y : ℤ) → fold f y (cond t (x ∷ []) []) ≡ cond t (f y x) y
fold_by true f x y = refl
fold_by false f x y = refl

seen_more : (opening : ℤ) (base : ℕ → ℤ) (word w : ℕ) (seen : List Seen) (x : ℤ)
    → seen_of opening base word (seen ++ seen_at w x ∷ []) ≡ cond (w == word) (higher opening (seen_of opening base word seen) x) (seen_of opening base word seen)
seen_more opening base word w seen x =
    rw (flat_map-append (λ (v : Seen). cond (v.word == word) (v.value ∷ []) []) seen (seen_at w x ∷ []), append-nil, fold-append (higher opening) (base word))
    (fold_by (w == word) (higher opening) x (seen_of opening base word seen))

sees_added : (start : Start) (base : ℕ → ℤ) (seen : List Seen) (history : List Step) (w : ℕ) (x : ℤ) → IsGlobalHistory start history → HadValue start history w x
    → SeesAll start base seen history → SeesAll start base (seen ++ seen_at w x ∷ []) history
sees_added start base seen history w x legal had all word =
    subst (λ y. Sees o y (value_after o word history)) (sym (seen_more o base word w seen x)) (by_word (ℕ_discrete w word))
  where
    o : ℤ
    o = opens_at start

    low : pos 0 ≤ℤ above x o
    low = held_low start history w x legal had

    by_word : Dec (w ≡ word) → Sees o (cond (w == word) (higher o (seen_of o base word seen) x) (seen_of o base word seen)) (value_after o word history)
    by_word (yes e) =
        let same = eq-eqb w word e in
        let under : above x o ≤ℤ above (value_after o word history) o =
        subst (λ k. above x o ≤ℤ above (value_after o k history) o) e (had_below start history w x legal had) in
        rw same (sees_higher o (seen_of o base word seen) x (value_after o word history) (int_lt (above (seen_of o base word seen) o) (above x o)) (all word) low under)
    by_word (no n) = let differ = ne_eqb w word n in rw differ (all word)

-- ---- one event

shown_is : (start : Start) (v : View) (word : ℕ) → v.start ≡ start → shown_on word v ≡ value_after (opens_at start) word v.seen
shown_is start v word e = ap (λ (o : Start). value_after (opens_at o) word v.seen) e

-- what was found is not below what the view shows of its word, and so not below what was seen
over_seen : (start : Start) (base : ℕ → ℤ) (seen : List Seen) (u v : View) (word : ℕ) (x : ℤ) → u.start ≡ start → v.start ≡ start → SeesAll start base seen v.seen
    → IsClock (opens_at u.start) x → IsNotBelow x (shown_on word v) → IsFoundAbove (opens_at start) (seen_of (opens_at start) base word seen) x
over_seen start base seen u v word x a b all range over =
    sees_over (opens_at start) (seen_of (opens_at start) base word seen) (value_after (opens_at start) word v.seen) x (all word)
    (subst (λ (o : Start). IsClock (opens_at o) x) a range) (subst (IsNotBelow x) (shown_is start v word b) over)

-- after a step its view shows its value
step_shown : (start : Start) (v w : View) (s : Step) → Raises v s w → HadValue start w.seen s.word s.new
step_shown start v w s r =
    had_here start w.seen s.word s.new
    (ap (λ (u : View). value_after (opens_at start) s.word u.seen) r.makes.view_is ∙ value_here (opens_at start) s.word (v.seen ++ r.makes.between) s refl)

-- by a step of the thread the history has gone on
seen_on : (z : Site) (start : Start) (number : ℕ) (base : ℕ → ℤ) (seen : List Seen) (v : Known) (k : EventKind) (w : Known) → IsHome z.cpu start number v.view
    → Shows z v k w → IsGlobalHistory w.view.start w.view.seen → SeesAll start base seen v.view.seen
    → IsGlobalHistory start w.view.seen × SeesAll start base seen w.view.seen
seen_on z start number base seen v k w home h good all =
    let after = home_stays z.cpu start number v.view w.view (shows_fixed z v k w h) home in
    let legal : IsGlobalHistory start w.view.seen = subst (λ (o : Start). IsGlobalHistory o w.view.seen) after.start_is good in
    (legal, sees_later start base seen v.view.seen w.view.seen (shows_grows z v k w h).seen legal all)

-- the word is not below itself, and so not below what was seen of it
sees_word : (start : Start) (base : ℕ → ℤ) (seen : List Seen) (history : List Step) (word : ℕ) (x : ℤ) → IsGlobalHistory start history → SeesAll start base seen history
    → x ≡ value_after (opens_at start) word history → IsFoundAbove (opens_at start) (seen_of (opens_at start) base word seen) x
sees_word start base seen history word x legal all is =
    let o = opens_at start in
    let value : ℤ = value_after o word history in
    let same = above_same value in
    subst (IsFoundAbove o (seen_of o base word seen)) (sym is)
    (sees_over o (seen_of o base word seen) value value (all word) (legal_range start history legal word) (omega (arith, ints, same)))

-- what a reading had loaded before its step is the history that its view showed
loaded_seen : (z : Site) (v w : Known) (raw : RawReading) (step : Step) → (h : ShowsRaised z v raw step w) → h.loaded.seen ≡ v.view.seen
loaded_seen z v w raw step h =
    ap (λ (u : View). u.seen) h.finds_offset.view_is ∙ ap (λ (u : View). u.seen) h.finds.second.finds.view_is ∙ ap (λ (u : View). u.seen) h.finds.first.finds.view_is

-- a local reading: it found what the word held after all lifts
local_seen : (z : Site) (start : Start) (number : ℕ) (base : ℕ → ℤ) (seen : List Seen) (v w : Known) (raw : RawReading) (tick_raw tick_gtod offset old new : ℤ)
    → IsHome z.cpu start number v.view → ShowsLocal z v raw tick_raw tick_gtod offset old new w → StoodAt start w.view.seen base → MaySee start base seen v.view.seen
    → IsAboveSeen (opens_at start) base z.cpu seen (Local raw tick_raw tick_gtod offset old new) × SeesAll start base (seen ++ seen_at z.cpu new ∷ []) w.view.seen
local_seen z start number base seen v w raw tick_raw tick_gtod offset old new home h stood may =
    let o = opens_at start in
    let between : List Step = h.raised.raises.makes.between in
    let mid : List Step = v.view.seen ++ between in
    let whole : w.view.seen ≡ mid ++ h.step ∷ [] = h.raised.seen_is in
    let after = home_stays z.cpu start number v.view w.view (shows_fixed z v (Local raw tick_raw tick_gtod offset old new) w h) home in
    let legal : IsGlobalHistory start w.view.seen = subst (λ (x : Start). IsGlobalHistory x w.view.seen) after.start_is h.raised.raises.makes.good.legal in
    let to_end : Begins mid w.view.seen = record { rest = h.step ∷ []; is = whole } in
    let legal_mid : IsGlobalHistory start mid = legal_front start mid w.view.seen to_end legal in
    let other : is_lift h.step.why ≡ false = ap is_lift h.why_is in
    let stood_mid : StoodAt start mid base = stood_before start mid h.step base other (subst (λ (zs : List Step). StoodAt start zs base) whole stood) in
    let all : SeesAll start base seen mid = sees_now start base seen v.view.seen mid (record { rest = between; is = refl }) legal_mid stood_mid may in
    let loaded_start : h.raised.loaded.start ≡ start = ap (λ (f : Fixed). f.start) (offset_fixed z v w raw h.step h.raised) ∙ home.start_is in
    let word_is : h.step.word ≡ z.cpu = ap (λ (s : Step). s.word) h.raised.step_is ∙ home.cpu_is in
    let held : h.step.old ≡ value_after o z.cpu mid =
    h.raised.raises.old_is
    ∙ ap (λ (x : Start). value_after (opens_at x) h.step.word (h.raised.loaded.seen ++ between)) loaded_start
    ∙ ap (λ k. value_after o k (h.raised.loaded.seen ++ between)) word_is
    ∙ ap (λ (zs : List Step). value_after o z.cpu (zs ++ between)) (loaded_seen z v w raw h.step h.raised) in
    let over : IsFoundAbove o (seen_of o base z.cpu seen) h.step.old = sees_word start base seen mid z.cpu h.step.old legal_mid all held in
    let had : HadValue start w.view.seen z.cpu new =
    subst (λ k. HadValue start w.view.seen k new) word_is (subst (HadValue start w.view.seen h.step.word) h.new_is (step_shown start h.raised.loaded w.view h.step h.raised.raises)) in (
      subst (IsFoundAbove o (seen_of o base z.cpu seen)) h.old_is over,
      sees_added start base seen w.view.seen z.cpu new legal had (sees_later start base seen mid w.view.seen to_end legal all),
    )

-- a coupling: the values that were loaded, and that of the step
couple_seen : (z : Site) (start : Start) (number : ℕ) (base : ℕ → ℤ) (seen : List Seen) (v w : Known) (asked : ℕ) (own other : ℤ) (word : ℕ) (old new : ℤ)
    → IsHome z.cpu start number v.view → ShowsCouple z v asked own other word old new w → SeesAll start base seen v.view.seen
    → IsAboveSeen (opens_at start) base z.cpu seen (Couple asked own other word old new)
    × SeesAll start base (seen ++ seen_at z.cpu own ∷ seen_at asked other ∷ seen_at word new ∷ []) w.view.seen
couple_seen z start number base seen v w asked own other word old new home h all =
    let later = seen_on z start number base seen v (Couple asked own other word old new) w home h h.coupled.raises.makes.good.legal all in
    let loads = h.coupled.loads in
    let history : List Step = w.view.seen in
    let half_start : loads.half.start ≡ start = ap (λ (u : View). u.start) loads.first.view_is ∙ home.start_is in
    let one = over_seen start base seen v.view v.view z.cpu own home.start_is home.start_is all loads.first.range h.coupled.own_not_below in
    let two = over_seen start base seen loads.half v.view asked other half_start home.start_is all loads.second.range h.coupled.other_not_below in
    let to_loaded : Begins loads.half.seen h.coupled.loaded.seen = record { rest = loads.second.between; is = ap (λ (u : View). u.seen) loads.second.view_is } in
    let to_end : Begins h.coupled.loaded.seen history =
    record { rest = h.coupled.raises.makes.between ++ h.step ∷ []; is = step_seen h.coupled.loaded w.view h.step h.coupled.raises } in
    let own_is : value_after (opens_at start) z.cpu loads.half.seen ≡ own =
    subst (λ (o : Start). value_after (opens_at o) z.cpu loads.half.seen ≡ own) home.start_is loads.first.value_is in
    let other_is : value_after (opens_at start) asked h.coupled.loaded.seen ≡ other =
    subst (λ (o : Start). value_after (opens_at o) asked h.coupled.loaded.seen ≡ other) half_start loads.second.value_is in
    let had_own = had_later start loads.half.seen history z.cpu own (begins_through loads.half.seen h.coupled.loaded.seen history to_loaded to_end)
    (had_here start loads.half.seen z.cpu own own_is) in
    let had_other = had_later start h.coupled.loaded.seen history asked other to_end (had_here start h.coupled.loaded.seen asked other other_is) in
    let had_new : HadValue start history word new =
    subst (λ k. HadValue start history k new) h.word_is (subst (HadValue start history h.step.word) h.new_is (step_shown start h.coupled.loaded w.view h.step h.coupled.raises)) in
    let first : List Seen = seen ++ seen_at z.cpu own ∷ [] in
    let second : List Seen = first ++ seen_at asked other ∷ [] in
    let all_three : SeesAll start base (second ++ seen_at word new ∷ []) history =
    sees_added start base second history word new later.0 had_new
    (sees_added start base first history asked other later.0 had_other (sees_added start base seen history z.cpu own later.0 had_own later.1)) in
    let same : second ++ seen_at word new ∷ [] ≡ seen ++ seen_at z.cpu own ∷ seen_at asked other ∷ seen_at word new ∷ [] =
    ap (λ (xs : List Seen). xs ++ seen_at word new ∷ []) (append_assoc seen (seen_at z.cpu own ∷ []) (seen_at asked other ∷ []))
    ∙ append_assoc seen (seen_at z.cpu own ∷ seen_at asked other ∷ []) (seen_at word new ∷ []) in
    ((one, two), subst (λ (xs : List Seen). SeesAll start base xs history) same all_three)

-- where nothing was seen
sees_same : (start : Start) (base : ℕ → ℤ) (seen : List Seen) (v w : View) → w.seen ≡ v.seen → MaySee start base seen v.seen → MaySee start base (seen ++ []) w.seen
sees_same start base seen v w same may =
    subst (λ (xs : List Seen). MaySee start base xs w.seen) (sym (append-nil seen)) (subst (MaySee start base seen) (sym same) may)

-- a history that the thread's begins, in which the words stood so
record Onward (start : Start) (base : ℕ → ℤ) (history : List Step) (w : View) : Type 0 where
  begins : Begins w.seen history
  legal : IsGlobalHistory start history
  stood : StoodAt start history base

shows_seen : (z : Site) (start : Start) (number : ℕ) (base : ℕ → ℤ) (history : List Step) (seen : List Seen) (v : Known) (k : EventKind) (w : Known)
    → IsHome z.cpu start number v.view → Shows z v k w → Onward start base history w.view → MaySee start base seen v.view.seen
    → IsAboveSeen (opens_at start) base z.cpu seen k × MaySee start base (seen ++ shown_by_kind z.cpu k) w.view.seen
shows_seen z start number base history seen v (Stable raw value) w home h on may =
    (tt, sees_same start base seen v.view w.view (ap (λ (x : View). x.seen) h.stable.view_is) may)
shows_seen z start number base history seen v (Local raw tick_raw tick_gtod offset old new) w home h on may =
    let stood = stood_passed start w.view.seen history base on.legal on.begins (raised_passed z v w raw h.step h.raised) on.stood in
    let here = local_seen z start number base seen v w raw tick_raw tick_gtod offset old new home h stood may in
    (here.0, inr here.1)
shows_seen z start number base history seen v (Couple asked own other word old new) w home h on may =
    let grown : Begins v.view.seen w.view.seen = (shows_grows z v (Couple asked own other word old new) w h).seen in
    let begins = begins_through v.view.seen w.view.seen history grown on.begins in
    let stood = stood_passed start v.view.seen history base on.legal begins h.passed on.stood in
    let legal = legal_front start v.view.seen history begins on.legal in
    let all = sees_now start base seen v.view.seen v.view.seen (begins_self v.view.seen) legal stood may in
    let here = couple_seen z start number base seen v w asked own other word old new home h all in
    (here.0, inr here.1)
shows_seen z start number base history seen v (Stamp gtod_ticket gtod raw) w home h on may =
    (tt, sees_same start base seen v.view w.view (ap (λ (x : View). x.seen) h.stamps.view_is) may)
shows_seen z start number base history seen v Nothing w home h on may =
    (tt, sees_same start base seen v.view w.view (ap (λ (x : Known). x.view.seen) h.same) may)
shows_seen z start number base history seen v (Update p) w home h on may =
    (tt, sees_same start base seen v.view w.view (ap (λ (x : View). x.seen) h.view_is) may)
shows_seen z start number base history seen v (Pause ticket count) w home h on may =
    (tt, sees_same start base seen v.view w.view (ap (λ (x : View). x.seen) h.view_is) may)

-- ---- all events

falls_never : (z : Site) (start : Start) (number : ℕ) (base : ℕ → ℤ) (history : List Step) (seen : List Seen) (v : Known) (es : List Event) (w : Known)
    → IsHome z.cpu start number v.view → Runs z v es w → Onward start base history w.view → MaySee start base seen v.view.seen
    → NeverFalls (opens_at start) base z.cpu seen es
falls_never z start number base history seen v [] w home r on may = tt
falls_never z start number base history seen v (e ∷ es) w home r on may =
    let looked : MaySee start base seen r.0.view.seen = subst (MaySee start base seen) (sym (ap (λ (x : View). x.seen) r.2.view_is)) may in
    let next : Onward start base history r.1.view =
    record {
      begins = begins_through r.1.view.seen w.view.seen history (runs_grows z r.1 es w r.4).seen on.begins;
      legal = on.legal;
      stood = on.stood;
    } in
    let here = shows_seen (at_call z e.call) start number base history seen r.0 e.kind r.1 (home_looked z.cpu start number v r.0 r.2 home) r.3 next looked in
    (here.0, falls_never z start number base history (seen ++ shown_by_kind z.cpu e.kind) r.1 es w (home_next z start number v e es w r home) r.4 on here.1)

-- by any history that goes on from what the thread saw, where the words stood so in it
pub never_falls : (z : Site) (start : Start) (number : ℕ) (history : List Step) (base : ℕ → ℤ) (v : Known) (es : List Event) (w : Known) → IsHome z.cpu start number v.view
    → Runs z v es w → Begins w.view.seen history → IsGlobalHistory start history → StoodAt start history base → NeverFalls (opens_at start) base z.cpu [] es
never_falls z start number history base v es w home r begins legal stood =
    falls_never z start number base history [] v es w home r (record { begins = begins; legal = legal; stood = stood }) (inl refl)
