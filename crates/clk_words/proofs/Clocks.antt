-- The history part: what each step does to it.
use Rattle.std.proofs.Common.{◌≡◌, ◌≢◌, ℕ, zero, suc, ◌+◌, ◌<◌, ◌≤◌, ◌⊎◌, Bool, true, false, cond, List, [], ◌∷◌, ◌++◌, length, get_or, set, nat_eq, nat_lt, All, refl, sym, ap, ◌∙◌, subst, arith, get_or-set_same, get_or-set_other, length-set, eq-eqb, ne_eqb, ltb-true, ltb-false, inl, inr, ⊎_elim}
use Rattle.std.proofs.lemmas.List.Elements.{All-nil, All-cons, All-head, All-tail, All-push, All-append, All-weaker}
use mathlib.Core.Option.{some}
use mathlib.Core.Logic.{dite}
use native.Mathlib.Decide.{ℕ_discrete}
use lib.ListN.{get_elem?}
use Rattle.clk_record.specs.declared.step.Step.{Step}
use Rattle.clk_words.specs.declared.opening.Start.{Start}
use Rattle.clk_words.specs.declared.view.View.{View}
use Rattle.clk_words.specs.declared.view.Load.{Load}
use Rattle.clk_words.specs.declared.view.PairView.{PairView}
use Rattle.clk_words.specs.declared.kind.SeatKind.{SeatKind}
use Rattle.clk_words.specs.Fronts.{Begins}
use Rattle.clk_words.specs.Histories.{opens_at, value_after, Follows, IsGlobalHistory, steps_by}
use Rattle.clk_words.specs.Heights.{IsClockWord}
use Rattle.clk_words.specs.Views.{own_lists, giver_view, given_view, joint_view, spent_view, longer, joint_made}
use Rattle.clk_words.specs.Knowing.{IsGood}
use Rattle.clk_words.specs.WordsRule.{IsOwn, Fits, HistoryPart}
use Rattle.clk_words.proofs.Fronts.{begins_self, begins_more, begins_through, begins_shorter}
use Rattle.clk_words.proofs.Replay.{value_here, value_else, range_more, legal_more, legal_front, by_append, by_here, by_else, by_fresh, by_between}
use Rattle.clk_words.proofs.Places.{placed, grown, times, times_here, times_append, times_none, none_times}

-- a view that has seen more, and whose loads and pairs may have changed
pub fits_seen : (start : Start) (history : List Step) (made : ℕ) (holder : ℕ → ℕ) (splitter j : ℕ) (v : View) (front : List Step) (loads : List Load) (pairs : PairView)
    → Fits start history made holder splitter j v → Begins v.seen front → Begins front history
    → Fits start history made holder splitter j (record v { seen = front; loads = loads; pairs = pairs })
fits_seen start history made holder splitter j v front loads pairs fits p q = record {
  start_is = fits.start_is;
  front = q;
  lists = All-weaker (λ (own : ℕ × List Step). IsOwn history made holder j v.seen own.0 own.1) (λ (own : ℕ × List Step). IsOwn history made holder j front own.0 own.1)
      (λ own is. record {
        was_made = is.was_made;
        held = is.held;
        in_history = is.in_history;
        in_front = by_between own.0 v.seen front history own.1 p q is.in_front is.in_history;
      }) (own_lists v) fits.lists;
  single = fits.single;
  splits = fits.splits;
  told_is = All-weaker (λ (f : List Step). Begins f v.seen) (λ (f : List Step). Begins f front) (λ f b. begins_through f v.seen front b p) v.told fits.told_is;
}

-- what a fitting view says by itself
pub fits_good : (start : Start) (history : List Step) (made : ℕ) (holder : ℕ → ℕ) (splitter j : ℕ) (v : View)
    → IsGlobalHistory start history → Fits start history made holder splitter j v → IsGood v
fits_good start history made holder splitter j v legal fits = record {
  legal = subst (λ o. IsGlobalHistory o v.seen) (sym fits.start_is) (legal_front start v.seen history fits.front legal);
  lists = All-weaker (λ (own : ℕ × List Step). IsOwn history made holder j v.seen own.0 own.1) (λ (own : ℕ × List Step). steps_by own.0 v.seen ≡ own.1)
      (λ own is. is.in_front) (own_lists v) fits.lists;
}

-- one view changes
pub clocks_view : (start : Start) (history : List Step) (made : ℕ) (holder : ℕ → ℕ) (splitter : ℕ) (words : List ℕ) (views : List View) (id : ℕ) (w : View)
    → HistoryPart start history made holder splitter words views → (w.live ≡ true → Fits start history made holder splitter id w)
    → HistoryPart start history made holder splitter words (set views id w)
clocks_view start history made holder splitter words views id w part fits = record {
  legal = part.legal;
  made_by = part.made_by;
  clocks = part.clocks;
  range = part.range;
  each =
      let P : ℕ → View → Type 0 = λ j u. u.live ≡ true → Fits start history made holder splitter j u in
      placed P P views id w part.each (λ j u ne p. p) fits;
}

-- the words behind the clocks may change
pub clocks_words : (start : Start) (history : List Step) (made : ℕ) (holder : ℕ → ℕ) (splitter : ℕ) (words : List ℕ) (views : List View) (i n : ℕ)
    → start.cpus ≤ i → HistoryPart start history made holder splitter words views → HistoryPart start history made holder splitter (set words i n) views
clocks_words start history made holder splitter words views i n high part = record {
  legal = part.legal;
  made_by = part.made_by;
  range = part.range;
  each = part.each;
  clocks = λ w low. let ne : w ≢ i = omega arith in rw (get_or-set_other words i w n 0 ne) (part.clocks w low);
}

-- a step of another seat
fits_other : (start : Start) (history : List Step) (made : ℕ) (holder : ℕ → ℕ) (splitter id j : ℕ) (v : View) (s : Step)
    → holder s.by ≡ id → j ≢ id → Fits start history made holder splitter j v → Fits start (history ++ s ∷ []) made holder splitter j v
fits_other start history made holder splitter id j v s held ne fits = record {
  start_is = fits.start_is;
  front = begins_more v.seen history (s ∷ []) fits.front;
  lists = All-weaker (λ (own : ℕ × List Step). IsOwn history made holder j v.seen own.0 own.1) (λ (own : ℕ × List Step). IsOwn (history ++ s ∷ []) made holder j v.seen own.0 own.1)
      (λ own is. record {
        was_made = is.was_made;
        held = is.held;
        in_history = by_else own.0 history s (λ e. ne (sym is.held ∙ ap holder (sym e) ∙ held)) ∙ is.in_history;
        in_front = is.in_front;
      }) (own_lists v) fits.lists;
  single = fits.single;
  splits = fits.splits;
  told_is = fits.told_is;
}

-- a step of the seat itself
abbrev pub makes_view : View → List Step → Step → View
makes_view v between s = record v { seen = (v.seen ++ between) ++ s ∷ []; mine = v.mine ++ s ∷ [] }

fits_mine : (start : Start) (history : List Step) (made : ℕ) (holder : ℕ → ℕ) (splitter id : ℕ) (v : View) (s : Step) (between : List Step)
    → history ≡ v.seen ++ between → s.by ≡ v.number → Fits start history made holder splitter id v
    → Fits start (history ++ s ∷ []) made holder splitter id (makes_view v between s)
fits_mine start history made holder splitter id v s between e by fits =
    let whole : (v.seen ++ between) ++ s ∷ [] ≡ history ++ s ∷ [] = ap (λ zs. zs ++ s ∷ []) (sym e) in
    let all = fits.lists in
    let first : IsOwn history made holder id v.seen v.number v.mine =
    All-head (λ (own : ℕ × List Step). IsOwn history made holder id v.seen own.0 own.1) (v.number, v.mine) v.joined all in
    let others : All (λ (own : ℕ × List Step). IsOwn history made holder id v.seen own.0 own.1) v.joined =
    All-tail (λ (own : ℕ × List Step). IsOwn history made holder id v.seen own.0 own.1) (v.number, v.mine) v.joined all in
    let none : times v.number v.joined ≡ 0 = omega (arith, fits.single v.number, times_here v.number v.mine v.joined) in
    let apart = times_none v.number v.joined none in
    let mine : steps_by v.number (history ++ s ∷ []) ≡ v.mine ++ s ∷ [] = by_here v.number history s by ∙ ap (λ zs. zs ++ s ∷ []) first.in_history in
    let Q : ℕ × List Step → Type 0 = λ own. IsOwn (history ++ s ∷ []) made holder id ((v.seen ++ between) ++ s ∷ []) own.0 own.1 in
    record {
      start_is = fits.start_is;
      front = subst (λ zs. Begins zs (history ++ s ∷ [])) (sym whole) (begins_self (history ++ s ∷ []));
      lists = All-cons Q (v.number, v.mine ++ s ∷ []) v.joined
          (record { was_made = first.was_made; held = first.held; in_history = mine; in_front = ap (steps_by v.number) whole ∙ mine })
          (λ k d l.
          let is = others k d l in
          let n = (get_or v.joined k d).0 in
          let away : s.by ≢ n = λ h. apart k d l (sym h ∙ by) in
          let kept = by_else n history s away ∙ is.in_history in
          record { was_made = is.was_made; held = is.held; in_history = kept; in_front = ap (steps_by n) whole ∙ kept });
      single = fits.single;
      splits = fits.splits;
      told_is =
          All-weaker (λ (f : List Step). Begins f v.seen) (λ (f : List Step). Begins f ((v.seen ++ between) ++ s ∷ []))
          (λ f b. begins_more f (v.seen ++ between) (s ∷ []) (begins_more f v.seen between b)) v.told fits.told_is;
    }

pub clocks_makes : (start : Start) (history : List Step) (made : ℕ) (holder : ℕ → ℕ) (splitter : ℕ) (words : List ℕ) (views : List View) (id n : ℕ) (v : View) (s : Step) (between : List Step)
    → HistoryPart start history made holder splitter words views → get_elem? views id ≡ some v → v.live ≡ true
    → history ≡ v.seen ++ between → s.by ≡ v.number → s.word < length words → Follows start history s → IsClockWord start s.new n
    → HistoryPart start (history ++ s ∷ []) made holder splitter (set words s.word n) (set views id (makes_view v between s))
clocks_makes start history made holder splitter words views id n v s between part at live e by wide follows word =
    let fits = part.each id v at live in
    let first : IsOwn history made holder id v.seen v.number v.mine =
    All-head (λ (own : ℕ × List Step). IsOwn history made holder id v.seen own.0 own.1) (v.number, v.mine) v.joined fits.lists in
    let held : holder s.by ≡ id = ap holder by ∙ first.held in
    let below : s.by < made = subst (λ k. k < made) (sym by) first.was_made in
    let P : ℕ → View → Type 0 = λ j u. u.live ≡ true → Fits start history made holder splitter j u in
    let Q : ℕ → View → Type 0 = λ j u. u.live ≡ true → Fits start (history ++ s ∷ []) made holder splitter j u in
    record {
      legal = legal_more start history s part.legal follows;
      made_by = All-push (λ (t : Step). t.by < made) history s part.made_by below;
      clocks = λ w low.
          dite (ℕ_discrete w s.word)
          (λ h. subst (λ k. IsClockWord start (value_after (opens_at start) k (history ++ s ∷ [])) (get_or (set words s.word n) k 0)) (sym h)
          (rw (get_or-set_same words s.word n 0 wide, value_here (opens_at start) s.word history s refl) word))
          (λ k. let away : s.word ≢ w = λ h. k (sym h) in
          rw (get_or-set_other words s.word w n 0 k, value_else (opens_at start) w history s away) (part.clocks w low));
      range = range_more start history s follows.range part.range;
      each = placed P Q views id (makes_view v between s) part.each
          (λ j u ne p alive. fits_other start history made holder splitter id j u s held ne (p alive))
          (λ alive. fits_mine start history made holder splitter id v s between e by fits);
    }

-- a split: the new seat stands at the end of the views, under the next number
abbrev after_split : (ℕ → ℕ) → ℕ → ℕ → ℕ → ℕ
after_split holder made place n = cond (nat_eq n made) place (holder n)

split_old : (holder : ℕ → ℕ) (made place n : ℕ) → n < made → after_split holder made place n ≡ holder n
split_old holder made place n low = let t = ne_eqb n made (λ h. omega arith) in rw t refl

split_new : (holder : ℕ → ℕ) (made place : ℕ) → after_split holder made place made ≡ place
split_new holder made place = let t = eq-eqb made made refl in rw t refl

-- own lists after a split
own_split : (history : List Step) (made place j : ℕ) (holder : ℕ → ℕ) (front : List Step) (owns : List (ℕ × List Step))
    → All (λ own. IsOwn history made holder j front own.0 own.1) owns
    → All (λ own. IsOwn history (made + 1) (after_split holder made place) j front own.0 own.1) owns
own_split history made place j holder front owns all =
    All-weaker (λ (own : ℕ × List Step). IsOwn history made holder j front own.0 own.1)
    (λ (own : ℕ × List Step). IsOwn history (made + 1) (after_split holder made place) j front own.0 own.1)
    (λ own is. record {
      was_made = omega (arith, is.was_made);
      held = split_old holder made place own.0 is.was_made ∙ is.held;
      in_history = is.in_history;
      in_front = is.in_front;
    }) owns all

one_time : (n m : ℕ) (b : List Step) → times n ((m, b) ∷ []) ≤ 1
one_time n m b =
    dite (ℕ_discrete m n)
    (λ e. let t = eq-eqb m n e in rw t (omega arith))
    (λ k. let t = ne_eqb m n k in rw t (omega arith))

pub clocks_split : (start : Start) (history : List Step) (made : ℕ) (holder : ℕ → ℕ) (splitter : ℕ) (words : List ℕ) (views : List View) (id : ℕ) (v : View) (kind : SeatKind)
    → HistoryPart start history made holder splitter words views → get_elem? views id ≡ some v → v.live ≡ true → 0 < v.made
    → HistoryPart start history (made + 1) (after_split holder made (length views)) splitter words (set views id (giver_view kind v) ++ given_view kind v ∷ [])
clocks_split start history made holder splitter words views id v kind part at live may =
    let fits = part.each id v at live in
    let has = fits.splits may in
    let place = length views in
    let number : v.made ≡ made = has.0 in
    let wide : length (set views id (giver_view kind v)) ≡ place = length-set views id (giver_view kind v) in
    let P : ℕ → View → Type 0 = λ j u. u.live ≡ true → Fits start history made holder splitter j u in
    let Q : ℕ → View → Type 0 = λ j u. u.live ≡ true → Fits start history (made + 1) (after_split holder made place) splitter j u in
    record {
      legal = part.legal;
      made_by = All-weaker (λ (t : Step). t.by < made) (λ (t : Step). t.by < made + 1) (λ t low. omega arith) history part.made_by;
      clocks = part.clocks;
      range = part.range;
      each = grown Q Q (set views id (giver_view kind v)) (given_view kind v)
          (placed P Q views id (giver_view kind v) part.each
          (λ j u ne p alive. let f = p alive in record {
            start_is = f.start_is;
            front = f.front;
            single = f.single;
            told_is = f.told_is;
            lists = own_split history made place j holder u.seen (own_lists u) f.lists;
            splits = λ more. absurd (ne ((f.splits more).1 ∙ sym has.1));
          })
          (λ alive. record {
            start_is = fits.start_is;
            front = fits.front;
            single = fits.single;
            told_is = fits.told_is;
            lists = own_split history made place id holder v.seen (own_lists v) fits.lists;
            splits = λ more. (ap (λ k. k + 1) number, has.1);
          }))
          (λ j u p. p)
          (λ alive. record {
            start_is = fits.start_is;
            front = fits.front;
            lists = All-cons (λ (own : ℕ × List Step). IsOwn history (made + 1) (after_split holder made place) (length (set views id (giver_view kind v))) v.seen own.0 own.1)
                (v.made, []) []
                (record {
                  was_made = omega (arith, number);
                  held = ap (after_split holder made place) number ∙ split_new holder made place ∙ sym wide;
                  in_history = ap (λ k. steps_by k history) number ∙ by_fresh made history part.made_by;
                  in_front = ap (λ k. steps_by k v.seen) number
                      ∙ by_front made v.seen history fits.front (by_fresh made history part.made_by);
                })
                (All-nil (λ (own : ℕ × List Step). IsOwn history (made + 1) (after_split holder made place) (length (set views id (giver_view kind v))) v.seen own.0 own.1));
            single = λ n. one_time n v.made [];
            splits = λ more. absurd (omega arith);
            told_is = All-nil (λ (f : List Step). Begins f v.seen);
          });
    }
  where
    none_front : (xs ys : List Step) → xs ++ ys ≡ [] → xs ≡ []
    none_front [] ys h = refl
    none_front (x ∷ xs) ys h = absurd (cc)

    by_front : (n : ℕ) (front whole : List Step) → Begins front whole → steps_by n whole ≡ [] → steps_by n front ≡ []
    by_front n front whole b e = none_front (steps_by n front) (steps_by n b.rest) (sym (by_append n front b.rest) ∙ sym (ap (steps_by n) b.is) ∙ e)

-- a join: the numbers of the second seat are held by the first
abbrev after_join : (ℕ → ℕ) → ℕ → ℕ → ℕ → ℕ
after_join holder id other n = cond (nat_eq (holder n) other) id (holder n)

join_moved : (holder : ℕ → ℕ) (id other n : ℕ) → holder n ≡ other → after_join holder id other n ≡ id
join_moved holder id other n e = let t = eq-eqb (holder n) other e in rw t refl

join_kept : (holder : ℕ → ℕ) (id other n : ℕ) → holder n ≢ other → after_join holder id other n ≡ holder n
join_kept holder id other n k = let t = ne_eqb (holder n) other k in rw t refl

-- own lists of a seat that takes no part, and of the two that do
own_kept : (history : List Step) (made id other j k : ℕ) (holder : ℕ → ℕ) (front whole : List Step) (owns : List (ℕ × List Step))
    → Begins front whole → Begins whole history → ((n : ℕ) → holder n ≡ j → after_join holder id other n ≡ k)
    → All (λ own. IsOwn history made holder j front own.0 own.1) owns
    → All (λ own. IsOwn history made (after_join holder id other) k whole own.0 own.1) owns
own_kept history made id other j k holder front whole owns p q moves all =
    All-weaker (λ (own : ℕ × List Step). IsOwn history made holder j front own.0 own.1)
    (λ (own : ℕ × List Step). IsOwn history made (after_join holder id other) k whole own.0 own.1)
    (λ own is. record {
      was_made = is.was_made;
      held = moves own.0 is.held;
      in_history = is.in_history;
      in_front = by_between own.0 front whole history own.1 p q is.in_front is.in_history;
    }) owns all

-- the longer of two beginnings, and that both begin it
pub longer_case : (xs ys : List Step) → ((longer xs ys ≡ ys) × (length xs < length ys)) ⊎ ((longer xs ys ≡ xs) × (length ys ≤ length xs))
longer_case xs ys = at (nat_lt (length xs) (length ys)) refl
  where
    at : (b : Bool) → nat_lt (length xs) (length ys) ≡ b → ((longer xs ys ≡ ys) × (length xs < length ys)) ⊎ ((longer xs ys ≡ xs) × (length ys ≤ length xs))
    at true e = inl (rw e refl, ltb-true _ _ e)
    at false e = inr (rw e refl, ltb-false _ _ e)

pub longer_begins : (xs ys history : List Step) → Begins xs history → Begins ys history → Begins xs (longer xs ys) × Begins ys (longer xs ys) × Begins (longer xs ys) history
longer_begins xs ys history p q = ⊎_elim
    (λ (c : (longer xs ys ≡ ys) × (length xs < length ys)). rw c.0 (begins_shorter xs ys history p q (omega arith), begins_self ys, q))
    (λ (c : (longer xs ys ≡ xs) × (length ys ≤ length xs)). rw c.0 (begins_self xs, begins_shorter ys xs history q p c.1, p))
    (longer_case xs ys)

-- no number stands in the lists of both
single_both : (history : List Step) (made id other : ℕ) (holder : ℕ → ℕ) (front gone : List Step) (os ps : List (ℕ × List Step)) → other ≢ id
    → All (λ own. IsOwn history made holder id front own.0 own.1) os → All (λ own. IsOwn history made holder other gone own.0 own.1) ps
    → ((n : ℕ) → times n os ≤ 1) → ((n : ℕ) → times n ps ≤ 1) → (n : ℕ) → times n (os ++ ps) ≤ 1
single_both history made id other holder front gone os ps ne p q one two n =
    dite (ℕ_discrete (holder n) id)
    (λ e.
    let none = none_times (λ (own : ℕ × List Step). IsOwn history made holder other gone own.0 own.1) n ps
    (λ own is h. ne (sym is.held ∙ ap holder h ∙ e)) q in
    omega (arith, times_append n os ps, one n, none))
    (λ k.
    let none = none_times (λ (own : ℕ × List Step). IsOwn history made holder id front own.0 own.1) n os
    (λ own is h. k (ap holder (sym h) ∙ is.held)) p in
    omega (arith, times_append n os ps, two n, none))

joint_splits : (m n made id other splitter : ℕ) → other ≢ id → (0 < m → (m ≡ made) × (id ≡ splitter)) → (0 < n → (n ≡ made) × (other ≡ splitter))
    → 0 < joint_made m n → (joint_made m n ≡ made) × (id ≡ cond (nat_eq splitter other) id splitter)
joint_splits zero n made id other splitter ne p q more =
    let has = q more in (has.0, let t = eq-eqb splitter other (sym has.1) in rw t refl)
joint_splits (suc m) n made id other splitter ne p q more =
    let has = p (omega arith) in
    let some_made = ne_eqb (suc m) 0 (λ h. omega arith) in
    (rw some_made has.0, let t = ne_eqb splitter other (λ h. ne (sym h ∙ sym has.1)) in rw t has.1)

pub clocks_join : (start : Start) (history : List Step) (made : ℕ) (holder : ℕ → ℕ) (splitter : ℕ) (words : List ℕ) (views : List View) (id other : ℕ) (v w : View)
    → HistoryPart start history made holder splitter words views → get_elem? views id ≡ some v → get_elem? views other ≡ some w → other ≢ id
    → v.live ≡ true → w.live ≡ true
    → HistoryPart start history made (after_join holder id other) (cond (nat_eq splitter other) id splitter) words
    (set (set views id (joint_view v w)) other spent_view)
clocks_join start history made holder splitter words views id other v w part at there ne live alive =
    let mine = part.each id v at live in
    let yours = part.each other w there alive in
    let both = longer_begins v.seen w.seen history mine.front yours.front in
    let P : ℕ → View → Type 0 = λ j u. u.live ≡ true → Fits start history made holder splitter j u in
    let split_to = cond (nat_eq splitter other) id splitter in
    -- at the other's place nothing is asked yet
    let M : ℕ → View → Type 0 = λ j u. j ≢ other → u.live ≡ true → Fits start history made (after_join holder id other) split_to j u in
    let Q : ℕ → View → Type 0 = λ j u. u.live ≡ true → Fits start history made (after_join holder id other) split_to j u in
    let first = own_kept history made id other id id holder v.seen (longer v.seen w.seen) (own_lists v) both.0 both.2
    (λ n h. join_kept holder id other n (λ e. ne (sym e ∙ h)) ∙ h) mine.lists in
    let second = own_kept history made id other other id holder w.seen (longer v.seen w.seen) (own_lists w) both.1 both.2
    (λ n h. join_moved holder id other n h) yours.lists in
    let J : ℕ × List Step → Type 0 = λ own. IsOwn history made (after_join holder id other) id (longer v.seen w.seen) own.0 own.1 in
    let told : All (λ (f : List Step). Begins f (longer v.seen w.seen)) (v.seen ∷ w.seen ∷ []) =
    All-cons (λ (f : List Step). Begins f (longer v.seen w.seen)) v.seen (w.seen ∷ []) both.0
    (All-cons (λ (f : List Step). Begins f (longer v.seen w.seen)) w.seen [] both.1 (All-nil (λ (f : List Step). Begins f (longer v.seen w.seen)))) in
    record {
      legal = part.legal;
      made_by = part.made_by;
      clocks = part.clocks;
      range = part.range;
      each = placed M Q (set views id (joint_view v w)) other spent_view
          (placed P M views id (joint_view v w) part.each
          (λ j u away p apart up. let f = p up in record {
            start_is = f.start_is;
            front = f.front;
            single = f.single;
            told_is = f.told_is;
            lists = own_kept history made id other j j holder u.seen u.seen (own_lists u) (begins_self u.seen) f.front
                (λ n h. join_kept holder id other n (λ e. apart (sym h ∙ e)) ∙ h) f.lists;
            splits = λ more. let has = f.splits more in
                (has.0, let t = ne_eqb splitter other (λ h. apart (has.1 ∙ h)) in rw t has.1);
          })
          (λ apart up. record {
            start_is = mine.start_is;
            front = both.2;
            lists = All-append J (own_lists v) (own_lists w) first second;
            single = single_both history made id other holder v.seen w.seen (own_lists v) (own_lists w) ne mine.lists yours.lists mine.single yours.single;
            splits = joint_splits v.made w.made made id other splitter ne mine.splits yours.splits;
            told_is = told;
          }))
          (λ j u apart m. m apart)
          (λ up. absurd (cc));
    }
