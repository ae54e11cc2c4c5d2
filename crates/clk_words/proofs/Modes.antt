-- The mode part: what each step does to it.
use Rattle.std.proofs.Common.{◌≡◌, ◌≢◌, ℕ, ◌+◌, ◌*◌, ◌<◌, ◌⊎◌, ℤ, Bool, true, false, true≢false, cond, not, ◌&&◌, ◌||◌, All, List, [], ◌∷◌, ◌++◌, length, set, nat_eq, Some, None, Option, refl, sym, ◌∙◌, subst, inl, inr, ⊎_elim, arith, get_or-set_same, get_or-set_other, length-set, eq-eqb, ne_eqb}
use Rattle.std.proofs.lemmas.List.Elements.{All-nil, All-cons, All-weaker}
use mathlib.Core.Option.{some}
use lib.ListN.{get_elem?}
use Rattle.clk_num.specs.Wrapping.{IsBitsOf}
use Rattle.clk_record.specs.declared.mode.Mode.{Mode}
use Rattle.clk_words.specs.declared.opening.Start.{Start}
use Rattle.clk_words.specs.declared.view.View.{View}
use Rattle.clk_words.specs.declared.view.ModeView.{ModeView}
use Rattle.clk_words.specs.declared.kind.SeatKind.{SeatKind}
use Rattle.clk_words.specs.Kinds.{is_watch}
use Rattle.clk_words.specs.Parts.{either_zero}
use Rattle.clk_words.specs.Views.{is_percpu, giver_view, given_view, joint_view, spent_view, settled_modes}
use Rattle.clk_words.specs.Histories.{opens_at}
use Rattle.clk_words.specs.Bounds.{IsOffset}
use Rattle.clk_words.specs.WordsRule.{FitsModes, ModePart}
use Rattle.clk_words.specs.Told.{looked_modes, seen_modes, put_modes, cloned_modes, published_modes}
use Rattle.clk_words.proofs.Owning.{or_cases}
use Rattle.clk_words.proofs.Places.{placed, grown}

-- one view changes, and fits still
pub modes_fit : (start : Start) (percpu : Bool) (offset : ℤ) (watcher : ℕ) (words : List ℕ) (views : List View) (id : ℕ) (w : View)
    → ModePart start percpu offset watcher words views → FitsModes percpu offset watcher id w.modes → ModePart start percpu offset watcher words (set views id w)
modes_fit start percpu offset watcher words views id w part fits =
    let P : ℕ → View → Type 0 = λ j u. FitsModes percpu offset watcher j u.modes in
    record {
      mode_word = part.mode_word;
      offset_word = part.offset_word;
      range = part.range;
      fixed = part.fixed;
      each = placed P P views id w part.each (λ j u ne p. p) fits;
    }

-- a view changes, but not in what it knows of the mode
pub modes_view : (start : Start) (percpu : Bool) (offset : ℤ) (watcher : ℕ) (words : List ℕ) (views : List View) (id : ℕ) (v w : View)
    → ModePart start percpu offset watcher words views → get_elem? views id ≡ some v → w.modes ≡ v.modes → ModePart start percpu offset watcher words (set views id w)
modes_view start percpu offset watcher words views id v w part at same =
    modes_fit start percpu offset watcher words views id w part (subst (FitsModes percpu offset watcher id) (sym same) (part.each id v at))

-- a word before the mode changes
pub modes_word : (start : Start) (percpu : Bool) (offset : ℤ) (watcher : ℕ) (words : List ℕ) (views : List View) (i n : ℕ)
    → i < 3 * start.cpus → ModePart start percpu offset watcher words views → ModePart start percpu offset watcher (set words i n) views
modes_word start percpu offset watcher words views i n low part =
    let one : 3 * start.cpus ≢ i = omega arith in
    let two : 3 * start.cpus + 1 ≢ i = omega arith in
    record {
      mode_word = rw (get_or-set_other words i (3 * start.cpus) n 0 one) part.mode_word;
      offset_word = rw (get_or-set_other words i (3 * start.cpus + 1) n 0 two) part.offset_word;
      range = part.range;
      fixed = part.fixed;
      each = part.each;
    }

-- a split hands on the watchdog's right, or not
abbrev pub watcher_after : Bool → ℕ → ℕ → ℕ
watcher_after true watcher place = place
watcher_after false watcher place = watcher

-- what the giver may hand on it has
abbrev pub HasWatch : Bool → ModeView → Type 0
HasWatch true m = m.watch ≡ true
HasWatch false m = Unit {0}

pub and_false : (a : Bool) → (a && false) ≡ true → ⊥
and_false true e = cc
and_false false e = cc

pub and_left : (a b : Bool) → (a && b) ≡ true → a ≡ true
and_left true b e = refl
and_left false b e = absurd (cc)

pub modes_split : (start : Start) (percpu : Bool) (offset : ℤ) (watcher : ℕ) (words : List ℕ) (views : List View) (id : ℕ) (v : View) (kind : SeatKind)
    → ModePart start percpu offset watcher words views → get_elem? views id ≡ some v → HasWatch (is_watch kind) v.modes
    → ModePart start percpu offset (watcher_after (is_watch kind) watcher (length views)) words (set views id (giver_view kind v) ++ given_view kind v ∷ [])
modes_split start percpu offset watcher words views id v kind part at has =
    let place = length views in
    let wide : length (set views id (giver_view kind v)) ≡ place = length-set views id (giver_view kind v) in
    let P : ℕ → View → Type 0 = λ j u. FitsModes percpu offset watcher j u.modes in
    let Q : ℕ → View → Type 0 = λ j u. FitsModes percpu offset (watcher_after (is_watch kind) watcher place) j u.modes in
    let mine = part.each id v at in
    record {
      mode_word = part.mode_word;
      offset_word = part.offset_word;
      range = part.range;
      fixed = part.fixed;
      each = grown Q Q (set views id (giver_view kind v)) (given_view kind v)
          (placed P Q views id (giver_view kind v) part.each
          (λ j u ne f. record {
            found_is = f.found_is;
            offset_is = f.offset_is;
            watches = other (is_watch kind) j u.modes has ne f;
            knows = f.knows;
            hidden = f.hidden;
            held_is = f.held_is;
            told_is = f.told_is;
          })
          (record {
            found_is = mine.found_is;
            offset_is = mine.offset_is;
            watches = giver (is_watch kind) mine;
            knows = λ h. mine.knows (and_left v.modes.watch (not (is_watch kind)) h);
            hidden = mine.hidden;
            held_is = held_still (is_watch kind) mine;
            told_is = mine.told_is;
          }))
          (λ j u q. q)
          (record {
            found_is = mine.found_is;
            offset_is = mine.offset_is;
            watches = λ h. given (is_watch kind) h ∙ sym wide;
            knows = λ h. mine.knows (has_it (is_watch kind) has h);
            hidden = mine.hidden;
            held_is = held_on (is_watch kind) has mine;
            told_is = All-nil (λ (seen : Option ℤ). (seen ≡ None) ⊎ (seen ≡ v.modes.offset));
          });
    }
  where
    other : (w : Bool) (j : ℕ) (m : ModeView) → HasWatch w v.modes → j ≢ id → FitsModes percpu offset watcher j m → m.watch ≡ true → watcher_after w watcher (length views) ≡ j
    other true j m has ne f h = absurd (ne (sym (f.watches h) ∙ (part.each id v at).watches has))
    other false j m has ne f h = f.watches h

    giver : (w : Bool) → FitsModes percpu offset watcher id v.modes → (v.modes.watch && not w) ≡ true → watcher_after w watcher (length views) ≡ id
    giver true f h = absurd (and_false v.modes.watch h)
    giver false f h = f.watches (and_left v.modes.watch true h)

    has_it : (w : Bool) → HasWatch w v.modes → w ≡ true → v.modes.watch ≡ true
    has_it true has h = has
    has_it false has h = absurd (cc)

    held_still : (w : Bool) → FitsModes percpu offset watcher id v.modes → (v.modes.watch && not w) ≡ true → cond w None v.modes.held ≡ Some offset
    held_still true f h = absurd (and_false v.modes.watch h)
    held_still false f h = f.held_is (and_left v.modes.watch true h)

    held_on : (w : Bool) → HasWatch w v.modes → FitsModes percpu offset watcher id v.modes → w ≡ true → cond w v.modes.held None ≡ Some offset
    held_on true has f h = f.held_is has
    held_on false has f h = absurd (cc)

    given : (w : Bool) → w ≡ true → watcher_after w watcher (length views) ≡ length views
    given true h = refl
    given false h = absurd (cc)

pub modes_join : (start : Start) (percpu : Bool) (offset : ℤ) (watcher : ℕ) (words : List ℕ) (views : List View) (id other : ℕ) (v w : View)
    → ModePart start percpu offset watcher words views → get_elem? views id ≡ some v → get_elem? views other ≡ some w → other ≢ id
    → ModePart start percpu offset (cond (nat_eq watcher other) id watcher) words (set (set views id (joint_view v w)) other spent_view)
modes_join start percpu offset watcher words views id other v w part at there ne =
    let moved = cond (nat_eq watcher other) id watcher in
    let P : ℕ → View → Type 0 = λ j u. FitsModes percpu offset watcher j u.modes in
    let M : ℕ → View → Type 0 = λ j u. j ≢ other → FitsModes percpu offset moved j u.modes in
    let Q : ℕ → View → Type 0 = λ j u. FitsModes percpu offset moved j u.modes in
    let T : Option ℤ → Type 0 = λ seen. (seen ≡ None) ⊎ (seen ≡ either_zero v.modes.offset w.modes.offset) in
    let mine = part.each id v at in
    let yours = part.each other w there in
    record {
      mode_word = part.mode_word;
      offset_word = part.offset_word;
      range = part.range;
      fixed = part.fixed;
      each = placed M Q (set views id (joint_view v w)) other spent_view
          (placed P M views id (joint_view v w) part.each
          (λ j u away f apart. record {
            found_is = f.found_is;
            offset_is = f.offset_is;
            watches = λ h. let t = ne_eqb watcher other (λ e. apart (sym (f.watches h) ∙ e)) in rw t (f.watches h);
            knows = f.knows;
            hidden = f.hidden;
            held_is = f.held_is;
            told_is = f.told_is;
          })
          (λ apart. record {
            found_is = λ h. ⊎_elim mine.found_is yours.found_is (or_cases v.modes.found w.modes.found h);
            offset_is = either v.modes.offset w.modes.offset mine.offset_is yours.offset_is;
            watches = λ h. ⊎_elim
                (λ (k : v.modes.watch ≡ true). let t = ne_eqb watcher other (λ e. ne (sym e ∙ mine.watches k)) in rw t (mine.watches k))
                (λ (k : w.modes.watch ≡ true). let t = eq-eqb watcher other (yours.watches k) in rw t refl)
                (or_cases v.modes.watch w.modes.watch h);
            knows = λ h. joint_found percpu v.modes.found w.modes.found mine.found_is yours.found_is
                (⊎_elim (λ (k : v.modes.watch ≡ true). inl (mine.knows k)) (λ (k : w.modes.watch ≡ true). inr (yours.knows k)) (or_cases v.modes.watch w.modes.watch h));
            hidden = λ stable. both_none v.modes.offset w.modes.offset (mine.hidden stable) (yours.hidden stable);
            held_is = held_by v.modes.watch w.modes.watch v.modes.held w.modes.held mine.held_is yours.held_is;
            told_is = All-cons T v.modes.offset (w.modes.offset ∷ []) (first_kept v.modes.offset w.modes.offset)
                (All-cons T w.modes.offset [] (second_kept v.modes.offset w.modes.offset mine.offset_is yours.offset_is) (All-nil T));
          }))
          (λ j u apart q. q apart)
          (record {
            found_is = λ h. absurd (cc);
            offset_is = inl refl;
            watches = λ h. absurd (cc);
            knows = λ h. absurd (cc);
            hidden = λ stable. refl;
            held_is = λ h. absurd (cc);
            told_is = All-nil (λ (seen : Option ℤ). (seen ≡ None) ⊎ (seen ≡ None));
          });
    }
  where
    either : (x y : Option ℤ) → (x ≡ None) ⊎ (x ≡ Some offset) → (y ≡ None) ⊎ (y ≡ Some offset) → (either_zero x y ≡ None) ⊎ (either_zero x y ≡ Some offset)
    either None y h g = g
    either (Some x) y h g = h

    joint_found : (p a b : Bool) → (a ≡ true → p ≡ true) → (b ≡ true → p ≡ true) → (a ≡ p) ⊎ (b ≡ p) → (a || b) ≡ p
    joint_found p true b f g h = sym (f refl)
    joint_found p false true f g h = sym (g refl)
    joint_found p false false f g h = ⊎_elim (λ (e : false ≡ p). e) (λ (e : false ≡ p). e) h

    both_none : (x y : Option ℤ) → x ≡ None → y ≡ None → either_zero x y ≡ None
    both_none x y e f = rw e f

    held_by : (a b : Bool) (x y : Option ℤ) → (a ≡ true → x ≡ Some offset) → (b ≡ true → y ≡ Some offset) → (a || b) ≡ true → cond a x y ≡ Some offset
    held_by true b x y f g h = f refl
    held_by false b x y f g h = g h

    first_kept : (x y : Option ℤ) → (x ≡ None) ⊎ (x ≡ either_zero x y)
    first_kept None y = inl refl
    first_kept (Some x) y = inr refl

    second_kept : (x y : Option ℤ) → (x ≡ None) ⊎ (x ≡ Some offset) → (y ≡ None) ⊎ (y ≡ Some offset) → (y ≡ None) ⊎ (y ≡ either_zero x y)
    second_kept None y f g = inr refl
    second_kept (Some x) y f g = ⊎_elim (λ (e : y ≡ None). inl e)
        (λ (e : y ≡ Some offset). inr (⊎_elim (λ (k : Some x ≡ None). absurd (cc)) (λ (k : Some x ≡ Some offset). e ∙ sym k) f)) g

-- a look: the word says what it finds
found_or : (p a b : Bool) → (a ≡ true → p ≡ true) → b ≡ p → (a || b) ≡ p
found_or p true b f e = sym (f refl)
found_or p false b f e = e

pub fits_looked : (percpu : Bool) (offset : ℤ) (watcher j : ℕ) (m : ModeView) (mode : Mode) → is_percpu mode ≡ percpu → FitsModes percpu offset watcher j m
    → FitsModes percpu offset watcher j (looked_modes mode m)
fits_looked percpu offset watcher j m mode is fits =
    let found = found_or percpu m.found (is_percpu mode) fits.found_is is in
    record {
      found_is = λ h. sym found ∙ h;
      offset_is = fits.offset_is;
      watches = fits.watches;
      knows = λ h. found;
      hidden = fits.hidden;
      held_is = fits.held_is;
      told_is = fits.told_is;
    }

-- what was told of the offset stays true once it is seen
told_seen : (seen : Option ℤ) (offset : ℤ) (told : List (Option ℤ)) → (seen ≡ None) ⊎ (seen ≡ Some offset) → All (λ z. (z ≡ None) ⊎ (z ≡ seen)) told
    → All (λ z. (z ≡ None) ⊎ (z ≡ Some offset)) told
told_seen seen offset told is all = All-weaker (λ (z : Option ℤ). (z ≡ None) ⊎ (z ≡ seen)) (λ (z : Option ℤ). (z ≡ None) ⊎ (z ≡ Some offset))
    (λ z h. ⊎_elim (λ (e : z ≡ None). inl e)
    (λ (e : z ≡ seen). ⊎_elim (λ (k : seen ≡ None). inl (e ∙ k)) (λ (k : seen ≡ Some offset). inr (e ∙ k)) is) h) told all

pub fits_offset : (percpu : Bool) (offset : ℤ) (watcher j : ℕ) (m : ModeView) → percpu ≡ true → FitsModes percpu offset watcher j m
    → FitsModes percpu offset watcher j (seen_modes offset m)
fits_offset percpu offset watcher j m is fits = record {
  found_is = fits.found_is;
  offset_is = inr refl;
  watches = fits.watches;
  knows = fits.knows;
  hidden = λ stable. absurd (true≢false (sym is ∙ stable));
  held_is = fits.held_is;
  told_is = told_seen m.offset offset m.told fits.offset_is fits.told_is;
}

pub fits_settled : (percpu : Bool) (offset : ℤ) (watcher j : ℕ) (m : ModeView) → FitsModes percpu offset watcher j m → FitsModes percpu offset watcher j (settled_modes m)
fits_settled percpu offset watcher j m fits = record {
  found_is = fits.found_is;
  offset_is = fits.offset_is;
  watches = fits.watches;
  knows = fits.knows;
  hidden = fits.hidden;
  held_is = fits.held_is;
  told_is = All-nil (λ (seen : Option ℤ). (seen ≡ None) ⊎ (seen ≡ m.offset));
}

pub fits_cloned : (percpu : Bool) (offset : ℤ) (watcher j r : ℕ) (x : ℤ) (m : ModeView) → FitsModes percpu offset watcher j m → FitsModes percpu offset watcher j (cloned_modes r x m)
fits_cloned percpu offset watcher j r x m fits = record {
  found_is = fits.found_is;
  offset_is = fits.offset_is;
  watches = fits.watches;
  knows = fits.knows;
  hidden = fits.hidden;
  held_is = fits.held_is;
  told_is = fits.told_is;
}

-- while the mode is stable, another offset is seen by no view
pub modes_put : (start : Start) (percpu : Bool) (offset : ℤ) (watcher : ℕ) (words : List ℕ) (views : List View) (id n : ℕ) (x : ℤ) (v w : View)
    → ModePart start percpu offset watcher words views → get_elem? views id ≡ some v → v.modes.watch ≡ true → percpu ≡ false → 3 * start.cpus + 1 < length words
    → IsBitsOf x n → IsOffset (opens_at start) x → w.modes ≡ put_modes x v.modes
    → ModePart start percpu x watcher (set words (3 * start.cpus + 1) n) (set views id w)
modes_put start percpu offset watcher words views id n x v w part at watch stable wide word range is =
    let P : ℕ → View → Type 0 = λ j u. FitsModes percpu offset watcher j u.modes in
    let Q : ℕ → View → Type 0 = λ j u. FitsModes percpu x watcher j u.modes in
    let mine = part.each id v at in
    let one : 3 * start.cpus ≢ 3 * start.cpus + 1 = omega arith in
    record {
      mode_word = rw (get_or-set_other words (3 * start.cpus + 1) (3 * start.cpus) n 0 one) part.mode_word;
      offset_word = rw (get_or-set_same words (3 * start.cpus + 1) n 0 wide) word;
      range = range;
      fixed = λ e. absurd (true≢false (sym (part.fixed e).0 ∙ stable));
      each = placed P Q views id w part.each
          (λ j u ne f. record {
            found_is = f.found_is;
            offset_is = inl (f.hidden stable);
            watches = f.watches;
            knows = f.knows;
            hidden = f.hidden;
            held_is = λ h. absurd (ne (sym (f.watches h) ∙ mine.watches watch));
            told_is = f.told_is;
          })
          (subst (FitsModes percpu x watcher id) (sym is) (record {
            found_is = mine.found_is;
            offset_is = inl (mine.hidden stable);
            watches = mine.watches;
            knows = mine.knows;
            hidden = mine.hidden;
            held_is = λ h. refl;
            told_is = mine.told_is;
          }));
    }

-- the mode becomes per-CPU
pub modes_published : (start : Start) (offset : ℤ) (watcher : ℕ) (words : List ℕ) (views : List View) (id : ℕ) (v w : View)
    → ModePart start false offset watcher words views → get_elem? views id ≡ some v → v.modes.watch ≡ true → 3 * start.cpus < length words
    → w.modes ≡ published_modes v.modes
    → ModePart start true offset watcher (set words (3 * start.cpus) 1) (set views id w)
modes_published start offset watcher words views id v w part at watch wide is =
    let P : ℕ → View → Type 0 = λ j u. FitsModes false offset watcher j u.modes in
    let Q : ℕ → View → Type 0 = λ j u. FitsModes true offset watcher j u.modes in
    let mine = part.each id v at in
    let two : 3 * start.cpus + 1 ≢ 3 * start.cpus = omega arith in
    record {
      mode_word = get_or-set_same words (3 * start.cpus) 1 0 wide;
      offset_word = rw (get_or-set_other words (3 * start.cpus) (3 * start.cpus + 1) 1 0 two) part.offset_word;
      range = part.range;
      fixed = λ e. (refl, (part.fixed e).1);
      each = placed P Q views id w part.each
          (λ j u ne f. record {
            found_is = λ h. refl;
            offset_is = f.offset_is;
            watches = f.watches;
            knows = λ h. absurd (ne (sym (f.watches h) ∙ mine.watches watch));
            hidden = λ h. absurd (cc);
            held_is = f.held_is;
            told_is = f.told_is;
          })
          (subst (FitsModes true offset watcher id) (sym is) (record {
            found_is = λ h. refl;
            offset_is = inr (mine.held_is watch);
            watches = mine.watches;
            knows = λ h. refl;
            hidden = λ h. absurd (cc);
            held_is = mine.held_is;
            told_is = All-nil (λ (seen : Option ℤ). (seen ≡ None) ⊎ (seen ≡ v.modes.held));
          }));
    }
