-- Loads of the mode and of the offset keep the rule.
use Rattle.std.proofs.Common.{◌≡◌, ℕ, ◌+◌, ◌*◌, ℤ, ◌⊎◌, Bool, true, false, true≢false, get_or, set, cond, Some, None, Option, refl, sym, ap, ◌∙◌, subst, ⊎_elim}
use mathlib.Core.Option.{none}
use Rattle.atomic_table.specs.Table.{Me, keeps, step, Allows}
use Rattle.clk_record.specs.declared.mode.Mode.{Mode}
use Rattle.clk_record.specs.declared.mode.Mode.TheVariants.{Stable, PerCpu}
use Rattle.clk_record.specs.declared.step.Step.{Step}
use Rattle.clk_words.specs.declared.opening.Start.{Start}
use Rattle.clk_words.specs.declared.view.View.{View}
use Rattle.clk_words.specs.Histories.{opens_at}
use Rattle.clk_words.specs.Bounds.{IsOffset}
use Rattle.clk_words.specs.Views.{is_percpu, mode_of}
use Rattle.clk_words.specs.WordsRule.{Kept}
use Rattle.clk_words.specs.Told.{looked, offset_seen, LookedMode, LoadedOffset}
use Rattle.clk_words.proofs.Changing.{changed}
use Rattle.clk_words.proofs.Places.{set_same}
use Rattle.clk_words.proofs.Clocks.{clocks_view}
use Rattle.clk_words.proofs.Pairs.{pairs_view}
use Rattle.clk_words.proofs.Modes.{modes_fit, fits_looked, fits_offset}
use Rattle.clk_words.proofs.Quiet.{whole_view, quiet_view}

-- what the mode's word says
mode_is : (word : ℕ) (p : Bool) → word ≡ cond p 1 0 → is_percpu (mode_of word) ≡ p
mode_is word true e = rw e refl
mode_is word false e = rw e refl

percpu_is : (mode : Mode) → is_percpu mode ≡ true → mode ≡ PerCpu
percpu_is Stable e = absurd (cc)
percpu_is PerCpu e = refl

pub looks_mode : (start : Start) (slots id : ℕ) (me : Me Step View) → me.0.live ≡ true
    → Allows (Kept start) slots id me (3 * start.cpus) (λ n. n) (LookedMode (step slots (3 * start.cpus) 0 0 none) me)
looks_mode start slots id me live s kept homes at small =
    let v = me.0 in
    let i = 3 * start.cpus in
    let mode = mode_of (get_or s.words i 0) in
    let w : View = looked mode v in
    let fits = kept.clocks.each id v at live in
    let mine = kept.modes.each id v at in
    let is : is_percpu mode ≡ kept.percpu = mode_is (get_or s.words i 0) kept.percpu kept.modes.mode_word in (
      w,
      keeps,
      tt,
      subst (λ ws. Kept start (record { words = ws; homes = s.homes; views = set s.views id w })) (sym (set_same s.words i))
          (changed start s _ kept.chain kept.offset kept refl
          (λ stable. whole_view kept.history s.views id w (kept.whole stable) (kept.whole stable id v at))
          (λ stable. let rest = kept.quiet stable in quiet_view kept.chain s.views id w rest (rest.unknown id v at) (rest.cloned id v at))
          (clocks_view start kept.history kept.made kept.holder kept.splitter s.words s.views id w kept.clocks
          (λ alive. record { start_is = fits.start_is; front = fits.front; lists = fits.lists; single = fits.single; splits = fits.splits; told_is = fits.told_is }))
          (pairs_view start.cpus (opens_at start) kept.chain kept.writer s.words s.views id v w kept.pairs at refl)
          (modes_fit start kept.percpu kept.offset kept.watcher s.words s.views id w kept.modes
          (fits_looked kept.percpu kept.offset kept.watcher id v.modes mode is mine))),
      record {
        finds = record {
          view_is = refl;
          stays = λ found. percpu_is mode (is ∙ mine.found_is found);
          from_start = λ e. percpu_is mode (is ∙ (kept.modes.fixed (ap (λ (o : Start). o.opening.mode) (sym fits.start_is) ∙ e)).0);
          knows = λ watch. is ∙ sym (mine.knows watch);
        };
        slots_kept = refl;
      },
    )

same_offset : (offset : ℤ) (seen : Option ℤ) → (seen ≡ None) ⊎ (seen ≡ Some offset) → (y : ℤ) → seen ≡ Some y → offset ≡ y
same_offset offset seen is y e = ⊎_elim (λ (h : seen ≡ None). absurd (cc)) (λ (h : seen ≡ Some offset). cc) is

pub finds_offset : (start : Start) (slots id : ℕ) (me : Me Step View) → me.0.live ≡ true → me.0.modes.found ≡ true
    → Allows (Kept start) slots id me (3 * start.cpus + 1) (λ n. n) (LoadedOffset (step slots (3 * start.cpus + 1) 0 0 none) me)
finds_offset start slots id me live found s kept homes at small =
    let v = me.0 in
    let i = 3 * start.cpus + 1 in
    let x = kept.offset in
    let w : View = offset_seen x v in
    let fits = kept.clocks.each id v at live in
    let mine = kept.modes.each id v at in
    let percpu : kept.percpu ≡ true = mine.found_is found in (
      w,
      keeps,
      tt,
      subst (λ ws. Kept start (record { words = ws; homes = s.homes; views = set s.views id w })) (sym (set_same s.words i))
          (changed start s _ kept.chain kept.offset kept refl
          (λ stable. absurd (true≢false (sym percpu ∙ stable)))
          (λ stable. absurd (true≢false (sym percpu ∙ stable)))
          (clocks_view start kept.history kept.made kept.holder kept.splitter s.words s.views id w kept.clocks
          (λ alive. record { start_is = fits.start_is; front = fits.front; lists = fits.lists; single = fits.single; splits = fits.splits; told_is = fits.told_is }))
          (pairs_view start.cpus (opens_at start) kept.chain kept.writer s.words s.views id v w kept.pairs at refl)
          (modes_fit start kept.percpu kept.offset kept.watcher s.words s.views id w kept.modes
          (fits_offset kept.percpu kept.offset kept.watcher id v.modes percpu mine))),
      record {
        value = x;
        word_is = kept.modes.offset_word;
        finds = record {
          view_is = refl;
          same = same_offset x v.modes.offset mine.offset_is;
          from_start = λ e. (kept.modes.fixed (ap (λ (o : Start). o.opening.mode) (sym fits.start_is) ∙ e)).1 ∙ ap (λ (o : Start). o.opening.offset) (sym fits.start_is);
          range = subst (λ (o : Start). IsOffset (opens_at o) x) (sym fits.start_is) kept.modes.range;
        };
        slots_kept = refl;
      },
    )

-- the same at a place that is known by an equation
pub looks_mode_at : (start : Start) (slots id word : ℕ) (me : Me Step View) → word ≡ 3 * start.cpus → me.0.live ≡ true
    → Allows (Kept start) slots id me word (λ n. n) (LookedMode (step slots word 0 0 none) me)
looks_mode_at start slots id word me e live =
    subst (λ i. Allows (Kept start) slots id me i (λ n. n) (LookedMode (step slots i 0 0 none) me)) (sym e) (looks_mode start slots id me live)

pub finds_offset_at : (start : Start) (slots id word : ℕ) (me : Me Step View) → word ≡ 3 * start.cpus + 1 → me.0.live ≡ true → me.0.modes.found ≡ true
    → Allows (Kept start) slots id me word (λ n. n) (LoadedOffset (step slots word 0 0 none) me)
finds_offset_at start slots id word me e live found =
    subst (λ i. Allows (Kept start) slots id me i (λ n. n) (LoadedOffset (step slots i 0 0 none) me)) (sym e) (finds_offset start slots id me live found)
