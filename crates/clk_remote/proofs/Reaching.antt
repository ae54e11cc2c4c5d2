-- A coupling leaves its word where it is below neither of the two values that were loaded.
use Rattle.std.proofs.Common.{◌≡◌, ℕ, ℤ, pos, Bool, true, false, cond, int_lt, refl, sym, ap, ◌∙◌, subst, arith}
use Rattle.std.proofs.lemmas.Int.{ints}
use Rattle.clk_num.specs.Wrapping.{above, IsNotBelow, raise}
use Rattle.clk_num.proofs.Heights.{above_same, above_is, raise_reaches, not_below_after}
use Rattle.clk_record.specs.declared.step.Step.{Step}
use Rattle.clk_record.specs.LowerWord.{is_lower}
use Rattle.clk_words.specs.declared.opening.Start.{Start}
use Rattle.clk_words.specs.declared.view.View.{View}
use Rattle.clk_words.specs.Bounds.{IsClock}
use Rattle.clk_words.specs.Histories.{opens_at, value_after}
use Rattle.clk_words.proofs.Replay.{clock_near, legal_range}
use Rattle.clk_local.specs.Context.{Site, Known}
use Rattle.clk_remote.specs.Coupling.{higher_value}
use Rattle.clk_remote.specs.Shows.{ShowsCoupling}
use Rattle.clk_remote.specs.Laws.{ReachesBoth}
use Rattle.clk_remote.proofs.Coupling.{shown_after}

-- the higher of two values is below neither
higher_by : (o own other : ℤ) (t : Bool) → int_lt (above other own) (pos 0) ≡ t → IsClock o own → IsClock o other
    → IsNotBelow (cond t own other) own × IsNotBelow (cond t own other) other
higher_by o own other true e p q =
    let same = above_same own in
    let back = above_is o other own (clock_near o other q) (clock_near o own p) in
    let far = above_is o own other (clock_near o own p) (clock_near o other q) in
    (omega (arith, ints), omega (arith, ints))
higher_by o own other false e p q = let same = above_same other in (omega (arith, ints), omega (arith, ints))

-- a raise to a value in range reaches it
reached : (o old value : ℤ) → IsClock o old → IsClock o value → IsNotBelow (raise old value) value
reached o old value p q =
    let near = clock_near o value q in
    let far = above_is o value old near (clock_near o old p) in
    let low = p.1 in
    let high = p.2 in
    raise_reaches old value (omega (arith, ints), omega (arith, ints))

higher_range : (o own other : ℤ) (t : Bool) → IsClock o own → IsClock o other → IsClock o (cond t own other)
higher_range o own other true p q = p
higher_range o own other false p q = q

pub reaches_both : (z : Site) (asked : ℕ) (v : Known) (own other : ℤ) (step : Step) (w : Known) → ShowsCoupling z asked v own other step w → ReachesBoth own other step w
reaches_both z asked v own other step w shows =
    let o = opens_at v.view.start in
    let half : shows.loads.half.start ≡ v.view.start = ap (λ (u : View). u.start) shows.loads.first.view_is in
    let loaded : shows.loaded.start ≡ v.view.start = ap (λ (u : View). u.start) shows.loads.second.view_is ∙ half in
    let after : w.view.start ≡ v.view.start = ap (λ (u : View). u.start) shows.raises.makes.view_is ∙ loaded in
    let mine : IsClock o own = shows.loads.first.range in
    let theirs : IsClock o other = subst (λ (s : Start). IsClock (opens_at s) other) half shows.loads.second.range in
    let old : IsClock o step.old = subst (λ (s : Start). IsClock (opens_at s) step.old) loaded shows.raises.range in
    let held = shown_after shows.loaded w.view step shows.raises in
    let new : IsClock o step.new = subst (IsClock o) held (subst (λ (s : Start). IsClock (opens_at s) (value_after (opens_at w.view.start) step.word w.view.seen)) after
    (legal_range w.view.start w.view.seen shows.raises.makes.good.legal step.word)) in
    let high = higher_value own other in
    let range : IsClock o high = higher_range o own other (is_lower other own) mine theirs in
    let above_both = higher_by o own other (is_lower other own) refl mine theirs in
    let reach : IsNotBelow step.new high = subst (λ x. IsNotBelow x high) (sym (ap (λ (s : Step). s.new) shows.step_is)) (reached o step.old high old range) in
    record {
      held = held;
      not_below_own = not_below_after o own high step.new (clock_near o own mine) (clock_near o high range) (clock_near o step.new new) above_both.0 reach;
      not_below_other = not_below_after o other high step.new (clock_near o other theirs) (clock_near o high range) (clock_near o step.new new) above_both.1 reach;
    }
