use Rattle.std.proofs.Common.{◌≡◌, rules, refl, sym, ap, ◌∙◌, subst, to_z-of_z, FitsSigned, w64}
use Rattle.clk_record.specs.LowerWord.{lower_word}
use Rattle.clk_words.specs.Knowing.{IsTrusted}
use Rattle.clk_words.specs.Told.{Loads}
use Rattle.clk_words.proofs.Loading.{kept_both, kept_makes}
use Rattle.clk_local.proofs.ContextKept.{role_kept, still_usable}
use Rattle.clk_remote.specs.Coupling.{coupling}
use Rattle.clk_remote.proofs.Coupling.{kept_loads, stamp_coupled, trusted_coupling, is_step, shows_coupling}
use Rattle.clk_remote.proofs.reads.couple.Goals as goal

pub raise-step-requires-clause-trusted : goal.raise-step-requires-clause-trusted
raise-step-requires-clause-trusted g c =
    let own : FitsSigned w64 c.load_clock-own.result = search rules in
    let other : FitsSigned w64 c.load_clock-other.result = search rules in
    let why = simp to_z-of_z at c.lower_of-word.ensures.why in
    subst (IsTrusted c.load_clock-other.new.seat.view) (sym why)
    (trusted_coupling _ _ _ _ _ _ _ c.load_clock-own.ensures.loads c.load_clock-other.ensures.loads)

pub returns-clause-shows : goal.returns-clause-shows
returns-clause-shows g c =
    let own : FitsSigned w64 c.load_clock-own.result = search rules in
    let other : FitsSigned w64 c.load_clock-other.result = search rules in
    let here : c.cpu-cpu.result ≡ c.args.ctx.now.counter.cpu = c.cpu-cpu.ensures.cpu ∙ sym c.requires.usable.cpu_is in
    let first = subst (λ k. Loads c.args.ctx.now.seat.view k c.load_clock-own.result c.load_clock-own.new.seat.view) here c.load_clock-own.ensures.loads in
    let kept = kept_loads _ _ _ _ _ _ _ c.load_clock-own.ensures.loads c.load_clock-other.ensures.loads in
    let word = simp to_z-of_z at c.lower_of-word.ensures.word in
    let why = simp to_z-of_z at c.lower_of-word.ensures.why in
    rw (to_z-of_z own, to_z-of_z other)
    (shows_coupling _ _ _ _ _ _ _ _ _ first c.load_clock-other.ensures.loads c.raise-step.ensures.raises
    (is_step c.args.ctx.now.seat.view c.load_clock-other.new.seat.view c.args.ctx.now.words.now.start.tick c.args.ctx.now.call c.args.ctx.now.counter.cpu
    c.args.asked c.load_clock-own.result c.load_clock-other.result c.lower_of-word.result.0 c.lower_of-word.result.1 c.raise-step.result kept (word ∙ ap (λ k. lower_word k c.args.asked c.load_clock-own.result c.load_clock-other.result) here) (why ∙ ap (λ k. coupling k c.args.asked c.load_clock-own.result c.load_clock-other.result) here) c.raise-step.ensures.step) refl refl)

pub returns-clause-keeps : goal.returns-clause-keeps
returns-clause-keeps g c =
    let loads = kept_loads _ _ _ _ _ _ _ c.load_clock-own.ensures.loads c.load_clock-other.ensures.loads in
    let kept = kept_both _ _ _ loads (kept_makes _ _ _ c.raise-step.ensures.raises.makes) in
    let role = role_kept _ _ kept in
    record {
      words = refl;
      epochs = refl;
      tickets = refl;
      site = refl;
      role = role;
      usable = still_usable _ _ _ _ _ _ c.requires.usable c.raise-step.ensures.own role c.requires.usable.of_latch refl c.requires.usable.base;
      may_stamp = stamp_coupled _ _ _ _ _ _ _ _ _ c.load_clock-own.ensures.loads c.load_clock-other.ensures.loads c.raise-step.ensures.raises;
    }
