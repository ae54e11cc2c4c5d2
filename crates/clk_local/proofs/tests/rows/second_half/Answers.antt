use Rattle.std.proofs.Common.{sym, subst, rules, to_z-of_z, FitsSigned, w64}
use Rattle.clk_record.specs.declared.step.Why.{Why}
use Rattle.clk_record.specs.declared.step.Why.TheVariants.{Raise}
use Rattle.clk_words.specs.declared.opening.Start.{Start}
use Rattle.clk_words.specs.Bounds.{IsRaw}
use Rattle.clk_words.specs.Histories.{opens_at}
use Rattle.clk_words.specs.Knowing.{IsTrusted}
use Rattle.clk_words.proofs.Loading.{kept_both, kept_stamp, kept_offset, kept_clock, trusted_half, trusted_clock}
use Rattle.clk_local.proofs.ContextKept.{found_still}
use Rattle.clk_local.proofs.tests.rows.second_half.Goals as goal

pub raise-step-requires-clause-found : goal.raise-step-requires-clause-found
raise-step-requires-clause-found g c =
    let first = kept_both _ _ _ (kept_stamp _ _ _ _ _ c.load_gtod-tick_gtod.ensures.finds.finds) (kept_offset _ _ _ c.load_offset-offset.ensures.finds) in
    found_still _ _ (kept_both _ _ _ first (kept_clock _ _ _ _ c.load_clock-clock.ensures.loads)) c.requires.found

pub raise-step-requires-clause-trusted : goal.raise-step-requires-clause-trusted
raise-step-requires-clause-trusted g c =
    let raw : FitsSigned w64 c.args.raw = search rules in
    let tick_raw : FitsSigned w64 c.args.tick_raw = search rules in
    let tick_gtod : FitsSigned w64 c.load_gtod-tick_gtod.result = search rules in
    let offset : FitsSigned w64 c.load_offset-offset.result = search rules in
    let kept = kept_both _ _ _ (kept_stamp _ _ _ _ _ c.load_gtod-tick_gtod.ensures.finds.finds) (kept_offset _ _ _ c.load_offset-offset.ensures.finds) in
    let near = subst (λ (s : Start). IsRaw (opens_at s) c.args.raw) (sym kept.start_is) c.requires.raw in
    let why : Why = Raise c.args.raw c.args.tick_raw c.load_gtod-tick_gtod.result c.load_offset-offset.result in
    let trusted : IsTrusted c.load_offset-offset.new.seat.view why =
    trusted_half _ _ _ _ _ _ _ near c.requires.loaded c.load_gtod-tick_gtod.ensures.finds c.load_offset-offset.ensures.finds in
    rw (to_z-of_z raw, to_z-of_z tick_raw, to_z-of_z tick_gtod, to_z-of_z offset)
    (trusted_clock _ _ _ _ why c.load_clock-clock.ensures.loads trusted)
