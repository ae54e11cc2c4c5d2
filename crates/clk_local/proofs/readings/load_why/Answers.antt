use Rattle.std.proofs.Common.{rules, to_z-of_z, FitsSigned, w64}
use Rattle.clk_words.proofs.Loading.{kept_both, kept_offset, kept_stamp}
use Rattle.clk_local.proofs.Raising.{trusted_why, found_why}
use Rattle.clk_local.proofs.readings.load_why.Goals as goal

pub returns-clause-kept : goal.returns-clause-kept
returns-clause-kept c =
    kept_both _ _ _ (kept_stamp _ _ _ _ _ c.load_raw-tick_raw.ensures.finds.finds)
    (kept_both _ _ _ (kept_stamp _ _ _ _ _ c.load_gtod-tick_gtod.ensures.finds.finds) (kept_offset _ _ _ c.load_offset-offset.ensures.finds))

pub returns-clause-trusted : goal.returns-clause-trusted
returns-clause-trusted c =
    let raw : FitsSigned w64 c.args.raw = search rules in
    let tick_raw : FitsSigned w64 c.load_raw-tick_raw.result = search rules in
    let tick_gtod : FitsSigned w64 c.load_gtod-tick_gtod.result = search rules in
    let offset : FitsSigned w64 c.load_offset-offset.result = search rules in
    rw (to_z-of_z raw, to_z-of_z tick_raw, to_z-of_z tick_gtod, to_z-of_z offset)
    (trusted_why _ _ _ _ _ _ _ _ c.requires.raw c.load_raw-tick_raw.ensures.finds c.load_gtod-tick_gtod.ensures.finds c.load_offset-offset.ensures.finds)

pub returns-clause-finds : goal.returns-clause-finds
returns-clause-finds c =
    let raw : FitsSigned w64 c.args.raw = search rules in
    let tick_raw : FitsSigned w64 c.load_raw-tick_raw.result = search rules in
    let tick_gtod : FitsSigned w64 c.load_gtod-tick_gtod.result = search rules in
    let offset : FitsSigned w64 c.load_offset-offset.result = search rules in
    rw (to_z-of_z raw, to_z-of_z tick_raw, to_z-of_z tick_gtod, to_z-of_z offset)
    (found_why _ _ _ _ _ _ _ _ c.load_raw-tick_raw.ensures.finds c.load_gtod-tick_gtod.ensures.finds c.load_offset-offset.ensures.finds)
