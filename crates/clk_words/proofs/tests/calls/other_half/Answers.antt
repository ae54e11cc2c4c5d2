use Rattle.std.proofs.Common.{sym, subst, rules, to_z-of_z, FitsSigned, w64}
use Rattle.clk_record.specs.declared.step.Why.{Why}
use Rattle.clk_record.specs.declared.step.Why.TheVariants.{Raise}
use Rattle.clk_words.specs.Histories.{opens_at}
use Rattle.clk_words.specs.Bounds.{IsRaw}
use Rattle.clk_words.specs.Held.{Place}
use Rattle.clk_words.specs.Knowing.{IsTrusted}
use Rattle.clk_words.proofs.Loading.{trusted_half, whole_offset}
use Rattle.clk_words.proofs.Turns.{whole_gtod}
use Rattle.clk_words.proofs.tests.calls.other_half.Goals as goal

pub returns-clause-trusted : goal.returns-clause-trusted
returns-clause-trusted c =
    let raw : FitsSigned w64 c.args.raw = search rules in
    let tick_raw : FitsSigned w64 c.args.tick_raw = search rules in
    let tick_gtod : FitsSigned w64 c.load_gtod-tick_gtod.result = search rules in
    let offset : FitsSigned w64 c.load_offset-offset.result = search rules in
    let bound = subst (λ (p : Place). IsRaw (opens_at p.start) c.args.raw) (sym c.load_offset-offset.ensures.own) c.requires.raw in
    let why : Why = Raise c.args.raw c.args.tick_raw c.load_gtod-tick_gtod.result c.load_offset-offset.result in
    let trusted : IsTrusted c.load_offset-offset.new.seat.view why =
    trusted_half _ _ _ _ _ _ _ bound c.requires.loaded c.load_gtod-tick_gtod.ensures.finds c.load_offset-offset.ensures.finds in
    rw (to_z-of_z raw, to_z-of_z tick_raw, to_z-of_z tick_gtod, to_z-of_z offset)
    trusted

pub returns-clause-turn : goal.returns-clause-turn
returns-clause-turn c = λ owner whole.
    whole_offset _ _ _ c.load_offset-offset.ensures.finds (whole_gtod _ _ _ c.load_gtod-tick_gtod.ensures.finds owner whole)
