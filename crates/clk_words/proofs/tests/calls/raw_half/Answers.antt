use Rattle.std.proofs.Common.{ap, rules, to_z-of_z, FitsSigned, w64, sym, subst}
use Rattle.clk_words.specs.declared.view.View.{View}
use Rattle.clk_words.specs.declared.view.Name.TheVariants.{Raw}
use Rattle.clk_words.specs.Kinds.{cpu_of}
use Rattle.clk_words.specs.Knowing.{HasLoaded}
use Rattle.clk_words.proofs.Loading.{loaded_stamp}
use Rattle.clk_words.proofs.Turns.{whole_raw}
use Rattle.clk_words.proofs.tests.calls.raw_half.Goals as goal

pub returns-clause-loaded : goal.returns-clause-loaded
returns-clause-loaded c =
    let fits : FitsSigned w64 c.load_raw.result = search rules in
    let told = c.load_raw.ensures.finds in
    let kind = ap (λ (v : View). cpu_of v.kind) told.finds.view_is in
    rw (to_z-of_z fits)
    (subst (λ k. HasLoaded c.load_raw.new.seat.view (Raw k) c.load_raw.result) (sym kind) (loaded_stamp _ _ _ _ _ told.finds))

pub returns-clause-turn : goal.returns-clause-turn
returns-clause-turn c = λ owner whole. whole_raw _ _ _ c.load_raw.ensures.finds owner whole
