use Rattle.std.proofs.Common.{ap, ◌∙◌, refl, rules, to_z-of_z, FitsSigned, w64}
use Rattle.clk_words.specs.Held.{Ended}
use Rattle.clk_words.specs.Histories.{opens_at, value_after}
use Rattle.clk_words.proofs.Calling.{word_here}
use Rattle.clk_words.proofs.Ending.{end_low, end_fits, end_value}
use Rattle.clk_words.proofs.closed.Closed.last.Goals as goal

pub value_at-requires : goal.value_at-requires
value_at-requires c = end_fits _ _ _ _ _ c.self.invariant.4 (end_low _ _ _ _ c.self.view_is c.requires) c.word.ensures

pub returns : goal.returns
returns c =
    let fits : FitsSigned w64 c.value_at.result = search rules in
    let opens : FitsSigned w64 c.self.inside.opens = search rules in
    let start = c.self.inside.last.value.me.0.start in
    let word = word_here start start _ c.value_at.result _ refl c.self.invariant.1 (simp to_z-of_z at c.value_at.ensures) in
    rw (to_z-of_z fits)
    (end_value start _ _ _ _ c.self.invariant.4 (end_low _ _ _ _ c.self.view_is c.requires) c.word.ensures _ fits word
    ∙ ap (λ (e : Ended). value_after (opens_at e.start) c.args.w e.history) c.self.view_is)
