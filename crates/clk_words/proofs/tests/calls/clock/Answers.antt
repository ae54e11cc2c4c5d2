use Rattle.std.proofs.Common.{rules, to_z-of_z, FitsSigned, w64}
use Rattle.clk_words.proofs.Loading.{loaded_clock, trusted_clock, whole_clock}
use Rattle.clk_words.proofs.tests.calls.clock.Goals as goal

pub returns-clause-loaded : goal.returns-clause-loaded
returns-clause-loaded c =
    let fits : FitsSigned w64 c.load_clock.result = search rules in
    let told = c.load_clock.ensures.loads in
    rw (to_z-of_z fits) (loaded_clock _ _ _ _ told)

pub returns-clause-trusted : goal.returns-clause-trusted
returns-clause-trusted c = trusted_clock _ _ _ _ _ c.load_clock.ensures.loads c.requires.trusted

pub returns-clause-turn : goal.returns-clause-turn
returns-clause-turn c = λ whole. whole_clock _ _ _ _ c.load_clock.ensures.loads whole
