use Rattle.std.proofs.Common.{rules}
use Rattle.clk_latch.proofs.Turning.{has_current}
use Rattle.clk_latch.proofs.latch.Latch.current.Goals as goal

pub returns-then-close-turn-clause-current : goal.returns-then-close-turn-clause-current
returns-then-close-turn-clause-current c =
    has_current _ _ _ _ _ _ c.begin-turn.ensures.turn (search rules) (search rules) c.if-close-turn.true (search rules) (search rules)
