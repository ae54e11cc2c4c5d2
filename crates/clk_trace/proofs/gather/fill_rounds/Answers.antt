use Rattle.clk_trace.proofs.Keeping.{keeps_none, keeps_more, keeps_room}
use Rattle.clk_trace.proofs.gather.fill_rounds.Goals as goal

pub loop-round-init : goal.loop-round-init
loop-round-init c = keeps_none _ _

pub fill_round-requires-clause-room : goal.fill_round-requires-clause-room
fill_round-requires-clause-room c = keeps_room _ _ _ _ c.requires.room c.loop-round.invariant

pub loop-round-preserved : goal.loop-round-preserved
loop-round-preserved c = keeps_more _ _ _ _ _ _ c.loop-round.invariant c.fill_round.ensures
