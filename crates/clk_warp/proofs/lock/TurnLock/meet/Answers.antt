use Rattle.std.proofs.Common.{rules}
use Rattle.clk_warp.proofs.LockSteps.{looks}
use Rattle.clk_warp.proofs.lock.TurnLock.meet.Goals as goal

pub load-requires : goal.load-requires
load-requires g c = (search rules, search rules, looks _ _ _ _ _)
