use Rattle.std.proofs.Common.{◌∙◌, ap, rules}
use Rattle.clk_warp.proofs.LockSteps.{calls}
use Rattle.clk_warp.proofs.Seating.{MeOf}
use Rattle.clk_warp.proofs.lock.TurnLock.wait.Goals as goal

pub load-requires : goal.load-requires
load-requires g c =
    let me = c.loop.invariant.me_is in
    let waits = c.requires.waiting in
    (search rules, search rules, calls _ _ _ _ waits.side (ap (λ (m : MeOf). m.0.role) me ∙ waits.role) (ap (λ (m : MeOf). m.0.stage) me ∙ waits.waits))
