use Rattle.std.proofs.Common.{◌∙◌, ap, rules}
use Rattle.clk_warp.proofs.LockSteps.{looks, draws}
use Rattle.clk_warp.proofs.Seating.{MeOf}
use Rattle.clk_warp.proofs.lock.TurnLock.draw.Goals as goal

pub load-next-requires : goal.load-next-requires
load-next-requires g c = (search rules, search rules, looks _ _ _ _ _)

pub compare_exchange-requires : goal.compare_exchange-requires
compare_exchange-requires g c =
    let me = c.load-next.ensures.2 ∙ c.loop.invariant.me_is in
    let out = c.requires.outside in (
      search rules,
      search rules,
      draws _ _ _ c.load-next.result _ out.side (ap (λ (m : MeOf). m.0.role) me ∙ out.role) (ap (λ (m : MeOf). m.0.stage) me ∙ out.away) (search rules),
    )
