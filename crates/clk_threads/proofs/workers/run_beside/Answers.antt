use mathlib.Core.List.{[], ◌∷◌}
use mir.Syntax.{named}
use denote.Param.{param}
use denote.Param.Send.{sendable, shr_send}
use denote.Ref.{ShrRef}
use Rattle.clk_base.proofs.Sent.{captures_send}
use Rattle.clk_num.specs.contracts.list.List
use Rattle.clk_worker.specs.contracts.shared.Shared
use Rattle.clk_worker.specs.contracts.worker.Worker
use Rattle.clk_threads.proofs.Sent.{workers_sent, shared_shared}
use Rattle.clk_threads.proofs.workers.run_beside.Goals as goal

-- rt, the shared things, the workers, the gate
pub join-requires-send-F : goal.join-requires-send-F
join-requires-send-F g c κs within =
    let l = named 0 in
    let s = captures_send 1
    (ShrRef l κs.1.1.1.1.1.1.0 (param 0 g.row.R) ∷ ShrRef l κs.1.1.1.1.1.1.1.0 Shared.the_row ∷ List.the_row Worker.the_row
    ∷ ShrRef l κs.1.1.1.1.1.1.1.1.0 (param 1 g.row.G) ∷ [])
    (shr_send l _ _ c.type_bounds.sync-R, (shr_send l _ _ shared_shared, (workers_sent, (shr_send l _ _ c.type_bounds.sync-G, tt)))) in
    record { owned = s.owned; leaving = s.leaving }

pub join-requires-send-A : goal.join-requires-send-A
join-requires-send-A g c κs within = search (sendable, workers_sent) depth 20
