use Rattle.std.proofs.Common.{[], subst}
use Rattle.std.specs.List.{All}
use Rattle.std.proofs.lemmas.List.Elements.{All-head}
use Rattle.clk_lawful.specs.Checks.{listed}
use Rattle.clk_watcher.specs.Making.{BelongsTo}
use Rattle.clk_threads.proofs.workers.run_all.Goals as goal

pub run_beside-workers-requires-clause-watcher : goal.run_beside-workers-requires-clause-watcher
run_beside-workers-requires-clause-watcher g c κs within =
    All-head (BelongsTo c.args.shared.now) c.in-Some.watcher [] (subst (λ o. All (BelongsTo c.args.shared.now) (listed o)) c.in-Some.is c.requires.watcher)
