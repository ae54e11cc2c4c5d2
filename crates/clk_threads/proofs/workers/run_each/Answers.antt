use Rattle.std.proofs.lemmas.List.Elements.{All-get_or}
use Rattle.std.proofs.Common.{sym, subst}
use Rattle.clk_worker.specs.Making.{BelongsTo}
use Rattle.clk_threads.proofs.workers.run_each.Goals as goal

pub for_each_mut-requires-clause-accepts : goal.for_each_mut-requires-clause-accepts
for_each_mut-requires-clause-accepts g c κs within = λ i p low at.
    subst (BelongsTo c.args.shared.now) (sym at) (All-get_or (BelongsTo c.args.shared.now) c.args.workers.now i p.now low c.requires.belong)
