use Rattle.std.proofs.Common.{[], Option, subst}
use Rattle.std.specs.List.{All}
use Rattle.std.proofs.lemmas.List.Elements.{All-head}
use Rattle.clk_lawful.specs.Checks.{listed}
use Rattle.clk_watcher.specs.Making.{Hand}
use Rattle.clk_threads.specs.Parts.{WatchCame}
use Rattle.clk_threads.proofs.run.back_watch.Goals as goal

pub back_watcher-requires-clause-came : goal.back_watcher-requires-clause-came
back_watcher-requires-clause-came c =
    let Came : Hand → Type 0 = WatchCame c.args.parts.now.prepared in
    All-head Came c.in-Some.watcher [] (subst (λ (o : Option Hand). All Came (listed o)) c.in-Some.is c.requires.came)
