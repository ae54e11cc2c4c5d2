use Rattle.std.proofs.Common.{Option, None, sym, ap, ◌∙◌, subst}
use Rattle.std.specs.List.{All}
use Rattle.std.proofs.lemmas.List.Elements.{All-nil}
use Rattle.clk_lawful.specs.Checks.{listed}
use Rattle.clk_watcher.specs.Making.{Hand}
use Rattle.clk_threads.specs.Parts.{Parts, with_watcher, WatchCame}
use Rattle.clk_threads.proofs.Taking.{run_watch}
use Rattle.clk_threads.proofs.parts.RunParts.take_watcher.Goals as goal

pub invariant_of-self : goal.invariant_of-self
invariant_of-self c =
    let p = c.self.inside.prepared.value in
    record {
      run =
          run_watch p c.self.inside.running c.take.new.self c.self.invariant.run
          (subst (λ (o : Option Hand). All (WatchCame p) (listed o)) (sym c.take.ensures.after) (All-nil (WatchCame p)));
    }

pub returns-clause-watcher : goal.returns-clause-watcher
returns-clause-watcher c = c.take.ensures.value ∙ ap (λ (r : Parts). r.watcher) c.self.view_is

pub returns-clause-came : goal.returns-clause-came
returns-clause-came c =
    let p = c.self.inside.prepared.value in
    subst (λ (r : Parts). All (WatchCame r.prepared) (listed c.take.result)) c.self.view_is
    (subst (λ (o : Option Hand). All (WatchCame p) (listed o)) (sym c.take.ensures.value) c.self.invariant.run.watcher)

pub returns-clause-parts : goal.returns-clause-parts
returns-clause-parts c =
    let p = c.self.inside.prepared.value in
    let slots = c.self.inside.running.slots.items in
    let seen : Option Hand → Parts = λ watcher. record { prepared = p; slots = slots; watcher = watcher } in
    ap seen c.take.ensures.after ∙ ap (λ (r : Parts). with_watcher None r) c.self.view_is
