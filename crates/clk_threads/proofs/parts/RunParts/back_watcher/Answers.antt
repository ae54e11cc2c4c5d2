use Rattle.std.proofs.Common.{Some, sym, ap, subst}
use Rattle.clk_watcher.specs.Making.{Hand}
use Rattle.clk_threads.specs.Parts.{Parts, with_watcher, WatchCame}
use Rattle.clk_threads.proofs.Taking.{run_watch, watch_stands}
use Rattle.clk_threads.proofs.parts.RunParts.back_watcher.Goals as goal

pub invariant_of-self : goal.invariant_of-self
invariant_of-self c =
    let p = c.self.inside.prepared.value in
    let h : Hand = c.args.watcher in
    record {
      run =
          run_watch p c.self.inside.running (Some h) c.self.invariant.run
          (watch_stands p h (subst (λ (r : Parts). WatchCame r.prepared h) (sym c.self.view_is) c.requires.came));
    }

pub returns : goal.returns
returns c = ap (λ (r : Parts). with_watcher (Some c.args.watcher) r) c.self.view_is
