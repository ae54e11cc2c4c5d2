use Rattle.std.proofs.Common.{sym, subst}
use Rattle.clk_threads.specs.Parts.{IsOpenedFrom}
use Rattle.clk_threads.specs.PartsKept.{IsRunFrom}
use Rattle.clk_threads.specs.declared.prepared.Prepared.{Prepared}
use Rattle.clk_threads.proofs.Closing.{seen_as}
use Rattle.clk_threads.proofs.Taking.{opened_run, opened_from}
use Rattle.clk_threads.proofs.parts.open_with_room.Goals as goal

pub invariant_of-parts : goal.invariant_of-parts
invariant_of-parts c =
    let running = c.begin_run-running.result.0 in
    record {
      run =
          subst (λ (p : Prepared). IsRunFrom p running) (sym c.of-from.ensures)
          (opened_run c.args.prepared c.requires.prepared running c.begin_run-running.ensures.opened);
    }

pub returns-clause-opened : goal.returns-clause-opened
returns-clause-opened c =
    let running = c.begin_run-running.result.0 in
    subst (λ (p : Prepared). IsOpenedFrom c.args.prepared (seen_as p running)) (sym c.of-from.ensures)
    (opened_from c.args.prepared c.requires.prepared running c.begin_run-running.ensures.opened)
