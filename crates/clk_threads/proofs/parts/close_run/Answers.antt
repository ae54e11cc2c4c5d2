use Rattle.std.proofs.Common.{sym, subst}
use Rattle.clk_lawful.specs.LawfulTrace.{IsLawful}
use Rattle.clk_threads.specs.Parts.{Parts, AreBack}
use Rattle.clk_threads.proofs.Closing.{seen_as, closes, ends, writable}
use Rattle.clk_threads.proofs.Lawful.{lawful, closed_shows}
use Rattle.clk_threads.proofs.parts.close_run.Goals as goal

pub end_run-requires : goal.end_run-requires
end_run-requires c =
    closes c.parts.inside.prepared.value c.parts.inside.running c.parts.invariant.run (subst AreBack (sym c.parts.view_is) c.requires.back)

pub returns-clause-lawful : goal.returns-clause-lawful
returns-clause-lawful c =
    let p = c.parts.inside.prepared.value in
    let f = c.end_run.result in
    let back : AreBack (seen_as p c.parts.inside.running) = subst AreBack (sym c.parts.view_is) c.requires.back in
    subst (λ (r : Parts). IsLawful r.prepared.machine f.trace) c.parts.view_is
    (lawful p.machine f.trace f.closed.history (ends p c.parts.inside.running c.parts.invariant.run back f c.end_run.ensures))

pub returns-clause-closed : goal.returns-clause-closed
returns-clause-closed c =
    let p = c.parts.inside.prepared.value in
    let f = c.end_run.result in
    let back : AreBack (seen_as p c.parts.inside.running) = subst AreBack (sym c.parts.view_is) c.requires.back in
    closed_shows p.machine f.trace f.closed.history (ends p c.parts.inside.running c.parts.invariant.run back f c.end_run.ensures)

pub returns-clause-writable : goal.returns-clause-writable
returns-clause-writable c =
    let p = c.parts.inside.prepared.value in
    let back : AreBack (seen_as p c.parts.inside.running) = subst AreBack (sym c.parts.view_is) c.requires.back in
    writable p c.parts.inside.running c.parts.invariant.run back c.end_run.result c.end_run.ensures
