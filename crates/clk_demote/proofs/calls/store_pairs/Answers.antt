use Rattle.std.proofs.Common.{◌≡◌, ap, sym, ◌∙◌, subst, rules, arith, to_z-of_z, FitsSigned, w64}
use Rattle.clk_words.specs.declared.view.View.{View}
use Rattle.clk_words.specs.Held.{Place}
use Rattle.clk_words.proofs.Demoting.{HasStored}
use Rattle.clk_demote.proofs.Copying.{pairs_are}
use Rattle.clk_demote.proofs.ContextKept.{still_unlifted}
use Rattle.clk_demote.proofs.calls.store_pairs.Goals as goal

pub returns-clause-cloned : goal.returns-clause-cloned
returns-clause-cloned c = λ r low.
    let all : c.loop-cpu.seat.view.start.cpus ≡ c.args.cpus = ap (λ (p : Place). p.start.cpus) c.loop-cpu.invariant.own ∙ c.requires.cpus in
    let gtod : FitsSigned w64 c.args.gtod = search rules in
    let raw : FitsSigned w64 c.args.raw = search rules in
    let view = simp to_z-of_z at c.loop-cpu.invariant.view in
    subst (λ (u : View). HasStored u r) (sym view)
    (pairs_are c.loop-cpu.cpu c.args.gtod c.args.raw c.args.seat.now.view r (omega (arith, low, all, c.loop-cpu-test.false)))

pub returns-clause-unlifted : goal.returns-clause-unlifted
returns-clause-unlifted c =
    let view = c.loop-cpu.invariant.view in
    still_unlifted c.args.seat.now.view c.loop-cpu.seat.view (ap (λ (u : View). u.start) view) (ap (λ (u : View). u.seen) view)
