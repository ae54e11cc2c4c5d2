use Rattle.std.proofs.Common.{◌≡◌, ◌<◌, ap, sym, ◌∙◌, subst, rules, arith, to_z-of_z, FitsSigned, w64}
use Rattle.clk_words.specs.Held.{Place}
use Rattle.clk_words.specs.Knowing.{MayDemote, HasCloned}
use Rattle.clk_demote.proofs.Lifting.{lifts_more, all_lifted}
use Rattle.clk_demote.proofs.calls.lift_words.Goals as goal

pub loop-cpu-preserved : goal.loop-cpu-preserved
loop-cpu-preserved c =
    let opening : FitsSigned w64 c.args.opening = search rules in
    let all : c.args.seat.now.view.start.cpus ≡ c.args.cpus = ap (λ (p : Place). p.start.cpus) c.requires.own ∙ c.requires.cpus.0 in
    let low : c.loop-cpu.cpu < c.args.seat.now.view.start.cpus = omega (arith, all, c.loop-cpu-test.true) in
    let so = simp to_z-of_z at c.loop-cpu.invariant.so in
    let step = simp to_z-of_z at c.lift-lift.ensures.step in
    rw (to_z-of_z opening)
    (record {
      own = c.lift-lift.ensures.own;
      may = subst MayDemote (sym c.lift-lift.ensures.lifts.view_is) (record { watch = c.loop-cpu.invariant.may.watch; stable = c.loop-cpu.invariant.may.stable });
      so = lifts_more c.args.seat.now.view c.args.check c.args.opening c.loop-cpu.cpu c.loop-cpu.seat.view c.lift-lift.new.seat.view c.lift-lift.result
          c.args.lifts.now c.loop-cpu.lifts c.push.new.self low c.requires.unlifted so step c.lift-lift.ensures.lifts c.push.ensures.items c.push.ensures.room;
    })

pub returns-clause-all : goal.returns-clause-all
returns-clause-all c =
    let opening : FitsSigned w64 c.args.opening = search rules in
    let all : c.args.seat.now.view.start.cpus ≡ c.args.cpus = ap (λ (p : Place). p.start.cpus) c.requires.own ∙ c.requires.cpus.0 in
    let so = simp to_z-of_z at c.loop-cpu.invariant.so in
    all_lifted c.args.seat.now.view c.args.check c.args.opening c.loop-cpu.cpu c.loop-cpu.seat.view so.view (omega (arith, all, c.loop-cpu-test.false, c.loop-cpu.auto.cpu-end))

pub returns-clause-cloned : goal.returns-clause-cloned
returns-clause-cloned c = subst HasCloned (sym c.loop-cpu.invariant.so.view)
