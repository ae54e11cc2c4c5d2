use Rattle.std.proofs.Common.{◌∙◌, refl, sym, subst, arith}
use Rattle.clk_adjust.proofs.Going.{may_run, run_tickets, run_fits, more_fits, goes_more, goes_drawn, ended, sum_is, sum_fits}
use Rattle.clk_adjust.specs.Tickets.{HasDrawn}
use Rattle.clk_ticket.specs.Time.{Time}
use Rattle.clk_adjust.proofs.runs.test_cpu.Goals as goal

pub run_pair-requires-clause-own : goal.run_pair-requires-clause-own
run_pair-requires-clause-own g c κs within = c.loop-done.invariant.goes.draws.table ∙ c.requires.own

pub run_pair-requires-clause-adjust : goal.run_pair-requires-clause-adjust
run_pair-requires-clause-adjust g c κs within =
    may_run _ _ _ _ _ _ _ _ c.most_runs-most.ensures.few.1 c.loop-done.invariant.goes

pub run_pair-requires-clause-tickets : goal.run_pair-requires-clause-tickets
run_pair-requires-clause-tickets g c κs within =
    run_tickets _ _ _ _ _ _ _ _ c.args.part.now c.most_runs-most.ensures.count c.requires.tickets c.loop-done.invariant.goes

pub verdict-verdict-requires-clause-max : goal.verdict-verdict-requires-clause-max
verdict-verdict-requires-clause-max g c =
    let small = run_fits _ _ _ _ _ _ _ _ _ _ c.most_runs-most.ensures.few.1 c.cpus-cpus.ensures.limits c.requires.cpu.1 c.loop-done.invariant.goes
    c.in_ok-run.ensures.run in
    let max = small.max in
    omega (arith, max)

pub verdict-verdict-requires-clause-target : goal.verdict-verdict-requires-clause-target
verdict-verdict-requires-clause-target g c =
    let small = run_fits _ _ _ _ _ _ _ _ _ _ c.most_runs-most.ensures.few.1 c.cpus-cpus.ensures.limits c.requires.cpu.1 c.loop-done.invariant.goes
    c.in_ok-run.ensures.run in
    let target = small.target in
    omega (arith, target)

pub overflow_add-adjust : goal.overflow_add-adjust
overflow_add-adjust g c =
    sum_fits _ _
    (more_fits _ _ _ _ _ _ _ _ _ _ _ c.most_runs-most.ensures.few.1 c.cpus-cpus.ensures.limits c.requires.cpu.1 c.loop-done.invariant.goes
    c.in_ok-run.ensures.run (sym c.verdict-verdict.ensures ∙ c.in-Again.is))

pub returns-in_err-run-clause-drawn : goal.returns-in_err-run-clause-drawn
returns-in_err-run-clause-drawn g c =
    subst (λ (u : Time). HasDrawn c.args.machine.now c.args.time.now u) (sym c.in_err-run.ensures.back) (goes_drawn _ _ _ _ _ _ _ _ c.loop-done.invariant.goes)

pub loop-done-preserved : goal.loop-done-preserved
loop-done-preserved g c =
    let p = c.in_ok-run.ensures.run in
    let again = sym c.verdict-verdict.ensures ∙ c.in-Again.is in
    let l = c.cpus-cpus.ensures.limits in
    let goes = c.loop-done.invariant.goes in
    let fits = more_fits _ _ _ _ _ _ _ _ _ _ _ c.most_runs-most.ensures.few.1 l c.requires.cpu.1 goes p again in
    let next = goes_more _ _ _ _ _ _ _ _ _ _ _ l c.requires.cpu.1 goes p again in
    let room = c.push.ensures.room in
    let before = c.loop-done.invariant.room in
    record {
      goes = rw (sum_is _ _ fits, c.push.ensures.items) next;
      room = omega (arith, room, before);
    }

pub returns-in-Passed-clause-brings : goal.returns-in-Passed-clause-brings
returns-in-Passed-clause-brings g c =
    (ended _ _ _ _ _ _ _ _ _ _ _ _ c.args.part.now c.tested.result _ _ c.most_runs-most.ensures.count c.most_runs-most.ensures.few.1
    c.loop-done.invariant.goes c.in_ok-run.ensures.run c.push.ensures.items
    c.verdict-verdict.ensures c.in-Passed.is refl c.tested.ensures).brings

pub returns-in-Passed-clause-drawn : goal.returns-in-Passed-clause-drawn
returns-in-Passed-clause-drawn g c =
    (ended _ _ _ _ _ _ _ _ _ _ _ _ c.args.part.now c.tested.result _ _ c.most_runs-most.ensures.count c.most_runs-most.ensures.few.1
    c.loop-done.invariant.goes c.in_ok-run.ensures.run c.push.ensures.items
    c.verdict-verdict.ensures c.in-Passed.is refl c.tested.ensures).drawn

pub returns-in-Passed-clause-few : goal.returns-in-Passed-clause-few
returns-in-Passed-clause-few g c =
    (ended _ _ _ _ _ _ _ _ _ _ _ _ c.args.part.now c.tested.result _ _ c.most_runs-most.ensures.count c.most_runs-most.ensures.few.1
    c.loop-done.invariant.goes c.in_ok-run.ensures.run c.push.ensures.items
    c.verdict-verdict.ensures c.in-Passed.is refl c.tested.ensures).few

pub returns-in-Failed-clause-brings : goal.returns-in-Failed-clause-brings
returns-in-Failed-clause-brings g c =
    (ended _ _ _ _ _ _ _ _ _ _ _ _ c.args.part.now c.tested-in-Failed.result _ _ c.most_runs-most.ensures.count c.most_runs-most.ensures.few.1
    c.loop-done.invariant.goes c.in_ok-run.ensures.run c.push.ensures.items
    c.verdict-verdict.ensures c.in-Failed.is refl c.tested-in-Failed.ensures).brings

pub returns-in-Failed-clause-drawn : goal.returns-in-Failed-clause-drawn
returns-in-Failed-clause-drawn g c =
    (ended _ _ _ _ _ _ _ _ _ _ _ _ c.args.part.now c.tested-in-Failed.result _ _ c.most_runs-most.ensures.count c.most_runs-most.ensures.few.1
    c.loop-done.invariant.goes c.in_ok-run.ensures.run c.push.ensures.items
    c.verdict-verdict.ensures c.in-Failed.is refl c.tested-in-Failed.ensures).drawn

pub returns-in-Failed-clause-few : goal.returns-in-Failed-clause-few
returns-in-Failed-clause-few g c =
    (ended _ _ _ _ _ _ _ _ _ _ _ _ c.args.part.now c.tested-in-Failed.result _ _ c.most_runs-most.ensures.count c.most_runs-most.ensures.few.1
    c.loop-done.invariant.goes c.in_ok-run.ensures.run c.push.ensures.items
    c.verdict-verdict.ensures c.in-Failed.is refl c.tested-in-Failed.ensures).few
