use Rattle.std.proofs.Common.{◌^◌, length, sym, ◌∙◌, ap, subst, refl}
use Rattle.clk_machine.specs.Plan.{Plan}
use Rattle.clk_record.specs.Fold.{at_first, watch_after, AreVisits}
use Rattle.clk_record.specs.Watching.{Watching}
use Rattle.clk_watch.specs.Visits.{Visits}
use Rattle.clk_watch.proofs.Calling.{sources_all, room_still, more_visits, checks}
use Rattle.clk_watch.proofs.watch.Watch.check_source.Goals as goal

pub visit-record-requires-clause-sources : goal.visit-record-requires-clause-sources
visit-record-requires-clause-sources c =
    let e = c.requires.machine ∙ ap (λ (w : Watching). w.machine) (sym c.self.view_is) in
    sources_all c.self.inside.machine.value c.self.inside.tsc_unstable.value c.self.inside.attempts.items c.self.inside.sources.items c.self.inside.records.items c.self.invariant.sources
    ∙ ap (λ (m : Plan). length m.source) (sym e)

pub invariant_of-self : goal.invariant_of-self
invariant_of-self c =
    let e = c.requires.machine ∙ ap (λ (w : Watching). w.machine) (sym c.self.view_is) in
    let first = at_first c.self.inside.machine.value c.self.inside.tsc_unstable.value in
    let p = subst (λ (m : Plan). Visits m c.args.counter.cpu c.args.counter.adjust c.args.s c.self.inside.sources.items c.self.inside.attempts c.visit-record.new.attempts c.args.time.now c.visit-record.new.time c.visit-record.result c.visit-record.new.sources.items) e c.visit-record.ensures.visits in
    let more = more_visits c.self.inside.machine.value c.args.counter.cpu c.args.counter.adjust c.args.s c.self.inside.attempts c.visit-record.new.attempts c.args.time.now c.visit-record.new.time c.visit-record.result
    (at_first c.self.inside.machine.value c.self.inside.tsc_unstable.value) c.self.inside.sources.items c.visit-record.new.sources.items c.self.inside.records.items c.self.invariant.visits c.self.invariant.sources p in
    record {
      limits = c.self.invariant.limits;
      visits = subst (AreVisits c.self.inside.machine.value c.visit-record.new.attempts.items first) (sym c.push.ensures.items) more.0;
      sources = more.1 ∙ ap (watch_after c.visit-record.new.attempts.items first) (sym c.push.ensures.items);
      small = c.visit-record.ensures.small;
      reference = c.self.invariant.reference;
      room = room_still c.self.inside.machine.value c.args.counter.cpu c.args.counter.adjust c.args.s (2 ^ 20) c.self.inside.attempts c.visit-record.new.attempts c.args.time.now c.visit-record.new.time p.made p.tries c.self.invariant.room;
    }

pub returns : goal.returns
returns c =
    let e = c.requires.machine ∙ ap (λ (w : Watching). w.machine) (sym c.self.view_is) in
    let p = subst (λ (m : Plan). Visits m c.args.counter.cpu c.args.counter.adjust c.args.s c.self.inside.sources.items c.self.inside.attempts c.visit-record.new.attempts c.args.time.now c.visit-record.new.time c.visit-record.result c.visit-record.new.sources.items) e c.visit-record.ensures.visits in
    rw (← c.self.view_is)
    (checks _ _ c.args.counter.cpu c.args.counter.adjust c.args.s c.args.time.now c.visit-record.new.time c.visit-record.result c.self.inside.sources.items c.visit-record.new.sources.items
    c.self.invariant.visits c.self.invariant.sources p c.push.ensures.items c.push.ensures.room refl refl)
