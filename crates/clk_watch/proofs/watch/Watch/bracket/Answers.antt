use Rattle.std.proofs.Common.{◌^◌, sym, ◌∙◌, ap, subst}
use Rattle.clk_machine.specs.Plan.{Plan}
use Rattle.clk_record.specs.Fold.{at_first}
use Rattle.clk_record.specs.Watching.{Watching}
use Rattle.clk_watch.specs.Brackets.{Brackets}
use Rattle.clk_watch.proofs.Calling.{brackets_keep, room_still}
use Rattle.clk_watch.proofs.watch.Watch.bracket.Goals as goal

pub invariant_of-self : goal.invariant_of-self
invariant_of-self c =
    let e = c.requires.machine ∙ ap (λ (w : Watching). w.machine) (sym c.self.view_is) in
    let p = subst (λ (m : Plan). Brackets m c.args.counter.cpu c.args.counter.adjust c.args.s c.self.inside.attempts c.bracket_of.new.attempts c.args.time.now c.bracket_of.new.time c.bracket_of.result) e c.bracket_of.ensures.brackets in
    let keep = brackets_keep c.self.inside.machine.value c.args.counter.cpu c.args.counter.adjust c.args.s c.self.inside.attempts c.bracket_of.new.attempts c.args.time.now c.bracket_of.new.time p.made
    (at_first c.self.inside.machine.value c.self.inside.tsc_unstable.value) c.self.inside.sources.items c.self.inside.records.items p.tries c.self.invariant.visits c.self.invariant.sources in
    record {
      limits = c.self.invariant.limits;
      visits = keep.0;
      sources = keep.1;
      small = c.self.invariant.small;
      reference = c.self.invariant.reference;
      room = room_still c.self.inside.machine.value c.args.counter.cpu c.args.counter.adjust c.args.s (2 ^ 20) c.self.inside.attempts c.bracket_of.new.attempts c.args.time.now c.bracket_of.new.time p.made p.tries c.self.invariant.room;
    }
