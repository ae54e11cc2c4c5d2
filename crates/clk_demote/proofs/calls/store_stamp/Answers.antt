use Rattle.std.proofs.Common.{◌<◌, ℤ, pos, ap, sym, ◌∙◌, subst, rules, length, map, to_z-of_z, FitsSigned, w64}
use Rattle.std.proofs.lemmas.List.{get_or_default}
use Rattle.clk_ticket.specs.Time.{Time}
use Rattle.clk_words.specs.declared.opening.Start.{Start}
use Rattle.clk_words.specs.declared.view.View.{View}
use Rattle.clk_words.specs.Bounds.{IsRaw, IsOffset}
use Rattle.clk_words.specs.Held.{Place}
use Rattle.clk_words.specs.Histories.{opens_at}
use Rattle.clk_words.specs.Parts.{raw_of}
use Rattle.clk_words.specs.Told.{pair_cloned}
use Rattle.clk_demote.specs.Stamping.{ReadsAt}
use Rattle.clk_demote.proofs.ContextKept.{seats_count, raw_here, still_begins, still_usable}
use Rattle.clk_demote.proofs.calls.store_stamp.Goals as goal

pub clone_raw-requires-clause-bound : goal.clone_raw-requires-clause-bound
clone_raw-requires-clause-bound g c =
    let ns : FitsSigned w64 c.read_at-raw.result.ns = search rules in
    let low : c.args.cpu < length (map g.E.Epochs.epoch c.args.ctx.now.latch_seats.items) = subst (λ n. c.args.cpu < n) (sym (seats_count _ _ _ c.requires.usable)) c.requires.cpu in
    let near : IsRaw (opens_at c.args.ctx.now.seat.view.start) c.read_at-raw.result.ns =
    raw_here _ _ _ _ _ _ _ low c.read_at-raw.ensures.reads c.requires.usable.base c.requires.usable.opening in
    rw (to_z-of_z ns) (subst (λ (s : Start). IsRaw (opens_at s) c.read_at-raw.result.ns) (ap (λ (p : Place). p.start) c.requires.usable.seated.of_words) near)

pub returns-clause-shows : goal.returns-clause-shows
returns-clause-shows g c =
    let ns : FitsSigned w64 c.read_at-raw.result.ns = search rules in
    let gtod : FitsSigned w64 c.gtod-gtod.result = search rules in
    let low : c.args.cpu < length (map g.E.Epochs.epoch c.args.ctx.now.latch_seats.items) = subst (λ n. c.args.cpu < n) (sym (seats_count _ _ _ c.requires.usable)) c.requires.cpu in
    let there : c.args.cpu < length c.args.ctx.now.adjusts.now.items = subst (λ n. c.args.cpu < n) (sym c.requires.usable.of_machine.adjusts) c.requires.cpu in
    let fits : FitsSigned w64 c.get.result.now = search rules in
    let adjust = to_z-of_z fits ∙ c.get.ensures ∙ get_or_default c.args.ctx.now.adjusts.now.items c.args.cpu c.get.result.now (pos 0) there in
    let first = simp to_z-of_z at c.clone_gtod.ensures.cloned in
    let second = simp to_z-of_z at c.clone_raw.ensures.cloned in
    rw (to_z-of_z gtod)
    (record {
      takes = record {
        middle = c.draw-gtod_ticket.new.seat;
        draws = c.draw-gtod_ticket.ensures;
        gtod_is = c.gtod-gtod.ensures.time;
        draws_raw = c.read_at-raw.ensures.draws;
        reads = subst (λ (a : ℤ). ReadsAt c.args.ctx.now.machine.now c.args.cpu a (map g.E.Epochs.epoch c.args.ctx.now.latch_seats.items) (map g.E.Epochs.epoch c.read_at-raw.new.seats.items) c.read_at-raw.result) adjust c.read_at-raw.ensures.reads;
        gtod_bound = c.gtod-gtod.ensures.small;
        raw_bound = raw_here _ _ _ _ _ _ _ low c.read_at-raw.ensures.reads c.requires.usable.base c.requires.usable.opening;
      };
      view_is = second ∙ ap (λ (u : View). pair_cloned (raw_of c.args.cpu) c.read_at-raw.result.ns u) first;
    })

pub returns-clause-usable : goal.returns-clause-usable
returns-clause-usable g c =
    let low : c.args.cpu < length (map g.E.Epochs.epoch c.args.ctx.now.latch_seats.items) = subst (λ n. c.args.cpu < n) (sym (seats_count _ _ _ c.requires.usable)) c.requires.cpu in
    let first = c.clone_gtod.ensures.cloned in
    let second = c.clone_raw.ensures.cloned in
    still_usable _ _ c.args.ctx.now c.clone_raw.new.seat c.read_at-raw.new.seats c.read_at-raw.new.time c.args.ctx.now.gtod_offset c.args.ctx.now.last
    c.requires.usable c.clone_raw.ensures.own c.read_at-raw.ensures.own
    (ap (λ (t : Time). t.table) c.read_at-raw.ensures.draws.is ∙ ap (λ (t : Time). t.table) c.draw-gtod_ticket.ensures.is)
    (ap (λ (u : View). u.start) second ∙ ap (λ (u : View). u.start) first)
    (ap (λ (u : View). u.seen) second ∙ ap (λ (u : View). u.seen) first)
    (ap (λ (u : View). u.modes.held) second ∙ ap (λ (u : View). u.modes.held) first ∙ c.requires.usable.held)
    c.requires.usable.by_last
    (still_begins _ _ _ _ _ _ low c.read_at-raw.ensures.reads c.requires.usable.base)

pub returns-clause-range : goal.returns-clause-range
returns-clause-range g c = subst (λ (p : Place). IsOffset (opens_at p.start) c.args.ctx.now.gtod_offset) c.requires.usable.seated.of_words (c.clone_gtod.ensures.holds c.args.ctx.now.gtod_offset c.requires.usable.held)
