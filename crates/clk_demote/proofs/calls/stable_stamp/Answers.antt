use Rattle.std.proofs.Common.{◌≡◌, ◌<◌, refl, ap, sym, ◌∙◌, subst, rules, length, map, to_z-of_z, FitsSigned, w64}
use Rattle.clk_record.specs.Demotions.{offset_by}
use Rattle.clk_words.specs.declared.opening.Start.{Start}
use Rattle.clk_words.specs.declared.view.View.{View}
use Rattle.clk_words.specs.Bounds.{IsOffset}
use Rattle.clk_words.specs.Held.{Place}
use Rattle.clk_words.specs.Histories.{opens_at}
use Rattle.clk_demote.proofs.ContextKept.{seats_count, offset_here, still_usable}
use Rattle.clk_demote.proofs.calls.stable_stamp.Goals as goal

pub publish_offset-requires-clause-bound : goal.publish_offset-requires-clause-bound
publish_offset-requires-clause-bound g c =
    let ctx = c.args.ctx.now in
    let mid = c.store_stamp-stamp.new.ctx in
    let stamp = c.store_stamp-stamp.result in
    let keeps = c.store_stamp-stamp.ensures.keeps in
    let takes = c.store_stamp-stamp.ensures.shows.takes in
    let gtod : FitsSigned w64 stamp.gtod = search rules in
    let sched : FitsSigned w64 mid.sched_offset = search rules in
    let ns : FitsSigned w64 stamp.raw.ns = search rules in
    let fits : FitsSigned w64 c.stable_offset-offset.result = search rules in
    let is : c.stable_offset-offset.result ≡ offset_by mid.sched_offset stamp.gtod stamp.raw.ns = simp to_z-of_z at c.stable_offset-offset.ensures in
    let low : c.args.cpu < length (map g.E.Epochs.epoch ctx.latch_seats.items) = subst (λ n. c.args.cpu < n) (sym (seats_count _ _ _ c.requires.usable)) c.requires.cpu in
    let near : IsOffset (opens_at ctx.seat.view.start) (offset_by ctx.sched_offset stamp.gtod stamp.raw.ns) =
    offset_here _ _ _ _ _ _ _ _ _ low takes.reads c.requires.usable.base c.requires.usable.opening c.requires.usable.sched_offset takes.gtod_bound in
    let same : ctx.seat.view.start ≡ mid.words.now.start = ap (λ (p : Place). p.start) c.requires.usable.seated.of_words ∙ ap (λ (p : Place). p.start) (sym keeps.words) in
    rw (to_z-of_z fits)
    (subst (λ (s : Start). IsOffset (opens_at s) c.stable_offset-offset.result) same
    (subst (IsOffset (opens_at ctx.seat.view.start)) (sym (is ∙ ap (λ x. offset_by x stamp.gtod stamp.raw.ns) keeps.sched_offset)) near))

pub returns-clause-usable : goal.returns-clause-usable
returns-clause-usable g c =
    let mid = c.store_stamp-stamp.new.ctx in
    let stamp = c.store_stamp-stamp.result in
    let usable = c.store_stamp-stamp.ensures.usable in
    let gtod : FitsSigned w64 stamp.gtod = search rules in
    let sched : FitsSigned w64 mid.sched_offset = search rules in
    let ns : FitsSigned w64 stamp.raw.ns = search rules in
    let fits : FitsSigned w64 c.stable_offset-offset.result = search rules in
    let is : c.stable_offset-offset.result ≡ offset_by mid.sched_offset stamp.gtod stamp.raw.ns = simp to_z-of_z at c.stable_offset-offset.ensures in
    let put = simp to_z-of_z at c.publish_offset.ensures.put in
    rw (to_z-of_z fits, to_z-of_z gtod)
    (still_usable _ _ mid c.publish_offset.new.seat mid.latch_seats mid.time c.stable_offset-offset.result
    (record { gtod_ticket = stamp.gtod_ticket; gtod = stamp.gtod; raw = stamp.raw; offset = c.stable_offset-offset.result })
    usable c.publish_offset.ensures.own usable.seated.of_latches refl
    (ap (λ (u : View). u.start) put) (ap (λ (u : View). u.seen) put) (ap (λ (u : View). u.modes.held) put) is usable.base)
