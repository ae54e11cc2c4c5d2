use Rattle.std.proofs.Common.{◌≡◌, ◌++◌, ap, sym, ◌∙◌, subst, rules, to_z-of_z, FitsSigned, w64}
use Rattle.clk_machine.specs.Plan.{cpu_count}
use Rattle.clk_machine.specs.declared.reading.RawReading.{RawReading}
use Rattle.clk_record.proofs.Shifting.{shift_by_drift}
use Rattle.clk_words.specs.declared.opening.Start.{Start}
use Rattle.clk_words.specs.declared.view.View.{View}
use Rattle.clk_words.specs.Bounds.{IsGtod, IsRaw}
use Rattle.clk_words.specs.Held.{Place}
use Rattle.clk_words.specs.Histories.{opens_at}
use Rattle.clk_demote.specs.Lifts.{lifts_of}
use Rattle.clk_demote.proofs.Shifting.{lift_value}
use Rattle.clk_demote.proofs.Demoting.{still_demotion, shows_demotion}
use Rattle.clk_demote.proofs.calls.demote.Goals as goal

pub end_stable-requires-clause-gtod : goal.end_stable-requires-clause-gtod
end_stable-requires-clause-gtod g c =
    let gtod : FitsSigned w64 c.store_stamp-stamp.result.gtod = search rules in
    let same = simp to_z-of_z at c.demotion_after-demotion.ensures.gtod in
    subst IsGtod (sym same) c.store_stamp-stamp.ensures.shows.takes.gtod_bound

pub end_stable-requires-clause-raw : goal.end_stable-requires-clause-raw
end_stable-requires-clause-raw g c =
    let keeps = c.store_stamp-stamp.ensures.keeps in
    let same : c.args.ctx.now.seat.view.start ≡ c.store_stamp-stamp.new.ctx.words.now.start = ap (λ (p : Place). p.start) c.requires.usable.seated.of_words ∙ ap (λ (p : Place). p.start) (sym keeps.words) in
    subst (λ (r : RawReading). IsRaw (opens_at c.store_stamp-stamp.new.ctx.words.now.start) r.ns) (sym c.demotion_after-demotion.ensures.raw)
    (subst (λ (s : Start). IsRaw (opens_at s) c.store_stamp-stamp.result.raw.ns) same c.store_stamp-stamp.ensures.shows.takes.raw_bound)

pub end_stable-requires-clause-value : goal.end_stable-requires-clause-value
end_stable-requires-clause-value g c =
    let mid = c.store_stamp-stamp.new.ctx in
    let gtod : FitsSigned w64 c.store_stamp-stamp.result.gtod = search rules in
    let sched : FitsSigned w64 mid.sched_offset = search rules in
    let offset : FitsSigned w64 mid.gtod_offset = search rules in
    let is = simp to_z-of_z at c.demotion_after-demotion.ensures.is in
    lift_value _ _ _ _ _ is (end_stable-requires-clause-gtod g c) c.store_stamp-stamp.ensures.range

pub returns-clause-shows : goal.returns-clause-shows
returns-clause-shows g c =
    let mid = c.store_stamp-stamp.new.ctx in
    let keeps = c.store_stamp-stamp.ensures.keeps in
    let gtod : FitsSigned w64 c.store_stamp-stamp.result.gtod = search rules in
    let sched : FitsSigned w64 mid.sched_offset = search rules in
    let offset : FitsSigned w64 mid.gtod_offset = search rules in
    let is = simp to_z-of_z at c.demotion_after-demotion.ensures.is in
    let same = simp to_z-of_z at c.demotion_after-demotion.ensures.gtod in
    shows_demotion _ _ _ _ _ _ _ _ _ _ _ c.store_stamp-stamp.ensures.shows c.demotion_after-demotion.ensures.ticket same c.demotion_after-demotion.ensures.raw
    (still_demotion _ _ _ _ _ _ _ is keeps.sched_offset c.store_stamp-stamp.ensures.offset c.store_stamp-stamp.ensures.last)
    c.requires.usable.held c.store_stamp-stamp.ensures.offset c.store_stamp-stamp.ensures.last
    (c.cpus-cpus.ensures.count ∙ ap cpu_count keeps.machine)
    c.end_stable.ensures.view c.end_stable.ensures.good

pub returns-clause-lifts : goal.returns-clause-lifts
returns-clause-lifts g c =
    let view = c.store_stamp-stamp.ensures.shows.view_is in
    let count : c.cpus-cpus.result ≡ cpu_count c.args.ctx.now.machine.now = c.cpus-cpus.ensures.count ∙ ap cpu_count c.store_stamp-stamp.ensures.keeps.machine in
    c.end_stable.ensures.items
    ∙ ap (λ (u : View). c.args.lifts.now.items ++ lifts_of u.number u.start c.args.check c.demotion_after-demotion.result.opening c.cpus-cpus.result) view
    ∙ ap (λ n. c.args.lifts.now.items ++ lifts_of c.args.ctx.now.seat.view.number c.args.ctx.now.seat.view.start c.args.check c.demotion_after-demotion.result.opening n) count

pub returns-clause-shift : goal.returns-clause-shift
returns-clause-shift g c =
    let mid = c.store_stamp-stamp.new.ctx in
    let sched : FitsSigned w64 mid.sched_offset = search rules in
    let offset : FitsSigned w64 mid.gtod_offset = search rules in
    let gtod : FitsSigned w64 c.store_stamp-stamp.result.gtod = search rules in
    let is = simp to_z-of_z at c.demotion_after-demotion.ensures.is in
    shift_by_drift _ _ _ _ is c.store_stamp-stamp.ensures.usable.by_last
