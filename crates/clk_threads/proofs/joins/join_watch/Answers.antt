use Rattle.std.proofs.Common.{ℕ, List, ◌∷◌, [], length, sym, ap, ◌∙◌, arith, get_or, ◌<◌, length-append}
use Rattle.std.proofs.lemmas.List.{get_or_default}
use Rattle.clk_latch.specs.Epoch.{Place}
use Rattle.clk_threads.specs.Ending.{IsOwnerAt, IsAtLatch}
use Rattle.clk_threads.proofs.Latching.{met_none, met_owner, met_reader, met_more, met_all}
use Rattle.clk_threads.proofs.joins.join_watch.Goals as goal

pub loop-init : goal.loop-init
loop-init c = record { met = met_none c.args.shared.now c.args.owners.items c.args.watch.items c.requires; count = omega arith }

pub join-requires-clause-first : goal.join-requires-clause-first
join-requires-clause-first c =
    let s = c.args.shared.now in
    let watch : List Place = c.pop-reader.new.self.items in
    let at : IsOwnerAt s (length watch) c.pop-owner.result =
    met_owner s c.args.owners.items c.args.watch.items c.loop.owners.items c.pop-owner.new.self.items c.loop.watch.items watch c.pop-owner.result c.pop-reader.result
    c.requires c.loop.invariant.met (record { owners_last = c.pop-owner.ensures.items; watch_last = c.pop-reader.ensures.items }) in
    let fit = c.requires in
    let many = fit.count in
    let latches = fit.latches in
    let few = c.loop.invariant.met.few in
    let long = ap length (sym c.pop-reader.ensures.items) in
    let both = length-append watch (c.pop-reader.result ∷ []) in
    let len = c.len.ensures in
    let low : c.len.result < length s.epochs.items = omega (arith, many, latches, few, long, both, len) in
    at.0 ∙ ap (λ (i : ℕ). get_or s.epochs.items i c.pop-owner.result.latch) (sym c.len.ensures)
    ∙ get_or_default s.epochs.items c.len.result c.pop-owner.result.latch c.get.result.now low ∙ sym c.get.ensures

pub join-requires-clause-second : goal.join-requires-clause-second
join-requires-clause-second c =
    let s = c.args.shared.now in
    let watch : List Place = c.pop-reader.new.self.items in
    let at : IsAtLatch s (length watch) c.pop-reader.result =
    met_reader s c.args.owners.items c.args.watch.items c.loop.owners.items c.pop-owner.new.self.items c.loop.watch.items watch c.pop-owner.result c.pop-reader.result
    c.requires c.loop.invariant.met (record { owners_last = c.pop-owner.ensures.items; watch_last = c.pop-reader.ensures.items }) in
    let fit = c.requires in
    let many = fit.count in
    let latches = fit.latches in
    let few = c.loop.invariant.met.few in
    let long = ap length (sym c.pop-reader.ensures.items) in
    let both = length-append watch (c.pop-reader.result ∷ []) in
    let len = c.len.ensures in
    let low : c.len.result < length s.epochs.items = omega (arith, many, latches, few, long, both, len) in
    at ∙ ap (λ (i : ℕ). get_or s.epochs.items i c.pop-reader.result.latch) (sym c.len.ensures)
    ∙ get_or_default s.epochs.items c.len.result c.pop-reader.result.latch c.get.result.now low ∙ sym c.get.ensures

pub loop-preserved : goal.loop-preserved
loop-preserved c =
    let s = c.args.shared.now in
    let count = c.loop.invariant.count in
    let long = ap length (sym c.pop-reader.ensures.items) in
    let both = length-append c.pop-reader.new.self.items (c.pop-reader.result ∷ []) in
    record {
      met =
          met_more s c.args.owners.items c.args.watch.items c.loop.owners.items c.pop-owner.new.self.items c.loop.watch.items c.pop-reader.new.self.items c.pop-owner.result
          c.pop-reader.result c.join.result c.requires c.loop.invariant.met
          (record { owners_last = c.pop-owner.ensures.items; watch_last = c.pop-reader.ensures.items }) c.join.ensures.joins;
      count = omega (arith, count, long, both);
    }

pub returns : goal.returns
returns c =
    let count = c.loop.invariant.count in
    let end = c.len-end.ensures in
    let past = c.loop-test.false in
    met_all c.args.owners.items c.args.watch.items c.loop.owners.items c.loop.watch.items c.loop.invariant.met (omega (arith, count, end, past))
