use Rattle.std.proofs.Common.{◌<◌, map, sym, subst}
use Rattle.std.specs.List.{AllZip}
use Rattle.std.proofs.lemmas.Slice.Zip.{AllZip-long}
use Rattle.clk_demote.specs.Stamping.{ReadsAt}
use Rattle.clk_demote.proofs.Zipping.{refill_same}
use Rattle.clk_demote.proofs.latches.read_at.Goals as goal

pub read_slot-requires-clause-seat : goal.read_slot-requires-clause-seat
read_slot-requires-clause-seat g c =
    rw c.items_mut.ensures.value
    (λ κs bounds. subst (λ n. c.args.counter.cpu < n) (sym (AllZip-long g.E.Epochs.fits c.args.epochs.now.items c.args.seats.now.items c.requires.own)) c.requires.latch)

pub returns-clause-own : goal.returns-clause-own
returns-clause-own g c =
    let long = rw c.items_mut.ensures.value at c.read_slot.auto.seats in
    let same = refill_same c.args.seats.now.items c.read_slot.new.seats long in
    let own = rw c.items.ensures at c.read_slot.ensures.own in
    subst (AllZip g.E.Epochs.fits c.args.epochs.now.items) (sym same) own

pub returns-clause-reads : goal.returns-clause-reads
returns-clause-reads g c =
    let long = rw c.items_mut.ensures.value at c.read_slot.auto.seats in
    let same = refill_same c.args.seats.now.items c.read_slot.new.seats long in
    let reads = rw c.items_mut.ensures.value at c.read_slot.ensures.reads in
    subst (λ ss. ReadsAt c.args.counter.machine.now c.args.counter.cpu c.args.counter.adjust (map g.E.Epochs.epoch c.args.seats.now.items) (map g.E.Epochs.epoch ss) c.read_slot.result) (sym same) reads
