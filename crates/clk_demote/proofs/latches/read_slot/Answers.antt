use Rattle.std.proofs.Common.{get_or, sym, subst}
use Rattle.clk_demote.proofs.Zipping.{zip_at, zip_set, reads_at}
use Rattle.clk_demote.proofs.latches.read_slot.Goals as goal

pub read-requires-clause-own : goal.read-requires-clause-own
read-requires-clause-own g c =
    subst (λ x. g.E.Epochs.fits x (get_or c.args.seats.now c.args.counter.cpu c.index-seats-cpu.result)) (sym c.index-epochs-cpu.is)
    (zip_at g.E.Epochs.fits c.args.epochs.now c.args.seats.now c.args.counter.cpu c.index-epochs-cpu.result c.index-seats-cpu.result c.requires.own c.requires.latch)

pub returns-clause-own : goal.returns-clause-own
returns-clause-own g c =
    zip_set g.E.Epochs.fits c.args.epochs.now c.args.seats.now c.args.counter.cpu c.index-epochs-cpu.result c.read.new.seat c.requires.own c.requires.latch
    (subst (λ x. g.E.Epochs.fits x c.read.new.seat) c.index-epochs-cpu.is c.read.ensures.own)

pub returns-clause-reads : goal.returns-clause-reads
returns-clause-reads g c =
    reads_at g.E.Epochs.epoch c.args.seats.now c.args.counter.cpu c.index-seats-cpu.result c.read.new.seat _ _ _ c.requires.seat c.read.ensures.reads
