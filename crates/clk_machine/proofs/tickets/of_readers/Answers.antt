use Rattle.std.proofs.Common.{arith}
use Rattle.clk_machine.specs.Plan.{ReaderPlan, reader_plan}
use Rattle.clk_machine.specs.Tested.{script_tickets, IsRunnable}
use Rattle.clk_machine.proofs.Passing.{plan_at}
use Rattle.clk_machine.proofs.Counting.{sum_at}
use Rattle.clk_machine.proofs.tickets.of_readers.Goals as goal

pub tickets-tickets-requires : goal.tickets-tickets-requires
tickets-tickets-requires c =
    plan_at reader_plan (λ p. IsRunnable p.script) c.args.readers.now c.loop-reader.reader-index c.reader-item.result c.loop-reader-test.true c.reader-item.is c.requires.scripts

pub loop-reader-preserved : goal.loop-reader-preserved
loop-reader-preserved c =
    let more = sum_at reader_plan (λ (p : ReaderPlan). script_tickets p.script) c.args.readers.now c.loop-reader.reader-index c.reader-item.result c.loop-reader-test.true c.reader-item.is in
    let count = c.tickets-tickets.ensures.count in
    let small = c.tickets-tickets.ensures.few in
    record { sum = omega (arith, more, count, c.loop-reader.invariant.sum); few = omega (arith, small, c.loop-reader.invariant.few) }
