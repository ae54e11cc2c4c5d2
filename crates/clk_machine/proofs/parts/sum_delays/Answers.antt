use Rattle.std.proofs.Common.{◌≡◌, pos, get_or, add-one, sym}
use Rattle.clk_machine.specs.declared.parts.Delay.{Delay}
use Rattle.clk_machine.specs.Plan.{count_of}
use Rattle.clk_machine.proofs.Summing.{delay_at, delay_put, ns_more}
use Rattle.clk_machine.proofs.parts.sum_delays.Goals as goal

abbrev none : Delay
none = record { ticket = pos 0; ns = pos 0; sum = 0 }

pub loop-delay-preserved : goal.loop-delay-preserved
loop-delay-preserved c =
    let here : get_or c.loop-delay.delays c.loop-delay.delay-index none ≡ get_or c.args.delays.now c.loop-delay.delay-index none =
    rw c.loop-delay.invariant.done (delay_at 0 c.args.delays.now c.loop-delay.delay-index none c.loop-delay-test.true) in
    let count : c.count-sum.result ≡ count_of (get_or c.args.delays.now c.loop-delay.delay-index none).ns = rw here at c.count-sum.ensures in
    rw (here, count, c.loop-delay.invariant.sum, add-one) (record {
      sum = sym (ns_more c.args.delays.now c.loop-delay.delay-index none c.loop-delay-test.true);
      done = rw c.loop-delay.invariant.done (delay_put c.args.delays.now c.loop-delay.delay-index none c.loop-delay-test.true);
    })
