use Rattle.std.proofs.Common.{◌≡◌, ◌+◌, ◌-◌, arith}
use Rattle.clk_trace.proofs.Taking.{takes_more}
use Rattle.clk_trace.proofs.write_watch.write_visit.Goals as goal

pub returns : goal.returns
returns g c =
    let made = c.args.made.now in
    let count : made.first + made.count - made.first ≡ made.count = omega arith in
    let attempts = rw (c.items-attempts.ensures, c.attempts.ensures, count) at c.write_attempts.ensures in
    takes_more _ _ _ _ _ (takes_more _ _ _ _ _ (takes_more _ _ _ _ _ attempts c.write_judged.ensures) c.write_stamp_after.ensures) c.write_demotion_after.ensures
