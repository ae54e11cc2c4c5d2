use Rattle.std.proofs.Common.{refl, slice_index_or}
use Rattle.clk_trace.proofs.Passing.{going_next, gone_all}
use Rattle.clk_trace.proofs.write_watch.write_checks.Goals as goal

pub loop-check-preserved : goal.loop-check-preserved
loop-check-preserved g c =
    let w = c.args.watch.now in
    let here = c.loop-check in
    let ends = c.items-end-items.ensures in
    let low = rw ends at c.loop-check-test.true in
    let head = rw c.items-pauses.ensures at c.write_checking.ensures in
    let visits = rw ends at c.write_visits-used.ensures.text in
    let left = rw ends at c.write_visits-used.ensures.rest in
    let few = rw ends at c.write_visits-used.ensures.few in
    let current = rw (c.from.ensures, c.items-currents.ensures) at c.line.ensures in
    rw ends
    (going_next c.args.cpus _ _ _ _ _ w here.check here.start here.used (slice_index_or w.last_record.items here.check 0) c.write_visits-used.result 0 0 0 here.invariant c.requires.sized low
    refl head visits left few current)

pub returns : goal.returns
returns g c =
    let over = rw c.items-end-items.ensures at c.loop-check-test.false in
    gone_all c.args.cpus _ _ c.args.watch.now c.loop-check.check c.loop-check.start c.loop-check.used c.loop-check.invariant c.requires.sized over
