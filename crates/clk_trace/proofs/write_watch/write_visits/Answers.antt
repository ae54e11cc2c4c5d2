use Rattle.clk_trace.proofs.Passing.{passing_next, passed_all}
use Rattle.clk_trace.proofs.write_watch.write_visits.Goals.{then-made, else-made}
use Rattle.clk_trace.proofs.write_watch.write_visits.Goals as goal

pub loop-place-preserved : goal.loop-place-preserved
loop-place-preserved g c =
    let taken = rw (c.items-records.ensures, c.records.ensures.records) at c.write_visit.ensures in
    let next =
    passing_next _ _ _ c.args.watch.now c.args.start c.args.used c.args.end c.loop-place.place c.loop-place.passed _ c.loop-place.invariant c.loop-place-test.true c.requires.there taken in
    elim c.if-made.branch [
      | then-made w ↦
          let is = rw (c.items-records.ensures, c.records.ensures.records) at w.if-made.true in
          rw w.passed-is (rw is at next)
      | else-made w ↦
          let is = rw (c.items-records.ensures, c.records.ensures.records) at w.if-made.false in
          rw w.passed-is (rw is at next)
    ]

pub returns-clause-text : goal.returns-clause-text
returns-clause-text g c =
    (passed_all _ _ c.args.watch.now c.args.start c.args.used c.args.end c.loop-place.place c.loop-place.passed c.loop-place.invariant c.loop-place-test.false).0
