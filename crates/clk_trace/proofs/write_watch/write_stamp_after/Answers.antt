use Rattle.std.proofs.Common.{◌≤◌, length, arith}
use Rattle.std.proofs.lemmas.List.{drop_all}
use Rattle.clk_trace.proofs.Taking.{takes_none}
use Rattle.clk_trace.proofs.write_watch.write_stamp_after.Goals.{else-made-via-then-made+else-used-len, else-made-via-else-made}
use Rattle.clk_trace.proofs.write_watch.write_stamp_after.Goals as goal

pub returns-else-made : goal.returns-else-made
returns-else-made g c =
    elim c.else-made.branch [
      | else-made-via-then-made+else-used-len w ↦
          let over : length c.args.watch.now.stamps.items ≤ c.args.used = omega (arith, w.len.ensures, w.if-used-len.false) in
          rw (w.if-made.true, drop_all c.args.used c.args.watch.now.stamps.items over) (takes_none _)
      | else-made-via-else-made w ↦ rw w.if-made.false (takes_none _)
    ]
