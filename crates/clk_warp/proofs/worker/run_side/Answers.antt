use Rattle.std.proofs.Common.{◌∙◌, sym}
use Rattle.clk_warp.proofs.Working.{own_ended}
use Rattle.clk_warp.proofs.worker.run_side.Goals as goal

pub returns-then-turned : goal.returns-then-turned
returns-then-turned g c =
    let lock = c.args.lock.now in
    let now = c.loop.seat in
    let inv = c.loop.invariant in
    record {
      ready = inv.ready;
      grown = inv.grown;
      count = inv.count;
      ended = own_ended c.args.side lock.first now.known now.own inv.ready.first_readings inv.ready.mine ∙ sym inv.ended ∙ c.if-turned.true;
    }
