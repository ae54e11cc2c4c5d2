use Rattle.std.proofs.Common.{[], ◌∷◌, arith}
use Rattle.clk_ticket.specs.Time.{share_of}
use Rattle.clk_local.specs.Context.{site_of}
use Rattle.clk_worker.specs.Calling.{known}
use Rattle.clk_worker.proofs.Making.{serves_after, owns_after, stands_after}
use Rattle.clk_worker.proofs.Showing.{showed_reading}
use Rattle.clk_worker.proofs.calls.read.Goals as goal

pub returns : goal.returns
returns c =
    let v = c.args.ctx.now in
    let u = c.local-reading.new.ctx in
    let told = c.local-reading.ensures in
    let ready = c.requires.serves in
    let showed = showed_reading (site_of v) (share_of v.time) v.call (known v) (known u) c.local-reading.result ready.sound c.requires.left told.shows in
    let kinds = showed.kinds_are in
    record {
      kinds = showed.kind ∷ [];
      calls = showed.is;
      few = omega arith;
      keeps = rw kinds at c.keep_reading.ensures;
      runs = showed.showed.runs;
      spends = showed.showed.spends;
      stands = stands_after v u told.keeps;
      serves = serves_after (share_of v.time) v u ready told.keeps showed.showed.sound;
      owner = owns_after v u told.keeps showed.showed.latch;
    }
