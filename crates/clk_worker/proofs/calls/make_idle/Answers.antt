use Rattle.std.proofs.Common.{◌++◌, arith}
use Rattle.clk_ticket.specs.Time.{share_of}
use Rattle.clk_local.specs.Context.{site_of}
use Rattle.clk_worker.specs.Running.{kinds_of_reading, kinds_of_tick}
use Rattle.clk_worker.specs.Calling.{known}
use Rattle.clk_worker.proofs.Making.{serves_after, owns_after, stands_after, keeps_both}
use Rattle.clk_worker.proofs.Showing.{showed_idle}
use Rattle.clk_worker.proofs.calls.make_idle.Goals as goal

pub returns : goal.returns
returns c =
    let v = c.args.ctx.now in
    let u = c.idle-read.new.ctx in
    let told = c.idle-read.ensures in
    let ready = c.requires.serves in
    let before = c.args.events.now in
    let half = c.keep_reading.new.events in
    let after = c.keep_tick.new.events in
    let showed = showed_idle (site_of v) (share_of v.time) v.call (known v) (known u) c.idle-read.result ready.sound c.requires.left told.shows in
    let event = c.idle-read.result in
    let few = showed.few in
    record {
      kinds = kinds_of_reading event.read ++ kinds_of_tick event.tick;
      calls = showed.is;
      few = omega (arith, few);
      keeps = keeps_both v.call (kinds_of_reading event.read) (kinds_of_tick event.tick) before half after c.keep_reading.ensures c.keep_tick.ensures;
      runs = showed.showed.runs;
      spends = showed.showed.spends;
      stands = stands_after v u told.keeps;
      serves = serves_after (share_of v.time) v u ready told.keeps showed.showed.sound;
      owner = owns_after v u told.keeps showed.showed.latch;
    }
