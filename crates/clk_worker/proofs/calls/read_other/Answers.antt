use Rattle.std.proofs.Common.{◌≡◌, ◌<◌, List, ap, sym, subst, arith}
use Rattle.clk_ticket.specs.Time.{share_of}
use Rattle.clk_words.specs.Held.{Place}
use Rattle.clk_words.specs.declared.opening.Start.{Start}
use Rattle.clk_lawful.specs.declared.event.EventKind.{EventKind}
use Rattle.clk_local.specs.Context.{site_of}
use Rattle.clk_worker.specs.Calling.{known, kinds_of_remote}
use Rattle.clk_worker.proofs.Making.{serves_after, owns_after, stands_after, calls_other}
use Rattle.clk_worker.proofs.Showing.{showed_remote}
use Rattle.clk_worker.proofs.calls.read_other.Goals as goal

pub returns : goal.returns
returns c =
    let v = c.args.ctx.now in
    let u = c.remote-event.new.ctx in
    let told = c.remote-event.ensures in
    let ready = c.requires.serves in
    let start : v.seat.view.start ≡ v.words.now.start = ap (λ (x : Place). x.start) ready.usable.of_words in
    let within : c.args.asked < v.seat.view.start.cpus = subst (λ (x : Start). c.args.asked < x.cpus) (sym start) c.requires.asked in
    let showed = showed_remote (site_of v) (share_of v.time) v.call c.args.asked (known v) (known u) c.remote-event.result ready.sound c.requires.left within c.requires.other told.shows in
    let few = showed.few in
    let kinds : List EventKind = kinds_of_remote c.args.asked c.remote-event.result in
    record {
      kinds = kinds;
      calls = calls_other v.counter.cpu c.args.asked kinds c.requires.other showed.is;
      few = omega (arith, few);
      keeps = c.keep_remote.ensures;
      runs = showed.showed.runs;
      spends = showed.showed.spends;
      stands = stands_after v u told.keeps;
      serves = serves_after (share_of v.time) v u ready told.keeps showed.showed.sound;
      owner = owns_after v u told.keeps showed.showed.latch;
    }
