use Rattle.std.proofs.Common.{[], ◌∷◌, refl, arith, ap, ◌∙◌}
use Rattle.clk_ticket.specs.Time.{Time, share_of}
use Rattle.clk_lawful.specs.declared.event.EventKind.TheVariants.{Pause}
use Rattle.clk_local.specs.Context.{site_of}
use Rattle.clk_worker.specs.Calling.{known}
use Rattle.clk_worker.proofs.Showing.{no_look}
use Rattle.clk_worker.proofs.Sounding.{draws_sound, draws_latch}
use Rattle.clk_worker.proofs.calls.pause.Goals as goal

pub returns : goal.returns
returns c =
    let v = c.args.ctx.now in
    let ready = c.requires.serves in
    let drew = c.draw-ticket.ensures in
    let left = ap (λ (t : Time). t.left) drew.is in
    let within = c.requires.left.1 in
    record {
      kinds = Pause c.draw-ticket.result c.args.count ∷ [];
      calls = refl;
      few = omega arith;
      keeps = c.keep.ensures;
      runs = (_, _, no_look _, record { draws = drew; epoch_is = refl; view_is = refl }, refl);
      spends = record { tickets_left = omega (arith, left, within); updates_left = omega arith };
      stands = record { words = refl; epochs = refl; tickets = refl; site = refl };
      serves = record {
        usable = record {
          of_words = ready.usable.of_words;
          of_latch = ready.usable.of_latch;
          of_tickets = ap (λ (t : Time). t.table) drew.is ∙ ready.usable.of_tickets;
          reading = ready.usable.reading;
          cpu_is = ready.usable.cpu_is;
          machine_cpu = ready.usable.machine_cpu;
          near = ready.usable.near;
          tick_is = ready.usable.tick_is;
          offset = ready.usable.offset;
          base = ready.usable.base;
          opening = ready.usable.opening;
        };
        sound = draws_sound (site_of v) (share_of v.time) (known v) _ _ _ ready.sound drew;
      };
      owner = λ own.
          let latch = draws_latch (site_of v) (known v) _ _ _ (record { owner = own.owner; records = own.records; drawn = own.drawn }) drew in
          record { may_stamp = own.may_stamp; owner = latch.owner; records = latch.records; drawn = latch.drawn };
    }
