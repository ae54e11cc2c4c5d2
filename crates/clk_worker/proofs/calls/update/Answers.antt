use Rattle.std.proofs.Common.{[], ◌∷◌, refl, arith, ap, ◌∙◌}
use Rattle.clk_ticket.specs.Time.{Time, share_of}
use Rattle.clk_lawful.specs.declared.event.EventKind.TheVariants.{Update}
use Rattle.clk_latch.specs.Epoch.{Epoch}
use Rattle.clk_local.specs.Context.{site_of}
use Rattle.clk_worker.specs.Calling.{known}
use Rattle.clk_worker.proofs.Showing.{no_look}
use Rattle.clk_worker.proofs.Sounding.{sound_base, updates_sound}
use Rattle.clk_worker.proofs.calls.update.Goals as goal

pub returns : goal.returns
returns c =
    let v = c.args.ctx.now in
    let ready = c.requires.serves in
    let told = c.update-published.ensures in
    let left = ap (λ (t : Time). t.left) told.draws.is in
    let within = c.requires.left in
    let updates = ap (λ (e : Epoch). e.left) told.updates.is in
    let some = c.requires.updates in
    record {
      kinds = Update c.update-published.result ∷ [];
      calls = tt;
      few = omega arith;
      keeps = c.keep.ensures;
      runs = (_, _, no_look _, record { updates = told.updates; draws = told.draws; view_is = refl }, refl);
      spends = record { tickets_left = omega (arith, left, within); updates_left = omega (arith, updates, some) };
      stands = record { words = refl; epochs = refl; tickets = refl; site = refl };
      serves = record {
        usable = record {
          of_words = ready.usable.of_words;
          of_latch = told.own;
          of_tickets = ap (λ (t : Time). t.table) told.draws.is ∙ ready.usable.of_tickets;
          reading = ready.usable.reading;
          cpu_is = ready.usable.cpu_is;
          machine_cpu = ready.usable.machine_cpu;
          near = ready.usable.near;
          tick_is = ready.usable.tick_is;
          offset = ready.usable.offset;
          base = sound_base _ _ _ _ told.updates.records;
          opening = ready.usable.opening;
        };
        sound = updates_sound (site_of v) (share_of v.time) (known v) _ _ _ ready.sound told.updates told.draws;
      };
      owner = λ own.
          record {
            may_stamp = own.may_stamp;
            owner = ap (λ (e : Epoch). e.owner) told.updates.is ∙ own.owner;
            records = told.updates.records;
            drawn = told.drawn;
          };
    }
