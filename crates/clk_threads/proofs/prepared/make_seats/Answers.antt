use Rattle.std.proofs.Common.{refl}
use Rattle.clk_threads.proofs.prepared.make_seats.Goals as goal

pub open_words-requires-clause-demotion : goal.open_words-requires-clause-demotion
open_words-requires-clause-demotion c = rw c.items.ensures c.requires.booted.fits.is

pub returns : goal.returns
returns c =
    let times = c.in_ok-times.ensures in
    let latches = c.in_ok-latches.ensures in
    record {
      rest = refl;
      made = record {
        before = c.args.booted.now.time;
        booted = c.requires.booted;
        lists = c.in_ok-lists.ensures;
        latches = latches.latches;
        watch_latches = latches.watch;
        opened = rw c.items.ensures at c.in_ok-opened.ensures;
        times = times.seats;
        time_is = times.time;
      };
    }
