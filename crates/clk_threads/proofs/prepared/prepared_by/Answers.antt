use Rattle.std.proofs.Common.{◌+◌, cond, Some, None, refl, sym, ap, ◌∙◌, arith, rules, FitsSigned, w64, to_z-of_z}
use Rattle.std.specs.Prelude.{is_some}
use Rattle.clk_ticket.specs.Time.{Time, without}
use Rattle.clk_machine.specs.Tickets.{word_tickets, watch_tickets}
use Rattle.clk_threads.specs.Preparing.{watch_time}
use Rattle.clk_threads.proofs.Sharing.{without_more, shares_watched}
use Rattle.clk_threads.proofs.prepared.prepared_by.Goals as goal

pub share_watch-watch_time-requires-clause-limits : goal.share_watch-watch_time-requires-clause-limits
share_watch-watch_time-requires-clause-limits c = c.requires.made.booted.boot.limits

pub share_watch-watch_time-requires-clause-own : goal.share_watch-watch_time-requires-clause-own
share_watch-watch_time-requires-clause-own c = ap (λ (t : Time). t.table) c.requires.made.time_is ∙ c.requires.made.booted.drawn.table

pub share_watch-watch_time-requires-clause-left : goal.share_watch-watch_time-requires-clause-left
share_watch-watch_time-requires-clause-left c =
    let left = ap (λ (t : Time). t.left) c.requires.made.time_is in
    let all = c.requires.made.booted.left in
    omega (arith, left, all)

pub returns : goal.returns
returns c =
    let told = c.requires.made.booted in
    let made = c.requires.made in
    let b = told.boot in
    let m = c.args.booted.machine in
    let watch = c.share_watch-watch_time.ensures in
    let sched : FitsSigned w64 c.args.booted.sched_offset = search rules in
    let gtod : FitsSigned w64 c.args.booted.gtod_offset = search rules in
    let left =
    watch.time ∙ ap (without (watch_tickets m m.watchdog)) made.time_is
    ∙ without_more (word_tickets m) (watch_tickets m m.watchdog) (word_tickets m + watch_tickets m m.watchdog) made.before refl in
    let seat = watch.seat ∙ ap (λ (t : Time). cond (is_some m.watchdog) (Some (watch_time m t)) None) made.time_is in
    record {
      limits = b.limits;
      machine = refl;
      total = b.total;
      epoch = b.epoch;
      stamps = b.stamps;
      sched_offset = to_z-of_z sched ∙ b.sched_offset;
      gtod_offset = to_z-of_z gtod ∙ b.gtod_offset;
      up = c.requires.up;
      demotion = told.fits;
      opened = made.opened;
      latches = rw b.epoch at made.latches;
      watch_latches = rw b.epoch at made.watch_latches;
      booted = made.before;
      drawn = told.drawn;
      times = made.times;
      watch_time = seat;
      time = left;
      share = rw (made.times, seat, left) (shares_watched m made.before told.left ∙ told.drawn.share ∙ sym b.total);
      lists = made.lists;
    }
