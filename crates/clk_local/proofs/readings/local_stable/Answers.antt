use Rattle.std.proofs.Common.{refl, rules, FitsSigned, w64}
use Rattle.clk_num.proofs.Heights.{sum_is}
use Rattle.clk_local.proofs.Raising.{still_base}
use Rattle.clk_local.proofs.ContextKept.{role_same, still_usable}
use Rattle.clk_local.proofs.Spending.{one_ticket}
use Rattle.clk_local.proofs.readings.local_stable.Goals as goal

pub returns-clause-shows : goal.returns-clause-shows
returns-clause-shows g c =
    let ns : FitsSigned w64 c.read-raw.result.ns = search rules in
    let offset : FitsSigned w64 c.args.ctx.now.sched_offset = search rules in
    record {
      reads = record { draws = c.read-raw.ensures.draws; reads = c.read-raw.ensures.reads };
      value_is = sum_is c.read-raw.result.ns c.args.ctx.now.sched_offset ns offset;
      view_is = refl;
    }

pub returns-clause-keeps : goal.returns-clause-keeps
returns-clause-keeps g c =
    let role = role_same c.args.ctx.now.seat.view in
    record {
      words = refl;
      epochs = refl;
      tickets = refl;
      site = refl;
      role = role;
      usable = still_usable _ _ _ _ _ _ c.requires.usable c.requires.usable.of_words role c.read-raw.ensures.own
          (one_ticket _ _ _ c.requires.ticket c.read-raw.ensures.draws).table_is
          (still_base _ _ _ _ _ _ c.read-raw.ensures.reads c.requires.usable.base);
      may_stamp = λ may. may;
    }
