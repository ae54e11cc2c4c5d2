use Rattle.std.proofs.Common.{ap, refl, rules, arith, subst, to_z-of_z, FitsSigned, w64}
use Rattle.clk_words.specs.declared.opening.Start.{Start}
use Rattle.clk_words.specs.Bounds.{IsRaw}
use Rattle.clk_words.specs.Held.{Place}
use Rattle.clk_words.specs.Histories.{opens_at}
use Rattle.clk_words.proofs.Loading.{kept_both, kept_stamped}
use Rattle.clk_local.proofs.Raising.{raw_near, still_base}
use Rattle.clk_local.proofs.ContextKept.{still_usable, role_kept}
use Rattle.clk_local.proofs.Spending.{one_ticket, then_spends}
use Rattle.clk_local.proofs.ticks.store_stamp.Goals as goal

pub stamp_raw-requires-clause-bound : goal.stamp_raw-requires-clause-bound
stamp_raw-requires-clause-bound g c =
    let ns : FitsSigned w64 c.read-raw.result.ns = search rules in
    let near : IsRaw (opens_at c.args.ctx.now.seat.view.start) c.read-raw.result.ns =
    raw_near _ _ _ _ _ _ _ c.read-raw.ensures.reads c.requires.usable.base c.requires.usable.opening in
    rw (to_z-of_z ns) (subst (λ (s : Start). IsRaw (opens_at s) c.read-raw.result.ns) (ap (λ (p : Place). p.start) c.requires.usable.of_words) near)

pub returns-clause-spends : goal.returns-clause-spends
returns-clause-spends g c =
    let first = one_ticket _ _ _ (omega (arith, c.requires.tickets)) c.draw-gtod_ticket.ensures in
    let left = first.left in
    then_spends 1 1 _ _ _ first (one_ticket _ _ _ (omega arith) c.read-raw.ensures.draws)

pub returns-clause-keeps : goal.returns-clause-keeps
returns-clause-keeps g c =
    let kept = kept_both _ _ _ (kept_stamped _ _ _ _ c.stamp_gtod.ensures.stamped) (kept_stamped _ _ _ _ c.stamp_raw.ensures.stamped) in
    let role = role_kept _ _ kept in
    record {
      words = refl;
      epochs = refl;
      tickets = refl;
      site = refl;
      role = role;
      usable = still_usable _ _ _ _ _ _ c.requires.usable c.stamp_raw.ensures.own role c.read-raw.ensures.own (returns-clause-spends g c).table_is
          (still_base _ _ _ _ _ _ c.read-raw.ensures.reads c.requires.usable.base);
      may_stamp = λ may. record { owner = search rules; whole = c.stamp_raw.ensures.turn };
    }
