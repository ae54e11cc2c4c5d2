use Rattle.std.proofs.Common.{refl, rules, ap, to_z-of_z, FitsSigned, w64}
use Rattle.clk_words.specs.Held.{Place}
use Rattle.clk_words.proofs.Loading.{kept_both, kept_makes}
use Rattle.clk_local.proofs.Raising.{raw_near, still_base, own_raise}
use Rattle.clk_local.proofs.Showing.{shows_raised, owner_raised}
use Rattle.clk_local.proofs.ContextKept.{still_usable, found_still, role_kept}
use Rattle.clk_local.proofs.Spending.{one_ticket}
use Rattle.clk_local.proofs.readings.local_raised.Goals as goal

pub load_why-why-requires-clause-raw : goal.load_why-why-requires-clause-raw
load_why-why-requires-clause-raw g c =
    let ns : FitsSigned w64 c.read-raw.result.ns = search rules in
    rw (to_z-of_z ns) (raw_near _ _ _ _ _ _ _ c.read-raw.ensures.reads c.requires.usable.base c.requires.usable.opening)

pub raise-step-requires-clause-found : goal.raise-step-requires-clause-found
raise-step-requires-clause-found g c = found_still _ _ c.load_why-why.ensures.kept c.requires.found

pub returns-clause-shows : goal.returns-clause-shows
returns-clause-shows g c =
    let ns : FitsSigned w64 c.read-raw.result.ns = search rules in
    let finds = simp to_z-of_z at c.load_why-why.ensures.finds in
    shows_raised _ _ _ _ _ _ _ c.requires.usable.cpu_is c.read-raw.ensures.draws c.read-raw.ensures.reads finds c.load_why-why.ensures.kept
    (own_raise c.load_why-why.new.seat.view _ _ _ _ _ c.cpu-cpu.ensures.cpu (ap (λ (p : Place). p.start) c.load_why-why.ensures.own) c.raise-step.ensures.step)
    c.raise-step.ensures.raises

pub returns-clause-spends : goal.returns-clause-spends
returns-clause-spends g c = one_ticket _ _ _ c.requires.ticket c.read-raw.ensures.draws

pub returns-clause-keeps : goal.returns-clause-keeps
returns-clause-keeps g c =
    let kept = kept_both _ _ _ c.load_why-why.ensures.kept (kept_makes _ _ _ c.raise-step.ensures.raises.makes) in
    let role = role_kept _ _ kept in
    record {
      words = refl;
      epochs = refl;
      tickets = refl;
      site = refl;
      role = role;
      usable = still_usable _ _ _ _ _ _ c.requires.usable c.raise-step.ensures.own role c.read-raw.ensures.own (returns-clause-spends g c).table_is
          (still_base _ _ _ _ _ _ c.read-raw.ensures.reads c.requires.usable.base);
      may_stamp = λ may. owner_raised _ _ _ _ _ (returns-clause-shows g c) may;
    }
