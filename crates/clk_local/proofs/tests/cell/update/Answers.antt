use Rattle.std.proofs.Common.{◌≡◌, ℕ, ℤ, List, get_or, refl, sym, ap, ◌∙◌, subst, arith}
use Rattle.clk_machine.specs.Plan.{Plan}
use Rattle.clk_machine.specs.Records.{base_of, AreRecords}
use Rattle.clk_machine.specs.declared.reading.Published.{Published}
use Rattle.clk_latch.specs.Epoch.{Epoch}
use Rattle.clk_local.specs.Context.{BeginsAtBase}
use Rattle.clk_local.proofs.ContextKept.{role_same, still_usable}
use Rattle.clk_local.proofs.Spending.{one_ticket}
use Rattle.clk_local.proofs.tests.cell.update.Goals as goal

-- the records of a machine begin at its base
begins : (m : Plan) (cpu : ℕ) (adjust : ℤ) (e : Epoch) → AreRecords m cpu adjust e.records → BeginsAtBase m e
begins m cpu adjust e are = record { zero = λ d. subst (λ (rs : List Published). (get_or rs 0 d).ns ≡ base_of m) (sym are.all) refl }

pub returns-clause-usable : goal.returns-clause-usable
returns-clause-usable g c =
    still_usable _ _ _ _ _ _ c.requires.usable c.requires.usable.of_words (role_same c.args.ctx.now.seat.view) c.update.ensures.own
    (one_ticket _ _ _ c.requires.tickets c.update.ensures.draws).table_is (begins _ _ _ _ c.update.ensures.updates.records)

pub returns-clause-owner : goal.returns-clause-owner
returns-clause-owner g c = ap (λ (x : Epoch). x.owner) c.update.ensures.updates.is ∙ c.requires.owner

pub returns-clause-left : goal.returns-clause-left
returns-clause-left g c =
    let left = ap (λ (x : Epoch). x.left) c.update.ensures.updates.is in
    let some_left = c.requires.left in omega arith

pub returns-clause-tickets : goal.returns-clause-tickets
returns-clause-tickets g c = (one_ticket _ _ _ c.requires.tickets c.update.ensures.draws).left
