use Rattle.std.proofs.Common.{◌≡◌, refl, sym, ap, ◌∙◌, subst}
use Rattle.clk_machine.specs.Plan.{Plan}
use Rattle.clk_machine.specs.Records.{record_zero}
use Rattle.clk_machine.specs.declared.reading.Published.{Published}
use Rattle.clk_latch.specs.Epoch.{Epoch, owner_of}
use Rattle.clk_local.specs.Context.{BeginsAtBase}
use Rattle.clk_demote.proofs.tests.latch.Goals as goal

-- a latch begins with record 0
begins : (m : Plan) (e : Epoch) → e ≡ owner_of (record_zero m) 0 → BeginsAtBase m e
begins m e is = subst (BeginsAtBase m) (sym is) (record { zero = λ d. refl })

pub returns-clause-base : goal.returns-clause-base
returns-clause-base c =
    begins c.args.machine.now _ (c.in_ok-latch.ensures.seat ∙ ap (λ (zero : Published). owner_of zero 0) c.zero_of.ensures.zero)
