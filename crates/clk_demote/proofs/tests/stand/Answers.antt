use Rattle.std.proofs.Common.{[], ◌∷◌, List, map, All, sym, subst, arith}
use Rattle.std.proofs.lemmas.List.Elements.{All-cons}
use Rattle.clk_machine.specs.Plan.{Plan}
use Rattle.clk_latch.specs.Epoch.{Epoch, Place}
use Rattle.clk_local.specs.Context.{BeginsAtBase}
use Rattle.clk_demote.proofs.tests.stand.Goals as goal

-- the one latch begins at the base
one_begins : (m : Plan) (e : Epoch) → BeginsAtBase m e → All (BeginsAtBase m) (e ∷ [])
one_begins m e is = All-cons (BeginsAtBase m) e [] is (λ k d low. absurd (omega arith))

pub returns-clause-base : goal.returns-clause-base
returns-clause-base g c =
    let begins : BeginsAtBase c.machine-machine.result c.expect-latch.result.1.epoch = rw c.expect-latch.ensures at c.latch.ensures.base in
    subst (λ (ss : List Place). All (BeginsAtBase c.machine-machine.result) (map (λ (s : Place). s.epoch) ss)) (sym c.one.ensures)
    (one_begins _ _ begins)
