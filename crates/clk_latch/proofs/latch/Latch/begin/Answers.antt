use Rattle.std.proofs.Common.{rules, ap}
use Rattle.atomic_table.specs.Table.{Me}
use Rattle.clk_latch.specs.declared.rule.Knows.{Knows}
use Rattle.clk_latch.specs.LatchRule.{IsCyc, IsNs}
use Rattle.clk_latch.proofs.LatchSteps.{begins, loads}
use Rattle.clk_latch.proofs.Turning.{reads_cyc, reads_ns, has_turn, went_turn}
use Rattle.clk_latch.proofs.latch.Latch.begin.Goals as goal

pub load-sequence-requires : goal.load-sequence-requires
load-sequence-requires g c = (search rules, search rules, begins _ _ _ _)

pub load-cyc-requires : goal.load-cyc-requires
load-cyc-requires g c =
    let began = c.load-sequence.ensures.2 in
    (search rules, search rules, loads IsCyc _ _ _ _ (reads_cyc _ _ (ap (λ (me : Me (Unit {0}) Knows). me.0.at) began.is)))

pub load-ns-requires : goal.load-ns-requires
load-ns-requires g c = (search rules, search rules, loads IsNs _ _ _ _ (reads_ns _ _ (search rules)))

pub returns-clause-turn : goal.returns-clause-turn
returns-clause-turn g c = has_turn _ _ _ _ _ _ _ _ _ c.load-sequence.ensures.2 c.load-cyc.ensures.2 c.load-ns.ensures.2

pub returns-clause-went : goal.returns-clause-went
returns-clause-went g c = went_turn _ _ _ _ _ _ _ _ _ _ c.requires.pick c.load-sequence.ensures.2 c.load-cyc.ensures.2 c.load-ns.ensures.2
