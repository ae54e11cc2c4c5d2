use Rattle.clk_laws.proofs.Drift.{loses_the_drift}
use Rattle.clk_laws.proofs.laws.a_demotion_loses_the_drift.Goals as goal

pub returns : goal.returns
returns c = loses_the_drift
