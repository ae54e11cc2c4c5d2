use Rattle.clk_laws.proofs.Turned.{no_stable_after}
use Rattle.clk_laws.proofs.laws.no_stable_after_percpu.Goals as goal

pub returns : goal.returns
returns c = no_stable_after
