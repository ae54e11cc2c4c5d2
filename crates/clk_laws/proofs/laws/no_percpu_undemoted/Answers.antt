use Rattle.clk_laws.proofs.Turned.{no_percpu}
use Rattle.clk_laws.proofs.laws.no_percpu_undemoted.Goals as goal

pub returns : goal.returns
returns c = no_percpu
