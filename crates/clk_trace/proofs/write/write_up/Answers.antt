use Rattle.clk_trace.proofs.Taking.{takes_more}
use Rattle.clk_trace.proofs.write.write_up.Goals as goal

pub returns : goal.returns
returns g c = takes_more _ _ _ _ _ c.write_runs.ensures c.write_cpu.ensures
