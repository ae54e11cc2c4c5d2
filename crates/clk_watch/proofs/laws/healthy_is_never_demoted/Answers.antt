use Rattle.clk_watch.proofs.Staying.{healthy_stays}
use Rattle.clk_watch.proofs.laws.healthy_is_never_demoted.Goals as goal

pub returns : goal.returns
returns c = healthy_stays
