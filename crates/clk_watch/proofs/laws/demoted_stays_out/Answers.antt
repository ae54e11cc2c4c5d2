use Rattle.clk_watch.proofs.Staying.{demoted_stays, lost_stays}
use Rattle.clk_watch.proofs.laws.demoted_stays_out.Goals as goal

pub returns : goal.returns
returns c = record { again = demoted_stays; at_boot = lost_stays }
