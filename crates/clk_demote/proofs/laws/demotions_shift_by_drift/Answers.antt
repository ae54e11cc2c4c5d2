use Rattle.clk_record.proofs.Shifting.{shift_by_drift}
use Rattle.clk_demote.proofs.laws.demotions_shift_by_drift.Goals as goal

pub returns : goal.returns
returns c = shift_by_drift
