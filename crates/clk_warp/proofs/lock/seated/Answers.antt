use Rattle.std.proofs.Common.{rules, ap}
use Rattle.clk_warp.proofs.Ending.{splits}
use Rattle.clk_warp.proofs.lock.seated.Goals as goal

pub split_seat-other-requires : goal.split_seat-other-requires
split_seat-other-requires c = (search rules, search rules, splits _ _ _ (ap (λ m. m.0.role) c.requires.seat))
