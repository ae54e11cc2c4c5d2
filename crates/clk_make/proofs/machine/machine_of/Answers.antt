use Rattle.std.proofs.Common.{sym, subst}
use Rattle.clk_machine.specs.Plan.{plan_of}
use Rattle.clk_machine.specs.Short.{IsWellFormed}
use Rattle.clk_make.proofs.Within.{well_formed, is_machine}
use Rattle.clk_make.proofs.machine.machine_of.Goals as goal

pub new-requires : goal.new-requires
new-requires c = subst IsWellFormed (sym c.in_ok-parts.ensures) (well_formed c.args.n)

pub unwrap-requires : goal.unwrap-requires
unwrap-requires c = is_machine c.args.n (plan_of c.in_ok-parts.parts) c.new.result c.in_ok-parts.ensures c.new.ensures.refused
