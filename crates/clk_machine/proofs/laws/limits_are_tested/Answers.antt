use Rattle.clk_machine.proofs.Testing.{ranges_are_tested, limits_are_tested}
use Rattle.clk_machine.proofs.laws.limits_are_tested.Goals as goal

pub returns-clause-ranges : goal.returns-clause-ranges
returns-clause-ranges c = ranges_are_tested

pub returns-clause-limits : goal.returns-clause-limits
returns-clause-limits c = limits_are_tested
