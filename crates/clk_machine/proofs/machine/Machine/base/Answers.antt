use Rattle.std.proofs.Common.{rules}
use Rattle.clk_machine.specs.Records.{base_of}
use Rattle.clk_machine.proofs.machine.Machine.base.Goals as goal

pub returns : goal.returns
unfolding base_of
returns c = search rules
