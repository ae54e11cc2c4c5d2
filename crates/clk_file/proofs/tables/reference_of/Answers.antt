use Rattle.std.proofs.Common.{refl}
use Rattle.clk_file.specs.Keys.{found}
use Rattle.clk_file.proofs.tables.reference_of.Goals as goal

-- a table that is missing is read as an empty one
pub returns-in-None-clause-value : goal.returns-in-None-clause-value
unfolding found
returns-in-None-clause-value c = rw (← c.in-None.ensures.value) refl
