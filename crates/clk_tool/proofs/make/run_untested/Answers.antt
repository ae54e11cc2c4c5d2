use Rattle.clk_tool.proofs.Making.{booted_is, booted_untested}
use Rattle.clk_tool.proofs.make.run_untested.Goals as goal

pub run_machine-requires-clause-booted : goal.run_machine-requires-clause-booted
run_machine-requires-clause-booted g c κs within =
    booted_untested c.in_ok-booted.booted c.in_ok-up.up (booted_is _ _ c.in_ok-booted.ensures) c.in_ok-up.ensures.up c.in_ok-up.ensures.readings
