use Rattle.clk_tool.proofs.tool.run_booted.Goals as goal
use Rattle.clk_tool.proofs.Bringing.{booted_for}

pub write_run-requires-clause-booted : goal.write_run-requires-clause-booted
write_run-requires-clause-booted g c κs within =
    booted_for c.args.booted.machine c.args.booted c.in-Ok.up c.bring_up-up.new.time c.requires.booted c.in-Ok.ensures.brought_up c.in-Ok.ensures.readings c.in-Ok.ensures.few
