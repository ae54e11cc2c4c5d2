use Rattle.std.proofs.Common.{◌∙◌, sym, ap}
use Rattle.std.specs.Option.{option_copied}
use Rattle.clk_adjust.specs.Outcomes.{runs_of}
use Rattle.clk_adjust.proofs.rooms.runs_of.Goals as goal

pub returns-in-None : goal.returns-in-None
returns-in-None c = ap runs_of (ap option_copied (sym c.in-None.is) ∙ c.bring_up.ensures)

pub returns-in-Some : goal.returns-in-Some
returns-in-Some c = c.most_runs.ensures.count ∙ ap runs_of (ap option_copied (sym c.in-Some.is) ∙ c.bring_up.ensures)
