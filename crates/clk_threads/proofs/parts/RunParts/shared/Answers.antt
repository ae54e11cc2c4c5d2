use Rattle.std.proofs.Common.{ap, ◌∙◌}
use Rattle.clk_threads.specs.Parts.{Parts, shared_of}
use Rattle.clk_threads.proofs.parts.RunParts.shared.Goals as goal

pub returns : goal.returns
returns c = c.self.invariant.run.shared ∙ ap (λ (r : Parts). shared_of r.prepared) c.self.view_is
