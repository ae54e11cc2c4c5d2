use Rattle.std.proofs.Common.{◌∙◌, arith}
use Rattle.clk_make.specs.Fixed.{IsRunSized}
use Rattle.clk_tool.proofs.Making.{run_sized, are_sizes, sizes_fixed}
use Rattle.clk_tool.proofs.make.run_made.Goals as goal

pub sizes_of-requires-clause-threads : goal.sizes_of-requires-clause-threads
sizes_of-requires-clause-threads g c =
    let sized : IsRunSized c.args.n c.in_ok-finished.finished.trace = run_sized _ _ _ c.sizes_are_fixed.ensures.runs c.in_ok-machine.ensures c.in_ok-finished.ensures in
    let histories = sized.histories in
    let threads = sized.threads in
    omega (arith, histories, threads)

pub sizes_of-requires-clause-steps : goal.sizes_of-requires-clause-steps
sizes_of-requires-clause-steps g c =
    let sized : IsRunSized c.args.n c.in_ok-finished.finished.trace = run_sized _ _ _ c.sizes_are_fixed.ensures.runs c.in_ok-machine.ensures c.in_ok-finished.ensures in
    let steps = sized.steps in
    omega (arith, steps)

pub returns-clause-sizes : goal.returns-clause-sizes
returns-clause-sizes g c =
    let sizes = c.sizes_of.ensures in
    are_sizes _ _ c.in_ok-finished.finished.trace _ c.in_ok-machine.ensures c.in_ok-finished.ensures sizes.cpus sizes.readers (sizes.words ∙ c.words_of-words.ensures) sizes.tickets
    sizes.steps

pub returns-clause-fixed : goal.returns-clause-fixed
returns-clause-fixed g c =
    let sizes = c.sizes_of.ensures in
    sizes_fixed _ _ c.sizes_are_fixed.ensures.machines c.sizes_are_fixed.ensures.runs
    (are_sizes _ _ c.in_ok-finished.finished.trace _ c.in_ok-machine.ensures c.in_ok-finished.ensures sizes.cpus sizes.readers (sizes.words ∙ c.words_of-words.ensures) sizes.tickets
    sizes.steps)
