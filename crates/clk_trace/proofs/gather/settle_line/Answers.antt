use Rattle.std.proofs.Common.{arith}
use Rattle.std.proofs.lemmas.List.Sorted.{IsPermutation-trans, length_permutation}
use Rattle.clk_trace.proofs.gather.settle_line.Goals as goal

pub element_of_lent-goes_before : goal.element_of_lent-goes_before
element_of_lent-goes_before c =
    let same = length_permutation _ _ c.loop-at.invariant.0 in
    let within = c.loop-at.invariant.1 in
    omega (arith, same, within, c.requires)

pub element_of_lent-goes_before-then-left-gt0 : goal.element_of_lent-goes_before-then-left-gt0
element_of_lent-goes_before-then-left-gt0 c =
    let same = length_permutation _ _ c.loop-at.invariant.0 in
    let within = c.loop-at.invariant.1 in
    omega (arith, same, within, c.requires)

pub swap-requires-clause-a_in_bounds : goal.swap-requires-clause-a_in_bounds
swap-requires-clause-a_in_bounds c =
    let same = length_permutation _ _ c.loop-at.invariant.0 in
    let within = c.loop-at.invariant.1 in
    omega (arith, same, within, c.requires)

pub swap-requires-clause-b_in_bounds : goal.swap-requires-clause-b_in_bounds
swap-requires-clause-b_in_bounds c =
    let same = length_permutation _ _ c.loop-at.invariant.0 in
    let within = c.loop-at.invariant.1 in
    omega (arith, same, within, c.requires)

pub loop-at-preserved : goal.loop-at-preserved
loop-at-preserved c = (IsPermutation-trans _ _ _ c.loop-at.invariant.0 c.swap.ensures.permutation, omega (arith, c.loop-at.invariant.1))

pub shape_of-lines-else-goes_before : goal.shape_of-lines-else-goes_before
shape_of-lines-else-goes_before c = length_permutation _ _ c.loop-at.invariant.0

pub shape_of-lines-else-left-gt0 : goal.shape_of-lines-else-left-gt0
shape_of-lines-else-left-gt0 c = length_permutation _ _ c.loop-at.invariant.0

pub shape_of-lines-after-loop-at : goal.shape_of-lines-after-loop-at
shape_of-lines-after-loop-at c = length_permutation _ _ c.loop-at.invariant.0
