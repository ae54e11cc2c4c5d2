use Rattle.std.proofs.Common.{◌≡◌, pos, ◌+ℤ◌, get_or, take, FitsSigned, w64, to_z-of_z, sym, add-one}
use Rattle.clk_machine.specs.declared.parts.Jump.{Jump}
use Rattle.clk_machine.proofs.Summing.{cycles_of, one_fits, fits_sum, jump_at, jump_put, cycles_more}
use Rattle.clk_machine.proofs.parts.sum_jumps.Goals as goal

abbrev none : Jump
none = record { at = pos 0; cycles = pos 0; sum = pos 0 }

pub overflow_add-sum : goal.overflow_add-sum
overflow_add-sum c =
    let here : get_or c.loop-jump.jumps c.loop-jump.jump-index none ≡ get_or c.args.jumps.now c.loop-jump.jump-index none =
    rw c.loop-jump.invariant.done (jump_at (pos 0) c.args.jumps.now c.loop-jump.jump-index none c.loop-jump-test.true) in
    let one : FitsSigned w64 (get_or c.args.jumps.now c.loop-jump.jump-index none).cycles = one_fits c.args.jumps.now c.loop-jump.jump-index none c.loop-jump-test.true c.requires in
    rw (here, c.loop-jump.invariant.sum, to_z-of_z one) (fits_sum c.args.jumps.now c.loop-jump.jump-index none c.loop-jump-test.true c.requires)

pub loop-jump-preserved : goal.loop-jump-preserved
loop-jump-preserved c =
    let here : get_or c.loop-jump.jumps c.loop-jump.jump-index none ≡ get_or c.args.jumps.now c.loop-jump.jump-index none =
    rw c.loop-jump.invariant.done (jump_at (pos 0) c.args.jumps.now c.loop-jump.jump-index none c.loop-jump-test.true) in
    let one : FitsSigned w64 (get_or c.args.jumps.now c.loop-jump.jump-index none).cycles = one_fits c.args.jumps.now c.loop-jump.jump-index none c.loop-jump-test.true c.requires in
    let all : FitsSigned w64 (cycles_of (take c.loop-jump.jump-index c.args.jumps.now) +ℤ (get_or c.args.jumps.now c.loop-jump.jump-index none).cycles) =
    fits_sum c.args.jumps.now c.loop-jump.jump-index none c.loop-jump-test.true c.requires in
    rw (here, c.loop-jump.invariant.sum, to_z-of_z one, to_z-of_z all, add-one) (record {
      sum = sym (cycles_more c.args.jumps.now c.loop-jump.jump-index none c.loop-jump-test.true);
      done = rw c.loop-jump.invariant.done (jump_put c.args.jumps.now c.loop-jump.jump-index none c.loop-jump-test.true);
    })
