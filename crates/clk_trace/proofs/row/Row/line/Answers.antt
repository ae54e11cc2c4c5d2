use Rattle.std.proofs.Common.{◌≡◌, ◌+◌, ◌-◌, arith, []}
use Rattle.std.proofs.lemmas.List.Sums.{sum_by-drop_more, sum_by-take-drop}
use Rattle.clk_trace.specs.Parts.{part_room}
use Rattle.clk_trace.specs.declared.out.Part.TheVariants.{Name}
use Rattle.clk_trace.proofs.row.Row.line.Goals as goal

pub part-requires : goal.part-requires
part-requires c =
    let i = c.loop-left.left - 1 in
    let place : i + 1 ≡ c.loop-left.left = omega arith in
    let next = rw place at (sum_by-drop_more part_room c.args.rest.now i (Name record { ref_ptr = (0, 0); now = [] }) (omega arith)) in
    omega (arith, c.loop-left.invariant.fits, c.requires, next, sum_by-take-drop part_room c.args.rest.now i)
