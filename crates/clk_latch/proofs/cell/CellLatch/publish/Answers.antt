use Rattle.std.proofs.Common.{◌-◌, rules, sym, ap, ◌∙◌, subst}
use mir.Syntax.{w64}
use Rattle.std.proofs.lemmas.Int.{to_z-of_z}
use Rattle.crossbeam_utils.specs.Seq.{cell_view}
use Rattle.clk_num.specs.Wrapping.{IsValue, IsBitsOf, bits_of}
use Rattle.clk_num.proofs.Heights.{bits_are}
use Rattle.clk_latch.proofs.CellSteps.{may_follow, follows, may_picked, picked}
use Rattle.clk_latch.proofs.cell.CellLatch.publish.Goals as goal

pub store-requires-clause-may : goal.store-requires-clause-may
store-requires-clause-may g c =
    let new = c.args.new.now in
    let fits : IsValue new.ns = search rules in
    let ns : IsBitsOf new.ns c.bits_of.result = subst (IsBitsOf new.ns) (ap bits_of (sym (to_z-of_z w64 new.ns fits)) ∙ sym c.bits_of.ensures) (bits_are new.ns fits) in
    may_picked _ _ _ _ _ _ c.requires.pick c.requires.left (may_follow _ _ _ _ c.requires.may c.requires.number c.requires.few (search rules) ns)

pub returns-clause-is : goal.returns-clause-is
returns-clause-is g c = picked _ c.args.new.now _ ((cell_view c.args.pass.now).left - 1) (cell_view c.args.pass.now) (cell_view c.store.new.pass) c.requires.pick c.requires.left c.store.ensures.is ∙ follows c.args.new.now (cell_view c.args.pass.now) c.requires.may.even
