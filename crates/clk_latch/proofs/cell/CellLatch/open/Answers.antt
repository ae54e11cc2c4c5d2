use Rattle.std.proofs.Common.{rules, sym, ap, ◌∙◌, subst}
use mir.Syntax.{w64}
use Rattle.std.proofs.lemmas.Int.{to_z-of_z}
use Rattle.crossbeam_utils.specs.Seq.{cell_view}
use Rattle.clk_num.specs.Wrapping.{IsValue, IsBitsOf, bits_of}
use Rattle.clk_num.proofs.Heights.{bits_are}
use Rattle.clk_latch.specs.CellRule.{MayStore, knows_stored}
use Rattle.clk_latch.proofs.Updating.{zero_small}
use Rattle.clk_latch.proofs.CellSteps.{may_open, may_picked, picked}
use Rattle.clk_latch.proofs.cell.CellLatch.open.Goals as goal

pub store-requires-clause-may : goal.store-requires-clause-may
store-requires-clause-may g c =
    let zero = c.args.zero.now in
    let fits : IsValue zero.ns = search rules in
    let ns : IsBitsOf zero.ns c.bits_of.result = subst (IsBitsOf zero.ns) (ap bits_of (sym (to_z-of_z w64 zero.ns fits)) ∙ sym c.bits_of.ensures) (bits_are zero.ns fits) in
    may_picked _ _ _ _ _ _ c.requires.pick c.requires.left (subst (MayStore _ zero c.args.updates) (sym c.requires.unopened) (may_open _ _ _ c.requires.updates (zero_small _ c.requires.zero) ns))

pub returns-clause-is : goal.returns-clause-is
returns-clause-is g c =
    picked _ c.args.zero.now _ c.args.updates (cell_view c.args.pass.now) (cell_view c.store.new.pass) c.requires.pick c.requires.left c.store.ensures.is ∙ ap (knows_stored c.args.zero.now c.args.updates) c.requires.unopened
