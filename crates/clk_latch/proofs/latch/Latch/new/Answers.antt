use Rattle.std.proofs.Common.{◌≡◌, Some, [], rules, sym, ap, ◌∙◌, subst}
use mir.Syntax.{w64}
use Rattle.std.proofs.lemmas.Int.{to_z-of_z}
use Rattle.atomic_table.specs.Table.{Me}
use Rattle.clk_num.specs.Wrapping.{IsValue, IsBitsOf, bits_of}
use Rattle.clk_num.proofs.Heights.{bits_are}
use Rattle.clk_latch.specs.declared.rule.Knows.{Knows}
use Rattle.clk_latch.specs.LatchRule.{knows_first}
use Rattle.clk_latch.specs.LatchSeats.{IsOwner}
use Rattle.clk_latch.proofs.LatchSteps.{true_not_false}
use Rattle.clk_latch.proofs.Seating.{starts}
use Rattle.clk_latch.proofs.Updating.{zero_small, first_owner}
use Rattle.clk_latch.proofs.latch.Latch.new.Goals as goal

pub of_words-requires : goal.of_words-requires
of_words-requires c =
    let fits : IsValue c.args.zero.ns = search rules in
    let ns : IsBitsOf c.args.zero.ns c.bits_of-ns.result = subst (IsBitsOf c.args.zero.ns) (ap bits_of (sym (to_z-of_z w64 c.args.zero.ns fits)) ∙ sym c.bits_of-ns.ensures) (bits_are c.args.zero.ns fits) in
    starts _ _ _ c.requires.updates ns (zero_small _ c.requires.zero)

pub invariant_of-result-2 : goal.invariant_of-result-2
invariant_of-result-2 c =
    let owner = first_owner c.args.zero c.args.updates c.requires.updates c.requires.zero.number (zero_small _ c.requires.zero) in
    let me : c.in_ok-table.seat.me ≡ (knows_first c.args.zero c.args.updates, []) = search rules in
    record {
      empty = ap (λ (x : Me (Unit {0}) Knows). x.1) me;
      reader = λ o. absurd (true_not_false (sym (ap (λ (x : Me (Unit {0}) Knows). x.0.owner) me) ∙ o));
      owner = λ _. subst (λ (x : Me (Unit {0}) Knows). IsOwner (Some c.args.zero) x.0) (sym me) owner;
    }
