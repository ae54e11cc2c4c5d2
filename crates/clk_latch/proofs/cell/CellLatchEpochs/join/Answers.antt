use Rattle.std.proofs.Common.{◌≡◌, Option, rules, sym, ap, ◌∙◌, subst}
use Rattle.std.specs.Option.{option_or}
use Rattle.crossbeam_utils.specs.Seq.{cell_view}
use Rattle.clk_machine.specs.declared.reading.Published.{Published}
use Rattle.clk_latch.specs.declared.rule.Knows.{Knows}
use Rattle.clk_latch.specs.Epoch.{Epoch, Place}
use Rattle.clk_latch.specs.Calls.{Joins}
use Rattle.clk_latch.specs.LatchSeats.{epoch_of}
use Rattle.clk_latch.specs.CellRule.{IsCellSeated}
use Rattle.clk_latch.specs.LatchRule.{knows_both}
use Rattle.clk_latch.proofs.CellSteps.{hands, joins, tells}
use Rattle.clk_latch.proofs.CellReading.{joined_seat, or_first, or_second}
use Rattle.clk_latch.proofs.Seating.{joined}
use Rattle.clk_latch.proofs.cell.CellLatchEpochs.join.Goals as goal

pub split_pass-other-requires : goal.split_pass-other-requires
split_pass-other-requires g c = (search rules, (search rules, (search rules, hands _ _)))

pub join_pass-requires : goal.join_pass-requires
join_pass-requires g c = (search rules, (search rules, ((search rules, search rules, search rules), joins _ _ _ _)))

pub load_as-requires : goal.load_as-requires
load_as-requires g c = (search rules, (search rules, (search rules, tells _ _)))

pub invariant_of-result : goal.invariant_of-result
invariant_of-result g c =
    let told = c.load_as.ensures.rule in
    let both = c.join_pass.ensures.1 ∙ ap (knows_both (cell_view c.a.inside.pass)) c.split_pass-other.ensures.given.1 in
    let once = ap (λ (k : Knows). k.twice) told.is ∙ told.once in
    let seated : IsCellSeated (option_or c.a.inside.current c.b.inside.current) (cell_view c.load_as.new.pass) =
    joined_seat _ _ _ _ _ _ c.a.invariant c.b.invariant (told.is ∙ both) once (λ p is. or_first _ _ p is) (λ is. or_second _ _ is) in
    subst (λ (o : Option Published). IsCellSeated o (cell_view c.load_as.new.pass)) (sym c.or.ensures) seated

pub returns-clause-joins : goal.returns-clause-joins
returns-clause-joins g c =
    let told = c.load_as.ensures.rule in
    let both : cell_view c.join_pass.new.pass ≡ knows_both (cell_view c.a.inside.pass) (cell_view c.b.inside.pass) =
    c.join_pass.ensures.1 ∙ ap (knows_both (cell_view c.a.inside.pass)) c.split_pass-other.ensures.given.1 in
    let one = joined (cell_view c.a.inside.pass) (cell_view c.b.inside.pass) (cell_view c.join_pass.new.pass) both told.once told.told told.owner in
    let first : epoch_of (cell_view c.a.inside.pass) ≡ c.args.a.epoch = ap (λ (p : Place). p.epoch) c.a.view_is in
    let second : epoch_of (cell_view c.b.inside.pass) ≡ c.args.b.epoch = ap (λ (p : Place). p.epoch) c.b.view_is in
    subst (λ (e : Epoch). Joins e c.args.b.epoch (epoch_of (cell_view c.load_as.new.pass))) first
    (subst (λ (e : Epoch). Joins (epoch_of (cell_view c.a.inside.pass)) e (epoch_of (cell_view c.load_as.new.pass))) second
    (subst (λ (k : Knows). Joins (epoch_of (cell_view c.a.inside.pass)) (epoch_of (cell_view c.b.inside.pass)) (epoch_of k)) (sym told.is) one))
