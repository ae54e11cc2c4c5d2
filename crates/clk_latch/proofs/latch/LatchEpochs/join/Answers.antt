use Rattle.std.proofs.Common.{◌≡◌, rules, sym, ap, subst}
use Rattle.atomic_table.specs.Table.{Me}
use Rattle.clk_latch.specs.declared.rule.Knows.{Knows}
use Rattle.clk_latch.specs.Epoch.{Epoch, Place}
use Rattle.clk_latch.specs.Calls.{Joins}
use Rattle.clk_latch.specs.LatchSeats.{epoch_of}
use Rattle.clk_latch.specs.LatchRule.{knows_both}
use Rattle.clk_latch.proofs.LatchSteps.{learns}
use Rattle.clk_latch.proofs.Seating.{joins, joined}
use Rattle.clk_latch.proofs.latch.LatchEpochs.join.Goals as goal

pub join_seat-requires : goal.join_seat-requires
join_seat-requires c = (search rules, search rules, search rules, search rules, joins _ _ _ _)

pub load-requires : goal.load-requires
load-requires c = (search rules, search rules, learns _ _ _)

pub returns-clause-joins : goal.returns-clause-joins
returns-clause-joins c =
    let told = c.load.ensures.2 in
    let both : c.join_seat.new.seat.me.0 ≡ knows_both c.a.inside.seat.me.0 c.b.inside.seat.me.0 = ap (λ (me : Me (Unit {0}) Knows). me.0) c.join_seat.ensures.2 in
    let one = joined c.a.inside.seat.me.0 c.b.inside.seat.me.0 c.join_seat.new.seat.me.0 both told.once told.told told.owner in
    let first : epoch_of c.a.inside.seat.me.0 ≡ c.args.a.epoch = ap (λ (p : Place). p.epoch) c.a.view_is in
    let second : epoch_of c.b.inside.seat.me.0 ≡ c.args.b.epoch = ap (λ (p : Place). p.epoch) c.b.view_is in
    subst (λ (e : Epoch). Joins e c.args.b.epoch (epoch_of c.load.new.seat.me.0)) first
    (subst (λ (e : Epoch). Joins (epoch_of c.a.inside.seat.me.0) e (epoch_of c.load.new.seat.me.0)) second
    (subst (λ (me : Me (Unit {0}) Knows). Joins (epoch_of c.a.inside.seat.me.0) (epoch_of c.b.inside.seat.me.0) (epoch_of me.0)) (sym told.is) one))
