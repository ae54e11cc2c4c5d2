use Rattle.std.proofs.Common.{ap, ◌∙◌, subst, arith}
use Rattle.atomic_table.specs.Table.{Me}
use Rattle.clk_record.specs.declared.step.Step.{Step}
use Rattle.clk_words.specs.declared.view.View.{View}
use Rattle.clk_words.specs.Views.{joint_view}
use Rattle.clk_words.specs.Told.{Settles}
use Rattle.clk_words.specs.Held.{Held}
use Rattle.clk_words.specs.Calls.{Joins}
use Rattle.clk_words.proofs.Calling.{belongs, place_kept}
use Rattle.clk_words.proofs.Seating.{glues, meets}
use Rattle.clk_words.proofs.Meeting.{sits_joined, says_joins}
use Rattle.clk_words.proofs.words.Words.join.Goals as goal

pub join_seat-requires : goal.join_seat-requires
join_seat-requires c =
    let first = belongs _ _ c.a.inside.at.me.0 _ _ _ c.a.view_is c.requires.first c.self.view_is in
    let second = belongs _ _ c.b.inside.at.me.0 _ _ _ c.b.view_is c.requires.second c.self.view_is in
    (first.table_is, second.table_is, c.b.invariant.empty, omega (arith, c.self.invariant.words), glues _ _ _ _ _ c.a.invariant.live c.b.invariant.live)

pub load-requires : goal.load-requires
load-requires c =
    let first = belongs _ _ c.a.inside.at.me.0 _ _ _ c.a.view_is c.requires.first c.self.view_is in
    let told = c.join_seat.ensures in
    let live = ap (λ (m : Me Step View). m.0.live) told.2 ∙ c.a.invariant.live in
    (told.0 ∙ first.table_is, omega (arith, c.self.invariant.words), meets _ _ _ _ _ live)

-- what the load tells, of the joint view
abbrev met : (c : goal.After-load) → Settles (joint_view c.a.inside.at.me.0 c.b.inside.at.me.0) c.load.new.seat.me.0
met c = subst (λ (m : Me Step View). Settles m.0 c.load.new.seat.me.0) c.join_seat.ensures.2 c.load.ensures.2.settles

pub invariant_of-result : goal.invariant_of-result
invariant_of-result c =
    let taken = c.load.ensures.2.slots_kept ∙ ap (λ (m : Me Step View). m.1) c.join_seat.ensures.2 in
    rw c.either_made-made.ensures (sits_joined _ _ _ _ _ _ _ _ _ _ _ c.a.invariant c.b.invariant (met c) _ taken)

pub returns : goal.returns
returns c =
    let first = belongs _ _ c.a.inside.at.me.0 _ _ _ c.a.view_is c.requires.first c.self.view_is in
    let joins = says_joins _ _ _ (met c) in
    record {
      own = place_kept _ _ _ _ _ _ _ first c.self.view_is (c.load.ensures.0 ∙ c.join_seat.ensures.0) (ap (λ (u : View). u.start) joins.view_is);
      joins = subst (λ (h : Held). Joins c.args.a.view h.view c.load.new.seat.me.0) c.b.view_is
          (subst (λ (h : Held). Joins h.view c.b.inside.at.me.0 c.load.new.seat.me.0) c.a.view_is joins);
    }
