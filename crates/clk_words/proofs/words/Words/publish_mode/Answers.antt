use Rattle.std.proofs.Common.{sym, ap, ◌∙◌, subst, refl}
use Rattle.atomic_table.specs.Table.{Me}
use Rattle.clk_record.specs.declared.step.Step.{Step}
use Rattle.clk_words.specs.declared.view.View.{View}
use Rattle.clk_words.specs.Knowing.{MayDemote, HasLifted}
use Rattle.clk_words.specs.Told.{published}
use Rattle.clk_words.specs.Held.{Held}
use Rattle.clk_words.proofs.Watching.{stores_mode}
use Rattle.clk_words.proofs.Calling.{belongs, mode_behind, within_table, place_kept, sits_modes}
use Rattle.clk_words.proofs.words.Words.publish_mode.Goals as goal

pub store-requires : goal.store-requires
store-requires c =
    let own = belongs _ _ c.seat.inside.at.me.0 _ _ _ c.seat.view_is c.requires.own c.self.view_is in
    let word = mode_behind _ _ _ _ c.self.view_is c.mode_place-word.ensures.word in
    let within = within_table _ _ _ _ c.self.view_is c.mode_place-word.ensures.within in
    let may = subst (λ (h : Held). MayDemote h.view) (sym c.seat.view_is) c.requires.may in
    let lifted = subst (λ (h : Held). HasLifted h.view) (sym c.seat.view_is) c.requires.lifted in
    (own.table_is, within, stores_mode _ _ _ _ _ word c.seat.invariant.live may lifted)

pub invariant_of-seat : goal.invariant_of-seat
invariant_of-seat c =
    let told = c.store.ensures.2 in
    sits_modes _ _ _ _ _ _ _ c.seat.invariant (ap (λ (m : Me Step View). m.1) told) _ _ (ap (λ (m : Me Step View). m.0) told) refl refl

pub returns : goal.returns
returns c =
    let told = c.store.ensures.2 in
    let own = belongs _ _ c.seat.inside.at.me.0 _ _ _ c.seat.view_is c.requires.own c.self.view_is in
    record {
      own = place_kept _ _ _ _ _ _ _ own c.self.view_is c.store.ensures.0 (ap (λ (m : Me Step View). m.0.start) told);
      published = ap (λ (m : Me Step View). m.0) told ∙ ap (λ (h : Held). published h.view) c.seat.view_is;
    }
