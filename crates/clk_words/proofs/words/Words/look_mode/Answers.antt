use Rattle.std.proofs.Common.{sym, ap, subst, refl}
use Rattle.clk_record.specs.declared.mode.Mode.{Mode}
use Rattle.clk_words.specs.declared.view.View.{View}
use Rattle.clk_words.specs.Held.{Held}
use Rattle.clk_words.specs.Views.{mode_of}
use Rattle.clk_words.specs.Told.{FindsMode}
use Rattle.clk_words.proofs.Looking.{looks_mode_at}
use Rattle.clk_words.proofs.Calling.{belongs, mode_behind, within_table, place_kept, sits_modes}
use Rattle.clk_words.proofs.words.Words.look_mode.Goals as goal

pub load-requires : goal.load-requires
load-requires c =
    let own = belongs _ _ c.seat.inside.at.me.0 _ _ _ c.seat.view_is c.requires.own c.self.view_is in
    let word = mode_behind _ _ _ _ c.self.view_is c.mode_place-word.ensures.word in
    let within = within_table _ _ _ _ c.self.view_is c.mode_place-word.ensures.within in
    (own.table_is, within, looks_mode_at _ _ _ _ _ word c.seat.invariant.live)

pub invariant_of-seat : goal.invariant_of-seat
invariant_of-seat c = let told = c.load.ensures.2 in sits_modes _ _ _ _ _ _ _ c.seat.invariant told.slots_kept _ _ told.finds.view_is refl refl

pub returns : goal.returns
returns c =
    let told = c.load.ensures.2 in
    let own = belongs _ _ c.seat.inside.at.me.0 _ _ _ c.seat.view_is c.requires.own c.self.view_is in
    record {
      own = place_kept _ _ _ _ _ _ _ own c.self.view_is c.load.ensures.0 (ap (λ (u : View). u.start) told.finds.view_is);
      finds = subst (λ (mode : Mode). FindsMode c.args.seat.now.view mode c.load.new.seat.me.0) (sym c.mode_in.ensures)
          (subst (λ (h : Held). FindsMode h.view (mode_of c.load.result) c.load.new.seat.me.0) c.seat.view_is told.finds);
    }
