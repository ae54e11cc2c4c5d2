use Rattle.std.proofs.Common.{◌+◌, sym, ap, ◌∙◌, subst, refl, rules, to_z-of_z, FitsSigned, w64}
use Rattle.atomic_table.specs.Table.{Me}
use Rattle.clk_record.specs.declared.step.Step.{Step}
use Rattle.clk_words.specs.declared.opening.Start.{Start}
use Rattle.clk_words.specs.declared.view.View.{View}
use Rattle.clk_words.specs.Histories.{opens_at}
use Rattle.clk_words.specs.Bounds.{IsRaw}
use Rattle.clk_words.specs.Parts.{raw_of}
use Rattle.clk_words.specs.Knowing.{MayDemote, HoldsInRange}
use Rattle.clk_words.specs.Held.{Held, Place}
use Rattle.clk_words.proofs.Watching.{clones_raw}
use Rattle.clk_words.proofs.Calling.{belongs, word_low, raw_place, within_table, place_kept, bits_here, sits_modes, says_cloned}
use Rattle.clk_words.proofs.words.Words.clone_raw.Goals as goal

pub store-requires : goal.store-requires
store-requires c =
    let own = belongs _ _ c.seat.inside.at.me.0 _ _ _ c.seat.view_is c.requires.own c.self.view_is in
    let word = raw_place _ _ _ _ _ c.args.w c.self.view_is c.raw_word-word.ensures.word refl in
    let within = within_table _ _ _ _ c.self.view_is c.raw_word-word.ensures.within in
    let low = word_low _ _ _ c.args.w c.self.view_is c.requires.word in
    let fits : FitsSigned w64 c.args.value = search rules in
    let word_is = bits_here c.args.value c.bits_of-new.result fits (simp to_z-of_z at c.bits_of-new.ensures) in
    let bound = subst (λ (p : Place). IsRaw (opens_at p.start) c.args.value) (sym c.self.view_is) c.requires.bound in
    let may = subst (λ (h : Held). MayDemote h.view) (sym c.seat.view_is) c.requires.may in
    (own.table_is, within, clones_raw _ _ _ _ c.args.w _ _ c.args.value word low c.seat.invariant.live may word_is bound)

pub invariant_of-seat : goal.invariant_of-seat
invariant_of-seat c =
    let told = c.store.ensures.2 in
    sits_modes _ _ _ _ _ _ _ c.seat.invariant (ap (λ (m : Me Step View). m.1) told.is) _ _ (ap (λ (m : Me Step View). m.0) told.is) refl refl

pub returns : goal.returns
returns c =
    let told = c.store.ensures.2 in
    let own = belongs _ _ c.seat.inside.at.me.0 _ _ _ c.seat.view_is c.requires.own c.self.view_is in
    let fits : FitsSigned w64 c.args.value = search rules in
    let word_is = bits_here c.args.value c.bits_of-new.result fits (simp to_z-of_z at c.bits_of-new.ensures) in
    let word = raw_place _ _ _ _ _ c.args.w c.self.view_is c.raw_word-word.ensures.word refl in
    let here = word ∙ ap (λ (o : Start). o.cpus + raw_of c.args.w) (sym own.start_is) in
    record {
      own = place_kept _ _ _ _ _ _ _ own c.self.view_is c.store.ensures.0 (ap (λ (m : Me Step View). m.0.start) told.is);
      cloned = says_cloned _ _ _ _ _ (raw_of c.args.w) _ c.args.value _ told.is (ap (λ (h : Held). h.view) c.seat.view_is) told.place_is here told.word_is word_is;
      holds = subst (λ (h : Held). HoldsInRange h.view) c.seat.view_is told.holds;
    }
