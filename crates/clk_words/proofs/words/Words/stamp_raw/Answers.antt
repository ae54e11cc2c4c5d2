use Rattle.std.proofs.Common.{sym, ap, ◌∙◌, subst, rules, to_z-of_z, FitsSigned, w64}
use Rattle.atomic_table.specs.Table.{Me}
use Rattle.clk_record.specs.declared.step.Step.{Step}
use Rattle.clk_words.specs.declared.view.View.{View}
use Rattle.clk_words.specs.Kinds.{cpu_of}
use Rattle.clk_words.specs.Histories.{opens_at}
use Rattle.clk_words.specs.Bounds.{IsRaw}
use Rattle.clk_words.specs.Knowing.{IsOwner, StampsAreHalf}
use Rattle.clk_words.specs.Held.{Held, Place}
use Rattle.clk_words.proofs.Stamping.{stores_raw_at}
use Rattle.clk_words.proofs.Calling.{belongs, cpu_low, raw_place, within_table, bits_here}
use Rattle.clk_words.proofs.Turns.{whole_stamped}
use Rattle.clk_words.proofs.words.Words.stamp_raw.Goals as goal

pub store-requires : goal.store-requires
store-requires c =
    let own = belongs _ _ c.seat.inside.at.me.0 _ _ _ c.seat.view_is c.requires.own c.self.view_is in
    let cpu = c.cpu.ensures.cpu ∙ ap (λ (h : Held). cpu_of h.view.kind) (sym c.seat.view_is) in
    let word = raw_place _ _ _ _ _ _ c.self.view_is c.raw_word-word.ensures.word cpu in
    let found = ap (λ (h : Held). h.view.modes.found) c.seat.view_is ∙ c.requires.found in
    let within = within_table _ _ _ _ c.self.view_is c.raw_word-word.ensures.within in
    let fits : FitsSigned w64 c.args.value = search rules in
    let word_is = bits_here c.args.value c.bits_of-new.result fits (simp to_z-of_z at c.bits_of-new.ensures) in
    let bound = subst (λ (p : Place). IsRaw (opens_at p.start) c.args.value) (sym c.self.view_is) c.requires.bound in
    let owner = subst (λ (h : Held). IsOwner h.view) (sym c.seat.view_is) c.requires.owner in
    let turn = subst (λ (h : Held). StampsAreHalf h.view) (sym c.seat.view_is) c.requires.turn in
    (own.table_is, within, stores_raw_at _ _ _ _ _ _ c.args.value word c.seat.invariant.live found (cpu_low _ _ _ _ _ own c.seat.invariant.within) owner word_is bound turn)

pub returns-clause-turn : goal.returns-clause-turn
returns-clause-turn c =
    let told = c.store.ensures.2 in
    let turn = subst (λ (h : Held). StampsAreHalf h.view) (sym c.seat.view_is) c.requires.turn in
    whole_stamped _ _ _ (ap (λ (m : Me Step View). m.0) told.is) turn
