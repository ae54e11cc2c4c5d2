use Rattle.std.proofs.Common.{sym, ap, ◌∙◌, subst, rules, to_z-of_z, FitsSigned, w64}
use Rattle.atomic_table.specs.Table.{Me}
use Rattle.clk_record.specs.declared.step.Step.{Step}
use Rattle.clk_words.specs.declared.view.View.{View}
use Rattle.clk_words.specs.Kinds.{cpu_of}
use Rattle.clk_words.specs.Knowing.{IsOwner, StampsAreWhole}
use Rattle.clk_words.specs.Held.{Held}
use Rattle.clk_words.proofs.Stamping.{stores_gtod_at}
use Rattle.clk_words.proofs.Calling.{belongs, cpu_low, gtod_place, within_table, bits_here}
use Rattle.clk_words.proofs.Turns.{half_stamped}
use Rattle.clk_words.proofs.words.Words.stamp_gtod.Goals as goal

pub store-requires : goal.store-requires
store-requires c =
    let own = belongs _ _ c.seat.inside.at.me.0 _ _ _ c.seat.view_is c.requires.own c.self.view_is in
    let cpu = c.cpu.ensures.cpu ∙ ap (λ (h : Held). cpu_of h.view.kind) (sym c.seat.view_is) in
    let word = gtod_place _ _ _ _ _ _ c.self.view_is c.gtod_word-word.ensures.word cpu in
    let found = ap (λ (h : Held). h.view.modes.found) c.seat.view_is ∙ c.requires.found in
    let within = within_table _ _ _ _ c.self.view_is c.gtod_word-word.ensures.within in
    let fits : FitsSigned w64 c.args.value = search rules in
    let word_is = bits_here c.args.value c.bits_of-new.result fits (simp to_z-of_z at c.bits_of-new.ensures) in
    let owner = subst (λ (h : Held). IsOwner h.view) (sym c.seat.view_is) c.requires.owner in
    let turn = subst (λ (h : Held). StampsAreWhole h.view) (sym c.seat.view_is) c.requires.turn in
    (own.table_is, within, stores_gtod_at _ _ _ _ _ _ c.args.value word c.seat.invariant.live found (cpu_low _ _ _ _ _ own c.seat.invariant.within) owner word_is c.requires.bound turn)

pub returns-clause-turn : goal.returns-clause-turn
returns-clause-turn c =
    let told = c.store.ensures.2 in
    let turn = subst (λ (h : Held). StampsAreWhole h.view) (sym c.seat.view_is) c.requires.turn in
    half_stamped _ _ _ (ap (λ (m : Me Step View). m.0) told.is) turn
