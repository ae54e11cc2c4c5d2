use Rattle.std.proofs.Common.{sym, ap, ◌∙◌, rules, to_z-of_z, FitsSigned, w64}
use Rattle.clk_words.specs.declared.view.View.{View}
use Rattle.clk_words.specs.Kinds.{cpu_of}
use Rattle.clk_words.specs.Held.{Held}
use Rattle.clk_words.proofs.Stamping.{finds_gtod_at}
use Rattle.clk_words.proofs.Calling.{belongs, cpu_low, gtod_place, within_table, place_kept, sits_finds, says_gtod}
use Rattle.clk_words.proofs.words.Words.load_gtod.Goals as goal

pub load-requires : goal.load-requires
load-requires c =
    let own = belongs _ _ c.seat.inside.at.me.0 _ _ _ c.seat.view_is c.requires.own c.self.view_is in
    let cpu = c.cpu.ensures.cpu ∙ ap (λ (h : Held). cpu_of h.view.kind) (sym c.seat.view_is) in
    let word = gtod_place _ _ _ _ _ _ c.self.view_is c.gtod_word-word.ensures.word cpu in
    let found = ap (λ (h : Held). h.view.modes.found) c.seat.view_is ∙ c.requires.found in
    let within = within_table _ _ _ _ c.self.view_is c.gtod_word-word.ensures.within in
    (own.table_is, within, finds_gtod_at _ _ _ _ _ word c.seat.invariant.live found (cpu_low _ _ _ _ _ own c.seat.invariant.within))

pub invariant_of-seat : goal.invariant_of-seat
invariant_of-seat c = let told = c.load.ensures.2 in sits_finds _ _ _ _ _ _ _ c.seat.invariant told.slots_kept _ _ _ told.finds.range told.finds.finds

pub returns : goal.returns
returns c =
    let told = c.load.ensures.2 in
    let own = belongs _ _ c.seat.inside.at.me.0 _ _ _ c.seat.view_is c.requires.own c.self.view_is in
    let fits : FitsSigned w64 c.value_of_bits.result = search rules in
    record {
      own = place_kept _ _ _ _ _ _ _ own c.self.view_is c.load.ensures.0 (ap (λ (u : View). u.start) told.finds.finds.view_is);
      finds = rw (to_z-of_z fits) (says_gtod _ _ _ _ _ _ told (ap (λ (h : Held). h.view) c.seat.view_is) (sym c.value_of_bits.ensures));
    }
