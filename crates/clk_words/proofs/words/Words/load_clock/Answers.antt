use Rattle.std.proofs.Common.{ap, rules, arith, to_z-of_z, FitsSigned, w64}
use Rattle.clk_words.specs.declared.view.View.{View}
use Rattle.clk_words.specs.Held.{Held}
use Rattle.clk_words.proofs.WordsSteps.{looks_up}
use Rattle.clk_words.proofs.Calling.{belongs, word_low, place_kept, sits_loads, says_loads, clock_fits, word_here}
use Rattle.clk_words.proofs.words.Words.load_clock.Goals as goal

pub load-found-requires : goal.load-found-requires
load-found-requires c =
    let own = belongs _ _ c.seat.inside.at.me.0 _ _ _ c.seat.view_is c.requires.own c.self.view_is in
    let low = word_low _ _ _ c.args.w c.self.view_is c.requires.word in
    (own.table_is, omega (arith, low, c.self.invariant.words), looks_up _ _ _ _ _ c.seat.invariant.live low)

pub value_at-requires : goal.value_at-requires
value_at-requires c = let told = c.load-found.ensures.2 in clock_fits c.seat.inside.at.me.0.start told.value c.load-found.result told.word_is told.loads.range

pub invariant_of-seat : goal.invariant_of-seat
invariant_of-seat c = let told = c.load-found.ensures.2 in sits_loads _ _ _ _ _ _ _ c.seat.invariant told.slots_kept _ _ told.loads

pub returns : goal.returns
returns c =
    let told = c.load-found.ensures.2 in
    let own = belongs _ _ c.seat.inside.at.me.0 _ _ _ c.seat.view_is c.requires.own c.self.view_is in
    let fits : FitsSigned w64 c.value_at.result = search rules in
    let opens : FitsSigned w64 c.self.inside.opens = search rules in
    let word = word_here _ _ _ c.value_at.result _ own.start_is c.self.invariant.opens_is (simp to_z-of_z at c.value_at.ensures) in
    record {
      own = place_kept _ _ _ _ _ _ _ own c.self.view_is c.load-found.ensures.0 (ap (λ (u : View). u.start) told.loads.view_is);
      loads = rw (to_z-of_z fits) (says_loads _ _ _ _ _ _ told (ap (λ (h : Held). h.view) c.seat.view_is) fits word);
    }
