use Rattle.std.proofs.Common.{◌≡◌, sym, ap, ◌∙◌, subst, refl, rules, arith, to_z-of_z, FitsSigned, w64}
use Rattle.clk_record.specs.declared.step.Step.{Step}
use Rattle.clk_record.specs.declared.step.Why.{Why}
use Rattle.clk_record.specs.Targets.{target}
use Rattle.clk_words.specs.declared.opening.Start.{Start}
use Rattle.clk_words.specs.declared.view.View.{View}
use Rattle.clk_words.specs.Heights.{IsClockWord}
use Rattle.clk_words.specs.Knowing.{IsTrusted}
use Rattle.clk_words.specs.Told.{Raises}
use Rattle.clk_words.specs.Held.{Held, Place}
use Rattle.clk_words.proofs.WordsSteps.{raises}
use Rattle.clk_words.proofs.Calling.{belongs, place_kept, asked, asked_target, near_here, target_here, raise_asked, sits_makes, clock_fits, word_here, says_raised, same_raise}
use Rattle.clk_words.proofs.words.Words.raise_by.Given.{Over}
use Rattle.clk_words.proofs.words.Words.raise_by.Goals as goal

pub word_at-most-requires : goal.word_at-most-requires
word_at-most-requires g c =
    let key : Start = c.self.inside.table.shared.key in
    let own = belongs _ _ c.seat.inside.at.me.0 _ _ _ c.seat.view_is c.requires.own c.self.view_is in
    let may = asked _ _ _ _ _ _ _ c.args.why _ _ _ c.self.invariant c.seat.view_is c.self.view_is c.requires.word c.requires.trusted c.requires.found in
    let near = asked_target _ _ _ _ _ _ _ _ c.seat.invariant own.start_is may in
    let opens : FitsSigned w64 c.self.inside.opens = search rules in
    let tick : FitsSigned w64 c.self.inside.tick = search rules in
    let wanted : FitsSigned w64 c.target-wanted.result = search rules in
    let to = simp to_z-of_z at c.target-wanted.ensures in
    rw (to_z-of_z wanted, to_z-of_z opens) (near_here key _ _ _ c.args.why c.self.invariant.tick_is c.self.invariant.opens_is to near)

pub fetch_max-found-requires : goal.fetch_max-found-requires
fetch_max-found-requires g c =
    let key : Start = c.self.inside.table.shared.key in
    let own = belongs _ _ c.seat.inside.at.me.0 _ _ _ c.seat.view_is c.requires.own c.self.view_is in
    let why : Why = g.A.Asked.why in
    let trusted = subst (λ y. IsTrusted c.args.seat.now.view y) (sym c.requires.why) c.requires.trusted in
    let may = asked _ _ _ _ _ _ _ why _ _ _ c.self.invariant c.seat.view_is c.self.view_is c.requires.word trusted c.requires.found in
    let opens : FitsSigned w64 c.self.inside.opens = search rules in
    let tick : FitsSigned w64 c.self.inside.tick = search rules in
    let wanted : FitsSigned w64 c.target-wanted.result = search rules in
    let to = simp to_z-of_z at c.target-wanted.ensures in
    let word = simp to_z-of_z at c.word_at-most.ensures in
    let most = target_here key _ _ _ c.args.why _ c.self.invariant.tick_is c.self.invariant.opens_is to word in
    let asks = raise_asked key _ _ why _ _ _ _ c.seat.invariant own.start_is may _ (subst (λ y. IsClockWord key (target key.tick y) c.word_at-most.result) (sym c.requires.why) most) in
    (own.table_is, omega (arith, may.low, c.self.invariant.words), raises key _ _ _ _ g.A.Asked.call why _ c.seat.invariant.live own.start_is asks)

pub value_at-old-requires : goal.value_at-old-requires
value_at-old-requires g c = let told = c.fetch_max-found.ensures.2 in clock_fits c.seat.inside.at.me.0.start told.old c.fetch_max-found.result told.word_is told.raises.range

pub invariant_of-seat : goal.invariant_of-seat
invariant_of-seat g c = let told = c.fetch_max-found.ensures.2 in sits_makes _ _ _ _ _ _ _ c.seat.invariant told.slots_kept _ told.raises.makes

pub returns-clause-own : goal.returns-clause-own
returns-clause-own g c =
    let own = belongs _ _ c.seat.inside.at.me.0 _ _ _ c.seat.view_is c.requires.own c.self.view_is in
    let told = c.fetch_max-found.ensures in
    place_kept _ _ _ _ _ _ _ own c.self.view_is told.0 (ap (λ (u : View). u.start) told.2.raises.makes.view_is)

-- the number of the step is the seat's
number_is : (g : Over) (c : goal.After-raise-new g) → c.seat.inside.number ≡ c.args.seat.now.view.number
number_is g c = c.seat.invariant.number_is ∙ ap (λ (h : Held). h.view.number) c.seat.view_is

pub returns-clause-step : goal.returns-clause-step
returns-clause-step g c =
    let tick : FitsSigned w64 c.self.inside.tick = search rules in
    let wanted : FitsSigned w64 c.target-wanted.result = search rules in
    let old : FitsSigned w64 c.value_at-old.result = search rules in
    let new : FitsSigned w64 c.raise-new.result = search rules in
    let to = simp to_z-of_z at c.target-wanted.ensures in
    let put = simp to_z-of_z at c.raise-new.ensures in
    let key = c.self.invariant.tick_is ∙ ap (λ (p : Place). p.start.tick) c.self.view_is in
    rw (to_z-of_z old, to_z-of_z new) (sym (same_raise c.args.seat.now.view _ _ _ c.args.w _ c.args.why _ _ _ _ _ (number_is g c) refl refl key to put))

pub returns-clause-raises : goal.returns-clause-raises
returns-clause-raises g c =
    let own = belongs _ _ c.seat.inside.at.me.0 _ _ _ c.seat.view_is c.requires.own c.self.view_is in
    let told = c.fetch_max-found.ensures.2 in
    let opens : FitsSigned w64 c.self.inside.opens = search rules in
    let tick : FitsSigned w64 c.self.inside.tick = search rules in
    let wanted : FitsSigned w64 c.target-wanted.result = search rules in
    let old : FitsSigned w64 c.value_at-old.result = search rules in
    let new : FitsSigned w64 c.raise-new.result = search rules in
    let to = simp to_z-of_z at c.target-wanted.ensures in
    let put = simp to_z-of_z at c.raise-new.ensures in
    let word = word_here _ _ _ c.value_at-old.result _ own.start_is c.self.invariant.opens_is (simp to_z-of_z at c.value_at-old.ensures) in
    let says = says_raised _ _ _ _ _ _ _ _ told (ap (λ (h : Held). h.view) c.seat.view_is) old word in
    let key = c.self.invariant.tick_is ∙ ap (λ (s : Start). s.tick) (sym own.start_is) ∙ ap (λ (h : Held). h.view.start.tick) c.seat.view_is in
    rw (to_z-of_z old, to_z-of_z new)
    (subst (λ (s : Step). Raises c.args.seat.now.view s c.fetch_max-found.new.seat.me.0)
    (same_raise c.args.seat.now.view _ _ _ c.args.w _ c.args.why _ _ _ _ _ (number_is g c) c.requires.call c.requires.why key to put) says)
