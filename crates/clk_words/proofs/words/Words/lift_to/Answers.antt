use Rattle.std.proofs.Common.{◌≡◌, ℤ, sym, ap, ◌∙◌, subst, refl, rules, arith, to_z-of_z, FitsSigned, w64}
use Rattle.clk_num.specs.Range.{IsNear}
use Rattle.clk_num.specs.Wrapping.{above}
use Rattle.clk_record.specs.declared.step.Step.{Step}
use Rattle.clk_words.specs.declared.opening.Start.{Start}
use Rattle.clk_words.specs.declared.view.View.{View}
use Rattle.clk_words.specs.Histories.{opens_at}
use Rattle.clk_words.specs.Knowing.{MayDemote}
use Rattle.clk_words.specs.Told.{Lifts}
use Rattle.clk_words.specs.Held.{Held, Place}
use Rattle.clk_words.proofs.Watching.{MayLift, lifts}
use Rattle.clk_words.proofs.Calling.{belongs, place_kept, word_low, IsTarget, lift_range, sits_lifts, clock_fits, word_here, says_lifted, same_lift}
use Rattle.clk_words.proofs.words.Words.lift_to.Given.{Over}
use Rattle.clk_words.proofs.words.Words.lift_to.Goals as goal

pub word_at-most-requires : goal.word_at-most-requires
word_at-most-requires g c =
    let to = subst (λ (p : Place). IsTarget (opens_at p.start) c.args.value) (sym c.self.view_is) (lift_range _ _ c.requires.value) in
    let opens : FitsSigned w64 c.self.inside.opens = search rules in
    let value : FitsSigned w64 c.args.value = search rules in
    rw (to_z-of_z value, to_z-of_z opens) (subst (λ o. IsNear 60 (above c.args.value o)) (sym c.self.invariant.opens_is) to.near)

pub fetch_max-found-requires : goal.fetch_max-found-requires
fetch_max-found-requires g c =
    let key : Start = c.self.inside.table.shared.key in
    let own = belongs _ _ c.seat.inside.at.me.0 _ _ _ c.seat.view_is c.requires.own c.self.view_is in
    let to = subst (λ (p : Place). IsTarget (opens_at p.start) c.args.value) (sym c.self.view_is) (lift_range _ _ c.requires.value) in
    let low = word_low _ _ _ c.args.w c.self.view_is c.requires.word in
    let opens : FitsSigned w64 c.self.inside.opens = search rules in
    let value : FitsSigned w64 c.args.value = search rules in
    let word = word_here key key _ c.args.value _ refl c.self.invariant.opens_is (simp to_z-of_z at c.word_at-most.ensures) in
    let asks : MayLift key c.seat.inside.at.me.0 c.args.w c.word_at-most.result c.args.value = record {
      low = low;
      fits = to.fits;
      near = to.near;
      most_is = word;
      may = subst (λ (h : Held). MayDemote h.view) (sym c.seat.view_is) c.requires.may;
    } in (
      own.table_is,
      omega (arith, low, c.self.invariant.words),
      lifts key _ _ _ _ g.A.Opens.call g.A.Opens.value _ c.seat.invariant.live own.start_is
          (subst (λ (x : ℤ). MayLift key c.seat.inside.at.me.0 c.args.w c.word_at-most.result x) (sym c.requires.to) asks),
    )

pub value_at-old-requires : goal.value_at-old-requires
value_at-old-requires g c = let told = c.fetch_max-found.ensures.2 in clock_fits c.seat.inside.at.me.0.start told.old c.fetch_max-found.result told.word_is told.lifts.range

pub invariant_of-seat : goal.invariant_of-seat
invariant_of-seat g c = let told = c.fetch_max-found.ensures.2 in sits_lifts _ _ _ _ _ _ _ c.seat.invariant told.slots_kept _ told.lifts

pub returns-clause-own : goal.returns-clause-own
returns-clause-own g c =
    let own = belongs _ _ c.seat.inside.at.me.0 _ _ _ c.seat.view_is c.requires.own c.self.view_is in
    let told = c.fetch_max-found.ensures in
    place_kept _ _ _ _ _ _ _ own c.self.view_is told.0 (ap (λ (u : View). u.start) told.2.lifts.view_is)

-- the number of the step is the seat's
number_is : (g : Over) (c : goal.After-raise-new g) → c.seat.inside.number ≡ c.args.seat.now.view.number
number_is g c = c.seat.invariant.number_is ∙ ap (λ (h : Held). h.view.number) c.seat.view_is

pub returns-clause-step : goal.returns-clause-step
returns-clause-step g c =
    let value : FitsSigned w64 c.args.value = search rules in
    let old : FitsSigned w64 c.value_at-old.result = search rules in
    let new : FitsSigned w64 c.raise-new.result = search rules in
    let put = simp to_z-of_z at c.raise-new.ensures in
    rw (to_z-of_z old, to_z-of_z new, to_z-of_z value) (sym (same_lift c.args.seat.now.view _ _ _ c.args.w _ _ _ _ (number_is g c) refl refl put))

pub returns-clause-lifts : goal.returns-clause-lifts
returns-clause-lifts g c =
    let own = belongs _ _ c.seat.inside.at.me.0 _ _ _ c.seat.view_is c.requires.own c.self.view_is in
    let told = c.fetch_max-found.ensures.2 in
    let opens : FitsSigned w64 c.self.inside.opens = search rules in
    let value : FitsSigned w64 c.args.value = search rules in
    let old : FitsSigned w64 c.value_at-old.result = search rules in
    let new : FitsSigned w64 c.raise-new.result = search rules in
    let put = simp to_z-of_z at c.raise-new.ensures in
    let word = word_here _ _ _ c.value_at-old.result _ own.start_is c.self.invariant.opens_is (simp to_z-of_z at c.value_at-old.ensures) in
    let says = says_lifted _ _ _ _ _ _ _ _ told (ap (λ (h : Held). h.view) c.seat.view_is) old word in
    rw (to_z-of_z old, to_z-of_z new, to_z-of_z value)
    (subst (λ (s : Step). Lifts c.args.seat.now.view s c.fetch_max-found.new.seat.me.0)
    (same_lift c.args.seat.now.view _ _ _ c.args.w _ _ _ _ (number_is g c) c.requires.call c.requires.to put) says)
