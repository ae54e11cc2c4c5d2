use Rattle.std.proofs.Common.{◌≡◌, to_z, of_z, refl, sym, ap, ◌∙◌, subst, rules, arith, to_z-of_z, FitsSigned, w64}
use mathlib.Core.Option.{some}
use Rattle.atomic_table.specs.Table.{step}
use Rattle.atomic_table.specs.Table.{Step as Turn}
use Rattle.clk_num.specs.Wrapping.{raise}
use Rattle.clk_record.specs.declared.step.Step.{Step}
use Rattle.clk_record.specs.Targets.{target}
use Rattle.clk_words.specs.declared.opening.Start.{Start}
use Rattle.clk_words.specs.declared.view.Name.TheVariants.{Clock}
use Rattle.clk_words.specs.Knowing.{HasLoaded}
use Rattle.clk_words.specs.Held.{Held, Place}
use Rattle.clk_words.proofs.WordsSteps.{tries}
use Rattle.clk_words.proofs.Calling.{belongs, place_kept, asked, put_in_range, try_asked, loaded_sound, near_clock, word_here, sits_exchanged, exchanged_start, says_done, told_miss, says_lost}
use Rattle.clk_words.proofs.words.Words.try_put.Goals as goal
use Rattle.clk_words.proofs.words.Words.try_put.Goals.{then-found-wanted, else-found-wanted}

pub word_at-requires : goal.word_at-requires
word_at-requires c =
    let key : Start = c.self.inside.table.shared.key in
    let own = belongs _ _ c.seat.inside.at.me.0 _ _ _ c.seat.view_is c.requires.own c.self.view_is in
    let may = asked _ _ _ _ _ _ _ c.args.why _ _ _ c.self.invariant c.seat.view_is c.self.view_is c.requires.word c.requires.trusted c.requires.found in
    let loaded = subst (λ (h : Held). HasLoaded h.view (Clock c.args.w) c.args.old) (sym c.seat.view_is) c.requires.loaded in
    let new_is = c.requires.new ∙ ap (λ (p : Place). raise c.args.old (target p.start.tick c.args.why)) (sym c.self.view_is) in
    let ranges = put_in_range _ _ _ _ _ _ _ _ c.seat.invariant own.start_is may c.args.old c.args.new loaded new_is in
    let new_fits : FitsSigned w64 c.args.new = search rules in
    let opens : FitsSigned w64 c.self.inside.opens = search rules in
    rw (to_z-of_z new_fits, to_z-of_z opens) (near_clock key _ _ c.self.invariant.opens_is ranges.1)

pub compare_exchange_with-found-requires : goal.compare_exchange_with-found-requires
compare_exchange_with-found-requires c =
    let key : Start = c.self.inside.table.shared.key in
    let own = belongs _ _ c.seat.inside.at.me.0 _ _ _ c.seat.view_is c.requires.own c.self.view_is in
    let old_fits : FitsSigned w64 c.args.old = search rules in
    let new_fits : FitsSigned w64 c.args.new = search rules in
    let opens : FitsSigned w64 c.self.inside.opens = search rules in
    let old_word = word_here key key _ c.args.old _ refl c.self.invariant.opens_is (simp to_z-of_z at c.word_at-wanted.ensures) in
    let new_word = word_here key key _ c.args.new _ refl c.self.invariant.opens_is (simp to_z-of_z at c.word_at.ensures) in
    let may = asked _ _ _ _ _ _ _ c.args.why _ _ _ c.self.invariant c.seat.view_is c.self.view_is c.requires.word c.requires.trusted c.requires.found in
    let loaded = subst (λ (h : Held). HasLoaded h.view (Clock c.args.w) c.args.old) (sym c.seat.view_is) c.requires.loaded in
    let new_is = c.requires.new ∙ ap (λ (p : Place). raise c.args.old (target p.start.tick c.args.why)) (sym c.self.view_is) in
    let said : Step = record { by = c.seat.inside.number; call = c.args.call; word = c.args.w; why = c.args.why; old = c.args.old; new = c.args.new } in
    let tried = try_asked key _ said _ _ _ _ _ _ c.seat.invariant own.start_is may loaded new_is refl old_word new_word in (
      own.table_is,
      omega (arith, may.low, c.self.invariant.words),
      rw (to_z-of_z old_fits, to_z-of_z new_fits) (tries _ _ _ _ _ _ said c.seat.invariant.live tried),
    )

-- the step that was tried, as its exchange was told
abbrev said : (c : goal.Joined-found-wanted) → Step
said c = record { by = c.seat.inside.number; call = c.args.call; word = c.args.w; why = c.args.why; old = to_z w64 (of_z w64 c.args.old); new = to_z w64 (of_z w64 c.args.new) }

abbrev turn : (c : goal.Joined-found-wanted) → Turn Step
turn c = step c.self.inside.table.shared.table_id.slots c.args.w c.word_at-wanted.result c.word_at.result (some (said c))

-- it is the step that was asked for
same_step : (c : goal.Joined-found-wanted) → said c ≡ record { by = c.args.seat.now.view.number; call = c.args.call; word = c.args.w; why = c.args.why; old = c.args.old; new = c.args.new }
same_step c =
    let old_fits : FitsSigned w64 c.args.old = search rules in
    let new_fits : FitsSigned w64 c.args.new = search rules in
    let number : c.seat.inside.number ≡ c.args.seat.now.view.number = c.seat.invariant.number_is ∙ ap (λ (h : Held). h.view.number) c.seat.view_is in
    rw (to_z-of_z old_fits, to_z-of_z new_fits, number) refl

pub invariant_of-seat : goal.invariant_of-seat
invariant_of-seat c = sits_exchanged _ _ _ (turn c) _ _ _ c.seat.invariant c.compare_exchange_with-found.ensures.2

pub returns-clause-own : goal.returns-clause-own
returns-clause-own c =
    let own = belongs _ _ c.seat.inside.at.me.0 _ _ _ c.seat.view_is c.requires.own c.self.view_is in
    let told = c.compare_exchange_with-found.ensures in
    place_kept _ _ _ _ _ _ _ own c.self.view_is told.0 (exchanged_start (turn c) _ _ _ told.2)

pub returns-clause-done : goal.returns-clause-done
returns-clause-done c =
    let told = c.compare_exchange_with-found.ensures.2 in
    let view = ap (λ (h : Held). h.view) c.seat.view_is in
    elim c.if-found-wanted.branch [
      | then-found-wanted w ↦ rw w.result-is (same_step c, says_done (turn c) _ _ _ _ (said c) told w.if-found-wanted.true refl view)
      | else-found-wanted w ↦ rw w.result-is tt
    ]

pub returns-clause-lost : goal.returns-clause-lost
returns-clause-lost c =
    let own = belongs _ _ c.seat.inside.at.me.0 _ _ _ c.seat.view_is c.requires.own c.self.view_is in
    let told = c.compare_exchange_with-found.ensures.2 in
    let view = ap (λ (h : Held). h.view) c.seat.view_is in
    let old_fits : FitsSigned w64 c.args.old = search rules in
    let opens : FitsSigned w64 c.self.inside.opens = search rules in
    let old_word = word_here _ _ _ c.args.old _ own.start_is c.self.invariant.opens_is (simp to_z-of_z at c.word_at-wanted.ensures) in
    let loaded = subst (λ (h : Held). HasLoaded h.view (Clock c.args.w) c.args.old) (sym c.seat.view_is) c.requires.loaded in
    let range = (loaded_sound c.seat.inside.at.me.0 (Clock c.args.w) c.args.old c.seat.invariant.sound loaded).1 in
    elim c.if-found-wanted.branch [
      | then-found-wanted w ↦ rw w.result-is tt
      | else-found-wanted w ↦
          let fits : FitsSigned w64 w.value_at.result = search rules in
          let miss = told_miss (turn c) _ _ _ told w.if-found-wanted.false in
          let held = word_here _ _ _ w.value_at.result _ own.start_is c.self.invariant.opens_is (simp to_z-of_z at w.value_at.ensures) in
          rw (w.result-is, to_z-of_z fits) (says_lost (turn c) _ _ _ _ _ _ miss w.if-found-wanted.false view range old_word fits held)
    ]
