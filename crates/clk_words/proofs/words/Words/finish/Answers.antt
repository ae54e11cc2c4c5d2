use Rattle.std.proofs.Common.{◌≡◌, sym, ap, ◌∙◌, subst, rules, to_z-of_z, FitsSigned, w64}
use Rattle.std.specs.Slots.{slots_items}
use Rattle.atomic_table.specs.declared.shared.Seat.{Seat as TableSeat}
use Rattle.clk_record.specs.declared.step.Step.{Step}
use Rattle.clk_words.specs.declared.opening.Start.{Start}
use Rattle.clk_words.specs.declared.view.View.{View}
use Rattle.clk_words.specs.Histories.{opens_at}
use Rattle.clk_words.specs.Knowing.{HasAll}
use Rattle.clk_words.specs.Held.{Held, Place}
use Rattle.clk_words.specs.WordSeats.{AreEnded}
use Rattle.clk_words.specs.Calls.{IsComplete}
use Rattle.clk_words.proofs.Ending.{Ends, ends}
use Rattle.clk_words.proofs.words.Words.finish.Goals as goal

-- what the last state says
abbrev ended : (c : goal.After-close_with-words) → Ends c.self.inside.table.shared.key c.seat.inside.at.me.0 (slots_items c.close_with-words.result.words)
ended c = ends _ _ _ _ _ c.close_with-words.ensures.values.2 c.seat.invariant.live (subst (λ (h : Held). HasAll h.view) (sym c.seat.view_is) c.requires.all)

pub invariant_of-result : goal.invariant_of-result
invariant_of-result c =
    let end = ended c in
    let last = c.of-last.ensures in
    let fits : FitsSigned w64 c.self.inside.opens = search rules in
    let seat : AreEnded c.seat.inside.at.me.0.start c.seat.inside.at.me.0.seen (slots_items c.close_with-words.result.words) =
    subst (λ (s : Start). AreEnded s c.seat.inside.at.me.0.seen (slots_items c.close_with-words.result.words)) (sym end.start_is) end.words_are in (
      c.self.invariant.cpus_is ∙ ap (λ (s : Start). s.cpus) (sym end.start_is) ∙ ap (λ (s : TableSeat Step View). s.me.0.start.cpus) (sym last),
      to_z-of_z fits ∙ c.self.invariant.opens_is ∙ ap opens_at (sym end.start_is) ∙ ap (λ (s : TableSeat Step View). opens_at s.me.0.start) (sym last),
      c.close_with-words.ensures.values.0,
      c.close_with-words.ensures.counts.1 ∙ c.self.invariant.slots,
      subst (λ (s : TableSeat Step View). AreEnded s.me.0.start s.me.0.seen (slots_items c.close_with-words.result.words)) (sym last) seat,
    )

pub returns : goal.returns
returns c =
    let end = ended c in
    let last = c.of-last.ensures in
    let start : c.self.inside.table.shared.key ≡ c.args.self.start = ap (λ (p : Place). p.start) c.self.view_is in
    record {
      start = ap (λ (s : TableSeat Step View). s.me.0.start) last ∙ end.start_is ∙ start;
      complete =
          subst (λ (s : Start). IsComplete s c.args.seat.view c.of-last.result.value.me.0.seen) start
          (subst (λ (h : Held). IsComplete c.self.inside.table.shared.key h.view c.of-last.result.value.me.0.seen) c.seat.view_is
          (subst (λ (s : TableSeat Step View). IsComplete c.self.inside.table.shared.key c.seat.inside.at.me.0 s.me.0.seen) (sym last) end.complete));
    }
