use Rattle.std.proofs.Common.{sym, subst, ap, ◌∙◌, rules, to_z-of_z, FitsSigned, w64}
use Rattle.atomic_table.specs.Table.{Me}
use Rattle.clk_num.proofs.Heights.{sum_is}
use Rattle.clk_record.specs.declared.step.Step.{Step}
use Rattle.clk_words.specs.declared.kind.SeatKind.TheVariants.{Reader}
use Rattle.clk_words.specs.declared.view.View.{View}
use Rattle.clk_words.specs.Histories.{opens_at}
use Rattle.clk_words.specs.WordSeats.{IsSeated}
use Rattle.clk_words.proofs.Starting.{starts}
use Rattle.clk_words.proofs.Meeting.{sits_first}
use Rattle.clk_words.proofs.words.Words.new.Goals as goal

pub of_words-requires : goal.of_words-requires
of_words-requires c =
    let first = c.in_ok-words.ensures in
    starts _ _ c.requires.opening (rw c.as_slice.ensures.value first)

pub invariant_of-words : goal.invariant_of-words
invariant_of-words c =
    let told = c.in_ok-table.ensures in
    let gtod : FitsSigned w64 c.args.start.tick_gtod = search rules in
    let offset : FitsSigned w64 c.args.start.offset = search rules in
    let opens = sum_is c.args.start.tick_gtod c.args.start.offset gtod offset in
    let tick : FitsSigned w64 c.args.tick = search rules in
    record {
      words = search rules;
      slots = search rules;
      cpus_is = search rules;
      tick_is = search rules;
      opens_is = opens ∙ sym (ap opens_at told.5);
      some_cpu = search rules;
      small = search rules;
      tick_range = rw told.5 (rw (to_z-of_z tick) c.requires.tick);
      opening = rw told.5 c.requires.opening;
    }

pub invariant_of-seat : goal.invariant_of-seat
invariant_of-seat c =
    let told = c.in_ok-table.ensures in
    subst (λ (m : Me Step View). IsSeated 0 (Reader 0) 1 m.1 m.0) (sym told.4) (sits_first _ c.requires.cpus)
