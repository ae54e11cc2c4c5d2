use Rattle.std.proofs.Common.{◌≡◌, ◌+◌, Some, None, sym, ◌∙◌, ap, refl, arith}
use Rattle.std.specs.Option.{option_or}
use Rattle.std.proofs.lemmas.List.{length_push}
use Rattle.toml.specs.View.{view}
use Rattle.clk_machine.specs.Plan.{jump_plan}
use Rattle.clk_file.specs.Keys.{value_at}
use Rattle.clk_file.specs.Shape.{jump_of, jump_test}
use Rattle.clk_file.proofs.Loops.{tests_more, tests_passed, tests_whole, made_one, made_none, made_all, map-push}
use Rattle.clk_file.proofs.items.jumps_of.Goals as goal
use Rattle.clk_file.proofs.items.jumps_of.Goals.{in-Some, in-None}

pub loop-i-preserved : goal.loop-i-preserved
unfolding jump_test
loop-i-preserved c =
    let vs = c.array_or_empty-values.result.now in
    let i = c.loop-i.i in
    let v = c.index-values-i.result in
    let so_far = c.loop-i.invariant in
    elim c.match-jump_of.branch [
      | in-Some w ↦
          let passed : jump_test c.args.row c.args.entry (i + 1) (view v) ≡ None = rw (← w.in-Some.ensures) refl in
          record {
            tests = w.refusal-is ∙ tests_passed _ _ _ vs i v c.loop-i-test.true c.index-values-i.is so_far.tests passed;
            values =
                rw (w.jumps-is, w.push.ensures.items, map-push jump_plan)
                (made_one jump_of _ _ vs i v c.loop-i-test.true c.index-values-i.is so_far.values w.in-Some.ensures);
            few = rw (w.jumps-is, w.push.ensures.items, length_push) (omega arith);
            room = rw (w.jumps-is, w.push.ensures.items, length_push) (omega arith);
          }
      | in-None w ↦
          let refused : jump_test c.args.row c.args.entry (i + 1) (view v) ≡ Some (value_at c.args.row c.args.entry (i + 1)) = rw (← w.in-None.ensures) refl in
          record {
            tests = w.refusal-is ∙ tests_more c.loop-i.refusal _ _ _ vs i v c.loop-i-test.true c.index-values-i.is so_far.tests
                (w.refuse.ensures ∙ ap (option_or c.loop-i.refusal) (ap (λ e. Some e) w.value_at.ensures ∙ sym refused));
            values = rw w.jumps-is (made_none jump_of _ vs i v c.loop-i-test.true c.index-values-i.is so_far.values w.in-None.ensures);
            few = rw w.jumps-is (omega arith);
            room = rw w.jumps-is so_far.room;
          }
    ]

pub returns : goal.returns
returns c = record {
  test = tests_whole _ _ _ _ _ _ c.loop-i-test.false c.array_or_empty-values.ensures.value c.loop-i.invariant.tests ∙ rw c.array_or_empty-values.ensures.test;
  value = made_all jump_of _ _ _ _ c.loop-i-test.false c.array_or_empty-values.ensures.value c.loop-i.invariant.values;
  short = omega (arith, c.in_ok-check_length.ensures);
}
