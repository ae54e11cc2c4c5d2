use Rattle.std.proofs.Common.{Option, sym, ◌∙◌, ap, option_and_then, arith}
use Rattle.std.specs.Option.{option_or}
use Rattle.std.proofs.lemmas.List.{length_push}
use Rattle.toml.specs.Data.{Data, as_str}
use Rattle.clk_machine.specs.declared.script.Word.{Word}
use Rattle.clk_file.specs.declared.words.Thread.{Thread}
use Rattle.clk_file.specs.Words.{word_in}
use Rattle.clk_file.proofs.Loops.{tests_more, tests_passed, tests_whole, made_one, made_none, made_all}
use Rattle.clk_file.proofs.items.words_of.Goals as goal
use Rattle.clk_file.proofs.items.words_of.Goals.{in-Ok, in-Err}

abbrev word_at : Thread → Data → Option Word
word_at thread d = option_and_then (word_in thread) (as_str d)

pub loop-i-preserved : goal.loop-i-preserved
loop-i-preserved c =
    let vs = c.array_or_empty-values.result.now in
    let i = c.loop-i.i in
    let v = c.index-values-i.result in
    let so_far = c.loop-i.invariant in
    elim c.match-word_at.branch [
      | in-Ok w ↦ record {
        tests = w.refusal-is ∙ tests_passed _ _ _ vs i v c.loop-i-test.true c.index-values-i.is so_far.tests (sym w.in-Ok.ensures.test);
        values =
            rw (w.words-is, w.push.ensures.items)
            (made_one (word_at c.args.thread) _ _ vs i v c.loop-i-test.true c.index-values-i.is so_far.values w.in-Ok.ensures.value);
        few = rw (w.words-is, w.push.ensures.items, length_push) (omega arith);
        room = rw (w.words-is, w.push.ensures.items, length_push) (omega arith);
      }
      | in-Err w ↦ record {
        tests = w.refusal-is ∙ tests_more c.loop-i.refusal _ _ _ vs i v c.loop-i-test.true c.index-values-i.is so_far.tests
            (w.refuse.ensures ∙ ap (option_or c.loop-i.refusal) w.in-Err.ensures.test);
        values = rw w.words-is (made_none (word_at c.args.thread) _ vs i v c.loop-i-test.true c.index-values-i.is so_far.values w.in-Err.ensures.value);
        few = rw w.words-is (omega arith);
        room = rw w.words-is so_far.room;
      }
    ]

pub returns : goal.returns
returns c = record {
  test = tests_whole _ _ _ _ _ _ c.loop-i-test.false c.array_or_empty-values.ensures.value c.loop-i.invariant.tests ∙ rw c.array_or_empty-values.ensures.test;
  value = made_all (word_at c.args.thread) _ _ _ _ c.loop-i-test.false c.array_or_empty-values.ensures.value c.loop-i.invariant.values;
  short = omega (arith, c.in_ok-check_length.ensures);
}
