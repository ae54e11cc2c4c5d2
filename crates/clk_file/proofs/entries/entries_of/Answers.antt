use Rattle.std.proofs.Common.{◌∙◌, ap, map, Some, refl, arith}
use Rattle.std.specs.Option.{option_or}
use Rattle.std.proofs.lemmas.List.{length_push}
use Rattle.std.specs.List.{filter_map}
use Rattle.toml.specs.Data.{as_table}
use Rattle.clk_file.proofs.Loops.{tests_whole, entry_tests-more, entry_tests-none, entry_one, entry_none, seen_all, all_push}
use Rattle.clk_file.proofs.entries.entries_of.Goals as goal
use Rattle.clk_file.proofs.entries.entries_of.Goals.{in-Some+in_ok-read-in-Some, in-None}

pub loop-i-preserved : goal.loop-i-preserved
loop-i-preserved g c =
    let E = g.E.Entry in
    let n = c.args.numbers.now in
    let vs = c.args.values.now in
    let i = c.loop-i.i in
    let v = c.index-values-i.result in
    let low = c.loop-i-test.true in
    let is = c.index-values-i.is in
    let so_far = c.loop-i.invariant in
    elim c.match-as_table.branch [
      | in-Some+in_ok-read-in-Some w ↦
          let read = w.in_ok-read-in-Some.ensures in
          record {
            tests = w.refusal-is ∙ entry_tests-more c.loop-i.refusal _ _ c.args.row (E.tests n) vs i v _ low is so_far.tests w.in-Some.ensures read.test;
            values = rw (w.entries-is, w.push.ensures.items) (entry_one E.plan (E.read_as n) c.loop-i.entries.items _ _ vs i v low is so_far.values w.in-Some.ensures read.value);
            few = rw (w.entries-is, w.push.ensures.items, length_push) (omega arith);
            room = rw (w.entries-is, w.push.ensures.items, length_push) (omega arith);
            short = rw (w.entries-is, w.push.ensures.items) (all_push (E.HasShort n) E.plan c.loop-i.entries.items _ so_far.short read.short);
          }
      | in-None w ↦ record {
        tests = w.refusal-is ∙ entry_tests-none c.loop-i.refusal _ _ c.args.row (E.tests n) vs i v low is so_far.tests w.in-None.ensures
            (w.refuse.ensures ∙ ap (λ e. option_or c.loop-i.refusal (Some e)) w.value_at.ensures);
        values = rw w.entries-is (entry_none E.plan (E.read_as n) c.loop-i.entries.items vs i v low is so_far.values w.in-None.ensures);
        few = rw w.entries-is (omega arith);
        room = rw w.entries-is so_far.room;
        short = rw w.entries-is so_far.short;
      }
    ]

pub returns : goal.returns
returns g c =
    let E = g.E.Entry in
    let done = c.loop-i-test.false in
    record {
      test = tests_whole _ _ _ _ _ _ done refl c.loop-i.invariant.tests;
      value = c.loop-i.invariant.values ∙ ap (λ ds. map (E.read_as c.args.numbers.now) (filter_map as_table ds)) (seen_all c.args.values.now _ done);
      short = omega (arith, c.in_ok-check_length.ensures);
      each_short = c.loop-i.invariant.short;
    }
