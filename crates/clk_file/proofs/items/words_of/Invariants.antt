use Rattle.std.proofs.Common.{◌≡◌, ◌≤◌, ◌+◌, length, map, take, option_and_then}
use Rattle.std.specs.List.{filter_map}
use Rattle.toml.specs.Data.{as_str}
use Rattle.toml.specs.View.{view}
use Rattle.clk_base.specs.First.{each_from}
use Rattle.clk_file.specs.Words.{word_in}
use Rattle.clk_file.specs.Shape.{word_test}
use Rattle.clk_file.proofs.items.words_of.Given as goal

abbrev pub invariant-loop-i : goal.invariant-loop-i
invariant-loop-i l = record {
  tests : l.refusal ≡ each_from l.initial.refusal (word_test l.thread l.row l.entry) 1 (map view (take l.i l.values));
  values : l.words.items ≡ filter_map (λ d. option_and_then (word_in l.thread) (as_str d)) (map view (take l.i l.values));
  few : length l.words.items ≤ l.i;
  room : l.words.room + length l.words.items ≡ length l.values;
}
