use Rattle.std.proofs.Common.{◌≡◌}
use Rattle.clk_words.specs.Knowing.{numbers_of}
use Rattle.clk_words.specs.Held.{place_of}
use Rattle.clk_words.proofs.tests.demotion.read_on.Given as goal

-- the seat belongs to the words, and keeps its kind and its numbers
abbrev pub invariant-loop-call : goal.invariant-loop-call
invariant-loop-call l = record {
  own : place_of l.runner.seat ≡ l.words;
  kind : l.runner.seat.view.kind ≡ l.initial.runner.seat.view.kind;
  numbers : numbers_of l.runner.seat.view ≡ numbers_of l.initial.runner.seat.view;
}
