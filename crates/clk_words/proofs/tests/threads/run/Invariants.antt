use Rattle.std.proofs.Common.{◌≡◌, IsTrue}
use Rattle.clk_words.specs.Knowing.{StampsAreWhole}
use Rattle.clk_words.specs.Held.{place_of}
use Rattle.clk_words.specs.Calls.{KeepsSeat}
use Rattle.clk_words.proofs.tests.threads.run.Given as goal

-- the seat keeps its rights, and an owner's stamps are whole
abbrev pub invariant-loop-call : goal.invariant-loop-call
invariant-loop-call l = record {
  own : place_of l.runner.seat ≡ l.words;
  kept : KeepsSeat l.initial.runner.seat.view l.runner.seat.view;
  same : l.runner.stamps ≡ l.initial.runner.stamps;
  turn : IsTrue l.runner.stamps → StampsAreWhole l.runner.seat.view;
}
