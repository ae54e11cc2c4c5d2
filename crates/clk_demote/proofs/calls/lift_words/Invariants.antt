use Rattle.std.proofs.Common.{◌≡◌}
use Rattle.clk_words.specs.Held.{place_of}
use Rattle.clk_words.specs.Knowing.{MayDemote}
use Rattle.clk_demote.proofs.Lifting.{LiftedTo}
use Rattle.clk_demote.proofs.calls.lift_words.Given as goal

-- the words so far are lifted
abbrev pub invariant-loop-cpu : goal.invariant-loop-cpu
invariant-loop-cpu l = record {
  own : place_of l.seat ≡ l.words;
  may : MayDemote l.seat.view;
  so : LiftedTo l.initial.seat.view l.check l.opening l.cpu l.seat.view l.initial.lifts l.lifts;
}
