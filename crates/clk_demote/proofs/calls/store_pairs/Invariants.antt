use Rattle.std.proofs.Common.{◌≡◌}
use Rattle.clk_words.specs.Held.{place_of}
use Rattle.clk_words.specs.Knowing.{MayDemote}
use Rattle.clk_demote.specs.Stamping.{pairs_stored}
use Rattle.clk_demote.proofs.calls.store_pairs.Given as goal

-- the CPUs so far have the pair
abbrev pub invariant-loop-cpu : goal.invariant-loop-cpu
invariant-loop-cpu l = record {
  own : place_of l.seat ≡ l.words;
  may : MayDemote l.seat.view;
  view : l.seat.view ≡ pairs_stored l.cpu l.gtod l.raw l.initial.seat.view;
}
