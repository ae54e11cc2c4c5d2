use Rattle.std.proofs.Common.{◌≡◌, ◌++◌, map, take, drop}
use Rattle.clk_record.specs.Fold.{unmarked}
use Rattle.clk_watch.proofs.settle.unmark_all.Given as goal

abbrev pub invariant-loop-watched : goal.invariant-loop-watched
invariant-loop-watched l = l.sources ≡ map unmarked (take l.watched-index l.initial.sources) ++ drop l.watched-index l.initial.sources
