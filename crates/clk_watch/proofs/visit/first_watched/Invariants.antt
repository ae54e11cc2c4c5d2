use Rattle.std.proofs.Common.{◌≡◌, ◌+◌, map, take, length}
use Rattle.clk_record.specs.Fold.{source_at_first}
use Rattle.clk_watch.proofs.visit.first_watched.Given as goal

abbrev pub invariant-loop-s : goal.invariant-loop-s
invariant-loop-s l = record {
  items : l.sources.items ≡ map (source_at_first l.tsc_unstable) (take l.s l.machine.source);
  room : l.sources.room + l.s ≡ length l.machine.source;
}
