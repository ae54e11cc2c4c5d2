use Rattle.std.proofs.Common.{◌≡◌, ◌≤◌, ◌+◌, length, map, take}
use Rattle.std.specs.List.{All, filter_map}
use Rattle.toml.specs.Data.{as_table}
use Rattle.toml.specs.View.{view}
use Rattle.clk_base.specs.First.{each_from}
use Rattle.clk_file.specs.Keys.{in_entry}
use Rattle.clk_file.proofs.entries.entries_of.Given as goal

abbrev pub invariant-loop-i : goal.invariant-loop-i
invariant-loop-i g l = record {
  tests : l.refusal ≡ each_from l.initial.refusal (in_entry l.row (g.E.Entry.tests l.numbers)) 1 (map view (take l.i l.values));
  values : map g.E.Entry.plan l.entries.items ≡ map (g.E.Entry.read_as l.numbers) (filter_map as_table (map view (take l.i l.values)));
  few : length l.entries.items ≤ l.i;
  room : l.entries.room + length l.entries.items ≡ length l.values;
  short : All (g.E.Entry.HasShort l.numbers) (map g.E.Entry.plan l.entries.items);
}
