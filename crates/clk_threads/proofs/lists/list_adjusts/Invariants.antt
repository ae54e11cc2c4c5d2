use Rattle.std.proofs.Common.{◌≡◌, ◌+◌, ◌≤◌, pos, ◌∷◌, length, map, take}
use Rattle.clk_threads.proofs.lists.list_adjusts.Given as goal

-- CPU 0 and the entries so far have theirs
abbrev pub invariant-loop-entry : goal.invariant-loop-entry
invariant-loop-entry l = record {
  items : l.adjusts.items ≡ pos 0 ∷ map (λ up. up.adjust) (take l.entry l.up.cpus.items);
  room : length l.up.cpus.items ≤ l.adjusts.room + l.entry;
}
