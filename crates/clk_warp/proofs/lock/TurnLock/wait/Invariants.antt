use Rattle.std.proofs.Common.{◌≡◌}
use Rattle.clk_warp.proofs.lock.TurnLock.wait.Given as goal

-- the seat stays as it was
abbrev pub invariant-loop : goal.invariant-loop
invariant-loop g l = record {
  next : (goal.iterator-loop g).can_next l.iterator' × (goal.iterator-loop g).is_finite l.iterator';
  table : l.seat.table_id ≡ l.initial.seat.table_id;
  id_is : l.seat.id ≡ l.initial.seat.id;
  me_is : l.seat.me ≡ l.initial.seat.me;
}
