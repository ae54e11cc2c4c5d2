use Rattle.std.proofs.Common.{◌≡◌}
use Rattle.clk_warp.proofs.lock.TurnLock.meet.Given as goal

-- the seat stays as it was
abbrev pub invariant-loop-looks : goal.invariant-loop-looks
invariant-loop-looks g l = record {
  table : l.seat.table_id ≡ l.initial.seat.table_id;
  id_is : l.seat.id ≡ l.initial.seat.id;
  me_is : l.seat.me ≡ l.initial.seat.me;
}
