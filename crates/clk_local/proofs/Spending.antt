-- What calls leave of a thread's tickets.
use Rattle.std.proofs.Common.{ℕ, ◌+◌, ◌≤◌, ap, ◌∙◌, arith}
use Rattle.clk_ticket.specs.Time.{Time}
use Rattle.clk_latch.specs.Calls.{DrawsTicket}
use Rattle.clk_local.specs.declared.events.TickEvent.{TickEvent}
use Rattle.clk_local.specs.declared.events.TickEvent.TheVariants.{Nothing, Ticked}
use Rattle.clk_local.specs.Context.{Spends}
use Rattle.clk_local.specs.Shows.{tickets_of}

pub one_ticket : (t u : Time) (ticket : ℕ) → 1 ≤ t.left → DrawsTicket t ticket u → Spends 1 t u
one_ticket t u ticket low draws = record {
  table_is = ap (λ (x : Time). x.table) draws.is;
  left = let e = ap (λ (x : Time). x.left) draws.is in omega arith;
  share = draws.share;
}

pub then_spends : (m n : ℕ) (t u v : Time) → Spends m t u → Spends n u v → Spends (m + n) t v
then_spends m n t u v p q = record {
  table_is = q.table_is ∙ p.table_is;
  left = let a = p.left in let b = q.left in omega arith;
  share = q.share ∙ p.share;
}

-- a tick draws three at most
pub few_tickets : (e : TickEvent) → tickets_of e ≤ 3
few_tickets Nothing = omega arith
few_tickets (Ticked gtod_ticket gtod stamp raw step) = omega arith
