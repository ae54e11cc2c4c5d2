use Rattle.std.proofs.Common.{◌≡◌, ◌+◌}
use Rattle.clk_ticket.specs.Time.{share_of}
use Rattle.clk_words.specs.Knowing.{numbers_of}
use Rattle.clk_local.specs.Context.{IsUsable}
use Rattle.clk_remote.specs.declared.tests.threads.TheConstants.{TICKETS}
use Rattle.clk_remote.proofs.tests.threads.run.Given as goal

-- the thread may go on, with a ticket for each call to come
abbrev pub invariant-loop-call : goal.invariant-loop-call
invariant-loop-call l = record {
  usable : IsUsable (λ k s. s.latch ≡ k) (λ s. s.epoch) l.ctx;
  cpu : l.ctx.counter.cpu ≡ l.initial.ctx.counter.cpu;
  words : l.ctx.words.now ≡ l.initial.ctx.words.now;
  tickets : l.ctx.tickets.now ≡ l.initial.ctx.tickets.now;
  numbers : numbers_of l.ctx.seat.view ≡ numbers_of l.initial.ctx.seat.view;
  left : l.ctx.time.left + l.call ≡ TICKETS;
  share : share_of l.ctx.time ≡ share_of l.initial.ctx.time;
}
