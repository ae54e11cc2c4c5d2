use Rattle.std.proofs.Common.{◌≡◌, ◌+◌, ◌*◌}
use Rattle.clk_words.specs.Knowing.{HasFoundPerCpu}
use Rattle.clk_local.specs.Context.{IsUsable}
use Rattle.clk_local.specs.declared.tests.threads.TheConstants.{READERS}
use Rattle.clk_local.proofs.tests.threads.run_reader.Given as goal

-- the thread may go on, with tickets for the calls to come
abbrev pub invariant-loop-call : goal.invariant-loop-call
invariant-loop-call l = record {
  usable : IsUsable (λ k s. s.latch ≡ k) (λ s. s.epoch) l.ctx;
  found : HasFoundPerCpu l.ctx.seat.view;
  left : l.ctx.time.left + 1 * l.call ≡ READERS;
}
