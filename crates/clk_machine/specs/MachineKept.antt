-- What a machine keeps true of its fields. No public contract cites it.
use Rattle.std.specs.Prelude.{◌≡◌, ◌≤◌}
use Rattle.std.specs.List.{All}
use Rattle.clk_machine.specs.declared.machine.Machine.TheInside.{Inside}
use Rattle.clk_machine.specs.Plan.{plan_of}
use Rattle.clk_machine.specs.Limits.{IsWithinLimits}
use Rattle.clk_machine.specs.Time.{sched_rate, reference_rate}
use Rattle.clk_machine.specs.Tickets.{tickets_needed}
use Rattle.clk_machine.specs.Sums.{HasDelaySums, HasJumpSums}

pub record IsKept (m : Inside) : Type 0 where
  pub limits : IsWithinLimits (plan_of m.parts)
  pub delays : HasDelaySums m.parts.delay.items
  pub cpus : All (λ c. HasJumpSums c.jumps.items) m.parts.cpu.items
  pub sources : All (λ s. HasJumpSums s.jumps.items) m.parts.source.items
  pub sched : m.sched ≡ sched_rate (plan_of m.parts)
  pub reference : m.reference ≡ reference_rate (plan_of m.parts)
  pub shifts : (m.sched.shift ≤ 32) × (m.reference.shift ≤ 32)
  pub tickets : m.tickets ≡ tickets_needed (plan_of m.parts)
