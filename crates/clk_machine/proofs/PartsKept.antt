-- A machine of parts that are in range keeps what it is to keep.
use Rattle.std.proofs.Common.{◌≡◌, ℕ, ◌≤◌, subst, sym, ◌∙◌, ap}
use Rattle.clk_num.specs.declared.rate.Rate.{Rate}
use Rattle.clk_machine.specs.declared.parts.Parts.{Parts}
use Rattle.clk_machine.specs.Plan.{plan_of}
use Rattle.clk_machine.specs.Limits.{ticket_limit, AreInRange, IsWithinLimits}
use Rattle.clk_machine.specs.Tickets.{tickets_needed}
use Rattle.clk_machine.specs.Time.{sched_rate, reference_rate}
use Rattle.clk_machine.specs.Sums.{summed}
use Rattle.clk_machine.specs.MachineKept.{IsKept}
use Rattle.clk_machine.proofs.Summing.{plan_of-summed, delays_again, cpus_have_sums, sources_have_sums}

pub same_plan : (p q : Parts) → q ≡ summed p → plan_of q ≡ plan_of p
same_plan p q e = ap plan_of e ∙ plan_of-summed p

pub kept : (p q : Parts) (sched reference : Rate) (tickets : ℕ) → q ≡ summed p → AreInRange (plan_of p) → tickets ≡ tickets_needed (plan_of p) → tickets ≤ ticket_limit p.version
    → sched ≡ sched_rate (plan_of p) → reference ≡ reference_rate (plan_of p) → sched.shift ≤ 32 → reference.shift ≤ 32
    → IsKept (record { parts = q; sched = sched; reference = reference; tickets = tickets })
kept p q sched reference tickets e ranges needed few s r a b =
    let P : Parts → Type 0 = λ x. IsKept (record { parts = x; sched = sched; reference = reference; tickets = tickets }) in
    let limits : IsWithinLimits (plan_of p) = record { ranges = ranges; tickets = rw needed at few } in
    subst P (sym e) (record {
      limits = rw plan_of-summed limits;
      delays = delays_again 0 p.delay.items;
      cpus = cpus_have_sums p.cpu.items;
      sources = sources_have_sums p.source.items;
      sched = s;
      reference = r;
      shifts = (a, b);
      tickets = needed ∙ sym (ap tickets_needed (plan_of-summed p));
    })
