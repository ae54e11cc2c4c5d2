use Rattle.std.proofs.Common.{◌+◌, length, sym, ◌∙◌, ap, subst, arith}
use Rattle.std.specs.List.{All}
use Rattle.std.proofs.Math.Nat.{mul-le-mul_right}
use Rattle.std.proofs.lemmas.List.Elements.{All-map}
use Rattle.clk_machine.specs.declared.parts.ReferencePart.{ReferencePart}
use Rattle.clk_machine.specs.Plan.{Plan, count_of}
use Rattle.clk_machine.specs.Limits.{IsWithinLimits}
use Rattle.clk_record.specs.Fold.{source_at_first}
use Rattle.clk_watch.specs.Small.{IsSmallWatched}
use Rattle.clk_watch.proofs.watch.Watch.new.Goals as goal

pub invariant_of-result : goal.invariant_of-result
invariant_of-result c = record {
  limits = subst IsWithinLimits (sym c.of.ensures) c.tickets_needed-limits.ensures.limits;
  visits = rw c.in_ok-records.ensures.items tt;
  sources = rw (c.in_ok-records.ensures.items, c.of.ensures, c.of-2.ensures) c.in_ok-sources.ensures;
  small = subst (All IsSmallWatched) (sym c.in_ok-sources.ensures) (All-map IsSmallWatched (source_at_first c.args.tsc_unstable) c.args.machine.now.source (λ k d low. tt));
  reference = c.count.ensures ∙ ap (λ (r : ReferencePart). count_of r.rating) c.reference_part.ensures ∙ ap (λ (m : Plan). count_of m.reference.rating) (sym c.of.ensures);
  room =
      let most = mul-le-mul_right (c.retries.result + 1) c.visits-visits.ensures.few in
      omega (arith, most, c.retries.ensures.few, ap length c.in_ok-attempts.ensures.items, c.in_ok-attempts.ensures.room);
}
