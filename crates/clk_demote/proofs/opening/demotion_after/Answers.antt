use Rattle.std.proofs.Common.{◌≡◌, ◌-ℤ◌, ap, ◌∙◌, refl, rules, subst, sym, to_z-of_z, FitsSigned, w64}
use Rattle.clk_num.specs.Wrapping.{IsValue, wrap, above}
use Rattle.clk_num.proofs.Heights.{sum_is, wrap_fits}
use Rattle.clk_demote.proofs.Shifting.{drift_is}
use Rattle.clk_demote.proofs.opening.demotion_after.Goals as goal

pub returns-clause-is : goal.returns-clause-is
returns-clause-is c =
    let gtod : FitsSigned w64 c.args.gtod = search rules in
    let sched : FitsSigned w64 c.args.sched_offset = search rules in
    let offset : FitsSigned w64 c.args.gtod_offset = search rules in
    let raw : FitsSigned w64 c.args.raw.ns = search rules in
    let stable_gtod : FitsSigned w64 c.args.stable.gtod = search rules in
    let stable_raw : FitsSigned w64 c.args.stable.raw.ns = search rules in
    let went : c.above-went.result ≡ above c.args.raw.ns c.args.stable.raw.ns = simp to_z-of_z at c.above-went.ensures in
    let fits : IsValue c.above-went.result = subst IsValue (sym went) (wrap_fits _) in
    rw (to_z-of_z gtod, to_z-of_z sched, to_z-of_z offset)
    (record {
      stable_is = refl;
      sched_offset_is = refl;
      gtod_offset_is = refl;
      opening_is = sum_is c.args.gtod c.args.gtod_offset gtod offset;
      drift_is = drift_is c.above-went.result c.args.gtod c.args.stable.gtod fits gtod stable_gtod ∙ ap (λ x. wrap (x -ℤ (c.args.gtod -ℤ c.args.stable.gtod))) went;
    })
