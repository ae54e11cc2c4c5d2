-- A demotion shifts the clock by the drift.
use Rattle.std.proofs.Common.{◌≡◌, ℤ, ◌+ℤ◌, ◌-ℤ◌, ap, sym, ◌∙◌, arith}
use Rattle.std.proofs.lemmas.Int.{ints}
use Rattle.clk_num.specs.Wrapping.{wrap, above}
use Rattle.clk_num.proofs.Wraps.{wrapped}
use Rattle.clk_record.specs.declared.stable.StableStamp.{StableStamp}
use Rattle.clk_record.specs.Demotions.{DemotionsShiftByDrift}

-- a sum that was wrapped already
pub wrap_first : (a b : ℤ) → wrap (wrap a -ℤ b) ≡ wrap (a -ℤ b)
wrap_first a b = omega (arith, ints, wrapped)

-- two ways from the stable stamp to the opening
same_opening : (gtod raw sched stable_gtod stable_raw : ℤ)
    → wrap (gtod +ℤ wrap ((stable_raw +ℤ sched) -ℤ stable_gtod)) ≡ wrap ((raw +ℤ sched) -ℤ wrap (above raw stable_raw -ℤ (gtod -ℤ stable_gtod)))
same_opening gtod raw sched stable_gtod stable_raw = omega (arith, ints, wrapped)

pub shift_by_drift : DemotionsShiftByDrift
shift_by_drift sched_offset gtod_offset stable d is by =
    is.opening_is
    ∙ ap (λ x. wrap (d.gtod +ℤ x)) (is.gtod_offset_is ∙ by)
    ∙ same_opening d.gtod d.raw.ns sched_offset stable.gtod stable.raw.ns
    ∙ ap (λ (s : StableStamp). wrap ((d.raw.ns +ℤ sched_offset) -ℤ wrap (above d.raw.ns s.raw.ns -ℤ (d.gtod -ℤ s.gtod)))) (sym is.stable_is)
    ∙ ap (λ x. wrap ((d.raw.ns +ℤ sched_offset) -ℤ x)) (sym is.drift_is)
    ∙ ap (λ x. wrap ((d.raw.ns +ℤ x) -ℤ d.drift)) (sym is.sched_offset_is)
    ∙ sym (wrap_first (d.raw.ns +ℤ d.sched_offset) d.drift)
