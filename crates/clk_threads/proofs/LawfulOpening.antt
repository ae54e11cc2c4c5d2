-- How the clock of a run stands as its scripts begin, in the terms of the trace and of the words' opening.
use Rattle.std.proofs.Common.{◌≡◌, ℤ, ◌+ℤ◌, Bool, true, false, ◌&&◌, not, is_some, if◌then◌else◌, List, Option, Some, None, refl, ap, ◌∙◌, sym}
use Rattle.clk_num.specs.Wrapping.{wrap}
use Rattle.clk_machine.specs.Plan.{Plan}
use Rattle.clk_record.specs.declared.mode.Mode.TheVariants.{Stable, PerCpu}
use Rattle.clk_record.specs.declared.step.Step.{Step}
use Rattle.clk_record.specs.declared.stable.StableStamp.{StableStamp}
use Rattle.clk_record.specs.declared.stable.Demotion.{Demotion}
use Rattle.clk_words.specs.Bounds.{opens_of}
use Rattle.clk_lawful.specs.LawfulTrace.{opening_at}
use Rattle.clk_lawful.specs.Standing.{is_stable, begins_stable, demotion_by, either_demotion, offset_at, standing_offset}
use Rattle.clk_lawful.specs.Stamps.{no_pair, last_pair, pair_at, stamp_zero}
use Rattle.clk_lawful.specs.declared.trace.Trace.{Trace}
use Rattle.clk_threads.specs.Booting.{gtod_offset_of, opening_of, IsBootDemotion}
use Rattle.clk_threads.specs.Preparing.{start_of}
use Rattle.clk_threads.specs.Finishing.{IsRunOf}

-- ---- the mode

pub started_stable : (b : Bool) → is_stable (if b then Stable else PerCpu) ≡ b
started_stable true = refl
started_stable false = refl

kept_mode : (b : Bool) → (if b then Stable else PerCpu) ≡ (if b && true then Stable else PerCpu)
kept_mode true = refl
kept_mode false = refl

ended_mode : (b : Bool) → PerCpu ≡ (if b && false then Stable else PerCpu)
ended_mode true = refl
ended_mode false = refl

opens_in : (m : Plan) (stamps : List StableStamp) (boot : Option Demotion)
    → (opening_of m stamps boot).mode ≡ (if m.stable && not (is_some boot) then Stable else PerCpu)
opens_in m stamps None = kept_mode m.stable
opens_in m stamps (Some d) = ended_mode m.stable

-- the trace begins stable where the machine does and was not demoted at boot
begins_is : (m : Plan) (t : Trace) (closed : List Step) → IsRunOf m t closed → begins_stable t ≡ (m.stable && not (is_some t.boot_demotion))
begins_is m t closed run = ap (λ (b : Bool). b && not (is_some t.boot_demotion)) (ap is_stable run.starts ∙ started_stable m.stable)

-- and so do the words
pub mode_is : (m : Plan) (t : Trace) (closed : List Step) → IsRunOf m t closed
    → (start_of m t.boots.items t.boot_demotion).opening.mode ≡ (if begins_stable t then Stable else PerCpu)
mode_is m t closed run =
    opens_in m t.boots.items t.boot_demotion ∙ ap (λ (b : Bool). if b then Stable else PerCpu) (sym (begins_is m t closed run))

pub percpu_mode : (m : Plan) (t : Trace) (closed : List Step) → IsRunOf m t closed → begins_stable t ≡ false
    → (start_of m t.boots.items t.boot_demotion).opening.mode ≡ PerCpu
percpu_mode m t closed run percpu = mode_is m t closed run ∙ ap (λ (b : Bool). if b then Stable else PerCpu) percpu

only_stable : (b : Bool) → (if b then Stable else PerCpu) ≡ Stable → b ≡ true
only_stable true e = refl
only_stable false e = absurd (cc)

pub stable_mode : (m : Plan) (t : Trace) (closed : List Step) → IsRunOf m t closed → (start_of m t.boots.items t.boot_demotion).opening.mode ≡ Stable
    → begins_stable t ≡ true
stable_mode m t closed run stable = only_stable (begins_stable t) (sym (mode_is m t closed run) ∙ stable)

-- a trace that begins stable was not demoted at boot
not_booted : (b : Bool) (boot : Option Demotion) → (b && not (is_some boot)) ≡ true → boot ≡ None
not_booted b None e = refl
not_booted true (Some d) e = absurd (cc)
not_booted false (Some d) e = absurd (cc)

pub not_demoted : (t : Trace) → begins_stable t ≡ true → t.boot_demotion ≡ None
not_demoted t stable = not_booted (is_stable t.starts) t.boot_demotion stable

-- ---- what stands in a per-CPU start

-- the pair of the opening, where the watchdog demotes nothing
opening_pair : (m : Plan) (stamps : List StableStamp) (boot watch : Option Demotion) → watch ≡ None
    → pair_at (last_pair no_pair stamps) (either_demotion boot watch)
    ≡ record { raw = (opening_of m stamps boot).tick_raw; gtod = (opening_of m stamps boot).tick_gtod }
opening_pair m stamps None watch none = ap (pair_at (last_pair no_pair stamps)) none
opening_pair m stamps (Some d) watch none = refl

pub opening_zero : (m : Plan) (t : Trace) → demotion_by t.watch ≡ None
    → stamp_zero t ≡ record {
      raw = (opening_of m t.boots.items t.boot_demotion).tick_raw;
      gtod = (opening_of m t.boots.items t.boot_demotion).tick_gtod;
    }
opening_zero m t none = opening_pair m t.boots.items t.boot_demotion (demotion_by t.watch) none

-- and its offset
offset_by : (m : Plan) (stamps : List StableStamp) (offset : ℤ) (boot watch : Option Demotion) → watch ≡ None → offset ≡ gtod_offset_of stamps
    → ((d : Demotion) → boot ≡ Some d → IsBootDemotion m stamps d) → offset_at offset (either_demotion boot watch) ≡ (opening_of m stamps boot).offset
offset_by m stamps offset None watch none same is = ap (offset_at offset) none ∙ same
offset_by m stamps offset (Some d) watch none same is = ((is d refl).is d.stable).gtod_offset_is

pub opening_offset : (m : Plan) (t : Trace) (closed : List Step) → IsRunOf m t closed → demotion_by t.watch ≡ None
    → standing_offset t ≡ (opening_of m t.boots.items t.boot_demotion).offset
opening_offset m t closed run none =
    offset_by m t.boots.items t.gtod_offset t.boot_demotion (demotion_by t.watch) none run.gtod_offset run.demotion.is

-- ---- where the words open

opens_by : (m : Plan) (stamps : List StableStamp) (offset : ℤ) (boot : Option Demotion) → offset ≡ gtod_offset_of stamps
    → ((d : Demotion) → boot ≡ Some d → IsBootDemotion m stamps d)
    → opens_of (opening_of m stamps boot) ≡ opening_at (wrap ((last_pair no_pair stamps).gtod +ℤ offset)) boot
opens_by m stamps offset None same is = ap (λ (o : ℤ). wrap ((last_pair no_pair stamps).gtod +ℤ o)) (sym same)
opens_by m stamps offset (Some d) same is =
    let by = (is d refl).is d.stable in
    ap (λ (o : ℤ). wrap (d.gtod +ℤ o)) (sym by.gtod_offset_is) ∙ sym by.opening_is

pub opening_word : (m : Plan) (t : Trace) (closed : List Step) → IsRunOf m t closed
    → t.start_word ≡ opening_at (wrap ((last_pair no_pair t.boots.items).gtod +ℤ t.gtod_offset)) t.boot_demotion
opening_word m t closed run = run.start_word ∙ opens_by m t.boots.items t.gtod_offset t.boot_demotion run.gtod_offset run.demotion.is
