use Rattle.std.proofs.Common.{◌≡◌, ◌-◌, true, ℤ, List, length, get_or, ap, ◌∙◌, subst, rules, FitsSigned, w64, to_z-of_z}
use Rattle.clk_record.specs.Demotions.{IsDemotion}
use Rattle.clk_record.specs.declared.stable.StableStamp.{StableStamp}
use Rattle.clk_lawful.specs.Demoted.{boot_stamp}
use Rattle.clk_threads.specs.Booting.{gtod_offset_of, sched_offset_of}
use Rattle.clk_threads.proofs.BootDemoting.{last_boot, is_demoted}
use Rattle.clk_threads.proofs.Lasts.{some_stamps}
use Rattle.clk_threads.proofs.demoted.demote_at_boot.Goals as goal

pub returns : goal.returns
returns c =
    let b = c.args.booted.now in
    let m = b.machine in
    let up = c.args.up.now in
    let boot = c.requires.boot in
    let stamps : List StableStamp = b.stamps.items in
    let stable : m.stable ≡ true = search rules in
    let failed : up.failed ≡ true = search rules in
    let sched : FitsSigned w64 b.sched_offset = search rules in
    let gtod : FitsSigned w64 b.gtod_offset = search rules in
    let stamped : FitsSigned w64 c.stamp-stamp.result.gtod = search rules in
    let d = c.demotion_after.result in
    let told = simp to_z-of_z at c.demotion_after.ensures in
    let offset : ℤ = gtod_offset_of stamps in
    let last : (x : StableStamp) → c.get.result.now ≡ boot_stamp offset x stamps =
    λ x. c.get.ensures ∙ ap (λ i. get_or stamps i c.get.result.now) (ap (λ i. i - 1) c.len-last.ensures)
    ∙ last_boot offset x c.get.result.now stamps (some_stamps m.stable (length stamps) boot.stamps.count) boot.stamps.offsets in
    let taken : (x : StableStamp) → IsDemotion (sched_offset_of m stamps) offset (boot_stamp offset x stamps) d =
    λ x. subst (λ (s : StableStamp). IsDemotion (sched_offset_of m stamps) offset s d) (last x) (rw (boot.sched_offset, boot.gtod_offset) at told.is) in
    is_demoted m up b c.stamp-stamp.new.time c.stamp-stamp.new.seat.epoch c.stamp-stamp.result d stable failed c.requires c.stamp-stamp.ensures.stamped
    (record { ticket = told.ticket; gtod = told.gtod; raw = told.raw; is = taken })
