-- A bring-up after the boot: its tickets follow the boot's, and leave those of the scripts.
use Rattle.std.proofs.Common.{◌≡◌, ℕ, ◌+◌, ◌-◌, ◌*◌, ◌^◌, ◌<◌, ◌≤◌, Bool, true, false, cond, ◌&&◌, List, [], ◌∷◌, ◌++◌, map, Option, Some, None, refl, sym, ap, ◌∙◌, subst, arith, append_assoc, append-nil}
use Rattle.std.specs.List.{All, list_any}
use Rattle.std.proofs.lemmas.List.Elements.{All-nil, All-cons, All-head, All-tail, All-append}
use Rattle.clk_base.specs.declared.block.Block.{Block}
use Rattle.clk_base.specs.Blocks.{end_of, AllEndBy, Rises}
use Rattle.clk_base.specs.Walk.{Along}
use Rattle.clk_base.proofs.Rising.{rises_front, rises_apart}
use Rattle.clk_ticket.specs.Time.{Tickets, Time, after_draw}
use Rattle.clk_machine.specs.declared.parts.BringUpPart.{BringUpPart}
use Rattle.clk_machine.specs.Plan.{Plan, count_of, cpu_count}
use Rattle.clk_machine.specs.Limits.{is_second, most_tickets}
use Rattle.clk_machine.specs.Tickets.{bring_up_tickets}
use Rattle.clk_record.specs.declared.warp.WarpReading.{WarpReading}
use Rattle.clk_record.specs.declared.up.CpuUp.{CpuUp}
use Rattle.clk_record.specs.declared.up.BroughtUp.{BroughtUp}
use Rattle.clk_record.specs.declared.stable.StableStamp.{StableStamp}
use Rattle.clk_record.specs.WarpLimits.{turns_in}
use Rattle.clk_record.specs.BroughtUp.{most_runs, test_of, IsUp, is_failure, failed_after, IsBroughtUp}
use Rattle.clk_record.specs.WarpReadings.{all_readings}
use Rattle.clk_warp.specs.Pairs.{drawn_for, block_of, DrawsFor}
use Rattle.clk_lawful.specs.TicketOrder.{boot_blocks}
use Rattle.clk_adjust.specs.Tickets.{cpu_tickets, up_tickets}
use Rattle.clk_threads.specs.Booting.{demotion_tickets, HasDrawnFirst, IsBooted, IsBootedFor}
use Rattle.clk_threads.specs.declared.booted.Booted.{Booted}
use Rattle.clk_threads.proofs.Stamping.{all_end_later}

-- ---- how many tickets there are

limit_few : (second : Bool) → cond second (2 ^ 26) (2 ^ 24) ≤ most_tickets
limit_few true = omega arith
limit_few false = omega arith

-- without a bring-up no CPU failed
none_failed : (m : Plan) (failed : Bool) (ups : List CpuUp) → m.bringup ≡ None → Along (λ failed up. IsUp m (test_of m None up.cpu) failed up) failed_after failed ups
    → list_any (λ (up : CpuUp). is_failure up.outcome) ups ≡ false
none_failed m failed [] e along = refl
none_failed m failed (up ∷ ups) e along =
    let left : IsUp m None failed up = subst (λ (o : Option BringUpPart). IsUp m o failed up) e along.0 in
    rw left.outcome_is (none_failed m (failed_after failed up) ups e along.1)

two_at_most : (stable failed : Bool) → cond (stable && failed) 2 0 ≤ cond stable 2 0
two_at_most true true = omega arith
two_at_most true false = omega arith
two_at_most false failed = omega arith

not_two : (stable failed : Bool) → failed ≡ false → ◌≡◌ {A = ℕ} (cond (stable && failed) 2 0) 0
not_two true failed e = rw e refl
not_two false failed e = refl

-- the machine's limits count what a bring-up may draw, and a demotion at boot after it
few_demoted : (m : Plan) (o : Option BringUpPart) (failed : Bool) → m.bringup ≡ o → (o ≡ None → failed ≡ false)
    → (cpu_count m - 1) * cpu_tickets m o + demotion_tickets m failed ≤ bring_up_tickets m o
few_demoted m None failed e untested = let zero_left = not_two m.stable failed (untested refl) in omega (arith, zero_left)
few_demoted m (Some part) failed e untested =
    let turns : turns_in m.bringup ≡ count_of part.turns = ap turns_in e in
    let same = ap (λ (n : ℕ). (cpu_count m - 1) * (most_runs part * (2 * (n + 10)))) turns in
    let two = two_at_most m.stable failed in
    omega (arith, same, two)

-- ---- they follow the boot's

drawn_blocks : (t : Time) (rs : List WarpReading) → (drawn_for t rs).blocks ≡ t.blocks ++ map block_of rs
drawn_blocks t [] = sym (append-nil t.blocks)
drawn_blocks t (r ∷ rs) = drawn_blocks (after_draw t r.ticket 1) rs ∙ append_assoc t.blocks (block_of r ∷ []) (map block_of rs)

-- blocks that rise have ended where the last one ends
ends_for : (t : Time) (rs : List WarpReading) → Rises (drawn_for t rs).blocks → AllEndBy t.seen t.blocks → AllEndBy (drawn_for t rs).seen (drawn_for t rs).blocks
ends_for t [] rises ends = ends
ends_for t (r ∷ rs) rises ends =
    let next : Time = after_draw t r.ticket 1 in
    let risen : Rises (t.blocks ++ block_of r ∷ []) = rises_front next.blocks (map block_of rs) (subst Rises (drawn_blocks next rs) rises) in
    let before : AllEndBy r.ticket t.blocks = All-head (λ (c : Block). AllEndBy c.first t.blocks) (block_of r) [] (rises_apart t.blocks (block_of r ∷ []) risen) in
    let here = All-cons (λ (c : Block). end_of c ≤ r.ticket + 1) (block_of r) [] (omega arith) (All-nil (λ (c : Block). end_of c ≤ r.ticket + 1)) in
    ends_for next rs rises
    (All-append (λ (c : Block). end_of c ≤ r.ticket + 1) t.blocks (block_of r ∷ []) (all_end_later r.ticket (r.ticket + 1) t.blocks (omega arith) before) here)

within_for : (t : Time) (rs : List WarpReading) → All (λ r. r.ticket < most_tickets) rs → t.seen ≤ most_tickets → (drawn_for t rs).seen ≤ most_tickets
within_for t [] within low = low
within_for t (r ∷ rs) within low =
    let here = All-head (λ (q : WarpReading). q.ticket < most_tickets) r rs within in
    within_for (after_draw t r.ticket 1) rs (All-tail (λ (q : WarpReading). q.ticket < most_tickets) r rs within) (omega (arith, here))

drawn_after : (tickets : Tickets) (stamps : List StableStamp) (ups : List CpuUp) (before now : Time) → HasDrawnFirst tickets stamps [] before
    → DrawsFor before (all_readings ups) now → HasDrawnFirst tickets stamps ups now
drawn_after tickets stamps ups before now h d =
    let rs : List WarpReading = all_readings ups in
    let rises : Rises now.blocks = d.rises h.rises in
    record {
      table = d.table ∙ h.table;
      blocks = d.blocks ∙ ap (λ (bs : List Block). bs ++ map block_of rs) (h.blocks ∙ append-nil (boot_blocks 0 stamps));
      share = d.share ∙ h.share;
      rises = rises;
      ends =
          subst (λ (t : Time). AllEndBy t.seen t.blocks) (sym d.is)
          (ends_for before rs (subst (λ (t : Time). Rises t.blocks) d.is rises) h.ends);
      within = subst (λ (t : Time). t.seen ≤ most_tickets) (sym d.is) (within_for before rs d.within h.within);
    }

-- a boot, and a bring-up by its seat
pub booted_for : (m : Plan) (b : Booted) (up : BroughtUp) (now : Time) → IsBooted m b → IsBroughtUp m None up → DrawsFor b.time (all_readings up.cpus.items) now
    → b.time.left ≤ now.left + up_tickets m → IsBootedFor m up (record b { time = now })
booted_for m b up now h is d spent =
    let boot = h.boot in
    let needed = boot.limits.tickets in
    let limit = limit_few (is_second m.version) in
    let few = few_demoted m m.bringup up.failed refl (λ untested. is.failed ∙ none_failed m false up.cpus.items untested is.cpus) in
    let left = h.left in
    record {
      boot = record {
        limits = boot.limits;
        machine = boot.machine;
        total = boot.total;
        epoch = boot.epoch;
        stamps = boot.stamps;
        sched_offset = boot.sched_offset;
        gtod_offset = boot.gtod_offset;
      };
      drawn = drawn_after b.tickets b.stamps.items up.cpus.items b.time now h.drawn d;
      left = omega (arith, needed, limit, few, left, spent);
    }
