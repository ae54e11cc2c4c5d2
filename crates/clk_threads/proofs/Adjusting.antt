-- By how much each counter is adjusted after a bring-up, by its CPU's number.
use Rattle.std.proofs.Common.{◌≡◌, ℕ, zero, suc, ◌+◌, ◌<◌, ◌≤◌, Bool, true, false, cond, nat_eq, ℤ, pos, List, [], ◌∷◌, ◌++◌, map, flat_map, length, get_or, Option, None, refl, sym, ap, ◌∙◌, subst, arith, eq-eqb}
use Rattle.std.specs.List.{All}
use Rattle.std.proofs.lemmas.Bool.Decides.{nat_tests}
use Rattle.std.proofs.lemmas.List.Elements.{All-nil, All-cons, All-head, All-tail}
use Rattle.clk_base.specs.declared.block.Block.{Block}
use Rattle.clk_base.specs.Blocks.{end_of, AllEndBy}
use Rattle.clk_base.specs.Walk.{EachFrom}
use Rattle.clk_base.proofs.Walks.{all_both}
use Rattle.clk_num.specs.Range.{IsNear}
use Rattle.clk_ticket.specs.Time.{Tickets, Time}
use Rattle.clk_machine.specs.Plan.{Plan}
use Rattle.clk_machine.specs.Limits.{most_tickets, IsWithinLimits}
use Rattle.clk_record.specs.declared.warp.WarpReading.{WarpReading}
use Rattle.clk_record.specs.declared.up.CpuUp.{CpuUp}
use Rattle.clk_record.specs.declared.up.BroughtUp.{BroughtUp}
use Rattle.clk_record.specs.BroughtUp.{IsBroughtUp}
use Rattle.clk_record.specs.WarpReadings.{all_readings}
use Rattle.clk_record.specs.declared.stable.StableStamp.{StableStamp}
use Rattle.clk_record.specs.declared.stable.Demotion.{Demotion}
use Rattle.clk_record.proofs.Near.{zero_near, ups_near}
use Rattle.clk_lawful.specs.RightReadings.{adjust_in}
use Rattle.clk_lawful.specs.Checks.{listed, demotion_blocks, one}
use Rattle.clk_lawful.specs.TicketOrder.{boot_blocks, up_blocks}
use Rattle.clk_threads.specs.Booting.{HasDrawnBefore}
use Rattle.clk_threads.specs.Preparing.{adjusts_of}

-- ---- how far a counter is adjusted

-- readings whose blocks end among the tickets
within_blocks : (n : ℕ) (rs : List WarpReading) → n ≤ most_tickets → AllEndBy n (map (λ (r : WarpReading). one r.ticket) rs) → All (λ r. r.ticket < most_tickets) rs
within_blocks n [] low ends = All-nil (λ (r : WarpReading). r.ticket < most_tickets)
within_blocks n (r ∷ rs) low ends =
    let here = All-head (λ (b : Block). end_of b ≤ n) (one r.ticket) (map (λ (r : WarpReading). one r.ticket) rs) ends in
    All-cons (λ (q : WarpReading). q.ticket < most_tickets) r rs (omega (arith, here, low)) (within_blocks n rs low (All-tail (λ (b : Block). end_of b ≤ n) (one r.ticket) (map (λ (r : WarpReading). one r.ticket) rs) ends))

in_near : (cpu : ℕ) (ups : List CpuUp) → All (λ up. IsNear 47 up.adjust) ups → IsNear 47 (adjust_in cpu ups)
in_near cpu [] all = zero_near (pos 0) refl
in_near cpu (up ∷ ups) all = at (nat_eq up.cpu cpu) (in_near cpu ups (All-tail (λ (x : CpuUp). IsNear 47 x.adjust) up ups all))
  where
    at : (b : Bool) → IsNear 47 (adjust_in cpu ups) → IsNear 47 (cond b up.adjust (adjust_in cpu ups))
    at true rest = All-head (λ (x : CpuUp). IsNear 47 x.adjust) up ups all
    at false rest = rest

-- by what a bring-up found with the tickets after the boot's
pub adjusts_near : (m : Plan) (up : BroughtUp) (tickets : Tickets) (stamps : List StableStamp) (demotion : Option Demotion) (time : Time) → IsWithinLimits m
    → IsBroughtUp m None up → HasDrawnBefore tickets stamps up.cpus.items demotion time → All (λ up. IsNear 47 up.adjust) up.cpus.items
adjusts_near m up tickets stamps demotion time limits is drawn =
    let ups : List CpuUp = up.cpus.items in
    let Ends : Block → Type 0 = λ b. end_of b ≤ time.seen in
    let first : List Block = boot_blocks 0 stamps ++ up_blocks ups in
    let count = is.count in
    let ends = all_both Ends first (flat_map demotion_blocks (listed demotion)) (subst (AllEndBy time.seen) drawn.blocks drawn.ends) in
    let read = all_both Ends (boot_blocks 0 stamps) (up_blocks ups) ends.0 in
    let within = within_blocks time.seen (all_readings ups) drawn.within read.1 in
    ups_near m 1 false ups limits (omega (arith, count)) within is.numbers is.cpus

pub adjust_after : (m : Plan) (up : BroughtUp) (tickets : Tickets) (stamps : List StableStamp) (demotion : Option Demotion) (time : Time) (cpu : ℕ) → IsWithinLimits m
    → IsBroughtUp m None up → HasDrawnBefore tickets stamps up.cpus.items demotion time → IsNear 47 (adjust_in cpu up.cpus.items)
adjust_after m up tickets stamps demotion time cpu limits is drawn = in_near cpu up.cpus.items (adjusts_near m up tickets stamps demotion time limits is drawn)

-- ---- the adjustment of each CPU, by number

no_entry : (cpu n : ℕ) (ups : List CpuUp) → cpu < n → EachFrom (λ n up. up.cpu ≡ n) n ups → adjust_in cpu ups ≡ pos 0
no_entry cpu n [] low each = refl
no_entry cpu n (up ∷ ups) low each =
    let number = each.0 in
    let other : nat_eq up.cpu cpu ≡ false = grind (arith, nat_tests) in
    rw other (no_entry cpu (n + 1) ups (omega (arith, low)) each.1)

at_entry : (n k : ℕ) (ups : List CpuUp) (d : ℤ) → k < length ups → EachFrom (λ n up. up.cpu ≡ n) n ups
    → get_or (map (λ (up : CpuUp). up.adjust) ups) k d ≡ adjust_in (n + k) ups
at_entry n k [] d low each = absurd (omega (arith, low))
at_entry n zero (up ∷ ups) d low each =
    let number = each.0 in
    let same : nat_eq up.cpu (n + 0) ≡ true = eq-eqb up.cpu (n + 0) (omega (arith, number)) in
    rw same refl
at_entry n (suc k) (up ∷ ups) d low each =
    let number = each.0 in
    let other : nat_eq up.cpu (n + suc k) ≡ false = grind (arith, nat_tests) in
    let on : n + 1 + k ≡ n + suc k = omega arith in
    rw other (at_entry (n + 1) k ups d (omega (arith, low)) each.1 ∙ ap (λ (i : ℕ). adjust_in i ups) on)

pub adjust_at : (cpu : ℕ) (ups : List CpuUp) (d : ℤ) → cpu < length ups + 1 → EachFrom (λ n up. up.cpu ≡ n) 1 ups
    → get_or (adjusts_of ups) cpu d ≡ adjust_in cpu ups
adjust_at zero ups d low each = sym (no_entry 0 1 ups (omega arith) each)
adjust_at (suc cpu) ups d low each =
    let on : 1 + cpu ≡ suc cpu = omega arith in
    at_entry 1 cpu ups d (omega (arith, low)) each ∙ ap (λ (i : ℕ). adjust_in i ups) on
