-- A demotion at boot: by the boot's last stamp and one of its own, with the tickets after the bring-up's.
use Rattle.std.proofs.Common.{◌≡◌, ℕ, suc, ◌+◌, ◌-◌, ◌*◌, ◌^◌, ◌<◌, ◌≤◌, true, ℤ, pos, ◌≤ℤ◌, List, [], ◌∷◌, ◌++◌, length, get_or, Option, Some, None, refl, ap, ◌∙◌, subst, arith, append_assoc}
use Rattle.std.specs.List.{All}
use Rattle.std.proofs.lemmas.Int.{ints}
use Rattle.std.proofs.lemmas.List.Elements.{All-head, All-tail}
use Rattle.clk_base.specs.declared.block.Block.{Block}
use Rattle.clk_base.specs.Blocks.{end_of, AllEndBy}
use Rattle.clk_num.specs.Range.{IsFrom0To}
use Rattle.clk_ticket.specs.Sizes.{size_of}
use Rattle.clk_ticket.specs.Time.{Tickets, Time}
use Rattle.clk_machine.specs.Plan.{Plan}
use Rattle.clk_machine.specs.Limits.{most_tickets, IsWithinLimits}
use Rattle.clk_machine.specs.Records.{record_zero, above_base, base_of, AreRecords}
use Rattle.clk_machine.specs.Tickets.{word_tickets, watch_tickets}
use Rattle.clk_machine.proofs.Bounds.{gtod_small}
use Rattle.clk_machine.proofs.Readings.{first_readings_are_small}
use Rattle.clk_record.specs.declared.up.CpuUp.{CpuUp}
use Rattle.clk_record.specs.declared.up.BroughtUp.{BroughtUp}
use Rattle.clk_record.specs.declared.stable.StableStamp.{StableStamp}
use Rattle.clk_record.specs.declared.stable.Demotion.{Demotion}
use Rattle.clk_record.specs.Demotions.{IsDemotion}
use Rattle.clk_words.specs.Bounds.{IsGtod, IsOpening}
use Rattle.clk_lawful.specs.Checks.{one}
use Rattle.clk_lawful.specs.TicketOrder.{boot_blocks, up_blocks}
use Rattle.clk_lawful.specs.Demoted.{boot_stamp}
use Rattle.clk_lawful.specs.RightReadings.{IsRightStamp}
use Rattle.clk_latch.specs.Epoch.{Epoch}
use Rattle.clk_threads.specs.Booting.{HasStamped, gtod_offset_of, sched_offset_of, opening_of, AreStamps, IsBootDemotion, IsDemotedAtBootBy, HasDrawnFirst, HasDrawnBefore, IsBootedFor, IsDemotedFor}
use Rattle.clk_threads.specs.declared.booted.Booted.{Booted}
use Rattle.clk_threads.proofs.Lasts.{some_stamps}
use Rattle.clk_threads.proofs.Stamping.{gtod_rises, opens_well, HasDrawn, stamp_draws}

-- ---- the stamp that it goes by

pub last_boot : (o : ℤ) (x d : StableStamp) (stamps : List StableStamp) → 0 < length stamps → All (λ (s : StableStamp). s.offset ≡ o) stamps
    → get_or stamps (length stamps - 1) d ≡ boot_stamp o x stamps
last_boot o x d [] some all = absurd (omega (arith, some))
last_boot o x d (s ∷ []) some all = ap (λ (z : ℤ). record s { offset = z }) (All-head (λ (t : StableStamp). t.offset ≡ o) s [] all)
last_boot o x d (s ∷ t ∷ stamps) some all =
    let next : length (s ∷ t ∷ stamps) - 1 ≡ suc (length (t ∷ stamps) - 1) = omega arith in
    ap (λ (i : ℕ). get_or (s ∷ t ∷ stamps) i d) next
    ∙ last_boot o s d (t ∷ stamps) (omega arith) (All-tail (λ (y : StableStamp). y.offset ≡ o) s (t ∷ stamps) all)

-- ---- the values of the first stamp

-- a right stamp by one of the run's tickets is small
pub record IsSmallStamp (m : Plan) (s : StableStamp) : Type 0 where
  pub gtod : IsGtod s.gtod
  pub raw : IsFrom0To (6 * 2 ^ 52) (above_base m s.raw.ns)

small_stamp : (m : Plan) (s : StableStamp) → IsWithinLimits m → IsRightStamp m s → s.gtod_ticket < most_tickets → s.raw.ticket < most_tickets → IsSmallStamp m s
small_stamp m s limits right gtod_low raw_low =
    let all : AreRecords m 0 (pos 0) (record_zero m ∷ []) = record { updates = []; all = refl; next = tt } in
    let number = right.1.number in
    let few = gtod_small m s.gtod_ticket limits.ranges gtod_low in
    record {
      gtod = rw right.0 (omega (arith, ints), omega (arith, ints, few));
      raw = first_readings_are_small m (record_zero m ∷ []) s.raw limits all (omega (arith, number)) raw_low right.1;
    }

-- the seat has seen past the tickets of the first stamp
pub record HasPassed (s : StableStamp) (seen : ℕ) : Type 0 where
  pub gtod : s.gtod_ticket < seen
  pub raw : s.raw.ticket < seen

first_passed : (seen : ℕ) (s : StableStamp) (bs : List Block) → AllEndBy seen (one 0 ∷ one s.gtod_ticket ∷ one s.raw.ticket ∷ bs) → HasPassed s seen
first_passed seen s bs ends =
    let P : Block → Type 0 = λ b. end_of b ≤ seen in
    let rest = All-tail P (one 0) (one s.gtod_ticket ∷ one s.raw.ticket ∷ bs) ends in
    let gtod = All-head P (one s.gtod_ticket) (one s.raw.ticket ∷ bs) rest in
    let raw = All-head P (one s.raw.ticket) bs (All-tail P (one s.gtod_ticket) (one s.raw.ticket ∷ bs) rest) in
    record { gtod = omega (arith, gtod); raw = omega (arith, raw) }

-- ---- the demotion

-- it took this stamp, and goes by the last one of the boot
pub record IsTakenBy (m : Plan) (stamps : List StableStamp) (s : StableStamp) (d : Demotion) : Type 0 where
  pub ticket : d.gtod_ticket ≡ s.gtod_ticket
  pub gtod : d.gtod ≡ s.gtod
  pub raw : d.raw ≡ s.raw
  pub is : (x : StableStamp) → IsDemotion (sched_offset_of m stamps) (gtod_offset_of stamps) (boot_stamp (gtod_offset_of stamps) x stamps) d

demotes : (m : Plan) (tickets : Tickets) (ups : List CpuUp) (stamps : List StableStamp) (before after : Time) (epoch : Epoch) (s : StableStamp) (d : Demotion)
    → IsWithinLimits m → AreStamps m stamps → HasDrawnFirst tickets stamps ups before → HasStamped m before after epoch s → IsTakenBy m stamps s d
    → IsBootDemotion m stamps d
demotes m tickets ups [] before after epoch s d limits are drawn h t = absurd (let some = some_stamps m.stable 0 are.count in omega (arith, some))
demotes m tickets ups (first ∷ stamps) before after epoch s d limits are drawn h t =
    let passed = first_passed before.seen first _ (subst (AllEndBy before.seen) drawn.blocks drawn.ends) in
    let gtod_passed = passed.gtod in
    let raw_passed = passed.raw in
    let within = drawn.within in
    let right = All-head (IsRightStamp m) first stamps are.right in
    let small = small_stamp m first limits right (omega (arith, gtod_passed, within)) (omega (arith, raw_passed, within)) in
    let later = h.first.later in
    let order : first.gtod ≤ℤ s.gtod = rw (right.0, h.right.0) (gtod_rises m first.gtod_ticket s.gtod_ticket (omega (arith, gtod_passed, later))) in
    let well = opens_well (base_of m) first.raw.ns first.gtod s.raw.ns s.gtod small.raw h.raw_small small.gtod h.gtod_small order in
    record {
      right = rw (t.ticket, t.gtod, t.raw) h.right;
      is = t.is;
      opening = record { gtod = rw t.gtod h.gtod_small; raw = rw (t.gtod, t.raw) well.raw_near };
      near = rw t.gtod well.near;
    }

-- its tickets are the next two
drawn_before : (m : Plan) (tickets : Tickets) (ups : List CpuUp) (stamps : List StableStamp) (before after : Time) (epoch : Epoch) (s : StableStamp) (d : Demotion)
    → HasDrawnFirst tickets stamps ups before → 2 ≤ before.left → HasStamped m before after epoch s → d.gtod_ticket ≡ s.gtod_ticket → d.raw ≡ s.raw
    → HasDrawnBefore tickets stamps ups (Some d) after × (after.left + 2 ≡ before.left)
drawn_before m tickets ups stamps before after epoch s d drawn some h ticket raw =
    let share = drawn.share in
    let had : HasDrawn tickets before.blocks (size_of before.blocks) before = record {
      table = drawn.table;
      blocks = refl;
      left = share;
      share = share;
      rises = drawn.rises;
      ends = drawn.ends;
      within = drawn.within;
    } in
    let has = stamp_draws tickets before.blocks (size_of before.blocks) m before after epoch s (omega (arith, share, some)) had h in
    let left = has.left in
    let booted : List Block = boot_blocks 0 stamps in
    let own : List Block = one s.gtod_ticket ∷ one s.raw.ticket ∷ [] in
    let blocks : after.blocks ≡ (booted ++ up_blocks ups) ++ own =
    has.blocks ∙ append_assoc before.blocks (one s.gtod_ticket ∷ []) (one s.raw.ticket ∷ []) ∙ ap (λ (bs : List Block). bs ++ own) drawn.blocks in (
      record {
        table = has.table;
        blocks = rw (ticket, raw) blocks;
        share = has.share;
        rises = has.rises;
        ends = has.ends;
        within = has.within;
      },
      omega (arith, left, share),
    )

-- where one did
pub is_demoted : (m : Plan) (up : BroughtUp) (b : Booted) (after : Time) (epoch : Epoch) (s : StableStamp) (d : Demotion)
    → m.stable ≡ true → up.failed ≡ true → IsBootedFor m up b → HasStamped m b.time after epoch s → IsTakenBy m b.stamps.items s d
    → IsDemotedFor m up (Some d) (record b { time = after })
is_demoted m up b after epoch s d stable failed h stamped taken =
    let boot = h.boot in
    let left : 2 + (word_tickets m + watch_tickets m m.watchdog) ≤ b.time.left = rw (stable, failed) at h.left in
    let drawn = drawn_before m b.tickets up.cpus.items b.stamps.items b.time after epoch s d h.drawn (omega (arith, left)) stamped taken.ticket taken.raw in
    let spent = drawn.1 in
    record {
      boot = record {
        limits = boot.limits;
        machine = boot.machine;
        total = boot.total;
        epoch = boot.epoch;
        stamps = boot.stamps;
        sched_offset = boot.sched_offset;
        gtod_offset = boot.gtod_offset;
      };
      fits = record {
        called = rw (stable, failed) refl;
        is = λ e same. subst (IsBootDemotion m b.stamps.items) (some_is d e same) (demotes m b.tickets up.cpus.items b.stamps.items b.time after epoch s d boot.limits boot.stamps h.drawn stamped taken);
      };
      drawn = drawn.0;
      left = omega (arith, left, spent);
    }
  where
    some_is : (x y : Demotion) → Some x ≡ Some y → x ≡ y
    some_is x y e = cc

-- ---- the opening

pub opens : (m : Plan) (stamps : List StableStamp) (demotion : Option Demotion) → AreStamps m stamps → IsDemotedAtBootBy m stamps demotion
    → IsOpening (opening_of m stamps demotion)
opens m stamps None are by = are.opening
opens m stamps (Some d) are by = (by d refl).opening
