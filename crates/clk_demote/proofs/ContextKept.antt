-- What the calls keep: latches that begin at the base, readings near the opening, and a context that may be used again.
use Rattle.std.proofs.Common.{◌≡◌, ℕ, ◌*◌, ◌^◌, ◌<◌, ℤ, Some, List, length, map, All, sym, ap, ◌∙◌, subst}
use Rattle.std.specs.List.{AllZip}
use Rattle.std.proofs.lemmas.List.{length-map}
use Rattle.std.proofs.lemmas.List.Elements.{All-get_or, All-set}
use Rattle.std.proofs.lemmas.Slice.Zip.{AllZip-long}
use Rattle.clk_num.specs.Listed.{Listed}
use Rattle.clk_num.specs.Range.{IsNear, IsFrom0To}
use Rattle.clk_num.specs.Wrapping.{above}
use Rattle.clk_ticket.specs.Time.{Time}
use Rattle.clk_machine.specs.Plan.{Plan, cpu_count}
use Rattle.clk_machine.specs.Records.{record_zero, base_of, above_base}
use Rattle.clk_machine.specs.declared.reading.RawReading.{RawReading}
use Rattle.clk_record.specs.declared.stable.StableStamp.{StableStamp}
use Rattle.clk_record.specs.Demotions.{offset_by}
use Rattle.clk_words.specs.declared.opening.Start.{Start}
use Rattle.clk_words.specs.declared.view.View.{View}
use Rattle.clk_words.specs.Bounds.{IsGtod, IsRaw, IsOffset}
use Rattle.clk_words.specs.Held.{Held, place_of}
use Rattle.clk_words.specs.Histories.{opens_at, has_lift}
use Rattle.clk_latch.specs.Epoch.{Epoch}
use Rattle.clk_local.specs.Context.{BeginsAtBase}
use Rattle.clk_local.proofs.Raising.{raw_near, still_base}
use Rattle.clk_demote.specs.declared.context.WatchCtx.{WatchCtx}
use Rattle.clk_demote.specs.Context.{IsUnlifted, IsUsable}
use Rattle.clk_demote.specs.Stamping.{ReadsAt, epoch_at}
use Rattle.clk_demote.proofs.Shifting.{offset_near}

-- ---- latches

begins_at : (m : Plan) (cpu : ℕ) (epochs : List Epoch) → cpu < length epochs → All (BeginsAtBase m) epochs → BeginsAtBase m (epoch_at epochs cpu)
begins_at m cpu epochs low base = All-get_or (BeginsAtBase m) epochs cpu _ low base

-- a reading leaves each record 0 as it was
pub still_begins : (m : Plan) (cpu : ℕ) (adjust : ℤ) (before after : List Epoch) (r : RawReading) → cpu < length before → ReadsAt m cpu adjust before after r
    → All (BeginsAtBase m) before → All (BeginsAtBase m) after
still_begins m cpu adjust before after r low reads base =
    subst (All (BeginsAtBase m)) (sym reads.after_is)
    (All-set (BeginsAtBase m) before cpu reads.epoch (still_base m cpu adjust (epoch_at before cpu) reads.epoch r reads.reads (begins_at m cpu before low base)) base)

-- it is near the opening of the words
pub raw_here : (m : Plan) (cpu : ℕ) (adjust : ℤ) (before after : List Epoch) (r : RawReading) (opens : ℤ) → cpu < length before → ReadsAt m cpu adjust before after r
    → All (BeginsAtBase m) before → IsFrom0To (2 ^ 57) (above_base m opens) → IsRaw opens r.ns
raw_here m cpu adjust before after r opens low reads base opening =
    raw_near m cpu adjust (epoch_at before cpu) reads.epoch r opens reads.reads (begins_at m cpu before low base) opening

-- and so is the offset that a stable stamp has by it
pub offset_here : (m : Plan) (cpu : ℕ) (adjust : ℤ) (before after : List Epoch) (r : RawReading) (opens sched gtod : ℤ) → cpu < length before
    → ReadsAt m cpu adjust before after r → All (BeginsAtBase m) before → IsFrom0To (2 ^ 57) (above_base m opens) → IsNear 57 sched → IsGtod gtod
    → IsOffset opens (offset_by sched gtod r.ns)
offset_here m cpu adjust before after r opens sched gtod low reads base opening near bound =
    let zero = record_zero m in
    let same = (still_base m cpu adjust (epoch_at before cpu) reads.epoch r reads.reads (begins_at m cpu before low base)).zero zero in
    offset_near (base_of m) opens r.ns sched gtod opening (subst (λ x. IsFrom0To (11 * 2 ^ 55) (above r.ns x)) same (reads.reads.bound zero)) near bound

-- there is one latch seat for each CPU
pub seats_count : {E S : Type 0} (fits : E → S → Type 0) (epoch : S → Epoch) (ctx : WatchCtx E S) → IsUsable fits epoch ctx
    → length (map epoch ctx.latch_seats.items) ≡ cpu_count ctx.machine.now
seats_count fits epoch ctx usable =
    length-map ctx.latch_seats.items epoch ∙ AllZip-long fits ctx.epochs.now.items ctx.latch_seats.items usable.seated.of_latches ∙ usable.of_machine.latches

-- ---- a context

pub still_unlifted : (v w : View) → w.start ≡ v.start → w.seen ≡ v.seen → IsUnlifted v → IsUnlifted w
still_unlifted v w start seen none = λ k low. ap (λ ss. has_lift ss k) seen ∙ none k (subst (λ (s : Start). k < s.cpus) start low)

-- seats that went on, with an offset and its stamp, may be used again
pub still_usable : {E S : Type 0} (fits : E → S → Type 0) (epoch : S → Epoch) (ctx : WatchCtx E S) (seat : Held) (latch_seats : Listed S) (time : Time) (gtod_offset : ℤ) (last : StableStamp)
    → IsUsable fits epoch ctx → place_of seat ≡ ctx.words.now → AllZip fits ctx.epochs.now.items latch_seats.items → time.table ≡ ctx.time.table
    → seat.view.start ≡ ctx.seat.view.start → seat.view.seen ≡ ctx.seat.view.seen
    → seat.view.modes.held ≡ Some gtod_offset → gtod_offset ≡ offset_by ctx.sched_offset last.gtod last.raw.ns
    → All (BeginsAtBase ctx.machine.now) (map epoch latch_seats.items)
    → IsUsable fits epoch (record ctx { seat = seat; latch_seats = latch_seats; time = time; gtod_offset = gtod_offset; last = last })
still_usable fits epoch ctx seat latch_seats time gtod_offset last usable place latches table start seen held by_last base = record {
  seated = record { of_words = place; of_latches = latches; of_tickets = table ∙ usable.seated.of_tickets };
  of_machine = record { words = usable.of_machine.words; latches = usable.of_machine.latches; adjusts = usable.of_machine.adjusts };
  adjusts = usable.adjusts;
  sched_offset = usable.sched_offset;
  held = held;
  by_last = by_last;
  unlifted = still_unlifted ctx.seat.view seat.view start seen usable.unlifted;
  base = base;
  opening = subst (λ (s : Start). IsFrom0To (2 ^ 57) (above_base ctx.machine.now (opens_at s))) (sym start) usable.opening;
}
