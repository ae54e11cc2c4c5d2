-- Sound seats stay sound, and those that own a clock own it still.
use Rattle.std.proofs.Common.{◌≡◌, ℕ, ◌<◌, ℤ, pos, true, refl, get_or, List, [], ◌∷◌, length, ap, ◌∙◌, sym, subst, arith}
use Rattle.std.proofs.lemmas.List.{get_or_append_left}
use mathlib.Core.List.{IsPrefix}
use Rattle.clk_base.specs.declared.block.Block.{Block}
use Rattle.clk_base.specs.Blocks.{Rises}
use Rattle.clk_ticket.specs.Time.{Time, Draws, share_of}
use Rattle.clk_machine.specs.Plan.{Plan}
use Rattle.clk_machine.specs.Records.{base_of, AreRecords}
use Rattle.clk_machine.specs.declared.reading.RawReading.{RawReading}
use Rattle.clk_machine.specs.declared.reading.Published.{Published}
use Rattle.clk_latch.specs.Epoch.{Epoch}
use Rattle.clk_latch.specs.Calls.{AreDrawn, DrawsTicket, Reads, Updates}
use Rattle.clk_latch.proofs.Staying.{stay_drawn}
use Rattle.clk_local.specs.Context.{Site, Known, BeginsAtBase}
use Rattle.clk_local.specs.Shows.{ReadsRaw, ShowsStamp}
use Rattle.clk_worker.specs.Running.{at_call, IsSound}

-- ---- records that begin at the machine's base

-- those of a counter do
pub sound_base : (m : Plan) (cpu : ℕ) (adjust : ℤ) (epoch : Epoch) → AreRecords m cpu adjust epoch.records → BeginsAtBase m epoch
sound_base m cpu adjust epoch r = record { zero = λ d. ap (λ ps. (get_or ps 0 d).ns) r.all }

-- there are some
has_some : (m : Plan) (ps : List Published) → ((d : Published) → (get_or ps 0 d).ns ≡ base_of m) → 0 < length ps
has_some m [] zero =
    let none = zero (record { rec = 0; ticket = 0; cyc = 0; ns = pos 0 }) in
    let one = zero (record { rec = 0; ticket = 0; cyc = 0; ns = pos 1 }) in
    absurd (cc)
has_some m (p ∷ ps) zero = omega arith

-- and so do more of them
base_more : (m : Plan) (e after : Epoch) → IsPrefix e.records after.records → BeginsAtBase m e → BeginsAtBase m after
base_more m e after begins b =
    record {
      zero = λ d.
          ap (λ ps. (get_or ps 0 d).ns) (sym begins.1)
          ∙ ap (λ (p : Published). p.ns) (get_or_append_left e.records begins.0 d 0 (has_some m e.records b.zero))
          ∙ b.zero d;
    }

-- ---- any thread's seats

-- whatever the view is
pub same_sound : (z : Site) (share : ℕ) (v w : Known) → w.epoch ≡ v.epoch → w.time ≡ v.time → IsSound z share v → IsSound z share w
same_sound z share v w epoch time s =
    record {
      base = subst (BeginsAtBase z.machine) (sym epoch) s.base;
      share_is = ap (λ (t : Time). share_of t) time ∙ s.share_is;
      rises = subst (λ (t : Time). Rises t.blocks) (sym time) s.rises;
    }

-- after a draw
pub draws_sound : (z : Site) (share : ℕ) (v : Known) (after : Time) (first n : ℕ) → IsSound z share v → Draws v.time first n after → IsSound z share (record v { time = after })
draws_sound z share v after first n s d = record { base = s.base; share_is = d.share ∙ s.share_is; rises = d.rises s.rises }

-- after a raw reading
pub reads_sound : (z : Site) (share : ℕ) (v : Known) (after : Epoch) (raw : RawReading) → IsSound z share v → Reads z.machine z.cpu z.adjust v.epoch after raw
    → IsSound z share (record v { epoch = after })
reads_sound z share v after raw s reads =
    record { base = base_more z.machine v.epoch after reads.seen s.base; share_is = s.share_is; rises = s.rises }

-- after an update
pub updates_sound : (z : Site) (share : ℕ) (v : Known) (after : Epoch) (later : Time) (p : Published) → IsSound z share v
    → Updates z.machine z.cpu z.adjust v.epoch after p → DrawsTicket v.time p.ticket later
    → IsSound z share (record v { epoch = after; time = later })
updates_sound z share v after later p s updates d =
    record { base = sound_base z.machine z.cpu z.adjust after updates.records; share_is = d.share ∙ s.share_is; rises = d.rises s.rises }

-- after a reading
pub reading_sound : (z : Site) (share call : ℕ) (v w : Known) (raw : RawReading) → IsSound z share v → ReadsRaw (at_call z call) v v.time raw w → IsSound z share w
reading_sound z share call v w raw s h =
    let drawn = draws_sound z share v w.time raw.ticket 1 s h.draws in
    same_sound z share (record v { time = w.time; epoch = w.epoch }) w refl refl (reads_sound z share (record v { time = w.time }) w.epoch raw drawn h.reads)

pub stamp_sound : (z : Site) (share call : ℕ) (v w : Known) (gtod_ticket : ℕ) (gtod : ℤ) (stamp : RawReading) → IsSound z share v
    → ShowsStamp (at_call z call) v gtod_ticket gtod stamp w → IsSound z share w
stamp_sound z share call v w gtod_ticket gtod stamp s h =
    let first = draws_sound z share v h.middle gtod_ticket 1 s h.draws in
    let second = draws_sound z share (record v { time = h.middle }) w.time stamp.ticket 1 first h.reads.draws in
    same_sound z share (record v { time = w.time; epoch = w.epoch }) w refl refl (reads_sound z share (record v { time = w.time }) w.epoch stamp second h.reads.reads)

-- ---- an owner's seats at the latch and the tickets

pub record OwnsLatch (z : Site) (v : Known) : Type 0 where
  pub owner : v.epoch.owner ≡ true
  pub records : AreRecords z.machine z.cpu z.adjust v.epoch.records
  pub drawn : AreDrawn v.time.blocks v.epoch.records

-- whatever the view is
pub same_latch : (z : Site) (v w : Known) → w.epoch ≡ v.epoch → w.time ≡ v.time → OwnsLatch z v → OwnsLatch z w
same_latch z v w epoch time s =
    record {
      owner = ap (λ (e : Epoch). e.owner) epoch ∙ s.owner;
      records = subst (λ (e : Epoch). AreRecords z.machine z.cpu z.adjust e.records) (sym epoch) s.records;
      drawn = subst (λ (t : Time). AreDrawn t.blocks w.epoch.records) (sym time) (subst (λ (e : Epoch). AreDrawn v.time.blocks e.records) (sym epoch) s.drawn);
    }

-- after a draw
pub draws_latch : (z : Site) (v : Known) (after : Time) (first n : ℕ) → OwnsLatch z v → Draws v.time first n after → OwnsLatch z (record v { time = after })
draws_latch z v after first n s d =
    record {
      owner = s.owner;
      records = s.records;
      drawn =
          subst (λ (bs : List Block). AreDrawn bs v.epoch.records) (sym (ap (λ (x : Time). x.blocks) d.is))
          (stay_drawn [] v.time.blocks (record { first = first; count = n } ∷ []) v.epoch.records s.drawn);
    }

-- after a raw reading, by which an owner sees no new record
pub reads_latch : (z : Site) (v : Known) (after : Epoch) (raw : RawReading) → OwnsLatch z v → Reads z.machine z.cpu z.adjust v.epoch after raw
    → OwnsLatch z (record v { epoch = after })
reads_latch z v after raw s reads =
    let same : after.records ≡ v.epoch.records = reads.owner s.owner in
    record {
      owner = reads.kept.0 ∙ s.owner;
      records = subst (AreRecords z.machine z.cpu z.adjust) (sym same) s.records;
      drawn = subst (AreDrawn v.time.blocks) (sym same) s.drawn;
    }

pub reading_latch : (z : Site) (call : ℕ) (v w : Known) (raw : RawReading) → ReadsRaw (at_call z call) v v.time raw w → OwnsLatch z v → OwnsLatch z w
reading_latch z call v w raw h s =
    let drawn = draws_latch z v w.time raw.ticket 1 s h.draws in
    same_latch z (record v { time = w.time; epoch = w.epoch }) w refl refl (reads_latch z (record v { time = w.time }) w.epoch raw drawn h.reads)

pub stamp_latch : (z : Site) (call : ℕ) (v w : Known) (gtod_ticket : ℕ) (gtod : ℤ) (stamp : RawReading) → ShowsStamp (at_call z call) v gtod_ticket gtod stamp w
    → OwnsLatch z v → OwnsLatch z w
stamp_latch z call v w gtod_ticket gtod stamp h s =
    let first = draws_latch z v h.middle gtod_ticket 1 s h.draws in
    let second = draws_latch z (record v { time = h.middle }) w.time stamp.ticket 1 first h.reads.draws in
    same_latch z (record v { time = w.time; epoch = w.epoch }) w refl refl (reads_latch z (record v { time = w.time }) w.epoch stamp second h.reads.reads)
