-- What each call shows, as the lines of a trace do: a stamp, a stable stamp, and a demotion. Each is told of what the
-- watchdog had before it and after it.
use Rattle.std.specs.Prelude.{◌≡◌, ℕ, ◌<◌, ℤ, pos, List, slice_index_or, Some}
use Rattle.clk_num.specs.Wrapping.{raise}
use Rattle.clk_ticket.specs.Time.{Time}
use Rattle.clk_machine.specs.Plan.{cpu_count}
use Rattle.clk_machine.specs.Time.{gtod_at}
use Rattle.clk_machine.specs.declared.reading.RawReading.{RawReading}
use Rattle.clk_record.specs.declared.stable.StableStamp.{StableStamp}
use Rattle.clk_record.specs.declared.stable.Demotion.{Demotion}
use Rattle.clk_record.specs.Demotions.{offset_by, IsDemotion}
use Rattle.clk_words.specs.Bounds.{IsGtod, IsRaw}
use Rattle.clk_words.specs.Histories.{opens_at}
use Rattle.clk_words.specs.Knowing.{IsGood}
use Rattle.clk_words.specs.Told.{offset_put, published}
use Rattle.clk_latch.specs.Epoch.{Epoch}
use Rattle.clk_latch.specs.Calls.{DrawsTicket}
use Rattle.clk_local.specs.Raising.{shown_on}
use Rattle.clk_demote.specs.Context.{Site, Known}
use Rattle.clk_demote.specs.Lifts.{lifts_of, lifted}
use Rattle.clk_demote.specs.Stamping.{ReadsAt, HasPair, pair_stored, pairs_stored}

-- the adjustment of a CPU's counter
abbrev pub adjust_at : Site → ℕ → ℤ
adjust_at z cpu = slice_index_or z.adjusts cpu (pos 0)

-- what a stamp draws and reads: a GTOD at a ticket, and then a raw reading of the CPU
pub record TakesStamp (z : Site) (cpu : ℕ) (v : Known) (gtod_ticket : ℕ) (gtod : ℤ) (raw : RawReading) (epochs : List Epoch) (time : Time) : Type 0 where
  pub middle : Time
  pub draws : DrawsTicket v.time gtod_ticket middle
  pub gtod_is : gtod ≡ gtod_at z.machine gtod_ticket
  pub draws_raw : DrawsTicket middle raw.ticket time
  pub reads : ReadsAt z.machine cpu (adjust_at z cpu) v.epochs epochs raw
  pub gtod_bound : IsGtod gtod
  pub raw_bound : IsRaw (opens_at v.view.start) raw.ns

-- a stamp that is stored as the pair of its CPU
pub record ShowsStamp (z : Site) (cpu : ℕ) (v : Known) (gtod_ticket : ℕ) (gtod : ℤ) (raw : RawReading) (w : Known) : Type 0 where
  pub takes : TakesStamp z cpu v gtod_ticket gtod raw w.epochs w.time
  pub view_is : w.view ≡ pair_stored cpu gtod raw.ns v.view

-- a stable stamp: that, and the offset, by which the watchdog goes from then on
pub record ShowsStableStamp (z : Site) (cpu : ℕ) (v : Known) (s : StableStamp) (w : Known) : Type 0 where
  pub takes : TakesStamp z cpu v s.gtod_ticket s.gtod s.raw w.epochs w.time
  pub offset_is : s.offset ≡ offset_by z.sched_offset s.gtod s.raw.ns
  pub view_is : w.view ≡ offset_put s.offset (pair_stored cpu s.gtod s.raw.ns v.view)
  pub offset_now : w.gtod_offset ≡ s.offset
  pub last_now : w.last ≡ s

-- a demotion: a stamp that is stored as the pair of its CPU and then of every CPU, a lift of each word to the opening,
-- and last the mode
pub record ShowsDemotion (z : Site) (cpu check : ℕ) (v : Known) (d : Demotion) (w : Known) : Type 0 where
  pub takes : TakesStamp z cpu v d.gtod_ticket d.gtod d.raw w.epochs w.time
  pub is : IsDemotion z.sched_offset v.gtod_offset v.last d
  pub view_is : w.view ≡ published (lifted (lifts_of v.view.number v.view.start check d.opening (cpu_count z.machine))
      (pairs_stored (cpu_count z.machine) d.gtod d.raw.ns (pair_stored cpu d.gtod d.raw.ns v.view)))
  pub good : IsGood w.view
  -- what that comes to
  pub pairs : (c : ℕ) → c < cpu_count z.machine → HasPair c d.gtod d.raw.ns w.view
  pub words : (c : ℕ) → c < cpu_count z.machine → shown_on c w.view ≡ raise (opens_at v.view.start) d.opening
  pub offset_stands : w.view.modes.offset ≡ Some d.gtod_offset
  pub offset_now : w.gtod_offset ≡ v.gtod_offset
  pub last_now : w.last ≡ v.last
