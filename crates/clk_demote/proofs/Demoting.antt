-- What a demotion shows, put together from its stamp and from the end of the stable mode.
use Rattle.std.proofs.Common.{◌≡◌, ℕ, ℤ, Some, ap, sym, ◌∙◌, subst}
use Rattle.clk_machine.specs.Plan.{cpu_count}
use Rattle.clk_machine.specs.declared.reading.RawReading.{RawReading}
use Rattle.clk_record.specs.declared.stable.Demotion.{Demotion}
use Rattle.clk_record.specs.declared.stable.StableStamp.{StableStamp}
use Rattle.clk_record.specs.Demotions.{IsDemotion}
use Rattle.clk_words.specs.declared.view.View.{View}
use Rattle.clk_words.specs.Knowing.{IsGood}
use Rattle.clk_words.specs.Told.{published}
use Rattle.clk_demote.specs.Context.{Site, Known}
use Rattle.clk_demote.specs.Lifts.{lifts_of, lifted}
use Rattle.clk_demote.specs.Shows.{TakesStamp, ShowsStamp, ShowsDemotion}
use Rattle.clk_demote.specs.Stamping.{with_pair, pair_stored, pairs_stored}
use Rattle.clk_demote.proofs.Copying.{pairs_keep, has_pair}
use Rattle.clk_demote.proofs.Lifting.{words_raised}

-- a demotion by what still stood
pub still_demotion : (sched_offset gtod_offset was_sched was_gtod : ℤ) (stable was : StableStamp) (d : Demotion) → IsDemotion sched_offset gtod_offset stable d
    → sched_offset ≡ was_sched → gtod_offset ≡ was_gtod → stable ≡ was → IsDemotion was_sched was_gtod was d
still_demotion sched_offset gtod_offset was_sched was_gtod stable was d is e f g = record {
  stable_is = is.stable_is ∙ g;
  sched_offset_is = is.sched_offset_is ∙ e;
  gtod_offset_is = is.gtod_offset_is ∙ f;
  opening_is = is.opening_is;
  drift_is = is.drift_is;
}

-- the stamp of a demotion is the one that was taken
takes_as : (z : Site) (cpu : ℕ) (v mid : Known) (gtod_ticket : ℕ) (gtod : ℤ) (raw : RawReading) (d : Demotion) → TakesStamp z cpu v gtod_ticket gtod raw mid.epochs mid.time
    → d.gtod_ticket ≡ gtod_ticket → d.gtod ≡ gtod → d.raw ≡ raw → TakesStamp z cpu v d.gtod_ticket d.gtod d.raw mid.epochs mid.time
takes_as z cpu v mid gtod_ticket gtod raw d takes same_ticket same_gtod same_raw =
    subst (λ x. TakesStamp z cpu v x d.gtod d.raw mid.epochs mid.time) (sym same_ticket)
    (subst (λ x. TakesStamp z cpu v gtod_ticket x d.raw mid.epochs mid.time) (sym same_gtod)
    (subst (λ x. TakesStamp z cpu v gtod_ticket gtod x mid.epochs mid.time) (sym same_raw) takes))

pub shows_demotion : (z : Site) (cpu check n : ℕ) (v mid : Known) (gtod_ticket : ℕ) (gtod : ℤ) (raw : RawReading) (d : Demotion) (w : View)
    → ShowsStamp z cpu v gtod_ticket gtod raw mid → d.gtod_ticket ≡ gtod_ticket → d.gtod ≡ gtod → d.raw ≡ raw
    → IsDemotion z.sched_offset v.gtod_offset v.last d → v.view.modes.held ≡ Some v.gtod_offset → mid.gtod_offset ≡ v.gtod_offset → mid.last ≡ v.last
    → n ≡ cpu_count z.machine
    → w ≡ published (lifted (lifts_of mid.view.number mid.view.start check d.opening n) (pairs_stored n d.gtod d.raw.ns mid.view)) → IsGood w
    → ShowsDemotion z cpu check v d (record mid { view = w })
shows_demotion z cpu check n v mid gtod_ticket gtod raw d w stamps same_ticket same_gtod same_raw is held offset last count ended good = record {
  takes = takes_as z cpu v mid gtod_ticket gtod raw d stamps.takes same_ticket same_gtod same_raw;
  is = is;
  view_is = view;
  good = good;
  pairs = λ c low. has_pair (cpu_count z.machine) d.gtod d.raw.ns (with_pair cpu d.gtod d.raw.ns v.view.modes) w c (ap (λ (u : View). u.pairs.parts) view) low;
  words = λ c low. words_raised v.view w check d.opening (cpu_count z.machine) c (ap (λ (u : View). u.start) view) (ap (λ (u : View). u.seen) view) low;
  offset_stands = ap (λ (u : View). u.modes.offset) view
      ∙ (pairs_keep (cpu_count z.machine) d.gtod d.raw.ns (with_pair cpu d.gtod d.raw.ns v.view.modes)).2
      ∙ held ∙ ap Some (sym is.gtod_offset_is);
  offset_now = offset;
  last_now = last;
}
  where
    stored : mid.view ≡ pair_stored cpu d.gtod d.raw.ns v.view
    stored =
        stamps.view_is
        ∙ ap (λ x. pair_stored cpu x raw.ns v.view) (sym same_gtod)
        ∙ ap (λ (x : RawReading). pair_stored cpu d.gtod x.ns v.view) (sym same_raw)

    view : w ≡ published (lifted (lifts_of v.view.number v.view.start check d.opening (cpu_count z.machine))
        (pairs_stored (cpu_count z.machine) d.gtod d.raw.ns (pair_stored cpu d.gtod d.raw.ns v.view)))
    view =
        ended
        ∙ ap (λ (u : View). published (lifted (lifts_of u.number u.start check d.opening n) (pairs_stored n d.gtod d.raw.ns u))) stored
        ∙ ap (λ k. published (lifted (lifts_of v.view.number v.view.start check d.opening k) (pairs_stored k d.gtod d.raw.ns (pair_stored cpu d.gtod d.raw.ns v.view)))) count
