-- The parts of a watchdog, and the context of its calls.
use Rattle.std.proofs.Common.{◌≡◌, ◌^◌, ◌≤◌, ℤ, Option, Some, None, [], map, length, refl, sym, ◌∙◌, ap, subst}
use Rattle.std.specs.List.{All, AllZip}
use Rattle.clk_num.specs.Listed.{Listed}
use Rattle.clk_num.specs.Range.{IsNear, IsFrom0To}
use Rattle.clk_ticket.specs.Time.{Tickets, Time}
use Rattle.clk_machine.specs.Plan.{Plan, cpu_count}
use Rattle.clk_machine.specs.Limits.{IsWithinLimits}
use Rattle.clk_machine.specs.Records.{above_base}
use Rattle.clk_record.specs.declared.stable.StableStamp.{StableStamp}
use Rattle.clk_record.specs.declared.stable.Demotion.{Demotion}
use Rattle.clk_record.specs.Demotions.{offset_by}
use Rattle.clk_words.specs.Held.{Held, place_of}
use Rattle.clk_words.specs.Held.{Place as WordsPlace}
use Rattle.clk_words.specs.Histories.{opens_at}
use Rattle.clk_words.specs.Knowing.{MayDemote}
use Rattle.clk_lawful.specs.Checks.{listed}
use Rattle.clk_lawful.specs.declared.trace.WatchTrace.{WatchTrace}
use Rattle.clk_latch.specs.Epoch.{Place}
use Rattle.clk_local.specs.Context.{BeginsAtBase}
use Rattle.clk_demote.specs.Context.{site_of, IsUnlifted, Keeps}
use Rattle.clk_worker.specs.declared.shared.Shared.{Shared}
use Rattle.clk_watcher.specs.Calling.{Context, known, HasPartsOf, IsContext, Stands, IsStable}
use Rattle.clk_watcher.specs.Making.{site_at, has, SeatsServe}
use Rattle.clk_watcher.specs.Making.{IsStable as IsStableAt}
use Rattle.clk_watcher.specs.declared.parts.WatchParts.{WatchParts}

-- ---- from parts to a context

pub site_is : (s : Shared) (p : WatchParts) (ctx : Context) → IsContext s p ctx → site_of ctx ≡ site_at s p
site_is s p ctx c =
    ap (λ m. record { machine = m; adjusts = ctx.adjusts.now.items; sched_offset = ctx.sched_offset }) c.machine
    ∙ ap (λ (l : Listed ℤ). record { machine = s.machine; adjusts = l.items; sched_offset = ctx.sched_offset }) c.adjusts
    ∙ ap (λ x. record { machine = s.machine; adjusts = s.adjusts.items; sched_offset = x }) (sym c.parts.sched_offset)

pub known_is : (p : WatchParts) (ctx : Context) → HasPartsOf ctx p → known ctx ≡ has p
known_is p ctx h =
    ap (λ (x : Held). record { view = x.view; epochs = map (λ y. y.epoch) ctx.latch_seats.items; time = ctx.time; gtod_offset = ctx.gtod_offset; last = ctx.last }) (sym h.seat)
    ∙ ap (λ (x : Listed Place). record { view = p.seat.view; epochs = map (λ y. y.epoch) x.items; time = ctx.time; gtod_offset = ctx.gtod_offset; last = ctx.last }) (sym h.latch_seats)
    ∙ ap (λ (x : Time). record { view = p.seat.view; epochs = map (λ y. y.epoch) p.latch_seats.items; time = x; gtod_offset = ctx.gtod_offset; last = ctx.last }) (sym h.time)
    ∙ ap (λ x. record { view = p.seat.view; epochs = map (λ y. y.epoch) p.latch_seats.items; time = p.time; gtod_offset = x; last = ctx.last }) (sym h.gtod_offset)
    ∙ ap (λ (x : StableStamp). record { view = p.seat.view; epochs = map (λ y. y.epoch) p.latch_seats.items; time = p.time; gtod_offset = p.gtod_offset; last = x }) (sym h.last)

pub stands_at : (s : Shared) (p : WatchParts) (w : WatchTrace) (ctx : Context) → SeatsServe s p w → IsContext s p ctx → Stands ctx w
stands_at s p w ctx h c = record {
  limits = subst IsWithinLimits (sym c.machine) h.limits;
  seated = record {
    of_words = ap place_of (sym c.parts.seat) ∙ h.of_words ∙ sym c.words;
    of_latches =
        subst (λ xs. AllZip (λ l x. x.latch ≡ l) xs ctx.latch_seats.items) (sym (ap (λ (x : Listed _). x.items) c.epochs))
        (subst (λ (x : Listed Place). AllZip (λ l y. y.latch ≡ l) s.epochs.items x.items) c.parts.latch_seats h.of_latches);
    of_tickets = ap (λ (t : Time). t.table) (sym c.parts.time) ∙ h.of_tickets ∙ ap (λ (x : Tickets). x.table) (sym c.tickets);
  };
  of_machine = record {
    words = ap (λ (x : WordsPlace). x.start.cpus) c.words ∙ h.cpus ∙ ap cpu_count (sym c.machine);
    latches = ap (λ (x : Listed _). length x.items) c.epochs ∙ h.latches ∙ ap cpu_count (sym c.machine);
    adjusts = ap (λ (x : Listed ℤ). length x.items) c.adjusts ∙ h.adjusts ∙ ap cpu_count (sym c.machine);
  };
  adjusts = subst (λ (x : Listed ℤ). All (IsNear 47) x.items) (sym c.adjusts) h.near;
  watched = h.watched ∙ sym c.machine;
  few = h.few;
}

pub stable_here : (s : Shared) (p : WatchParts) (w : WatchTrace) (ctx : Context) → SeatsServe s p w → IsContext s p ctx → IsStableAt s p w → IsStable ctx w
stable_here s p w ctx h c e =
    let stands = stands_at s p w ctx h c in
    record {
      usable = record {
        seated = stands.seated;
        of_machine = stands.of_machine;
        adjusts = stands.adjusts;
        sched_offset = subst (IsNear 57) c.parts.sched_offset e.sched_offset;
        held = ap (λ (x : Held). x.view.modes.held) (sym c.parts.seat) ∙ e.held ∙ ap Some c.parts.gtod_offset;
        by_last =
            sym c.parts.gtod_offset ∙ e.by_last ∙ ap (λ x. offset_by x p.last.gtod p.last.raw.ns) c.parts.sched_offset
            ∙ ap (λ (x : StableStamp). offset_by ctx.sched_offset x.gtod x.raw.ns) c.parts.last;
        unlifted = subst (λ (x : Held). IsUnlifted x.view) c.parts.seat e.unlifted;
        base =
            subst (λ (m : Plan). All (BeginsAtBase m) (map (λ y. y.epoch) ctx.latch_seats.items)) (sym c.machine)
            (subst (λ (x : Listed Place). All (BeginsAtBase s.machine) (map (λ y. y.epoch) x.items)) c.parts.latch_seats e.base);
        opening =
            subst (λ (m : Plan). IsFrom0To (2 ^ 57) (above_base m (opens_at ctx.seat.view.start))) (sym c.machine)
            (subst (λ (x : Held). IsFrom0To (2 ^ 57) (above_base s.machine (opens_at x.view.start))) c.parts.seat e.opening);
      };
      may = subst (λ (x : Held). MayDemote x.view) c.parts.seat e.may;
      room = subst (λ (m : Plan). cpu_count m ≤ w.lifts.room) (sym c.machine) e.room;
      none_yet = ap listed e.none_yet;
    }

-- ---- and back

pub context_kept : (s : Shared) (p q : WatchParts) (v w : Context) → IsContext s p v → Keeps v w → HasPartsOf w q → IsContext s q w
context_kept s p q v w c k h = record {
  parts = h;
  words = k.words ∙ c.words;
  epochs = k.epochs ∙ c.epochs;
  adjusts = k.adjusts ∙ c.adjusts;
  tickets = k.tickets ∙ c.tickets;
  machine = k.machine ∙ c.machine;
}

pub serves_back : (s : Shared) (p q : WatchParts) (a b : WatchTrace) (w : Context) → SeatsServe s p a → IsContext s q w → Stands w b → SeatsServe s q b
serves_back s p q a b w h c stands = record {
  limits = h.limits;
  cpus = h.cpus;
  latches = h.latches;
  adjusts = h.adjusts;
  near = h.near;
  of_words = ap place_of c.parts.seat ∙ stands.seated.of_words ∙ c.words;
  of_latches =
      subst (λ xs. AllZip (λ l x. x.latch ≡ l) xs q.latch_seats.items) (ap (λ (x : Listed _). x.items) c.epochs)
      (subst (λ (x : Listed Place). AllZip (λ l y. y.latch ≡ l) w.epochs.now.items x.items) (sym c.parts.latch_seats) stands.seated.of_latches);
  of_tickets = ap (λ (t : Time). t.table) c.parts.time ∙ stands.seated.of_tickets ∙ ap (λ (x : Tickets). x.table) c.tickets;
  watched = stands.watched ∙ c.machine;
  few = stands.few;
}

none_listed : (d : Option Demotion) → listed d ≡ [] → d ≡ None
none_listed None e = refl
none_listed (Some d) e = absurd (cc)

pub stable_back : (s : Shared) (q : WatchParts) (b : WatchTrace) (w : Context) → IsContext s q w → IsStable w b → IsStableAt s q b
stable_back s q b w c e = record {
  may = subst (λ (x : Held). MayDemote x.view) (sym c.parts.seat) e.may;
  sched_offset = subst (IsNear 57) (sym c.parts.sched_offset) e.usable.sched_offset;
  held = ap (λ (x : Held). x.view.modes.held) c.parts.seat ∙ e.usable.held ∙ ap Some (sym c.parts.gtod_offset);
  by_last =
      c.parts.gtod_offset ∙ e.usable.by_last ∙ ap (λ (x : StableStamp). offset_by w.sched_offset x.gtod x.raw.ns) (sym c.parts.last)
      ∙ ap (λ x. offset_by x q.last.gtod q.last.raw.ns) (sym c.parts.sched_offset);
  unlifted = subst (λ (x : Held). IsUnlifted x.view) (sym c.parts.seat) e.usable.unlifted;
  base =
      subst (λ (x : Listed Place). All (BeginsAtBase s.machine) (map (λ y. y.epoch) x.items)) (sym c.parts.latch_seats)
      (subst (λ (m : Plan). All (BeginsAtBase m) (map (λ y. y.epoch) w.latch_seats.items)) c.machine e.usable.base);
  opening =
      subst (λ (x : Held). IsFrom0To (2 ^ 57) (above_base s.machine (opens_at x.view.start))) (sym c.parts.seat)
      (subst (λ (m : Plan). IsFrom0To (2 ^ 57) (above_base m (opens_at w.seat.view.start))) c.machine e.usable.opening);
  room = subst (λ (m : Plan). cpu_count m ≤ b.lifts.room) c.machine e.room;
  none_yet = none_listed b.demotion e.none_yet;
}
