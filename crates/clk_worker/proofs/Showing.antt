-- What the calls of a thread show, as events, in either mode of the clock.
use Rattle.std.proofs.Common.{◌≡◌, ◌≢◌, ℕ, ◌+◌, ◌<◌, ◌≤◌, ℤ, Bool, true, false, ◌||◌, List, [], ◌∷◌, ◌++◌, length, ap, ◌∙◌, sym, subst, refl, arith}
use Rattle.std.proofs.lemmas.List.{map-append}
use Rattle.clk_ticket.specs.Time.{Time}
use Rattle.clk_machine.specs.declared.reading.RawReading.{RawReading}
use Rattle.clk_record.specs.declared.mode.Mode.{Mode}
use Rattle.clk_record.specs.declared.mode.Mode.TheVariants.{Stable as StableMode, PerCpu as PerCpuMode}
use Rattle.clk_record.specs.declared.step.Step.{Step}
use Rattle.clk_record.specs.declared.step.Why.{Why}
use Rattle.clk_words.specs.declared.opening.Start.{Start}
use Rattle.clk_words.specs.declared.view.View.{View}
use Rattle.clk_words.specs.Histories.{is_lift}
use Rattle.clk_words.specs.Views.{is_percpu}
use Rattle.clk_lawful.specs.ScriptEvents.{IsOwnReading, IsRemoteReading, IsTick, IsIdle, events_at}
use Rattle.clk_lawful.specs.declared.event.Event.{Event}
use Rattle.clk_lawful.specs.declared.event.EventKind.{EventKind}
use Rattle.clk_lawful.specs.declared.event.EventKind.TheVariants.{Local, Couple, Stamp}
use Rattle.clk_lawful.specs.declared.event.EventKind.TheVariants as kind
use Rattle.clk_latch.specs.Epoch.{Epoch}
use Rattle.clk_local.specs.Context.{Site, Known, looked_as}
use Rattle.clk_local.specs.Shows.{ShowsLook, ShowsStable, ShowsRaised, mode_read, mode_ticked, OnReading, OnTick, ShowsReading, ShowsTick, ShowsIdle}
use Rattle.clk_local.specs.declared.events.Reading.{Reading}
use Rattle.clk_local.specs.declared.events.Reading.TheVariants.{Stable, PerCpu}
use Rattle.clk_local.specs.declared.events.IdleEvent.{IdleEvent}
use Rattle.clk_local.specs.declared.events.TickEvent.{TickEvent}
use Rattle.clk_local.specs.declared.events.TickEvent.TheVariants.{Nothing, Ticked}
use Rattle.clk_remote.specs.Shows.{mode_coupled, OnRemote, ShowsRemote}
use Rattle.clk_remote.specs.declared.event.RemoteEvent.{RemoteEvent}
use Rattle.clk_remote.specs.declared.event.RemoteEvent.TheVariants.{Coupled}
use Rattle.clk_remote.specs.declared.event.RemoteEvent.TheVariants as remote
use Rattle.clk_worker.specs.Running.{at_call, IsSound, kinds_of_why, kinds_of_step, kinds_of_reading, kinds_of_tick, HasPassed, HasLooked, Runs}
use Rattle.clk_worker.specs.Calling.{kinds_of_remote, SpendsAtMost}
use Rattle.clk_worker.proofs.Sounding.{OwnsLatch, same_sound, reading_sound, stamp_sound, same_latch, reading_latch, stamp_latch}

pub runs-append : (z : Site) (v : Known) (es : List Event) (u : Known) (fs : List Event) (w : Known) → Runs z v es u → Runs z u fs w → Runs z v (es ++ fs) w
runs-append z v [] u fs w r s = rw r s
runs-append z v (e ∷ es) u fs w r s = (r.0, r.1, r.2, r.3, runs-append z r.1 es u fs w r.4 s)

pub spends_both : (a b c d : ℕ) (v u w : Known) → SpendsAtMost a b v u → SpendsAtMost c d u w → SpendsAtMost (a + c) (b + d) v w
spends_both a b c d v u w p q =
    let x = p.tickets_left in
    let y = q.tickets_left in
    let z = p.updates_left in
    let t = q.updates_left in
    record { tickets_left = omega (arith, x, y); updates_left = omega (arith, z, t) }

-- ---- looks

-- no look, and a look of clk_local
pub no_look : (v : Known) → HasLooked v v
no_look v = record { view_is = refl; found = λ e. e; epoch_is = refl; time_is = refl }

one_look : (v w : Known) (mode : Mode) → ShowsLook v mode w → HasLooked v w
one_look v w mode h =
    record {
      view_is = h.finds.view_is ∙ sym (ap (λ (x : View). looked_as x v.view) h.finds.view_is);
      found = λ e. ap (λ (x : View). x.modes.found) h.finds.view_is ∙ ap (λ (b : Bool). b || is_percpu mode) e;
      epoch_is = h.epoch_is;
      time_is = h.time_is;
    }

or_true : (b : Bool) → (b || true) ≡ true
or_true true = refl
or_true false = refl

or_false : (b : Bool) → (b ≡ true → ⊥) → (b || false) ≡ false
or_false true never = absurd (never refl)
or_false false never = refl

other_mode : StableMode ≡ PerCpuMode → ⊥
other_mode e = absurd (cc)

-- the seat knows what its look found
look_percpu : (v w : Known) → ShowsLook v PerCpuMode w → w.view.modes.found ≡ true
look_percpu v w h = ap (λ (x : View). x.modes.found) h.finds.view_is ∙ or_true v.view.modes.found

look_stable : (v w : Known) → ShowsLook v StableMode w → w.view.modes.found ≡ false
look_stable v w h = ap (λ (x : View). x.modes.found) h.finds.view_is ∙ or_false v.view.modes.found (λ e. other_mode (h.finds.stays e))

-- neither a look nor a reading changes what the words began with, and a reading leaves what was found
looked_start : (v w : Known) → HasLooked v w → w.view.start ≡ v.view.start
looked_start v w h = ap (λ (x : View). x.start) h.view_is

raised_start : (z : Site) (v w : Known) (raw : RawReading) (step : Step) → ShowsRaised z v raw step w → w.view.start ≡ v.view.start
raised_start z v w raw step h =
    ap (λ (x : View). x.start) h.raises.makes.view_is
    ∙ ap (λ (x : View). x.start) h.finds_offset.view_is
    ∙ ap (λ (x : View). x.start) h.finds.second.finds.view_is
    ∙ ap (λ (x : View). x.start) h.finds.first.finds.view_is

pub raised_found : (z : Site) (v w : Known) (raw : RawReading) (step : Step) → ShowsRaised z v raw step w → w.view.modes.found ≡ v.view.modes.found
raised_found z v w raw step h =
    ap (λ (x : View). x.modes.found) h.raises.makes.view_is
    ∙ ap (λ (x : View). x.modes.found) h.finds_offset.view_is
    ∙ ap (λ (x : View). x.modes.found) h.finds.second.finds.view_is
    ∙ ap (λ (x : View). x.modes.found) h.finds.first.finds.view_is

-- the step of a reading is no lift
pub raised_passed : (z : Site) (v w : Known) (raw : RawReading) (step : Step) → ShowsRaised z v raw step w → HasPassed w.view.seen
raised_passed z v w raw step h =
    record {
      front = v.view.seen ++ h.raises.makes.between;
      step = step;
      back = [];
      is = h.seen_is;
      passes = ap (λ (s : Step). is_lift s.why) h.step_is;
    }

-- ---- events

-- events of these kinds took the seats from v to w, by so many tickets at most, and the seats stay sound, and an
-- owner's
pub record Showed (z : Site) (share call tickets : ℕ) (kinds : List EventKind) (v w : Known) : Type 0 where
  pub runs : Runs z v (events_at call kinds) w
  pub spends : SpendsAtMost tickets 0 v w
  pub sound : IsSound z share w
  pub latch : OwnsLatch z v → OwnsLatch z w

showed_both : (z : Site) (share call a b : ℕ) (ks ls : List EventKind) (v u w : Known) → Showed z share call a ks v u → Showed z share call b ls u w
    → Showed z share call (a + b) (ks ++ ls) v w
showed_both z share call a b ks ls v u w p q =
    let same : events_at call (ks ++ ls) ≡ events_at call ks ++ events_at call ls = map-append (λ (k : EventKind). record { call = call; kind = k }) ks ls in
    record {
      runs = subst (λ (es : List Event). Runs z v es w) (sym same) (runs-append z v (events_at call ks) u (events_at call ls) w p.runs q.runs);
      spends = spends_both a 0 b 0 v u w p.spends q.spends;
      sound = q.sound;
      latch = λ own. q.latch (p.latch own);
    }

-- a call's events, so many at most, of kinds that it calls for
pub record ShowedAs (Called : List EventKind → Type 0) (most : ℕ) (z : Site) (share call tickets : ℕ) (kinds : List EventKind) (v w : Known) : Type 0 where
  pub is : Called kinds
  pub few : length kinds ≤ most
  pub showed : Showed z share call tickets kinds v w

-- ---- readings

-- a reading of the own clock is one event
pub record ShowedReading (z : Site) (share call : ℕ) (kinds : List EventKind) (v w : Known) : Type 0 where
  pub kind : EventKind
  pub is : IsOwnReading (kind ∷ [])
  pub kinds_are : kinds ≡ kind ∷ []
  pub showed : Showed z share call 1 (kind ∷ []) v w

-- where it raised a word, it is that of a tick after a stamp, and that of a remote reading before a coupling
record ShowedLocal (z : Site) (share call : ℕ) (kinds : List EventKind) (v w : Known) : Type 0 where
  reading : ShowedReading z share call kinds v w
  ticks : (gtod_ticket : ℕ) (gtod : ℤ) (stamp : RawReading) → IsTick (Stamp gtod_ticket gtod stamp ∷ reading.kind ∷ [])
  couples : (asked : ℕ) (own other : ℤ) (word : ℕ) (old new : ℤ) → IsRemoteReading asked (reading.kind ∷ Couple asked own other word old new ∷ [])
  start : w.view.start ≡ v.view.start
  found : w.view.modes.found ≡ true
  passed : HasPassed w.view.seen

showed_step : (z : Site) (share call : ℕ) (v t w : Known) (raw : RawReading) (step : Step) → IsSound z share v → 1 ≤ v.time.left
    → HasLooked v t → t.view.modes.found ≡ true → ShowsRaised (at_call z call) t raw step w → ShowedLocal z share call (kinds_of_step raw step) v w
showed_step z share call v t w raw step sound left looks found h =
    let why = ap (λ (s : Step). s.why) h.step_is in
    let drawn = ap (λ (x : Time). x.left) h.reads.draws.is in
    let before = ap (λ (x : Time). x.left) looks.time_is in
    let same = h.reads.reads.kept.1 in
    let budget = ap (λ (x : Epoch). x.left) looks.epoch_is in
    record {
      reading = record {
        kind = Local raw h.tick_raw h.tick_gtod h.offset step.old step.new;
        is = tt;
        kinds_are = ap (λ (y : Why). kinds_of_why raw y step.old step.new) why;
        showed = record {
          runs = (t, w, looks, record { found = found; step = step; raised = h; why_is = why; old_is = refl; new_is = refl }, refl);
          spends = record { tickets_left = omega (arith, drawn, before, left); updates_left = omega (arith, same, budget) };
          sound = reading_sound z share call t w raw (same_sound z share v t looks.epoch_is looks.time_is sound) h.reads;
          latch = λ own. reading_latch z call t w raw h.reads (same_latch z v t looks.epoch_is looks.time_is own);
        };
      };
      ticks = λ gtod_ticket gtod stamp. tt;
      couples = λ asked own other word old new. refl;
      start = raised_start (at_call z call) t w raw step h ∙ looked_start v t looks;
      found = raised_found (at_call z call) t w raw step h ∙ found;
      passed = raised_passed (at_call z call) t w raw step h;
    }

-- a stable one makes no step
showed_stable : (z : Site) (share call : ℕ) (v t w : Known) (raw : RawReading) (value : ℤ) → IsSound z share v → 1 ≤ v.time.left
    → HasLooked v t → t.view.modes.found ≡ false → ShowsStable (at_call z call) t raw value w → Showed z share call 1 (kind.Stable raw value ∷ []) v w
showed_stable z share call v t w raw value sound left looks found h =
    let drawn = ap (λ (x : Time). x.left) h.reads.draws.is in
    let before = ap (λ (x : Time). x.left) looks.time_is in
    let same = h.reads.reads.kept.1 in
    let budget = ap (λ (x : Epoch). x.left) looks.epoch_is in
    record {
      runs = (t, w, looks, record { found = found; stable = h }, refl);
      spends = record { tickets_left = omega (arith, drawn, before, left); updates_left = omega (arith, same, budget) };
      sound = reading_sound z share call t w raw (same_sound z share v t looks.epoch_is looks.time_is sound) h.reads;
      latch = λ own. reading_latch z call t w raw h.reads (same_latch z v t looks.epoch_is looks.time_is own);
    }

on_reading : (z : Site) (share call : ℕ) (v t w : Known) (r : Reading) → IsSound z share v → 1 ≤ v.time.left
    → ShowsLook v (mode_read r) t → OnReading (at_call z call) t r w → ShowedReading z share call (kinds_of_reading r) v w
on_reading z share call v t w (Stable raw value) sound left looks h =
    record {
      kind = kind.Stable raw value;
      is = tt;
      kinds_are = refl;
      showed = showed_stable z share call v t w raw value sound left (one_look v t StableMode looks) (look_stable v t looks) h;
    }
on_reading z share call v t w (PerCpu raw step) sound left looks h =
    (showed_step z share call v t w raw step sound left (one_look v t PerCpuMode looks) (look_percpu v t looks) h).reading

pub showed_reading : (z : Site) (share call : ℕ) (v w : Known) (r : Reading) → IsSound z share v → 1 ≤ v.time.left
    → ShowsReading (at_call z call) v r w → ShowedReading z share call (kinds_of_reading r) v w
showed_reading z share call v w r sound left h = on_reading z share call v h.between w r sound left h.looks h.shows

-- a remote reading of a per-CPU clock is a local event and then a coupling
on_remote : (z : Site) (share call asked : ℕ) (v t w : Known) (e : RemoteEvent) → IsSound z share v → 1 ≤ v.time.left → asked < v.view.start.cpus → asked ≢ z.cpu
    → ShowsLook v (mode_coupled e) t → OnRemote (at_call z call) asked t e w → ShowedAs (IsRemoteReading asked) 2 z share call 1 (kinds_of_remote asked e) v w
on_remote z share call asked v t w (remote.Stable raw value) sound left within apart looks h =
    record {
      is = tt;
      few = omega arith;
      showed = showed_stable z share call v t w raw value sound left (one_look v t StableMode looks) (look_stable v t looks) h;
    }
on_remote z share call asked v t w (Coupled raw local own other step) sound left within apart looks h =
    let u : Known = h.between in
    let first = showed_step z share call v t u raw local sound left (one_look v t PerCpuMode looks) (look_percpu v t looks) h.raises in
    let couple : EventKind = Couple asked own other step.word step.old step.new in
    let low : asked < u.view.start.cpus = subst (λ (s : Start). asked < s.cpus) (sym first.start) within in
    let drawn = ap (λ (x : Time). x.left) h.couples.time_is in
    let budget = ap (λ (x : Epoch). x.left) h.couples.epoch_is in
    let after : Showed z share call 0 (couple ∷ []) u w = record {
      runs = (
        u,
        w,
        no_look u,
        record {
          found = first.found;
          passed = first.passed;
          step = step;
          coupled = h.couples;
          within = low;
          apart = apart;
          word_is = refl;
          old_is = refl;
          new_is = refl;
        },
        refl,
      );
      spends = record { tickets_left = omega (arith, drawn); updates_left = omega (arith, budget) };
      sound = same_sound z share u w h.couples.epoch_is h.couples.time_is first.reading.showed.sound;
      latch = same_latch z u w h.couples.epoch_is h.couples.time_is;
    } in
    let one : EventKind = first.reading.kind in
    let both : ShowedAs (IsRemoteReading asked) 2 z share call 1 (one ∷ couple ∷ []) v w = record {
      is = first.couples asked own other step.word step.old step.new;
      few = omega arith;
      showed = showed_both z share call 1 0 (one ∷ []) (couple ∷ []) v u w first.reading.showed after;
    } in
    subst (λ (ks : List EventKind). ShowedAs (IsRemoteReading asked) 2 z share call 1 (ks ++ couple ∷ []) v w) (sym first.reading.kinds_are) both

pub showed_remote : (z : Site) (share call asked : ℕ) (v w : Known) (e : RemoteEvent) → IsSound z share v → 1 ≤ v.time.left → asked < v.view.start.cpus → asked ≢ z.cpu
    → ShowsRemote (at_call z call) asked v e w → ShowedAs (IsRemoteReading asked) 2 z share call 1 (kinds_of_remote asked e) v w
showed_remote z share call asked v w e sound left within apart h = on_remote z share call asked v h.between w e sound left within apart h.looks h.shows

-- ---- ticks

-- one that finds the clock stable changes nothing, and any other is a stamp and a local event
nothing_showed : (z : Site) (share call : ℕ) (v t w : Known) → IsSound z share v → HasLooked v t → t.view.modes.found ≡ false → w ≡ t
    → Showed z share call 3 (kind.Nothing ∷ []) v w
nothing_showed z share call v t w sound looks found same =
    let time : w.time ≡ v.time = ap (λ (x : Known). x.time) same ∙ looks.time_is in
    let epoch : w.epoch ≡ v.epoch = ap (λ (x : Known). x.epoch) same ∙ looks.epoch_is in
    let left = ap (λ (x : Time). x.left) time in
    let budget = ap (λ (x : Epoch). x.left) epoch in
    record {
      runs = (t, w, looks, record { found = found; same = same }, refl);
      spends = record { tickets_left = omega (arith, left); updates_left = omega (arith, budget) };
      sound = same_sound z share v w epoch time sound;
      latch = same_latch z v w epoch time;
    }

on_tick : (z : Site) (share call : ℕ) (v t w : Known) (e : TickEvent) → IsSound z share v → 3 ≤ v.time.left
    → ShowsLook v (mode_ticked e) t → OnTick (at_call z call) t e w → ShowedAs IsTick 2 z share call 3 (kinds_of_tick e) v w
on_tick z share call v t w Nothing sound left looks h =
    record {
      is = tt;
      few = omega arith;
      showed = nothing_showed z share call v t w sound (one_look v t StableMode looks) (look_stable v t looks) h;
    }
on_tick z share call v t w (Ticked gtod_ticket gtod stamp raw step) sound left looked h =
    let u : Known = h.between in
    let looks = one_look v t PerCpuMode looked in
    let found = look_percpu v t looked in
    let kind : EventKind = Stamp gtod_ticket gtod stamp in
    let before = ap (λ (x : Time). x.left) looks.time_is in
    let first = ap (λ (x : Time). x.left) h.stamps.draws.is in
    let second = ap (λ (x : Time). x.left) h.stamps.reads.draws.is in
    let kept = h.stamps.reads.reads.kept.1 in
    let budget = ap (λ (x : Epoch). x.left) looks.epoch_is in
    let still = stamp_sound z share call t u gtod_ticket gtod stamp (same_sound z share v t looks.epoch_is looks.time_is sound) h.stamps in
    let later =
    showed_step z share call u u w raw step still (omega (arith, before, first, second, left)) (no_look u)
    (ap (λ (x : View). x.modes.found) h.stamps.view_is ∙ found) h.raises in
    let one : Showed z share call 2 (kind ∷ []) v u = record {
      runs = (t, u, looks, record { found = found; stamps = h.stamps }, refl);
      spends = record { tickets_left = omega (arith, before, first, second, left); updates_left = omega (arith, kept, budget) };
      sound = still;
      latch = λ own. stamp_latch z call t u gtod_ticket gtod stamp h.stamps (same_latch z v t looks.epoch_is looks.time_is own);
    } in
    let both : ShowedAs IsTick 2 z share call 3 (kind ∷ later.reading.kind ∷ []) v w = record {
      is = later.ticks gtod_ticket gtod stamp;
      few = omega arith;
      showed = showed_both z share call 2 1 (kind ∷ []) (later.reading.kind ∷ []) v u w one later.reading.showed;
    } in
    subst (λ (ks : List EventKind). ShowedAs IsTick 2 z share call 3 (kind ∷ ks) v w) (sym later.reading.kinds_are) both

pub showed_tick : (z : Site) (share call : ℕ) (v w : Known) (e : TickEvent) → IsSound z share v → 3 ≤ v.time.left
    → ShowsTick (at_call z call) v e w → ShowedAs IsTick 2 z share call 3 (kinds_of_tick e) v w
showed_tick z share call v w e sound left h = on_tick z share call v h.between w e sound left h.looks h.shows

-- an idle event is a reading and then a tick, and the clock may become per-CPU between them
pub showed_idle : (z : Site) (share call : ℕ) (v w : Known) (e : IdleEvent) → IsSound z share v → 4 ≤ v.time.left
    → ShowsIdle (at_call z call) v e w → ShowedAs IsIdle 3 z share call 4 (kinds_of_reading e.read ++ kinds_of_tick e.tick) v w
showed_idle z share call v w e sound left h =
    let u : Known = h.between in
    let one = showed_reading z share call v u e.read sound (omega (arith, left)) h.reads in
    let spent = one.showed.spends.tickets_left in
    let two = showed_tick z share call u w e.tick one.showed.sound (omega (arith, left, spent)) h.ticks in
    let more : List EventKind = kinds_of_tick e.tick in
    let few = two.few in
    let both : ShowedAs IsIdle 3 z share call 4 (one.kind ∷ more) v w = record {
      is = (one.is, two.is);
      few = omega (arith, few);
      showed = showed_both z share call 1 3 (one.kind ∷ []) more v u w one.showed two.showed;
    } in
    subst (λ (ks : List EventKind). ShowedAs IsIdle 3 z share call 4 (ks ++ more) v w) (sym one.kinds_are) both
