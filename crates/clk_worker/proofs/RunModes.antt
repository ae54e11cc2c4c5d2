-- The events of a run stand in the mode that the thread's looks had found, which turns per-CPU once at most; and each
-- coupling steps on the lower word.
use Rattle.std.proofs.Common.{◌≡◌, ℤ, ◌+ℤ◌, Bool, true, false, List, [], ◌∷◌, refl, ap, ◌∙◌, sym, subst}
use Rattle.std.specs.List.{All}
use Rattle.std.proofs.lemmas.List.Elements.{All-nil, All-cons}
use Rattle.clk_base.specs.Walk.{Along}
use Rattle.clk_num.specs.Wrapping.{wrap, IsNotBelow}
use Rattle.clk_record.specs.declared.mode.Mode.{Mode}
use Rattle.clk_record.specs.declared.mode.Mode.TheVariants.{Stable as StableMode, PerCpu as PerCpuMode}
use Rattle.clk_record.specs.declared.step.Step.{Step}
use Rattle.clk_record.specs.LowerWord.{lower_value}
use Rattle.clk_words.specs.declared.opening.Start.{Start}
use Rattle.clk_words.specs.declared.view.View.{View}
use Rattle.clk_words.specs.Views.{is_percpu, first_view}
use Rattle.clk_lawful.specs.Couples.{CouplesLower}
use Rattle.clk_lawful.specs.Modes.{Modes, IsOfMode, turned_after}
use Rattle.clk_lawful.specs.declared.event.Event.{Event}
use Rattle.clk_lawful.specs.declared.event.EventKind.{EventKind}
use Rattle.clk_lawful.specs.declared.event.EventKind.TheVariants.{Stable, Local, Couple, Stamp, Nothing, Update, Pause}
use Rattle.clk_local.specs.Context.{Site, Known}
use Rattle.clk_worker.specs.Running.{Shows, Runs, at_call}
use Rattle.clk_worker.proofs.Showing.{raised_found}

-- ---- what was found

-- no event changes it, and a look only finds the clock per-CPU
pub shows_found : (z : Site) (v : Known) (k : EventKind) (w : Known) → Shows z v k w → w.view.modes.found ≡ v.view.modes.found
shows_found z v (Stable raw value) w h = ap (λ (x : View). x.modes.found) h.stable.view_is
shows_found z v (Local raw tick_raw tick_gtod offset old new) w h = raised_found z v w raw h.step h.raised
shows_found z v (Couple asked own other word old new) w h =
    ap (λ (x : View). x.modes.found) h.coupled.raises.makes.view_is
    ∙ ap (λ (x : View). x.modes.found) h.coupled.loads.second.view_is
    ∙ ap (λ (x : View). x.modes.found) h.coupled.loads.first.view_is
shows_found z v (Stamp gtod_ticket gtod raw) w h = ap (λ (x : View). x.modes.found) h.stamps.view_is
shows_found z v Nothing w h = ap (λ (x : Known). x.view.modes.found) h.same
shows_found z v (Update p) w h = ap (λ (x : View). x.modes.found) h.view_is
shows_found z v (Pause ticket count) w h = ap (λ (x : View). x.modes.found) h.view_is

pub runs_found : (z : Site) (v : Known) (es : List Event) (w : Known) → Runs z v es w → v.view.modes.found ≡ true → w.view.modes.found ≡ true
runs_found z v [] w r found = ap (λ (x : Known). x.view.modes.found) (sym r) ∙ found
runs_found z v (e ∷ es) w r found = runs_found z r.1 es w r.4 (shows_found (at_call z e.call) r.0 e.kind r.1 r.3 ∙ r.2.found found)

-- what was not found at the end was not found before
pub not_before : (before after : Bool) → (before ≡ true → after ≡ true) → after ≡ false → before ≡ false
not_before true after on e = let f = on refl in absurd (cc)
not_before false after on e = refl

-- a fresh seat that has not found the clock per-CPU is one of a stable start
stable_mode : (mode : Mode) → is_percpu mode ≡ false → mode ≡ StableMode
stable_mode StableMode e = refl
stable_mode PerCpuMode e = absurd (cc)

-- ---- modes

-- the modes of a run, and the offset of its stable readings, are those of its start and of what this thread found at
-- the end
pub record AgreesOnModes (z : Site) (start : Start) (w : Known) (m : Modes) (offset : ℤ) : Type 0 where
  pub stable : start.opening.mode ≡ StableMode → (m.stable ≡ true) × (offset ≡ z.sched_offset)
  pub percpu : w.view.modes.found ≡ true → m.percpu ≡ true

abbrev pub AreOfMode : Modes → ℤ → Bool → List Event → Type 0
AreOfMode m offset turned es = Along (λ t e. IsOfMode m offset t e.kind) (λ t e. turned_after t e.kind) turned es

-- the modes agree with what a seat has found
record Agrees (z : Site) (m : Modes) (offset : ℤ) (v : Known) : Type 0 where
  stable : v.view.modes.found ≡ false → (m.stable ≡ true) × (offset ≡ z.sched_offset)
  percpu : v.view.modes.found ≡ true → m.percpu ≡ true

shows_mode : (z : Site) (v : Known) (k : EventKind) (w : Known) (m : Modes) (offset : ℤ) (turned : Bool) → Shows z v k w → Agrees z m offset v
    → (turned ≡ true → v.view.modes.found ≡ true) → IsOfMode m offset turned k
shows_mode z v (Stable raw value) w m offset turned h agrees on = (
  (agrees.stable h.found).0,
  not_before turned v.view.modes.found on h.found,
  h.stable.value_is ∙ ap (λ x. wrap (raw.ns +ℤ x)) (sym (agrees.stable h.found).1),
)
shows_mode z v (Local raw tick_raw tick_gtod shown old new) w m offset turned h agrees on = agrees.percpu h.found
shows_mode z v (Couple asked own other word old new) w m offset turned h agrees on = agrees.percpu h.found
shows_mode z v (Stamp gtod_ticket gtod raw) w m offset turned h agrees on = agrees.percpu h.found
shows_mode z v Nothing w m offset turned h agrees on = ((agrees.stable h.found).0, not_before turned v.view.modes.found on h.found)
shows_mode z v (Update p) w m offset turned h agrees on = tt
shows_mode z v (Pause ticket count) w m offset turned h agrees on = tt

-- a thread that made a per-CPU reading has found the clock so
shows_turned : (z : Site) (v : Known) (k : EventKind) (w : Known) (turned : Bool) → Shows z v k w → (turned ≡ true → v.view.modes.found ≡ true)
    → turned_after turned k ≡ true → w.view.modes.found ≡ true
shows_turned z v (Stable raw value) w turned h on e = shows_found z v (Stable raw value) w h ∙ on e
shows_turned z v (Local raw tick_raw tick_gtod shown old new) w turned h on e = shows_found z v (Local raw tick_raw tick_gtod shown old new) w h ∙ h.found
shows_turned z v (Couple asked own other word old new) w turned h on e = shows_found z v (Couple asked own other word old new) w h ∙ on e
shows_turned z v (Stamp gtod_ticket gtod raw) w turned h on e = shows_found z v (Stamp gtod_ticket gtod raw) w h ∙ on e
shows_turned z v Nothing w turned h on e = shows_found z v Nothing w h ∙ on e
shows_turned z v (Update p) w turned h on e = shows_found z v (Update p) w h ∙ on e
shows_turned z v (Pause ticket count) w turned h on e = shows_found z v (Pause ticket count) w h ∙ on e

runs_agree : (z : Site) (v : Known) (es : List Event) (w : Known) (m : Modes) (offset : ℤ) (turned : Bool) → Runs z v es w
    → (v.view.modes.found ≡ false → (m.stable ≡ true) × (offset ≡ z.sched_offset)) → (w.view.modes.found ≡ true → m.percpu ≡ true)
    → (turned ≡ true → v.view.modes.found ≡ true) → AreOfMode m offset turned es
runs_agree z v [] w m offset turned r stable percpu on = tt
runs_agree z v (e ∷ es) w m offset turned r stable percpu on =
    let t : Known = r.0 in
    let u : Known = r.1 in
    let same : u.view.modes.found ≡ t.view.modes.found = shows_found (at_call z e.call) t e.kind u r.3 in
    let looked : t.view.modes.found ≡ false → (m.stable ≡ true) × (offset ≡ z.sched_offset) =
    λ f. stable (not_before v.view.modes.found t.view.modes.found r.2.found f) in
    let agrees : Agrees (at_call z e.call) m offset t =
    record { stable = looked; percpu = λ f. percpu (runs_found z u es w r.4 (same ∙ f)) } in
    let seen : turned ≡ true → t.view.modes.found ≡ true = λ f. r.2.found (on f) in (
      shows_mode (at_call z e.call) t e.kind u m offset turned r.3 agrees seen,
      runs_agree z u es w m offset (turned_after turned e.kind) r.4 (λ f. looked (sym same ∙ f)) percpu
          (shows_turned (at_call z e.call) t e.kind u turned r.3 seen),
    )

-- by a seat that knows of the mode what the first seat knew
pub runs_mode : (z : Site) (start : Start) (v : Known) (es : List Event) (w : Known) (m : Modes) (offset : ℤ)
    → v.view.modes.found ≡ (first_view start).modes.found → Runs z v es w → AgreesOnModes z start w m offset → AreOfMode m offset false es
runs_mode z start v es w m offset first r agrees =
    runs_agree z v es w m offset false r (λ f. agrees.stable (stable_mode start.opening.mode (sym first ∙ f))) agrees.percpu (λ f. absurd (cc))

-- in a per-CPU start it has found the clock so
pub found_from : (z : Site) (start : Start) (v : Known) (es : List Event) (w : Known) → v.view.modes.found ≡ (first_view start).modes.found → Runs z v es w
    → start.opening.mode ≡ PerCpuMode → w.view.modes.found ≡ true
found_from z start v es w first r percpu = runs_found z v es w r (first ∙ ap is_percpu percpu)

-- ---- couplings

shows_lower : (z : Site) (v : Known) (k : EventKind) (w : Known) → Shows z v k w → CouplesLower z.cpu k
shows_lower z v (Stable raw value) w h = tt
shows_lower z v (Local raw tick_raw tick_gtod offset old new) w h = tt
shows_lower z v (Couple asked own other word old new) w h =
    let below : IsNotBelow old (lower_value own other) = subst (λ x. IsNotBelow x (lower_value own other)) h.old_is h.coupled.old_not_below in
    (sym h.word_is ∙ ap (λ (s : Step). s.word) h.coupled.step_is, below)
shows_lower z v (Stamp gtod_ticket gtod raw) w h = tt
shows_lower z v Nothing w h = tt
shows_lower z v (Update p) w h = tt
shows_lower z v (Pause ticket count) w h = tt

pub runs_lower : (z : Site) (v : Known) (es : List Event) (w : Known) → Runs z v es w → All (λ e. CouplesLower z.cpu e.kind) es
runs_lower z v [] w r = All-nil (λ (e : Event). CouplesLower z.cpu e.kind)
runs_lower z v (e ∷ es) w r =
    All-cons (λ (x : Event). CouplesLower z.cpu x.kind) e es (shows_lower (at_call z e.call) r.0 e.kind r.1 r.3) (runs_lower z r.1 es w r.4)
