-- What no event of a run changes: the seat at the clock words shows the same number and kind, and belongs to the same
-- words; and what only grows: its own steps, and the history that it has seen.
use Rattle.std.proofs.Common.{◌≡◌, ℕ, ℤ, List, [], ◌∷◌, ◌++◌, ap, ◌∙◌, sym, subst, append_assoc}
use Rattle.clk_machine.specs.declared.reading.RawReading.{RawReading}
use Rattle.clk_record.specs.declared.step.Step.{Step}
use Rattle.clk_words.specs.declared.opening.Start.{Start}
use Rattle.clk_words.specs.declared.kind.SeatKind.{SeatKind}
use Rattle.clk_words.specs.declared.view.View.{View}
use Rattle.clk_words.specs.Fronts.{Begins}
use Rattle.clk_words.specs.Kinds.{cpu_of}
use Rattle.clk_words.specs.Told.{Raises}
use Rattle.clk_words.proofs.Fronts.{begins_self, begins_through}
use Rattle.clk_lawful.specs.declared.event.Event.{Event}
use Rattle.clk_lawful.specs.declared.event.EventKind.{EventKind}
use Rattle.clk_lawful.specs.declared.event.EventKind.TheVariants.{Stable, Local, Couple, Stamp, Nothing, Update, Pause}
use Rattle.clk_local.specs.Context.{Site, Known}
use Rattle.clk_local.specs.Raising.{FindsPair}
use Rattle.clk_local.specs.Shows.{ShowsRaised}
use Rattle.clk_remote.specs.Shows.{LoadsBoth}
use Rattle.clk_worker.specs.Running.{Shows, HasLooked, Runs, at_call}

-- ---- what is fixed

-- the part of a view that loads, steps and stamps leave
pub record Fixed : Type 0 where
  pub start : Start
  pub number : ℕ
  pub kind : SeatKind
  pub made : ℕ
  pub joined : List (ℕ × List Step)
  pub owns : List ℕ

abbrev pub fixed : View → Fixed
fixed v = record { start = v.start; number = v.number; kind = v.kind; made = v.made; joined = v.joined; owns = v.pairs.owns }

pub pair_fixed : (v pair : View) (tick_raw tick_gtod : ℤ) → FindsPair v tick_raw tick_gtod pair → fixed pair ≡ fixed v
pair_fixed v pair tick_raw tick_gtod f = ap fixed f.second.finds.view_is ∙ ap fixed f.first.finds.view_is

-- before the step of a local reading, and before that of a coupling
pub offset_fixed : (z : Site) (v w : Known) (raw : RawReading) (step : Step) → (h : ShowsRaised z v raw step w) → fixed h.loaded ≡ fixed v.view
offset_fixed z v w raw step h = ap fixed h.finds_offset.view_is ∙ pair_fixed v.view h.pair h.tick_raw h.tick_gtod h.finds

pub loads_fixed : (v w : View) (cpu asked : ℕ) (own other : ℤ) → LoadsBoth v cpu asked own other w → fixed w ≡ fixed v
loads_fixed v w cpu asked own other h = ap fixed h.second.view_is ∙ ap fixed h.first.view_is

pub shows_fixed : (z : Site) (v : Known) (k : EventKind) (w : Known) → Shows z v k w → fixed w.view ≡ fixed v.view
shows_fixed z v (Stable raw value) w h = ap fixed h.stable.view_is
shows_fixed z v (Local raw tick_raw tick_gtod offset old new) w h = ap fixed h.raised.raises.makes.view_is ∙ offset_fixed z v w raw h.step h.raised
shows_fixed z v (Couple asked own other word old new) w h =
    ap fixed h.coupled.raises.makes.view_is ∙ loads_fixed v.view h.coupled.loaded z.cpu asked own other h.coupled.loads
shows_fixed z v (Stamp gtod_ticket gtod raw) w h = ap fixed h.stamps.view_is
shows_fixed z v Nothing w h = ap (λ (x : Known). fixed x.view) h.same
shows_fixed z v (Update p) w h = ap fixed h.view_is
shows_fixed z v (Pause ticket count) w h = ap fixed h.view_is

pub looked_fixed : (v w : Known) → HasLooked v w → fixed w.view ≡ fixed v.view
looked_fixed v w h = ap fixed h.view_is

pub runs_fixed : (z : Site) (v : Known) (es : List Event) (w : Known) → Runs z v es w → fixed w.view ≡ fixed v.view
runs_fixed z v [] w r = ap (λ (x : Known). fixed x.view) (sym r)
runs_fixed z v (e ∷ es) w r = runs_fixed z r.1 es w r.4 ∙ shows_fixed (at_call z e.call) r.0 e.kind r.1 r.3 ∙ looked_fixed v r.0 r.2

-- ---- whose seat it is

-- a seat on this CPU, under this number, of words that began so
pub record IsHome (cpu : ℕ) (start : Start) (number : ℕ) (v : View) : Type 0 where
  pub start_is : v.start ≡ start
  pub number_is : v.number ≡ number
  pub cpu_is : cpu_of v.kind ≡ cpu

pub home_stays : (cpu : ℕ) (start : Start) (number : ℕ) (v w : View) → fixed w ≡ fixed v → IsHome cpu start number v → IsHome cpu start number w
home_stays cpu start number v w same h =
    record {
      start_is = ap (λ (f : Fixed). f.start) same ∙ h.start_is;
      number_is = ap (λ (f : Fixed). f.number) same ∙ h.number_is;
      cpu_is = ap (λ (f : Fixed). cpu_of f.kind) same ∙ h.cpu_is;
    }

-- before the first of some events, after the looks; and after it
pub home_looked : (cpu : ℕ) (start : Start) (number : ℕ) (v w : Known) → HasLooked v w → IsHome cpu start number v.view → IsHome cpu start number w.view
home_looked cpu start number v w looks h = home_stays cpu start number v.view w.view (looked_fixed v w looks) h

pub home_next : (z : Site) (start : Start) (number : ℕ) (v : Known) (e : Event) (es : List Event) (w : Known) (r : Runs z v (e ∷ es) w)
    → IsHome z.cpu start number v.view → IsHome z.cpu start number r.1.view
home_next z start number v e es w r h =
    home_stays z.cpu start number r.0.view r.1.view (shows_fixed (at_call z e.call) r.0 e.kind r.1 r.3) (home_looked z.cpu start number v r.0 r.2 h)

-- ---- what grows

-- the own steps, and what was seen
pub record Grows (v w : View) : Type 0 where
  pub mine : Begins v.mine w.mine
  pub seen : Begins v.seen w.seen

pub grows_by : (v w : View) (mine seen : List Step) → w.mine ≡ v.mine ++ mine → w.seen ≡ v.seen ++ seen → Grows v w
grows_by v w mine seen p q = record { mine = record { rest = mine; is = p }; seen = record { rest = seen; is = q } }

pub grows_same : (v w : View) → w.mine ≡ v.mine → w.seen ≡ v.seen → Grows v w
grows_same v w p q = record { mine = subst (Begins v.mine) (sym p) (begins_self v.mine); seen = subst (Begins v.seen) (sym q) (begins_self v.seen) }

pub grows_through : (u v w : View) → Grows u v → Grows v w → Grows u w
grows_through u v w p q =
    record { mine = begins_through u.mine v.mine w.mine p.mine q.mine; seen = begins_through u.seen v.seen w.seen p.seen q.seen }

-- a step adds what was seen meanwhile, and itself
pub step_seen : (v w : View) (s : Step) → (h : Raises v s w) → w.seen ≡ v.seen ++ (h.makes.between ++ s ∷ [])
step_seen v w s h = ap (λ (u : View). u.seen) h.makes.view_is ∙ append_assoc v.seen h.makes.between (s ∷ [])

pub shows_grows : (z : Site) (v : Known) (k : EventKind) (w : Known) → Shows z v k w → Grows v.view w.view
shows_grows z v (Stable raw value) w h =
    grows_same v.view w.view (ap (λ (x : View). x.mine) h.stable.view_is) (ap (λ (x : View). x.seen) h.stable.view_is)
shows_grows z v (Local raw tick_raw tick_gtod offset old new) w h =
    grows_by v.view w.view (h.step ∷ []) (h.raised.raises.makes.between ++ h.step ∷ []) h.raised.mine_is
    (h.raised.seen_is ∙ append_assoc v.view.seen h.raised.raises.makes.between (h.step ∷ []))
shows_grows z v (Couple asked own other word old new) w h =
    grows_by v.view w.view (h.step ∷ []) _ h.coupled.mine_is (h.coupled.seen_is ∙ append_assoc v.view.seen _ (h.step ∷ []))
shows_grows z v (Stamp gtod_ticket gtod raw) w h =
    grows_same v.view w.view (ap (λ (x : View). x.mine) h.stamps.view_is) (ap (λ (x : View). x.seen) h.stamps.view_is)
shows_grows z v Nothing w h = grows_same v.view w.view (ap (λ (x : Known). x.view.mine) h.same) (ap (λ (x : Known). x.view.seen) h.same)
shows_grows z v (Update p) w h = grows_same v.view w.view (ap (λ (x : View). x.mine) h.view_is) (ap (λ (x : View). x.seen) h.view_is)
shows_grows z v (Pause ticket count) w h = grows_same v.view w.view (ap (λ (x : View). x.mine) h.view_is) (ap (λ (x : View). x.seen) h.view_is)

pub looked_grows : (v w : Known) → HasLooked v w → Grows v.view w.view
looked_grows v w h = grows_same v.view w.view (ap (λ (x : View). x.mine) h.view_is) (ap (λ (x : View). x.seen) h.view_is)

pub runs_grows : (z : Site) (v : Known) (es : List Event) (w : Known) → Runs z v es w → Grows v.view w.view
runs_grows z v [] w r = grows_same v.view w.view (ap (λ (x : Known). x.view.mine) (sym r)) (ap (λ (x : Known). x.view.seen) (sym r))
runs_grows z v (e ∷ es) w r =
    grows_through v.view r.0.view w.view (looked_grows v r.0 r.2)
    (grows_through r.0.view r.1.view w.view (shows_grows (at_call z e.call) r.0 e.kind r.1 r.3) (runs_grows z r.1 es w r.4))
