-- The events of a thread that made no per-CPU reading, no coupling and no stamp: what a lawful trace asks of those is
-- nothing.
use Rattle.std.proofs.Common.{ℤ, Bool, true, List, [], ◌∷◌}
use Rattle.std.specs.List.{All}
use Rattle.std.proofs.lemmas.List.Elements.{All-head, All-tail}
use Rattle.clk_base.specs.Walk.{Along}
use Rattle.clk_lawful.specs.Modes.{Modes, IsOfMode, turned_after}
use Rattle.clk_lawful.specs.Stamps.{Pair, Numbers, NamesPair, pair_after, NamesStamps, numbers_after}
use Rattle.clk_lawful.specs.declared.event.Event.{Event}
use Rattle.clk_lawful.specs.declared.event.EventKind.{EventKind}
use Rattle.clk_lawful.specs.declared.event.EventKind.TheVariants.{Stable, Local, Couple, Stamp, Nothing, Update, Pause}
use Rattle.clk_worker.proofs.RunModes.{AreOfMode}

abbrev pub IsQuiet : EventKind → Type 0
IsQuiet (Stable raw value) = Unit {0}
IsQuiet (Local raw tick_raw tick_gtod offset old new) = ⊥
IsQuiet (Couple asked own other word old new) = ⊥
IsQuiet (Stamp gtod_ticket gtod raw) = ⊥
IsQuiet Nothing = Unit {0}
IsQuiet (Update p) = Unit {0}
IsQuiet (Pause ticket count) = Unit {0}

abbrev pub AreQuiet : List Event → Type 0
AreQuiet es = All (λ e. IsQuiet e.kind) es

-- ---- the pairs

quiet_pair : (offset : ℤ) (p : Pair) (k : EventKind) → IsQuiet k → NamesPair offset p k
quiet_pair offset p (Stable raw value) q = tt
quiet_pair offset p (Local raw tick_raw tick_gtod shown old new) q = absurd q
quiet_pair offset p (Couple asked own other word old new) q = tt
quiet_pair offset p (Stamp gtod_ticket gtod raw) q = tt
quiet_pair offset p Nothing q = tt
quiet_pair offset p (Update u) q = tt
quiet_pair offset p (Pause ticket count) q = tt

pub quiet_pairs : (offset : ℤ) (p : Pair) (es : List Event) → AreQuiet es → Along (λ q e. NamesPair offset q e.kind) (λ q e. pair_after q e.kind) p es
quiet_pairs offset p [] quiet = tt
quiet_pairs offset p (e ∷ es) quiet = (
  quiet_pair offset p e.kind (All-head (λ (x : Event). IsQuiet x.kind) e es quiet),
  quiet_pairs offset (pair_after p e.kind) es (All-tail (λ (x : Event). IsQuiet x.kind) e es quiet),
)

quiet_number : (stamps : List Pair) (offset : ℤ) (n : Numbers) (k : EventKind) → IsQuiet k → NamesStamps stamps offset n k
quiet_number stamps offset n (Stable raw value) q = tt
quiet_number stamps offset n (Local raw tick_raw tick_gtod shown old new) q = absurd q
quiet_number stamps offset n (Couple asked own other word old new) q = tt
quiet_number stamps offset n (Stamp gtod_ticket gtod raw) q = tt
quiet_number stamps offset n Nothing q = tt
quiet_number stamps offset n (Update u) q = tt
quiet_number stamps offset n (Pause ticket count) q = tt

pub quiet_stamps : (stamps : List Pair) (offset : ℤ) (n : Numbers) (es : List Event) → AreQuiet es
    → Along (λ k e. NamesStamps stamps offset k e.kind) (λ k e. numbers_after stamps k e.kind) n es
quiet_stamps stamps offset n [] quiet = tt
quiet_stamps stamps offset n (e ∷ es) quiet = (
  quiet_number stamps offset n e.kind (All-head (λ (x : Event). IsQuiet x.kind) e es quiet),
  quiet_stamps stamps offset (numbers_after stamps n e.kind) es (All-tail (λ (x : Event). IsQuiet x.kind) e es quiet),
)

-- ---- the modes: whether there are per-CPU readings tells nothing of them

abbrev pub with_percpu : Modes → Modes
with_percpu m = record { stable = m.stable; percpu = true }

quiet_mode : (m : Modes) (offset : ℤ) (turned : Bool) (k : EventKind) → IsQuiet k → IsOfMode (with_percpu m) offset turned k → IsOfMode m offset turned k
quiet_mode m offset turned (Stable raw value) q h = h
quiet_mode m offset turned (Local raw tick_raw tick_gtod shown old new) q h = absurd q
quiet_mode m offset turned (Couple asked own other word old new) q h = absurd q
quiet_mode m offset turned (Stamp gtod_ticket gtod raw) q h = absurd q
quiet_mode m offset turned Nothing q h = h
quiet_mode m offset turned (Update u) q h = tt
quiet_mode m offset turned (Pause ticket count) q h = tt

pub quiet_modes : (m : Modes) (offset : ℤ) (turned : Bool) (es : List Event) → AreQuiet es → AreOfMode (with_percpu m) offset turned es → AreOfMode m offset turned es
quiet_modes m offset turned [] quiet h = tt
quiet_modes m offset turned (e ∷ es) quiet h = (
  quiet_mode m offset turned e.kind (All-head (λ (x : Event). IsQuiet x.kind) e es quiet) h.0,
  quiet_modes m offset (turned_after turned e.kind) es (All-tail (λ (x : Event). IsQuiet x.kind) e es quiet) h.1,
)
