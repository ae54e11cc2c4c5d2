-- A thread that has made a per-CPU reading finds no stable clock after that, and without a demotion a stable clock has
-- no per-CPU events.
use Rattle.std.proofs.Common.{◌≡◌, ℤ, Bool, true, false, List, [], ◌∷◌, Option, Some, None, refl, subst, arith, All, AllPairs, IsTrue, IsFalse}
use Rattle.std.proofs.lemmas.List.Elements.{All-nil, All-cons, All-weaker}
use Rattle.std.proofs.lemmas.List.Kept.{AllPairs-cons}
use Rattle.clk_base.specs.Walk.{Along}
use Rattle.clk_num.specs.Listed.{Listed}
use Rattle.clk_record.specs.declared.stable.Demotion.{Demotion}
use Rattle.clk_lawful.specs.Modes.{shows_stable, shows_percpu, reads_percpu, Modes, modes_of, IsOfMode, turned_after}
use Rattle.clk_lawful.specs.Standing.{either_demotion, demotion_by}
use Rattle.clk_lawful.specs.declared.event.Event.{Event}
use Rattle.clk_lawful.specs.declared.event.EventKind.{EventKind}
use Rattle.clk_lawful.specs.declared.event.EventKind.TheVariants.{Stable, Local, Couple, Stamp, Nothing, Update, Pause}
use Rattle.clk_laws.specs.Turning.{StaysPerCpu, NoStableAfterPerCpu, NoPerCpuUndemoted}

-- the events of a thread, of which some that read per-CPU may have been before
abbrev AreOfMode : Modes → ℤ → Bool → List Event → Type 0
AreOfMode m offset turned es = Along (λ turned e. IsOfMode m offset turned e.kind) (λ turned e. turned_after turned e.kind) turned es

-- ---- after a per-CPU reading

stays_turned : (k : EventKind) → turned_after true k ≡ true
stays_turned (Stable raw value) = refl
stays_turned (Local raw tick_raw tick_gtod offset old new) = refl
stays_turned (Couple asked own other word old new) = refl
stays_turned (Stamp gtod_ticket gtod raw) = refl
stays_turned Nothing = refl
stays_turned (Update p) = refl
stays_turned (Pause ticket count) = refl

turns : (turned : Bool) (k : EventKind) → IsTrue (reads_percpu k) → turned_after turned k ≡ true
turns turned (Stable raw value) h = absurd (cc)
turns turned (Local raw tick_raw tick_gtod offset old new) h = refl
turns turned (Couple asked own other word old new) h = absurd (cc)
turns turned (Stamp gtod_ticket gtod raw) h = absurd (cc)
turns turned Nothing h = absurd (cc)
turns turned (Update p) h = absurd (cc)
turns turned (Pause ticket count) h = absurd (cc)

not_stable : (m : Modes) (offset : ℤ) (k : EventKind) → IsOfMode m offset true k → IsFalse (shows_stable k)
not_stable m offset (Stable raw value) h = h.1
not_stable m offset (Local raw tick_raw tick_gtod shown old new) h = refl
not_stable m offset (Couple asked own other word old new) h = refl
not_stable m offset (Stamp gtod_ticket gtod raw) h = refl
not_stable m offset Nothing h = h.1
not_stable m offset (Update p) h = refl
not_stable m offset (Pause ticket count) h = refl

none_stable : (m : Modes) (offset : ℤ) (es : List Event) → AreOfMode m offset true es → All (λ e. IsFalse (shows_stable e.kind)) es
none_stable m offset [] h = All-nil (λ (e : Event). IsFalse (shows_stable e.kind))
none_stable m offset (e ∷ es) h =
    All-cons
    (λ (f : Event). IsFalse (shows_stable f.kind))
    e
    es
    (not_stable m offset e.kind h.0)
    (none_stable m offset es (subst (λ b. AreOfMode m offset b es) (stays_turned e.kind) h.1))

never_back : (m : Modes) (offset : ℤ) (turned : Bool) (es : List Event) → AreOfMode m offset turned es → AllPairs (λ e f. StaysPerCpu e.kind f.kind) es
never_back m offset turned [] h = λ i j d lt within. absurd (omega arith)
never_back m offset turned (e ∷ es) h =
    let after : IsTrue (reads_percpu e.kind) → All (λ (f : Event). IsFalse (shows_stable f.kind)) es =
    λ read. none_stable m offset es (subst (λ b. AreOfMode m offset b es) (turns turned e.kind read) h.1) in
    AllPairs-cons
    (λ (a b : Event). StaysPerCpu a.kind b.kind)
    e
    es
    (λ k d lt read. after read k d lt)
    (never_back m offset (turned_after turned e.kind) es h.1)

pub no_stable_after : NoStableAfterPerCpu
no_stable_after m t h =
    All-weaker
    (λ (es : Listed Event). AreOfMode (modes_of t) t.sched_offset false es.items)
    (λ (es : Listed Event). AllPairs (λ (e f : Event). StaysPerCpu e.kind f.kind) es.items)
    (λ es along. never_back (modes_of t) t.sched_offset false es.items along)
    t.threads.items
    h.modes

-- ---- without a demotion

not_percpu : (m : Modes) (offset : ℤ) (turned : Bool) (k : EventKind) → m.percpu ≡ false → IsOfMode m offset turned k → IsFalse (shows_percpu k)
not_percpu m offset turned (Stable raw value) off h = refl
not_percpu m offset turned (Local raw tick_raw tick_gtod shown old new) off h = absurd (let e : m.percpu ≡ true = h in cc)
not_percpu m offset turned (Couple asked own other word old new) off h = absurd (let e : m.percpu ≡ true = h in cc)
not_percpu m offset turned (Stamp gtod_ticket gtod raw) off h = absurd (let e : m.percpu ≡ true = h in cc)
not_percpu m offset turned Nothing off h = refl
not_percpu m offset turned (Update p) off h = refl
not_percpu m offset turned (Pause ticket count) off h = refl

none_percpu : (m : Modes) (offset : ℤ) (turned : Bool) (es : List Event) → m.percpu ≡ false → AreOfMode m offset turned es → All (λ e. IsFalse (shows_percpu e.kind)) es
none_percpu m offset turned [] off h = All-nil (λ (e : Event). IsFalse (shows_percpu e.kind))
none_percpu m offset turned (e ∷ es) off h =
    All-cons
    (λ (f : Event). IsFalse (shows_percpu f.kind))
    e
    es
    (not_percpu m offset turned e.kind off h.0)
    (none_percpu m offset (turned_after turned e.kind) es off h.1)

no_boot : (boot by : Option Demotion) → either_demotion boot by ≡ None → boot ≡ None
no_boot None by e = refl
no_boot (Some d) by e = e

no_later : (boot by : Option Demotion) → either_demotion boot by ≡ None → by ≡ None
no_later None by e = e
no_later (Some d) by e = absurd (cc)

pub no_percpu : NoPerCpuUndemoted
no_percpu m t h stable none =
    let boot : t.boot_demotion ≡ None = no_boot t.boot_demotion (demotion_by t.watch) none in
    let later : demotion_by t.watch ≡ None = no_later t.boot_demotion (demotion_by t.watch) none in
    let off : (modes_of t).percpu ≡ false = rw (stable, boot, later) refl in
    All-weaker
    (λ (es : Listed Event). AreOfMode (modes_of t) t.sched_offset false es.items)
    (λ (es : Listed Event). All (λ (e : Event). IsFalse (shows_percpu e.kind)) es.items)
    (λ es along. none_percpu (modes_of t) t.sched_offset false es.items off along)
    t.threads.items
    h.modes
