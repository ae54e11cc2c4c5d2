-- The readings of a run are right: each goes by a record that its thread knows, none older than before; the latch's
-- owner reads by the last of its own records.
use Rattle.std.proofs.Common.{◌≡◌, ℕ, ◌+◌, ◌<◌, ℤ, true, List, [], ◌∷◌, ◌++◌, length, ap, ◌∙◌, sym, subst, arith, length-append, append_assoc, append-nil}
use Rattle.std.specs.List.{All}
use Rattle.std.proofs.lemmas.List.Elements.{All-nil, All-cons}
use mathlib.Core.List.{IsPrefix}
use Rattle.clk_base.specs.Walk.{Along}
use Rattle.clk_machine.specs.Plan.{Plan}
use Rattle.clk_machine.specs.Records.{record_zero, IsNextRecord}
use Rattle.clk_machine.specs.declared.reading.Published.{Published}
use Rattle.clk_lawful.specs.Updates.{update_of_kind, updates_of, OwnsRecords, record_after, NamesLater, named_after}
use Rattle.clk_lawful.specs.RightReadings.{IsRightKind}
use Rattle.clk_lawful.specs.declared.event.Event.{Event}
use Rattle.clk_lawful.specs.declared.event.EventKind.{EventKind}
use Rattle.clk_lawful.specs.declared.event.EventKind.TheVariants.{Stable, Local, Couple, Stamp, Nothing, Update, Pause}
use Rattle.clk_latch.specs.Epoch.{Epoch}
use Rattle.clk_latch.specs.Calls.{last_of}
use Rattle.clk_latch.proofs.Prefixes.{prefix_self, prefix_trans, prefix_length}
use Rattle.clk_latch.proofs.Updating.{last_is}
use Rattle.clk_latch.proofs.Staying.{stay_right}
use Rattle.clk_local.specs.Context.{Site, Known}
use Rattle.clk_worker.specs.Running.{Shows, HasLooked, Runs, at_call}

-- what the clock's seat has of the latch
abbrev pub records_in : Known → List Published
records_in v = v.epoch.records

abbrev pub IsOwner : Known → Type 0
IsOwner v = v.epoch.owner ≡ true

-- ---- the owner's

-- looks leave the owner what it is
looked_owner : (v w : Known) → HasLooked v w → IsOwner v → IsOwner w
looked_owner v w h own = ap (λ (e : Epoch). e.owner) h.epoch_is ∙ own

-- so does an event, which adds the record that it published
shows_owner : (z : Site) (v : Known) (k : EventKind) (w : Known) → Shows z v k w → IsOwner v → IsOwner w
shows_owner z v (Stable raw value) w h own = h.stable.reads.reads.kept.0 ∙ own
shows_owner z v (Local raw tick_raw tick_gtod offset old new) w h own = h.raised.reads.reads.kept.0 ∙ own
shows_owner z v (Couple asked mine other word old new) w h own = ap (λ (e : Epoch). e.owner) h.coupled.epoch_is ∙ own
shows_owner z v (Stamp gtod_ticket gtod raw) w h own = h.stamps.reads.reads.kept.0 ∙ own
shows_owner z v Nothing w h own = ap (λ (x : Known). x.epoch.owner) h.same ∙ own
shows_owner z v (Update p) w h own = ap (λ (e : Epoch). e.owner) h.updates.is ∙ own
shows_owner z v (Pause ticket count) w h own = ap (λ (e : Epoch). e.owner) h.epoch_is ∙ own

shows_records : (z : Site) (v : Known) (k : EventKind) (w : Known) → Shows z v k w → IsOwner v → records_in w ≡ records_in v ++ update_of_kind k
shows_records z v (Stable raw value) w h own = h.stable.reads.reads.owner own ∙ sym (append-nil (records_in v))
shows_records z v (Local raw tick_raw tick_gtod offset old new) w h own = h.raised.reads.reads.owner own ∙ sym (append-nil (records_in v))
shows_records z v (Couple asked mine other word old new) w h own = ap (λ (e : Epoch). e.records) h.coupled.epoch_is ∙ sym (append-nil (records_in v))
shows_records z v (Stamp gtod_ticket gtod raw) w h own = h.stamps.reads.reads.owner own ∙ sym (append-nil (records_in v))
shows_records z v Nothing w h own = ap records_in h.same ∙ sym (append-nil (records_in v))
shows_records z v (Update p) w h own = ap (λ (e : Epoch). e.records) h.updates.is
shows_records z v (Pause ticket count) w h own = ap (λ (e : Epoch). e.records) h.epoch_is ∙ sym (append-nil (records_in v))

pub runs_records : (z : Site) (v : Known) (es : List Event) (w : Known) → Runs z v es w → IsOwner v → records_in w ≡ records_in v ++ updates_of es
runs_records z v [] w r own = rw (← r) (sym (append-nil (records_in v)))
runs_records z v (e ∷ es) w r own =
    let here = looked_owner v r.0 r.2 own in
    runs_records z r.1 es w r.4 (shows_owner (at_call z e.call) r.0 e.kind r.1 r.3 here)
    ∙ ap (λ (xs : List Published). xs ++ updates_of es) (shows_records (at_call z e.call) r.0 e.kind r.1 r.3 here)
    ∙ ap (λ (x : Epoch). (x.records ++ update_of_kind e.kind) ++ updates_of es) r.2.epoch_is
    ∙ append_assoc (records_in v) (update_of_kind e.kind) (updates_of es)

-- ---- any thread's records grow

shows_grown : (z : Site) (v : Known) (k : EventKind) (w : Known) → Shows z v k w → IsPrefix (records_in v) (records_in w)
shows_grown z v (Stable raw value) w h = h.stable.reads.reads.seen
shows_grown z v (Local raw tick_raw tick_gtod offset old new) w h = h.raised.reads.reads.seen
shows_grown z v (Couple asked own other word old new) w h =
    subst (λ (x : Epoch). IsPrefix (records_in v) x.records) (sym h.coupled.epoch_is) (prefix_self (records_in v))
shows_grown z v (Stamp gtod_ticket gtod raw) w h = h.stamps.reads.reads.seen
shows_grown z v Nothing w h = subst (λ (x : Known). IsPrefix (records_in v) (records_in x)) (sym h.same) (prefix_self (records_in v))
shows_grown z v (Update p) w h = (p ∷ [], sym (ap (λ (x : Epoch). x.records) h.updates.is))
shows_grown z v (Pause ticket count) w h = subst (λ (x : Epoch). IsPrefix (records_in v) x.records) (sym h.epoch_is) (prefix_self (records_in v))

pub runs_grown : (z : Site) (v : Known) (es : List Event) (w : Known) → Runs z v es w → IsPrefix (records_in v) (records_in w)
runs_grown z v [] w r = subst (λ (x : Known). IsPrefix (records_in v) (records_in x)) r (prefix_self (records_in v))
runs_grown z v (e ∷ es) w r =
    subst (λ (x : Epoch). IsPrefix x.records (records_in w)) r.2.epoch_is
    (prefix_trans (records_in r.0) (records_in r.1) (records_in w) (shows_grown (at_call z e.call) r.0 e.kind r.1 r.3) (runs_grown z r.1 es w r.4))

-- a reading is right by the records that its seat has then, and by more of them
shows_right : (z : Site) (v : Known) (k : EventKind) (w : Known) → Shows z v k w → IsRightKind z.machine z.cpu z.adjust (records_in w) k
shows_right z v (Stable raw value) w h = h.stable.reads.reads.right
shows_right z v (Local raw tick_raw tick_gtod offset old new) w h = h.raised.reads.reads.right
shows_right z v (Couple asked own other word old new) w h = tt
shows_right z v (Stamp gtod_ticket gtod raw) w h = (h.stamps.gtod_is, h.stamps.reads.reads.right)
shows_right z v Nothing w h = tt
shows_right z v (Update p) w h = tt
shows_right z v (Pause ticket count) w h = tt

pub right_more : (m : Plan) (cpu : ℕ) (adjust : ℤ) (records more : List Published) (k : EventKind) → IsPrefix records more → IsRightKind m cpu adjust records k → IsRightKind m cpu adjust more k
right_more m cpu adjust records more (Stable raw value) begins h = stay_right m cpu adjust records more raw begins h
right_more m cpu adjust records more (Local raw tick_raw tick_gtod offset old new) begins h = stay_right m cpu adjust records more raw begins h
right_more m cpu adjust records more (Couple asked own other word old new) begins h = tt
right_more m cpu adjust records more (Stamp gtod_ticket gtod raw) begins h = (h.0, stay_right m cpu adjust records more raw begins h.1)
right_more m cpu adjust records more Nothing begins h = tt
right_more m cpu adjust records more (Update p) begins h = tt
right_more m cpu adjust records more (Pause ticket count) begins h = tt

pub runs_right : (z : Site) (v : Known) (es : List Event) (w : Known) → Runs z v es w → All (λ e. IsRightKind z.machine z.cpu z.adjust (records_in w) e.kind) es
runs_right z v [] w r = All-nil (λ e. IsRightKind z.machine z.cpu z.adjust (records_in w) e.kind)
runs_right z v (e ∷ es) w r =
    All-cons (λ e. IsRightKind z.machine z.cpu z.adjust (records_in w) e.kind) e es
    (right_more z.machine z.cpu z.adjust (records_in r.1) (records_in w) e.kind (runs_grown z r.1 es w r.4) (shows_right (at_call z e.call) r.0 e.kind r.1 r.3))
    (runs_right z r.1 es w r.4)

-- ---- the records that readings name do not go back

shows_later : (z : Site) (v : Known) (k : EventKind) (w : Known) (named : ℕ) → Shows z v k w → named < length (records_in v)
    → NamesLater named k × (named_after named k < length (records_in w))
shows_later z v (Stable raw value) w named h low =
    let grown = prefix_length (records_in v) (records_in w) h.stable.reads.reads.seen in
    let last = h.stable.reads.reads.last in
    (omega (arith, low, grown, last), omega (arith, last))
shows_later z v (Local raw tick_raw tick_gtod offset old new) w named h low =
    let grown = prefix_length (records_in v) (records_in w) h.raised.reads.reads.seen in
    let last = h.raised.reads.reads.last in
    (omega (arith, low, grown, last), omega (arith, last))
shows_later z v (Couple asked own other word old new) w named h low =
    let grown = prefix_length (records_in v) (records_in w) (shows_grown z v (Couple asked own other word old new) w h) in
    (tt, omega (arith, low, grown))
shows_later z v (Stamp gtod_ticket gtod raw) w named h low =
    let grown = prefix_length (records_in v) (records_in w) h.stamps.reads.reads.seen in
    let last = h.stamps.reads.reads.last in
    (omega (arith, low, grown, last), omega (arith, last))
shows_later z v Nothing w named h low = (tt, subst (λ (x : Known). named < length (records_in x)) (sym h.same) low)
shows_later z v (Update p) w named h low =
    let grown = prefix_length (records_in v) (records_in w) (shows_grown z v (Update p) w h) in
    (tt, omega (arith, low, grown))
shows_later z v (Pause ticket count) w named h low =
    let grown = prefix_length (records_in v) (records_in w) (shows_grown z v (Pause ticket count) w h) in
    (tt, omega (arith, low, grown))

pub runs_later : (z : Site) (v : Known) (es : List Event) (w : Known) (named : ℕ) → Runs z v es w → named < length (records_in v)
    → Along (λ n e. NamesLater n e.kind) (λ n e. named_after n e.kind) named es
runs_later z v [] w named r low = tt
runs_later z v (e ∷ es) w named r low =
    let here = shows_later (at_call z e.call) r.0 e.kind r.1 named r.3 (subst (λ (x : Epoch). named < length x.records) (sym r.2.epoch_is) low) in
    (here.0, runs_later z r.1 es w (named_after named e.kind) r.4 here.1)

-- ---- an owner's name the last record, and an update publishes the one after it

-- the last of the owner's records, by whose number they are counted
pub record EndsBy (last : Published) (zero : Published) (v : Known) : Type 0 where
  pub is : last_of zero (records_in v) ≡ last
  pub count : length (records_in v) ≡ last.rec + 1

ends_same : (last zero : Published) (v w : Known) → records_in w ≡ records_in v → EndsBy last zero v → EndsBy last zero w
ends_same last zero v w same h = record { is = ap (last_of zero) same ∙ h.is; count = ap length same ∙ h.count }

-- one event: it goes by the last record, and leaves a last one
shows_owned : (z : Site) (v : Known) (k : EventKind) (w : Known) (last : Published) → Shows z v k w → IsOwner v → EndsBy last (record_zero z.machine) v
    → OwnsRecords z.machine z.cpu z.adjust last k × EndsBy (record_after last k) (record_zero z.machine) w
shows_owned z v (Stable raw value) w last h own ends =
    let same = h.stable.reads.reads.owner own in
    let count = ap length same in
    let named = h.stable.reads.reads.last in
    let had = ends.count in
    (omega (arith, count, named, had), ends_same last (record_zero z.machine) v w same ends)
shows_owned z v (Local raw tick_raw tick_gtod offset old new) w last h own ends =
    let same = h.raised.reads.reads.owner own in
    let count = ap length same in
    let named = h.raised.reads.reads.last in
    let had = ends.count in
    (omega (arith, count, named, had), ends_same last (record_zero z.machine) v w same ends)
shows_owned z v (Couple asked mine other word old new) w last h own ends =
    (tt, ends_same last (record_zero z.machine) v w (ap (λ (e : Epoch). e.records) h.coupled.epoch_is) ends)
shows_owned z v (Stamp gtod_ticket gtod raw) w last h own ends =
    let same = h.stamps.reads.reads.owner own in
    let count = ap length same in
    let named = h.stamps.reads.reads.last in
    let had = ends.count in
    (omega (arith, count, named, had), ends_same last (record_zero z.machine) v w same ends)
shows_owned z v Nothing w last h own ends = (tt, ends_same last (record_zero z.machine) v w (ap records_in h.same) ends)
shows_owned z v (Update p) w last h own ends =
    let next : IsNextRecord z.machine z.cpu z.adjust last p = subst (λ x. IsNextRecord z.machine z.cpu z.adjust x p) ends.is h.updates.next in
    let grown : records_in w ≡ records_in v ++ p ∷ [] = ap (λ (e : Epoch). e.records) h.updates.is in
    let number = h.updates.number in (
      next,
      record {
        is = last_is (record_zero z.machine) p (records_in w) (records_in v) grown;
        count = ap length grown ∙ length-append (records_in v) (p ∷ []) ∙ ap (λ n. n + 1) (sym number);
      },
    )
shows_owned z v (Pause ticket count) w last h own ends =
    (tt, ends_same last (record_zero z.machine) v w (ap (λ (e : Epoch). e.records) h.epoch_is) ends)

pub runs_owned : (z : Site) (v : Known) (es : List Event) (w : Known) (last : Published) → Runs z v es w → IsOwner v → EndsBy last (record_zero z.machine) v
    → Along (λ r e. OwnsRecords z.machine z.cpu z.adjust r e.kind) (λ r e. record_after r e.kind) last es
runs_owned z v [] w last r own ends = tt
runs_owned z v (e ∷ es) w last r own ends =
    let here = looked_owner v r.0 r.2 own in
    let one = shows_owned (at_call z e.call) r.0 e.kind r.1 last r.3 here (ends_same last (record_zero z.machine) v r.0 (ap (λ (x : Epoch). x.records) r.2.epoch_is) ends) in
    (one.0, runs_owned z r.1 es w (record_after last e.kind) r.4 (shows_owner (at_call z e.call) r.0 e.kind r.1 r.3 here) one.1)
