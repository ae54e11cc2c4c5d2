-- The records that the updates of a trace published, and how readings name them.
use Rattle.std.specs.Prelude.{◌≡◌, ℕ, ◌≤◌, ℤ, List, [], ◌∷◌, flat_map}
use Rattle.clk_machine.specs.Plan.{Plan}
use Rattle.clk_machine.specs.Records.{record_zero, IsNextRecord}
use Rattle.clk_machine.specs.declared.reading.Published.{Published}
use Rattle.clk_lawful.specs.Threads.{own_events}
use Rattle.clk_lawful.specs.declared.event.Event.{Event}
use Rattle.clk_lawful.specs.declared.event.EventKind.{EventKind}
use Rattle.clk_lawful.specs.declared.event.EventKind.TheVariants.{Stable, Local, Couple, Stamp, Nothing, Update, Pause}
use Rattle.clk_lawful.specs.declared.trace.Trace.{Trace}

-- the record that an event published
abbrev pub update_of_kind : EventKind → List Published
update_of_kind (Stable raw value) = []
update_of_kind (Local raw tick_raw tick_gtod offset old new) = []
update_of_kind (Couple cpu own other word old new) = []
update_of_kind (Stamp gtod_ticket gtod raw) = []
update_of_kind Nothing = []
update_of_kind (Update p) = p ∷ []
update_of_kind (Pause ticket count) = []

abbrev pub updates_of : List Event → List Published
updates_of es = flat_map (λ e. update_of_kind e.kind) es

-- the records of a CPU: record 0, and the updates of its own thread
abbrev pub records_of : Plan → Trace → ℕ → List Published
records_of m t cpu = record_zero m ∷ updates_of (own_events cpu t)

-- an owner names the last record, and publishes the one after it
abbrev pub OwnsRecords : Plan → ℕ → ℤ → Published → EventKind → Type 0
OwnsRecords m cpu adjust last (Stable raw value) = raw.rec ≡ last.rec
OwnsRecords m cpu adjust last (Local raw tick_raw tick_gtod offset old new) = raw.rec ≡ last.rec
OwnsRecords m cpu adjust last (Couple asked own other word old new) = Unit {0}
OwnsRecords m cpu adjust last (Stamp gtod_ticket gtod raw) = raw.rec ≡ last.rec
OwnsRecords m cpu adjust last Nothing = Unit {0}
OwnsRecords m cpu adjust last (Update p) = IsNextRecord m cpu adjust last p
OwnsRecords m cpu adjust last (Pause ticket count) = Unit {0}

abbrev pub record_after : Published → EventKind → Published
record_after last (Stable raw value) = last
record_after last (Local raw tick_raw tick_gtod offset old new) = last
record_after last (Couple cpu own other word old new) = last
record_after last (Stamp gtod_ticket gtod raw) = last
record_after last Nothing = last
record_after last (Update p) = p
record_after last (Pause ticket count) = last

-- in another thread the records that readings name do not go back; the last one named had this number
abbrev pub NamesLater : ℕ → EventKind → Type 0
NamesLater named (Stable raw value) = named ≤ raw.rec
NamesLater named (Local raw tick_raw tick_gtod offset old new) = named ≤ raw.rec
NamesLater named (Couple cpu own other word old new) = Unit {0}
NamesLater named (Stamp gtod_ticket gtod raw) = named ≤ raw.rec
NamesLater named Nothing = Unit {0}
NamesLater named (Update p) = Unit {0}
NamesLater named (Pause ticket count) = Unit {0}

abbrev pub named_after : ℕ → EventKind → ℕ
named_after named (Stable raw value) = raw.rec
named_after named (Local raw tick_raw tick_gtod offset old new) = raw.rec
named_after named (Couple cpu own other word old new) = named
named_after named (Stamp gtod_ticket gtod raw) = raw.rec
named_after named Nothing = named
named_after named (Update p) = named
named_after named (Pause ticket count) = named
