-- The stamps of a CPU, and how per-CPU readings name them.
use Rattle.std.specs.Prelude.{◌≡◌, ℕ, ◌+◌, max, ℤ, pos, ◌&&◌, nat_le, List, [], ◌∷◌, map, flat_map, if◌then◌else◌, Option, Some, None, option_map, option_and_then, unwrap_or, IsSome}
use Rattle.std.specs.Ordering.{int_eq}
use Rattle.clk_record.specs.declared.stable.StableStamp.{StableStamp}
use Rattle.clk_record.specs.declared.stable.Demotion.{Demotion}
use Rattle.clk_lawful.specs.Threads.{own_events}
use Rattle.clk_lawful.specs.declared.event.EventKind.{EventKind}
use Rattle.clk_lawful.specs.declared.event.EventKind.TheVariants.{Stable, Local, Couple, Stamp, Nothing, Update, Pause}
use Rattle.clk_lawful.specs.Standing.{demotion_of}
use Rattle.clk_lawful.specs.declared.trace.Trace.{Trace}

-- the pair of a stamp: the raw reading and the monotonic time there, in ns
pub record Pair : Type 0 where
  pub raw : ℤ
  pub gtod : ℤ

-- ---- the boot's

abbrev pub boot_pair : StableStamp → Pair
boot_pair s = record { raw = s.raw.ns; gtod = s.gtod }

-- the last pair of some, or p if there are none, and the first one
abbrev pub last_pair : Pair → List StableStamp → Pair
last_pair p [] = p
last_pair p (s ∷ ss) = last_pair (boot_pair s) ss

abbrev pub first_pair : Pair → List StableStamp → Pair
first_pair p [] = p
first_pair p (s ∷ ss) = boot_pair s

abbrev pub no_pair : Pair
no_pair = record { raw = pos 0; gtod = pos 0 }

-- the pair that stood when the clock became per-CPU: a demotion's, or else the boot's last one
abbrev pub pair_at : Pair → Option Demotion → Pair
pair_at p None = p
pair_at p (Some d) = record { raw = d.raw.ns; gtod = d.gtod }

abbrev pub stamp_zero : Trace → Pair
stamp_zero t = pair_at (last_pair no_pair t.boots.items) (demotion_of t)

-- ---- a CPU's

abbrev pub stamp_of_kind : EventKind → List Pair
stamp_of_kind (Stable raw value) = []
stamp_of_kind (Local raw tick_raw tick_gtod offset old new) = []
stamp_of_kind (Couple cpu own other word old new) = []
stamp_of_kind (Stamp gtod_ticket gtod raw) = record { raw = raw.ns; gtod = gtod } ∷ []
stamp_of_kind Nothing = []
stamp_of_kind (Update p) = []
stamp_of_kind (Pause ticket count) = []

-- the stamps of a CPU by their numbers: the pair that stood first, and those of its own thread
abbrev pub stamps_of : Trace → ℕ → List Pair
stamps_of t cpu = stamp_zero t ∷ flat_map (λ e. stamp_of_kind e.kind) (own_events cpu t)

-- ---- an owner's readings

-- the pair that stands after an event, and whether an event names the pair that stands and this offset
abbrev pub pair_after : Pair → EventKind → Pair
pair_after p (Stable raw value) = p
pair_after p (Local raw tick_raw tick_gtod offset old new) = p
pair_after p (Couple cpu own other word old new) = p
pair_after p (Stamp gtod_ticket gtod raw) = record { raw = raw.ns; gtod = gtod }
pair_after p Nothing = p
pair_after p (Update q) = p
pair_after p (Pause ticket count) = p

abbrev pub NamesPair : ℤ → Pair → EventKind → Type 0
NamesPair offset p (Stable raw value) = Unit {0}
NamesPair offset p (Local raw tick_raw tick_gtod shown old new) = (tick_raw ≡ p.raw) × (tick_gtod ≡ p.gtod) × (shown ≡ offset)
NamesPair offset p (Couple cpu own other word old new) = Unit {0}
NamesPair offset p (Stamp gtod_ticket gtod raw) = Unit {0}
NamesPair offset p Nothing = Unit {0}
NamesPair offset p (Update q) = Unit {0}
NamesPair offset p (Pause ticket count) = Unit {0}

-- ---- a reader's readings

-- the numbers of the stamps whose halves a reading names; caught half-way through a stamp, it names two stamps
pub record Numbers : Type 0 where
  pub raw : ℕ
  pub gtod : ℕ

abbrev pub first_numbers : Numbers
first_numbers = record { raw = 0; gtod = 0 }

-- the least place from `low` on at which x stands, in a list whose places are counted from n
abbrev pub least_from : ℤ → ℕ → ℕ → List ℤ → Option ℕ
least_from x low n [] = None
least_from x low n (y ∷ ys) = if nat_le low n && int_eq y x then Some n else least_from x low (n + 1) ys

-- the least numbers that a reading can name after one with these: neither goes back, and the GTOD is not older than the
-- raw clock
abbrev pub numbers_of : List Pair → Numbers → ℤ → ℤ → Option Numbers
numbers_of stamps last tick_raw tick_gtod =
    option_and_then
    (λ j. option_map (λ i. record { raw = j; gtod = i }) (least_from tick_gtod (max j last.gtod) 0 (map (λ s. s.gtod) stamps)))
    (least_from tick_raw last.raw 0 (map (λ s. s.raw) stamps))

abbrev pub NamesStamps : List Pair → ℤ → Numbers → EventKind → Type 0
NamesStamps stamps offset last (Stable raw value) = Unit {0}
NamesStamps stamps offset last (Local raw tick_raw tick_gtod shown old new) = IsSome (numbers_of stamps last tick_raw tick_gtod) × (shown ≡ offset)
NamesStamps stamps offset last (Couple cpu own other word old new) = Unit {0}
NamesStamps stamps offset last (Stamp gtod_ticket gtod raw) = Unit {0}
NamesStamps stamps offset last Nothing = Unit {0}
NamesStamps stamps offset last (Update p) = Unit {0}
NamesStamps stamps offset last (Pause ticket count) = Unit {0}

abbrev pub numbers_after : List Pair → Numbers → EventKind → Numbers
numbers_after stamps last (Stable raw value) = last
numbers_after stamps last (Local raw tick_raw tick_gtod offset old new) = unwrap_or (numbers_of stamps last tick_raw tick_gtod) last
numbers_after stamps last (Couple cpu own other word old new) = last
numbers_after stamps last (Stamp gtod_ticket gtod raw) = last
numbers_after stamps last Nothing = last
numbers_after stamps last (Update p) = last
numbers_after stamps last (Pause ticket count) = last
