-- The rule of a latch over words, and what each step tells.
use Rattle.std.specs.Prelude.{◌≡◌, ℕ, ◌+◌, ◌-◌, ◌*◌, ◌/◌, ◌%◌, ◌^◌, ◌<◌, ◌≤◌, nat_le, Bool, true, false, not, ◌||◌, ◌&&◌, if◌then◌else◌, List, [], ◌∷◌, ◌++◌, length, slice_index}
use mathlib.Core.Option.{some}
use mathlib.Core.List.{IsPrefix}
use lib.ListN.{get_elem?}
use Rattle.atomic_table.specs.Table.{State, Me, Step}
use Rattle.clk_num.specs.Range.{IsFrom0To}
use Rattle.clk_num.specs.Wrapping.{above, IsBitsOf}
use Rattle.clk_machine.specs.declared.reading.Published.{Published}
use Rattle.clk_latch.specs.declared.rule.Knows.{Knows}

-- word 0 is the sequence; words 1 and 2 are copy 0, words 3 and 4 copy 1
abbrev pub sequence : State (Unit {0}) Knows → ℕ
sequence s = slice_index s.words 0

-- the number of the record that is current at a sequence
abbrev pub number : ℕ → ℕ
number n = (n + 1) / 2

-- where the copy begins that is used at a sequence, and the idle one
abbrev pub used : ℕ → ℕ
used n = 1 + 2 * (n % 2)

abbrev pub idle : ℕ → ℕ
idle n = 3 - 2 * (n % 2)

-- the copy from the word i on holds a record
pub record Holds (words : List ℕ) (i : ℕ) (p : Published) : Type 0 where
  pub cyc : slice_index words i ≡ p.cyc
  pub ns : IsBitsOf p.ns (slice_index words (i + 1))

-- the words from i on are xs
abbrev pub Stands : List ℕ → ℕ → List ℕ → Type 0
Stands words i xs = (k : ℕ) → k < length xs → slice_index words (i + k) ≡ slice_index xs k

-- a record's counter value is that of a machine within its limits, and so is how far its ns are above those of record 0
pub record IsSmallIn (records : List Published) (p : Published) : Type 0 where
  pub cyc : p.cyc ≤ 83 * 2 ^ 41
  pub ns : (zero : Published) → get_elem? records 0 ≡ some zero → IsFrom0To (46 * 2 ^ 52) (above p.ns zero.ns)

-- what the owner knows of the words: it alone changes them
pub record Owns (n : ℕ) (all : List Published) (words : List ℕ) (v : Knows) : Type 0 where
  pub seen : v.seen ≡ n
  pub records : v.records ≡ all
  pub left : n + 2 * v.left ≤ 2048
  pub wrote : Stands words (idle n) v.wrote

-- what each view knows
pub record Known (n : ℕ) (all : List Published) (words : List ℕ) (v : Knows) : Type 0 where
  pub begun : v.at ≤ v.seen
  pub seen : v.seen ≤ n
  pub records : IsPrefix v.records all
  pub told : IsPrefix v.told all
  pub once : v.twice ≡ false
  pub reader : v.owner ≡ false → v.left ≡ 0
  pub owner : v.owner ≡ true → Owns n all words v

-- the rule, which holds between any two steps
pub record Latched (s : State (Unit {0}) Knows) : Type 0 where
  -- one list of records
  pub all : List Published
  pub wide : length s.words ≡ 5
  pub low : sequence s ≤ 2048
  -- the last one is current, and the copy that is used holds it whole
  pub count : length all ≡ number (sequence s) + 1
  pub whole : (p : Published) → get_elem? all (number (sequence s)) ≡ some p → Holds s.words (used (sequence s)) p
  pub small : (i : ℕ) (p : Published) → get_elem? all i ≡ some p → IsSmallIn all p
  pub known : (j : ℕ) (v : Knows) → get_elem? s.views j ≡ some v → Known (sequence s) all s.words v
  -- one seat has the owner's right
  pub owner : ℕ
  pub one_owner : (j : ℕ) (v : Knows) → get_elem? s.views j ≡ some v → v.owner ≡ true → j ≡ owner

-- ---- views

abbrev pub knows_first : Published → ℕ → Knows
knows_first zero updates = record {
  owner = true;
  left = updates;
  twice = false;
  records = zero ∷ [];
  told = [];
  begins = [];
  seen = 0;
  at = 0;
  wrote = [];
}

-- after a turn of a reading with this ticket began at a sequence: the records up to its own, and one begin
abbrev pub knows_begun : ℕ → ℕ → List Published → Knows → Knows
knows_begun ticket n records v = record v {
  records = records;
  begins = v.begins ++ record { ticket = ticket; rec = number n } ∷ [];
  seen = n;
  at = n;
}

-- after a later sequence was seen
abbrev pub knows_later : ℕ → Knows → Knows
knows_later n v = record v { seen = n }

-- after one more word of the idle copy was written
abbrev pub knows_written : ℕ → Knows → Knows
knows_written x v = record v { wrote = v.wrote ++ x ∷ [] }

-- after the sequence was raised past a new record, and past its second copy
abbrev pub knows_published : Published → Knows → Knows
knows_published p v = record v { left = v.left - 1; records = v.records ++ p ∷ []; seen = v.seen + 1; wrote = [] }

abbrev pub knows_settled : Knows → Knows
knows_settled v = record v { seen = v.seen + 1; wrote = [] }

-- what a split gives
abbrev pub knows_reader : Knows → Knows
knows_reader v = record {
  owner = false;
  left = 0;
  twice = false;
  records = v.records;
  told = [];
  begins = [];
  seen = v.seen;
  at = v.at;
  wrote = [];
}

-- a spent view
abbrev pub knows_nothing : Knows
knows_nothing = record {
  owner = false;
  left = 0;
  twice = false;
  records = [];
  told = [];
  begins = [];
  seen = 0;
  at = 0;
  wrote = [];
}

-- a join keeps what the owner has seen, or else the longer list of records
abbrev pub first_stays : Knows → Knows → Bool
first_stays v w = v.owner || (not w.owner && nat_le (length w.records) (length v.records))

-- the view that stays, with the other's records told beside it, until a load says that they begin those that stay
abbrev pub stays_beside : Knows → Knows → Knows → Knows → Knows
stays_beside v w stays other = record {
  owner = v.owner || w.owner;
  left = v.left + w.left;
  twice = v.owner && w.owner;
  records = stays.records;
  told = other.records;
  begins = v.begins;
  seen = stays.seen;
  at = stays.at;
  wrote = stays.wrote;
}

abbrev pub knows_both : Knows → Knows → Knows
knows_both v w = if first_stays v w then stays_beside v w v w else stays_beside v w w v

-- ---- what steps tell

-- a turn begins with a load of the sequence, which is told the reading's ticket: the records have grown up to the one
-- that is current
pub record Began (ticket : ℕ) (st : Step (Unit {0})) (before : Me (Unit {0}) Knows) (found : ℕ) (after : Me (Unit {0}) Knows) : Type 0 where
  pub records : List Published
  pub is : after ≡ (knows_begun ticket found records before.0, before.1)
  pub grown : IsPrefix before.0.records records
  pub later : before.0.seen ≤ found
  pub low : found ≤ 2048
  pub count : length records ≡ number found + 1
  pub small : (p : Published) → get_elem? records (number found) ≡ some p → IsSmallIn records p
  pub owner : before.0.owner ≡ true → (records ≡ before.0.records) × (found ≡ before.0.seen)

-- a load of a word of a copy: the field of the turn's record, or the sequence is greater now
abbrev pub IsOfTurn : (Published → ℕ → Type 0) → Knows → ℕ → Type 0
IsOfTurn Field v found = (p : Published) → get_elem? v.records (number v.at) ≡ some p → Field p found

pub record Loaded (Field : Published → ℕ → Type 0) (before : Me (Unit {0}) Knows) (found : ℕ) (after : Me (Unit {0}) Knows) : Type 0 where
  pub now : ℕ
  pub is : after ≡ (knows_later now before.0, before.1)
  pub later : before.0.seen ≤ now
  pub whole : now ≤ before.0.at → IsOfTurn Field before.0 found
  pub owner : before.0.owner ≡ true → now ≡ before.0.seen

abbrev pub IsCyc : Published → ℕ → Type 0
IsCyc p x = p.cyc ≡ x

abbrev pub IsNs : Published → ℕ → Type 0
IsNs p x = IsBitsOf p.ns x

-- the load of the sequence that closes a turn
pub record Closed (st : Step (Unit {0})) (before : Me (Unit {0}) Knows) (found : ℕ) (after : Me (Unit {0}) Knows) : Type 0 where
  pub is : after ≡ (knows_later found before.0, before.1)
  pub later : before.0.seen ≤ found
  pub low : found ≤ 2048
  pub owner : before.0.owner ≡ true → found ≡ before.0.seen

-- a store to the idle copy
pub record Put (st : Step (Unit {0})) (before : Me (Unit {0}) Knows) (found : ℕ) (after : Me (Unit {0}) Knows) : Type 0 where
  pub is : after ≡ (knows_written st.first before.0, before.1)

-- the load after a join
pub record Learnt (st : Step (Unit {0})) (before : Me (Unit {0}) Knows) (found : ℕ) (after : Me (Unit {0}) Knows) : Type 0 where
  pub is : after ≡ before
  pub once : before.0.twice ≡ false
  pub told : length before.0.told ≤ length before.0.records → IsPrefix before.0.told before.0.records
  pub owner : before.0.owner ≡ true → IsPrefix before.0.told before.0.records
