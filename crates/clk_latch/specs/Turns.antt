-- What the steps of a reading and of an update do to a view. No public contract cites it.
use Rattle.std.specs.Prelude.{◌≡◌, ℕ, ◌+◌, ◌*◌, ◌≤◌, true, List, [], ◌∷◌, ◌++◌, length}
use Rattle.std.specs.List.{All}
use mathlib.Core.Option.{some}
use mathlib.Core.List.{IsPrefix}
use lib.ListN.{get_elem?}
use Rattle.atomic_table.specs.Table.{Me}
use Rattle.clk_num.specs.Wrapping.{IsBitsOf}
use Rattle.clk_machine.specs.declared.reading.Published.{Published}
use Rattle.clk_latch.specs.LatchRule.{number, IsSmallIn, IsCyc, IsNs, IsOfTurn}
use Rattle.clk_latch.specs.declared.rule.Knows.{Knows}
use Rattle.clk_latch.specs.declared.rule.TurnBegin.{TurnBegin}
use Rattle.clk_latch.specs.declared.turn.Turn.{Turn}
use Rattle.clk_latch.specs.declared.turn.Current.{Current}

-- more turns have begun, and each was told this ticket
pub record BeganMore (ticket : ℕ) (before after : List TurnBegin) : Type 0 where
  pub more : List TurnBegin
  pub is : after ≡ before ++ more
  pub same : All (λ b. b.ticket ≡ ticket) more

-- the steps of a reading with this ticket: more records are seen, more turns have begun, a later sequence was seen
pub record Went (ticket : ℕ) (before after : Me (Unit {0}) Knows) : Type 0 where
  pub is : after ≡ (record before.0 { records = after.0.records; begins = after.0.begins; seen = after.0.seen; at = after.0.at }, before.1)
  pub records : IsPrefix before.0.records after.0.records
  pub begins : BeganMore ticket before.0.begins after.0.begins
  pub later : before.0.seen ≤ after.0.seen
  pub owner : before.0.owner ≡ true → (after.0.records ≡ before.0.records) × (after.0.seen ≡ before.0.seen)

-- a turn has loaded both words of a copy: they are those of its record, or the sequence is greater now
pub record HasTurn (v : Knows) (t : Turn) : Type 0 where
  pub at : v.at ≡ t.sequence
  pub begun : v.at ≤ v.seen
  pub low : v.at ≤ 2048
  pub count : length v.records ≡ number v.at + 1
  pub small : (p : Published) → get_elem? v.records (number v.at) ≡ some p → IsSmallIn v.records p
  pub cyc : v.seen ≤ v.at → IsOfTurn IsCyc v t.cyc
  pub ns : v.seen ≤ v.at → IsOfTurn IsNs v t.ns

-- the record that a reading uses is the last one that was seen
pub record HasCurrent (v : Knows) (c : Current) : Type 0 where
  pub record_is : Published
  pub there : get_elem? v.records c.rec ≡ some record_is
  pub cyc : record_is.cyc ≡ c.cyc
  pub ns : record_is.ns ≡ c.ns
  pub small : IsSmallIn v.records record_is
  pub count : length v.records ≡ c.rec + 1

-- a turn of this call was the last to begin, and found that record current; each was told this ticket
pub record BeganLast (ticket : ℕ) (before after : List TurnBegin) (rec : ℕ) : Type 0 where
  pub between : List TurnBegin
  pub same : All (λ b. b.ticket ≡ ticket) between
  pub is : after ≡ (before ++ between) ++ record { ticket = ticket; rec = rec } ∷ []

-- both words of a record were written to the idle copy
pub record HasWritten (p : Published) (before after : Me (Unit {0}) Knows) : Type 0 where
  pub word : ℕ
  pub is : after ≡ (record before.0 { wrote = p.cyc ∷ word ∷ [] }, before.1)
  pub ns : IsBitsOf p.ns word

-- a record may be published: the owner has an update left, and both copies hold its current record
pub record MayPublish (p : Published) (v : Knows) : Type 0 where
  pub owner : v.owner ≡ true
  pub left : 1 ≤ v.left
  pub even : v.seen + 2 ≡ 2 * length v.records
  pub idle : v.wrote ≡ []
  pub small : IsSmallIn v.records p

-- the idle copy holds a record, as the owner wrote it
pub record IsWritten (p : Published) (v : Knows) : Type 0 where
  pub owner : v.owner ≡ true
  pub word : ℕ
  pub wrote : v.wrote ≡ p.cyc ∷ word ∷ []
  pub ns : IsBitsOf p.ns word

-- the last of some records
abbrev pub EndsWith : List Published → Published → Type 0
EndsWith records p = (before : List Published) × (records ≡ before ++ p ∷ [])
