-- What contracts see of a table and of a seat, and what each call does to a seat.
use Rattle.std.specs.Prelude.{◌≡◌, ℕ, ◌+◌, ◌-◌, ◌≤◌, List, [], ◌∷◌, ◌++◌, max, refl}
use Rattle.std.specs.Coded.{Coded, code_by, coded×, coded_list, coded_ℕ}
use Rattle.atomic_table.specs.Seated.{TableId, table_id_coded}
use Rattle.clk_base.specs.declared.block.Block.{Block}
use Rattle.clk_base.specs.Blocks.{AllEndBy, Rises}
use Rattle.clk_ticket.specs.Sizes.{most_tickets, size_of}

-- which table it is, and how many tickets there are
pub record Tickets : Type 0 where
  pub table : TableId
  pub total : ℕ

-- a seat: its table, its budget, its blocks, and a number that the word had reached
pub record Time : Type 0 where
  pub table : TableId
  pub left : ℕ
  pub blocks : List Block
  pub seen : ℕ

-- what the seat has of the table's total, drawn or not: a draw keeps it, a split divides it, a join adds it up
abbrev pub share_of : Time → ℕ
share_of t = t.left + size_of t.blocks

-- a seat with a budget and no blocks
abbrev pub fresh : TableId → ℕ → ℕ → Time
fresh table left seen = record { table = table; left = left; blocks = []; seen = seen }

-- the seat with the block of n tickets from `first` on
abbrev pub after_draw : Time → ℕ → ℕ → Time
after_draw t first n =
    record t { left = t.left - n; blocks = t.blocks ++ (record { first = first; count = n }) ∷ []; seen = first + n }

-- a draw of n tickets: a block above all that the seat had seen, so that its blocks rise. The block ends by 2^26, and
-- so would one of the seat's whole budget from its first number on
pub record Draws (before : Time) (first n : ℕ) (after : Time) : Type 0 where
  pub is : after ≡ after_draw before first n
  pub later : before.seen ≤ first
  pub above : AllEndBy before.seen before.blocks
  pub rises : Rises before.blocks → Rises after.blocks
  pub budget : first + before.left ≤ most_tickets
  pub bound : first + n ≤ most_tickets
  pub share : share_of after ≡ share_of before

-- the seat with that much less of a budget
abbrev pub without : ℕ → Time → Time
without n t = record t { left = t.left - n }

-- two seats as one
abbrev pub both_of : Time → Time → Time
both_of a b = record a { left = a.left + b.left; blocks = a.blocks ++ b.blocks; seen = max a.seen b.seen }

-- a table is stored as the pair of its fields
abbrev pub tickets_code : Coded Tickets
tickets_code =
    code_by (TableId × ℕ) (coded× table_id_coded coded_ℕ) (λ t. (t.table, t.total)) (λ p. record { table = p.0; total = p.1 }) (λ _. refl)

-- so is a block
abbrev pub block_code : Coded Block
block_code =
    code_by (ℕ × ℕ) (coded× coded_ℕ coded_ℕ) (λ b. (b.first, b.count)) (λ p. record { first = p.0; count = p.1 }) (λ _. refl)

-- a seat is stored as its fields in a row
abbrev pub time_code : Coded Time
time_code =
    code_by
    (TableId × (ℕ × (List Block × ℕ)))
    (coded× table_id_coded (coded× coded_ℕ (coded× (coded_list block_code) coded_ℕ)))
    (λ t. (t.table, (t.left, (t.blocks, t.seen))))
    (λ p. record { table = p.0; left = p.1.0; blocks = p.1.1.0; seen = p.1.1.1 })
    (λ _. refl)
