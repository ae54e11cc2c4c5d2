-- The rule of the ticket table, and what each step tells.
use Rattle.std.specs.Prelude.{◌≡◌, ℕ, ◌+◌, ◌-◌, ◌≤◌, [], ◌∷◌, ◌++◌, length, slice_index, max}
use Rattle.std.specs.List.{sum_by}
use mathlib.Core.Option.{some}
use lib.ListN.{get_elem?}
use Rattle.atomic_table.specs.Table.{State, Me, Step}
use Rattle.clk_base.specs.Blocks.{once_below, times_in}
use Rattle.clk_base.specs.Blocks.{AllEndBy}
use Rattle.clk_ticket.specs.Sizes.{most_tickets, size_of}
use Rattle.clk_ticket.specs.declared.rule.Knows.{Knows}

-- the word is how many tickets were drawn
abbrev pub word_of : State (Unit {0}) Knows → ℕ
word_of s = slice_index s.words 0

-- the rule, which holds between any two steps
pub record Kept (total : ℕ) (s : State (Unit {0}) Knows) : Type 0 where
  pub wide : length s.words ≡ 1
  pub bound : total ≤ most_tickets
  -- the word is the total less the sum of all budgets left
  pub budget : word_of s + sum_by (λ v. v.left) s.views ≡ total
  -- the blocks of all seats, ended ones too, are disjoint and cover the numbers below the word
  pub size : sum_by (λ v. size_of v.blocks) s.views ≡ word_of s
  pub cover : (x : ℕ) → sum_by (λ v. times_in x v.blocks) s.views ≡ once_below x (word_of s)
  -- a seat has seen a number not above the word, and all its blocks lie below that number
  pub behind : (j : ℕ) (v : Knows) → get_elem? s.views j ≡ some v → (v.seen ≤ word_of s) × AllEndBy v.seen v.blocks

-- a seat with a budget and no blocks
abbrev pub knows_budget : ℕ → ℕ → Knows
knows_budget left seen = record { left = left; blocks = []; seen = seen }

-- what a seat knows after a draw of the n tickets from `first` on
abbrev pub knows_more : ℕ → ℕ → Knows → Knows
knows_more first n v = record { left = v.left - n; blocks = v.blocks ++ (record { first = first; count = n }) ∷ []; seen = first + n }

-- after a split that gives n away
abbrev pub knows_less : ℕ → Knows → Knows
knows_less n v = record { left = v.left - n; blocks = v.blocks; seen = v.seen }

-- after a join
abbrev pub knows_both : Knows → Knows → Knows
knows_both v w = record { left = v.left + w.left; blocks = v.blocks ++ w.blocks; seen = max v.seen w.seen }

-- a draw of the number added: the block begins at the word found
pub record Drew (st : Step (Unit {0})) (before : Me (Unit {0}) Knows) (found : ℕ) (after : Me (Unit {0}) Knows) : Type 0 where
  pub is : after ≡ (knows_more found st.first before.0, before.1)
  pub later : before.0.seen ≤ found
  pub budget : found + before.0.left ≤ most_tickets
  pub bound : found + st.first ≤ most_tickets

-- a load that changes nothing
pub record Looked (st : Step (Unit {0})) (before : Me (Unit {0}) Knows) (found : ℕ) (after : Me (Unit {0}) Knows) : Type 0 where
  pub is : after ≡ before
  pub fits : before.0.left ≤ most_tickets
  pub behind : AllEndBy before.0.seen before.0.blocks
