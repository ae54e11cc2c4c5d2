-- How many tickets a table has at most, and how many numbers some blocks have.
use Rattle.std.specs.Prelude.{ℕ, ◌^◌, List}
use Rattle.std.specs.List.{sum_by}
use Rattle.clk_base.specs.declared.block.Block.{Block}

-- the tickets of a table
abbrev pub most_tickets : ℕ
most_tickets = 2 ^ 26

-- the lengths of the blocks, added up
abbrev pub size_of : List Block → ℕ
size_of bs = sum_by (λ b. b.count) bs
