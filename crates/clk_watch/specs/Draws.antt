-- Tickets that were drawn one by one.
use Rattle.std.specs.Prelude.{◌≡◌, ℕ, ◌+◌, ◌<◌, List, [], ◌∷◌, ◌++◌, map, length}
use Rattle.std.specs.List.{All}
use Rattle.clk_base.specs.declared.block.Block.{Block}
use Rattle.clk_base.specs.Blocks.{Rises}
use Rattle.clk_ticket.specs.Time.{Time, share_of}
use Rattle.clk_machine.specs.Limits.{most_tickets}

-- the block of one ticket
abbrev pub single : ℕ → Block
single ticket = record { first = ticket; count = 1 }

-- the number above the last of these tickets, or x if there are none
abbrev pub seen_after : ℕ → List ℕ → ℕ
seen_after x [] = x
seen_after x (ticket ∷ tickets) = seen_after (ticket + 1) tickets

-- these tickets were drawn, each alone and in this order, so that the blocks rise if they rose before
pub record DrawsEach (tickets : List ℕ) (before after : Time) : Type 0 where
  pub table_is : after.table ≡ before.table
  pub left : after.left + length tickets ≡ before.left
  pub blocks : after.blocks ≡ before.blocks ++ map single tickets
  pub seen : after.seen ≡ seen_after before.seen tickets
  pub share : share_of after ≡ share_of before
  pub rises : Rises before.blocks → Rises after.blocks
  pub below : All (λ ticket. ticket < most_tickets) tickets
