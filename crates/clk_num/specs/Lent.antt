-- What a list ends as, once a `&mut` to its items has ended.
use Rattle.std.specs.Prelude.{List, length}
use Rattle.std.specs.List.{refill}
use Rattle.std.specs.Borrow.{Lends, Fml, RattleType, MutBor, Array}
use Rattle.clk_num.specs.Listed.{Listed}
use Rattle.clk_num.specs.contracts.list.List.{the_row}

-- the list with these items in the place of its own, and the same room
abbrev pub with_items : {T : Type 0} → Listed T → List T → Listed T
with_items l xs = record { items = refill (length l.items) l.items xs; room = l.room }

-- the items are the last ones written through r
abbrev pub lends_items : (T : RattleType) → MutBor (Listed T.Denot) → MutBor (List T.Denot) → Fml
lends_items T l r = Lends (the_row T) (Array T 0) l r (with_items l.now)
