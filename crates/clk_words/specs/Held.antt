-- What contracts see of the words, of a seat, and of the words at the end.
use Rattle.std.specs.Prelude.{List}
use Rattle.atomic_table.specs.Seated.{TableId}
use Rattle.clk_record.specs.declared.step.Step.{Step}
use Rattle.clk_words.specs.declared.opening.Start.{Start}
use Rattle.clk_words.specs.declared.view.View.{View}

-- which words they are, and what they began with
pub record Place : Type 0 where
  pub table : TableId
  pub start : Start

-- a seat: the table that it belongs to, and what it knows
pub record Held : Type 0 where
  pub table : TableId
  pub view : View

-- the words that a seat belongs to
abbrev pub place_of : Held → Place
place_of h = record { table = h.table; start = h.view.start }

-- the words at the end, with their history
pub record Ended : Type 0 where
  pub start : Start
  pub history : List Step
