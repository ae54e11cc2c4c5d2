-- In which order a run draws its tickets.
use Rattle.std.specs.Prelude.{ℕ, List, [], ◌∷◌, ◌++◌, All, map, flat_map}
use Rattle.clk_base.specs.declared.block.Block.{Block}
use Rattle.clk_base.specs.Blocks.{Covers, RisesFrom, top_of}
use Rattle.clk_num.specs.Listed.{Listed}
use Rattle.clk_record.specs.WarpReadings.{all_readings}
use Rattle.clk_record.specs.declared.up.CpuUp.{CpuUp}
use Rattle.clk_record.specs.declared.stable.StableStamp.{StableStamp}
use Rattle.clk_lawful.specs.Checks.{listed, one, stamp_blocks, demotion_blocks}
use Rattle.clk_lawful.specs.declared.event.Event.{Event}
use Rattle.clk_lawful.specs.declared.event.EventKind.{EventKind}
use Rattle.clk_lawful.specs.declared.event.EventKind.TheVariants.{Stable, Local, Couple, Stamp, Nothing, Update, Pause}
use Rattle.clk_lawful.specs.declared.trace.Trace.{Trace}

-- what an event drew, in its order
abbrev pub blocks_of_kind : EventKind → List Block
blocks_of_kind (Stable raw value) = one raw.ticket ∷ []
blocks_of_kind (Local raw tick_raw tick_gtod offset old new) = one raw.ticket ∷ []
blocks_of_kind (Couple cpu own other word old new) = []
blocks_of_kind (Stamp gtod_ticket gtod raw) = one gtod_ticket ∷ one raw.ticket ∷ []
blocks_of_kind Nothing = []
blocks_of_kind (Update p) = one p.ticket ∷ []
blocks_of_kind (Pause ticket count) = record { first = ticket; count = count } ∷ []

abbrev pub blocks_of : Event → List Block
blocks_of e = blocks_of_kind e.kind

-- what a thread drew
abbrev pub thread_blocks : Listed Event → List Block
thread_blocks es = flat_map blocks_of es.items

-- what the boot drew: the epoch's ticket, and two for each stamp
abbrev pub boot_blocks : ℕ → List StableStamp → List Block
boot_blocks epoch boots = one epoch ∷ flat_map stamp_blocks boots

-- what the bring-up drew: one ticket for each reading of its runs
abbrev pub up_blocks : List CpuUp → List Block
up_blocks ups = map (λ r. one r.ticket) (all_readings ups)

-- what was drawn before the scripts: by the boot, the bring-up, and then a demotion at boot
abbrev pub first_blocks : Trace → List Block
first_blocks t =
    boot_blocks t.epoch_ticket t.boots.items ++ up_blocks t.ups.cpus.items ++ flat_map demotion_blocks (listed t.boot_demotion)

-- all blocks are disjoint and cover the numbers below n; those before the scripts rise and come first; each list rises
-- by itself
pub record IsTicketOrder (first : List Block) (lists : List (List Block)) (n : ℕ) : Type 0 where
  pub covers : Covers (first ++ flat_map (λ bs. bs) lists) n
  pub first_rise : RisesFrom 0 first
  pub lists_rise : All (RisesFrom (top_of 0 first)) lists
