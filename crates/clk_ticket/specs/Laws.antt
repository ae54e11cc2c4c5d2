-- What it means that blocks cover.
use Rattle.std.specs.Prelude.{◌≡◌, ◌↔◌, ℕ, ◌<◌, ◌≤◌, List, Some, slice_get}
use Rattle.clk_base.specs.declared.block.Block.{Block}
use Rattle.clk_base.specs.Blocks.{end_of, Covers}

-- the number x stands in the block at the place i
pub record StandsAt (bs : List Block) (i x : ℕ) : Type 0 where
  pub block : Block
  pub there : slice_get bs i ≡ Some block
  pub from : block.first ≤ x
  pub below : x < end_of block

-- each number below n stands in the block at one place, and no other number stands in any
pub record EachOnce (bs : List Block) (n : ℕ) : Type 0 where
  pub once : (x i j : ℕ) → StandsAt bs i x → StandsAt bs j x → i ≡ j
  pub each : (x : ℕ) → x < n → (i : ℕ) × StandsAt bs i x
  pub none : (x i : ℕ) → StandsAt bs i x → x < n

-- counting each number and finding its place come to the same
abbrev pub CoveringBlocks : Type 0
CoveringBlocks = (bs : List Block) (n : ℕ) → Covers bs n ↔ EachOnce bs n
