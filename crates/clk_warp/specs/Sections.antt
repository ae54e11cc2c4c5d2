-- The sections of a run, one after another.
use Rattle.std.specs.Prelude.{◌≡◌, false, List, [], ◌∷◌, filter}
use Rattle.clk_record.specs.declared.warp.Side.{Side}
use Rattle.clk_record.specs.Sides.{other_side}
use Rattle.clk_warp.specs.declared.section.Section.{Section}
use Rattle.clk_warp.specs.Run.{Run, change, IsSection, is_of}

-- the state after some sections
abbrev pub after : Run → List Section → Run
after s [] = s
after s (e ∷ es) = after (change s e) es

-- each of them is one of the state that it finds
abbrev pub AreSections : Run → List Section → Type 0
AreSections s [] = Unit {0}
AreSections s (e ∷ es) = IsSection s e × AreSections (change s e) es

-- a side makes no section of the other
abbrev pub MayMake : Side → Section → Type 0
MayMake side e = is_of (other_side side) e ≡ false

abbrev pub sections_of : Side → List Section → List Section
sections_of side es = filter (is_of side) es
