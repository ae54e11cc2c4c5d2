-- Lists of fewer than 2^32 items, which a machine's parts are made of.
use Rattle.std.specs.Prelude.{◌^◌, ◌<◌, ℤ, List, length}
use Rattle.std.specs.List.{All}
use Rattle.clk_machine.specs.Plan.{Plan, CpuPlan, ReaderPlan, SourcePlan}
use Rattle.clk_machine.specs.Limits.{IsOfReader, IsOwn}

abbrev pub IsShort : {A : Type 0} → List A → Type 0
IsShort xs = length xs < 2 ^ 32

pub record IsShortCpu (c : CpuPlan) : Type 0 where
  pub jumps : IsShort c.jumps
  pub words : IsShort c.script.words

-- a reader makes readings and pauses alone
pub record IsShortReader (r : ReaderPlan) : Type 0 where
  pub words : IsShort r.script.words
  pub kinds : All IsOfReader r.script.words

-- a TSC source has the machine's nominal rate twice, its width, and no jumps
pub record IsShortSource (nominal_khz bits : ℤ) (s : SourcePlan) : Type 0 where
  pub jumps : IsShort s.jumps
  pub own : IsOwn nominal_khz bits s

-- what the tests of the ranges rest on
pub record IsWellFormed (m : Plan) : Type 0 where
  pub cpu : IsShort m.cpu
  pub cpus : All IsShortCpu m.cpu
  pub reader : IsShort m.reader
  pub readers : All IsShortReader m.reader
  pub delay : IsShort m.delay
  pub source : IsShort m.source
  pub sources : All (IsShortSource m.nominal_khz m.bits) m.source
