-- What a machine is: the numbers of its file as they are written, with defaults filled in.
use Rattle.std.specs.Prelude.{ℕ, Bool, ℤ, pos, negsuc, List, [], ◌++◌, map, length, slice_index_or, Option}
use Rattle.std.specs.List.{repeat, enumerate_from}
use Rattle.clk_machine.specs.declared.script.Script.{Script}
use Rattle.clk_machine.specs.declared.script.Word.{Word}
use Rattle.clk_machine.specs.declared.parts.Parts.{Parts}
use Rattle.clk_machine.specs.declared.parts.ReferencePart.{ReferencePart}
use Rattle.clk_machine.specs.declared.parts.CpuPart.{CpuPart}
use Rattle.clk_machine.specs.declared.parts.ReaderPart.{ReaderPart}
use Rattle.clk_machine.specs.declared.parts.BringUpPart.{BringUpPart}
use Rattle.clk_machine.specs.declared.parts.WatchPart.{WatchPart}
use Rattle.clk_machine.specs.declared.parts.SourcePart.{SourcePart}
use Rattle.clk_machine.specs.declared.parts.Delay.{Delay}
use Rattle.clk_machine.specs.declared.parts.Jump.{Jump}

pub record ScriptPlan : Type 0 where
  pub repeat : ℤ
  pub words : List Word

-- cycles that a counter jumps by at a time in ns
pub record JumpPlan : Type 0 where
  pub at : ℤ
  pub cycles : ℤ

-- ns that a ticket takes longer
pub record DelayPlan : Type 0 where
  pub ticket : ℤ
  pub ns : ℤ

pub record CpuPlan : Type 0 where
  pub khz : ℤ
  pub offset : ℤ
  pub socket : ℤ
  pub jumps : List JumpPlan
  pub script : ScriptPlan

pub record ReaderPlan : Type 0 where
  pub cpu : ℤ
  pub script : ScriptPlan

pub record SourcePlan : Type 0 where
  pub tsc : Bool
  pub rating : ℤ
  pub margin : ℤ
  pub khz : ℤ
  pub nominal_khz : ℤ
  pub bits : ℤ
  pub jumps : List JumpPlan

pub record Plan : Type 0 where
  pub version : ℤ
  pub base : ℤ
  pub cpus : ℤ
  pub step : ℤ
  pub tick : ℤ
  pub bits : ℤ
  pub nominal_khz : ℤ
  pub stable : Bool
  pub reference : ReferencePart
  pub cpu : List CpuPlan
  pub reader : List ReaderPlan
  pub delay : List DelayPlan
  pub bringup : Option BringUpPart
  pub watchdog : Option WatchPart
  pub source : List SourcePlan

-- ---- the plan of some parts: it leaves out the room of lists, and the sums that are kept beside delays and jumps

abbrev pub script_plan : Script → ScriptPlan
script_plan s = record { repeat = s.repeat; words = s.words.items }

abbrev pub jump_plan : Jump → JumpPlan
jump_plan j = record { at = j.at; cycles = j.cycles }

abbrev pub delay_plan : Delay → DelayPlan
delay_plan d = record { ticket = d.ticket; ns = d.ns }

abbrev pub cpu_plan : CpuPart → CpuPlan
cpu_plan c = record {
  khz = c.khz;
  offset = c.offset;
  socket = c.socket;
  jumps = map jump_plan c.jumps.items;
  script = script_plan c.script;
}

abbrev pub reader_plan : ReaderPart → ReaderPlan
reader_plan r = record { cpu = r.cpu; script = script_plan r.script }

abbrev pub source_plan : SourcePart → SourcePlan
source_plan s = record {
  tsc = s.tsc;
  rating = s.rating;
  margin = s.margin;
  khz = s.khz;
  nominal_khz = s.nominal_khz;
  bits = s.bits;
  jumps = map jump_plan s.jumps.items;
}

abbrev pub plan_of : Parts → Plan
plan_of p = record {
  version = p.version;
  base = p.base;
  cpus = p.cpus;
  step = p.step;
  tick = p.tick;
  bits = p.bits;
  nominal_khz = p.nominal_khz;
  stable = p.stable;
  reference = p.reference;
  cpu = map cpu_plan p.cpu.items;
  reader = map reader_plan p.reader.items;
  delay = map delay_plan p.delay.items;
  bringup = p.bringup;
  watchdog = p.watchdog;
  source = map source_plan p.source.items;
}

-- ---- threads

-- a number as a count: a negative one counts nothing
abbrev pub count_of : ℤ → ℕ
count_of (pos n) = n
count_of (negsuc n) = 0

abbrev pub cpu_count : Plan → ℕ
cpu_count m = length m.cpu

-- the words of a script after its repeats
abbrev pub all_words : ScriptPlan → List Word
all_words s = repeat (count_of s.repeat) s.words

-- the CPU and the words of each thread: first the CPUs, then the readers
abbrev pub threads_of : Plan → List (ℕ × List Word)
threads_of m =
    map (λ c. (c.0, all_words c.1.script)) (enumerate_from 0 m.cpu)
    ++ map (λ r. (count_of r.cpu, all_words r.script)) m.reader

abbrev pub thread_at : Plan → ℕ → ℕ × List Word
thread_at m thread = slice_index_or (threads_of m) thread (0, [])
