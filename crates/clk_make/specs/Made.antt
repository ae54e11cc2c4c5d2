-- The machine that is made from a number: more CPUs than a small file has, whose scripts show every kind of word.
use Rattle.std.specs.Prelude.{ℕ, ◌+◌, ◌-◌, ◌*◌, ◌%◌, ◌==◌, false, pos, List, [], ◌∷◌, map, slice_index_or, None, if◌then◌else◌}
use Rattle.std.specs.List.{range_with_len}
use Rattle.clk_machine.specs.declared.script.Word.{Word}
use Rattle.clk_machine.specs.declared.script.Word.TheVariants.{Local, Remote, Tick, Idle, Update, Pause}
use Rattle.clk_machine.specs.declared.parts.ReferencePart.{ReferencePart}
use Rattle.clk_machine.specs.Plan.{ScriptPlan, CpuPlan, ReaderPlan, Plan}

-- 2 to 16 CPUs, and up to 3 readers
abbrev pub made_cpus : ℕ → ℕ
made_cpus n = 2 + n % 15

abbrev pub made_readers : ℕ → ℕ
made_readers n = n % 4

-- word j of a script on a CPU reads the clock of another one: of each in turn
abbrev pub other_cpu : ℕ → ℕ → ℕ → ℕ
other_cpu cpus cpu j = (cpu + 1 + j % (cpus - 1)) % cpus

abbrev pub remote : ℕ → ℕ → ℕ → Word
remote cpus cpu j = Remote (pos (other_cpu cpus cpu j))

-- the eight kinds of word j of a CPU, in order
abbrev pub kinds : ℕ → ℕ → ℕ → List Word
kinds cpus cpu j = Local ∷ Local ∷ Update ∷ remote cpus cpu j ∷ remote cpus cpu j ∷ Tick ∷ Idle ∷ Pause (pos (1 + j % 8)) ∷ []

-- word j of a CPU, and of a reader on a CPU
abbrev pub cpu_word : ℕ → ℕ → ℕ → Word
cpu_word n cpu j = slice_index_or (kinds (made_cpus n) cpu j) ((n + 5 * cpu + 3 * j) % 8) Local

abbrev pub reader_word : ℕ → ℕ → ℕ → Word
reader_word cpus cpu j = if j % 2 == 0 then Local else remote cpus cpu j

-- ---- the scripts of a CPU and of a reader on a CPU

abbrev pub cpu_script : ℕ → ℕ → ScriptPlan
cpu_script n cpu = record { repeat = pos 64; words = map (cpu_word n cpu) (range_with_len 0 64) }

abbrev pub reader_script : ℕ → ℕ → ScriptPlan
reader_script cpus cpu = record { repeat = pos 256; words = map (reader_word cpus cpu) (range_with_len 0 8) }

-- ---- the machine

abbrev pub made_cpu : ℕ → ℕ → CpuPlan
made_cpu n cpu = record {
  khz = pos (2400000 + n * (cpu + 1) % 1000);
  offset = pos (100 * cpu);
  socket = pos 0;
  jumps = [];
  script = cpu_script n cpu;
}

abbrev pub made_reader : ℕ → ℕ → ReaderPlan
made_reader n r = record { cpu = pos (r % made_cpus n); script = reader_script (made_cpus n) (r % made_cpus n) }

abbrev pub made_reference : ReferencePart
made_reference = record { khz = pos 14318; bits = pos 32; rating = pos 250; margin = pos 1000 }

-- a per-CPU start of version 1, without jumps and delays, a bring-up, a watchdog and sources
abbrev pub made : ℕ → Plan
made n = record {
  version = pos 1;
  base = pos 0;
  cpus = pos (made_cpus n);
  step = pos 10;
  tick = pos 1000000;
  bits = pos 64;
  nominal_khz = pos 2400000;
  stable = false;
  reference = made_reference;
  cpu = map (made_cpu n) (range_with_len 0 (made_cpus n));
  reader = map (made_reader n) (range_with_len 0 (made_readers n));
  delay = [];
  bringup = None;
  watchdog = None;
  source = [];
}
