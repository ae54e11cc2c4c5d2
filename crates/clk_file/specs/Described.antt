-- The machine that a file's table describes, row by row, with the defaults of keys that may be missing. A key that must
-- be there has 0 or false in its place: a table that lacks it is refused.
use Rattle.std.specs.Prelude.{true, false, ℤ, pos, List, [], map, filter_map, codes, unwrap_or, option_map, option_and_then, if◌then◌else◌}
use Rattle.toml.specs.Data.{Members, no_members, as_str, as_table}
use Rattle.clk_machine.specs.declared.parts.ReferencePart.{ReferencePart}
use Rattle.clk_machine.specs.declared.parts.BringUpPart.{BringUpPart}
use Rattle.clk_machine.specs.declared.parts.WatchPart.{WatchPart}
use Rattle.clk_machine.specs.declared.script.Word.{Word}
use Rattle.clk_machine.specs.Plan.{Plan, ScriptPlan, JumpPlan, DelayPlan, CpuPlan, ReaderPlan, SourcePlan}
use Rattle.clk_file.specs.declared.words.Thread.{Thread}
use Rattle.clk_file.specs.declared.words.Thread.TheVariants.{Cpu, Reader}
use Rattle.clk_file.specs.Words.{word_in}
use Rattle.clk_file.specs.Keys.{found, integer_or, flag_or, items_at, tables_at}
use Rattle.clk_file.specs.Shape.{jump_of, is_own, version_in}

abbrev pub jumps_in : Members → List JumpPlan
jumps_in t = filter_map jump_of (items_at (codes "jumps") t)

abbrev pub words_in : Thread → Members → List Word
words_in thread t = filter_map (λ d. option_and_then (word_in thread) (as_str d)) (items_at (codes "script") t)

abbrev pub script_in : Thread → Members → ScriptPlan
script_in thread t = record {
  repeat = integer_or (pos 1) (codes "repeat") t;
  words = words_in thread t;
}

abbrev pub reference_in : Members → ReferencePart
reference_in t = record {
  khz = integer_or (pos 0) (codes "khz") t;
  bits = integer_or (pos 64) (codes "bits") t;
  rating = integer_or (pos 250) (codes "rating") t;
  margin = integer_or (pos 0) (codes "margin") t;
}

abbrev pub cpu_in : ℤ → Members → CpuPlan
cpu_in nominal_khz t = record {
  khz = integer_or nominal_khz (codes "khz") t;
  offset = integer_or (pos 0) (codes "offset") t;
  socket = integer_or (pos 0) (codes "socket") t;
  jumps = jumps_in t;
  script = script_in Cpu t;
}

abbrev pub reader_in : Members → ReaderPlan
reader_in t = record {
  cpu = integer_or (pos 0) (codes "cpu") t;
  script = script_in Reader t;
}

abbrev pub delay_in : Members → DelayPlan
delay_in t = record {
  ticket = integer_or (pos 0) (codes "ticket") t;
  ns = integer_or (pos 0) (codes "ns") t;
}

abbrev pub bring_up_in : Members → BringUpPart
bring_up_in t = record {
  adjust = flag_or false (codes "adjust") t;
  timeout_us = integer_or (pos 0) (codes "timeout_us") t;
  first_us = integer_or (integer_or (pos 0) (codes "timeout_us") t) (codes "first_us") t;
  turns = integer_or (pos 0) (codes "turns") t;
}

abbrev pub watch_in : Members → WatchPart
watch_in t = record {
  checks = integer_or (pos 0) (codes "checks") t;
  pause = integer_or (pos 0) (codes "pause") t;
  skew = integer_or (pos 0) (codes "skew") t;
  retries = integer_or (pos 0) (codes "retries") t;
}

-- a source that is the CPUs' own counter is as the machine says: its nominal rate, its width, and no jumps
abbrev pub own_in : ℤ → ℤ → Members → SourcePlan
own_in nominal_khz bits t = record {
  tsc = true;
  rating = integer_or (pos 0) (codes "rating") t;
  margin = integer_or (pos 0) (codes "margin") t;
  khz = nominal_khz;
  nominal_khz = nominal_khz;
  bits = bits;
  jumps = [];
}

abbrev pub other_in : Members → SourcePlan
other_in t = record {
  tsc = false;
  rating = integer_or (pos 0) (codes "rating") t;
  margin = integer_or (pos 0) (codes "margin") t;
  khz = integer_or (integer_or (pos 0) (codes "nominal_khz") t) (codes "khz") t;
  nominal_khz = integer_or (pos 0) (codes "nominal_khz") t;
  bits = integer_or (pos 64) (codes "bits") t;
  jumps = jumps_in t;
}

abbrev pub source_in : ℤ → ℤ → Members → SourcePlan
source_in nominal_khz bits t = if is_own t then own_in nominal_khz bits t else other_in t

abbrev pub nominal_khz_in : Members → ℤ
nominal_khz_in t = integer_or (pos 0) (codes "nominal_khz") t

abbrev pub bits_in : Members → ℤ
bits_in t = integer_or (pos 64) (codes "bits") t

abbrev pub plan_in : Members → Plan
plan_in t = record {
  version = version_in t;
  base = integer_or (pos 0) (codes "base") t;
  cpus = integer_or (pos 0) (codes "cpus") t;
  step = integer_or (pos 0) (codes "step") t;
  tick = integer_or (pos 1000000) (codes "tick") t;
  bits = bits_in t;
  nominal_khz = nominal_khz_in t;
  stable = flag_or false (codes "stable") t;
  reference = reference_in (unwrap_or (found as_table (codes "reference") t) no_members);
  cpu = map (cpu_in (nominal_khz_in t)) (tables_at (codes "cpu") t);
  reader = map reader_in (tables_at (codes "reader") t);
  delay = map delay_in (tables_at (codes "delay") t);
  bringup = option_map bring_up_in (found as_table (codes "bringup") t);
  watchdog = option_map watch_in (found as_table (codes "watchdog") t);
  source = map (source_in (nominal_khz_in t) (bits_in t)) (tables_at (codes "source") t);
}
