-- The tests of tables whose known keys depend on the version, one after another.
use Rattle.std.proofs.Common.{◌≡◌, ℕ, ℤ, List, codes, ◌∙◌}
use Rattle.std.specs.Option.{option_or}
use Rattle.toml.specs.Data.{Members, as_integer, as_bool}
use Rattle.clk_base.specs.First.{first_from}
use Rattle.clk_machine.specs.declared.rows.Row.TheVariants as rows
use Rattle.clk_machine.specs.Rows.{row_number}
use Rattle.clk_file.specs.declared.words.Thread.TheVariants.{Cpu}
use Rattle.clk_file.specs.Keys.{Test, known_keys, required, optional}
use Rattle.clk_file.specs.Shape.{by_version, cpu_keys, bring_up_keys, cpu_tests, bring_up_tests}
use Rattle.clk_file.specs.Parts.{jumps_tests, script_tests}

-- the known keys of a table, by the version of its file
pub known_by_version : (number row e : ℕ) (v version : ℤ) (names keys more : List (List ℕ)) (t : Members) (before after : Test)
    → number ≡ row → v ≡ version → names ≡ by_version v keys more
    → after ≡ option_or before (known_keys number e names t) → after ≡ option_or before (known_keys row e (by_version version keys more) t)
known_by_version number row e v version names keys more t before after place same is known = known ∙ rw (place, is, same)

pub bring_up_tests-parts : (version : ℤ) (t : Members) (r0 r1 r2 r3 r4 r5 : Test)
    → r1 ≡ option_or r0 (known_keys (row_number rows.BringUp) 0 (bring_up_keys version) t)
    → r2 ≡ option_or r1 (required as_bool rows.BringUpAdjust 0 (codes "adjust") t)
    → r3 ≡ option_or r2 (required as_integer rows.BringUpTimeout 0 (codes "timeout_us") t)
    → r4 ≡ option_or r3 (optional as_integer rows.BringUpFirst 0 (codes "first_us") t)
    → r5 ≡ option_or r4 (required as_integer rows.BringUpTurns 0 (codes "turns") t)
    → r5 ≡ first_from r0 (bring_up_tests version t)
bring_up_tests-parts version t r0 r1 r2 r3 r4 r5 keys adjust timeout first turns = rw (turns, first, timeout, adjust, keys)

pub cpu_tests-parts : (version : ℤ) (e : ℕ) (t : Members) (r0 r1 r2 r3 r4 r5 r6 : Test)
    → r1 ≡ option_or r0 (known_keys (row_number rows.Cpu) e (cpu_keys version) t)
    → r2 ≡ option_or r1 (optional as_integer rows.CpuKhz e (codes "khz") t)
    → r3 ≡ option_or r2 (optional as_integer rows.CpuOffset e (codes "offset") t)
    → r4 ≡ option_or r3 (optional as_integer rows.CpuSocket e (codes "socket") t)
    → r5 ≡ first_from r4 (jumps_tests rows.CpuJumps e t)
    → r6 ≡ first_from r5 (script_tests Cpu rows.CpuRepeat rows.CpuScript e t)
    → r6 ≡ first_from r0 (cpu_tests version e t)
cpu_tests-parts version e t r0 r1 r2 r3 r4 r5 r6 keys khz offset socket jumps script = rw (script, jumps, socket, offset, khz, keys)
