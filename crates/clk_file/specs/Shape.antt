-- The tests of a file's shape, row by row: which keys are there, and of which kind their values are.
use Rattle.std.specs.Prelude.{ℕ, Bool, false, ℤ, pos, List, [], ◌∷◌, ◌++◌, codes, Option, Some, None, is_some, option_map, option_and_then, if◌then◌else◌}
use Rattle.std.specs.Option.{option_map_or, option_zip}
use Rattle.toml.specs.Data.{Data, Items, no_items, item, Members, as_str, as_integer, as_bool, as_array, as_table}
use Rattle.clk_base.specs.First.{unless, first, each}
use Rattle.clk_machine.specs.declared.rows.Row.{Row}
use Rattle.clk_machine.specs.declared.rows.Row.TheVariants as rows
use Rattle.clk_machine.specs.Rows.{row_number}
use Rattle.clk_machine.specs.Plan.{JumpPlan}
use Rattle.clk_machine.specs.Limits.{is_second}
use Rattle.clk_file.specs.declared.words.Thread.{Thread}
use Rattle.clk_file.specs.declared.words.Thread.TheVariants.{Cpu, Reader}
use Rattle.clk_file.specs.Words.{word_in}
use Rattle.clk_file.specs.Keys.{Test, value_at, word_at, top_table, known_keys, required, optional, integer_or, flag_or, in_table, items_at, in_entry}

-- ---- the keys of each table

-- a file of version 2 has more keys: in version 1 they are unknown ones
abbrev pub by_version : ℤ → List (List ℕ) → List (List ℕ) → List (List ℕ)
by_version version keys more = if is_second version then keys ++ more else keys

abbrev pub first_top_keys : List (List ℕ)
first_top_keys =
    codes "version" ∷ codes "cpus" ∷ codes "step" ∷ codes "tick" ∷ codes "bits" ∷ codes "nominal_khz" ∷ codes "stable"
    ∷ codes "reference" ∷ codes "cpu" ∷ codes "reader" ∷ codes "delay" ∷ codes "bringup" ∷ codes "watchdog" ∷ codes "source" ∷ []

abbrev pub top_keys : ℤ → List (List ℕ)
top_keys version = by_version version first_top_keys (codes "base" ∷ [])

abbrev pub reference_keys : List (List ℕ)
reference_keys = codes "khz" ∷ codes "bits" ∷ codes "rating" ∷ codes "margin" ∷ []

abbrev pub first_cpu_keys : List (List ℕ)
first_cpu_keys = codes "khz" ∷ codes "offset" ∷ codes "jumps" ∷ codes "repeat" ∷ codes "script" ∷ []

abbrev pub cpu_keys : ℤ → List (List ℕ)
cpu_keys version = by_version version first_cpu_keys (codes "socket" ∷ [])

abbrev pub reader_keys : List (List ℕ)
reader_keys = codes "cpu" ∷ codes "repeat" ∷ codes "script" ∷ []

abbrev pub delay_keys : List (List ℕ)
delay_keys = codes "ticket" ∷ codes "ns" ∷ []

abbrev pub first_bring_up_keys : List (List ℕ)
first_bring_up_keys = codes "adjust" ∷ codes "timeout_us" ∷ codes "turns" ∷ []

abbrev pub bring_up_keys : ℤ → List (List ℕ)
bring_up_keys version = by_version version first_bring_up_keys (codes "first_us" ∷ [])

abbrev pub watch_keys : List (List ℕ)
watch_keys = codes "checks" ∷ codes "pause" ∷ codes "skew" ∷ codes "retries" ∷ []

-- a source that is the CPUs' own counter has four keys, and every other one has four more
abbrev pub own_keys : List (List ℕ)
own_keys = codes "name" ∷ codes "tsc" ∷ codes "rating" ∷ codes "margin" ∷ []

abbrev pub other_keys : List (List ℕ)
other_keys =
    codes "name" ∷ codes "tsc" ∷ codes "rating" ∷ codes "margin"
    ∷ codes "nominal_khz" ∷ codes "khz" ∷ codes "bits" ∷ codes "jumps" ∷ []

-- ---- the items of lists

-- a jump is a pair of integers
abbrev pub jump_pair : Items → Option JumpPlan
jump_pair (item at (item cycles no_items)) = option_map (λ p. record { at = p.0; cycles = p.1 }) (option_zip (as_integer at) (as_integer cycles))
jump_pair _ = None

unfoldable pub jump_of : Data → Option JumpPlan
jump_of d = option_and_then jump_pair (as_array d)

unfoldable pub jump_test : Row → ℕ → ℕ → Data → Test
jump_test row entry i d = unless (is_some (jump_of d)) (value_at row entry i)

-- an item of a script is a string that is a script word
unfoldable pub word_test : Thread → Row → ℕ → ℕ → Data → Test
word_test thread row entry i d =
    option_map_or (λ text. unless (is_some (word_in thread text)) (word_at row entry i)) (as_str d) (Some (value_at row entry i))

-- ---- the rows. Those of version 2 pass in version 1, where their keys are refused as unknown ones before.

-- the version that a file names: 0 where it names none
abbrev pub version_in : Members → ℤ
version_in t = integer_or (pos 0) (codes "version") t

abbrev pub number_tests : Members → List Test
number_tests t =
    required as_integer rows.Version 0 (codes "version") t
    ∷ required as_integer rows.Cpus 0 (codes "cpus") t
    ∷ required as_integer rows.Step 0 (codes "step") t
    ∷ optional as_integer rows.Tick 0 (codes "tick") t
    ∷ optional as_integer rows.Bits 0 (codes "bits") t
    ∷ required as_integer rows.NominalKhz 0 (codes "nominal_khz") t
    ∷ required as_bool rows.Stable 0 (codes "stable") t
    ∷ optional as_integer rows.Base 0 (codes "base") t
    ∷ []

abbrev pub reference_tests : Members → List Test
reference_tests t =
    known_keys (row_number rows.Reference) 0 reference_keys t
    ∷ required as_integer rows.ReferenceKhz 0 (codes "khz") t
    ∷ optional as_integer rows.ReferenceBits 0 (codes "bits") t
    ∷ optional as_integer rows.ReferenceRating 0 (codes "rating") t
    ∷ optional as_integer rows.ReferenceMargin 0 (codes "margin") t
    ∷ []

abbrev pub cpu_tests : ℤ → ℕ → Members → List Test
cpu_tests version e t =
    known_keys (row_number rows.Cpu) e (cpu_keys version) t
    ∷ optional as_integer rows.CpuKhz e (codes "khz") t
    ∷ optional as_integer rows.CpuOffset e (codes "offset") t
    ∷ optional as_integer rows.CpuSocket e (codes "socket") t
    ∷ optional as_array rows.CpuJumps e (codes "jumps") t ∷ each (jump_test rows.CpuJumps e) 1 (items_at (codes "jumps") t)
    ∷ optional as_integer rows.CpuRepeat e (codes "repeat") t
    ∷ optional as_array rows.CpuScript e (codes "script") t ∷ each (word_test Cpu rows.CpuScript e) 1 (items_at (codes "script") t)
    ∷ []

abbrev pub reader_tests : ℕ → Members → List Test
reader_tests e t =
    known_keys (row_number rows.Reader) e reader_keys t
    ∷ required as_integer rows.ReaderCpu e (codes "cpu") t
    ∷ optional as_integer rows.ReaderRepeat e (codes "repeat") t
    ∷ optional as_array rows.ReaderScript e (codes "script") t ∷ each (word_test Reader rows.ReaderScript e) 1 (items_at (codes "script") t)
    ∷ []

abbrev pub delay_tests : ℕ → Members → List Test
delay_tests e t =
    known_keys (row_number rows.Delay) e delay_keys t
    ∷ required as_integer rows.DelayTicket e (codes "ticket") t
    ∷ required as_integer rows.DelayNs e (codes "ns") t
    ∷ []

abbrev pub bring_up_tests : ℤ → Members → List Test
bring_up_tests version t =
    known_keys (row_number rows.BringUp) 0 (bring_up_keys version) t
    ∷ required as_bool rows.BringUpAdjust 0 (codes "adjust") t
    ∷ required as_integer rows.BringUpTimeout 0 (codes "timeout_us") t
    ∷ optional as_integer rows.BringUpFirst 0 (codes "first_us") t
    ∷ required as_integer rows.BringUpTurns 0 (codes "turns") t
    ∷ []

abbrev pub watch_tests : Members → List Test
watch_tests t =
    known_keys (row_number rows.Watchdog) 0 watch_keys t
    ∷ required as_integer rows.WatchdogChecks 0 (codes "checks") t
    ∷ required as_integer rows.WatchdogPause 0 (codes "pause") t
    ∷ required as_integer rows.WatchdogSkew 0 (codes "skew") t
    ∷ required as_integer rows.WatchdogRetries 0 (codes "retries") t
    ∷ []

-- which keys a source has depends on whether it is the CPUs' own counter, so that is tested before its other keys
abbrev pub is_own : Members → Bool
is_own t = flag_or false (codes "tsc") t

abbrev pub other_tests : ℕ → Members → List Test
other_tests e t =
    required as_integer rows.SourceNominalKhz e (codes "nominal_khz") t
    ∷ optional as_integer rows.SourceKhz e (codes "khz") t
    ∷ optional as_integer rows.SourceBits e (codes "bits") t
    ∷ optional as_array rows.SourceJumps e (codes "jumps") t ∷ each (jump_test rows.SourceJumps e) 1 (items_at (codes "jumps") t)
    ∷ []

abbrev pub source_tests : ℕ → Members → List Test
source_tests e t =
    optional as_bool rows.SourceTsc e (codes "tsc") t
    ∷ known_keys (row_number rows.Source) e (if is_own t then own_keys else other_keys) t
    ∷ optional as_str rows.SourceName e (codes "name") t
    ∷ required as_integer rows.SourceRating e (codes "rating") t
    ∷ required as_integer rows.SourceMargin e (codes "margin") t
    ∷ (if is_own t then [] else other_tests e t)

abbrev pub shape_tests : Members → List Test
shape_tests t =
    known_keys top_table 0 (top_keys (version_in t)) t
    ∷ first (number_tests t)
    ∷ required as_table rows.Reference 0 (codes "reference") t ∷ in_table reference_tests (codes "reference") t
    ∷ required as_array rows.Cpu 0 (codes "cpu") t ∷ each (in_entry rows.Cpu (cpu_tests (version_in t))) 1 (items_at (codes "cpu") t)
    ∷ optional as_array rows.Reader 0 (codes "reader") t ∷ each (in_entry rows.Reader reader_tests) 1 (items_at (codes "reader") t)
    ∷ optional as_array rows.Delay 0 (codes "delay") t ∷ each (in_entry rows.Delay delay_tests) 1 (items_at (codes "delay") t)
    ∷ optional as_table rows.BringUp 0 (codes "bringup") t ∷ in_table (bring_up_tests (version_in t)) (codes "bringup") t
    ∷ optional as_table rows.Watchdog 0 (codes "watchdog") t ∷ in_table watch_tests (codes "watchdog") t
    ∷ optional as_array rows.Source 0 (codes "source") t ∷ each (in_entry rows.Source source_tests) 1 (items_at (codes "source") t)
    ∷ []
