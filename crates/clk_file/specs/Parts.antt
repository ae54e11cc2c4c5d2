-- What the parts of the reader answer. No public contract cites these.
use Rattle.std.specs.Prelude.{◌≡◌, ℕ, ℤ, pos, false, List, [], ◌∷◌, ◌++◌, codes, Some}
use Rattle.toml.specs.Data.{Members, as_str, as_integer, as_array, as_table}
use Rattle.clk_base.specs.First.{first, each}
use Rattle.clk_machine.specs.declared.rows.Row.{Row}
use Rattle.clk_machine.specs.declared.rows.Row.TheVariants as rows
use Rattle.clk_machine.specs.Rows.{row_number}
use Rattle.clk_file.specs.declared.words.Thread.{Thread}
use Rattle.clk_file.specs.declared.tables.Numbers.{Numbers}
use Rattle.clk_file.specs.Keys.{Test, known_keys, required, optional, integer_or, flag_or, items_at, in_table, in_entry}
use Rattle.clk_file.specs.Shape.{version_in, jump_test, word_test, reference_tests, bring_up_tests, watch_tests, own_keys, other_keys, other_tests, shape_tests}
use Rattle.clk_file.specs.Described.{bits_in, nominal_khz_in}
use Rattle.clk_file.specs.declared.error.TableError.{TableError}
use Rattle.clk_file.specs.declared.error.FileError.{FileError}
use Rattle.clk_file.specs.Acceptance.{of_table}

-- a list of jumps, and its pairs
abbrev pub jumps_tests : Row → ℕ → Members → List Test
jumps_tests row e t = optional as_array row e (codes "jumps") t ∷ each (jump_test row e) 1 (items_at (codes "jumps") t) ∷ []

-- the words of a script
abbrev pub words_tests : Thread → Row → ℕ → Members → List Test
words_tests thread row e t = optional as_array row e (codes "script") t ∷ each (word_test thread row e) 1 (items_at (codes "script") t) ∷ []

-- a script, by the rows of its repeat and of its words
abbrev pub script_tests : Thread → Row → Row → ℕ → Members → List Test
script_tests thread repeat row e t = optional as_integer repeat e (codes "repeat") t ∷ words_tests thread row e t

-- the tables of an array, which must be there or may be missing
abbrev pub required_entries : Row → List ℕ → (ℕ → Members → List Test) → Members → List Test
required_entries row key tests t = required as_array row 0 key t ∷ each (in_entry row tests) 1 (items_at key t) ∷ []

abbrev pub optional_entries : Row → List ℕ → (ℕ → Members → List Test) → Members → List Test
optional_entries row key tests t = optional as_array row 0 key t ∷ each (in_entry row tests) 1 (items_at key t) ∷ []

-- what a table's own numbers are
pub record AreNumbers (t : Members) (n : Numbers) : Type 0 where
  pub version : n.version ≡ version_in t
  pub base : n.base ≡ integer_or (pos 0) (codes "base") t
  pub cpus : n.cpus ≡ integer_or (pos 0) (codes "cpus") t
  pub step : n.step ≡ integer_or (pos 0) (codes "step") t
  pub tick : n.tick ≡ integer_or (pos 1000000) (codes "tick") t
  pub bits : n.bits ≡ bits_in t
  pub nominal_khz : n.nominal_khz ≡ nominal_khz_in t
  pub stable : n.stable ≡ flag_or false (codes "stable") t

-- tables that must be there, or may be missing, and the rows in them
abbrev pub reference_rows : Members → List Test
reference_rows t = required as_table rows.Reference 0 (codes "reference") t ∷ in_table reference_tests (codes "reference") t ∷ []

abbrev pub bring_up_rows : ℤ → Members → List Test
bring_up_rows version t = optional as_table rows.BringUp 0 (codes "bringup") t ∷ in_table (bring_up_tests version) (codes "bringup") t ∷ []

abbrev pub watch_rows : Members → List Test
watch_rows t = optional as_table rows.Watchdog 0 (codes "watchdog") t ∷ in_table watch_tests (codes "watchdog") t ∷ []

-- the rows of a source behind `tsc`, which says which keys it has
abbrev pub named_rows : List (List ℕ) → ℕ → Members → List Test
named_rows keys e t =
    known_keys (row_number rows.Source) e keys t
    ∷ optional as_str rows.SourceName e (codes "name") t
    ∷ required as_integer rows.SourceRating e (codes "rating") t
    ∷ required as_integer rows.SourceMargin e (codes "margin") t
    ∷ []

abbrev pub own_rows : ℕ → Members → List Test
own_rows e t = named_rows own_keys e t

abbrev pub other_rows : ℕ → Members → List Test
other_rows e t = named_rows other_keys e t ++ other_tests e t

-- what a table's shape is refused with
abbrev pub IsRefusedShape : Members → FileError → Type 0
IsRefusedShape t e = (r : TableError) × (first (shape_tests t) ≡ Some r) × (e ≡ of_table r)
