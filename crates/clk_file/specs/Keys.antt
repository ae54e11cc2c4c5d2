-- Tests of the keys of a table, and the values at them. A test is `None` where it passes, and else what it refuses
-- with.
use Rattle.std.specs.Prelude.{ℕ, ◌+◌, Bool, true, ◌&&◌, ℤ, List, [], ◌∷◌, Option, Some, None, is_some, unwrap_or, option_and_then}
use Rattle.std.specs.Option.{option_map_or}
use Rattle.std.specs.List.{list_any, filter_map}
use Rattle.std.specs.Str.{bytes_eq}
use Rattle.toml.specs.Data.{Data, Items, no_items, item, Members, no_members, member, get_member, as_integer, as_bool, as_array, as_table}
use Rattle.clk_base.specs.First.{unless, first}
use Rattle.clk_machine.specs.declared.rows.Row.{Row}
use Rattle.clk_machine.specs.Rows.{row_number}
use Rattle.clk_file.specs.declared.error.TableError.{TableError}
use Rattle.clk_file.specs.declared.error.TableError.TheVariants.{Key, Value, Word}

abbrev pub Test : Type 0
Test = Option TableError

-- A place is the number of the key's row, the number of the entry and that of the item, which are counted from 1: 0
-- stands where there is none. These refuse a key, a value and a script word at a place.
abbrev pub key_at : Row → ℕ → TableError
key_at row entry = Key (record { row = row_number row; entry = entry; item = 0 })

abbrev pub value_at : Row → ℕ → ℕ → TableError
value_at row entry i = Value (record { row = row_number row; entry = entry; item = i })

abbrev pub word_at : Row → ℕ → ℕ → TableError
word_at row entry i = Word (record { row = row_number row; entry = entry; item = i })

-- an unknown key of a table has the number of the table's row plus 100: the top table has no row, and its number is 0
abbrev pub top_table : ℕ
top_table = 0

abbrev pub unknown_key_in : ℕ → ℕ → TableError
unknown_key_in table entry = Key (record { row = table + 100; entry = entry; item = 0 })

-- ---- the keys

unfoldable pub has_only : List (List ℕ) → Members → Bool
has_only names no_members = true
has_only names (member key d ms) = list_any (λ name. bytes_eq name key) names && has_only names ms

-- the table has no other keys
abbrev pub known_keys : ℕ → ℕ → List (List ℕ) → Members → Test
known_keys table entry names t = unless (has_only names t) (unknown_key_in table entry)

-- ---- the value at a key: of a kind, which is what reads such a value

abbrev pub is_kind : {A : Type 0} → (Data → Option A) → Row → ℕ → Data → Test
is_kind kind row entry d = unless (is_some (kind d)) (value_at row entry 0)

unfoldable pub required : {A : Type 0} → (Data → Option A) → Row → ℕ → List ℕ → Members → Test
required kind row entry key t = option_map_or (is_kind kind row entry) (get_member key t) (Some (key_at row entry))

unfoldable pub optional : {A : Type 0} → (Data → Option A) → Row → ℕ → List ℕ → Members → Test
optional kind row entry key t = option_map_or (is_kind kind row entry) (get_member key t) None

-- the value, where there is one of the kind
unfoldable pub found : {A : Type 0} → (Data → Option A) → List ℕ → Members → Option A
found kind key t = option_and_then kind (get_member key t)

-- the value, or what stands for it where the key is missing
abbrev pub integer_or : ℤ → List ℕ → Members → ℤ
integer_or default key t = unwrap_or (found as_integer key t) default

abbrev pub flag_or : Bool → List ℕ → Members → Bool
flag_or default key t = unwrap_or (found as_bool key t) default

-- ---- tables and arrays inside

-- the tests of a table that may be missing: its rows are then passed over
abbrev pub in_table : (Members → List Test) → List ℕ → Members → Test
in_table tests key t = option_map_or (λ inner. first (tests inner)) (found as_table key t) None

abbrev pub list_of : Items → List Data
list_of no_items = []
list_of (item d ds) = d ∷ list_of ds

-- the items of an array, which is empty where the key is missing
unfoldable pub items_at : List ℕ → Members → List Data
items_at key t = list_of (unwrap_or (found as_array key t) no_items)

-- an entry of an array of tables: it is a table, whose tests are told the entry's number
unfoldable pub in_entry : Row → (ℕ → Members → List Test) → ℕ → Data → Test
in_entry row tests entry d = option_map_or (λ inner. first (tests entry inner)) (as_table d) (Some (value_at row entry 0))

-- the tables of such an array
unfoldable pub tables_at : List ℕ → Members → List Members
tables_at key t = filter_map as_table (items_at key t)
