-- A loop over the items of an array: what is tested, and what is kept, as far as it has come.
use Rattle.std.proofs.Common.{◌≡◌, ℕ, ◌+◌, ◌<◌, ◌≤◌, List, [], ◌∷◌, ◌++◌, length, get_or, take, map, Option, Some, None, refl, sym, ap, ◌∙◌, arith}
use Rattle.std.specs.Option.{option_or}
use Rattle.std.specs.List.{All, filter_map, cons_option}
use Rattle.std.proofs.lemmas.List.{map_more, map-append, length-map, length-take, take_all}
use Rattle.std.proofs.lemmas.List.Elements.{All-push, filter_map-append}
use Rattle.toml.specs.Data.{Data, Members, as_table}
use Rattle.toml.specs.View.{view}
use Rattle.toml.specs.declared.value.Value.{Value}
use Rattle.clk_base.specs.First.{first_from, first, each_from, each}
use Rattle.clk_base.proofs.Firsts.{first_from-is, each_from-append, each_from-is, option_or-none}
use Rattle.clk_machine.specs.declared.rows.Row.{Row}
use Rattle.clk_file.specs.Keys.{Test, value_at, in_entry}

abbrev pub seen : ℕ → List Value → List Data
seen i vs = map view (take i vs)

front_length : (vs : List Value) (i : ℕ) → i < length vs → 1 + length (seen i vs) ≡ i + 1
front_length vs i low = rw (length-map (take i vs) view) (omega (arith, length-take i vs))

-- ---- the tests

pub tests_more : {R : Type 0} (r after : Option R) (t : Option R) (test : ℕ → Data → Option R) (vs : List Value) (i : ℕ) (v : Value) → i < length vs
    → v ≡ get_or vs i v → r ≡ each_from t test 1 (seen i vs) → after ≡ option_or r (test (i + 1) (view v)) → after ≡ each_from t test 1 (seen (i + 1) vs)
tests_more r after t test vs i v low is so_far here =
    let more : each_from t test 1 (seen (i + 1) vs) ≡ option_or (each_from t test 1 (seen i vs)) (test (i + 1) (view (get_or vs i v))) =
    rw (map_more view vs i v low, each_from-append t test 1 (seen i vs) (view (get_or vs i v) ∷ []), front_length vs i low) in
    here ∙ ap (λ x. option_or x (test (i + 1) (view v))) so_far ∙ ap (λ x. option_or (each_from t test 1 (seen i vs)) (test (i + 1) (view x))) is ∙ sym more

-- a test that passes leaves what came before
pub tests_passed : {R : Type 0} (r : Option R) (t : Option R) (test : ℕ → Data → Option R) (vs : List Value) (i : ℕ) (v : Value) → i < length vs
    → v ≡ get_or vs i v → r ≡ each_from t test 1 (seen i vs) → test (i + 1) (view v) ≡ None → r ≡ each_from t test 1 (seen (i + 1) vs)
tests_passed r t test vs i v low is so_far passed =
    tests_more r r t test vs i v low is so_far (sym (option_or-none r) ∙ ap (option_or r) (sym passed))

pub seen_all : (vs : List Value) (i : ℕ) → length vs ≤ i → seen i vs ≡ map view vs
seen_all vs i all = rw (take_all i vs all)

pub tests_whole : {R : Type 0} (r before : Option R) (test : ℕ → Data → Option R) (vs : List Value) (ds : List Data) (i : ℕ) → length vs ≤ i
    → map view vs ≡ ds → r ≡ each_from before test 1 (seen i vs) → r ≡ option_or before (each test 1 ds)
tests_whole r before test vs ds i all is so_far =
    so_far ∙ ap (each_from before test 1) (seen_all vs i all ∙ is) ∙ each_from-is before test 1 ds

-- ---- what is made of the items

made_more : {A : Type 0} (make : Data → Option A) (vs : List Value) (i : ℕ) (v : Value) → i < length vs → v ≡ get_or vs i v
    → filter_map make (seen (i + 1) vs) ≡ filter_map make (seen i vs) ++ cons_option (make (view v)) []
made_more make vs i v low is =
    ap (filter_map make) (map_more view vs i v low) ∙ filter_map-append make (seen i vs) (view (get_or vs i v) ∷ [])
    ∙ ap (λ x. filter_map make (seen i vs) ++ cons_option (make (view x)) []) (sym is)

append-nil : {A : Type 0} (xs : List A) → xs ++ [] ≡ xs
append-nil [] = refl
append-nil (x ∷ xs) = ap (λ ys. x ∷ ys) (append-nil xs)

pub made_one : {A : Type 0} (make : Data → Option A) (ys : List A) (y : A) (vs : List Value) (i : ℕ) (v : Value) → i < length vs → v ≡ get_or vs i v
    → ys ≡ filter_map make (seen i vs) → Some y ≡ make (view v) → ys ++ y ∷ [] ≡ filter_map make (seen (i + 1) vs)
made_one make ys y vs i v low is so_far made =
    ap (λ xs. xs ++ y ∷ []) so_far ∙ ap (λ o. filter_map make (seen i vs) ++ cons_option o []) made ∙ sym (made_more make vs i v low is)

pub made_none : {A : Type 0} (make : Data → Option A) (ys : List A) (vs : List Value) (i : ℕ) (v : Value) → i < length vs → v ≡ get_or vs i v
    → ys ≡ filter_map make (seen i vs) → None ≡ make (view v) → ys ≡ filter_map make (seen (i + 1) vs)
made_none make ys vs i v low is so_far none =
    so_far ∙ sym (append-nil (filter_map make (seen i vs))) ∙ ap (λ o. filter_map make (seen i vs) ++ cons_option o []) none ∙ sym (made_more make vs i v low is)

pub made_all : {A : Type 0} (make : Data → Option A) (ys : List A) (vs : List Value) (ds : List Data) (i : ℕ) → length vs ≤ i → map view vs ≡ ds
    → ys ≡ filter_map make (seen i vs) → ys ≡ filter_map make ds
made_all make ys vs ds i all is so_far = so_far ∙ ap (filter_map make) (seen_all vs i all ∙ is)

-- one more item under a map
pub map-push : {A B : Type 0} (f : A → B) (xs : List A) (x : A) → map f (xs ++ x ∷ []) ≡ map f xs ++ f x ∷ []
map-push f xs x = map-append f xs (x ∷ [])

-- ---- what is made of the tables among them

pub entry_one : {A B : Type 0} (plan : A → B) (g : Members → B) (xs : List A) (x : A) (t : Members) (vs : List Value) (i : ℕ) (v : Value) → i < length vs
    → v ≡ get_or vs i v → map plan xs ≡ map g (filter_map as_table (seen i vs)) → Some t ≡ as_table (view v) → plan x ≡ g t
    → map plan (xs ++ x ∷ []) ≡ map g (filter_map as_table (seen (i + 1) vs))
entry_one plan g xs x t vs i v low is so_far table made =
    map-push plan xs x ∙ ap (λ ys. ys ++ plan x ∷ []) so_far ∙ ap (λ y. map g (filter_map as_table (seen i vs)) ++ y ∷ []) made
    ∙ sym (map-push g (filter_map as_table (seen i vs)) t) ∙ ap (map g) (made_one as_table (filter_map as_table (seen i vs)) t vs i v low is refl table)

pub entry_none : {A B : Type 0} (plan : A → B) (g : Members → B) (xs : List A) (vs : List Value) (i : ℕ) (v : Value) → i < length vs
    → v ≡ get_or vs i v → map plan xs ≡ map g (filter_map as_table (seen i vs)) → None ≡ as_table (view v)
    → map plan xs ≡ map g (filter_map as_table (seen (i + 1) vs))
entry_none plan g xs vs i v low is so_far none =
    so_far ∙ ap (map g) (made_none as_table (filter_map as_table (seen i vs)) vs i v low is refl none)

pub all_push : {A B : Type 0} (P : B → Type 0) (plan : A → B) (xs : List A) (x : A) → All P (map plan xs) → P (plan x) → All P (map plan (xs ++ x ∷ []))
all_push P plan xs x all here = rw (map-push plan xs x) (All-push P (map plan xs) (plan x) all here)

-- ---- the tests of the tables among them

pub entry_tested : (row : Row) (tests : ℕ → Members → List Test) (e : ℕ) (d : Data) (t : Members) → Some t ≡ as_table d → in_entry row tests e d ≡ first (tests e t)
unfolding in_entry
entry_tested row tests e d t h = rw (← h)

pub entry_refused : (row : Row) (tests : ℕ → Members → List Test) (e : ℕ) (d : Data) → None ≡ as_table d → in_entry row tests e d ≡ Some (value_at row e 0)
unfolding in_entry
entry_refused row tests e d h = rw (← h)

pub entry_tests-more : (r after before : Test) (row : Row) (tests : ℕ → Members → List Test) (vs : List Value) (i : ℕ) (v : Value) (t : Members) → i < length vs
    → v ≡ get_or vs i v → r ≡ each_from before (in_entry row tests) 1 (seen i vs) → Some t ≡ as_table (view v) → after ≡ first_from r (tests (i + 1) t)
    → after ≡ each_from before (in_entry row tests) 1 (seen (i + 1) vs)
entry_tests-more r after before row tests vs i v t low is so_far table tested =
    tests_more r after before (in_entry row tests) vs i v low is so_far
    (tested ∙ first_from-is r (tests (i + 1) t) ∙ ap (option_or r) (sym (entry_tested row tests (i + 1) (view v) t table)))

pub entry_tests-none : (r after before : Test) (row : Row) (tests : ℕ → Members → List Test) (vs : List Value) (i : ℕ) (v : Value) → i < length vs
    → v ≡ get_or vs i v → r ≡ each_from before (in_entry row tests) 1 (seen i vs) → None ≡ as_table (view v) → after ≡ option_or r (Some (value_at row (i + 1) 0))
    → after ≡ each_from before (in_entry row tests) 1 (seen (i + 1) vs)
entry_tests-none r after before row tests vs i v low is so_far none refused =
    tests_more r after before (in_entry row tests) vs i v low is so_far
    (refused ∙ ap (option_or r) (sym (entry_refused row tests (i + 1) (view v) none)))
