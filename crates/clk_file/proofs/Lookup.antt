-- The keys of a table, and the items of arrays.
use Rattle.std.proofs.Common.{◌≡◌, ℕ, List, [], ◌∷◌, map, ◌&&◌, ◌||◌, Bor, string_bytes, refl, ap}
use Rattle.std.specs.List.{list_any, list_all}
use Rattle.std.specs.Str.{bytes_eq}
use Rattle.std.specs.Map.{keys_of}
use Rattle.toml.specs.View.{items_of, members_view}
use Rattle.toml.specs.Data.{Data}
use Rattle.toml.proofs.Views.{Entry}
use Rattle.clk_file.specs.Keys.{has_only, list_of}

-- a search among the values behind references
any_among : (names : List (Bor (List ℕ))) (key : List ℕ) → list_any (λ name. bytes_eq name key) (map (λ n. n.now) names) ≡ list_any (λ n. bytes_eq n.now key) names
any_among [] key = refl
any_among (n ∷ ns) key = ap (λ b. bytes_eq n.now key || b) (any_among ns key)

-- each key of a map's table is among the names
pub has_only-keys : (names : List (Bor (List ℕ))) (es : List Entry)
    → has_only (map (λ n. n.now) names) (members_view es) ≡ list_all (λ k. list_any (λ n. bytes_eq n.now (string_bytes k)) names) (keys_of es)
unfolding has_only
has_only-keys names [] = refl
has_only-keys names (e ∷ es) =
    rw (any_among names (string_bytes e.0)) (ap (λ b. list_any (λ n. bytes_eq n.now (string_bytes e.0)) names && b) (has_only-keys names es))

-- the items of an array, as a list
pub list_of-items : (ds : List Data) → list_of (items_of ds) ≡ ds
list_of-items [] = refl
list_of-items (d ∷ ds) = ap (λ xs. d ∷ xs) (list_of-items ds)
