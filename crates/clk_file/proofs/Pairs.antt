-- A jump is a pair.
use Rattle.std.proofs.Common.{◌≡◌, ℤ, List, [], ◌∷◌, length, get_or, Option, Some, None, option_map, refl, arith}
use Rattle.std.specs.Option.{option_zip}
use Rattle.toml.specs.Data.{Data, as_integer, as_array}
use Rattle.toml.specs.View.{view, items_view}
use Rattle.toml.specs.declared.value.Value.{Value}
use Rattle.clk_machine.specs.Plan.{JumpPlan}
use Rattle.clk_file.specs.Shape.{jump_pair, jump_of}

abbrev pub jump_plan_of : ℤ → ℤ → JumpPlan
jump_plan_of at cycles = record { at = at; cycles = cycles }

abbrev pair_in : Data → Data → Option JumpPlan
pair_in at cycles = option_map (λ p. record { at = p.0; cycles = p.1 }) (option_zip (as_integer at) (as_integer cycles))

-- an array of two integers is the jump
pub jump_of-pair : (d : Data) (vs : List Value) (a b : Value) (at cycles : ℤ) → Some (items_view vs) ≡ as_array d → length vs ≡ 2 → a ≡ get_or vs 0 a → b ≡ get_or vs 1 b
    → Some at ≡ as_integer (view a) → Some cycles ≡ as_integer (view b) → Some (jump_plan_of at cycles) ≡ jump_of d
unfolding jump_of
jump_of-pair d vs a b at cycles array two first second x y = rw (← array) (go vs two first second)
  where
    go : (ws : List Value) → length ws ≡ 2 → a ≡ get_or ws 0 a → b ≡ get_or ws 1 b → Some (jump_plan_of at cycles) ≡ jump_pair (items_view ws)
    go [] two first second = absurd (omega arith)
    go (v ∷ []) two first second = absurd (omega arith)
    go (v ∷ w ∷ []) two first second = rw (← first, ← second, ← x, ← y)
    go (v ∷ w ∷ z ∷ ws) two first second = absurd (omega arith)

-- every other value is none
pub jump_of-no_array : (d : Data) → None ≡ as_array d → None ≡ jump_of d
unfolding jump_of
jump_of-no_array d h = rw (← h)

pub jump_of-other : (d : Data) (vs : List Value) → Some (items_view vs) ≡ as_array d → (length vs ≡ 2 → ⊥) → None ≡ jump_of d
unfolding jump_of
jump_of-other d vs array other = rw (← array) (go vs other)
  where
    go : (ws : List Value) → (length ws ≡ 2 → ⊥) → None ≡ jump_pair (items_view ws)
    go [] other = refl
    go (v ∷ []) other = refl
    go (v ∷ w ∷ []) other = absurd (other refl)
    go (v ∷ w ∷ z ∷ ws) other = refl

pub jump_of-no_time : (d : Data) (vs : List Value) (a : Value) → Some (items_view vs) ≡ as_array d → length vs ≡ 2 → a ≡ get_or vs 0 a → None ≡ as_integer (view a)
    → None ≡ jump_of d
unfolding jump_of
jump_of-no_time d vs a array two first none = rw (← array) (go vs two first)
  where
    go : (ws : List Value) → length ws ≡ 2 → a ≡ get_or ws 0 a → None ≡ jump_pair (items_view ws)
    go [] two first = absurd (omega arith)
    go (v ∷ []) two first = absurd (omega arith)
    go (v ∷ w ∷ []) two first = rw (← first, ← none)
    go (v ∷ w ∷ z ∷ ws) two first = absurd (omega arith)

zip_none : {A B : Type 0} (o : Option A) → option_zip {T = A} {U = B} o None ≡ None
zip_none None = refl
zip_none (Some x) = refl

pub jump_of-no_cycles : (d : Data) (vs : List Value) (b : Value) → Some (items_view vs) ≡ as_array d → length vs ≡ 2 → b ≡ get_or vs 1 b → None ≡ as_integer (view b)
    → None ≡ jump_of d
unfolding jump_of
jump_of-no_cycles d vs b array two second none = rw (← array) (go vs two second)
  where
    go : (ws : List Value) → length ws ≡ 2 → b ≡ get_or ws 1 b → None ≡ jump_pair (items_view ws)
    go [] two second = absurd (omega arith)
    go (v ∷ []) two second = absurd (omega arith)
    go (v ∷ w ∷ []) two second = rw (← second, ← none, zip_none (as_integer (view v)))
    go (v ∷ w ∷ z ∷ ws) two second = absurd (omega arith)
