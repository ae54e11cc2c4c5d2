-- What seats know of the stamp words. The GTODs of the CPU c are register 2 * c, its raws register 2 * c + 1.
use Rattle.std.specs.Prelude.{◌≡◌, ℕ, zero, suc, ◌+◌, ◌*◌, ◌/◌, ℤ, Bool, true, false, List, [], ◌∷◌, ◌++◌, length, nat_lt, max, slice_index_or, ◌⊎◌, Option, Some, None, if◌then◌else◌}
use Rattle.clk_words.specs.declared.view.Part.{Part}
use Rattle.clk_words.specs.Fronts.{Begins}

abbrev pub gtod_of : ℕ → ℕ
gtod_of cpu = 2 * cpu

abbrev pub raw_of : ℕ → ℕ
raw_of cpu = 2 * cpu + 1

-- knowing nothing
abbrev pub nothing : Part
nothing = record { zero = None; after = [] }

-- what is known of a register
abbrev pub part_of : List Part → ℕ → Part
part_of parts r = slice_index_or parts r nothing

-- the same list with this part of the register r
abbrev pub put_part : List Part → ℕ → Part → List Part
put_part [] zero p = p ∷ []
put_part [] (suc r) p = nothing ∷ put_part [] r p
put_part (q ∷ parts) zero p = p ∷ parts
put_part (q ∷ parts) (suc r) p = q ∷ put_part parts r p

-- the last value that is known
abbrev pub last_from : ℤ → List ℤ → ℤ
last_from x [] = x
last_from x (y ∷ ys) = last_from y ys

-- what one part knows, another knows too
pub record PartBegins (p q : Part) : Type 0 where
  pub zero_is : (p.zero ≡ None) ⊎ (p.zero ≡ q.zero)
  pub after : Begins p.after q.after

-- either, the first if it is there
abbrev pub either_zero : Option ℤ → Option ℤ → Option ℤ
either_zero None y = y
either_zero (Some x) y = Some x

-- the owner's list, else the longer
abbrev pub kept_after : Bool → Bool → List ℤ → List ℤ → List ℤ
kept_after true b xs ys = xs
kept_after false true xs ys = ys
kept_after false false xs ys = if nat_lt (length xs) (length ys) then ys else xs

abbrev pub joint_part : Bool → Bool → Part → Part → Part
joint_part a b p q = record { zero = either_zero p.zero q.zero; after = kept_after a b p.after q.after }

-- a part for each register below n
abbrev pub parts_below : ℕ → (ℕ → Part) → List Part
parts_below zero f = []
parts_below (suc n) f = parts_below n f ++ f n ∷ []

-- whether the CPU of the register is among those owned
abbrev pub owns_register : (ℕ → Bool) → ℕ → Bool
owns_register owns r = owns (r / 2)

-- what two seats know together
abbrev pub joint_parts : (ℕ → Bool) → (ℕ → Bool) → List Part → List Part → List Part
joint_parts owns_a owns_b ps qs =
    parts_below
    (max (length ps) (length qs))
    (λ r. joint_part (owns_register owns_a r) (owns_register owns_b r) (part_of ps r) (part_of qs r))
