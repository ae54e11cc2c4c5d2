-- Changes of a value, one after another.
use Rattle.std.specs.Prelude.{◌≡◌, List, [], ◌∷◌}

-- each change finds what the one before it left, and the first finds x
abbrev pub IsChainBy : {A V : Type 0} → (A → V) → (A → V) → V → List A → Type 0
IsChainBy old new x [] = Unit {0}
IsChainBy old new x (c ∷ cs) = (old c ≡ x) × IsChainBy old new (new c) cs
