-- A source that is read whole.
use Rattle.std.specs.Prelude.{ℕ, ◌≡◌, ◌+◌, ◌++◌, ◌≤◌, List, length, Option}
use Rattle.std.specs.Io.KnownBytes.{Consumes, IsAtEnd}

-- these bytes came, then the source ended, and they are at most `limit`
pub record Came (limit : ℕ) (before after : Option (List ℕ)) (bytes : List ℕ) : Type 0 where
  pub consumed : Consumes before after bytes
  pub end : IsAtEnd after
  pub short : length bytes ≤ limit

-- some bytes came, n at most
abbrev pub CameAtMost : ℕ → Option (List ℕ) → Option (List ℕ) → Type 0
CameAtMost n before after = (bytes : List ℕ) × Consumes before after bytes × (length bytes ≤ n)

-- one byte more than n came
abbrev pub CameMore : ℕ → Option (List ℕ) → Option (List ℕ) → Type 0
CameMore n before after = (bytes : List ℕ) × Consumes before after bytes × (length bytes ≡ n + 1)

-- one read: the kept bytes grew by the n that came, and 0 means the end
pub record TookMore (before after : Option (List ℕ)) (old new : List ℕ) (n : ℕ) : Type 0 where
  pub bytes : List ℕ
  pub consumed : Consumes before after bytes
  pub grown : new ≡ old ++ bytes
  pub count : length bytes ≡ n
  pub end : n ≡ 0 → IsAtEnd after
