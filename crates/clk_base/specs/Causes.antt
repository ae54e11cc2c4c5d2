-- Why a read or a write failed, by counts of faults, and what was appended to a sink whose bytes are known.
use Rattle.std.specs.Prelude.{◌≡◌, ℕ, ◌+◌, ◌-◌, ◌^◌, ◌<◌, ◌≤◌, min, List, [], ◌++◌, length, take, Option, Some, None, Result, MatchResult, OnErr, IsSomeAnd}

-- a count after one more; at the end of its type it stands still
abbrev pub one_more : ℕ → ℕ
one_more count = min (count + 1) (2 ^ 64 - 1)

-- a count of faults rose; at the end of its type it cannot, and that counts as a rise
abbrev pub Rose : ℕ → ℕ → Type 0
Rose before now = one_more before ≤ now

-- a count of faults never falls, and where the call failed it rose
pub record HasCause {T E : Type 0} (before now : ℕ) (result : Result T E) : Type 0 where
  pub later : before ≤ now
  pub failed : OnErr result (Rose before now)

-- known bytes grew by bs; what a sink tells afterwards it also told before
abbrev pub Grew : Option (List ℕ) → Option (List ℕ) → List ℕ → Type 0
Grew old None bs = Unit {0}
Grew old (Some ys) bs = IsSomeAnd old (λ xs. ys ≡ xs ++ bs)

-- `write(piece)` appended the n bytes that it took, some of a piece that is not empty, and nothing where it failed
abbrev pub Wrote : {E : Type 0} → Option (List ℕ) → Option (List ℕ) → Result ℕ E → List ℕ → Type 0
Wrote old new r piece =
    MatchResult r (λ n. (n ≤ length piece) × (0 < length piece → 0 < n) × Grew old new (take n piece)) (λ _. Grew old new [])

-- known bytes grew by a beginning of the text
abbrev pub GrewByPrefix : Option (List ℕ) → Option (List ℕ) → List ℕ → Type 0
GrewByPrefix old new text = (n : ℕ) × Grew old new (take n text)
