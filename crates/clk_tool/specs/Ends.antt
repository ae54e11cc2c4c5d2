-- What contracts see of the ends: the bytes, the room that is left, and what fails.
use Rattle.std.specs.Prelude.{ℕ, Bool, ◌&&◌, ◌||◌, ◌==◌, nat_lt, List, length, Option, Some, None, if◌then◌else◌, refl}
use Rattle.std.specs.Coded.{Coded, code_by, coded×, coded_ℕ}
use Rattle.clk_tool.specs.Failures.{Planned, fails_next}

-- a source in memory: the bytes left, and when it fails
pub record MemSourceState : Type 0 where
  pub left : List ℕ
  pub plan : Planned

-- a sink in memory: the bytes that it took, the room that is left, and when it fails
pub record MemSinkState : Type 0 where
  pub bytes : List ℕ
  pub room : ℕ
  pub plan : Planned

-- a write of a piece fails: its number is listed, or there are bytes and no room
abbrev pub refuses : MemSinkState → List ℕ → Bool
refuses s piece = fails_next s.plan || ((s.room == 0) && nat_lt 0 (length piece))

-- a sink that never fails: the bytes that it kept, the room that is left, and whether a byte came that did not fit
pub record SureSinkState : Type 0 where
  pub bytes : List ℕ
  pub room : ℕ
  pub full : Bool

-- what it took, as long as all of it fitted
abbrev pub told : SureSinkState → Option (List ℕ)
told s = if s.full then None else Some s.bytes

-- a reader or a writer of std, and how many of its calls failed
pub record Counted (T : Type 0) : Type 0 where
  pub inner : T
  pub faults : ℕ

abbrev pub counted_code : {T : Type 0} → Coded T → Coded (Counted T)
counted_code {T} code =
    code_by (T × ℕ) (coded× code coded_ℕ) (λ c. (c.inner, c.faults)) (λ p. record { inner = p.0; faults = p.1 }) (λ _. refl)
