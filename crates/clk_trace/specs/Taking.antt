-- How a text goes through a buffer to a sink.
use Rattle.std.specs.Prelude.{◌≡◌, ℕ, ◌≤◌, Bool, true, false, List, ◌++◌, Option}
use Rattle.clk_base.specs.Causes.{Rose, Grew, GrewByPrefix}

-- what waits in the buffer, and whether a write failed; then nothing is written any more
pub record Buffered : Type 0 where
  pub waiting : List ℕ
  pub failed : Bool

-- what the sink took and its count of faults, beside the buffer
pub record Progress : Type 0 where
  pub written : Option (List ℕ)
  pub faults : ℕ
  pub out : Buffered

-- how far a text is, at a sink that tells these two, with this buffer before it
abbrev pub progress_of : {S : Type 0} → (S → Option (List ℕ)) → (S → ℕ) → S → Buffered → Progress
progress_of written faults sink out = record { written = written sink; faults = faults sink; out = out }

-- the sink took a beginning of the bytes, and the rest is left
pub record Passes (before now : Option (List ℕ)) (bytes rest : List ℕ) : Type 0 where
  pub front : List ℕ
  pub grew : Grew before now front
  pub parts : bytes ≡ front ++ rest

-- a write failed: the sink took a beginning of the bytes, and its count of faults rose
pub record Cuts (before now : Progress) (bytes : List ℕ) : Type 0 where
  pub grew : GrewByPrefix before.written now.written bytes
  pub rose : Rose before.faults now.faults

-- a failure lasts, and after it the sink is left alone
pub record Rests (before now : Progress) : Type 0 where
  pub failed : now.out.failed ≡ true
  pub written : now.written ≡ before.written
  pub faults : now.faults ≡ before.faults

-- the text was appended to what waits: the sink took a beginning of both, and the rest waits, or a write failed
pub record Takes (before now : Progress) (text : List ℕ) : Type 0 where
  pub later : before.faults ≤ now.faults
  pub rests : before.out.failed ≡ true → Rests before now
  pub sound : before.out.failed ≡ false → now.out.failed ≡ false → Passes before.written now.written (before.out.waiting ++ text) now.out.waiting
  pub cut : before.out.failed ≡ false → now.out.failed ≡ true → Cuts before now (before.out.waiting ++ text)
