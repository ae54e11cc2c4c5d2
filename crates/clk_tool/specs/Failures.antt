-- Which calls of an end in memory fail. Calls are numbered from 1.
use Rattle.std.specs.Prelude.{ℕ, Bool, List, ◌==◌, if◌then◌else◌}
use Rattle.std.specs.List.{list_any}
use Rattle.clk_base.specs.Causes.{one_more}

-- the most bytes of one call, the numbers of the calls that are to fail, and how many calls came and failed
pub record Planned : Type 0 where
  pub piece : ℕ
  pub fails : List ℕ
  pub calls : ℕ
  pub faults : ℕ

-- before any call
abbrev pub fresh : ℕ → List ℕ → Planned
fresh piece fails = record { piece = piece; fails = fails; calls = 0; faults = 0 }

-- whether the number of the next call is listed
abbrev pub fails_next : Planned → Bool
fails_next p = list_any (λ number. number == one_more p.calls) p.fails

-- after a call that failed or did not
abbrev pub after_call : Bool → Planned → Planned
after_call failed p = record p { calls = one_more p.calls; faults = if failed then one_more p.faults else p.faults }
