-- What comes after a warp run.
use Rattle.std.specs.Prelude.{ℕ, ◌||◌, ℤ, pos, neg_ℤ, nat_eq, nat_lt, if◌then◌else◌}
use Rattle.clk_record.specs.declared.warp.WarpRun.{WarpRun}
use Rattle.clk_record.specs.declared.verdict.Verdict.{Verdict}
use Rattle.clk_record.specs.declared.verdict.Verdict.TheVariants.{Passed, Again, Failed}

-- what the target adds to its counter: what it saw itself, or back by the greatest fall where only the source saw falls
abbrev pub adjustment : WarpRun → ℤ
adjustment run = if nat_eq run.cur_target 0 then neg_ℤ (pos run.max) else pos run.cur_target

-- with so many runs left, this one among them
abbrev pub verdict_of : WarpRun → ℕ → Verdict
verdict_of run runs_left =
    if nat_eq run.nr 0 then Passed
    else (if nat_eq runs_left 1 || nat_lt 0 run.random then Failed run.max run.random else Again (adjustment run))
