use Rattle.std.proofs.Common.{[], ◌∷◌, codes, rules, FitsSigned, w64, to_z-of_z}
use Rattle.toml.specs.View.{table_view}
use Rattle.clk_file.specs.Shape.{first_bring_up_keys}
use Rattle.clk_file.proofs.Versions.{known_by_version, bring_up_tests-parts}
use Rattle.clk_file.proofs.tables.bring_up_at.Goals as goal

pub returns-clause-test : goal.returns-clause-test
returns-clause-test c =
    let t = table_view c.args.part.now in
    let version : FitsSigned w64 c.args.version = search rules in
    let keys = known_by_version _ _ 0 _ c.args.version _ first_bring_up_keys (codes "first_us" ∷ []) t _ _ c.number.ensures (to_z-of_z version) c.by_version-keys.ensures c.known_keys.ensures in
    bring_up_tests-parts c.args.version t _ _ _ _ _ _ keys c.flag-adjust.ensures.test c.integer-timeout_us.ensures.test c.integer_or-first_us.ensures.test c.integer-turns.ensures.test

-- the default of the first CPU's time is the time of all
pub returns-clause-value : goal.returns-clause-value
returns-clause-value c =
    let timeout : FitsSigned w64 c.integer-timeout_us.result = search rules in
    let first : FitsSigned w64 c.integer_or-first_us.result = search rules in
    let turns : FitsSigned w64 c.integer-turns.result = search rules in
    let default = rw (to_z-of_z timeout, c.integer-timeout_us.ensures.value) at c.integer_or-first_us.ensures.value in
    rw (to_z-of_z timeout, to_z-of_z first, to_z-of_z turns)
    (rw (c.flag-adjust.ensures.value, c.integer-timeout_us.ensures.value, default, c.integer-turns.ensures.value))
