use Rattle.std.proofs.Common.{[], ◌∷◌, codes, rules, FitsSigned, w64, to_z-of_z}
use Rattle.toml.specs.View.{table_view}
use Rattle.clk_file.specs.Shape.{first_cpu_keys}
use Rattle.clk_file.proofs.Versions.{known_by_version, cpu_tests-parts}
use Rattle.clk_file.proofs.entries.CpuPartEntry.read.Goals as goal

pub returns-clause-test : goal.returns-clause-test
returns-clause-test c =
    let t = table_view c.args.table.now in
    let version = c.args.numbers.now.version in
    let fits : FitsSigned w64 c.args.numbers.now.version = search rules in
    let keys = known_by_version _ _ c.args.entry _ version _ first_cpu_keys (codes "socket" ∷ []) t _ _ c.number.ensures (to_z-of_z fits) c.by_version-keys.ensures c.known_keys.ensures in
    cpu_tests-parts version c.args.entry t _ _ _ _ _ _ _ keys c.integer_or-khz.ensures.test c.integer_or-offset.ensures.test c.integer_or-socket.ensures.test
    c.in_ok-jumps.ensures.test c.in_ok-script.ensures.test
