use Rattle.std.proofs.Common.{rules, to_z-of_z, FitsSigned, w64}
use Rattle.clk_local.proofs.tests.rows.read_half_way.Goals as goal

pub second_half-rest-requires-clause-loaded : goal.second_half-rest-requires-clause-loaded
second_half-rest-requires-clause-loaded g c κs lives =
    let fits : FitsSigned w64 c.first_half-tick_raw.result.1 = search rules in
    rw (to_z-of_z fits) c.first_half-tick_raw.ensures.loaded
