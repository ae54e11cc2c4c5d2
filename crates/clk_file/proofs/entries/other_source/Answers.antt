use Rattle.std.proofs.Common.{rules, FitsSigned, w64, to_z-of_z}
use Rattle.clk_file.proofs.entries.other_source.Goals as goal

pub returns-clause-value : goal.returns-clause-value
returns-clause-value c =
    let rating : FitsSigned w64 c.integer-rating.result = search rules in
    let margin : FitsSigned w64 c.integer-margin.result = search rules in
    let nominal : FitsSigned w64 c.integer-nominal_khz.result = search rules in
    let khz : FitsSigned w64 c.integer_or-khz.result = search rules in
    let bits : FitsSigned w64 c.integer_or-bits.result = search rules in
    let default = rw (to_z-of_z nominal, c.integer-nominal_khz.ensures.value) at c.integer_or-khz.ensures.value in
    rw (to_z-of_z rating, to_z-of_z margin, to_z-of_z nominal, to_z-of_z khz, to_z-of_z bits)
    (rw (c.integer-rating.ensures.value, c.integer-margin.ensures.value, default, c.integer-nominal_khz.ensures.value, c.integer_or-bits.ensures.value, c.in_ok-jumps.ensures.value))
