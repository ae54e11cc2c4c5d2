-- The range tests and the limits say the same.
use Rattle.std.proofs.Common.{◌≡◌, [], ◌∷◌, None}
use Rattle.clk_base.specs.First.{first}
use Rattle.clk_base.proofs.Firsts.{first_append-passed}
use Rattle.clk_machine.specs.Plan.{Plan}
use Rattle.clk_machine.specs.Short.{IsWellFormed}
use Rattle.clk_machine.specs.Limits.{IsWithinLimits}
use Rattle.clk_machine.specs.Ranges.{part_tests, range_tests, tickets_test}
use Rattle.clk_machine.specs.Laws.{RangesAreTested, LimitsAreTested}
use Rattle.clk_machine.proofs.InRange.{in_range}
use Rattle.clk_machine.proofs.Passed.{parts_pass, tickets_pass, tickets_few}

pub ranges_are_tested : RangesAreTested
ranges_are_tested m formed = (in_range m formed, parts_pass m)

within : (m : Plan) → IsWellFormed m → first (range_tests m) ≡ None → IsWithinLimits m
within m formed h = record {
  ranges = in_range m formed (first_append-passed (part_tests m) (tickets_test m ∷ []) h).0;
  tickets = tickets_few m h;
}

pub limits_are_tested : LimitsAreTested
limits_are_tested m formed = (within m formed, λ l. tickets_pass m (parts_pass m l.ranges) l.tickets)
