use Rattle.clk_machine.proofs.Readings.{counters_are_small, counters_adjusted_twice_are_small, records_are_small, readings_are_small, first_readings_are_small}
use Rattle.clk_machine.proofs.laws.readings_are_small.Goals as goal

pub returns-clause-counters : goal.returns-clause-counters
returns-clause-counters c = counters_are_small

pub returns-clause-adjusted_twice : goal.returns-clause-adjusted_twice
returns-clause-adjusted_twice c = counters_adjusted_twice_are_small

pub returns-clause-records : goal.returns-clause-records
returns-clause-records c = records_are_small

pub returns-clause-readings : goal.returns-clause-readings
returns-clause-readings c = readings_are_small

pub returns-clause-first : goal.returns-clause-first
returns-clause-first c = first_readings_are_small
