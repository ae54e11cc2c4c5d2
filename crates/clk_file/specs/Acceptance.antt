-- Acceptance: which machine some bytes are, or the first failing test.
use Rattle.std.specs.Prelude.{ℕ, List, [], ◌∷◌, Option, Some, None, option_map, Result, Ok, Err}
use Rattle.toml.specs.Data.{Members}
use Rattle.clk_base.specs.First.{first}
use Rattle.clk_machine.specs.declared.error.MachineError.{MachineError}
use Rattle.clk_machine.specs.declared.error.MachineError.TheVariants as machine
use Rattle.clk_machine.specs.Plan.{Plan}
use Rattle.clk_machine.specs.Ranges.{range_tests}
use Rattle.clk_file.specs.declared.error.TableError.{TableError}
use Rattle.clk_file.specs.declared.error.TableError.TheVariants.{Key, Value, Word, Cpu, Tickets}
use Rattle.clk_file.specs.declared.error.FileError.{FileError}
use Rattle.clk_file.specs.declared.error.FileError.TheVariants as file
use Rattle.clk_file.specs.Document.{document}
use Rattle.clk_file.specs.Shape.{shape_tests}
use Rattle.clk_file.specs.Described.{plan_in}

-- the refusal of a machine's numbers, as that of the table
abbrev pub of_machine : MachineError → TableError
of_machine (machine.Value place) = Value place
of_machine (machine.Cpu place) = Cpu place
of_machine (machine.Tickets needed) = Tickets needed

-- the first failing test of a table: its shape, then the ranges of the machine's numbers
abbrev pub refusal_in : Members → Option TableError
refusal_in t = first (first (shape_tests t) ∷ option_map of_machine (first (range_tests (plan_in t))) ∷ [])

-- the refusal of a table, as that of the file
abbrev pub of_table : TableError → FileError
of_table (Key place) = file.Key place
of_table (Value place) = file.Value place
of_table (Word place) = file.Word place
of_table (Cpu place) = file.Cpu place
of_table (Tickets needed) = file.Tickets needed

-- the machine, or the first failing test
abbrev pub machine_or : Plan → Option TableError → Result Plan FileError
machine_or m None = Ok m
machine_or m (Some refusal) = Err (of_table refusal)

abbrev pub accepted_table : Option Members → Result Plan FileError
accepted_table None = Err file.NotToml
accepted_table (Some t) = machine_or (plan_in t) (refusal_in t)

abbrev pub accepted : List ℕ → Result Plan FileError
accepted bytes = accepted_table (document bytes)

-- an answer that says nothing of the file
abbrev pub IsMemory : FileError → Type 0
IsMemory (file.Memory e) = Unit {0}
IsMemory _ = ⊥
