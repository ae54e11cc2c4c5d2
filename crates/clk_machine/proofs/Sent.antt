-- A machine may be used by several threads.
use denote.Param.Send.{IsSync, sendable}
use Rattle.std.proofs.Crossing.{crosses}
use Rattle.clk_num.specs.contracts.list.List
use Rattle.clk_machine.specs.contracts.machine.Machine
use Rattle.clk_machine.specs.contracts.parts.Parts
use Rattle.clk_machine.specs.contracts.parts.CpuPart
use Rattle.clk_machine.specs.contracts.parts.ReaderPart
use Rattle.clk_machine.specs.contracts.parts.SourcePart
use Rattle.clk_machine.specs.contracts.parts.ReferencePart
use Rattle.clk_machine.specs.contracts.parts.BringUpPart
use Rattle.clk_machine.specs.contracts.parts.WatchPart
use Rattle.clk_machine.specs.contracts.parts.Delay
use Rattle.clk_machine.specs.contracts.parts.Jump
use Rattle.clk_machine.specs.contracts.script.Script
use Rattle.clk_machine.specs.contracts.script.Word

word_shared : IsSync Word.the_row
word_shared = search (sendable, crosses) depth 60

words_shared : IsSync (List.the_row Word.the_row)
words_shared = search (word_shared, sendable, crosses) depth 60

script_shared : IsSync Script.the_row
script_shared = search (words_shared, sendable, crosses) depth 60

jump_shared : IsSync Jump.the_row
jump_shared = search (sendable, crosses) depth 60

jumps_shared : IsSync (List.the_row Jump.the_row)
jumps_shared = search (jump_shared, sendable, crosses) depth 60

cpu_shared : IsSync CpuPart.the_row
cpu_shared = search (script_shared, jumps_shared, sendable, crosses) depth 60

cpus_shared : IsSync (List.the_row CpuPart.the_row)
cpus_shared = search (cpu_shared, sendable, crosses) depth 60

reader_shared : IsSync ReaderPart.the_row
reader_shared = search (script_shared, sendable, crosses) depth 60

readers_shared : IsSync (List.the_row ReaderPart.the_row)
readers_shared = search (reader_shared, sendable, crosses) depth 60

delay_shared : IsSync Delay.the_row
delay_shared = search (sendable, crosses) depth 60

delays_shared : IsSync (List.the_row Delay.the_row)
delays_shared = search (delay_shared, sendable, crosses) depth 60

source_shared : IsSync SourcePart.the_row
source_shared = search (jumps_shared, sendable, crosses) depth 60

sources_shared : IsSync (List.the_row SourcePart.the_row)
sources_shared = search (source_shared, sendable, crosses) depth 60

reference_shared : IsSync ReferencePart.the_row
reference_shared = search (sendable, crosses) depth 60

bring_up_shared : IsSync BringUpPart.the_row
bring_up_shared = search (sendable, crosses) depth 60

watch_shared : IsSync WatchPart.the_row
watch_shared = search (sendable, crosses) depth 60

parts_shared : IsSync Parts.the_row
parts_shared =
    search (cpus_shared, readers_shared, delays_shared, sources_shared, reference_shared, bring_up_shared, watch_shared, sendable, crosses) depth 60 fits 20000

pub machine_shared : IsSync Machine.the_row
machine_shared = search (parts_shared, sendable, crosses) depth 60 fits 20000
