-- What the answers of the program mean.
use Rattle.std.specs.Prelude.{◌≡◌, ℕ, ◌≤◌, nat_le, List, length, Option, Some, None, Result, Ok, Err, if◌then◌else◌}
use Rattle.clk_machine.specs.Plan.{Plan}
use Rattle.clk_lawful.specs.TraceText.{text}
use Rattle.clk_lawful.specs.LawfulTrace.{IsLawful}
use Rattle.clk_lawful.specs.declared.trace.Trace.{Trace}
use Rattle.clk_file.specs.Acceptance.{accepted}
use Rattle.clk_file.specs.declared.error.FileError.{FileError}
use Rattle.clk_file.specs.declared.error.FileError.TheVariants as file
use Rattle.clk_tool.specs.Make.{MadeRun}
use Rattle.clk_tool.specs.Rate.{rate_text}
use Rattle.clk_tool.specs.Whole.{Came, CameMore}
use Rattle.clk_tool.specs.declared.command.Command.{Command}
use Rattle.clk_tool.specs.declared.command.Command.TheVariants as command
use Rattle.clk_tool.specs.declared.status.Status.{Status}
use Rattle.clk_tool.specs.declared.status.Status.TheVariants.{Done, Usage, ReadFault, Refused, WriteFault, Memory}
use Rattle.clk_tool.specs.declared.status.Refusal.{Refusal}
use Rattle.clk_tool.specs.declared.status.Refusal.TheVariants.{TooLong, NotToml, Key, Value, Word, Cpu, Tickets}

-- exit statuses, in the order of the answers
abbrev pub exit_code_of : Status → ℕ
exit_code_of Done = 0
exit_code_of Usage = 1
exit_code_of ReadFault = 2
exit_code_of (Refused r) = 3
exit_code_of WriteFault = 4
exit_code_of Memory = 5

-- the bytes of the file came to their end, and are this machine
pub record CameMachine (limit : ℕ) (before after : Option (List ℕ)) (m : Plan) : Type 0 where
  pub bytes : List ℕ
  pub came : Came limit before after bytes
  pub machine : accepted bytes ≡ Ok m

-- the text of a lawful trace of the machine was written so
pub record Traced (m : Plan) (Written : List ℕ → Type 0) : Type 0 where
  pub trace : Trace
  pub lawful : IsLawful m trace
  pub written : Written (text trace)

-- both
pub record Ran (limit : ℕ) (before after : Option (List ℕ)) (Written : List ℕ → Type 0) : Type 0 where
  pub machine : Plan
  pub came : CameMachine limit before after machine
  pub traced : Traced machine Written

-- what a command makes of its source was written so: of `run` the trace of the machine that came, of `rate` the lines
-- of the rate, and of `make` the lines of a lawful run of the machine that is made
abbrev pub Answered : Option Command → ℕ → Option (List ℕ) → Option (List ℕ) → (List ℕ → Type 0) → Type 0
Answered (Some command.Run) limit before after Written = Ran limit before after Written
Answered (Some (command.Rate hz bits)) limit before after Written = Written (rate_text hz bits)
Answered (Some (command.Make n)) limit before after Written = MadeRun n Written
Answered None limit before after Written = ⊥

-- the command is `rate`, or `make`
abbrev pub IsRate : Option Command → Type 0
IsRate (Some command.Run) = ⊥
IsRate (Some (command.Rate hz bits)) = Unit {0}
IsRate (Some (command.Make n)) = ⊥
IsRate None = ⊥

abbrev pub IsMake : Option Command → Type 0
IsMake (Some command.Run) = ⊥
IsMake (Some (command.Rate hz bits)) = ⊥
IsMake (Some (command.Make n)) = Unit {0}
IsMake None = ⊥

-- the refusal of a file that came whole, by what its bytes are: the first failing test
abbrev pub refusal_of : Result Plan FileError → Option Refusal
refusal_of (Ok m) = None
refusal_of (Err file.NotToml) = Some NotToml
refusal_of (Err (file.Key place)) = Some (Key place)
refusal_of (Err (file.Value place)) = Some (Value place)
refusal_of (Err (file.Word place)) = Some (Word place)
refusal_of (Err (file.Cpu place)) = Some (Cpu place)
refusal_of (Err (file.Tickets needed)) = Some (Tickets needed)
refusal_of (Err (file.Memory e)) = None

-- the answer of the program where a file is no machine
abbrev pub status_of : FileError → Status
status_of file.NotToml = Refused NotToml
status_of (file.Key place) = Refused (Key place)
status_of (file.Value place) = Refused (Value place)
status_of (file.Word place) = Refused (Word place)
status_of (file.Cpu place) = Refused (Cpu place)
status_of (file.Tickets needed) = Refused (Tickets needed)
status_of (file.Memory e) = Memory

-- the bytes of the file came to their end, and are refused so
pub record CameRefused (limit : ℕ) (before after : Option (List ℕ)) (refusal : Refusal) : Type 0 where
  pub bytes : List ℕ
  pub came : Came limit before after bytes
  pub refused : refusal_of (accepted bytes) ≡ Some refusal

-- what a refusal says of the bytes that came
abbrev pub IsCause : ℕ → Option (List ℕ) → Option (List ℕ) → Refusal → Type 0
IsCause limit before after TooLong = CameMore limit before after
IsCause limit before after refusal = CameRefused limit before after refusal

-- the source tells its bytes, they are few enough, and they are a machine
pub record HoldsMachine (limit : ℕ) (rest : Option (List ℕ)) : Type 0 where
  pub bytes : List ℕ
  pub told : rest ≡ Some bytes
  pub short : length bytes ≤ limit
  pub plan : Plan
  pub machine : accepted bytes ≡ Ok plan

-- how the bytes of a file are refused, if they are: there are too many, or by what they are
abbrev pub refusal_in : ℕ → List ℕ → Option Refusal
refusal_in limit bytes = if nat_le (length bytes) limit then refusal_of (accepted bytes) else Some TooLong

-- the source tells its bytes, and they are refused so
pub record HoldsRefused (limit : ℕ) (rest : Option (List ℕ)) (refusal : Refusal) : Type 0 where
  pub bytes : List ℕ
  pub told : rest ≡ Some bytes
  pub refused : refusal_in limit bytes ≡ Some refusal

-- answers under which nothing was written
abbrev pub IsSilent : Status → Type 0
IsSilent Done = ⊥
IsSilent Usage = Unit {0}
IsSilent ReadFault = Unit {0}
IsSilent (Refused r) = Unit {0}
IsSilent WriteFault = ⊥
IsSilent Memory = Unit {0}

-- the answers where no machine came, and those of the run of a machine
abbrev pub IsOfFile : Status → Type 0
IsOfFile ReadFault = Unit {0}
IsOfFile (Refused r) = Unit {0}
IsOfFile Memory = Unit {0}
IsOfFile _ = ⊥

abbrev pub IsOfRun : Status → Type 0
IsOfRun Done = Unit {0}
IsOfRun WriteFault = Unit {0}
IsOfRun Memory = Unit {0}
IsOfRun _ = ⊥
