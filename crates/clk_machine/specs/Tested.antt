-- What the code's tests answer. No public contract cites these.
use Rattle.std.specs.Prelude.{◌≡◌, ℕ, ◌*◌, ◌≤◌, true, false, ℤ, pos, Option, Some, None, MatchOption, Result, MatchResult}
use Rattle.clk_machine.specs.declared.script.Word.{Word}
use Rattle.clk_machine.specs.declared.script.Word.TheVariants.{Remote, Pause}
use Rattle.std.specs.List.{All, sum_by}
use Rattle.clk_machine.specs.Plan.{ScriptPlan, count_of}
use Rattle.clk_machine.specs.Limits.{IsWithin, longest_pause}
use Rattle.clk_machine.specs.Tickets.{tickets_of}
use Rattle.clk_machine.specs.Steps.{steps_for}
use Rattle.clk_machine.specs.Ranges.{Test, is_between, script_length}
use Rattle.clk_machine.specs.declared.error.MachineError.{MachineError}

-- where the test passes, what the next item is told, which is small, and else the refusal
abbrev pub Tested : {S : Type 0} → Test → S → (S → Type 0) → Result S MachineError → Type 0
Tested test after IsSmall result =
    MatchResult result (λ told. (test ≡ None) × (told ≡ after) × IsSmall told) (λ refusal. test ≡ Some refusal)

-- the number, where it is in the range
abbrev pub NumberIn : ℕ → ℕ → ℤ → Option ℕ → Type 0
NumberIn low high value number =
    MatchOption number (is_between low high value ≡ false) (λ n. (is_between low high value ≡ true) × (value ≡ pos n) × (n ≤ high))

-- where the word is a remote reading, the CPU is a count, and where it is a pause, its tickets are, within their limit
abbrev pub HasCount : Word → Type 0
HasCount (Remote d) = d ≡ pos (count_of d)
HasCount (Pause n) = IsWithin 1 longest_pause n
HasCount _ = Unit {0}

-- the tickets of a script's words, as many times as they are repeated
abbrev pub script_tickets : ScriptPlan → ℕ
script_tickets s = count_of s.repeat * sum_by tickets_of s.words

-- the most steps of those words on clock word w, on this CPU
abbrev pub script_steps : ℕ → ℕ → ScriptPlan → ℕ
script_steps w cpu s = count_of s.repeat * sum_by (steps_for w cpu) s.words

-- a script whose tickets and steps can be counted
pub record IsRunnable (s : ScriptPlan) : Type 0 where
  pub repeat : IsWithin 0 65536 s.repeat
  pub few : script_length s ≤ 65536
  pub counts : All HasCount s.words
