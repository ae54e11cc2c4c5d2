-- How many steps a script word makes on the clock word of a CPU, at most.
use Rattle.std.specs.Prelude.{ℕ, ◌+◌, ◌==◌, if◌then◌else◌}
use Rattle.clk_machine.specs.declared.script.Word.{Word}
use Rattle.clk_machine.specs.declared.script.Word.TheVariants.{Local, Remote, Tick, Idle, Update, Pause}
use Rattle.clk_machine.specs.Plan.{count_of}

-- a step on the word of a CPU counts where that is clock word w
abbrev pub on_word : ℕ → ℕ → ℕ
on_word cpu w = if cpu == w then 1 else 0

-- a reading steps once on its own CPU's word, and a tick makes one; a remote reading then couples that word with the
-- other, by one step on either; an idle time ends with a reading and a tick
abbrev pub steps_for : ℕ → ℕ → Word → ℕ
steps_for w cpu Local = on_word cpu w
steps_for w cpu (Remote d) = on_word cpu w + (on_word cpu w + on_word (count_of d) w)
steps_for w cpu Tick = on_word cpu w
steps_for w cpu Idle = on_word cpu w + on_word cpu w
steps_for w cpu Update = 0
steps_for w cpu (Pause n) = 0
