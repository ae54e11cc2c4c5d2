-- How a remote reading couples two clock words: of two loaded values the lower word is raised to the other.
use Rattle.std.specs.Prelude.{◌≡◌, ℕ, ◌==◌, ℤ, if◌then◌else◌}
use Rattle.clk_num.specs.Wrapping.{IsNotBelow}
use Rattle.clk_record.specs.LowerWord.{lower_word, lower_value}
use Rattle.clk_lawful.specs.declared.event.EventKind.{EventKind}
use Rattle.clk_lawful.specs.declared.event.EventKind.TheVariants.{Stable, Local, Couple, Stamp, Nothing, Update, Pause}

-- a step on the word w of the two names the other one, and the value that was loaded of it
abbrev pub named_word : ℕ → ℕ → ℕ → ℕ
named_word cpu asked w = if w == asked then cpu else asked

abbrev pub named_value : ℕ → ℤ → ℤ → ℕ → ℤ
named_value asked own other w = if w == asked then own else other

-- a coupling of a thread on this CPU steps on the lower word, which by then held no less than was loaded of it
abbrev pub CouplesLower : ℕ → EventKind → Type 0
CouplesLower cpu (Stable raw value) = Unit {0}
CouplesLower cpu (Local raw tick_raw tick_gtod offset old new) = Unit {0}
CouplesLower cpu (Couple asked own other word old new) = (word ≡ lower_word cpu asked own other) × IsNotBelow old (lower_value own other)
CouplesLower cpu (Stamp gtod_ticket gtod raw) = Unit {0}
CouplesLower cpu Nothing = Unit {0}
CouplesLower cpu (Update p) = Unit {0}
CouplesLower cpu (Pause ticket count) = Unit {0}
