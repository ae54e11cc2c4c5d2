-- Laws that functions of this crate carry.
use Rattle.std.specs.Prelude.{◌≡◌, ◌↔◌, ℕ, List, ◌++◌, codes, Some}
use Rattle.std.specs.Fmt.{signed_decimal}
use Rattle.clk_machine.specs.declared.script.Word.{Word}
use Rattle.clk_machine.specs.declared.script.Word.TheVariants.{Local, Remote, Tick, Idle, Update, Pause}
use Rattle.clk_machine.specs.Limits.{IsWithin}
use Rattle.clk_file.specs.Words.{word_of}

-- how a script word is spelled
abbrev pub spelling : Word → List ℕ
spelling Local = codes "local"
spelling (Remote cpu) = codes "remote " ++ signed_decimal cpu
spelling Tick = codes "tick"
spelling Idle = codes "idle"
spelling Update = codes "update"
spelling (Pause tickets) = codes "pause " ++ signed_decimal tickets

-- a word that has a spelling: its number has at most nine digits, and no sign
abbrev pub HasSpelling : Word → Type 0
HasSpelling Local = Unit {0}
HasSpelling (Remote cpu) = IsWithin 0 999999999 cpu
HasSpelling Tick = Unit {0}
HasSpelling Idle = Unit {0}
HasSpelling Update = Unit {0}
HasSpelling (Pause tickets) = IsWithin 0 999999999 tickets

-- a text is a word exactly where it is that word's spelling
abbrev pub WordsAreSpelled : Type 0
WordsAreSpelled = (text : List ℕ) (word : Word) → (word_of text ≡ Some word) ↔ ((text ≡ spelling word) × HasSpelling word)
