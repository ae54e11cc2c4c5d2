-- Which word of a script a string is.
use Rattle.std.specs.Prelude.{ℕ, ◌+◌, ◌-◌, ◌*◌, ◌==◌, nat_le, Bool, not, ◌&&◌, ◌||◌, pos, List, length, take, drop, slice_index, fold, codes, Option, Some, None, option_map, option_and_then, if◌then◌else◌}
use Rattle.std.specs.Option.{option_or}
use Rattle.std.specs.List.{list_all}
use Rattle.std.specs.Str.{bytes_eq}
use Rattle.clk_machine.specs.declared.script.Word.{Word}
use Rattle.clk_machine.specs.declared.script.Word.TheVariants.{Local, Remote, Tick, Idle, Update, Pause}
use Rattle.clk_file.specs.declared.words.Thread.{Thread}
use Rattle.clk_file.specs.declared.words.Thread.TheVariants as thread

-- a decimal digit, and what digits stand for
abbrev pub is_digit : ℕ → Bool
is_digit c = nat_le 48 c && nat_le c 57

abbrev pub with_digit : ℕ → ℕ → ℕ
with_digit n c = n * 10 + (c - 48)

-- 1 to 9 digits, of which the first is 0 only where it is alone
unfoldable pub is_number : List ℕ → Bool
is_number text =
    (nat_le 1 (length text) && nat_le (length text) 9)
    && (list_all is_digit text && ((length text == 1) || not (slice_index text 0 == 48)))

unfoldable pub number_of : List ℕ → Option ℕ
number_of text = if is_number text then Some (fold with_digit 0 text) else None

-- the number behind a name and a space
abbrev pub begins_with : List ℕ → List ℕ → Bool
begins_with name text = bytes_eq (take (length name) text) name

unfoldable pub number_after : List ℕ → List ℕ → Option ℕ
number_after name text = if begins_with name text then number_of (drop (length name) text) else None

-- the word that a text is
unfoldable pub word_of : List ℕ → Option Word
word_of text =
    if bytes_eq text (codes "local") then Some Local
    else if bytes_eq text (codes "tick") then Some Tick
    else if bytes_eq text (codes "idle") then Some Idle
    else if bytes_eq text (codes "update") then Some Update
    else option_or (option_map (λ cpu. Remote (pos cpu)) (number_after (codes "remote ") text))
    (option_map (λ tickets. Pause (pos tickets)) (number_after (codes "pause ") text))

-- a reader makes readings and pauses alone
abbrev pub reader_word : Word → Option Word
reader_word Local = Some Local
reader_word (Remote cpu) = Some (Remote cpu)
reader_word Tick = None
reader_word Idle = None
reader_word Update = None
reader_word (Pause tickets) = Some (Pause tickets)

-- the word that a text is in the script of a CPU or of a reader
abbrev pub word_in : Thread → List ℕ → Option Word
word_in thread.Cpu text = word_of text
word_in thread.Reader text = option_and_then reader_word (word_of text)
