-- What the words of a command line ask for.
use Rattle.std.specs.Prelude.{ℕ, ◌<◌, ◌≤◌, ◌^◌, ◌==◌, ◌&&◌, ◌||◌, nat_lt, nat_le, Bool, List, String, [], ◌∷◌, length, map, slice_index, Option, Some, None, codes, decimal, if◌then◌else◌}
use Rattle.std.specs.Str.{bytes_eq}
use Rattle.std.specs.String.{string_bytes}
use Rattle.std.specs.Str.Parse.{digits_value}
use Rattle.clk_tool.specs.declared.command.Command.{Command}
use Rattle.clk_tool.specs.declared.command.Command.TheVariants.{Run, Rate, Make}

-- the number below 2^32 whose decimal, with no sign and no leading zero, is the word
unfoldable pub number_of : List ℕ → Option ℕ
number_of word =
    let number = digits_value 10 word in
    if bytes_eq word (decimal number) && nat_lt number (2 ^ 32) then Some number else None

-- the word begins with 1 to 9, or is 0
abbrev pub is_plain : List ℕ → Bool
is_plain word = (nat_le 49 (slice_index word 0) && nat_le (slice_index word 0) 57) || ((slice_index word 0 == 48) && (length word == 1))

-- `rate` of a frequency in Hz, which is not 0, and of 1 to 64 bits
abbrev pub rate_from : Option ℕ → Option ℕ → Option Command
rate_from (Some hz) (Some bits) = if nat_le 1 hz && nat_le 1 bits && nat_le bits 64 then Some (Rate hz bits) else None
rate_from _ _ = None

-- `make` of a number below 65,536
abbrev pub make_from : Option ℕ → Option Command
make_from (Some n) = if nat_lt n 65536 then Some (Make n) else None
make_from None = None

-- its numbers are in their ranges
abbrev pub IsCommandInRange : Command → Type 0
IsCommandInRange Run = Unit {0}
IsCommandInRange (Rate hz bits) = (1 ≤ hz) × (1 ≤ bits) × (bits ≤ 64)
IsCommandInRange (Make n) = n < 65536

-- the command, or none where the words are none of the forms
abbrev pub command_of : List (List ℕ) → Option Command
command_of (word ∷ []) = if bytes_eq word (codes "run") then Some Run else None
command_of (word ∷ number ∷ []) = if bytes_eq word (codes "make") then make_from (number_of number) else None
command_of (word ∷ hz ∷ bits ∷ []) = if bytes_eq word (codes "rate") then rate_from (number_of hz) (number_of bits) else None
command_of _ = None

-- what the words of a command line ask for
abbrev pub command_asked : {A : Type 0} → List (String A) → Option Command
command_asked words = command_of (map (λ word. string_bytes word) words)
