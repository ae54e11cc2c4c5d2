-- What a word of a line reads as.
use Rattle.std.specs.Prelude.{ℕ, ◌+◌, List, length, pos, neg_ℤ, decimal}
use Rattle.std.specs.Fmt.{signed_decimal}
use Rattle.clk_trace.specs.declared.out.Part.{Part}
use Rattle.clk_trace.specs.declared.out.Part.TheVariants.{Name, Unsigned, Signed, Negated}

-- a name as it is, a number in decimal
abbrev pub part_text : Part → List ℕ
part_text (Name name) = name.now
part_text (Unsigned n) = decimal n
part_text (Signed n) = signed_decimal n
part_text (Negated n) = signed_decimal (neg_ℤ (pos n))

-- how many bytes it takes at most, with a space
abbrev pub part_room : Part → ℕ
part_room (Name name) = length name.now + 1
part_room (Unsigned n) = 21
part_room (Signed n) = 22
part_room (Negated n) = 22
