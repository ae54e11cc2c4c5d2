use Rattle.std.proofs.Common.{pos, ◌+ℤ◌, arith}
use Rattle.std.proofs.lemmas.Int.{ints}
use Rattle.clk_num.specs.Wrapping.{wrap}
use Rattle.clk_num.proofs.Wraps.{wrapped}
use Rattle.clk_words.specs.Bounds.{IsGtod, IsRaw}
use Rattle.clk_demote.proofs.tests.words.Goals as goal

-- the words open at 42, and the stamp's raw value is near there
gtod_low : IsGtod (pos 30)
gtod_low = (omega (arith, ints), omega (arith, ints))

raw_near : IsRaw (wrap (pos 30 +ℤ pos 12)) (pos 44)
raw_near = (omega (arith, ints, wrapped), omega (arith, ints, wrapped))

pub new-requires-clause-opening : goal.new-requires-clause-opening
new-requires-clause-opening c = record { gtod = gtod_low; raw = raw_near }
