-- What is left of a number in 64 bits: it differs by whole turns of 2^64, and it is from -2^63 to below 2^63. From
-- these three facts `omega (arith, ints, clamps, wrapped)` gets what a law on wrapped numbers needs.
use Rattle.std.proofs.Common.{◌≡◌, ◌+◌, ◌*◌, ◌^◌, ◌<◌, ◌≤◌, ℤ, pos, negsuc, ◌+ℤ◌, arith}
use Rattle.std.proofs.lemmas.Int.{ints}
use Rattle.std.specs.Int.{int_rem_euclid, int_div_euclid}
use borrow.Author.Differences.{up, down}
use Rattle.clk_num.specs.Wrapping.{wrap}

-- the turns of 2^64 between a number and what is left of it
unfoldable pub turns : ℤ → ℤ
turns n = int_div_euclid (n +ℤ pos (2 ^ 63)) (pos (2 ^ 64))

-- quotient and remainder make the number
divided : (z : ℤ)
    → up (int_rem_euclid z (pos (2 ^ 64))) + down z + up (int_div_euclid z (pos (2 ^ 64))) * 2 ^ 64
    ≡ down (int_rem_euclid z (pos (2 ^ 64))) + up z + down (int_div_euclid z (pos (2 ^ 64))) * 2 ^ 64
divided (pos a) = omega arith
divided (negsuc a) = omega arith

-- the remainder is from 0 to below a turn
remains : (z : ℤ)
    → (down (int_rem_euclid z (pos (2 ^ 64))) ≤ up (int_rem_euclid z (pos (2 ^ 64))))
    × (up (int_rem_euclid z (pos (2 ^ 64))) < down (int_rem_euclid z (pos (2 ^ 64))) + 2 ^ 64)
remains (pos a) = omega arith
remains (negsuc a) = omega arith

pub wrap_turns : (n : ℤ) → up (wrap n) + down n + up (turns n) * 2 ^ 64 ≡ down (wrap n) + up n + down (turns n) * 2 ^ 64
unfolding wrap turns
wrap_turns n = omega (arith, ints, divided (n +ℤ pos (2 ^ 63)))

pub wrap_low : (n : ℤ) → down (wrap n) ≤ up (wrap n) + 2 ^ 63
unfolding wrap
wrap_low n = omega (arith, ints, remains (n +ℤ pos (2 ^ 63)))

pub wrap_high : (n : ℤ) → up (wrap n) < down (wrap n) + 2 ^ 63
unfolding wrap
wrap_high n = omega (arith, ints, remains (n +ℤ pos (2 ^ 63)))

-- for `omega`
pub ruleset wrapped = (wrap_turns, wrap_low, wrap_high)
