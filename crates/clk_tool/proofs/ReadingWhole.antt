-- What came in one read after another, joined.
use Rattle.std.proofs.Common.{◌+◌, ◌≤◌, ◌++◌, ℕ, List, [], length, Option, Some, None, refl, rules, arith, append_assoc}
use Rattle.std.proofs.lemmas.List.{length-append}
use Rattle.std.specs.Io.KnownBytes.{Consumes}
use Rattle.clk_tool.specs.Whole.{CameAtMost}

-- what came before and what came after came in all
pub Consumes-append : (a b c : Option (List ℕ)) (xs ys : List ℕ) → Consumes a b xs → Consumes b c ys → Consumes a c (xs ++ ys)
Consumes-append None b c xs ys before after = search rules
Consumes-append (Some held) (Some left) (Some last) xs ys before after = search (rules, append_assoc)
Consumes-append (Some held) (Some left) None xs ys before after = after
Consumes-append (Some held) None c xs ys before after = absurd before

-- some more came
pub CameAtMost-after : (a b c : Option (List ℕ)) (xs : List ℕ) (n m : ℕ) → Consumes a b xs → CameAtMost n b c → length xs + n ≤ m → CameAtMost m a c
CameAtMost-after a b c xs n m before more few =
    let both = length-append xs more.0 in
    let last = more.2 in
    (xs ++ more.0, Consumes-append a b c xs more.0 before more.1, omega (arith, both, last, few))

-- none came
Consumes-none : (a : Option (List ℕ)) → Consumes a a []
Consumes-none None = search rules
Consumes-none (Some held) = refl

pub CameNone : (n : ℕ) (a : Option (List ℕ)) → CameAtMost n a a
CameNone n a = ([], Consumes-none a, omega arith)
