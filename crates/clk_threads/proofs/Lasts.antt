-- The last stamp of a boot.
use Rattle.std.proofs.Common.{◌≡◌, ℕ, suc, ◌-◌, ◌<◌, Bool, true, false, cond, List, [], ◌∷◌, length, get_or, refl, ap, ◌∙◌, arith}
use Rattle.clk_record.specs.declared.stable.StableStamp.{StableStamp}
use Rattle.clk_lawful.specs.Stamps.{Pair, boot_pair, last_pair}

pub last_is : (p : Pair) (d : StableStamp) (stamps : List StableStamp) → 0 < length stamps → boot_pair (get_or stamps (length stamps - 1) d) ≡ last_pair p stamps
last_is p d [] some = absurd (omega (arith, some))
last_is p d (s ∷ []) some = refl
last_is p d (s ∷ t ∷ stamps) some =
    let next : length (s ∷ t ∷ stamps) - 1 ≡ suc (length (t ∷ stamps) - 1) = omega arith in
    ap (λ (i : ℕ). boot_pair (get_or (s ∷ t ∷ stamps) i d)) next ∙ last_is (boot_pair s) d (t ∷ stamps) (omega arith)

pub some_stamps : (stable : Bool) (n : ℕ) → n ≡ cond stable 2 1 → 0 < n
some_stamps true n e = omega (arith, e)
some_stamps false n e = omega (arith, e)
