use Rattle.std.proofs.Common.{◌≡◌, [], ◌∷◌, List, Some, Option, sym, subst, rules}
use Rattle.atomic_table.specs.Table.{opening}
use Rattle.clk_warp.specs.Run.{Run}
use Rattle.clk_warp.specs.LockRule.{Kept, knows_first}
use Rattle.clk_warp.proofs.Ending.{starts}
use Rattle.clk_warp.proofs.lock.TurnLock.new.Goals as goal

pub new-requires : goal.new-requires
new-requires c =
    let first = c.of-key.result.value in
    let slots : c.into_vec.result.items ≡ Some first ∷ [] = search rules in
    subst (λ (xs : List (Option Run)). Kept first (opening (0 ∷ (0 ∷ [])) xs (knows_first first))) (sym slots) (starts first)
