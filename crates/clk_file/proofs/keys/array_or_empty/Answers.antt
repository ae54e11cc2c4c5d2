use Rattle.std.proofs.Common.{sym}
use Rattle.clk_file.specs.Keys.{found, items_at}
use Rattle.clk_file.proofs.Lookup.{list_of-items}
use Rattle.clk_file.proofs.keys.array_or_empty.Goals as goal

pub returns-clause-value : goal.returns-clause-value
unfolding found items_at
returns-clause-value c =
    let some = c.in-Some.ensures in
    let array = c.in-Some-as_array.ensures in
    rw (← some, ← array, c.as_slice.ensures.value) (sym (list_of-items _))
