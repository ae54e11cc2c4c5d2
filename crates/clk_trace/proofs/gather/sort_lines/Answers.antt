use Rattle.std.proofs.Common.{sym, subst}
use Rattle.std.specs.List.Sorted.{IsPermutation, IsSorted}
use Rattle.clk_lawful.specs.WordHistory.{history_cmp}
use Rattle.clk_trace.proofs.Gaining.{refill_same}
use Rattle.clk_trace.proofs.gather.sort_lines.Goals as goal

pub returns : goal.returns
returns c =
    let long = rw c.items_mut.ensures.value at c.sort_slice.auto.lines in
    let all = rw c.items_mut.ensures.value at c.sort_slice.ensures.all in
    let same = refill_same c.args.lines.now.items c.sort_slice.new.lines long in
    record {
      all = subst (λ xs. IsPermutation c.args.lines.now.items xs) (sym same) all;
      sorted = subst (λ xs. IsSorted (history_cmp c.args.opening.now) xs) (sym same) c.sort_slice.ensures.sorted;
    }
