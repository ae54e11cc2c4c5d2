use Rattle.std.proofs.Common.{◌≡◌, rules}
use Rattle.std.proofs.lemmas.Fn.{always_returns_same}
use Rattle.std.proofs.lemmas.List.Sorted.{IsPermutation-trans}
use Rattle.clk_num.specs.Wrapping.{above}
use Rattle.clk_lawful.specs.WordHistory.{is_flat}
use Rattle.clk_trace.proofs.gather.sort_slice.Goals as goal

pub returns-clause-all : goal.returns-clause-all
returns-clause-all c = IsPermutation-trans _ _ _ c.settle.ensures c.sort_unstable_by_key.ensures.permutation

pub returns-clause-sorted : goal.returns-clause-sorted
returns-clause-sorted c =
    c.sort_unstable_by_key.ensures.sorted (λ s. (above s.new c.args.opening.now, is_flat s, s.thread, s.call, s.part, s.old))
    (always_returns_same _ (λ a r. r ≡ (above a.0.now.new c.args.opening.now, is_flat a.0.now, a.0.now.thread, a.0.now.call, a.0.now.part, a.0.now.old)) _
    (λ a r q k. search rules))
