use Rattle.std.proofs.Common.{rules, of_calls, int_le, pos, negsuc, arith}
use Rattle.std.proofs.lemmas.Fn.{always_returns_same}
use Rattle.clk_machine.proofs.Halving.{tickets_ordered, not_above}
use Rattle.clk_machine.proofs.counters.delays_passed.Goals as goal

pub returns : goal.returns
returns c =
    let point = c.partition_point.ensures.partitioned (λ d. int_le d.ticket (pos c.args.k)) (always_returns_same _ _ _ (λ a r f k. search (rules, of_calls)))
    (λ i j d le low up. not_above _ _ _ (tickets_ordered (negsuc 0) c.args.delays.now i j d c.requires.rise le low) up) in
    record { bound = c.partition_point.ensures.bound; below = λ k d low. point.0 k d (omega arith) low; above = λ k d le low. point.1 k d le low }
