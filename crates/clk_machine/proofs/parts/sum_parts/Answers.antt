use Rattle.std.proofs.Common.{arith}
use Rattle.clk_machine.proofs.Summing.{delay_counts, ns_of_plan}
use Rattle.clk_machine.proofs.parts.sum_parts.Goals as goal

pub sum_delay_list-requires-clause-counts : goal.sum_delay_list-requires-clause-counts
sum_delay_list-requires-clause-counts c = delay_counts c.args.parts.now.delay.items c.requires.delay.ns

pub sum_delay_list-requires-clause-few : goal.sum_delay_list-requires-clause-few
sum_delay_list-requires-clause-few c = let few = c.requires.delay.sum in omega (arith, ns_of_plan c.args.parts.now.delay.items, few)

pub sum_cpu_list-requires : goal.sum_cpu_list-requires
sum_cpu_list-requires c = λ k d low. (c.requires.cpu k d low).jumps.sizes

pub sum_source_list-requires : goal.sum_source_list-requires
sum_source_list-requires c = λ k d low. (c.requires.source k d low).jumps.sizes
