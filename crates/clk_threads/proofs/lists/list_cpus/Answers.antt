use Rattle.std.proofs.Common.{ℕ, ◌<◌, List, [], ◌∷◌, ◌++◌, length, map, take, sym, ap, ◌∙◌, arith, rules}
use Rattle.clk_machine.specs.declared.script.Word.{Word}
use Rattle.clk_machine.specs.Plan.{threads_of}
use Rattle.clk_threads.proofs.Sharing.{map_more}
use Rattle.clk_threads.proofs.lists.list_cpus.Goals as goal

pub loop-thread-preserved : goal.loop-thread-preserved
loop-thread-preserved c =
    let m = c.args.machine.now in
    let thread = c.loop-thread.thread in
    let low : thread < length (threads_of m) = search rules in
    let room = c.push.ensures.room in
    let before = c.loop-thread.invariant.room in
    let cpu = c.cpu_of.ensures in
    record {
      items =
          c.push.ensures.items ∙ ap (λ (xs : List ℕ). xs ++ c.cpu_of.result ∷ []) c.loop-thread.invariant.items
          ∙ ap (λ (n : ℕ). map (λ (t : ℕ × List Word). t.0) (take thread (threads_of m)) ++ n ∷ []) cpu
          ∙ sym (map_more (λ (t : ℕ × List Word). t.0) (threads_of m) thread (0, []) low);
      room = omega (arith, room, before);
    }
