use Rattle.std.proofs.Common.{ℕ, List, Option, Some, sym, ap, ◌∙◌, subst, arith}
use Rattle.clk_worker.specs.Making.{Hand}
use Rattle.clk_threads.specs.Parts.{Parts, with_slot, CameAt, CameFrom}
use Rattle.clk_threads.proofs.Taking.{run_set, one_stands}
use Rattle.clk_threads.proofs.parts.RunParts.back.Goals as goal

pub replace-requires : goal.replace-requires
replace-requires c =
    let p = c.self.inside.prepared.value in
    let h : Hand = c.args.worker in
    let came : CameFrom p h = subst (λ (r : Parts). CameFrom r.prepared h) (sym c.self.view_is) c.requires.came in
    let low = came.there in
    let count = c.self.invariant.run.count in
    let thread = c.thread-thread.ensures in
    omega (arith, low, count, thread)

pub invariant_of-self : goal.invariant_of-self
invariant_of-self c =
    let p = c.self.inside.prepared.value in
    let h : Hand = c.args.worker in
    let came : CameFrom p h = subst (λ (r : Parts). CameFrom r.prepared h) (sym c.self.view_is) c.requires.came in
    let thread : ℕ = c.thread-thread.result in
    record {
      run =
          run_set p c.self.inside.running c.replace.new.slots thread (Some h) c.self.invariant.run c.replace.ensures.slots
          (one_stands p thread h (subst (λ (n : ℕ). CameAt p n h) (sym c.thread-thread.ensures) came.came));
    }

pub returns : goal.returns
returns c =
    let p = c.self.inside.prepared.value in
    let h : Hand = c.args.worker in
    let watcher = c.self.inside.running.watcher in
    let seen : List (Option Hand) → Parts = λ slots. record { prepared = p; slots = slots; watcher = watcher } in
    ap seen c.replace.ensures.slots ∙ ap (λ (r : Parts). with_slot c.thread-thread.result (Some h) r) c.self.view_is
    ∙ ap (λ (n : ℕ). with_slot n (Some h) c.args.self.now) c.thread-thread.ensures
