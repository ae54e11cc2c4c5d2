use Rattle.std.proofs.Common.{◌≡◌, true, List, Option, None, sym, ap, ◌∙◌, subst}
use Rattle.std.specs.Prelude.{is_some}
use Rattle.clk_worker.specs.Making.{Hand}
use Rattle.clk_threads.specs.Parts.{Parts, slot_at, with_slot, CameFrom}
use Rattle.clk_threads.proofs.Taking.{slot_low, run_set, none_stands, thread_is, came_here, came_slot}
use Rattle.clk_threads.proofs.parts.RunParts.take.Goals as goal

pub replace-requires : goal.replace-requires
replace-requires c =
    slot_low c.self.inside.running.slots.items c.args.thread (subst (λ (r : Parts). is_some (slot_at r c.args.thread) ≡ true) (sym c.self.view_is) c.requires.there)

pub unwrap-requires : goal.unwrap-requires
unwrap-requires c =
    ap is_some c.replace.ensures.was ∙ subst (λ (r : Parts). is_some (slot_at r c.args.thread) ≡ true) (sym c.self.view_is) c.requires.there

pub invariant_of-self : goal.invariant_of-self
invariant_of-self c =
    record {
      run =
          run_set c.self.inside.prepared.value c.self.inside.running c.replace.new.slots c.args.thread None c.self.invariant.run c.replace.ensures.slots
          (none_stands c.self.inside.prepared.value c.args.thread);
    }

pub returns-clause-worker : goal.returns-clause-worker
returns-clause-worker c =
    ap (λ (r : Parts). slot_at r c.args.thread) (sym c.self.view_is) ∙ (sym c.replace.ensures.was ∙ c.unwrap.ensures)

pub returns-clause-thread : goal.returns-clause-thread
returns-clause-thread c =
    let p = c.self.inside.prepared.value in
    let h : Hand = c.unwrap.result in
    thread_is p c.args.thread h (came_here p c.self.inside.running c.args.thread h c.self.invariant.run (sym c.replace.ensures.was ∙ c.unwrap.ensures))

pub returns-clause-came : goal.returns-clause-came
returns-clause-came c =
    let p = c.self.inside.prepared.value in
    let h : Hand = c.unwrap.result in
    subst (λ (r : Parts). CameFrom r.prepared h) c.self.view_is
    (came_slot p c.self.inside.running c.args.thread h c.self.invariant.run (sym c.replace.ensures.was ∙ c.unwrap.ensures))

pub returns-clause-parts : goal.returns-clause-parts
returns-clause-parts c =
    let p = c.self.inside.prepared.value in
    let watcher = c.self.inside.running.watcher in
    let seen : List (Option Hand) → Parts = λ slots. record { prepared = p; slots = slots; watcher = watcher } in
    ap seen c.replace.ensures.slots ∙ ap (λ (r : Parts). with_slot c.args.thread None r) c.self.view_is
