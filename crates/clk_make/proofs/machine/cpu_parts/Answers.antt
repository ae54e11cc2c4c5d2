use Rattle.std.proofs.Common.{List, [], ◌∷◌, ◌++◌, map, sym, ap, ◌∙◌, arith}
use Rattle.std.specs.List.{range_with_len}
use Rattle.std.proofs.lemmas.List.{map-append}
use Rattle.std.proofs.lemmas.List.FromFn.{map-range_with_len_more}
use Rattle.clk_machine.specs.Plan.{CpuPlan, cpu_plan}
use Rattle.clk_make.specs.Made.{made_cpu}
use Rattle.clk_make.proofs.machine.cpu_parts.Goals as goal

pub loop-cpu-preserved : goal.loop-cpu-preserved
loop-cpu-preserved c =
    let room = c.push.ensures.room in
    let before = c.loop-cpu.invariant.room in
    let part = c.in_ok-cpu_part.field-0 in
    record {
      items =
          ap (map cpu_plan) c.push.ensures.items
          ∙ map-append cpu_plan c.loop-cpu.parts.items (part ∷ [])
          ∙ ap (λ (xs : List CpuPlan). xs ++ cpu_plan part ∷ []) c.loop-cpu.invariant.items
          ∙ ap (λ (p : CpuPlan). map (made_cpu c.args.n) (range_with_len 0 c.loop-cpu.cpu) ++ p ∷ []) c.in_ok-cpu_part.ensures
          ∙ sym (map-range_with_len_more (made_cpu c.args.n) 0 c.loop-cpu.cpu c.loop-cpu.cpu (omega arith));
      room = omega (arith, room, before);
    }
