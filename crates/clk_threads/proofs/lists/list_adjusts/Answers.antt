use Rattle.std.proofs.Common.{◌<◌, ℤ, pos, List, [], ◌∷◌, ◌++◌, length, map, take, sym, ap, ◌∙◌, arith, rules, FitsSigned, w64, to_z-of_z}
use Rattle.clk_record.specs.declared.up.CpuUp.{CpuUp}
use Rattle.clk_threads.proofs.Sharing.{map_more}
use Rattle.clk_threads.proofs.lists.list_adjusts.Goals as goal

pub loop-entry-preserved : goal.loop-entry-preserved
loop-entry-preserved c =
    let ups = c.args.up.now.cpus.items in
    let entry = c.loop-entry.entry in
    let low : entry < length ups = search rules in
    let room = c.push-in-loop-entry.ensures.room in
    let before = c.loop-entry.invariant.room in
    let found : CpuUp = c.get.result.now in
    let shown : FitsSigned w64 found.adjust = search rules in
    record {
      items =
          c.push-in-loop-entry.ensures.items ∙ ap (λ (z : ℤ). c.loop-entry.adjusts.items ++ z ∷ []) (to_z-of_z shown)
          ∙ ap (λ (xs : List ℤ). xs ++ found.adjust ∷ []) c.loop-entry.invariant.items
          ∙ ap (λ (u : CpuUp). pos 0 ∷ map (λ (x : CpuUp). x.adjust) (take entry ups) ++ u.adjust ∷ []) c.get.ensures
          ∙ ap (λ (xs : List ℤ). pos 0 ∷ xs) (sym (map_more (λ (x : CpuUp). x.adjust) ups entry found low));
      room = omega (arith, room, before);
    }
