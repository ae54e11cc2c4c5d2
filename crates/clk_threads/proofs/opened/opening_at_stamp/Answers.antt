use Rattle.std.proofs.Common.{ℤ, pos, None, ◌-◌, List, length, get_or, ap, ◌∙◌, rules, FitsSigned, w64, to_z, of_z, to_z-of_z}
use Rattle.clk_record.specs.declared.mode.Mode.{Mode}
use Rattle.clk_record.specs.declared.stable.StableStamp.{StableStamp}
use Rattle.clk_lawful.specs.Stamps.{Pair, no_pair}
use Rattle.clk_threads.specs.Booting.{gtod_offset_of, opening_of}
use Rattle.clk_threads.proofs.Lasts.{last_is, some_stamps}
use Rattle.clk_threads.proofs.opened.opening_at_stamp.Goals as goal

pub returns : goal.returns
returns c =
    let m = c.args.machine.now in
    let stamps : List StableStamp = c.args.stamps.now in
    let none : StableStamp = record { gtod_ticket = 0; gtod = pos 0; raw = record { ticket = 0; cyc = 0; rec = 0; ns = pos 0 }; offset = pos 0 } in
    let last : StableStamp = get_or stamps (length stamps - 1) none in
    let mode : Mode = c.first_mode.result in
    let offset : FitsSigned w64 c.args.gtod_offset = search rules in
    let gtod : FitsSigned w64 last.gtod = search rules in
    let raw : FitsSigned w64 last.raw.ns = search rules in
    ap (λ (x : ℤ). record { mode = mode; offset = x; tick_gtod = to_z w64 (of_z w64 last.gtod); tick_raw = to_z w64 (of_z w64 last.raw.ns) })
    (to_z-of_z offset ∙ c.requires.offset)
    ∙ ap (λ (x : ℤ). record { mode = mode; offset = gtod_offset_of stamps; tick_gtod = x; tick_raw = to_z w64 (of_z w64 last.raw.ns) }) (to_z-of_z gtod)
    ∙ ap (λ (x : ℤ). record { mode = mode; offset = gtod_offset_of stamps; tick_gtod = last.gtod; tick_raw = x }) (to_z-of_z raw)
    ∙ ap (λ (x : Mode). record { mode = x; offset = gtod_offset_of stamps; tick_gtod = last.gtod; tick_raw = last.raw.ns }) c.first_mode.ensures
    ∙ ap (λ (q : Pair). record { mode = (opening_of m stamps None).mode; offset = gtod_offset_of stamps; tick_gtod = q.gtod; tick_raw = q.raw })
    (last_is no_pair none stamps (some_stamps m.stable (length stamps) c.requires.stamps.count))
