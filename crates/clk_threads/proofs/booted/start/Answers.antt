use Rattle.std.proofs.Common.{◌≡◌, true, false, List, [], ◌∷◌, ◌++◌, refl, sym, ap, ◌∙◌, subst, rules, FitsSigned, w64, to_z-of_z}
use Rattle.clk_record.specs.declared.stable.StableStamp.{StableStamp}
use Rattle.clk_threads.specs.Booting.{gtod_offset_of, AreStamps}
use Rattle.clk_threads.proofs.Stamping.{stable_offset_is, Drew, one_stamp, one_drawn, with_offset, two_stamps, two_drawn}
use Rattle.clk_threads.proofs.booted.start.Goals as goal

pub returns-then-not-starts_stable : goal.returns-then-not-starts_stable
returns-then-not-starts_stable c =
    let m = c.args.machine.now in
    let first = c.stamp-first.result in
    let time = c.stamp-first.new.time in
    let epoch = c.stamp-first.new.seat.epoch in
    let stamped = c.stamp-first.ensures.stamped in
    let percpu : m.stable ≡ false = sym c.starts_stable.ensures ∙ c.if-not-starts_stable.true in
    let items : c.push.new.self.items ≡ first ∷ [] = c.push.ensures.items ∙ ap (λ (xs : List StableStamp). xs ++ first ∷ []) c.requires.stamps.0 in
    let fits : FitsSigned w64 first.offset = search rules in
    let drew =
    subst (λ (xs : List StableStamp). Drew m c.args.tickets.now xs time) (sym items)
    (one_drawn m c.args.tickets.now c.args.time.now time epoch first percpu c.requires.time stamped) in
    record {
      stamps = subst (AreStamps m) (sym items) (one_stamp m c.args.time.now time epoch first percpu stamped);
      drawn = drew.drawn;
      left = drew.left;
      sched_offset = rw percpu refl;
      gtod_offset = to_z-of_z fits ∙ stamped.offset ∙ ap gtod_offset_of (sym items);
    }

pub returns : goal.returns
returns c =
    let m = c.args.machine.now in
    let first = c.stamp-first.result in
    let second = c.stamp-second.result in
    let middle = c.stamp-first.new.time in
    let time = c.stamp-second.new.time in
    let began = c.stamp-first.new.seat.epoch in
    let epoch = c.stamp-second.new.seat.epoch in
    let stamped = c.stamp-first.ensures.stamped in
    let again = c.stamp-second.ensures.stamped in
    let stable : m.stable ≡ true = sym c.starts_stable.ensures ∙ c.if-not-starts_stable.false in
    let fits : FitsSigned w64 first.offset = search rules in
    let gtod : FitsSigned w64 second.gtod = search rules in
    let raw : FitsSigned w64 second.raw.ns = search rules in
    let front : c.push.new.self.items ≡ first ∷ [] = c.push.ensures.items ∙ ap (λ (xs : List StableStamp). xs ++ first ∷ []) c.requires.stamps.0 in
    let last : c.push-2.new.self.items ≡ c.push.new.self.items ++ with_offset first.offset second ∷ [] = simp to_z-of_z at c.push-2.ensures.items in
    let items : c.push-2.new.self.items ≡ first ∷ with_offset first.offset second ∷ [] =
    last ∙ ap (λ (xs : List StableStamp). xs ++ with_offset first.offset second ∷ []) front in
    let sched = stable_offset_is second.gtod first.offset second.raw.ns gtod fits raw in
    let drew =
    subst (λ (xs : List StableStamp). Drew m c.args.tickets.now xs time) (sym items)
    (two_drawn m c.args.tickets.now c.args.time.now middle time began epoch first second stable c.requires.time stamped again) in
    record {
      stamps = subst (AreStamps m) (sym items) (two_stamps m c.args.time.now middle time began epoch first second stable stamped again);
      drawn = drew.drawn;
      left = drew.left;
      sched_offset = rw (items, stable, sym stamped.offset) sched;
      gtod_offset = to_z-of_z fits ∙ stamped.offset ∙ ap gtod_offset_of (sym items);
    }
