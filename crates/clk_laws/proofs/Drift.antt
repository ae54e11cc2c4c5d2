-- The stamp by which a lawful demotion goes has the offset of the stable clock, so the demotion opens at the stable
-- value of its raw reading less the drift.
use Rattle.std.proofs.Common.{◌≡◌, ℕ, ◌<◌, ℤ, pos, ◌+ℤ◌, ◌-ℤ◌, Bool, true, false, ◌&&◌, is_some, if◌then◌else◌, List, [], ◌∷◌, flat_map, length, Option, Some, None, ◌⊎◌, inl, inr, refl, sym, ap, ◌∙◌, subst, arith, All}
use Rattle.std.proofs.lemmas.Int.{ints}
use Rattle.std.proofs.lemmas.List.Elements.{All-head, All-tail}
use Rattle.clk_num.specs.Wrapping.{IsValue, wrap}
use Rattle.clk_num.proofs.Wraps.{wrapped}
use Rattle.clk_num.proofs.Heights.{wrap_fits}
use Rattle.clk_machine.specs.Plan.{Plan}
use Rattle.clk_record.specs.declared.stable.StableStamp.{StableStamp}
use Rattle.clk_record.specs.declared.stable.Demotion.{Demotion}
use Rattle.clk_record.specs.Demotions.{OpensLessDrift}
use Rattle.clk_record.proofs.Shifting.{shift_by_drift}
use Rattle.clk_lawful.specs.Checks.{Visit, listed, visits_of}
use Rattle.clk_lawful.specs.Standing.{is_stable, demotion_by, begins_stable, either_demotion}
use Rattle.clk_lawful.specs.Stamps.{Pair, boot_pair, last_pair, no_pair}
use Rattle.clk_lawful.specs.Demoted.{last_stamp, boot_stamp, HasOffset}
use Rattle.clk_lawful.specs.Watchdog.{AreCalledFor}
use Rattle.clk_lawful.specs.LawfulTrace.{IsLawful}
use Rattle.clk_lawful.specs.declared.trace.WatchTrace.{WatchTrace}
use Rattle.clk_lawful.specs.declared.trace.Trace.{Trace}
use Rattle.clk_laws.specs.Demoting.{LosesTheDrift}

-- ---- the stamps of the boot

-- the pair of the last one
pair-of-last : (s : StableStamp) (ss : List StableStamp) → last_pair (boot_pair s) ss ≡ boot_pair (last_stamp s ss)
pair-of-last s [] = refl
pair-of-last s (next ∷ ss) = pair-of-last next ss

last_pair_is : (p : Pair) (s : StableStamp) (ss : List StableStamp) → 0 < length ss → last_pair p ss ≡ boot_pair (last_stamp s ss)
last_pair_is p s [] h = absurd (omega arith)
last_pair_is p s (next ∷ ss) h = pair-of-last next ss

-- an offset comes back
comes_back : (offset gtod raw : ℤ) → IsValue offset → offset ≡ wrap ((raw +ℤ wrap ((gtod +ℤ offset) -ℤ raw)) -ℤ gtod)
comes_back offset gtod raw fits = omega (arith, ints, wrapped)

some_boots : (b : Bool) (n : ℕ) → n ≡ (if b then 2 else 1) → 0 < n
some_boots true n e = omega arith
some_boots false n e = omega arith

boot_has_offset : (m : Plan) (t : Trace) (s : StableStamp) → IsLawful m t → is_stable t.starts ≡ true
    → HasOffset t.sched_offset (boot_stamp t.gtod_offset s t.boots.items)
boot_has_offset m t s h e =
    let last : StableStamp = last_stamp s t.boots.items in
    let stable : m.stable ≡ true = sym h.opening.starts ∙ e in
    let pair = last_pair_is no_pair s t.boots.items (some_boots m.stable (length t.boots.items) h.opening.boots) in
    let offset : ℤ = t.gtod_offset in
    let sched : t.sched_offset ≡ wrap ((last.gtod +ℤ offset) -ℤ last.raw.ns) =
    h.opening.sched_offset
    ∙ ap (λ (b : Bool). if b then wrap (((last_pair no_pair t.boots.items).gtod +ℤ offset) -ℤ (last_pair no_pair t.boots.items).raw) else pos 0) stable
    ∙ ap (λ (p : Pair). wrap ((p.gtod +ℤ offset) -ℤ p.raw)) pair in
    let fits : IsValue offset = subst IsValue (sym h.opening.gtod_offset) (wrap_fits _) in
    comes_back offset last.gtod last.raw.ns fits ∙ ap (λ x. wrap ((last.raw.ns +ℤ x) -ℤ last.gtod)) (sym sched)

-- ---- those of the watchdog

last_has : (P : StableStamp → Type 0) (s : StableStamp) (ss : List StableStamp) → P s → All P ss → P (last_stamp s ss)
last_has P s [] p h = p
last_has P s (next ∷ ss) p h = last_has P next ss (All-head P next ss h) (All-tail P next ss h)

-- it demotes a stable clock alone
none_listed : (d : Option Demotion) → is_some d ≡ false → listed d ≡ []
none_listed None e = refl
none_listed (Some d) e = absurd (cc)

none_demoted : (vs : List Visit) → All (λ v. is_some v.demotion ≡ false) vs → flat_map (λ v. listed v.demotion) vs ≡ []
none_demoted [] h = refl
none_demoted (v ∷ vs) h =
    let P : Visit → Type 0 = λ u. is_some u.demotion ≡ false in
    let here = none_listed v.demotion (All-head P v vs h) in
    let more = none_demoted vs (All-tail P v vs h) in
    rw here more

one_listed : (d : Option Demotion) (x : Demotion) → d ≡ Some x → listed d ≡ [] → ⊥
one_listed None x e l = absurd (cc)
one_listed (Some y) x e l = absurd (cc)

was_stable : (b : Bool) (w : WatchTrace) (d : Demotion) → AreCalledFor b w → w.demotion ≡ Some d → b ≡ true
was_stable true w d c e = refl
was_stable false w d c e = absurd (one_listed w.demotion d e (sym c.demotion_shown ∙ none_demoted (visits_of w) c.demotions))

starts_stable : (a b : Bool) → (a && b) ≡ true → a ≡ true
starts_stable true b e = refl
starts_stable false b e = e

-- ---- both kinds of demotion

at_boot : (m : Plan) (t : Trace) (d : Demotion) → IsLawful m t → t.boot_demotion ≡ Some d → OpensLessDrift d
at_boot m t d h e =
    let called : (is_stable t.starts && t.ups.failed) ≡ true = sym h.demotion.boot.called ∙ ap (λ (o : Option Demotion). is_some o) e in
    let stable = starts_stable (is_stable t.starts) t.ups.failed called in
    let stamp : StableStamp = boot_stamp t.gtod_offset d.stable t.boots.items in
    shift_by_drift t.sched_offset t.gtod_offset stamp d (h.demotion.boot.demotion d d.stable e) (boot_has_offset m t d.stable h stable)

by_watchdog : (m : Plan) (t : Trace) (w : WatchTrace) (d : Demotion) → IsLawful m t → t.watch ≡ Some w → w.demotion ≡ Some d → OpensLessDrift d
by_watchdog m t w d h e f =
    let right = h.demotion.watch w e in
    let begins : begins_stable t ≡ true = was_stable (begins_stable t) w d (h.watchdog.called w e) f in
    let stable = starts_stable (is_stable t.starts) _ begins in
    let boot : StableStamp = boot_stamp t.gtod_offset d.stable t.boots.items in
    let stamp : StableStamp = last_stamp boot w.stamps.items in
    let has = last_has (HasOffset t.sched_offset) boot w.stamps.items (boot_has_offset m t d.stable h stable) right.stamps in
    shift_by_drift t.sched_offset stamp.offset stamp d ((right.demoted d f).demotion d.stable stamp refl) has

at_boot_or_later : (boot by : Option Demotion) (d : Demotion) → either_demotion boot by ≡ Some d → (boot ≡ Some d) ⊎ (by ≡ Some d)
at_boot_or_later None by d e = inr e
at_boot_or_later (Some x) by d e = inl e

watch_of : (o : Option WatchTrace) (d : Demotion) → demotion_by o ≡ Some d → (w : WatchTrace) × (o ≡ Some w) × (w.demotion ≡ Some d)
watch_of None d e = absurd (cc)
watch_of (Some w) d e = (w, refl, e)

pub loses_the_drift : LosesTheDrift
loses_the_drift m t d h e =
    elim (at_boot_or_later t.boot_demotion (demotion_by t.watch) d e) [
      | inl boot ↦ at_boot m t d h boot
      | inr later ↦ (let by = watch_of t.watch d later in by_watchdog m t by.0 d h by.1 by.2)
    ]
