-- A clock that is stable as the scripts begin. Where the watchdog demotes it, what a thread knew of stamp 0 and of the
-- offset at its end is the demotion's; and where it does not, no word was lifted, so no thread made a step.
use Rattle.std.proofs.Common.{◌≡◌, ℕ, ◌+◌, ◌<◌, ℤ, Bool, true, false, not, ◌||◌, is_some, if◌then◌else◌, ◌⊎◌, inl, inr, List, [], ◌∷◌, ◌++◌, map, length, get_or, Option, Some, None, ap, ◌∙◌, sym, subst, refl, arith, append-nil}
use Rattle.std.specs.List.{All, flat_map, sum_by}
use Rattle.std.proofs.lemmas.List.Elements.{All-nil, All-cons, All-head, All-tail, All-append, All-map}
use Rattle.std.proofs.lemmas.List.Sums.{sum_by-cons}
use Rattle.clk_machine.specs.Plan.{Plan, cpu_count, thread_at}
use Rattle.clk_record.specs.declared.mode.Mode.TheVariants.{Stable, PerCpu}
use Rattle.clk_record.specs.declared.step.Step.{Step}
use Rattle.clk_record.specs.declared.step.Why.{Why}
use Rattle.clk_record.specs.declared.step.Why.TheVariants.{Raise, Couple, Lift}
use Rattle.clk_record.specs.declared.stable.Demotion.{Demotion}
use Rattle.clk_words.specs.declared.opening.Start.{Start}
use Rattle.clk_words.specs.declared.view.Part.{Part}
use Rattle.clk_words.specs.Calls.{own_steps}
use Rattle.clk_words.specs.Histories.{is_lift, IsInOrder, IsGlobalHistory}
use Rattle.clk_words.specs.Parts.{gtod_of, raw_of, part_of}
use Rattle.clk_lawful.specs.Stamps.{Pair, no_pair, last_pair, pair_at, stamp_zero}
use Rattle.clk_lawful.specs.Standing.{begins_stable, demotion_by, either_demotion, offset_at, standing_offset}
use Rattle.clk_lawful.specs.WordHistory.{Placed, steps_of_kind, steps_from}
use Rattle.clk_lawful.specs.declared.event.Event.{Event}
use Rattle.clk_lawful.specs.declared.event.EventKind.{EventKind}
use Rattle.clk_lawful.specs.declared.event.EventKind.TheVariants as event
use Rattle.clk_lawful.specs.declared.trace.Trace.{Trace}
use Rattle.clk_worker.proofs.RunParts.{MayHave, zero_stays}
use Rattle.clk_worker.proofs.RunSteps.{numbered}
use Rattle.clk_threads.specs.Finishing.{Ran, RanWhole, KnowsNoMore, IsRunOf}
use Rattle.clk_threads.proofs.LawfulLists.{cpu_of_thread, thread_cpu}
use Rattle.clk_threads.proofs.LawfulOpening.{mode_is, not_demoted}
use Rattle.clk_threads.proofs.LawfulQuiet.{AreQuiet}
use Rattle.clk_threads.proofs.LawfulStepless.{nil_left, nil_right, stepless_quiet}
use Rattle.clk_threads.proofs.LawfulThreads.{start_in, GoesBy, thread_has_run}
use Rattle.clk_threads.proofs.LawfulWatch.{watch_nothing, demoting}
use Rattle.clk_threads.proofs.Numbering.{each_of, cpus_few}

-- ---- where it is demoted

-- what one side knows the other does, and so nothing else may be known there
known_stays : (p q : Option ℤ) (x : ℤ) → (p ≡ None) ⊎ (p ≡ q) → p ≡ Some x → q ≡ Some x
known_stays p q x (inl nothing) e = let both : None ≡ Some x = sym nothing ∙ e in absurd (cc)
known_stays p q x (inr same) e = sym same ∙ e

may_know : (p q : Option ℤ) (x : ℤ) → (p ≡ None) ⊎ (p ≡ q) → q ≡ Some x → MayHave p x
may_know p q x (inl nothing) e = inl nothing
may_know p q x (inr same) e = inr (same ∙ e)

-- the pair and the offset that stand are the demotion's
demoted_pair : (t : Trace) (d : Demotion) → t.boot_demotion ≡ None → demotion_by t.watch ≡ Some d → stamp_zero t ≡ record { raw = d.raw.ns; gtod = d.gtod }
demoted_pair t d none e =
    ap (λ o. pair_at (last_pair no_pair t.boots.items) (either_demotion o (demotion_by t.watch))) none ∙ ap (pair_at (last_pair no_pair t.boots.items)) e

demoted_offset : (t : Trace) (d : Demotion) → t.boot_demotion ≡ None → demotion_by t.watch ≡ Some d → standing_offset t ≡ d.gtod_offset
demoted_offset t d none e = ap (λ o. offset_at t.gtod_offset (either_demotion o (demotion_by t.watch))) none ∙ ap (offset_at t.gtod_offset) e

-- each thread goes by it
pub goes_demoted : (m : Plan) (t : Trace) (closed : List Step) (run : IsRunOf m t closed) (d : Demotion) → begins_stable t ≡ true → demotion_by t.watch ≡ Some d
    → (cpu : ℕ) (r : Ran) → cpu < cpu_count m → KnowsNoMore r.ended.view run.joined → GoesBy t cpu r
goes_demoted m t closed run d stable e cpu r low knows =
    let by = demoting m t closed run d e in
    let shows = by.watch.shows.demoted d by.demotes in
    let seat : List Part = by.w.ended.view.pairs.parts in
    let joint : List Part = run.joined.pairs.parts in
    let own : List Part = r.ended.view.pairs.parts in
    let none = not_demoted t stable in
    let pair = demoted_pair t d none e in
    let raw = zero_stays (part_of seat (raw_of cpu)) (part_of joint (raw_of cpu)) d.raw.ns (by.watch.known.parts (raw_of cpu)) (shows.raws cpu low) in
    let gtod = zero_stays (part_of seat (gtod_of cpu)) (part_of joint (gtod_of cpu)) d.gtod (by.watch.known.parts (gtod_of cpu)) (shows.gtods cpu low) in
    let offset = known_stays by.w.ended.view.modes.offset run.joined.modes.offset d.gtod_offset by.watch.known.offset shows.offset in
    record {
      stands = record {
        raw =
            subst (λ (p : Pair). MayHave (part_of own (raw_of cpu)).zero p.raw) (sym pair)
            (may_know (part_of own (raw_of cpu)).zero (part_of joint (raw_of cpu)).zero d.raw.ns (knows.parts (raw_of cpu)).zero_is raw);
        gtod =
            subst (λ (p : Pair). MayHave (part_of own (gtod_of cpu)).zero p.gtod) (sym pair)
            (may_know (part_of own (gtod_of cpu)).zero (part_of joint (gtod_of cpu)).zero d.gtod (knows.parts (gtod_of cpu)).zero_is gtod);
        offset_is =
            subst (MayHave r.ended.view.modes.offset) (sym (demoted_offset t d none e))
            (may_know r.ended.view.modes.offset run.joined.modes.offset d.gtod_offset knows.offset offset);
      };
      percpu = ap (λ (b : Bool). not b || is_some (demotion_by t.watch)) stable ∙ ap (λ (o : Option Demotion). is_some o) e;
    }

-- ---- where it is not, no step is a lift

abbrev IsPlain : Step → Type 0
IsPlain s = is_lift s.why ≡ false

plain_kind : (thread cpu call part : ℕ) (k : EventKind) (rest : List Placed) → All (λ p. is_lift p.step.why ≡ false) rest
    → All (λ p. is_lift p.step.why ≡ false) (steps_of_kind thread cpu call part k ++ rest)
plain_kind thread cpu call part (event.Stable raw value) rest later = later
plain_kind thread cpu call part (event.Local raw tick_raw tick_gtod offset old new) rest later = All-cons (λ (p : Placed). is_lift p.step.why ≡ false) _ rest refl later
plain_kind thread cpu call part (event.Couple asked own other on old new) rest later = All-cons (λ (p : Placed). is_lift p.step.why ≡ false) _ rest refl later
plain_kind thread cpu call part (event.Stamp gtod_ticket gtod raw) rest later = later
plain_kind thread cpu call part event.Nothing rest later = later
plain_kind thread cpu call part (event.Update p) rest later = later
plain_kind thread cpu call part (event.Pause ticket count) rest later = later

plain_steps : (thread cpu part : ℕ) (es : List Event) → All (λ p. is_lift p.step.why ≡ false) (steps_from thread cpu part es)
plain_steps thread cpu part [] = All-nil (λ (p : Placed). is_lift p.step.why ≡ false)
plain_steps thread cpu part (e ∷ es) =
    plain_kind thread cpu e.call part e.kind (steps_from thread cpu (part + 1) es) (plain_steps thread cpu (part + 1) es)

plain_mine : (thread cpu : ℕ) (es : List Event) (mine : List Step) → mine ≡ map numbered (steps_from thread cpu 0 es) → All IsPlain mine
plain_mine thread cpu es mine is =
    subst (All IsPlain) (sym is) (All-map IsPlain numbered (steps_from thread cpu 0 es) (plain_steps thread cpu 0 es))

plain_all : (rans : List Ran) → All (λ r. All IsPlain r.ended.view.mine) rans → All IsPlain (flat_map (λ (r : Ran). r.ended.view.mine) rans)
plain_all [] all = All-nil IsPlain
plain_all (r ∷ rans) all =
    All-append IsPlain r.ended.view.mine (flat_map (λ (x : Ran). x.ended.view.mine) rans)
    (All-head (λ (x : Ran). All IsPlain x.ended.view.mine) r rans all) (plain_all rans (All-tail (λ (x : Ran). All IsPlain x.ended.view.mine) r rans all))

-- ---- so there is no step at all

abbrev one_if : Bool → ℕ
one_if b = if b then 1 else 0

abbrev lift_count : Step → ℕ
lift_count s = one_if (is_lift s.why)

plain_count : (b : Bool) → b ≡ false → one_if b ≡ 0
plain_count true e = absurd (cc)
plain_count false e = refl

count_plain : (b : Bool) (n : ℕ) → one_if b + n ≡ 0 → b ≡ false
count_plain true n e = absurd (omega (arith, e))
count_plain false n e = refl

plain_sum : (ss : List Step) → All IsPlain ss → sum_by lift_count ss ≡ 0
plain_sum [] all = refl
plain_sum (s ∷ ss) all =
    let head = plain_count (is_lift s.why) (All-head IsPlain s ss all) in
    let rest = plain_sum ss (All-tail IsPlain s ss all) in
    let both = sum_by-cons lift_count s ss in
    omega (arith, head, rest, both)

-- the first step of a stable start is a lift
first_lifts : (start : Start) (y : Why) → start.opening.mode ≡ Stable → 0 < start.cpus → IsInOrder start [] y → is_lift y ≡ false → ⊥
first_lifts start (Raise raw tick_raw tick_gtod offset) stable some order plain = let e = order stable 0 some in absurd (cc)
first_lifts start (Couple from value) stable some order plain = let e = order stable 0 some in absurd (cc)
first_lifts start (Lift value) stable some order plain = absurd (cc)

nothing_made : (start : Start) (history : List Step) → start.opening.mode ≡ Stable → 0 < start.cpus → IsGlobalHistory start history
    → sum_by lift_count history ≡ 0 → history ≡ []
nothing_made start [] stable some legal count = refl
nothing_made start (s ∷ history) stable some legal count =
    let plain = count_plain (is_lift s.why) (sum_by lift_count history) (sym (sum_by-cons lift_count s history) ∙ count) in
    absurd (first_lifts start s.why stable some legal.0.in_order plain)

none_counted : (ss : List Step) → sum_by (λ (s : Step). 1) ss ≡ 0 → ss ≡ []
none_counted [] e = refl
none_counted (s ∷ ss) e = let both = sum_by-cons (λ (x : Step). 1) s ss in absurd (omega (arith, e, both))

each_nothing : (rans : List Ran) → flat_map (λ (r : Ran). r.ended.view.mine) rans ≡ [] → All (λ r. r.ended.view.mine ≡ []) rans
each_nothing [] e = All-nil (λ (r : Ran). r.ended.view.mine ≡ [])
each_nothing (r ∷ rans) e =
    let rest : List Step = flat_map (λ (x : Ran). x.ended.view.mine) rans in
    All-cons (λ (x : Ran). x.ended.view.mine ≡ []) r rans (nil_left r.ended.view.mine rest e) (each_nothing rans (nil_right r.ended.view.mine rest e))

-- of a thread of the run
record RanHere (m : Plan) (t : Trace) (k : ℕ) (r : Ran) : Type 0 where
  mine : r.ended.view.mine ≡ map numbered (steps_from k (cpu_of_thread m k) 0 r.events.items)
  quiet : r.ended.view.mine ≡ [] → AreQuiet r.events.items

no_steps : (ps : List Placed) → map numbered ps ≡ [] → ps ≡ []
no_steps [] e = refl
no_steps (p ∷ ps) e = absurd (cc)

ran_here : (m : Plan) (t : Trace) (closed : List Step) (run : IsRunOf m t closed) (k : ℕ) (d : Ran) → k < length run.rans → RanHere m t k (get_or run.rans k d)
ran_here m t closed run k d low =
    let r : Ran = get_or run.rans k d in
    let count = run.count in
    let within : cpu_of_thread m k < cpu_count m = thread_cpu m k run.limits (omega (arith, low, count)) in
    let ran = each_of (RanWhole m t.boots.items t.ups.cpus.items (start_in m t) run.booted.seen) run.rans k d low run.each in
    let mine = (thread_has_run m t run.booted.seen k r within ran).mine in
    record {
      mine = mine;
      quiet = λ none.
          stepless_quiet k (cpu_of_thread m k) (thread_at m k).1 r.events.items ran.script
          (no_steps (steps_from k (cpu_of_thread m k) 0 r.events.items) (sym mine ∙ none));
    }

-- in a run whose clock stays stable
none_moved : (m : Plan) (t : Trace) (closed : List Step) (run : IsRunOf m t closed) → begins_stable t ≡ true → demotion_by t.watch ≡ None
    → All (λ r. r.ended.view.mine ≡ []) run.rans
none_moved m t closed run stable none =
    let start = start_in m t in
    let threads : List Step = flat_map (λ (r : Ran). r.ended.view.mine) run.rans in
    let is : own_steps run.joined ≡ threads =
    run.steps ∙ ap (λ (ss : List Step). threads ++ ss) (watch_nothing m t closed run none) ∙ append-nil threads in
    let plain : All IsPlain threads = plain_all run.rans (λ k d low.
    plain_mine k (cpu_of_thread m k) (get_or run.rans k d).events.items (get_or run.rans k d).ended.view.mine (ran_here m t closed run k d low).mine) in
    let count : sum_by lift_count closed ≡ 0 = run.complete.once lift_count ∙ ap (sum_by lift_count) is ∙ plain_sum threads plain in
    let some = (cpus_few m run.limits).0 in
    let mode = mode_is m t closed run ∙ ap (λ (b : Bool). if b then Stable else PerCpu) stable in
    let nothing : closed ≡ [] = nothing_made start closed mode (omega (arith, some)) run.complete.legal count in
    let all : sum_by (λ (s : Step). 1) threads ≡ 0 =
    ap (sum_by (λ (s : Step). 1)) (sym is) ∙ sym (run.complete.once (λ s. 1)) ∙ ap (sum_by (λ (s : Step). 1)) nothing in
    each_nothing run.rans (none_counted threads all)

pub stays_quiet : (m : Plan) (t : Trace) (closed : List Step) (run : IsRunOf m t closed) → begins_stable t ≡ true → demotion_by t.watch ≡ None
    → (k : ℕ) (d : Ran) → k < length run.rans → AreQuiet (get_or run.rans k d).events.items
stays_quiet m t closed run stable none k d low = (ran_here m t closed run k d low).quiet (none_moved m t closed run stable none k d low)
