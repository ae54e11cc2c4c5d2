-- The fields of the lawful trace of a run of several threads, where each thread goes by what stood when the clock
-- became per-CPU, or only knew a stable clock.
use Rattle.std.proofs.Common.{◌≡◌, ℕ, ◌+◌, ◌<◌, ℤ, pos, ◌+ℤ◌, ◌-ℤ◌, Bool, true, false, ◌&&◌, if◌then◌else◌, nat_eq, List, [], ◌∷◌, ◌++◌, map, take, Option, Some, None, ap, ◌∙◌, sym, subst, refl, arith, append_assoc, append-nil}
use Rattle.std.proofs.lemmas.List.{map-append}
use Rattle.std.proofs.lemmas.List.Concat.{flat_map-append}
use Rattle.std.proofs.lemmas.List.Elements.{All-nil, All-cons, All-append, All-drop}
use Rattle.std.specs.List.{All, AllZip, flat_map, sum_by}
use Rattle.clk_base.specs.declared.block.Block.{Block}
use Rattle.clk_base.specs.Blocks.{Covers, Rises, RisesFrom, top_of}
use Rattle.clk_base.specs.Walk.{Along, EachFrom}
use Rattle.clk_base.proofs.Rising.{rises_from}
use Rattle.clk_num.specs.Listed.{Listed}
use Rattle.clk_num.specs.Wrapping.{wrap}
use Rattle.clk_machine.specs.Plan.{Plan, cpu_count, thread_at, threads_of}
use Rattle.clk_machine.specs.Records.{record_zero}
use Rattle.clk_machine.specs.declared.script.Word.{Word}
use Rattle.clk_record.specs.declared.step.Step.{Step}
use Rattle.clk_record.specs.Demotions.{IsDemotion}
use Rattle.clk_record.specs.declared.stable.Demotion.{Demotion}
use Rattle.clk_record.specs.declared.stable.StableStamp.{StableStamp}
use Rattle.clk_words.specs.Calls.{own_steps}
use Rattle.clk_words.specs.Histories.{opens_at, steps_on}
use Rattle.clk_lawful.specs.Checks.{listed, pause_of, watch_blocks, checks_in}
use Rattle.clk_lawful.specs.Couples.{CouplesLower}
use Rattle.clk_lawful.specs.Demoted.{boot_stamp, IsDemotedRight, HasDemotions}
use Rattle.clk_lawful.specs.LawfulTrace.{FollowsScripts, HasOpening, HasLegalHistories, HoldsEachStepOnce, HasModes, HasWatchdog, IsLawful}
use Rattle.clk_lawful.specs.LegalHistory.{ReachesTarget, NamesSource, IsLegalHistory}
use Rattle.clk_lawful.specs.Modes.{modes_of}
use Rattle.clk_lawful.specs.RightReadings.{HasRightReadings, IsRightKind, IsRightStamp, taken_stamp, adjust_of}
use Rattle.clk_lawful.specs.ScriptEvents.{AreEventsOf}
use Rattle.clk_lawful.specs.SeenBefore.{stood_at, NeverFalls}
use Rattle.clk_lawful.specs.SortedHistory.{change_of as change_in}
use Rattle.clk_lawful.specs.Stamps.{Pair, no_pair, last_pair, stamp_zero, stamps_of, NamesPair, pair_after, first_numbers, NamesStamps, numbers_after}
use Rattle.clk_lawful.specs.Standing.{is_stable, begins_stable, standing_offset}
use Rattle.clk_lawful.specs.Threads.{owners}
use Rattle.clk_lawful.specs.TicketOrder.{first_blocks, thread_blocks, IsTicketOrder}
use Rattle.clk_lawful.specs.Updates.{records_of, OwnsRecords, record_after, NamesLater, named_after}
use Rattle.clk_lawful.specs.Watchdog.{AreChecks, AreCalledFor}
use Rattle.clk_lawful.specs.WordHistory.{Placed, steps_from, all_steps as trace_steps, lift_steps, steps_of, placed_on, line_of, IsHistoryOf}
use Rattle.clk_lawful.specs.declared.event.Event.{Event}
use Rattle.clk_lawful.specs.declared.trace.HistoryStep.{HistoryStep}
use Rattle.clk_lawful.specs.declared.trace.Trace.{Trace}
use Rattle.clk_worker.proofs.RunHistory.{HoldsSteps, in_order, sorted_word, legal_words, names_sources}
use Rattle.clk_worker.proofs.RunModes.{AreOfMode}
use Rattle.clk_worker.proofs.RunNamed.{NamesIn}
use Rattle.clk_worker.proofs.RunOnce.{holds_once}
use Rattle.clk_worker.proofs.RunOrders.{Ordered}
use Rattle.clk_worker.proofs.RunSteps.{numbered}
use Rattle.clk_threads.specs.Booting.{gtod_offset_of, stable_offset_of, IsBootDemotion}
use Rattle.clk_threads.specs.Finishing.{Ran, events_of, Watched, IsRunOf, change_of, ShowsHistory}
use Rattle.clk_threads.proofs.LawfulLists.{each_all, each_map, each_zip, each_first, all_each, zip_rest, cpu_of_thread, threads_at, cpus_at, cpus_count, placed_from, placed_are, placed_all, placed_mine}
use Rattle.clk_threads.proofs.LawfulOpening.{started_stable, opening_word}
use Rattle.clk_threads.proofs.LawfulThreads.{start_in, EachStands, IsThread, all_threads, thread_right, owner_records, owner_names, thread_stamps, thread_modes, thread_below, thread_never_falls}
use Rattle.clk_threads.proofs.LawfulTickets.{rise_all, blocks_all, first_is}
use Rattle.clk_threads.proofs.LawfulWatch.{kept_by, watch_mine, base_stood, watch_reaches, watch_names, watch_below, watch_drawn, watch_rises, checks_right, checks_later, demoted_right}

-- ---- what holds of each thread, in the forms of the trace

each_thread : (m : Plan) (t : Trace) (closed : List Step) (run : IsRunOf m t closed) → EachStands m t run.rans → (Q : Listed Event → Type 0)
    → ((thread : ℕ) (r : Ran) → IsThread m t closed thread r → Q r.events) → All Q t.threads.items
each_thread m t closed run stands Q f = subst (All Q) (sym run.threads) (each_all (IsThread m t closed) Q f 0 run.rans (all_threads m t closed run stands))

zip_threads : (m : Plan) (t : Trace) (closed : List Step) (run : IsRunOf m t closed) → EachStands m t run.rans → (Q : ℕ → Listed Event → Type 0)
    → ((thread : ℕ) (r : Ran) → IsThread m t closed thread r → Q (cpu_of_thread m thread) r.events) → AllZip Q t.cpu_of.items t.threads.items
zip_threads m t closed run stands Q f =
    let cpus : List ℕ = map (λ s. s.0) (threads_of m) in
    let all : AllZip Q cpus (events_of run.rans) =
    each_zip (λ k x. x ≡ cpu_of_thread m k) (IsThread m t closed) Q (λ k x r same h. subst (λ j. Q j r.events) (sym same) (f k r h)) 0 cpus run.rans
    (run.count ∙ sym (cpus_count m)) (cpus_at m) (all_threads m t closed run stands) in
    subst (λ cs. AllZip Q cs t.threads.items) (sym run.cpu_of) (subst (AllZip Q cpus) (sym run.threads) all)

-- the first of them are the CPUs' own
each_owner : (m : Plan) (t : Trace) (closed : List Step) (run : IsRunOf m t closed) → EachStands m t run.rans → (Q : ℕ → Listed Event → Type 0)
    → ((cpu : ℕ) (r : Ran) → IsThread m t closed cpu r → cpu < cpu_count m → Q cpu r.events) → EachFrom Q 0 (owners m t)
each_owner m t closed run stands Q f =
    subst (λ (ts : List (Listed Event)). EachFrom Q 0 (take (cpu_count m) ts)) (sym run.threads)
    (each_first Q (cpu_count m) 0 (cpu_count m) (events_of run.rans) (omega arith)
    (each_map (IsThread m t closed) (λ k es. k < cpu_count m → Q k es) f 0 run.rans (all_threads m t closed run stands)))

-- ---- the opening, the scripts and the modes

sched_by : (b : Bool) (x y : ℤ) → x ≡ y → (if b then x else pos 0) ≡ (if b then y else pos 0)
sched_by true x y e = e
sched_by false x y e = refl

opening : (m : Plan) (t : Trace) (closed : List Step) → IsRunOf m t closed → HasOpening m t
opening m t closed run =
    let last : Pair = last_pair no_pair t.boots.items in
    record {
      epoch = run.epoch_cyc;
      epoch_drawn = rw run.epoch_ticket run.epoch_cyc;
      boots = run.stamps.count;
      starts = ap is_stable run.starts ∙ started_stable m.stable;
      gtod_offset = run.gtod_offset;
      sched_offset =
          run.sched_offset
          ∙ sched_by m.stable (stable_offset_of t.boots.items) (wrap ((last.gtod +ℤ t.gtod_offset) -ℤ last.raw))
          (ap (λ (o : ℤ). wrap ((last.gtod +ℤ o) -ℤ last.raw)) (sym run.gtod_offset));
      start_word = opening_word m t closed run;
    }

script_events : (m : Plan) (t : Trace) (closed : List Step) (thread : ℕ) (s : ℕ × List Word) (r : Ran) → thread_at m thread ≡ s → IsThread m t closed thread r
    → AreEventsOf s.0 0 s.1 r.events.items
script_events m t closed thread s r at h = subst (λ (x : ℕ × List Word). AreEventsOf x.0 0 x.1 r.events.items) at h.script

scripts : (m : Plan) (t : Trace) (closed : List Step) (run : IsRunOf m t closed) → EachStands m t run.rans → FollowsScripts m t
scripts m t closed run stands =
    let Q : ℕ × List Word → Listed Event → Type 0 = λ s es. AreEventsOf s.0 0 s.1 es.items in
    record {
      cpus = run.cpu_of;
      events =
          subst (AllZip Q (threads_of m)) (sym run.threads)
          (each_zip (λ k s. thread_at m k ≡ s) (IsThread m t closed) Q (script_events m t closed) 0 (threads_of m) run.rans run.count (threads_at m)
          (all_threads m t closed run stands));
      couples =
          zip_threads m t closed run stands (λ cpu es. All (λ e. CouplesLower cpu e.kind) es.items)
          (λ thread r h. h.shows.lower);
    }

modes : (m : Plan) (t : Trace) (closed : List Step) (run : IsRunOf m t closed) → EachStands m t run.rans → HasModes t
modes m t closed run stands = each_thread m t closed run stands (λ es. AreOfMode (modes_of t) t.sched_offset false es.items) (thread_modes m t closed)

-- ---- the readings

-- the lists of blocks: each thread's, and the watchdog's
drawn_lists : (ts : List (List Block)) (ws : List Block) (before threads watch : List Block) → threads ≡ flat_map (λ (bs : List Block). bs) ts → watch ≡ ws
    → (before ++ threads) ++ watch ≡ before ++ flat_map (λ (bs : List Block). bs) (ts ++ ws ∷ [])
drawn_lists ts ws before threads watch same last =
    append_assoc before threads watch
    ∙ ap (λ (bs : List Block). before ++ bs)
    (ap (λ (bs : List Block). bs ++ watch) same
    ∙ ap (λ (bs : List Block). flat_map (λ (xs : List Block). xs) ts ++ bs) (last ∙ sym (append-nil ws))
    ∙ sym (flat_map-append (λ (bs : List Block). bs) ts (ws ∷ [])))

ticket_order : (m : Plan) (t : Trace) (closed : List Step) (run : IsRunOf m t closed) → EachStands m t run.rans
    → IsTicketOrder (first_blocks t) (map thread_blocks (events_of run.rans) ++ watch_blocks (pause_of m) (checks_in t.watch) ∷ []) t.tickets
ticket_order m t closed run stands =
    let first : List Block = first_blocks t in
    let watch : List Block = watch_blocks (pause_of m) (checks_in t.watch) in
    let lists : List (List Block) = map thread_blocks (events_of run.rans) in
    let threads = all_threads m t closed run stands in
    let threads_drawn : List Block = flat_map (λ (r : Ran). r.ended.time.blocks) run.rans in
    let watch_drew : List Block = flat_map (λ (w : Watched). w.ended.time.blocks) (listed run.watched) in
    let is : run.booted.blocks ≡ first = first_is m t closed run in
    let rise : Rises first = subst Rises is run.drawn.rises in
    let all : Covers ((first ++ threads_drawn) ++ watch_drew) t.tickets =
    subst (λ (bs : List Block). Covers ((bs ++ threads_drawn) ++ watch_drew) t.tickets) (sym run.drawn.blocks ∙ is) run.covers in
    record {
      covers =
          subst (λ (bs : List Block). Covers bs t.tickets)
          (drawn_lists lists watch first threads_drawn watch_drew (blocks_all (IsThread m t closed) (λ thread r h. h.blocks) 0 run.rans threads)
          (watch_drawn m t closed run)) all;
      first_rise = rises_from 0 first (λ i d low. omega arith) rise;
      lists_rise =
          All-append (RisesFrom (top_of 0 first)) lists (watch ∷ []) (rise_all (top_of 0 first) (IsThread m t closed) (λ thread r h. h.rises) 0 run.rans threads)
          (All-cons (RisesFrom (top_of 0 first)) watch [] (watch_rises m t closed run) (All-nil (RisesFrom (top_of 0 first))));
    }

-- a demotion at boot takes its stamp as the boot does
booted_right : (m : Plan) (stamps : List StableStamp) (o : Option Demotion) → ((d : Demotion) → o ≡ Some d → IsBootDemotion m stamps d)
    → All (λ d. IsRightStamp m (taken_stamp d)) (listed o)
booted_right m stamps None is = All-nil (λ d. IsRightStamp m (taken_stamp d))
booted_right m stamps (Some d) is = All-cons (λ x. IsRightStamp m (taken_stamp x)) d [] (is d refl).right (All-nil (λ x. IsRightStamp m (taken_stamp x)))

readings : (m : Plan) (t : Trace) (closed : List Step) (run : IsRunOf m t closed) → EachStands m t run.rans → HasRightReadings m t
readings m t closed run stands =
    let Owns : ℕ → Listed Event → Type 0 =
    λ cpu es. Along (λ last e. OwnsRecords m cpu (adjust_of t cpu) last e.kind) (λ last e. record_after last e.kind) (record_zero m) es.items in
    let Later : Listed Event → Type 0 = λ es. Along (λ named e. NamesLater named e.kind) (λ named e. named_after named e.kind) 0 es.items in
    let watch : List Block = watch_blocks (pause_of m) (checks_in t.watch) in
    record {
      boots = run.stamps.right;
      threads =
          zip_threads m t closed run stands (λ cpu es. All (λ e. IsRightKind m cpu (adjust_of t cpu) (records_of m t cpu) e.kind) es.items)
          (thread_right m t closed);
      owners = each_owner m t closed run stands Owns (owner_records m t closed);
      readers = All-drop Later (cpu_count m) t.threads.items (each_thread m t closed run stands Later (λ thread r h. h.shows.later));
      boot_demotion = booted_right m t.boots.items t.boot_demotion run.demotion.is;
      checks = checks_right m t closed run;
      checks_later = checks_later m t closed run;
      tickets =
          subst (λ ts. IsTicketOrder (first_blocks t) (map thread_blocks ts ++ watch ∷ []) t.tickets) (sym run.threads) (ticket_order m t closed run stands);
    }

-- ---- the histories

-- the steps of the trace are those of the threads, and the watchdog's lifts
steps_are : (m : Plan) (t : Trace) (closed : List Step) (run : IsRunOf m t closed) → steps_of t ≡ placed_from m 0 run.rans ++ lift_steps t.watch
steps_are m t closed run =
    ap (λ (ps : List Placed). ps ++ lift_steps t.watch)
    (ap (λ cs. trace_steps 0 cs t.threads.items) run.cpu_of ∙ ap (trace_steps 0 (map (λ s. s.0) (threads_of m))) run.threads
    ∙ placed_are m 0 (map (λ s. s.0) (threads_of m)) run.rans (run.count ∙ sym (cpus_count m)) (cpus_at m))

-- what holds of each thread's steps and of the lifts holds of them
each_step : (m : Plan) (t : Trace) (closed : List Step) (run : IsRunOf m t closed) → EachStands m t run.rans → (P : Placed → Type 0)
    → ((thread : ℕ) (r : Ran) → IsThread m t closed thread r → All P (steps_from thread (cpu_of_thread m thread) 0 r.events.items)) → All P (lift_steps t.watch)
    → All P (steps_of t)
each_step m t closed run stands P f lifts =
    subst (All P) (sym (steps_are m t closed run))
    (All-append P (placed_from m 0 run.rans) (lift_steps t.watch)
    (placed_all m P (IsThread m t closed) f 0 run.rans (all_threads m t closed run stands)) lifts)

-- the words' history has just them
holds : (m : Plan) (t : Trace) (closed : List Step) (run : IsRunOf m t closed) → EachStands m t run.rans → HoldsSteps (start_in m t) closed (steps_of t)
holds m t closed run stands =
    let threads : List Placed = placed_from m 0 run.rans in
    let lifts : List Placed = lift_steps t.watch in
    let all : own_steps run.joined ≡ map numbered (steps_of t) =
    run.steps
    ∙ ap (λ (ss : List Step). ss ++ flat_map (λ (w : Watched). w.ended.view.mine) (listed run.watched))
    (placed_mine m (IsThread m t closed) (λ thread r h. h.shows.mine) 0 run.rans (all_threads m t closed run stands))
    ∙ ap (λ (ss : List Step). map numbered threads ++ ss) (watch_mine m t closed run)
    ∙ sym (map-append numbered threads lifts)
    ∙ ap (map numbered) (sym (steps_are m t closed run)) in
    record { legal = run.complete.legal; once = λ f. ap (sum_by f) (sym all) ∙ sym (run.complete.once f) }

-- the lists show them
filled : (m : Plan) (t : Trace) (closed : List Step) (run : IsRunOf m t closed)
    → EachFrom (λ w lines. IsHistoryOf t.start_word (placed_on w (steps_of t)) lines.items) 0 t.histories.items
filled m t closed run =
    let opens : t.start_word ≡ run.before.start_word = ap (λ (x : Trace). x.start_word) run.fills.rest in
    let steps : steps_of t ≡ steps_of run.before = ap steps_of run.fills.rest in
    subst (λ o. EachFrom (λ w lines. IsHistoryOf o (placed_on w (steps_of t)) lines.items) 0 t.histories.items) (sym opens)
    (subst (λ ps. EachFrom (λ w lines. IsHistoryOf run.before.start_word (placed_on w ps) lines.items) 0 t.histories.items) (sym steps) run.fills.histories)

filled_at : (m : Plan) (t : Trace) (closed : List Step) (run : IsRunOf m t closed)
    → EachFrom (λ w lines. IsHistoryOf (opens_at (start_in m t)) (placed_on w (steps_of t)) lines.items) 0 t.histories.items
filled_at m t closed run =
    subst (λ o. EachFrom (λ w lines. IsHistoryOf o (placed_on w (steps_of t)) lines.items) 0 t.histories.items) run.start_word (filled m t closed run)

histories : (m : Plan) (t : Trace) (closed : List Step) (run : IsRunOf m t closed) → EachStands m t run.rans → HasLegalHistories m t
histories m t closed run stands =
    let start = start_in m t in
    let steps = holds m t closed run stands in
    let Names : Listed Event → Type 0 = λ es. Along (λ p e. NamesPair (standing_offset t) p e.kind) (λ p e. pair_after p e.kind) (stamp_zero t) es.items in
    let Stamps : ℕ → Listed Event → Type 0 =
    λ cpu es. Along (λ n e. NamesStamps (stamps_of t cpu) (standing_offset t) n e.kind) (λ n e. numbers_after (stamps_of t cpu) n e.kind) first_numbers es.items in
    record {
      count = run.words;
      words =
          subst (λ o. EachFrom (λ w lines. IsLegalHistory o (placed_on w (steps_of t)) lines.items) 0 t.histories.items) (sym run.start_word)
          (legal_words start closed (steps_of t) steps 0 t.histories.items (filled_at m t closed run));
      targets = each_step m t closed run stands (ReachesTarget m.tick) (λ thread r h. h.shows.targets) (watch_reaches m t closed run);
      sources =
          subst (λ o. All (λ p. NamesSource o (steps_of t) p.step.why) (steps_of t)) (sym run.start_word)
          (names_sources start closed (steps_of t) steps
          (each_step m t closed run stands (NamesIn start closed) (λ thread r h. h.shows.names closed h.begins) (watch_names m t closed run)));
      owners = all_each Names 0 (owners m t) (each_owner m t closed run stands (λ cpu es. Names es) (owner_names m t closed));
      readers = zip_rest Stamps (cpu_count m) t.cpu_of.items t.threads.items (zip_threads m t closed run stands Stamps (thread_stamps m t closed));
    }

once : (m : Plan) (t : Trace) (closed : List Step) (run : IsRunOf m t closed) → EachStands m t run.rans → HoldsEachStepOnce t
once m t closed run stands =
    let below = each_step m t closed run stands (λ p. p.step.word < cpu_count m) (thread_below m t closed) (watch_below m t closed run) in
    holds_once t.start_word (steps_of t) t.histories.items (subst (λ n. All (λ p. p.step.word < n) (steps_of t)) (sym run.words) below) (filled m t closed run)

-- ---- the watchdog and the demotions

watchdog : (m : Plan) (t : Trace) (closed : List Step) → IsRunOf m t closed → HasWatchdog m t
watchdog m t closed run =
    record {
      there = run.watch_there;
      checks = kept_by m t closed run (λ w. AreChecks m t.ups.failed w) (λ w h. h.whole.watched.checks);
      called = kept_by m t closed run (λ w. AreCalledFor (begins_stable t) w) (λ w h. h.whole.watched.called);
    }

demotions : (m : Plan) (t : Trace) (closed : List Step) → IsRunOf m t closed → HasDemotions m t
demotions m t closed run =
    record {
      boot = record {
        called = run.demotion.called ∙ ap (λ (b : Bool). b && t.ups.failed) (sym (ap is_stable run.starts ∙ started_stable m.stable));
        demotion = λ d s e.
            subst (λ o. IsDemotion t.sched_offset o (boot_stamp o s t.boots.items) d) (sym run.gtod_offset)
            (subst (λ o. IsDemotion o (gtod_offset_of t.boots.items) (boot_stamp (gtod_offset_of t.boots.items) s t.boots.items) d) (sym run.sched_offset)
            ((run.demotion.is d e).is s));
      };
      watch = kept_by m t closed run (λ w. IsDemotedRight m t w) (demoted_right m t closed run);
    }

-- ---- all of it

-- where each thread goes by what stood when the clock became per-CPU, or only knew a stable clock
pub lawful_by : (m : Plan) (t : Trace) (closed : List Step) (run : IsRunOf m t closed) → EachStands m t run.rans → IsLawful m t
lawful_by m t closed run stands =
    record {
      script = scripts m t closed run stands;
      readings = readings m t closed run stands;
      histories = histories m t closed run stands;
      once = once m t closed run stands;
      seen =
          zip_threads m t closed run stands (λ cpu es. NeverFalls t.start_word (stood_at t) cpu [] es.items)
          (thread_never_falls m t closed (base_stood m t closed run));
      modes = modes m t closed run stands;
      bring_up = run.ups;
      watchdog = watchdog m t closed run;
      demotion = demotions m t closed run;
      opening = opening m t closed run;
    }

-- ---- the history of the words is what the trace shows

placed_changes : (qs : List Placed) → map change_of (map numbered qs) ≡ map change_in (map line_of qs)
placed_changes [] = refl
placed_changes (q ∷ qs) = ap (λ cs. record { old = q.step.old; new = q.step.new } ∷ cs) (placed_changes qs)

abbrev Shows : List Step → ℕ → Listed HistoryStep → Type 0
Shows closed w lines = map change_of (steps_on w closed) ≡ map change_in lines.items

shows_each : (m : Plan) (t : Trace) (closed : List Step) (run : IsRunOf m t closed) → EachStands m t run.rans → (n : ℕ) (lists : List (Listed HistoryStep))
    → EachFrom (λ w lines. IsHistoryOf (opens_at (start_in m t)) (placed_on w (steps_of t)) lines.items) n lists → EachFrom (Shows closed) n lists
shows_each m t closed run stands n [] each = tt
shows_each m t closed run stands n (l ∷ lists) each =
    let start = start_in m t in
    let steps = holds m t closed run stands in
    let put : Ordered numbered (placed_on n (steps_of t)) (steps_on n closed) = in_order start closed (steps_of t) steps (λ s. nat_eq s.word n) in
    let same = sorted_word start closed (steps_of t) steps n l.items each.0 in
    (ap (map change_of) (sym put.is) ∙ placed_changes put.items ∙ sym same.0, shows_each m t closed run stands (n + 1) lists each.1)

pub shows_by : (m : Plan) (t : Trace) (closed : List Step) (run : IsRunOf m t closed) → EachStands m t run.rans → ShowsHistory closed t
shows_by m t closed run stands = shows_each m t closed run stands 0 t.histories.items (filled_at m t closed run)
