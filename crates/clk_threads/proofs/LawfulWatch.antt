-- What is known of the watchdog of a run, if it has one, and what follows for its checks, its lifts and its demotion.
use Rattle.std.proofs.Common.{◌≡◌, ℕ, ◌+◌, ◌<◌, ◌≤◌, ℤ, pos, false, Bool, ◌&&◌, is_some, ◌⊎◌, inl, inr, List, [], ◌∷◌, ◌++◌, map, length, get_or, Contains, Option, Some, None, ap, ◌∙◌, sym, subst, refl, arith, append-nil}
use Rattle.std.specs.Prelude.{option_map}
use Rattle.std.specs.List.{All, flat_map}
use Rattle.std.proofs.Math.Nat.{mod-lt}
use Rattle.std.proofs.lemmas.List.{get_or_default}
use Rattle.std.proofs.lemmas.List.Elements.{All-nil, All-head, All-tail, All-map, Contains-append_left}
use mathlib.Core.List.{IsPrefix}
use Rattle.clk_base.specs.declared.block.Block.{Block}
use Rattle.clk_base.specs.Blocks.{Rises, RisesFrom, top_of}
use Rattle.clk_base.specs.Walk.{EachFrom, flat_from}
use Rattle.clk_base.proofs.Walks.{each_at}
use Rattle.clk_num.specs.Wrapping.{raise}
use Rattle.clk_machine.specs.Plan.{Plan, cpu_count}
use Rattle.clk_record.specs.declared.step.Step.{Step}
use Rattle.clk_record.specs.declared.stable.StableStamp.{StableStamp}
use Rattle.clk_record.specs.declared.stable.Demotion.{Demotion}
use Rattle.clk_record.specs.Demotions.{IsDemotion}
use Rattle.clk_words.specs.Fronts.{Begins}
use Rattle.clk_words.specs.Histories.{opens_at, is_lift}
use Rattle.clk_lawful.specs.Checks.{Visit, Check, listed, pause_of, visits_of, watch_blocks, checks_of, checks_in}
use Rattle.clk_lawful.specs.Demoted.{HasOffset, last_stamp, boot_stamp, IsLiftOf, IsDemotedBy, IsDemotedRight}
use Rattle.clk_lawful.specs.RightReadings.{adjust_of, check_cpu, named_in, NeverFall, IsRightVisit}
use Rattle.clk_lawful.specs.LegalHistory.{ReachesTarget}
use Rattle.clk_lawful.specs.SeenBefore.{stood_at}
use Rattle.clk_lawful.specs.Standing.{begins_stable, demotion_by, lifts_by, lifted_from}
use Rattle.clk_lawful.specs.TicketOrder.{first_blocks}
use Rattle.clk_lawful.specs.Updates.{records_of}
use Rattle.clk_lawful.specs.Watchdog.{AreCalledFor}
use Rattle.clk_lawful.specs.WordHistory.{Placed, placed_lift, lift_steps}
use Rattle.clk_lawful.specs.declared.trace.WatchTrace.{WatchTrace}
use Rattle.clk_lawful.specs.declared.trace.Trace.{Trace}
use Rattle.clk_demote.specs.Shows.{adjust_at}
use Rattle.clk_demote.specs.Stamping.{epoch_at}
use Rattle.clk_worker.proofs.RunLifted.{IsLiftIn, StoodAt, lifted_stood}
use Rattle.clk_worker.proofs.RunLifts.{numbered_lifts, lifts_reach, lifts_name}
use Rattle.clk_worker.proofs.RunNamed.{NamesIn}
use Rattle.clk_worker.proofs.RunSteps.{numbered}
use Rattle.clk_watcher.specs.Shown.{IsLift, WatchShows}
use Rattle.clk_watcher.proofs.LawShows.{watch_shows}
use Rattle.clk_watcher.specs.Checking.{KeepsLifts}
use Rattle.clk_threads.specs.Booting.{gtod_offset_of}
use Rattle.clk_threads.specs.Finishing.{Ran, Watched, KnowsNoMore, watch_site, WatchedWhole, IsRunOf}
use Rattle.clk_threads.proofs.Adjusting.{adjust_at as adjusts_at}
use Rattle.clk_threads.proofs.LawfulThreads.{start_in, owner_at}
use Rattle.clk_threads.proofs.LawfulTickets.{first_low, rises_lower}
use Rattle.clk_threads.proofs.Numbering.{cpus_few, threads_cover}

-- ---- a watchdog, or none

-- the watchdog of a run, of which the trace keeps this: it made all its checks, and the history at the end begins with
-- what it has seen; what it knew of the pairs and of the offset the joined seat knows
pub record IsWatch (m : Plan) (t : Trace) (closed : List Step) (run : IsRunOf m t closed) (w : Watched) : Type 0 where
  pub is : t.watch ≡ Some w.kept
  pub ran : run.watched ≡ Some w
  pub whole : WatchedWhole m t.boots.items t.ups (start_in m t) (begins_stable t) run.booted.seen run.rans w
  pub shows : WatchShows (watch_site m t.boots.items t.ups.cpus.items) w.began w.kept w.ended
  pub begins : Begins w.ended.view.seen closed
  pub known : KnowsNoMore w.ended.view run.joined

pub record IsAlone (m : Plan) (t : Trace) (closed : List Step) (run : IsRunOf m t closed) : Type 0 where
  pub is : t.watch ≡ None
  pub ran : run.watched ≡ None

-- its offset is that of the last stamp of the boot
stands_by : (began : ℤ) (last : StableStamp) (offset : ℤ) (stamps : List StableStamp) → began ≡ offset → last ≡ boot_stamp offset last stamps → began ≡ last.offset
stands_by began last offset stamps same is = same ∙ sym (ap (λ (s : StableStamp). s.offset) is)

whole_shows : (m : Plan) (t : Trace) (closed : List Step) (run : IsRunOf m t closed) (w : Watched)
    → WatchedWhole m t.boots.items t.ups (start_in m t) (begins_stable t) run.booted.seen run.rans w
    → WatchShows (watch_site m t.boots.items t.ups.cpus.items) w.began w.kept w.ended
whole_shows m t closed run w h =
    watch_shows (watch_site m t.boots.items t.ups.cpus.items) (begins_stable t) t.ups.failed w.began w.kept w.ended run.limits h.latches
    (subst Rises (sym h.blocks) tt) (stands_by w.began.gtod_offset w.began.last (gtod_offset_of t.boots.items) t.boots.items h.offset (h.last w.began.last)) h.watched

one_of : (P : Watched → Type 0) (o : Option Watched) (w : Watched) → o ≡ Some w → All P (listed o) → P w
one_of P o w e all = All-head P w [] (subst (λ x. All P (listed x)) e all)

watch_by : (m : Plan) (t : Trace) (closed : List Step) (run : IsRunOf m t closed) (o : Option Watched) → run.watched ≡ o
    → IsAlone m t closed run ⊎ ((w : Watched) × IsWatch m t closed run w)
watch_by m t closed run None e = inl (record { is = run.watch_is ∙ ap (option_map (λ (w : Watched). w.kept)) e; ran = e })
watch_by m t closed run (Some w) e =
    let whole = one_of (WatchedWhole m t.boots.items t.ups (start_in m t) (begins_stable t) run.booted.seen run.rans) run.watched w e run.watch in
    inr (
      w,
      record {
        is = run.watch_is ∙ ap (option_map (λ (x : Watched). x.kept)) e;
        ran = e;
        whole = whole;
        shows = whole_shows m t closed run w whole;
        begins = one_of (λ x. Begins x.ended.view.seen closed) run.watched w e run.watch_begins;
        known = one_of (λ x. KnowsNoMore x.ended.view run.joined) run.watched w e run.watch_known;
      },
    )

pub watch_in : (m : Plan) (t : Trace) (closed : List Step) (run : IsRunOf m t closed) → IsAlone m t closed run ⊎ ((w : Watched) × IsWatch m t closed run w)
watch_in m t closed run = watch_by m t closed run run.watched refl

-- what the trace keeps is what that watchdog kept
kept_is : (o : Option WatchTrace) (v w : WatchTrace) → o ≡ Some v → o ≡ Some w → v ≡ w
kept_is o v w e f = let both : Some v ≡ Some w = sym e ∙ f in cc

pub kept_by : (m : Plan) (t : Trace) (closed : List Step) (run : IsRunOf m t closed) (P : WatchTrace → Type 0)
    → ((w : Watched) → IsWatch m t closed run w → P w.kept) → (kept : WatchTrace) → t.watch ≡ Some kept → P kept
kept_by m t closed run P f kept e =
    elim (watch_in m t closed run) [
      | inl a ↦ (let both : None ≡ Some kept = sym a.is ∙ e in absurd (cc))
      | inr w ↦ subst P (kept_is t.watch w.0.kept kept w.1.is e) (f w.0 w.1)
    ]

-- ---- its demotion

-- in a per-CPU start there is none
none_listed : (o : Option Demotion) → listed o ≡ [] → o ≡ None
none_listed None e = refl
none_listed (Some d) e = absurd (cc)

nothing_there : {A : Type 0} (o : Option A) → is_some o ≡ false → listed o ≡ []
nothing_there None e = refl
nothing_there (Some x) e = absurd (cc)

none_shown : (vs : List Visit) → All (λ v. is_some v.demotion ≡ false) vs → flat_map (λ (v : Visit). listed v.demotion) vs ≡ []
none_shown [] all = refl
none_shown (v ∷ vs) all =
    ap (λ (ds : List Demotion). ds ++ flat_map (λ (x : Visit). listed x.demotion) vs)
    (nothing_there v.demotion (All-head (λ (x : Visit). is_some x.demotion ≡ false) v vs all))
    ∙ none_shown vs (All-tail (λ (x : Visit). is_some x.demotion ≡ false) v vs all)

called_none : (stable : Bool) (w : WatchTrace) → stable ≡ false → AreCalledFor stable w → w.demotion ≡ None
called_none stable w percpu called =
    let none : All (λ v. is_some v.demotion ≡ false) (visits_of w) =
    λ i d low. called.demotions i d low ∙ ap (λ (b : Bool). b && (get_or (visits_of w) i d).made.tsc_demoted) percpu in
    none_listed w.demotion (sym called.demotion_shown ∙ none_shown (visits_of w) none)

pub percpu_none : (m : Plan) (t : Trace) (closed : List Step) → IsRunOf m t closed → begins_stable t ≡ false → demotion_by t.watch ≡ None
percpu_none m t closed run percpu =
    elim (watch_in m t closed run) [
      | inl a ↦ ap demotion_by a.is
      | inr w ↦ ap demotion_by w.1.is ∙ called_none (begins_stable t) w.0.kept percpu w.1.whole.watched.called
    ]

-- ---- its lifts

keeps_none : (m : Plan) (t : Trace) (closed : List Step) (run : IsRunOf m t closed) (w : Watched) → IsWatch m t closed run w → w.kept.demotion ≡ None
    → (w.kept.lifts.items ≡ []) × (w.kept.demoted_in ≡ 0)
keeps_none m t closed run w h e = subst (KeepsLifts (watch_site m t.boots.items t.ups.cpus.items) w.began w.kept) e h.whole.watched.lifts

-- they are the steps of its seat, under its number
lifts_mine : (m : Plan) (t : Trace) (closed : List Step) (run : IsRunOf m t closed) (w : Watched) (o : Option Demotion) → IsWatch m t closed run w → w.kept.demotion ≡ o
    → w.ended.view.mine ≡ w.kept.lifts.items
lifts_mine m t closed run w None h e = h.shows.mine e ∙ h.whole.given.mine_is ∙ sym (keeps_none m t closed run w h e).0
lifts_mine m t closed run w (Some d) h e = (h.shows.demoted d e).mine ∙ ap (λ (ss : List Step). ss ++ w.kept.lifts.items) h.whole.given.mine_is

lifts_made : (m : Plan) (t : Trace) (closed : List Step) (run : IsRunOf m t closed) (w : Watched) (o : Option Demotion) → IsWatch m t closed run w → w.kept.demotion ≡ o
    → All (λ s. s.by ≡ w.kept.thread + 1) w.kept.lifts.items
lifts_made m t closed run w None h e =
    subst (All (λ s. s.by ≡ w.kept.thread + 1)) (sym (keeps_none m t closed run w h e).0) (All-nil (λ (s : Step). s.by ≡ w.kept.thread + 1))
lifts_made m t closed run w (Some d) h e =
    let number : w.began.view.number ≡ w.kept.thread + 1 = h.whole.given.number_is ∙ ap (λ (n : ℕ). n + 1) (sym h.whole.watched.checks.thread) in
    subst (λ n. All (λ s. s.by ≡ n) w.kept.lifts.items) number (h.shows.demoted d e).by

pub watch_mine : (m : Plan) (t : Trace) (closed : List Step) (run : IsRunOf m t closed)
    → flat_map (λ (w : Watched). w.ended.view.mine) (listed run.watched) ≡ map numbered (lift_steps t.watch)
watch_mine m t closed run =
    let Mine : Option Watched → List Step = λ o. flat_map (λ (w : Watched). w.ended.view.mine) (listed o) in
    let Placed : Option WatchTrace → List Step = λ o. map numbered (lift_steps o) in
    elim (watch_in m t closed run) [
      | inl a ↦ ap Mine a.ran ∙ sym (ap Placed a.is)
      | inr w ↦
          let kept : WatchTrace = w.0.kept in
          ap Mine w.1.ran ∙ append-nil w.0.ended.view.mine ∙ lifts_mine m t closed run w.0 kept.demotion w.1 refl
          ∙ sym (numbered_lifts kept.thread kept.lifts.items (lifts_made m t closed run w.0 kept.demotion w.1 refl)) ∙ sym (ap Placed w.1.is)
    ]

-- where it demotes nothing it made no step
nothing_by : (m : Plan) (t : Trace) (closed : List Step) (run : IsRunOf m t closed) (w : Watched) → IsWatch m t closed run w → demotion_by t.watch ≡ None
    → w.ended.view.mine ≡ []
nothing_by m t closed run w h e = h.shows.mine (sym (ap demotion_by h.is) ∙ e) ∙ h.whole.given.mine_is

pub watch_nothing : (m : Plan) (t : Trace) (closed : List Step) (run : IsRunOf m t closed) → demotion_by t.watch ≡ None
    → flat_map (λ (w : Watched). w.ended.view.mine) (listed run.watched) ≡ []
watch_nothing m t closed run e =
    let Mine : Option Watched → List Step = λ o. flat_map (λ (w : Watched). w.ended.view.mine) (listed o) in
    elim (watch_in m t closed run) [
      | inl a ↦ ap Mine a.ran
      | inr w ↦ ap Mine w.1.ran ∙ append-nil w.0.ended.view.mine ∙ nothing_by m t closed run w.0 w.1 e
    ]

-- and a demotion is one of a watchdog that is there
pub record IsDemoting (m : Plan) (t : Trace) (closed : List Step) (run : IsRunOf m t closed) (d : Demotion) : Type 0 where
  pub w : Watched
  pub watch : IsWatch m t closed run w
  pub demotes : w.kept.demotion ≡ Some d

pub demoting : (m : Plan) (t : Trace) (closed : List Step) (run : IsRunOf m t closed) (d : Demotion) → demotion_by t.watch ≡ Some d → IsDemoting m t closed run d
demoting m t closed run d e =
    elim (watch_in m t closed run) [
      | inl a ↦ (let both : None ≡ Some d = sym (ap demotion_by a.is) ∙ e in absurd (cc))
      | inr w ↦ record { w = w.0; watch = w.1; demotes = sym (ap demotion_by w.1.is) ∙ e }
    ]

-- they stand in the history
there_first : (xs ys zs : List Step) (k : ℕ) (d : Step) → zs ≡ xs ++ ys → k < length xs → Contains zs (get_or xs k d)
there_first xs ys zs k d is low =
    subst (λ ss. Contains ss (get_or xs k d)) (sym is)
    (Contains-append_left xs ys (get_or xs k d) (k, low, get_or_default xs k (get_or xs k d) d low))

lifts_there : (m : Plan) (t : Trace) (closed : List Step) (run : IsRunOf m t closed) (w : Watched) (o : Option Demotion) → IsWatch m t closed run w → w.kept.demotion ≡ o
    → All (IsLiftIn closed) w.kept.lifts.items
lifts_there m t closed run w None h e = subst (All (IsLiftIn closed)) (sym (keeps_none m t closed run w h e).0) (All-nil (IsLiftIn closed))
lifts_there m t closed run w (Some d) h e =
    let lifts : List Step = w.kept.lifts.items in
    let shows = h.shows.demoted d e in
    let seen : w.ended.view.seen ≡ lifts = shows.seen ∙ ap (λ (ss : List Step). ss ++ lifts) h.whole.given.seen_is in
    let is : closed ≡ lifts ++ h.begins.rest = h.begins.is ∙ ap (λ (ss : List Step). ss ++ h.begins.rest) seen in
    λ k x low.
    (record {
      there = there_first lifts h.begins.rest closed k x is low;
      lifts = ap is_lift (each_at (IsLift w.kept.demoted_in (opens_at w.began.view.start) d.opening) 0 lifts k x low shows.lifts).why;
    })

pub watch_there : (m : Plan) (t : Trace) (closed : List Step) (run : IsRunOf m t closed) → All (IsLiftIn closed) (lifts_by t.watch)
watch_there m t closed run =
    elim (watch_in m t closed run) [
      | inl a ↦ subst (λ o. All (IsLiftIn closed) (lifts_by o)) (sym a.is) (All-nil (IsLiftIn closed))
      | inr w ↦ subst (λ o. All (IsLiftIn closed) (lifts_by o)) (sym w.1.is) (lifts_there m t closed run w.0 w.0.kept.demotion w.1 refl)
    ]

-- so where they left the words, these stood
pub base_stood : (m : Plan) (t : Trace) (closed : List Step) → IsRunOf m t closed → StoodAt (start_in m t) closed (stood_at t)
base_stood m t closed run =
    subst (λ o. StoodAt (start_in m t) closed (λ k. lifted_from o (lifts_by t.watch) k)) (sym run.start_word)
    (lifted_stood (start_in m t) closed (lifts_by t.watch) (watch_there m t closed run))

-- what holds of the lifts of any watchdog holds of those of the trace
each_lift : (m : Plan) (t : Trace) (closed : List Step) (run : IsRunOf m t closed) (P : Placed → Type 0)
    → ((w : Watched) → IsWatch m t closed run w → All P (map (placed_lift w.kept.thread) w.kept.lifts.items)) → All P (lift_steps t.watch)
each_lift m t closed run P f =
    elim (watch_in m t closed run) [
      | inl a ↦ subst (λ o. All P (lift_steps o)) (sym a.is) (All-nil P)
      | inr w ↦ subst (λ o. All P (lift_steps o)) (sym w.1.is) (f w.0 w.1)
    ]

pub watch_reaches : (m : Plan) (t : Trace) (closed : List Step) (run : IsRunOf m t closed) → All (ReachesTarget m.tick) (lift_steps t.watch)
watch_reaches m t closed run =
    each_lift m t closed run (ReachesTarget m.tick) (λ w h.
    lifts_reach (start_in m t) closed w.kept.thread w.kept.lifts.items run.complete.legal (lifts_there m t closed run w w.kept.demotion h refl))

pub watch_names : (m : Plan) (t : Trace) (closed : List Step) (run : IsRunOf m t closed) → All (NamesIn (start_in m t) closed) (lift_steps t.watch)
watch_names m t closed run =
    each_lift m t closed run (NamesIn (start_in m t) closed) (λ w h.
    lifts_name (start_in m t) closed w.kept.thread w.kept.lifts.items (lifts_there m t closed run w w.kept.demotion h refl))

-- each is on a word of the machine
lifts_below : (m : Plan) (t : Trace) (closed : List Step) (run : IsRunOf m t closed) (w : Watched) (o : Option Demotion) → IsWatch m t closed run w → w.kept.demotion ≡ o
    → All (λ s. s.word < cpu_count m) w.kept.lifts.items
lifts_below m t closed run w None h e =
    subst (All (λ s. s.word < cpu_count m)) (sym (keeps_none m t closed run w h e).0) (All-nil (λ (s : Step). s.word < cpu_count m))
lifts_below m t closed run w (Some d) h e =
    let shows = h.shows.demoted d e in
    let count = shows.count in
    λ k x low.
    let word = (each_at (IsLift w.kept.demoted_in (opens_at w.began.view.start) d.opening) 0 w.kept.lifts.items k x low shows.lifts).word in
    omega (arith, low, count, word)

pub watch_below : (m : Plan) (t : Trace) (closed : List Step) (run : IsRunOf m t closed) → All (λ p. p.step.word < cpu_count m) (lift_steps t.watch)
watch_below m t closed run =
    each_lift m t closed run (λ p. p.step.word < cpu_count m) (λ w h.
    All-map (λ (p : Placed). p.step.word < cpu_count m) (placed_lift w.kept.thread) w.kept.lifts.items (lifts_below m t closed run w w.kept.demotion h refl))

-- ---- its tickets

pub watch_drawn : (m : Plan) (t : Trace) (closed : List Step) (run : IsRunOf m t closed)
    → flat_map (λ (w : Watched). w.ended.time.blocks) (listed run.watched) ≡ watch_blocks (pause_of m) (checks_in t.watch)
watch_drawn m t closed run =
    let Drawn : Option Watched → List Block = λ o. flat_map (λ (w : Watched). w.ended.time.blocks) (listed o) in
    let Shown : Option WatchTrace → List Block = λ o. watch_blocks (pause_of m) (checks_in o) in
    elim (watch_in m t closed run) [
      | inl a ↦ ap Drawn a.ran ∙ sym (ap Shown a.is)
      | inr w ↦
          ap Drawn w.1.ran ∙ append-nil w.0.ended.time.blocks ∙ w.1.shows.blocks
          ∙ ap (λ (bs : List Block). bs ++ watch_blocks (pause_of m) (checks_of w.0.kept)) w.1.whole.blocks ∙ sym (ap Shown w.1.is)
    ]

pub watch_rises : (m : Plan) (t : Trace) (closed : List Step) (run : IsRunOf m t closed)
    → RisesFrom (top_of 0 (first_blocks t)) (watch_blocks (pause_of m) (checks_in t.watch))
watch_rises m t closed run =
    let Rise : Option WatchTrace → Type 0 = λ o. RisesFrom (top_of 0 (first_blocks t)) (watch_blocks (pause_of m) (checks_in o)) in
    elim (watch_in m t closed run) [
      | inl a ↦ subst Rise (sym a.is) tt
      | inr w ↦
          let first = first_low m t closed run in
          let later = w.1.whole.later in
          subst Rise (sym w.1.is)
          (rises_lower (top_of 0 (first_blocks t)) w.0.began.time.seen (watch_blocks (pause_of m) (checks_of w.0.kept)) (omega (arith, first, later)) w.1.shows.rises)
    ]

-- ---- its readings

each_weaker : {A : Type 0} (P Q : ℕ → A → Type 0) → ((n : ℕ) (x : A) → P n x → Q n x) → (n : ℕ) (xs : List A) → EachFrom P n xs → EachFrom Q n xs
each_weaker P Q f n [] each = tt
each_weaker P Q f n (x ∷ xs) each = (f n x each.0, each_weaker P Q f (n + 1) xs each.1)

-- what it found of a CPU's records begins all of them
follows_records : (m : Plan) (t : Trace) (closed : List Step) (run : IsRunOf m t closed) (w : Watched) → IsWatch m t closed run w → (cpu : ℕ) → cpu < cpu_count m
    → IsPrefix (epoch_at w.ended.epochs cpu).records (records_of m t cpu)
follows_records m t closed run w h cpu low =
    let d : Ran = record {
      began = record { view = w.began.view; epoch = epoch_at w.began.epochs cpu; time = w.began.time };
      ended = record { view = w.began.view; epoch = epoch_at w.began.epochs cpu; time = w.began.time };
      events = record { items = []; room = 0 };
    } in
    let count = run.count in
    let cover = threads_cover m in
    let there : cpu < length run.rans = omega (arith, low, count, cover) in
    subst (IsPrefix (epoch_at w.ended.epochs cpu).records) (owner_at m t closed run cpu d low there).records (h.whole.follow cpu d low)

check_low : (m : Plan) (n : ℕ) → 1 ≤ cpu_count m → check_cpu m n < cpu_count m
check_low m n some = mod-lt n some

watch_right : (m : Plan) (t : Trace) (closed : List Step) (run : IsRunOf m t closed) (w : Watched) → IsWatch m t closed run w
    → EachFrom (λ n c. All (IsRightVisit m (check_cpu m n) (adjust_of t (check_cpu m n)) (records_of m t (check_cpu m n))) c.visits) 0 (checks_of w.kept)
watch_right m t closed run w h =
    let z = watch_site m t.boots.items t.ups.cpus.items in
    let By : (ℕ → ℤ) → ℕ → Check → Type 0 = λ adjust n c. All (IsRightVisit m (check_cpu m n) (adjust (check_cpu m n)) (records_of m t (check_cpu m n))) c.visits in
    let some = (cpus_few m run.limits).0 in
    let count = run.ups.count in
    each_weaker (By (adjust_at z)) (By (adjust_of t)) (λ n c right.
    let low = check_low m n some in
    subst (λ x. All (IsRightVisit m (check_cpu m n) x (records_of m t (check_cpu m n))) c.visits)
    (adjusts_at (check_cpu m n) t.ups.cpus.items (pos 0) (omega (arith, low, count)) run.ups.numbers) right) 0 (checks_of w.kept)
    (h.shows.right (records_of m t) (follows_records m t closed run w h))

pub checks_right : (m : Plan) (t : Trace) (closed : List Step) (run : IsRunOf m t closed)
    → EachFrom (λ n c. All (IsRightVisit m (check_cpu m n) (adjust_of t (check_cpu m n)) (records_of m t (check_cpu m n))) c.visits) 0 (checks_in t.watch)
checks_right m t closed run =
    let Right : Option WatchTrace → Type 0 =
    λ o. EachFrom (λ n c. All (IsRightVisit m (check_cpu m n) (adjust_of t (check_cpu m n)) (records_of m t (check_cpu m n))) c.visits) 0 (checks_in o) in
    elim (watch_in m t closed run) [
      | inl a ↦ subst Right (sym a.is) tt
      | inr w ↦ subst Right (sym w.1.is) (watch_right m t closed run w.0 w.1)
    ]

pub checks_later : (m : Plan) (t : Trace) (closed : List Step) (run : IsRunOf m t closed) (cpu : ℕ) → NeverFall 0 (flat_from (named_in m cpu) 0 (checks_in t.watch))
checks_later m t closed run cpu =
    let Later : Option WatchTrace → Type 0 = λ o. NeverFall 0 (flat_from (named_in m cpu) 0 (checks_in o)) in
    elim (watch_in m t closed run) [
      | inl a ↦ subst Later (sym a.is) tt
      | inr w ↦ subst Later (sym w.1.is) (w.1.shows.later cpu)
    ]

-- ---- its stamps and its demotion

lift_of : (m : Plan) (t : Trace) (closed : List Step) (run : IsRunOf m t closed) (w : Watched) (d : Demotion) → IsWatch m t closed run w → (n : ℕ) (s : Step)
    → IsLift w.kept.demoted_in (opens_at w.began.view.start) d.opening n s → IsLiftOf t w.kept.demoted_in d n s
lift_of m t closed run w d h n s lift =
    let opens : opens_at w.began.view.start ≡ t.start_word = ap opens_at h.whole.given.start_is ∙ sym run.start_word in
    record {
      word = lift.word;
      call = lift.call;
      why = lift.why;
      old = lift.old ∙ opens;
      new = lift.new ∙ ap (λ (o : ℤ). raise o d.opening) opens;
    }

demoted_by : (m : Plan) (t : Trace) (closed : List Step) (run : IsRunOf m t closed) (w : Watched) → IsWatch m t closed run w → (d : Demotion) → w.kept.demotion ≡ Some d
    → IsDemotedBy m t w.kept d
demoted_by m t closed run w h d e =
    let shows = h.shows.demoted d e in
    let stamps : List StableStamp = w.kept.stamps.items in
    record {
      demotion = λ s stamp is.
          let last : boot_stamp t.gtod_offset s t.boots.items ≡ w.began.last =
          ap (λ (o : ℤ). boot_stamp o s t.boots.items) run.gtod_offset ∙ sym (h.whole.last s) in
          subst (λ o. IsDemotion o stamp.offset stamp d) (sym run.sched_offset)
          (shows.is stamp (is ∙ ap (λ (b : StableStamp). last_stamp b stamps) last));
      check = h.whole.watched.demoted_in;
      each =
          each_weaker (IsLift w.kept.demoted_in (opens_at w.began.view.start) d.opening) (IsLiftOf t w.kept.demoted_in d) (lift_of m t closed run w d h) 0
          w.kept.lifts.items shows.lifts;
      all = shows.count;
    }

pub demoted_right : (m : Plan) (t : Trace) (closed : List Step) (run : IsRunOf m t closed) (w : Watched) → IsWatch m t closed run w → IsDemotedRight m t w.kept
demoted_right m t closed run w h =
    record {
      stamps = subst (λ o. All (HasOffset o) w.kept.stamps.items) (sym run.sched_offset) h.shows.stamps;
      demoted = demoted_by m t closed run w h;
      none = keeps_none m t closed run w h;
    }
