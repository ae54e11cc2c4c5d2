-- What is known of each thread of a run, and what follows for its events. A thread on a CPU knows a part of what the
-- CPU's own thread knows, and that has all of the CPU's records and stamps.
use Rattle.std.proofs.Common.{◌≡◌, ℕ, ◌+◌, ◌<◌, ℤ, true, false, ◌⊎◌, inl, inr, List, [], ◌∷◌, ◌++◌, map, length, get_or, ap, ◌∙◌, sym, subst, refl, arith}
use Rattle.std.specs.List.{All, flat_map}
use Rattle.std.proofs.lemmas.List.Elements.{All-weaker}
use mathlib.Core.List.{IsPrefix}
use Rattle.clk_base.specs.declared.block.Block.{Block}
use Rattle.clk_base.specs.Blocks.{RisesFrom, top_of}
use Rattle.clk_base.specs.Walk.{Along, EachFrom}
use Rattle.clk_base.proofs.Walks.{each_from}
use Rattle.clk_machine.specs.Plan.{Plan, cpu_count, thread_at}
use Rattle.clk_machine.specs.Records.{record_zero}
use Rattle.clk_record.specs.declared.mode.Mode.TheVariants.{Stable}
use Rattle.clk_record.specs.declared.step.Step.{Step}
use Rattle.clk_words.specs.declared.kind.SeatKind.TheVariants.{Owner}
use Rattle.clk_words.specs.declared.opening.Start.{Start}
use Rattle.clk_words.specs.declared.view.Part.{Part}
use Rattle.clk_words.specs.Fronts.{Begins}
use Rattle.clk_words.specs.Histories.{opens_at, IsGlobalHistory}
use Rattle.clk_words.specs.Kinds.{cpu_of}
use Rattle.clk_words.specs.Parts.{gtod_of, raw_of, part_of}
use Rattle.clk_words.specs.Rights.{owned_by}
use Rattle.clk_lawful.specs.Modes.{modes_of}
use Rattle.clk_lawful.specs.RightReadings.{IsRightKind, adjust_of}
use Rattle.clk_lawful.specs.ScriptEvents.{AreEventsOf}
use Rattle.clk_lawful.specs.SeenBefore.{stood_at, NeverFalls}
use Rattle.clk_lawful.specs.Standing.{begins_stable, standing_offset}
use Rattle.clk_lawful.specs.Stamps.{Pair, stamp_zero, stamp_of_kind, stamps_of, NamesPair, pair_after, first_numbers, NamesStamps, numbers_after}
use Rattle.clk_lawful.specs.Threads.{own_events}
use Rattle.clk_lawful.specs.TicketOrder.{first_blocks, thread_blocks}
use Rattle.clk_lawful.specs.Updates.{records_of, OwnsRecords, record_after}
use Rattle.clk_lawful.specs.WordHistory.{steps_from}
use Rattle.clk_lawful.specs.declared.event.Event.{Event}
use Rattle.clk_lawful.specs.declared.trace.Trace.{Trace}
use Rattle.clk_local.specs.Context.{Site}
use Rattle.clk_worker.proofs.RunLifted.{StoodAt}
use Rattle.clk_worker.proofs.RunModes.{AreOfMode}
use Rattle.clk_worker.proofs.RunNamed.{steps_below}
use Rattle.clk_worker.proofs.RunPairs.{MayStand}
use Rattle.clk_worker.proofs.RunParts.{MayHave}
use Rattle.clk_worker.proofs.RunReadings.{records_in, right_more}
use Rattle.clk_worker.proofs.RunStamps.{BeginsValues, KnowsStamps}
use Rattle.clk_worker.proofs.RunThread.{IsFresh, HasRun, has_run, OwnerHasRun, owner_has_run}
use Rattle.clk_threads.specs.Booting.{sched_offset_of}
use Rattle.clk_threads.specs.Preparing.{start_of}
use Rattle.clk_threads.specs.Finishing.{Ran, site_on, RanWhole, FollowsOwner, IsRunOf}
use Rattle.clk_threads.proofs.LawfulLists.{cpu_of_thread, owner_cpu, thread_cpu, own_each}
use Rattle.clk_threads.proofs.LawfulOpening.{stable_mode}
use Rattle.clk_threads.proofs.LawfulQuiet.{AreQuiet, quiet_pairs, quiet_stamps, with_percpu, quiet_modes}
use Rattle.clk_threads.proofs.LawfulTickets.{runs_rise, first_low}
use Rattle.clk_threads.proofs.Numbering.{each_of, threads_cover, own_thread, kind_owner, kind_cpu}

-- where a thread on this CPU stands, and what the words began with
abbrev pub site_in : Plan → Trace → ℕ → Site
site_in m t cpu = site_on m t.boots.items t.ups.cpus.items cpu

abbrev pub start_in : Plan → Trace → Start
start_in m t = start_of m t.boots.items t.boot_demotion

-- a thread that goes by what stood when the clock became per-CPU: what it knew of stamp 0 and of the offset at its end
-- is that
pub record GoesBy (t : Trace) (cpu : ℕ) (r : Ran) : Type 0 where
  pub stands : MayStand cpu r.ended.view (stamp_zero t) (standing_offset t)
  pub percpu : (modes_of t).percpu ≡ true

-- and each thread does, or is one that only knew a stable clock
abbrev pub Stands : Trace → ℕ → Ran → Type 0
Stands t cpu r = GoesBy t cpu r ⊎ AreQuiet r.events.items

-- a thread of the run: its script and its tickets, what its events show, its CPU, and that the history at the end
-- begins with what it has seen; what it knew of its CPU's records and stamps begins all of them, and a CPU's own thread
-- has them all; the words began at the trace's opening, and stable only where the trace does
pub record IsThread (m : Plan) (t : Trace) (closed : List Step) (thread : ℕ) (r : Ran) : Type 0 where
  pub script : AreEventsOf (cpu_of_thread m thread) 0 (thread_at m thread).1 r.events.items
  pub blocks : r.ended.time.blocks ≡ thread_blocks r.events
  pub rises : RisesFrom (top_of 0 (first_blocks t)) (thread_blocks r.events)
  pub shows : HasRun (site_in m t (cpu_of_thread m thread)) (start_in m t) thread r.began r.events.items r.ended
  pub low : cpu_of_thread m thread < cpu_count m
  pub begins : Begins r.ended.view.seen closed
  pub records : IsPrefix (records_in r.ended) (records_of m t (cpu_of_thread m thread))
  pub stands : Stands t (cpu_of_thread m thread) r
  pub stamps : GoesBy t (cpu_of_thread m thread) r → KnowsStamps (cpu_of_thread m thread) r.ended.view.pairs (stamps_of t (cpu_of_thread m thread))
  pub owns : thread < cpu_count m → OwnerHasRun (site_in m t thread) (start_in m t) r.events.items r.ended
  pub legal : IsGlobalHistory (start_in m t) closed
  pub opens : t.start_word ≡ opens_at (start_in m t)
  pub stable : (start_in m t).opening.mode ≡ Stable → begins_stable t ≡ true
  pub sched : t.sched_offset ≡ sched_offset_of m t.boots.items

-- ---- its tickets

-- it began when the boot, the bring-up and a demotion at boot had drawn their tickets
rises_after : (m : Plan) (t : Trace) (closed : List Step) (run : IsRunOf m t closed) (thread : ℕ) (r : Ran)
    → RanWhole m t.boots.items t.ups.cpus.items (start_in m t) run.booted.seen thread r → RisesFrom (top_of 0 (first_blocks t)) (thread_blocks r.events)
rises_after m t closed run thread r ran =
    let booted = first_low m t closed run in
    let later = ran.later in
    runs_rise (site_in m t (cpu_of_thread m thread)) r.began r.events.items r.ended (top_of 0 (first_blocks t)) ran.runs (omega (arith, booted, later))

-- ---- it ran from fresh seats

fresh : (m : Plan) (t : Trace) (low thread : ℕ) (r : Ran) → cpu_of_thread m thread < cpu_count m
    → RanWhole m t.boots.items t.ups.cpus.items (start_in m t) low thread r → IsFresh (site_in m t (cpu_of_thread m thread)) (start_in m t) thread r.began
fresh m t low thread r within ran =
    record {
      home = record {
        start_is = ran.given.start_is;
        number_is = ran.given.number_is;
        cpu_is = ap cpu_of ran.given.kind_is ∙ kind_cpu m thread;
      };
      within = within;
      mine = ran.given.mine_is;
      legal = subst (IsGlobalHistory (start_in m t)) (sym ran.given.seen_is) tt;
      records = ran.records;
      parts = ran.given.parts_is;
      found = ran.given.found_is;
      offset = ran.given.offset_is;
    }

pub thread_has_run : (m : Plan) (t : Trace) (low thread : ℕ) (r : Ran) → cpu_of_thread m thread < cpu_count m
    → RanWhole m t.boots.items t.ups.cpus.items (start_in m t) low thread r
    → HasRun (site_in m t (cpu_of_thread m thread)) (start_in m t) thread r.began r.events.items r.ended
thread_has_run m t low thread r within ran =
    has_run (site_in m t (cpu_of_thread m thread)) (start_in m t) thread r.began r.events.items r.ended (fresh m t low thread r within ran) ran.runs

-- a CPU's own thread owns its latch and its pair
owner_ran : (m : Plan) (t : Trace) (low cpu : ℕ) (r : Ran) → cpu < cpu_count m → RanWhole m t.boots.items t.ups.cpus.items (start_in m t) low cpu r
    → OwnerHasRun (site_in m t cpu) (start_in m t) r.events.items r.ended
owner_ran m t low cpu r within ran =
    let start = start_in m t in
    let here : cpu_of_thread m cpu ≡ cpu = owner_cpu m cpu within in
    let below : cpu_of_thread m cpu < cpu_count m = subst (λ k. k < cpu_count m) (sym here) within in
    subst (λ k. OwnerHasRun (site_in m t k) start r.events.items r.ended) here
    (owner_has_run (site_in m t (cpu_of_thread m cpu)) start cpu r.began r.events.items r.ended (fresh m t low cpu r below ran)
    (ran.owner ∙ own_thread m cpu within) (ran.given.owns_is ∙ ap owned_by (kind_owner m cpu within ∙ ap Owner (sym here))) ran.runs)

-- ---- what it knows of its CPU

-- the events of a CPU's own thread tell its records and stamps
pub owner_at : (m : Plan) (t : Trace) (closed : List Step) (run : IsRunOf m t closed) (cpu : ℕ) (d : Ran) → cpu < cpu_count m → cpu < length run.rans
    → OwnerHasRun (site_in m t cpu) (start_in m t) (own_events cpu t) (get_or run.rans cpu d).ended
owner_at m t closed run cpu d within low =
    let start = start_in m t in
    let r : Ran = get_or run.rans cpu d in
    let own : own_events cpu t ≡ r.events.items = each_of (λ k (x : Ran). own_events k t ≡ x.events.items) run.rans cpu d low (own_each t run.rans run.threads) in
    subst (λ (es : List Event). OwnerHasRun (site_in m t cpu) start es r.ended) (sym own)
    (owner_ran m t run.booted.seen cpu r within
    (each_of (RanWhole m t.boots.items t.ups.cpus.items start run.booted.seen) run.rans cpu d low run.each))

-- a part that begins the owner's after stamp 0, and may have this one there
begins_values : (p q : Part) (stamp : ℤ) (xs : List ℤ) → Begins p.after q.after → MayHave p.zero stamp → q.after ≡ xs → BeginsValues p (stamp ∷ xs)
begins_values p q stamp xs begins known is =
    record {
      stamp = stamp;
      known = known;
      rest = begins.rest;
      is = ap (λ (ys : List ℤ). stamp ∷ ys) (sym is ∙ begins.is);
    }

knows_stamps : (m : Plan) (t : Trace) (cpu : ℕ) (rans : List Ran) (r : Ran) → FollowsOwner cpu rans r
    → OwnerHasRun (site_in m t cpu) (start_in m t) (own_events cpu t) (get_or rans cpu r).ended → GoesBy t cpu r
    → KnowsStamps cpu r.ended.view.pairs (stamps_of t cpu)
knows_stamps m t cpu rans r follows owner goes =
    let raws : List ℤ = map (λ (s : Pair). s.raw) (flat_map (λ e. stamp_of_kind e.kind) (own_events cpu t)) in
    let gtods : List ℤ = map (λ (s : Pair). s.gtod) (flat_map (λ e. stamp_of_kind e.kind) (own_events cpu t)) in
    let all : Ran → List Part = λ x. x.ended.view.pairs.parts in
    record {
      raws =
          begins_values (part_of (all r) (raw_of cpu)) (part_of (all (get_or rans cpu r)) (raw_of cpu)) (stamp_zero t).raw raws (follows.raws r)
          goes.stands.raw owner.raws;
      gtods =
          begins_values (part_of (all r) (gtod_of cpu)) (part_of (all (get_or rans cpu r)) (gtod_of cpu)) (stamp_zero t).gtod gtods (follows.gtods r)
          goes.stands.gtod owner.gtods;
    }

-- ---- all threads of a run are such

is_thread : (m : Plan) (t : Trace) (closed : List Step) (run : IsRunOf m t closed) (thread : ℕ) (r : Ran) → thread < length run.rans
    → RanWhole m t.boots.items t.ups.cpus.items (start_in m t) run.booted.seen thread r → FollowsOwner (cpu_of_thread m thread) run.rans r
    → Begins r.ended.view.seen closed → Stands t (cpu_of_thread m thread) r → IsThread m t closed thread r
is_thread m t closed run thread r within ran follows begins stands =
    let cpu : ℕ = cpu_of_thread m thread in
    let count = run.count in
    let cover = threads_cover m in
    let low : cpu < cpu_count m = thread_cpu m thread run.limits (omega (arith, within, count)) in
    let there : cpu < length run.rans = omega (arith, low, count, cover) in
    let shows = thread_has_run m t run.booted.seen thread r low ran in
    let owner = owner_at m t closed run cpu r low there in
    record {
      script = ran.script;
      blocks = shows.blocks ∙ ap (λ (bs : List Block). bs ++ thread_blocks r.events) ran.blocks;
      rises = rises_after m t closed run thread r ran;
      shows = shows;
      low = low;
      begins = begins;
      records = subst (IsPrefix (records_in r.ended)) owner.records (follows.records r);
      stands = stands;
      stamps = knows_stamps m t cpu run.rans r follows owner;
      owns = λ own. owner_ran m t run.booted.seen thread r own ran;
      legal = run.complete.legal;
      opens = run.start_word;
      stable = stable_mode m t closed run;
      sched = run.sched_offset;
    }

-- what is known of each thread and its number
abbrev pub EachStands : Plan → Trace → List Ran → Type 0
EachStands m t rans = EachFrom (λ k r. Stands t (cpu_of_thread m k) r) 0 rans

are_threads : (m : Plan) (t : Trace) (closed : List Step) (run : IsRunOf m t closed) (n : ℕ) (rans : List Ran) → EachFrom (λ k r. k < length run.rans) n rans
    → EachFrom (λ k r. RanWhole m t.boots.items t.ups.cpus.items (start_in m t) run.booted.seen k r) n rans
    → EachFrom (λ k r. FollowsOwner (cpu_of_thread m k) run.rans r) n rans → EachFrom (λ k r. Begins r.ended.view.seen closed) n rans
    → EachFrom (λ k r. Stands t (cpu_of_thread m k) r) n rans → EachFrom (IsThread m t closed) n rans
are_threads m t closed run n [] low ran follows begins stands = tt
are_threads m t closed run n (r ∷ rans) low ran follows begins stands = (
  is_thread m t closed run n r low.0 ran.0 follows.0 begins.0 stands.0,
  are_threads m t closed run (n + 1) rans low.1 ran.1 follows.1 begins.1 stands.1,
)

pub all_threads : (m : Plan) (t : Trace) (closed : List Step) (run : IsRunOf m t closed) → EachStands m t run.rans → EachFrom (IsThread m t closed) 0 run.rans
all_threads m t closed run stands =
    let Low : ℕ → Ran → Type 0 = λ k r. k < length run.rans in
    let Seen : ℕ → Ran → Type 0 = λ k r. Begins r.ended.view.seen closed in
    are_threads m t closed run 0 run.rans (each_from Low 0 run.rans (λ k d low. omega (arith, low))) run.each run.follow
    (each_from Seen 0 run.rans (λ k d low. run.begins k d low)) stands

-- ---- what its events show, in the terms of the trace

pub thread_right : (m : Plan) (t : Trace) (closed : List Step) (thread : ℕ) (r : Ran) → IsThread m t closed thread r
    → All (λ e. IsRightKind m (cpu_of_thread m thread) (adjust_of t (cpu_of_thread m thread)) (records_of m t (cpu_of_thread m thread)) e.kind) r.events.items
thread_right m t closed thread r h =
    let cpu : ℕ = cpu_of_thread m thread in
    let adjust : ℤ = adjust_of t cpu in
    All-weaker (λ (e : Event). IsRightKind m cpu adjust (records_in r.ended) e.kind) (λ (e : Event). IsRightKind m cpu adjust (records_of m t cpu) e.kind)
    (λ e right. right_more m cpu adjust (records_in r.ended) (records_of m t cpu) e.kind h.records right) r.events.items h.shows.right

-- a CPU's own thread goes from record to record, and names its last stamp
pub owner_records : (m : Plan) (t : Trace) (closed : List Step) (cpu : ℕ) (r : Ran) → IsThread m t closed cpu r → cpu < cpu_count m
    → Along (λ last e. OwnsRecords m cpu (adjust_of t cpu) last e.kind) (λ last e. record_after last e.kind) (record_zero m) r.events.items
owner_records m t closed cpu r h low = (h.owns low).owned

pub owner_names : (m : Plan) (t : Trace) (closed : List Step) (cpu : ℕ) (r : Ran) → IsThread m t closed cpu r → cpu < cpu_count m
    → Along (λ p e. NamesPair (standing_offset t) p e.kind) (λ p e. pair_after p e.kind) (stamp_zero t) r.events.items
owner_names m t closed cpu r h low =
    elim h.stands [
      | inl goes ↦
          (h.owns low).pairs (stamp_zero t) (standing_offset t)
          (subst (λ k. MayStand k r.ended.view (stamp_zero t) (standing_offset t)) (owner_cpu m cpu low) goes.stands)
      | inr quiet ↦ quiet_pairs (standing_offset t) (stamp_zero t) r.events.items quiet
    ]

-- any thread names stamps of its CPU, none older than before
pub thread_stamps : (m : Plan) (t : Trace) (closed : List Step) (thread : ℕ) (r : Ran) → IsThread m t closed thread r
    → Along (λ n e. NamesStamps (stamps_of t (cpu_of_thread m thread)) (standing_offset t) n e.kind) (λ n e. numbers_after (stamps_of t (cpu_of_thread m thread)) n e.kind)
    first_numbers r.events.items
thread_stamps m t closed thread r h =
    let stamps : List Pair = stamps_of t (cpu_of_thread m thread) in
    elim h.stands [
      | inl goes ↦ h.shows.stamps stamps (standing_offset t) (h.stamps goes) goes.stands.offset_is
      | inr quiet ↦ quiet_stamps stamps (standing_offset t) first_numbers r.events.items quiet
    ]

-- each event stands in its mode
pub thread_modes : (m : Plan) (t : Trace) (closed : List Step) (thread : ℕ) (r : Ran) → IsThread m t closed thread r
    → AreOfMode (modes_of t) t.sched_offset false r.events.items
thread_modes m t closed thread r h =
    let z = site_in m t (cpu_of_thread m thread) in
    elim h.stands [
      | inl goes ↦
          h.shows.modes (modes_of t) t.sched_offset (record { stable = λ stable. (h.stable stable, h.sched); percpu = λ found. goes.percpu })
      | inr quiet ↦
          quiet_modes (modes_of t) t.sched_offset false r.events.items quiet
          (h.shows.modes (with_percpu (modes_of t)) t.sched_offset (record { stable = λ stable. (h.stable stable, h.sched); percpu = λ found. refl }))
    ]

-- each of its steps is on a word of the machine
pub thread_below : (m : Plan) (t : Trace) (closed : List Step) (thread : ℕ) (r : Ran) → IsThread m t closed thread r
    → All (λ p. p.step.word < cpu_count m) (steps_from thread (cpu_of_thread m thread) 0 r.events.items)
thread_below m t closed thread r h = steps_below (cpu_count m) thread (cpu_of_thread m thread) 0 r.events.items h.low h.shows.below

-- and none falls below what the thread has seen, by where the words stood
pub thread_never_falls : (m : Plan) (t : Trace) (closed : List Step) → StoodAt (start_in m t) closed (stood_at t) → (thread : ℕ) (r : Ran) → IsThread m t closed thread r
    → NeverFalls t.start_word (stood_at t) (cpu_of_thread m thread) [] r.events.items
thread_never_falls m t closed stood thread r h =
    subst (λ o. NeverFalls o (stood_at t) (cpu_of_thread m thread) [] r.events.items) (sym h.opens) (h.shows.seen closed (stood_at t) h.begins h.legal stood)
