-- The trace of a run of several threads is lawful, and shows the history of the clock words: in either start, with or
-- without a watchdog, and with the demotions that there are.
use Rattle.std.proofs.Common.{◌≡◌, ℕ, ◌+◌, ◌<◌, ℤ, Bool, true, false, not, ◌||◌, is_some, inl, inr, List, length, get_or, Option, Some, None, ap, ◌∙◌, sym, subst, refl, arith}
use Rattle.clk_base.proofs.Walks.{each_from}
use Rattle.clk_machine.specs.Plan.{Plan, cpu_count}
use Rattle.clk_record.specs.declared.step.Step.{Step}
use Rattle.clk_record.specs.declared.stable.Demotion.{Demotion}
use Rattle.clk_lawful.specs.LawfulTrace.{IsLawful}
use Rattle.clk_lawful.specs.Stamps.{Pair}
use Rattle.clk_lawful.specs.Standing.{begins_stable, demotion_by}
use Rattle.clk_lawful.specs.declared.trace.Trace.{Trace}
use Rattle.clk_threads.specs.Finishing.{Ran, RanWhole, IsRunOf, ShowsHistory}
use Rattle.clk_threads.proofs.LawfulFields.{lawful_by, shows_by}
use Rattle.clk_threads.proofs.LawfulLists.{cpu_of_thread, thread_cpu}
use Rattle.clk_threads.proofs.LawfulOpening.{percpu_mode, opening_zero, opening_offset}
use Rattle.clk_threads.proofs.LawfulStable.{goes_demoted, stays_quiet}
use Rattle.clk_threads.proofs.LawfulThreads.{start_in, GoesBy, Stands, EachStands, thread_has_run}
use Rattle.clk_threads.proofs.LawfulWatch.{percpu_none}
use Rattle.clk_threads.proofs.Numbering.{each_of}

-- ---- a clock that is per-CPU as the scripts begin

-- each thread knows the opening's pair and its offset
goes_percpu : (m : Plan) (t : Trace) (closed : List Step) (run : IsRunOf m t closed) → begins_stable t ≡ false → (thread : ℕ) (r : Ran) → thread < length run.rans
    → RanWhole m t.boots.items t.ups.cpus.items (start_in m t) run.booted.seen thread r → GoesBy t (cpu_of_thread m thread) r
goes_percpu m t closed run percpu thread r low ran =
    let count = run.count in
    let within : cpu_of_thread m thread < cpu_count m = thread_cpu m thread run.limits (omega (arith, low, count)) in
    let mode = percpu_mode m t closed run percpu in
    let none = percpu_none m t closed run percpu in
    let zero_pair = opening_zero m t none in
    let shows = thread_has_run m t run.booted.seen thread r within ran in
    record {
      stands = record {
        raw = inr (shows.raw_zero mode ∙ ap (λ (p : Pair). Some p.raw) (sym zero_pair));
        gtod = inr (shows.gtod_zero mode ∙ ap (λ (p : Pair). Some p.gtod) (sym zero_pair));
        offset_is = inr (shows.offset_is mode ∙ ap (λ (x : ℤ). Some x) (sym (opening_offset m t closed run none)));
      };
      percpu = ap (λ (b : Bool). not b || is_some (demotion_by t.watch)) percpu;
    }

-- ---- any start

stands_each : (m : Plan) (t : Trace) (closed : List Step) (run : IsRunOf m t closed)
    → ((k : ℕ) (d : Ran) → k < length run.rans → Stands t (cpu_of_thread m k) (get_or run.rans k d)) → EachStands m t run.rans
stands_each m t closed run f =
    each_from (λ k r. Stands t (cpu_of_thread m k) r) 0 run.rans (λ k d low.
    let e : k ≡ 0 + k = omega arith in
    subst (λ i. Stands t (cpu_of_thread m i) (get_or run.rans k d)) e (f k d low))

stands_by : (m : Plan) (t : Trace) (closed : List Step) (run : IsRunOf m t closed) (b : Bool) (o : Option Demotion) → begins_stable t ≡ b → demotion_by t.watch ≡ o
    → EachStands m t run.rans
stands_by m t closed run false o percpu e =
    stands_each m t closed run (λ k d low.
    inl (goes_percpu m t closed run percpu k (get_or run.rans k d) low
    (each_of (RanWhole m t.boots.items t.ups.cpus.items (start_in m t) run.booted.seen) run.rans k d low run.each)))
stands_by m t closed run true None stable e =
    stands_each m t closed run (λ k d low. inr (stays_quiet m t closed run stable e k d low))
stands_by m t closed run true (Some d) stable e =
    let count = run.count in
    stands_each m t closed run (λ k x low.
    inl (goes_demoted m t closed run d stable e (cpu_of_thread m k) (get_or run.rans k x) (thread_cpu m k run.limits (omega (arith, low, count))) (run.known k x low)))

pub lawful : (m : Plan) (t : Trace) (closed : List Step) → IsRunOf m t closed → IsLawful m t
lawful m t closed run = lawful_by m t closed run (stands_by m t closed run (begins_stable t) (demotion_by t.watch) refl refl)

pub closed_shows : (m : Plan) (t : Trace) (closed : List Step) → IsRunOf m t closed → ShowsHistory closed t
closed_shows m t closed run = shows_by m t closed run (stands_by m t closed run (begins_stable t) (demotion_by t.watch) refl refl)
