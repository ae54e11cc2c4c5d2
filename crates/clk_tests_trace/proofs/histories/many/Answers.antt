use Rattle.std.proofs.Common.{◌≡◌, ℕ, ◌*◌, ◌^◌, ◌<◌, ◌≤◌, nat_eq, [], length, map, None, refl, sym, ap, ◌∙◌, subst, arith}
use Rattle.std.specs.List.{All, IsDistinct}
use Rattle.std.specs.Option.{IfSome}
use Rattle.std.proofs.lemmas.List.Elements.{All-nil, All-weaker}
use Rattle.clk_num.specs.Listed.{Listed}
use Rattle.clk_record.specs.declared.step.Step.{Step}
use Rattle.clk_lawful.specs.Filling.{NamesWordsBelow, HasWordsBelow, MayFill}
use Rattle.clk_lawful.specs.Standing.{lifts_by}
use Rattle.clk_lawful.specs.WordHistory.{steps_of}
use Rattle.clk_lawful.specs.declared.event.Event.{Event}
use Rattle.clk_lawful.specs.declared.trace.Trace.{Trace}
use Rattle.clk_lawful.proofs.Few.{few_lines, few_in_all, step_count}
use Rattle.clk_tests_trace.proofs.histories.many.Goals as goal

none_twice : IsDistinct nat_eq []
unfolding IsDistinct
none_twice = tt

may_fill : (t : Trace) (steps : ℕ) → steps < 2 ^ 32
    → length t.cpu_of.items ≡ 32 → All (λ cpu. cpu < 16) t.cpu_of.items
    → length t.threads.items ≡ 32 → All (λ es. length es.items ≤ steps) t.threads.items
    → All (λ es. All (λ e. NamesWordsBelow 16 e.kind) es.items) t.threads.items
    → length t.histories.items ≡ 16 → All (λ lines. lines.items ≡ []) t.histories.items → All (λ lines. lines.room ≡ 32 * steps) t.histories.items
    → t.watch ≡ None → MayFill t
may_fill t steps small cpus below threads few words lists empty rooms none = record {
  count = cpus ∙ sym threads;
  few = omega (arith, threads);
  words =
      subst (λ n. HasWordsBelow n t.cpu_of.items t.threads.items) (sym lists) record {
        cpus = below;
        few =
            All-weaker (λ (es : Listed Event). length es.items ≤ steps) (λ es. length es.items < 2 ^ 32) (λ es low. omega (arith, low, small)) t.threads.items
            few;
        words = words;
      };
  watchdog = subst (λ o. IfSome o (λ w. length t.threads.items ≤ w.thread)) (sym none) tt;
  lifts = subst (λ o. All (λ s. s.word < length t.histories.items) (lifts_by o)) (sym none) (All-nil (λ (s : Step). s.word < length t.histories.items));
  once = subst (λ o. IsDistinct nat_eq (map (λ s. s.word) (lifts_by o))) (sym none) none_twice;
  empty = empty;
  room = λ w d low.
      let room = rooms w d low in
      let lines = few_lines w (steps_of t) in
      let count = step_count t in
      let lifts : length (lifts_by t.watch) ≡ 0 = ap (λ o. length (lifts_by o)) none in
      let all = rw threads at (few_in_all steps 0 t.cpu_of.items t.threads.items few) in
      omega (arith, room, lines, count, lifts, all);
}

pub returns : goal.returns
returns c =
    may_fill _ c.args.steps c.ranges.steps.fits c.in_ok-many_cpus.ensures.count c.in_ok-many_cpus.ensures.words c.in_ok-many_threads.ensures.count
    c.in_ok-many_threads.ensures.few c.in_ok-many_threads.ensures.words c.in_ok-many_words.ensures.count c.in_ok-many_words.ensures.empty
    c.in_ok-many_words.ensures.room refl
