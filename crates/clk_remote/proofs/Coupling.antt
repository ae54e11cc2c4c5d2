-- Lemmas on a coupling: the value that it names was held, and nothing that it loads, finds or leaves is below what was
-- seen.
use Rattle.std.proofs.Common.{◌≡◌, ℕ, ℤ, Bool, true, false, cond, List, [], ◌∷◌, ◌++◌, refl, sym, ap, ◌∙◌, subst, append_assoc, append-nil}
use Rattle.clk_num.specs.Wrapping.{IsNotBelow, raise}
use Rattle.clk_num.proofs.Heights.{raise_rises}
use Rattle.clk_machine.specs.declared.reading.RawReading.{RawReading}
use Rattle.clk_record.specs.declared.step.Step.{Step}
use Rattle.clk_record.specs.declared.step.Why.{Why}
use Rattle.clk_record.specs.declared.step.Why.TheVariants.{Couple}
use Rattle.clk_record.specs.Targets.{target}
use Rattle.clk_record.specs.LowerWord.{is_lower, lower_word}
use Rattle.clk_words.specs.declared.opening.Start.{Start}
use Rattle.clk_words.specs.declared.view.View.{View}
use Rattle.clk_words.specs.declared.view.Load.{Load}
use Rattle.clk_words.specs.declared.view.Name.TheVariants.{Clock}
use Rattle.clk_words.specs.Calls.{step_of, KeepsSeat}
use Rattle.clk_words.specs.Histories.{opens_at, value_after, IsGlobalHistory, NamesHeld}
use Rattle.clk_words.specs.Knowing.{HasLoaded, IsGood, IsTrusted}
use Rattle.clk_words.specs.Told.{Loads, Raises}
use Rattle.clk_words.proofs.Loading.{kept_both, kept_clock, loaded_clock, still_clock}
use Rattle.clk_words.proofs.Replay.{had_here, had_more, words_rise, follow_front, value_here}
use Rattle.clk_local.specs.declared.events.Reading.TheVariants.{PerCpu}
use Rattle.clk_local.specs.Context.{Site, Known, MayStamp}
use Rattle.clk_local.specs.Raising.{shown_on}
use Rattle.clk_local.specs.Shows.{ShowsReading}
use Rattle.clk_remote.specs.declared.event.RemoteEvent.TheVariants.{Coupled}
use Rattle.clk_remote.specs.Coupling.{higher_value, coupling, coupling_step}
use Rattle.clk_remote.specs.Shows.{ShowsCoupling, ShowsRemote}

-- ---- the two loads

pub kept_loads : (v half w : View) (cpu asked : ℕ) (own other : ℤ) → Loads v cpu own half → Loads half asked other w → KeepsSeat v w
kept_loads v half w cpu asked own other one two = kept_both v half w (kept_clock v half cpu own one) (kept_clock half w asked other two)

-- the value that is named was loaded
trusted_by : (w : View) (t : Bool) (cpu asked : ℕ) (own other : ℤ) → HasLoaded w (Clock cpu) own → HasLoaded w (Clock asked) other
    → IsTrusted w (cond t (Couple cpu own) (Couple asked other))
trusted_by w true cpu asked own other first second = first
trusted_by w false cpu asked own other first second = second

pub trusted_coupling : (v half w : View) (cpu asked : ℕ) (own other : ℤ) → Loads v cpu own half → Loads half asked other w → IsTrusted w (coupling cpu asked own other)
trusted_coupling v half w cpu asked own other one two =
    trusted_by w (is_lower other own) cpu asked own other (still_clock half w asked other own (Clock cpu) two (loaded_clock v half cpu own one)) (loaded_clock half w asked other two)

-- a coupling leaves the right to stamp
pub stamp_coupled : (v half loaded w : View) (cpu asked : ℕ) (own other : ℤ) (s : Step) → Loads v cpu own half → Loads half asked other loaded → Raises loaded s w → MayStamp v → MayStamp w
stamp_coupled v half loaded w cpu asked own other s one two raises may =
    let first : MayStamp half = subst MayStamp (sym one.view_is) (record { owner = may.owner; whole = may.whole }) in
    let second : MayStamp loaded = subst MayStamp (sym two.view_is) (record { owner = first.owner; whole = first.whole }) in
    subst MayStamp (sym raises.makes.view_is) (record { owner = second.owner; whole = second.whole })

-- a word shows what was loaded of it
shown_now : (v w : View) (word : ℕ) (x : ℤ) → Loads v word x w → shown_on word w ≡ x
shown_now v w word x told = ap (λ (s : Start). value_after (opens_at s) word w.seen) (ap (λ (u : View). u.start) told.view_is) ∙ told.value_is

-- ---- what was seen

-- where a seat has seen more, no word shows less
grown : (v w : View) (more : List Step) (word : ℕ) → w.start ≡ v.start → w.seen ≡ v.seen ++ more → IsGood w → IsNotBelow (shown_on word w) (shown_on word v)
grown v w more word start seen good =
    let legal : IsGlobalHistory v.start (v.seen ++ more) = subst (λ s. IsGlobalHistory s (v.seen ++ more)) start (subst (IsGlobalHistory w.start) seen good.legal) in
    subst (λ x. IsNotBelow x (shown_on word v))
    (sym (ap (λ (s : Start). value_after (opens_at s) word w.seen) start ∙ ap (value_after (opens_at v.start) word) seen))
    (words_rise v.start v.seen more word legal)

-- what a step finds is not below what its word showed, to a seat that has seen more since
found_over : (u v w : View) (more : List Step) (s : Step) → v.start ≡ u.start → v.seen ≡ u.seen ++ more → Raises v s w → IsNotBelow s.old (shown_on s.word u)
found_over u v w more s start seen raises =
    let all = more ++ raises.makes.between in
    let whole : IsGlobalHistory v.start ((v.seen ++ raises.makes.between) ++ s ∷ []) = subst (λ (x : View). IsGlobalHistory x.start x.seen) raises.makes.view_is raises.makes.good.legal in
    let front : IsGlobalHistory v.start (v.seen ++ raises.makes.between) = follow_front v.start [] (v.seen ++ raises.makes.between) (s ∷ []) whole in
    let is : v.seen ++ raises.makes.between ≡ u.seen ++ all = ap (λ ss. ss ++ raises.makes.between) seen ∙ append_assoc u.seen more raises.makes.between in
    let legal : IsGlobalHistory u.start (u.seen ++ all) = subst (λ o. IsGlobalHistory o (u.seen ++ all)) start (subst (IsGlobalHistory v.start) is front) in
    subst (λ x. IsNotBelow x (shown_on s.word u))
    (sym (raises.old_is ∙ ap (λ (o : Start). value_after (opens_at o) s.word (v.seen ++ raises.makes.between)) start ∙ ap (value_after (opens_at u.start) s.word) is))
    (words_rise u.start u.seen all s.word legal)

-- after a step its word shows the step's new value
pub shown_after : (v w : View) (s : Step) → Raises v s w → shown_on s.word w ≡ s.new
shown_after v w s raises =
    ap (λ (x : View). shown_on s.word x) raises.makes.view_is ∙ value_here (opens_at v.start) s.word (v.seen ++ raises.makes.between) s refl

-- ---- the step

target_by : (tick : ℤ) (t : Bool) (cpu asked : ℕ) (own other : ℤ) → target tick (cond t (Couple cpu own) (Couple asked other)) ≡ cond t own other
target_by tick true cpu asked own other = refl
target_by tick false cpu asked own other = refl

-- the step that was made, of a seat that was kept
pub is_step : (v w : View) (tick : ℤ) (call cpu asked : ℕ) (own other : ℤ) (word : ℕ) (why : Why) (s : Step) → KeepsSeat v w
    → word ≡ lower_word cpu asked own other → why ≡ coupling cpu asked own other
    → s ≡ step_of w call word s.old (raise s.old (target tick why)) why → s ≡ coupling_step v call cpu asked own other s.old
is_step v w tick call cpu asked own other word why s kept word_is why_is is =
    is
    ∙ ap (λ k. step_of w call k s.old (raise s.old (target tick why)) why) word_is
    ∙ ap (λ y. step_of w call (lower_word cpu asked own other) s.old (raise s.old (target tick y)) y) why_is
    ∙ ap (λ x. step_of w call (lower_word cpu asked own other) s.old (raise s.old x) (coupling cpu asked own other)) (target_by tick (is_lower other own) cpu asked own other)
    ∙ ap (λ n. record (step_of w call (lower_word cpu asked own other) s.old (raise s.old (higher_value own other)) (coupling cpu asked own other)) { by = n }) kept.number_is

named_by : (start : Start) (seen : List Step) (t : Bool) (cpu asked : ℕ) (own other : ℤ) → NamesHeld start seen (Couple cpu own) → NamesHeld start seen (Couple asked other)
    → NamesHeld start seen (cond t (Couple cpu own) (Couple asked other))
named_by start seen true cpu asked own other first second = first
named_by start seen false cpu asked own other first second = second

-- what the loads and the step come to
pub shows_coupling : (z : Site) (asked : ℕ) (v w : Known) (half loaded : View) (own other : ℤ) (step : Step)
    → Loads v.view z.cpu own half → Loads half asked other loaded → Raises loaded step w.view → step ≡ coupling_step v.view z.call z.cpu asked own other step.old
    → w.epoch ≡ v.epoch → w.time ≡ v.time → ShowsCoupling z asked v own other step w
shows_coupling z asked v w half loaded own other step one two raises is epoch time = record {
  loaded = loaded;
  loads = record { half = half; first = one; second = two };
  raises = raises;
  step_is = is;
  epoch_is = epoch;
  time_is = time;
  mine_is = ap (λ (u : View). u.mine) raises.makes.view_is ∙ ap (λ ss. ss ++ step ∷ []) (ap (λ (u : View). u.mine) two.view_is ∙ ap (λ (u : View). u.mine) one.view_is);
  seen_is = all_seen;
  loads_is = all_loads;
  pairs_is = ap (λ (u : View). u.pairs) raises.makes.view_is ∙ ap (λ (u : View). u.pairs) two.view_is ∙ ap (λ (u : View). u.pairs) one.view_is;
  named = subst (NamesHeld v.view.start loaded.seen) (sym (ap (λ (s : Step). s.why) is)) (named_by v.view.start loaded.seen (is_lower other own) z.cpu asked own other held_own held_other);
  own_not_below = subst (λ x. IsNotBelow x (shown_on z.cpu v.view)) (shown_now v.view half z.cpu own one) (grown v.view half one.between z.cpu start_half (ap (λ (u : View). u.seen) one.view_is) one.good);
  other_not_below = subst (λ x. IsNotBelow x (shown_on asked v.view)) (shown_now half loaded asked other two) (grown v.view loaded (one.between ++ two.between) asked start_loaded seen_loaded two.good);
  old_not_below = old_by (is_lower other own) (ap (λ (s : Step). s.word) is);
  rises = subst (λ x. IsNotBelow x step.old) (sym (ap (λ (s : Step). s.new) is)) (raise_rises step.old (higher_value own other));
  new_not_below = subst (λ x. IsNotBelow x (shown_on step.word v.view)) (shown_after loaded w.view step raises)
      (grown v.view w.view ((one.between ++ two.between ++ raises.makes.between) ++ step ∷ []) step.word start_after (all_seen ∙ append_assoc v.view.seen _ (step ∷ [])) raises.makes.good);
}
  where
    start_half : half.start ≡ v.view.start
    start_half = ap (λ (u : View). u.start) one.view_is

    start_loaded : loaded.start ≡ v.view.start
    start_loaded = ap (λ (u : View). u.start) two.view_is ∙ start_half

    start_after : w.view.start ≡ v.view.start
    start_after = ap (λ (u : View). u.start) raises.makes.view_is ∙ start_loaded

    seen_loaded : loaded.seen ≡ v.view.seen ++ (one.between ++ two.between)
    seen_loaded = ap (λ (u : View). u.seen) two.view_is ∙ ap (λ ss. ss ++ two.between) (ap (λ (u : View). u.seen) one.view_is) ∙ append_assoc v.view.seen one.between two.between

    all_seen : w.view.seen ≡ (v.view.seen ++ (one.between ++ two.between ++ raises.makes.between)) ++ step ∷ []
    all_seen =
        ap (λ (u : View). u.seen) raises.makes.view_is
        ∙ ap (λ ss. (ss ++ raises.makes.between) ++ step ∷ []) seen_loaded
        ∙ ap (λ ss. ss ++ step ∷ []) (append_assoc v.view.seen (one.between ++ two.between) raises.makes.between)

    all_loads : w.view.loads ≡ v.view.loads ++ (record { of = Clock z.cpu; value = own }) ∷ (record { of = Clock asked; value = other }) ∷ []
    all_loads =
        let first : Load = record { of = Clock z.cpu; value = own } in
        let second : Load = record { of = Clock asked; value = other } in
        ap (λ (u : View). u.loads) raises.makes.view_is
        ∙ ap (λ (u : View). u.loads) two.view_is
        ∙ ap (λ ls. ls ++ second ∷ []) (ap (λ (u : View). u.loads) one.view_is)
        ∙ append_assoc v.view.loads (first ∷ []) (second ∷ [])

    held_own : NamesHeld v.view.start loaded.seen (Couple z.cpu own)
    held_own =
        subst (λ ss. NamesHeld v.view.start ss (Couple z.cpu own)) (sym (ap (λ (u : View). u.seen) two.view_is))
        (had_more v.view.start half.seen two.between z.cpu own (had_here v.view.start half.seen z.cpu own one.value_is))

    held_other : NamesHeld v.view.start loaded.seen (Couple asked other)
    held_other = had_here v.view.start loaded.seen asked other (subst (λ (s : Start). value_after (opens_at s) asked loaded.seen ≡ other) start_half two.value_is)

    old_asked : step.word ≡ asked → IsNotBelow step.old other
    old_asked e =
        subst (IsNotBelow step.old) (ap (λ k. shown_on k loaded) e ∙ shown_now half loaded asked other two) (found_over loaded loaded w.view [] step refl (sym (append-nil loaded.seen)) raises)

    old_own : step.word ≡ z.cpu → IsNotBelow step.old own
    old_own e =
        subst (IsNotBelow step.old) (ap (λ k. shown_on k half) e ∙ shown_now v.view half z.cpu own one)
        (found_over half loaded w.view two.between step (ap (λ (u : View). u.start) two.view_is) (ap (λ (u : View). u.seen) two.view_is) raises)

    old_by : (t : Bool) → step.word ≡ cond t asked z.cpu → IsNotBelow step.old (cond t other own)
    old_by true e = old_asked e
    old_by false e = old_own e

-- a local reading and then a coupling
pub shows_remote : (y z : Site) (asked : ℕ) (v u w : Known) (raw : RawReading) (local : Step) (own other : ℤ) (step : Step)
    → y ≡ z → ShowsReading z v (PerCpu raw local) u → ShowsCoupling y asked u own other step w → ShowsRemote z asked v (Coupled raw local own other step) w
shows_remote y z asked v u w raw local own other step same reads couples = record {
  between = reads.between;
  looks = reads.looks;
  shows = record {
    between = u;
    raises = reads.shows;
    couples = subst (λ x. ShowsCoupling x asked u own other step w) same couples;
    mine_is = couples.mine_is ∙ ap (λ ss. ss ++ step ∷ []) reads.shows.mine_is ∙ append_assoc reads.between.view.mine (local ∷ []) (step ∷ []);
  };
}
