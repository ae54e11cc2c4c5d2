-- The rule holds of new words and their first seat.
use Rattle.std.proofs.Common.{◌≡◌, ℕ, zero, suc, ◌+◌, ◌*◌, ◌/◌, ◌%◌, ◌<◌, ◌≤◌, ◌⊎◌, ℤ, Bool, true, false, IsTrue, Option, None, cond, List, [], ◌∷◌, get_or, nat_eq, Some, refl, sym, ap, subst, inl, inr, ⊎_elim, arith, eq-eqb, ne_eqb, true≢false, ◌∙◌}
use Rattle.std.proofs.lemmas.List.Elements.{All-nil, All-cons}
use mathlib.Core.Option.{some, some-injective, some-ne-none}
use mathlib.Core.Logic.{dite}
use native.Mathlib.Decide.{ℕ_discrete}
use lib.ListN.{get_elem?}
use Rattle.atomic_table.specs.Table.{opening}
use Rattle.clk_num.specs.Wrapping.{IsBitsOf}
use Rattle.clk_record.specs.declared.step.Step.{Step}
use Rattle.clk_words.specs.declared.opening.Opening.{Opening}
use Rattle.clk_words.specs.declared.opening.Start.{Start}
use Rattle.clk_words.specs.declared.view.View.{View}
use Rattle.clk_words.specs.declared.view.Part.{Part}
use Rattle.clk_words.specs.Fronts.{Begins}
use Rattle.clk_words.specs.Histories.{opens_at, is_lift}
use Rattle.clk_words.specs.Bounds.{IsOpening}
use Rattle.clk_words.specs.Parts.{gtod_of, raw_of, part_of, PartBegins}
use Rattle.clk_words.specs.Rights.{has_number}
use Rattle.clk_words.specs.Views.{is_percpu, pairs_known, first_view}
use Rattle.clk_words.specs.WordsRule.{IsOwn, Fits, HistoryPart, Chain, Knows, FitsPairs, PairPart, FitsModes, ModePart, Kept}
use Rattle.clk_words.specs.FirstWords.{AreFirst}
use Rattle.clk_words.proofs.Fronts.{begins_self}
use Rattle.clk_words.proofs.Replay.{opening_range, offset_range}

-- the only view
only : (w u : View) (j : ℕ) → get_elem? (w ∷ []) j ≡ some u → (j ≡ 0) × (w ≡ u)
only w u zero e = (refl, some-injective w u e)
only w u (suc j) e = absurd (some-ne-none u (sym e))

only_one : (P : ℕ → View → Type 0) (w : View) → P 0 w → (j : ℕ) (u : View) → get_elem? (w ∷ []) j ≡ some u → P j u
only_one P w here j u e = let is = only w u j e in subst (λ k. P k u) (sym is.0) (subst (P 0) is.1 here)

-- the value of a register at first: even ones are GTODs
abbrev first_value : Opening → ℕ → ℤ
first_value o r = cond (nat_eq (r % 2) 0) o.tick_gtod o.tick_raw

first_gtod : (o : Opening) (c : ℕ) → first_value o (2 * c) ≡ o.tick_gtod
first_gtod o c = let even : nat_eq ((2 * c) % 2) 0 ≡ true = eq-eqb ((2 * c) % 2) 0 (omega arith) in rw even refl

first_raw : (o : Opening) (c : ℕ) → first_value o (2 * c + 1) ≡ o.tick_raw
first_raw o c = let odd : nat_eq ((2 * c + 1) % 2) 0 ≡ false = ne_eqb ((2 * c + 1) % 2) 0 (λ h. omega arith) in rw odd refl

two_on : (o : Opening) (r : ℕ) → first_value o (suc (suc r)) ≡ first_value o r
two_on o r = let e : suc (suc r) % 2 ≡ r % 2 = omega arith in ap (λ k. cond (nat_eq k 0) o.tick_gtod o.tick_raw) e

first_knows : (n r : ℕ) (o : Opening) → Knows (record { zero_is = first_value o r; after = [] }) (part_of (pairs_known n o) r)
first_knows zero r o = record { zero_is = inl refl; after = begins_self [] }
first_knows (suc n) zero o = record { zero_is = inr (ap Some (sym (first_gtod o 0))); after = begins_self [] }
first_knows (suc n) (suc zero) o = record { zero_is = inr (ap Some (sym (first_raw o 0))); after = begins_self [] }
first_knows (suc n) (suc (suc r)) o =
    subst (λ (x : ℤ). Knows (record { zero_is = x; after = [] }) (part_of (pairs_known n o) r)) (sym (two_on o r)) (first_knows n r o)

first_after : (n r : ℕ) (o : Opening) → (part_of (pairs_known n o) r).after ≡ []
first_after zero r o = refl
first_after (suc n) zero o = refl
first_after (suc n) (suc zero) o = refl
first_after (suc n) (suc (suc r)) o = first_after n r o

half_of : (r : ℕ) → (r ≡ 2 * (r / 2)) ⊎ (r ≡ 2 * (r / 2) + 1)
half_of r = dite (ℕ_discrete r (2 * (r / 2))) (λ e. inl e) (λ n. inr (omega arith))

count_one : (n : ℕ) (b : List Step) → Rattle.clk_words.proofs.Places.times n ((0, b) ∷ []) ≤ 1
count_one n b =
    dite (ℕ_discrete 0 n)
    (λ e. let t = eq-eqb 0 n e in rw t (omega arith))
    (λ k. let t = ne_eqb 0 n k in rw t (omega arith))

starts_clocks : (start : Start) (ws : List ℕ) → AreFirst start ws → HistoryPart start [] 1 (λ _. 0) 0 ws (first_view start ∷ [])
starts_clocks start ws first = record {
  legal = tt;
  made_by = All-nil (λ (s : Step). s.by < 1);
  clocks = first.clocks;
  range = λ w. opening_range start;
  each = only_one (λ j u. u.live ≡ true → Fits start [] 1 (λ _. 0) 0 j u) (first_view start) (λ live. record {
    start_is = refl;
    front = begins_self [];
    lists = All-cons (λ (own : ℕ × List Step). IsOwn [] 1 (λ _. 0) 0 [] own.0 own.1) (0, []) []
        (record { was_made = omega arith; held = refl; in_history = refl; in_front = refl })
        (All-nil (λ (own : ℕ × List Step). IsOwn [] 1 (λ _. 0) 0 [] own.0 own.1));
    single = λ n. count_one n [];
    splits = λ may. (refl, refl);
    told_is = All-nil (λ (front : List Step). Begins front []);
  });
}

-- what the first seat knows of the pairs: in a stable start nothing
start_knows : (start : Start) (r : ℕ) (b : Bool)
    → Knows (record { zero_is = first_value start.opening r; after = [] }) (part_of (cond b (pairs_known start.cpus start.opening) []) r)
start_knows start r true = first_knows start.cpus r start.opening
start_knows start r false = record { zero_is = inl refl; after = begins_self [] }

start_after : (start : Start) (r : ℕ) (b : Bool) → (part_of (cond b (pairs_known start.cpus start.opening) []) r).after ≡ []
start_after start r true = first_after start.cpus r start.opening
start_after start r false = refl

start_hidden : (start : Start) (b : Bool) → b ≡ false → (r : ℕ) → (part_of (cond b (pairs_known start.cpus start.opening) []) r).zero ≡ None
start_hidden start true e r = absurd (true≢false e)
start_hidden start false e r = refl

starts_pairs : (start : Start) (ws : List ℕ) → IsOpening start.opening → AreFirst start ws
    → PairPart start.cpus (opens_at start) (λ r. record { zero_is = first_value start.opening r; after = [] }) (λ _. 0) ws (first_view start ∷ [])
starts_pairs start ws bounds first =
    let chain : ℕ → Chain = λ r. record { zero_is = first_value start.opening r; after = [] } in
    let percpu = is_percpu start.opening.mode in
    record {
      lasts = λ r low. ⊎_elim
          (λ (e : r ≡ 2 * (r / 2)). subst (λ k. IsBitsOf (first_value start.opening k) (get_or ws (start.cpus + k) 0)) (sym e)
          (rw (first_gtod start.opening (r / 2)) (first.gtods (r / 2) (omega arith))))
          (λ (e : r ≡ 2 * (r / 2) + 1). subst (λ k. IsBitsOf (first_value start.opening k) (get_or ws (start.cpus + k) 0)) (sym e)
          (rw (first_raw start.opening (r / 2)) (first.raws (r / 2) (omega arith))))
          (half_of r);
      ahead = λ c. omega arith;
      close = λ c. omega arith;
      gtods = λ c. rw (first_gtod start.opening c) bounds.gtod;
      raws = λ c. rw (first_raw start.opening c) bounds.raw;
      writers = only_one (λ j u. (c : ℕ) → has_number u.pairs.owns c ≡ true → 0 ≡ j) (first_view start) (λ c own. refl);
      each = only_one (λ j u. FitsPairs chain u.pairs) (first_view start) (record {
        known = λ r. start_knows start r percpu;
        gtods = λ c own. start_after start (gtod_of c) percpu;
        raws = λ c own. start_after start (raw_of c) percpu;
        told_is = All-nil (λ (told : List Part). (r : ℕ) → PartBegins (part_of told r) (part_of (first_view start).pairs.parts r));
      });
    }

start_offset : (x : ℤ) (b : Bool) → (cond b (Some x) None ≡ None) ⊎ (cond b (Some x) None ≡ Some x)
start_offset x true = inr refl
start_offset x false = inl refl

no_offset : (x : ℤ) (b : Bool) → b ≡ false → cond b (Some x) None ≡ None
no_offset x true e = absurd (true≢false e)
no_offset x false e = refl

starts_modes : (start : Start) (ws : List ℕ) → IsOpening start.opening → AreFirst start ws
    → ModePart start (is_percpu start.opening.mode) start.opening.offset 0 ws (first_view start ∷ [])
starts_modes start ws bounds first =
    let percpu = is_percpu start.opening.mode in
    record {
      mode_word = first.mode;
      offset_word = first.offset;
      range = offset_range start.opening bounds;
      fixed = λ e. (ap is_percpu e, refl);
      each = only_one (λ j u. FitsModes (is_percpu start.opening.mode) start.opening.offset 0 j u.modes) (first_view start)
          (record {
            found_is = λ h. h;
            offset_is = start_offset start.opening.offset percpu;
            watches = λ h. refl;
            knows = λ h. refl;
            hidden = no_offset start.opening.offset percpu;
            held_is = λ h. refl;
            told_is = All-nil (λ (seen : Option ℤ). (seen ≡ None) ⊎ (seen ≡ (first_view start).modes.offset));
          });
    }

pub starts : (start : Start) (ws : List ℕ) → IsOpening start.opening → AreFirst start ws
    → Kept start (opening ws [] (first_view start))
starts start ws bounds first = record {
  history = [];
  made = 1;
  holder = λ _. 0;
  splitter = 0;
  chain = λ r. record { zero_is = first_value start.opening r; after = [] };
  writer = λ _. 0;
  percpu = is_percpu start.opening.mode;
  offset = start.opening.offset;
  watcher = 0;
  wide = first.wide;
  lifts_first = λ stable. All-nil (λ (t : Step). IsTrue (is_lift t.why));
  lifted = λ e stable. absurd (true≢false (sym e ∙ ap is_percpu stable));
  whole = λ stable. only_one (λ j u. u.modes.watch ≡ true → u.seen ≡ []) (first_view start) (λ h. refl);
  quiet = λ stable. record {
    bare = λ r. refl;
    unknown = only_one (λ j u. (r : ℕ) → (part_of u.pairs.parts r).zero ≡ None) (first_view start) (start_hidden start (is_percpu start.opening.mode) stable);
    cloned = only_one (λ j u. u.modes.watch ≡ true → (r : ℕ) → Knows (record { zero_is = first_value start.opening r; after = [] }) (part_of u.modes.cloned r)) (first_view start)
        (λ h r. record { zero_is = inl refl; after = begins_self [] });
  };
  clocks = starts_clocks start ws first;
  pairs = starts_pairs start ws bounds first;
  modes = starts_modes start ws bounds first;
}
