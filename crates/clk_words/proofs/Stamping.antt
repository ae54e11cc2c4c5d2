-- Loads and stores of the stamp words keep the rule.
use Rattle.std.proofs.Common.{◌≡◌, ◌≢◌, ℕ, ◌+◌, ◌*◌, ◌<◌, ◌≤◌, ℤ, true, true≢false, List, [], ◌∷◌, ◌++◌, length, get_or, set, Some, None, refl, sym, ap, ◌∙◌, subst, inl, inr, ⊎_elim, arith, length-set, length-append}
use mathlib.Core.Option.{some, none}
use mathlib.Core.Logic.{dite}
use native.Mathlib.Decide.{ℕ_discrete}
use lib.ListN.{get_elem?}
use Rattle.atomic_table.specs.Table.{State, Me, keeps, step, Allows}
use Rattle.clk_num.specs.Wrapping.{IsBitsOf}
use Rattle.clk_record.specs.declared.step.Step.{Step}
use Rattle.clk_words.specs.declared.opening.Start.{Start}
use Rattle.clk_words.specs.declared.view.View.{View}
use Rattle.clk_words.specs.declared.view.Part.{Part}
use Rattle.clk_words.specs.declared.view.Name.{Name}
use Rattle.clk_words.specs.declared.view.Name.TheVariants.{Gtod, Raw}
use Rattle.clk_words.specs.Kinds.{cpu_of}
use Rattle.clk_words.specs.Histories.{opens_at}
use Rattle.clk_words.specs.Bounds.{IsGtod, IsRaw}
use Rattle.clk_words.specs.Parts.{gtod_of, raw_of, part_of, put_part, last_from}
use Rattle.clk_words.specs.Rights.{has_number}
use Rattle.clk_words.specs.WordsRule.{Chain, last_of, Knows, Kept}
use Rattle.clk_words.specs.Told.{Finds, stamped, LoadedGtod, LoadedRaw, StoredGtod, StoredRaw}
use Rattle.clk_words.proofs.Changing.{changed}
use Rattle.clk_words.proofs.Fronts.{begins_self, begins_none, begins_length}
use Rattle.clk_words.proofs.Places.{set_same}
use Rattle.clk_words.proofs.Registers.{put_here, last_more}
use Rattle.clk_words.proofs.Clocks.{fits_seen, clocks_view, clocks_words}
use Rattle.clk_words.proofs.Pairs.{found_part, pairs_load, grown_chain, later_chain, later_here, later_else, IsRegisterOf, pairs_store}
use Rattle.clk_words.proofs.Modes.{modes_view, modes_word}

-- the view after a load of the register r
abbrev found_view : View → ℕ → Name → ℤ → Chain → List ℤ → View
found_view v r name x c more = record v {
  pairs = record { parts = put_part v.pairs.parts r (found_part c (part_of v.pairs.parts r) more); owns = v.pairs.owns; told = v.pairs.told };
  loads = v.loads ++ (record { of = name; value = x }) ∷ [];
}

keeps_load : (start : Start) (s : State Step View) (id i r : ℕ) (v : View) (name : Name) (x : ℤ) (more : List ℤ) → (kept : Kept start s)
    → get_elem? s.views id ≡ some v → v.live ≡ true → kept.percpu ≡ true → (kept.chain r).after ≡ (part_of v.pairs.parts r).after ++ more
    → Kept start (record { words = set s.words i (get_or s.words i 0); homes = s.homes; views = set s.views id (found_view v r name x (kept.chain r) more) })
keeps_load start s id i r v name x more kept at live percpu all =
    let w = found_view v r name x (kept.chain r) more in
    let fits = kept.clocks.each id v at live in
    subst (λ ws. Kept start (record { words = ws; homes = s.homes; views = set s.views id w })) (sym (set_same s.words i))
    (changed start s _ kept.chain kept.offset kept refl
    (λ stable. absurd (true≢false (sym percpu ∙ stable)))
    (λ stable. absurd (true≢false (sym percpu ∙ stable)))
    (clocks_view start kept.history kept.made kept.holder kept.splitter s.words s.views id w kept.clocks
    (λ alive. fits_seen start kept.history kept.made kept.holder kept.splitter id v v.seen w.loads w.pairs fits (begins_self v.seen) fits.front))
    (pairs_load start.cpus (opens_at start) kept.chain kept.writer s.words s.views id r v w kept.pairs at more all refl)
    (modes_view start kept.percpu kept.offset kept.watcher s.words s.views id v w kept.modes at refl))

same_stamp : (c : Chain) (p : Part) → Knows c p → (z : ℤ) → p.zero ≡ Some z → c.zero_is ≡ z
same_stamp c p knows z e = ⊎_elim (λ (h : p.zero ≡ None). absurd (cc)) (λ (h : p.zero ≡ Some c.zero_is). cc) knows.zero_is

finds_of : (v : View) (r : ℕ) (name : Name) (c : Chain) (more : List ℤ) → Knows c (part_of v.pairs.parts r) → c.after ≡ (part_of v.pairs.parts r).after ++ more
    → Finds v r name (last_of c) (found_view v r name (last_of c) c more)
finds_of v r name c more knows all = record {
  stamp = c.zero_is;
  more = more;
  view_is = refl;
  same = same_stamp c (part_of v.pairs.parts r) knows;
  last_is = ap (last_from c.zero_is) (sym all);
}

none_more : (xs ys more : List ℤ) → ys ≡ xs ++ more → xs ≡ ys → more ≡ []
none_more xs ys more e f = begins_none xs more (sym e ∙ sym f)

pub finds_gtod : (start : Start) (slots id : ℕ) (me : Me Step View) → me.0.live ≡ true → me.0.modes.found ≡ true → cpu_of me.0.kind < start.cpus
    → Allows (Kept start) slots id me (start.cpus + gtod_of (cpu_of me.0.kind)) (λ n. n) (LoadedGtod (step slots (start.cpus + gtod_of (cpu_of me.0.kind)) 0 0 none) me)
unfolding finds_of
finds_gtod start slots id me live found low s kept homes at small =
    let v = me.0 in
    let cpu = cpu_of v.kind in
    let r = gtod_of cpu in
    let c = kept.chain r in
    let fits = kept.pairs.each id v at in
    let knows = fits.known r in
    let more = knows.after.rest in
    let all : c.after ≡ (part_of v.pairs.parts r).after ++ more = knows.after.is in
    let x = last_of c in
    let w = found_view v r (Gtod cpu) x c more in
    let behind : length (part_of v.pairs.parts (raw_of cpu)).after ≤ length (kept.chain (raw_of cpu)).after =
    begins_length (part_of v.pairs.parts (raw_of cpu)).after (kept.chain (raw_of cpu)).after (fits.known (raw_of cpu)).after in
    let ahead = kept.pairs.ahead cpu in
    let now : length (part_of w.pairs.parts r).after ≡ length c.after = rw (put_here v.pairs.parts r (found_part c (part_of v.pairs.parts r) more)) (ap length (sym all)) in (
      w,
      keeps,
      tt,
      keeps_load start s id (start.cpus + r) r v (Gtod cpu) x more kept at live ((kept.modes.each id v at).found_is found) all,
      record {
        value = x;
        word_is = kept.pairs.lasts r (omega arith);
        finds = record {
          finds = finds_of v r (Gtod cpu) c more knows all;
          half = omega arith;
          whole = λ own. none_more (part_of v.pairs.parts r).after c.after more all (fits.gtods cpu own);
          range = kept.pairs.gtods cpu;
        };
        slots_kept = refl;
      },
    )

pub finds_raw : (start : Start) (slots id : ℕ) (me : Me Step View) → me.0.live ≡ true → me.0.modes.found ≡ true → cpu_of me.0.kind < start.cpus
    → Allows (Kept start) slots id me (start.cpus + raw_of (cpu_of me.0.kind)) (λ n. n) (LoadedRaw (step slots (start.cpus + raw_of (cpu_of me.0.kind)) 0 0 none) me)
unfolding finds_of
finds_raw start slots id me live found low s kept homes at small =
    let v = me.0 in
    let cpu = cpu_of v.kind in
    let r = raw_of cpu in
    let c = kept.chain r in
    let fits = kept.pairs.each id v at in
    let knows = fits.known r in
    let more = knows.after.rest in
    let all : c.after ≡ (part_of v.pairs.parts r).after ++ more = knows.after.is in
    let x = last_of c in (
      found_view v r (Raw cpu) x c more,
      keeps,
      tt,
      keeps_load start s id (start.cpus + r) r v (Raw cpu) x more kept at live ((kept.modes.each id v at).found_is found) all,
      record {
        value = x;
        word_is = kept.pairs.lasts r (omega arith);
        finds = record {
          finds = finds_of v r (Raw cpu) c more knows all;
          whole = λ own. none_more (part_of v.pairs.parts r).after c.after more all (fits.raws cpu own);
          range = subst (λ (o : Start). IsRaw (opens_at o) x) (sym (kept.clocks.each id v at live).start_is) (kept.pairs.raws cpu);
        };
        slots_kept = refl;
      },
    )

-- the owner's stores
keeps_store : (start : Start) (s : State Step View) (id r cpu n : ℕ) (x : ℤ) (v : View) → (kept : Kept start s)
    → get_elem? s.views id ≡ some v → v.live ≡ true → kept.percpu ≡ true → has_number v.pairs.owns cpu ≡ true → cpu < start.cpus → IsRegisterOf r cpu → IsBitsOf x n
    → (part_of v.pairs.parts r).after ≡ (kept.chain r).after
    → ((c : ℕ) → length (later_chain kept.chain r x (raw_of c)).after ≤ length (later_chain kept.chain r x (gtod_of c)).after)
    → ((c : ℕ) → length (later_chain kept.chain r x (gtod_of c)).after ≤ length (later_chain kept.chain r x (raw_of c)).after + 1)
    → ((c : ℕ) → IsGtod (last_of (later_chain kept.chain r x (gtod_of c)))) → ((c : ℕ) → IsRaw (opens_at start) (last_of (later_chain kept.chain r x (raw_of c))))
    → Kept start (record { words = set s.words (start.cpus + r) n; homes = s.homes; views = set s.views id (stamped r x v) })
keeps_store start s id r cpu n x v kept at live percpu own low reg word whole ahead close gtods raws =
    let w = stamped r x v in
    let fits = kept.clocks.each id v at live in
    let within : r < 2 * start.cpus = ⊎_elim (λ (e : r ≡ gtod_of cpu). omega arith) (λ (e : r ≡ raw_of cpu). omega arith) reg.either in
    changed start s _ (later_chain kept.chain r x) kept.offset kept (length-set s.words (start.cpus + r) n)
    (λ stable. absurd (true≢false (sym percpu ∙ stable)))
    (λ stable. absurd (true≢false (sym percpu ∙ stable)))
    (clocks_view start kept.history kept.made kept.holder kept.splitter (set s.words (start.cpus + r) n) s.views id w
    (clocks_words start kept.history kept.made kept.holder kept.splitter s.words s.views (start.cpus + r) n (omega arith) kept.clocks)
    (λ alive. fits_seen start kept.history kept.made kept.holder kept.splitter id v v.seen v.loads w.pairs fits (begins_self v.seen) fits.front))
    (pairs_store start.cpus (opens_at start) kept.chain kept.writer s.words s.views id r cpu n x v w kept.pairs at own reg (omega (arith, kept.wide)) word whole ahead close gtods raws refl)
    (modes_view start kept.percpu kept.offset kept.watcher (set s.words (start.cpus + r) n) s.views id v w
    (modes_word start kept.percpu kept.offset kept.watcher s.words s.views (start.cpus + r) n (omega arith) kept.modes) at refl)

after_grown : (c : Chain) (x : ℤ) → length (grown_chain c x).after ≡ length c.after + 1
after_grown c x = length-append c.after (x ∷ [])

-- the chain of a register after a store to another, and to itself
last_at : (P : ℤ → Type 0) (chain : ℕ → Chain) (r k : ℕ) (x : ℤ) → P x → P (last_of (chain k)) → P (last_of (later_chain chain r x k))
last_at P chain r k x new old = dite (ℕ_discrete k r)
    (λ e. subst (λ i. P (last_of (later_chain chain r x i))) (sym e) (rw (later_here chain r x, last_more (chain r).zero_is x (chain r).after) new))
    (λ ne. rw (later_else chain r k x ne) old)

last_else : (P : ℤ → Type 0) (chain : ℕ → Chain) (r k : ℕ) (x : ℤ) → k ≢ r → P (last_of (chain k)) → P (last_of (later_chain chain r x k))
last_else P chain r k x ne old = rw (later_else chain r k x ne) old

pub stores_gtod : (start : Start) (slots id n : ℕ) (me : Me Step View) (x : ℤ) → me.0.live ≡ true → me.0.modes.found ≡ true → cpu_of me.0.kind < start.cpus
    → has_number me.0.pairs.owns (cpu_of me.0.kind) ≡ true → IsBitsOf x n → IsGtod x
    → length (part_of me.0.pairs.parts (gtod_of (cpu_of me.0.kind))).after ≡ length (part_of me.0.pairs.parts (raw_of (cpu_of me.0.kind))).after
    → Allows (Kept start) slots id me (start.cpus + gtod_of (cpu_of me.0.kind)) (λ _. n)
    (λ _. StoredGtod (step slots (start.cpus + gtod_of (cpu_of me.0.kind)) n 0 none) me n)
stores_gtod start slots id n me x live found low own word bound turn s kept homes at small =
    let v = me.0 in
    let cpu = cpu_of v.kind in
    let r = gtod_of cpu in
    let fits = kept.pairs.each id v at in
    let gtods = ap length (fits.gtods cpu own) in
    let raws = ap length (fits.raws cpu own) in (
      stamped r x v,
      keeps,
      tt,
      keeps_store start s id r cpu n x v kept at live ((kept.modes.each id v at).found_is found) own low (record { either = inl refl }) word (fits.gtods cpu own)
          (λ c. let apart : raw_of c ≢ r = λ h. omega arith in
          dite (ℕ_discrete (gtod_of c) r)
          (λ e. subst (λ i. length (later_chain kept.chain r x (raw_of c)).after ≤ length (later_chain kept.chain r x i).after) (sym e)
          (rw (later_else kept.chain r (raw_of c) x apart, later_here kept.chain r x)
          (let long = after_grown (kept.chain r) x in let was = kept.pairs.ahead c in let same = ap (λ i. length (kept.chain i).after) e in omega arith)))
          (λ ne. rw (later_else kept.chain r (raw_of c) x apart, later_else kept.chain r (gtod_of c) x ne) (kept.pairs.ahead c)))
          (λ c. dite (ℕ_discrete (gtod_of c) r)
          (λ e.
          let same : c ≡ cpu = omega arith in
          subst (λ i. length (later_chain kept.chain r x (gtod_of i)).after ≤ length (later_chain kept.chain r x (raw_of i)).after + 1) (sym same)
          (let away : raw_of cpu ≢ r = λ h. omega arith in
          rw (later_here kept.chain r x, later_else kept.chain r (raw_of cpu) x away)
          (let long = after_grown (kept.chain r) x in omega arith)))
          (λ ne. let apart : raw_of c ≢ r = λ h. omega arith in
          rw (later_else kept.chain r (gtod_of c) x ne, later_else kept.chain r (raw_of c) x apart) (kept.pairs.close c)))
          (λ c. last_at IsGtod kept.chain r (gtod_of c) x bound (kept.pairs.gtods c))
          (λ c. last_else (IsRaw (opens_at start)) kept.chain r (raw_of c) x (λ h. omega arith) (kept.pairs.raws c)),
      record { value = x; word_is = word; is = refl },
    )

pub stores_raw : (start : Start) (slots id n : ℕ) (me : Me Step View) (x : ℤ) → me.0.live ≡ true → me.0.modes.found ≡ true → cpu_of me.0.kind < start.cpus
    → has_number me.0.pairs.owns (cpu_of me.0.kind) ≡ true → IsBitsOf x n → IsRaw (opens_at start) x
    → length (part_of me.0.pairs.parts (gtod_of (cpu_of me.0.kind))).after ≡ length (part_of me.0.pairs.parts (raw_of (cpu_of me.0.kind))).after + 1
    → Allows (Kept start) slots id me (start.cpus + raw_of (cpu_of me.0.kind)) (λ _. n)
    (λ _. StoredRaw (step slots (start.cpus + raw_of (cpu_of me.0.kind)) n 0 none) me n)
stores_raw start slots id n me x live found low own word bound turn s kept homes at small =
    let v = me.0 in
    let cpu = cpu_of v.kind in
    let r = raw_of cpu in
    let fits = kept.pairs.each id v at in
    let gtods = ap length (fits.gtods cpu own) in
    let raws = ap length (fits.raws cpu own) in (
      stamped r x v,
      keeps,
      tt,
      keeps_store start s id r cpu n x v kept at live ((kept.modes.each id v at).found_is found) own low (record { either = inr refl }) word (fits.raws cpu own)
          (λ c. let apart : gtod_of c ≢ r = λ h. omega arith in
          dite (ℕ_discrete (raw_of c) r)
          (λ e.
          let same : c ≡ cpu = omega arith in
          subst (λ i. length (later_chain kept.chain r x (raw_of i)).after ≤ length (later_chain kept.chain r x (gtod_of i)).after) (sym same)
          (let away : gtod_of cpu ≢ r = λ h. omega arith in
          rw (later_here kept.chain r x, later_else kept.chain r (gtod_of cpu) x away)
          (let long = after_grown (kept.chain r) x in omega arith)))
          (λ ne. rw (later_else kept.chain r (gtod_of c) x apart, later_else kept.chain r (raw_of c) x ne) (kept.pairs.ahead c)))
          (λ c. let apart : gtod_of c ≢ r = λ h. omega arith in
          dite (ℕ_discrete (raw_of c) r)
          (λ e. subst (λ i. length (later_chain kept.chain r x (gtod_of c)).after ≤ length (later_chain kept.chain r x i).after + 1) (sym e)
          (rw (later_here kept.chain r x, later_else kept.chain r (gtod_of c) x apart)
          (let long = after_grown (kept.chain r) x in let was = kept.pairs.close c in let same = ap (λ i. length (kept.chain i).after) e in omega arith)))
          (λ ne. rw (later_else kept.chain r (gtod_of c) x apart, later_else kept.chain r (raw_of c) x ne) (kept.pairs.close c)))
          (λ c. last_else IsGtod kept.chain r (gtod_of c) x (λ h. omega arith) (kept.pairs.gtods c))
          (λ c. last_at (IsRaw (opens_at start)) kept.chain r (raw_of c) x bound (kept.pairs.raws c)),
      record { value = x; word_is = word; is = refl },
    )

-- the same at a place that is known by an equation
pub finds_gtod_at : (start : Start) (slots id word : ℕ) (me : Me Step View) → word ≡ start.cpus + gtod_of (cpu_of me.0.kind) → me.0.live ≡ true → me.0.modes.found ≡ true → cpu_of me.0.kind < start.cpus
    → Allows (Kept start) slots id me word (λ n. n) (LoadedGtod (step slots word 0 0 none) me)
finds_gtod_at start slots id word me e live found low =
    subst (λ i. Allows (Kept start) slots id me i (λ n. n) (LoadedGtod (step slots i 0 0 none) me)) (sym e) (finds_gtod start slots id me live found low)

pub finds_raw_at : (start : Start) (slots id word : ℕ) (me : Me Step View) → word ≡ start.cpus + raw_of (cpu_of me.0.kind) → me.0.live ≡ true → me.0.modes.found ≡ true → cpu_of me.0.kind < start.cpus
    → Allows (Kept start) slots id me word (λ n. n) (LoadedRaw (step slots word 0 0 none) me)
finds_raw_at start slots id word me e live found low =
    subst (λ i. Allows (Kept start) slots id me i (λ n. n) (LoadedRaw (step slots i 0 0 none) me)) (sym e) (finds_raw start slots id me live found low)

pub stores_gtod_at : (start : Start) (slots id word n : ℕ) (me : Me Step View) (x : ℤ) → word ≡ start.cpus + gtod_of (cpu_of me.0.kind) → me.0.live ≡ true → me.0.modes.found ≡ true → cpu_of me.0.kind < start.cpus
    → has_number me.0.pairs.owns (cpu_of me.0.kind) ≡ true → IsBitsOf x n → IsGtod x
    → length (part_of me.0.pairs.parts (gtod_of (cpu_of me.0.kind))).after ≡ length (part_of me.0.pairs.parts (raw_of (cpu_of me.0.kind))).after
    → Allows (Kept start) slots id me word (λ _. n) (λ _. StoredGtod (step slots word n 0 none) me n)
stores_gtod_at start slots id word n me x e live found low own is bound turn =
    subst (λ i. Allows (Kept start) slots id me i (λ _. n) (λ _. StoredGtod (step slots i n 0 none) me n)) (sym e) (stores_gtod start slots id n me x live found low own is bound turn)

pub stores_raw_at : (start : Start) (slots id word n : ℕ) (me : Me Step View) (x : ℤ) → word ≡ start.cpus + raw_of (cpu_of me.0.kind) → me.0.live ≡ true → me.0.modes.found ≡ true → cpu_of me.0.kind < start.cpus
    → has_number me.0.pairs.owns (cpu_of me.0.kind) ≡ true → IsBitsOf x n → IsRaw (opens_at start) x
    → length (part_of me.0.pairs.parts (gtod_of (cpu_of me.0.kind))).after ≡ length (part_of me.0.pairs.parts (raw_of (cpu_of me.0.kind))).after + 1
    → Allows (Kept start) slots id me word (λ _. n) (λ _. StoredRaw (step slots word n 0 none) me n)
stores_raw_at start slots id word n me x e live found low own is bound turn =
    subst (λ i. Allows (Kept start) slots id me i (λ _. n) (λ _. StoredRaw (step slots i n 0 none) me n)) (sym e) (stores_raw start slots id n me x live found low own is bound turn)
