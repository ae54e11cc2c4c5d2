-- The watchdog's steps keep the rule: its stores while the mode is stable, its lifts, and the store of the mode.
use Rattle.std.proofs.Common.{◌≡◌, ◌≢◌, ℕ, ◌+◌, ◌*◌, ◌<◌, ◌≤◌, ℤ, Bool, true, false, true≢false, IsTrue, All, List, [], ◌∷◌, ◌++◌, length, get_or, set, nat_eq, cond, max, Some, None, refl, sym, ap, ◌∙◌, subst, inl, inr, arith, append-nil, get_or-set_same, get_or-set_other, length-set, eq-eqb, ne_eqb}
use Rattle.std.proofs.lemmas.List.Elements.{All-nil}
use mathlib.Core.Option.{some, none}
use mathlib.Core.Logic.{dite}
use native.Mathlib.Decide.{ℕ_discrete}
use lib.ListN.{get_elem?}
use Rattle.atomic_table.specs.Table.{State, Me, keeps, step, Allows}
use Rattle.clk_num.specs.Range.{IsNear}
use Rattle.clk_num.specs.Wrapping.{IsValue, IsBitsOf, raise}
use Rattle.clk_record.specs.declared.step.Step.{Step}
use Rattle.clk_record.specs.declared.step.Why.TheVariants.{Lift}
use Rattle.clk_words.specs.declared.opening.Start.{Start}
use Rattle.clk_words.specs.declared.view.View.{View}
use Rattle.clk_words.specs.declared.view.Part.{Part}
use Rattle.clk_words.specs.Fronts.{Begins}
use Rattle.clk_words.specs.Histories.{opens_at, value_after, Follows, is_lift, has_lift}
use Rattle.clk_words.specs.Heights.{height, IsClockWord}
use Rattle.clk_words.specs.Bounds.{IsGtod, IsRaw, IsOffset}
use Rattle.clk_words.specs.Parts.{gtod_of, raw_of, part_of, put_part, PartBegins}
use Rattle.clk_words.specs.Rights.{has_number}
use Rattle.clk_words.specs.Knowing.{MayDemote, HoldsInRange, HasLifted}
use Rattle.clk_words.specs.WordsRule.{Chain, last_of, Knows, FitsPairs, PairPart, ModePart, IsQuiet, Kept}
use Rattle.clk_words.specs.Told.{offset_put, pair_cloned, published, Lifted, StoredOffset, Cloned, StoredMode}
use Rattle.clk_words.proofs.Changing.{changed}
use Rattle.clk_words.proofs.Fronts.{begins_self}
use Rattle.clk_words.proofs.Places.{placed}
use Rattle.clk_words.proofs.Registers.{put_here, put_else}
use Rattle.clk_words.proofs.Clocks.{clocks_view, clocks_words, makes_view}
use Rattle.clk_words.proofs.Pairs.{pairs_view}
use Rattle.clk_words.proofs.Modes.{modes_fit, modes_word, fits_cloned, modes_put, modes_published}
use Rattle.clk_words.proofs.Quiet.{whole_view, quiet_view}
use Rattle.clk_words.proofs.WordsSteps.{made_by, raised_word, raise_range}

-- the seat may demote: then the mode is stable
stable_is : (start : Start) (s : State Step View) (id : ℕ) (v : View) → (kept : Kept start s) → get_elem? s.views id ≡ some v → MayDemote v → kept.percpu ≡ false
stable_is start s id v kept at may = sym ((kept.modes.each id v at).knows may.watch) ∙ may.stable

-- why a word may be lifted
pub record MayLift (start : Start) (v : View) (word most : ℕ) (value : ℤ) : Type 0 where
  pub low : word < start.cpus
  pub fits : IsValue value
  pub near : IsNear 60 (height start value)
  pub most_is : IsClockWord start value most
  pub may : MayDemote v

lifts_at : (slots id word most call : ℕ) (value : ℤ) (me : Me Step View) → me.0.live ≡ true → MayLift me.0.start me.0 word most value
    → Allows (Kept me.0.start) slots id me word (λ n. max n most) (Lifted call value (step slots word most 0 none) me)
lifts_at slots id word most call value me live may s kept homes at small =
    let v = me.0 in
    let start = v.start in
    let part = kept.clocks in
    let stable = stable_is start s id v kept at may.may in
    let e : kept.history ≡ v.seen = sym (kept.whole stable id v at may.may.watch) in
    let n = get_or s.words word 0 in
    let x = value_after (opens_at start) word kept.history in
    let said : Step = record { by = v.number; call = call; word = word; why = Lift value; old = x; new = raise x value } in
    let follows : Follows start kept.history said = record {
      old_is = refl;
      new_is = refl;
      range = raise_range (opens_at start) x value (part.range word) may.fits may.near;
      names = tt;
      in_order = kept.lifts_first stable;
    } in
    let greater = raised_word start x value n most (part.range word) may.near (part.clocks word may.low) may.most_is in
    let made = made_by start s id (max n most) v said [] kept at live (e ∙ sym (append-nil v.seen)) refl may.low (λ same. (refl, may.may.watch)) follows greater in (
      makes_view v [] said,
      keeps,
      tt,
      made.kept,
      record {
        old = x;
        word_is = part.clocks word may.low;
        lifts = record {
          view_is = ap (λ (zs : List Step). record v { seen = zs ++ said ∷ []; mine = v.mine ++ said ∷ [] }) (append-nil v.seen);
          good = made.good;
          old_is = ap (value_after (opens_at start) word) e;
          range = part.range word;
          lifts = subst (λ (zs : List Step). All (λ (t : Step). IsTrue (is_lift t.why)) zs) e (kept.lifts_first stable);
        };
        slots_kept = refl;
      },
    )

pub lifts : (start : Start) (slots id word most call : ℕ) (value : ℤ) (me : Me Step View) → me.0.live ≡ true → me.0.start ≡ start → MayLift start me.0 word most value
    → Allows (Kept start) slots id me word (λ n. max n most) (Lifted call value (step slots word most 0 none) me)
lifts start slots id word most call value me live same may =
    subst (λ (o : Start). Allows (Kept o) slots id me word (λ n. max n most) (Lifted call value (step slots word most 0 none) me)) same
    (lifts_at slots id word most call value me live (subst (λ (o : Start). MayLift o me.0 word most value) (sym same) may))

-- a word behind the pairs changes
pairs_behind : (cpus : ℕ) (opens : ℤ) (chain : ℕ → Chain) (writer : ℕ → ℕ) (words : List ℕ) (views : List View) (i n : ℕ)
    → 3 * cpus ≤ i → PairPart cpus opens chain writer words views → PairPart cpus opens chain writer (set words i n) views
pairs_behind cpus opens chain writer words views i n high part = record {
  lasts = λ r small. let ne : cpus + r ≢ i = omega arith in rw (get_or-set_other words i (cpus + r) n 0 ne) (part.lasts r small);
  ahead = part.ahead;
  close = part.close;
  gtods = part.gtods;
  raws = part.raws;
  writers = part.writers;
  each = part.each;
}

-- the store of the offset
pub stores_offset : (start : Start) (slots id word n : ℕ) (me : Me Step View) (x : ℤ) → word ≡ 3 * start.cpus + 1 → me.0.live ≡ true → MayDemote me.0 → IsBitsOf x n
    → IsOffset (opens_at start) x → Allows (Kept start) slots id me word (λ _. n) (λ _. StoredOffset (step slots word n 0 none) me n)
stores_offset start slots id word n me x place live may bits range =
    subst (λ i. Allows (Kept start) slots id me i (λ _. n) (λ _. StoredOffset (step slots i n 0 none) me n)) (sym place) at_place
  where
    at_place : Allows (Kept start) slots id me (3 * start.cpus + 1) (λ _. n) (λ _. StoredOffset (step slots (3 * start.cpus + 1) n 0 none) me n)
    at_place s kept homes at small =
        let v = me.0 in
        let i = 3 * start.cpus + 1 in
        let w : View = offset_put x v in
        let fits = kept.clocks.each id v at live in
        let stable = stable_is start s id v kept at may in (
          w,
          keeps,
          tt,
          changed start s _ kept.chain x kept (length-set s.words i n)
              (λ same. whole_view kept.history s.views id w (kept.whole same) (kept.whole same id v at))
              (λ same. let rest = kept.quiet same in quiet_view kept.chain s.views id w rest (rest.unknown id v at) (rest.cloned id v at))
              (clocks_view start kept.history kept.made kept.holder kept.splitter (set s.words i n) s.views id w
              (clocks_words start kept.history kept.made kept.holder kept.splitter s.words s.views i n (omega arith) kept.clocks)
              (λ alive. record { start_is = fits.start_is; front = fits.front; lists = fits.lists; single = fits.single; splits = fits.splits; told_is = fits.told_is }))
              (pairs_view start.cpus (opens_at start) kept.chain kept.writer (set s.words i n) s.views id v w
              (pairs_behind start.cpus (opens_at start) kept.chain kept.writer s.words s.views i n (omega arith) kept.pairs) at refl)
              (modes_put start kept.percpu kept.offset kept.watcher s.words s.views id n x v w kept.modes at may.watch stable (omega (arith, kept.wide)) bits range refl),
          record { value = x; word_is = bits; is = refl },
        )

-- a store to a stamp word before any stamp
abbrev pub cloned_chain : (ℕ → Chain) → ℕ → ℤ → ℕ → Chain
cloned_chain chain r x k = cond (nat_eq k r) (record { zero_is = x; after = [] }) (chain k)

chain_here : (chain : ℕ → Chain) (r : ℕ) (x : ℤ) → cloned_chain chain r x r ≡ record { zero_is = x; after = [] }
chain_here chain r x = let t = eq-eqb r r refl in rw t refl

chain_else : (chain : ℕ → Chain) (r k : ℕ) (x : ℤ) → k ≢ r → cloned_chain chain r x k ≡ chain k
chain_else chain r k x ne = let t = ne_eqb k r ne in rw t refl

bare_still : (chain : ℕ → Chain) (r : ℕ) (x : ℤ) → ((k : ℕ) → (chain k).after ≡ []) → (k : ℕ) → (cloned_chain chain r x k).after ≡ []
bare_still chain r x bare k = at (nat_eq k r)
  where
    at : (b : Bool) → (cond b (record { zero_is = x; after = [] }) (chain k)).after ≡ []
    at true = refl
    at false = bare k

last_in : (P : ℤ → Type 0) (chain : ℕ → Chain) (r k : ℕ) (x : ℤ) → (k ≡ r → P x) → P (last_of (chain k)) → P (last_of (cloned_chain chain r x k))
last_in P chain r k x new old = dite (ℕ_discrete k r)
    (λ e. let t = eq-eqb k r e in rw t (new e))
    (λ ne. rw (chain_else chain r k x ne) old)

pairs_clone : (cpus : ℕ) (opens : ℤ) (chain : ℕ → Chain) (writer : ℕ → ℕ) (words : List ℕ) (views : List View) (r n : ℕ) (x : ℤ)
    → PairPart cpus opens chain writer words views → IsQuiet chain views → cpus + r < length words → IsBitsOf x n
    → ((c : ℕ) → gtod_of c ≡ r → IsGtod x) → ((c : ℕ) → raw_of c ≡ r → IsRaw opens x)
    → PairPart cpus opens (cloned_chain chain r x) writer (set words (cpus + r) n) views
pairs_clone cpus opens chain writer words views r n x part quiet wide bits gtods raws =
    let later = cloned_chain chain r x in
    let bare = bare_still chain r x quiet.bare in
    record {
      lasts = λ k low. dite (ℕ_discrete k r)
          (λ e. subst (λ i. IsBitsOf (last_of (cloned_chain chain r x i)) (get_or (set words (cpus + r) n) (cpus + i) 0)) (sym e)
          (rw (get_or-set_same words (cpus + r) n 0 wide, chain_here chain r x) bits))
          (λ ne. let away : cpus + k ≢ cpus + r = λ h. ne (omega arith) in
          rw (get_or-set_other words (cpus + r) (cpus + k) n 0 away, chain_else chain r k x ne) (part.lasts k low));
      ahead = λ c. let one = ap length (bare (raw_of c)) in let two = ap length (bare (gtod_of c)) in omega arith;
      close = λ c. let one = ap length (bare (raw_of c)) in let two = ap length (bare (gtod_of c)) in omega arith;
      gtods = λ c. last_in IsGtod chain r (gtod_of c) x (gtods c) (part.gtods c);
      raws = λ c. last_in (IsRaw opens) chain r (raw_of c) x (raws c) (part.raws c);
      writers = part.writers;
      each = λ j u here. let fits = part.each j u here in record {
        known = λ k. record {
          zero_is = inl (quiet.unknown j u here k);
          after = subst (λ zs. Begins (part_of u.pairs.parts k).after zs) (quiet.bare k ∙ sym (bare k)) (fits.known k).after;
        };
        gtods = λ c own. fits.gtods c own ∙ quiet.bare (gtod_of c) ∙ sym (bare (gtod_of c));
        raws = λ c own. fits.raws c own ∙ quiet.bare (raw_of c) ∙ sym (bare (raw_of c));
        told_is = fits.told_is;
      };
    }

quiet_clone : (chain : ℕ → Chain) (views : List View) (id watcher r : ℕ) (x : ℤ) (v : View) → IsQuiet chain views → get_elem? views id ≡ some v → v.modes.watch ≡ true
    → ((j : ℕ) (u : View) → get_elem? views j ≡ some u → u.modes.watch ≡ true → watcher ≡ j) → IsQuiet (cloned_chain chain r x) (set views id (pair_cloned r x v))
quiet_clone chain views id watcher r x v quiet at watch watches =
    let later = cloned_chain chain r x in
    let n : Part = record { zero = Some x; after = [] } in
    let W : ℕ → View → Type 0 = λ j u. u.modes.watch ≡ true → watcher ≡ j in
    let P : ℕ → View → Type 0 = λ j u. (k : ℕ) → (part_of u.pairs.parts k).zero ≡ None in
    let Q : ℕ → View → Type 0 = λ j u. u.modes.watch ≡ true → (k : ℕ) → Knows (cloned_chain chain r x k) (part_of u.modes.cloned k) in
    record {
      bare = bare_still chain r x quiet.bare;
      unknown = placed P P views id (pair_cloned r x v) quiet.unknown (λ j u ne p. p) (quiet.unknown id v at);
      cloned = placed W Q views id (pair_cloned r x v) watches
          (λ j u ne h yes. absurd (ne (sym (h yes) ∙ watches id v at watch)))
          (λ yes k. dite (ℕ_discrete k r)
          (λ e. subst (λ i. Knows (cloned_chain chain r x i) (part_of (put_part v.modes.cloned r n) i)) (sym e)
          (rw (put_here v.modes.cloned r n, chain_here chain r x) (record { zero_is = inr refl; after = begins_self [] })))
          (λ ne. rw (put_else v.modes.cloned r k n ne, chain_else chain r k x ne) (quiet.cloned id v at watch k)));
    }

-- the watchdog's seat holds the offset that stands
holds_range : (offset : ℤ) (start : Start) (v : View) → v.start ≡ start → v.modes.held ≡ Some offset → IsOffset (opens_at start) offset → HoldsInRange v
holds_range offset start v is held range x e =
    let same : offset ≡ x = cc in
    subst (λ (o : Start). IsOffset (opens_at o) x) (sym is) (subst (IsOffset (opens_at start)) same range)

clones : (start : Start) (slots id r n : ℕ) (me : Me Step View) (x : ℤ) → r < 2 * start.cpus → me.0.live ≡ true → MayDemote me.0 → IsBitsOf x n
    → ((c : ℕ) → gtod_of c ≡ r → IsGtod x) → ((c : ℕ) → raw_of c ≡ r → IsRaw (opens_at start) x)
    → Allows (Kept start) slots id me (start.cpus + r) (λ _. n) (λ _. Cloned (step slots (start.cpus + r) n 0 none) me n)
clones start slots id r n me x low live may bits gtods raws s kept homes at small =
    let v = me.0 in
    let i = start.cpus + r in
    let w : View = pair_cloned r x v in
    let fits = kept.clocks.each id v at live in
    let stable = stable_is start s id v kept at may in
    let rest = kept.quiet stable in
    let wide : start.cpus + r < length s.words = omega (arith, kept.wide) in (
      w,
      keeps,
      tt,
      changed start s _ (cloned_chain kept.chain r x) kept.offset kept (length-set s.words i n)
          (λ same. whole_view kept.history s.views id w (kept.whole same) (kept.whole same id v at))
          (λ same. quiet_clone kept.chain s.views id kept.watcher r x v rest at may.watch (λ j u here h. (kept.modes.each j u here).watches h))
          (clocks_view start kept.history kept.made kept.holder kept.splitter (set s.words i n) s.views id w
          (clocks_words start kept.history kept.made kept.holder kept.splitter s.words s.views i n (omega arith) kept.clocks)
          (λ alive. record { start_is = fits.start_is; front = fits.front; lists = fits.lists; single = fits.single; splits = fits.splits; told_is = fits.told_is }))
          (pairs_view start.cpus (opens_at start) (cloned_chain kept.chain r x) kept.writer (set s.words i n) s.views id v w
          (pairs_clone start.cpus (opens_at start) kept.chain kept.writer s.words s.views r n x kept.pairs rest wide bits gtods raws) at refl)
          (modes_fit start kept.percpu kept.offset kept.watcher (set s.words i n) s.views id w
          (modes_word start kept.percpu kept.offset kept.watcher s.words s.views i n (omega arith) kept.modes)
          (fits_cloned kept.percpu kept.offset kept.watcher id r x v.modes (kept.modes.each id v at))),
      record {
        value = x;
        word_is = bits;
        register = r;
        place_is = ap (λ (o : Start). o.cpus + r) (sym fits.start_is);
        is = refl;
        holds = holds_range kept.offset start v fits.start_is ((kept.modes.each id v at).held_is may.watch) kept.modes.range;
      },
    )

pub clones_gtod : (start : Start) (slots id word cpu n : ℕ) (me : Me Step View) (x : ℤ) → word ≡ start.cpus + gtod_of cpu → cpu < start.cpus → me.0.live ≡ true
    → MayDemote me.0 → IsBitsOf x n → IsGtod x → Allows (Kept start) slots id me word (λ _. n) (λ _. Cloned (step slots word n 0 none) me n)
clones_gtod start slots id word cpu n me x place low live may bits range =
    subst (λ i. Allows (Kept start) slots id me i (λ _. n) (λ _. Cloned (step slots i n 0 none) me n)) (sym place)
    (clones start slots id (gtod_of cpu) n me x (omega arith) live may bits (λ c e. range) (λ c e. absurd (omega arith)))

pub clones_raw : (start : Start) (slots id word cpu n : ℕ) (me : Me Step View) (x : ℤ) → word ≡ start.cpus + raw_of cpu → cpu < start.cpus → me.0.live ≡ true
    → MayDemote me.0 → IsBitsOf x n → IsRaw (opens_at start) x → Allows (Kept start) slots id me word (λ _. n) (λ _. Cloned (step slots word n 0 none) me n)
clones_raw start slots id word cpu n me x place low live may bits range =
    subst (λ i. Allows (Kept start) slots id me i (λ _. n) (λ _. Cloned (step slots i n 0 none) me n)) (sym place)
    (clones start slots id (raw_of cpu) n me x (omega arith) live may bits (λ c e. absurd (omega arith)) (λ c e. range))

-- the store of the mode: what the watchdog's seat held is known now
none_after : (p : Part) (c : Chain) → Knows c p → c.after ≡ [] → p.after ≡ []
none_after p c knows bare = front_none p.after knows.after.rest (sym knows.after.is ∙ bare)
  where
    front_none : (xs ys : List ℤ) → xs ++ ys ≡ [] → xs ≡ []
    front_none [] ys h = refl
    front_none (x ∷ xs) ys h = absurd (cc)

pairs_published : (cpus : ℕ) (opens : ℤ) (chain : ℕ → Chain) (writer : ℕ → ℕ) (words : List ℕ) (views : List View) (id : ℕ) (v : View)
    → PairPart cpus opens chain writer words views → IsQuiet chain views → get_elem? views id ≡ some v → v.modes.watch ≡ true
    → PairPart cpus opens chain writer words (set views id (published v))
pairs_published cpus opens chain writer words views id v part quiet at watch =
    let P : ℕ → View → Type 0 = λ j u. (c : ℕ) → has_number u.pairs.owns c ≡ true → writer c ≡ j in
    let Q : ℕ → View → Type 0 = λ j u. FitsPairs chain u.pairs in
    let known = quiet.cloned id v at watch in
    record {
      lasts = part.lasts;
      ahead = part.ahead;
      close = part.close;
      gtods = part.gtods;
      raws = part.raws;
      writers = placed P P views id (published v) part.writers (λ j u ne q. q) (part.writers id v at);
      each = placed Q Q views id (published v) part.each (λ j u ne q. q) (record {
        known = known;
        gtods = λ c own. none_after (part_of v.modes.cloned (gtod_of c)) (chain (gtod_of c)) (known (gtod_of c)) (quiet.bare (gtod_of c)) ∙ sym (quiet.bare (gtod_of c));
        raws = λ c own. none_after (part_of v.modes.cloned (raw_of c)) (chain (raw_of c)) (known (raw_of c)) (quiet.bare (raw_of c)) ∙ sym (quiet.bare (raw_of c));
        told_is = All-nil (λ (parts : List Part). (r : ℕ) → PartBegins (part_of parts r) (part_of v.modes.cloned r));
      });
    }

pub stores_mode : (start : Start) (slots id word : ℕ) (me : Me Step View) → word ≡ 3 * start.cpus → me.0.live ≡ true → MayDemote me.0 → HasLifted me.0
    → Allows (Kept start) slots id me word (λ _. 1) (λ _. StoredMode (step slots word 1 0 none) me 1)
stores_mode start slots id word me place live may all =
    subst (λ i. Allows (Kept start) slots id me i (λ _. 1) (λ _. StoredMode (step slots i 1 0 none) me 1)) (sym place) at_place
  where
    at_place : Allows (Kept start) slots id me (3 * start.cpus) (λ _. 1) (λ _. StoredMode (step slots (3 * start.cpus) 1 0 none) me 1)
    at_place s kept homes at small =
        let v = me.0 in
        let i = 3 * start.cpus in
        let w : View = published v in
        let fits = kept.clocks.each id v at live in
        let stable = stable_is start s id v kept at may in
        let e : v.seen ≡ kept.history = kept.whole stable id v at may.watch in
        let cpus : start.cpus ≡ v.start.cpus = ap (λ (o : Start). o.cpus) (sym fits.start_is) in (
          w,
          keeps,
          tt,
          record {
            history = kept.history;
            made = kept.made;
            holder = kept.holder;
            splitter = kept.splitter;
            chain = kept.chain;
            writer = kept.writer;
            percpu = true;
            offset = kept.offset;
            watcher = kept.watcher;
            wide = length-set s.words i 1 ∙ kept.wide;
            lifts_first = λ h. absurd (true≢false h);
            lifted = λ h began c low. subst (λ (zs : List Step). IsTrue (has_lift zs c)) e (all c (subst (λ m. c < m) cpus low));
            whole = λ h. absurd (true≢false h);
            quiet = λ h. absurd (true≢false h);
            clocks = clocks_view start kept.history kept.made kept.holder kept.splitter (set s.words i 1) s.views id w
                (clocks_words start kept.history kept.made kept.holder kept.splitter s.words s.views i 1 (omega arith) kept.clocks)
                (λ alive. record { start_is = fits.start_is; front = fits.front; lists = fits.lists; single = fits.single; splits = fits.splits; told_is = fits.told_is });
            pairs = pairs_published start.cpus (opens_at start) kept.chain kept.writer (set s.words i 1) s.views id v
                (pairs_behind start.cpus (opens_at start) kept.chain kept.writer s.words s.views i 1 (omega arith) kept.pairs) (kept.quiet stable) at may.watch;
            modes = modes_published start kept.offset kept.watcher s.words s.views id v w
                (subst (λ (b : Bool). ModePart start b kept.offset kept.watcher s.words s.views) stable kept.modes) at may.watch (omega (arith, kept.wide)) refl;
          },
          refl,
        )
