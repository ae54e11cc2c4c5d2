-- Each kind of step keeps the rule, and tells what it tells.
use Rattle.std.proofs.Common.{◌≡◌, ℕ, ◌<◌, ◌≤◌, ℤ, ◌≤ℤ◌, true, ◌==◌, List, [], ◌∷◌, ◌++◌, length, get_or, set, refl, sym, ap, ◌∙◌, subst, arith, length-set, eq-eqb, ne_eqb, Bool, false, ◌&&◌, ◌||◌, nat_eq, true≢false, IsTrue, max}
use Rattle.std.proofs.lemmas.Int.{ints, clamps}
use Rattle.std.proofs.lemmas.List.Elements.{All-push}
use mathlib.Core.Option.{some, none}
use lib.ListN.{get_elem?}
use Rattle.atomic_table.specs.Table.{State, Me, keeps, step, Allows, Act, Valid, stepped, carried_after}
use Rattle.atomic_table.proofs.Lists.{exchanged, set_here}
use prog.Atomic.{either}
use Rattle.clk_num.specs.Range.{IsNear}
use Rattle.clk_num.specs.Wrapping.{IsValue, above, raise}
use Rattle.clk_num.proofs.Heights.{same_above, above_raise, raise_fits}
use Rattle.clk_record.specs.declared.step.Step.{Step}
use Rattle.clk_record.specs.declared.step.Why.{Why}
use Rattle.clk_record.specs.declared.step.Why.TheVariants.{Raise, Couple, Lift}
use Rattle.clk_record.specs.Targets.{target}
use Rattle.clk_words.specs.declared.opening.Start.{Start}
use Rattle.clk_words.specs.declared.view.View.{View}
use Rattle.clk_words.specs.declared.view.PairView.{PairView}
use Rattle.clk_words.specs.declared.view.ModeView.{ModeView}
use Rattle.clk_words.specs.declared.view.Load.{Load}
use Rattle.clk_words.specs.declared.view.Name.TheVariants.{Clock}
use Rattle.clk_words.specs.Fronts.{Begins}
use Rattle.clk_words.specs.Histories.{opens_at, value_after, HadValue, NamesHeld, Follows, is_lift, has_lift, AllLifted, IsInOrder}
use Rattle.clk_words.specs.Heights.{height, IsClockWord}
use Rattle.clk_words.specs.Bounds.{IsClock}
use Rattle.clk_words.specs.Parts.{part_of}
use Rattle.clk_words.specs.WordsRule.{Fits, HistoryPart, Knows, Kept}
use Rattle.clk_words.specs.Knowing.{IsGood}
use Rattle.clk_words.specs.Told.{LoadedClock, Exchanged, Raised}
use Rattle.clk_words.proofs.Changing.{changed}
use Rattle.clk_words.proofs.Fronts.{begins_self}
use Rattle.clk_words.proofs.Replay.{clock_near, had_later, had_below}
use Rattle.clk_words.proofs.Places.{set_same, at_below}
use Rattle.clk_words.proofs.Clocks.{fits_seen, fits_good, clocks_view, makes_view, clocks_makes}
use Rattle.clk_words.proofs.Pairs.{pairs_view, pairs_clock}
use Rattle.clk_words.proofs.Modes.{modes_view, modes_word}
use Rattle.clk_words.proofs.Quiet.{whole_view, quiet_view, whole_makes}

-- a step that leaves the words: one view has changed, in what it has seen or loaded
viewed : (start : Start) (s : State Step View) (id i : ℕ) (v w : View) → (kept : Kept start s) → get_elem? s.views id ≡ some v
    → (w.live ≡ true → Fits start kept.history kept.made kept.holder kept.splitter id w) → w.pairs ≡ v.pairs → w.modes ≡ v.modes → w.seen ≡ kept.history
    → Kept start (record { words = set s.words i (get_or s.words i 0); homes = s.homes; views = set s.views id w })
viewed start s id i v w kept at fits pairs modes seen =
    subst (λ ws. Kept start (record { words = ws; homes = s.homes; views = set s.views id w })) (sym (set_same s.words i))
    (changed start s _ kept.chain kept.offset kept refl
    (λ stable. whole_view kept.history s.views id w (kept.whole stable) (λ h. seen))
    (λ stable. let rest = kept.quiet stable in quiet_view kept.chain s.views id w rest
    (λ r. ap (λ (p : PairView). (part_of p.parts r).zero) pairs ∙ rest.unknown id v at r)
    (λ h r. subst (λ (m : ModeView). Knows (kept.chain r) (part_of m.cloned r)) (sym modes)
    (rest.cloned id v at (ap (λ (m : ModeView). m.watch) (sym modes) ∙ h) r)))
    (clocks_view start kept.history kept.made kept.holder kept.splitter s.words s.views id w kept.clocks fits)
    (pairs_view start.cpus (opens_at start) kept.chain kept.writer s.words s.views id v w kept.pairs at pairs)
    (modes_view start kept.percpu kept.offset kept.watcher s.words s.views id v w kept.modes at modes))

-- what a seat sees when it looks at a clock word
fits_looks : (start : Start) (s : State Step View) (id : ℕ) (v : View) (loads : List Load) → (kept : Kept start s) → get_elem? s.views id ≡ some v → v.live ≡ true
    → (fits : Fits start kept.history kept.made kept.holder kept.splitter id v)
    → Fits start kept.history kept.made kept.holder kept.splitter id (record v { seen = v.seen ++ fits.front.rest; loads = loads })
fits_looks start s id v loads kept at live fits =
    fits_seen start kept.history kept.made kept.holder kept.splitter id v (v.seen ++ fits.front.rest) loads v.pairs fits
    (record { rest = fits.front.rest; is = refl })
    (subst (λ zs. Begins zs kept.history) fits.front.is (begins_self kept.history))

pub value_seen : (start : Start) (history : List Step) (v : View) (w : ℕ) (between : List Step) → v.start ≡ start → history ≡ v.seen ++ between
    → value_after (opens_at v.start) w (v.seen ++ between) ≡ value_after (opens_at start) w history
value_seen start history v w between e f = ap (λ (o : Start). value_after (opens_at o) w (v.seen ++ between)) e ∙ ap (value_after (opens_at start) w) (sym f)

-- a load of a clock word
pub looks_up : (start : Start) (slots id w : ℕ) (me : Me Step View) → me.0.live ≡ true → w < start.cpus
    → Allows (Kept start) slots id me w (λ n. n) (LoadedClock (step slots w 0 0 none) me)
looks_up start slots id w me live low s kept homes at small =
    let v = me.0 in
    let part = kept.clocks in
    let fits = part.each id v at live in
    let between = fits.front.rest in
    let x = value_after (opens_at start) w kept.history in
    let loads : List Load = v.loads ++ (record { of = Clock w; value = x }) ∷ [] in
    let u : View = record v { seen = v.seen ++ between; loads = loads } in
    let now = fits_looks start s id v loads kept at live fits in (
      u,
      keeps,
      tt,
      viewed start s id w v u kept at (λ alive. now) refl refl (sym fits.front.is),
      record {
        value = x;
        word_is = subst (λ (o : Start). IsClockWord o x (get_or s.words w 0)) (sym fits.start_is) (part.clocks w low);
        loads = record {
          between = between;
          view_is = refl;
          value_is = value_seen start kept.history v w between fits.start_is fits.front.is;
          range = subst (λ (o : Start). IsClock (opens_at o) x) (sym fits.start_is) (part.range w);
          good = fits_good start kept.history kept.made kept.holder kept.splitter id u part.legal now;
        };
        slots_kept = refl;
      },
    )

names_later : (start : Start) (front history : List Step) (why : Why) → Begins front history → NamesHeld start front why → NamesHeld start history why
names_later start front history (Raise raw tick_raw tick_gtod offset) b h = tt
names_later start front history (Couple from value) b h = had_later start front history from value b h
names_later start front history (Lift value) b h = tt

same_value : (start : Start) (x y : ℤ) (n : ℕ) → IsClock (opens_at start) x → IsClock (opens_at start) y → IsClockWord start x n → IsClockWord start y n → x ≡ y
same_value start x y n f g p q = same_above (opens_at start) x y f.0 g.0 (omega (arith, ints))

not_later : (start : Start) (x y : ℤ) (m n : ℕ) → IsClockWord start x m → IsClockWord start y n → height start x ≤ℤ height start y → m ≤ n
not_later start x y m n p q le = omega (arith, ints)

-- why a step may be tried
pub record MayTry (start : Start) (v : View) (s : Step) (old new : ℕ) : Type 0 where
  pub by_is : s.by ≡ v.number
  pub low : s.word < start.cpus
  pub old_word : IsClockWord start s.old old
  pub new_word : IsClockWord start s.new new
  pub new_is : s.new ≡ raise s.old (target start.tick s.why)
  pub had : HadValue start v.seen s.word s.old
  pub names : NamesHeld start v.seen s.why
  pub old_range : IsClock (opens_at start) s.old
  pub new_range : IsClock (opens_at start) s.new
  pub found : v.modes.found ≡ true
  pub no_lift : is_lift s.why ≡ false

-- a history that goes on has the lifts that it had
or_first : (a b : Bool) → b ≡ true → (a || b) ≡ true
or_first true b e = refl
or_first false b e = e

pub lift_more : (steps more : List Step) (w : ℕ) → has_lift steps w ≡ true → has_lift (steps ++ more) w ≡ true
lift_more [] more w e = absurd (cc)
lift_more (s ∷ steps) more w e = at (is_lift s.why && nat_eq s.word w) e (lift_more steps more w)
  where
    at : (b : Bool) → (b || has_lift steps w) ≡ true → (has_lift steps w ≡ true → has_lift (steps ++ more) w ≡ true) → (b || has_lift (steps ++ more) w) ≡ true
    at true h again = refl
    at false h again = again h

-- a step that is no lift comes after them
in_order_of : (start : Start) (before : List Step) (why : Why) → is_lift why ≡ false → AllLifted start before → IsInOrder start before why
in_order_of start before (Raise raw tick_raw tick_gtod offset) no_lift all = all
in_order_of start before (Couple from value) no_lift all = all
in_order_of start before (Lift value) no_lift all = absurd (cc)

-- a step is put into the history: the rule holds after it, and the seat has made it
pub record IsMade (start : Start) (s : State Step View) (id n : ℕ) (v : View) (said : Step) (between : List Step) : Type 0 where
  pub kept : Kept start (record { words = set s.words said.word n; homes = s.homes; views = set s.views id (makes_view v between said) })
  pub good : IsGood (makes_view v between said)

pub made_by : (start : Start) (s : State Step View) (id n : ℕ) (v : View) (said : Step) (between : List Step) → (kept : Kept start s)
    → get_elem? s.views id ≡ some v → v.live ≡ true → kept.history ≡ v.seen ++ between → said.by ≡ v.number → said.word < start.cpus
    → (kept.percpu ≡ false → IsTrue (is_lift said.why) × (v.modes.watch ≡ true)) → Follows start kept.history said → IsClockWord start said.new n
    → IsMade start s id n v said between
made_by start s id n v said between kept at live e by low lifts follows word =
    let u : View = makes_view v between said in
    let wide : said.word < length s.words = omega (arith, kept.wide) in
    let clocks = clocks_makes start kept.history kept.made kept.holder kept.splitter s.words s.views id n v said between kept.clocks at live e by wide follows word in
    record {
      kept = record {
        history = kept.history ++ said ∷ [];
        made = kept.made;
        holder = kept.holder;
        splitter = kept.splitter;
        chain = kept.chain;
        writer = kept.writer;
        percpu = kept.percpu;
        offset = kept.offset;
        watcher = kept.watcher;
        wide = length-set s.words said.word n ∙ kept.wide;
        lifts_first = λ stable. All-push (λ (t : Step). IsTrue (is_lift t.why)) kept.history said (kept.lifts_first stable) (lifts stable).0;
        lifted = λ e stable w low. lift_more kept.history (said ∷ []) w (kept.lifted e stable w low);
        whole = λ stable. whole_makes kept.history s.views id kept.watcher u said (kept.whole stable) (λ j w here h. (kept.modes.each j w here).watches h)
            ((kept.modes.each id v at).watches (lifts stable).1) (ap (λ zs. zs ++ said ∷ []) (sym e));
        quiet = λ stable. let rest = kept.quiet stable in quiet_view kept.chain s.views id u rest (rest.unknown id v at) (rest.cloned id v at);
        clocks = clocks;
        pairs = pairs_view start.cpus (opens_at start) kept.chain kept.writer (set s.words said.word n) s.views id v u
            (pairs_clock start.cpus (opens_at start) kept.chain kept.writer s.words s.views said.word n low kept.pairs) at refl;
        modes = modes_view start kept.percpu kept.offset kept.watcher (set s.words said.word n) s.views id v u
            (modes_word start kept.percpu kept.offset kept.watcher s.words s.views said.word n (omega arith) kept.modes) at refl;
      };
      good = made_good start kept.history kept.made kept.holder kept.splitter id (set s.words said.word n) (set s.views id u) u said clocks (here s.views id v u at) live;
    }
  where
    here : (xs : List View) (i : ℕ) (a b : View) → get_elem? xs i ≡ some a → get_elem? (set xs i b) i ≡ some b
    here xs i a b at = set_here xs i b (at_below xs i a at)

    made_good : (start : Start) (history : List Step) (made : ℕ) (holder : ℕ → ℕ) (splitter id : ℕ) (words : List ℕ) (views : List View) (u : View) (t : Step)
        → HistoryPart start (history ++ t ∷ []) made holder splitter words views → get_elem? views id ≡ some u → u.live ≡ true → IsGood u
    made_good start history made holder splitter id words views u t part at live =
        fits_good start (history ++ t ∷ []) made holder splitter id u part.legal (part.each id u at live)

pub tries : (start : Start) (slots id old new : ℕ) (me : Me Step View) (said : Step) → me.0.live ≡ true → MayTry start me.0 said old new
    → Allows (Kept start) slots id me said.word (λ n. either (n == old) new n) (Exchanged (step slots said.word old new (some said)) me)
tries start slots id old new me said live may s kept homes at small =
    let v = me.0 in
    let part = kept.clocks in
    let fits = part.each id v at live in
    let between = fits.front.rest in
    let e : kept.history ≡ v.seen ++ between = fits.front.is in
    let n = get_or s.words said.word 0 in
    let x = value_after (opens_at start) said.word kept.history in
    let word : IsClockWord start x n = part.clocks said.word may.low in
    let percpu : kept.percpu ≡ true = (kept.modes.each id v at).found_is may.found in
    let F : ℕ → Type 0 = λ m. (u : View) × (a : Act Step) × Valid s.homes me.1 a
    × Kept start (stepped s said.word m id me.1 u a) × Exchanged (step slots said.word old new (some said)) me n (u, carried_after me.1 a) in
    exchanged n old new F
    (λ hit.
    let held : said.old ≡ x = same_value start said.old x n may.old_range (part.range said.word) (subst (IsClockWord start said.old) (sym hit) may.old_word) word in
    let follows : Follows start kept.history said = record {
      old_is = held;
      new_is = may.new_is;
      range = may.new_range;
      names = names_later start v.seen kept.history said.why fits.front may.names;
      in_order = in_order_of start kept.history said.why may.no_lift (kept.lifted percpu);
    } in
    let made = made_by start s id new v said between kept at live e may.by_is may.low (λ stable. absurd (true≢false (sym percpu ∙ stable))) follows may.new_word in
    let yes = eq-eqb n old hit in (
      makes_view v between said,
      keeps,
      tt,
      made.kept,
      rw yes (record { step = said; said_is = refl; slots_kept = refl; makes = record { between = between; view_is = refl; good = made.good } }),
    ))
    (λ miss.
    let u : View = record v { seen = v.seen ++ between } in
    let now = fits_looks start s id v v.loads kept at live fits in
    let no_hit = ne_eqb n old miss in (
      u,
      keeps,
      tt,
      viewed start s id said.word v u kept at (λ alive. now) refl refl (sym e),
      rw no_hit (record {
        value = x;
        word_is = subst (λ (o : Start). IsClockWord o x n) (sym fits.start_is) word;
        slots_kept = refl;
        looks = record { between = between; view_is = refl; good = fits_good start kept.history kept.made kept.holder kept.splitter id u part.legal now };
        value_is = value_seen start kept.history v said.word between fits.start_is e;
        range = subst (λ (o : Start). IsClock (opens_at o) x) (sym fits.start_is) (part.range said.word);
        later = not_later start said.old x old n may.old_word word
            (had_below start kept.history said.word said.old part.legal (had_later start v.seen kept.history said.word said.old fits.front may.had));
      }),
    ))

-- the greater of two words keeps what a raise leaves
pub raised_word : (start : Start) (x y : ℤ) (m n : ℕ) → IsClock (opens_at start) x → IsNear 60 (height start y) → IsClockWord start x m → IsClockWord start y n
    → IsClockWord start (raise x y) (max m n)
raised_word start x y m n range near p q =
    let le = near.1 in
    let ge = near.0 in
    let greater = above_raise (opens_at start) x y (clock_near (opens_at start) x range) (omega (arith, ints), omega (arith, ints)) in
    omega (arith, ints, clamps)

pub raise_range : (opens x y : ℤ) → IsClock opens x → IsValue y → IsNear 60 (above y opens) → IsClock opens (raise x y)
raise_range opens x y range fits near =
    let low = range.1 in
    let high = range.2 in
    let le = near.1 in
    let ge = near.0 in
    let greater = above_raise opens x y (clock_near opens x range) (omega (arith, ints), omega (arith, ints)) in
    (raise_fits x y range.0 fits, omega (arith, ints, clamps), omega (arith, ints, clamps))

-- why a word may be raised to the target of a step
pub record MayRaise (start : Start) (v : View) (word most : ℕ) (why : Why) : Type 0 where
  pub low : word < start.cpus
  pub fits : IsValue (target start.tick why)
  pub near : IsNear 60 (height start (target start.tick why))
  pub most_is : IsClockWord start (target start.tick why) most
  pub names : NamesHeld start v.seen why
  pub found : v.modes.found ≡ true
  pub no_lift : is_lift why ≡ false

raises_at : (slots id word most call : ℕ) (why : Why) (me : Me Step View) → me.0.live ≡ true → MayRaise me.0.start me.0 word most why
    → Allows (Kept me.0.start) slots id me word (λ n. max n most) (Raised call why (step slots word most 0 none) me)
raises_at slots id word most call why me live may s kept homes at small =
    let v = me.0 in
    let start = v.start in
    let part = kept.clocks in
    let fits = part.each id v at live in
    let between = fits.front.rest in
    let e : kept.history ≡ v.seen ++ between = fits.front.is in
    let n = get_or s.words word 0 in
    let x = value_after (opens_at start) word kept.history in
    let y = target start.tick why in
    let said : Step = record { by = v.number; call = call; word = word; why = why; old = x; new = raise x y } in
    let percpu : kept.percpu ≡ true = (kept.modes.each id v at).found_is may.found in
    let follows : Follows start kept.history said = record {
      old_is = refl;
      new_is = refl;
      range = raise_range (opens_at start) x y (part.range word) may.fits may.near;
      names = names_later start v.seen kept.history why fits.front may.names;
      in_order = in_order_of start kept.history why may.no_lift (kept.lifted percpu);
    } in
    let greater = raised_word start x y n most (part.range word) may.near (part.clocks word may.low) may.most_is in
    let made = made_by start s id (max n most) v said between kept at live e refl may.low (λ stable. absurd (true≢false (sym percpu ∙ stable))) follows greater in (
      makes_view v between said,
      keeps,
      tt,
      made.kept,
      record {
        old = x;
        word_is = part.clocks word may.low;
        raises = record {
          makes = record { between = between; view_is = refl; good = made.good };
          old_is = ap (value_after (opens_at start) word) e;
          range = part.range word;
        };
        slots_kept = refl;
      },
    )

pub raises : (start : Start) (slots id word most call : ℕ) (why : Why) (me : Me Step View) → me.0.live ≡ true → me.0.start ≡ start → MayRaise start me.0 word most why
    → Allows (Kept start) slots id me word (λ n. max n most) (Raised call why (step slots word most 0 none) me)
raises start slots id word most call why me live same may =
    subst (λ (o : Start). Allows (Kept o) slots id me word (λ n. max n most) (Raised call why (step slots word most 0 none) me)) same
    (raises_at slots id word most call why me live (subst (λ (o : Start). MayRaise o me.0 word most why) (sym same) may))
