-- Each step keeps the rule: loads change one view, stores and raises also a word.
use Rattle.std.proofs.Common.{◌≡◌, ◌≢◌, ℕ, ◌+◌, ◌*◌, ◌%◌, ◌^◌, ◌<◌, ◌≤◌, true, false, List, [], ◌∷◌, ◌++◌, length, get_or, set, refl, sym, ap, ◌∙◌, subst, ⊎_elim, arith, length-set, length-append, get_or-set_same, get_or-set_other}
use Rattle.std.proofs.Math.Seq.{get_or-append_seam}
use Rattle.std.proofs.lemmas.List.{set-get_or, get_or_append_left}
use Rattle.std.proofs.lemmas.Grind.{get_or-set_at}
use Rattle.std.proofs.lemmas.Bool.{cases_lt}
use mathlib.Core.Option.{some, none, some-injective}
use mathlib.Core.List.{IsPrefix}
use lib.ListN.{get_elem?}
use Rattle.atomic_table.specs.Table.{State, Me, keeps, step, Allows}
use Rattle.atomic_table.proofs.Lists.{at_set, at_snoc}
use Rattle.clk_num.specs.Range.{IsFrom0To}
use Rattle.clk_num.specs.Wrapping.{above, IsBitsOf}
use Rattle.clk_machine.specs.declared.reading.Published.{Published}
use Rattle.clk_latch.specs.declared.rule.Knows.{Knows}
use Rattle.clk_latch.specs.LatchRule.{sequence, number, used, idle, Holds, Stands, IsSmallIn, Known, Latched, knows_begun, knows_later, knows_written, knows_published, knows_settled, Began, Loaded, Closed, Put, Learnt}
use Rattle.clk_latch.specs.Turns.{IsWritten, EndsWith}
use Rattle.clk_latch.proofs.Prefixes.{prefix_self, prefix_trans, prefix_more, prefix_shorter, prefix_at, at_within, at_once, at_end}

pub true_not_false : true ≡ false → ⊥
true_not_false e = cc

-- ---- what holds of all views after one has changed

pub view_set : (P : ℕ → Knows → Type 0) (id : ℕ) (w : Knows) (views : List Knows) → ((j : ℕ) (u : Knows) → j ≢ id → get_elem? views j ≡ some u → P j u) → P id w
    → (j : ℕ) (u : Knows) → get_elem? (set views id w) j ≡ some u → P j u
view_set P id w views others mine j u e =
    ⊎_elim
    (λ (x : (j ≡ id) × (w ≡ u)). subst (λ i. P i u) (sym x.0) (subst (P id) x.1 mine))
    (λ (x : (j ≢ id) × (get_elem? views j ≡ some u)). others j u x.0 x.1)
    (at_set views id j w u e)

-- ---- loads

-- the words stay, and one view changes
pub watched : (s : State (Unit {0}) Knows) (id : ℕ) (w : Knows) (l : Latched s) → Known (sequence s) l.all s.words w → (w.owner ≡ true → id ≡ l.owner)
    → Latched (record { words = s.words; homes = s.homes; views = set s.views id w })
watched s id w l mine right = record {
  all = l.all;
  wide = l.wide;
  low = l.low;
  count = l.count;
  whole = l.whole;
  small = l.small;
  known = view_set (λ _ u. Known (sequence s) l.all s.words u) id w s.views (λ j u _ e. l.known j u e) mine;
  owner = l.owner;
  one_owner = view_set (λ j u. u.owner ≡ true → j ≡ l.owner) id w s.views (λ j u _ e. l.one_owner j u e) right;
}

-- a load stores what it found
loaded : (s : State (Unit {0}) Knows) (id i : ℕ) (w : Knows) (l : Latched s) → Known (sequence s) l.all s.words w → (w.owner ≡ true → id ≡ l.owner)
    → Latched (record { words = set s.words i (get_or s.words i 0); homes = s.homes; views = set s.views id w })
loaded s id i w l mine right =
    subst (λ ws. Latched (record { words = ws; homes = s.homes; views = set s.views id w })) (sym (set-get_or s.words i 0)) (watched s id w l mine right)

-- a later sequence was seen
knows_more : (n : ℕ) (all : List Published) (ws : List ℕ) (v : Knows) → Known n all ws v → Known n all ws (knows_later n v)
knows_more n all ws v k = record {
  begun = omega (arith, k.begun, k.seen);
  seen = omega arith;
  records = k.records;
  told = k.told;
  once = k.once;
  reader = k.reader;
  owner = λ o. let x = k.owner o in record { seen = refl; records = x.records; left = x.left; wrote = x.wrote };
}

pub begins : (ticket slots id : ℕ) (me : Me (Unit {0}) Knows) → Allows Latched slots id me 0 (λ n. n) (Began ticket (step slots 0 0 0 none) me)
begins ticket slots id me s l homes at fits =
    let n = sequence s in
    let k = l.known id me.0 at in
    let w = knows_begun ticket n l.all me.0 in
    let mine : Known n l.all s.words w = record {
      begun = omega arith;
      seen = omega arith;
      records = prefix_self l.all;
      told = k.told;
      once = k.once;
      reader = k.reader;
      owner = λ o. let x = k.owner o in record { seen = refl; records = refl; left = x.left; wrote = x.wrote };
    } in (
      w,
      keeps,
      tt,
      loaded s id 0 w l mine (l.one_owner id me.0 at),
      record {
        records = l.all;
        is = refl;
        grown = k.records;
        later = k.seen;
        low = l.low;
        count = l.count;
        small = λ p e. l.small (number n) p e;
        owner = λ o. let x = k.owner o in (sym x.records, sym x.seen);
      },
    )

-- a load of a word of the copy that was used where the turn began
pub loads : (Field : Published → ℕ → Type 0) (slots id i : ℕ) (me : Me (Unit {0}) Knows)
    → ((ws : List ℕ) (p : Published) → Holds ws (used me.0.at) p → Field p (get_or ws i 0)) → Allows Latched slots id me i (λ n. n) (Loaded Field me)
loads Field slots id i me reads s l homes at fits =
    let n = sequence s in
    let k = l.known id me.0 at in
    let w = knows_later n me.0 in (
      w,
      keeps,
      tt,
      loaded s id i w l (knows_more n l.all s.words me.0 k) (l.one_owner id me.0 at),
      record {
        now = n;
        is = refl;
        later = k.seen;
        whole = λ still p e.
            let same : n ≡ me.0.at = omega (arith, k.begun, k.seen) in
            let there : get_elem? l.all (number me.0.at) ≡ some p = prefix_at me.0.records l.all (number me.0.at) p k.records e in
            let holds : Holds s.words (used me.0.at) p = subst (λ m. get_elem? l.all (number m) ≡ some p → Holds s.words (used m) p) same (l.whole p) there in
            reads s.words p holds;
        owner = λ o. sym (k.owner o).seen;
      },
    )

pub closes : (slots id : ℕ) (me : Me (Unit {0}) Knows) → Allows Latched slots id me 0 (λ n. n) (Closed (step slots 0 0 0 none) me)
closes slots id me s l homes at fits =
    let n = sequence s in
    let k = l.known id me.0 at in (
      knows_later n me.0,
      keeps,
      tt,
      loaded s id 0 (knows_later n me.0) l (knows_more n l.all s.words me.0 k) (l.one_owner id me.0 at),
      record { is = refl; later = k.seen; low = l.low; owner = λ o. sym (k.owner o).seen },
    )

pub learns : (slots id : ℕ) (me : Me (Unit {0}) Knows) → Allows Latched slots id me 0 (λ n. n) (Learnt (step slots 0 0 0 none) me)
learns slots id me s l homes at fits =
    let k = l.known id me.0 at in (
      me.0,
      keeps,
      tt,
      loaded s id 0 me.0 l k (l.one_owner id me.0 at),
      record {
        is = refl;
        once = k.once;
        told = prefix_shorter me.0.told me.0.records l.all k.told k.records;
        owner = λ o. subst (IsPrefix me.0.told) (sym (k.owner o).records) k.told;
      },
    )

-- ---- the owner's stores

-- what the rule says of the words
record IsGood (n : ℕ) (all : List Published) (words : List ℕ) : Type 0 where
  low : n ≤ 2048
  count : length all ≡ number n + 1
  whole : (p : Published) → get_elem? all (number n) ≡ some p → Holds words (used n) p
  small : (i : ℕ) (p : Published) → get_elem? all i ≡ some p → IsSmallIn all p

-- no other seat knows of the idle copy
pub other_knows : (m n : ℕ) (all more : List Published) (us ws : List ℕ) (u : Knows) → m ≤ n → IsPrefix all more → Known m all us u → (u.owner ≡ true → ⊥)
    → Known n more ws u
other_knows m n all more us ws u later grown k reader = record {
  begun = k.begun;
  seen = omega (arith, k.seen);
  records = prefix_trans u.records all more k.records grown;
  told = prefix_trans u.told all more k.told grown;
  once = k.once;
  reader = k.reader;
  owner = λ o. absurd (reader o);
}

-- the owner changes the words and its view
placed : (s : State (Unit {0}) Knows) (id n : ℕ) (v w : Knows) (all : List Published) (ws : List ℕ) (l : Latched s) → get_elem? s.views id ≡ some v → v.owner ≡ true
    → length ws ≡ 5 → get_or ws 0 0 ≡ n → sequence s ≤ n → IsPrefix l.all all → IsGood n all ws → Known n all ws w
    → Latched (record { words = ws; homes = s.homes; views = set s.views id w })
placed s id n v w all ws l at own wide now later grown good mine =
    let mine_too : id ≡ l.owner = l.one_owner id v at own in
    let g : IsGood (get_or ws 0 0) all ws = subst (λ m. IsGood m all ws) (sym now) good in
    let k : Known (get_or ws 0 0) all ws w = subst (λ m. Known m all ws w) (sym now) mine in
    let up : sequence s ≤ get_or ws 0 0 = omega (arith, now, later) in
    record {
      all = all;
      wide = wide;
      low = g.low;
      count = g.count;
      whole = g.whole;
      small = g.small;
      known = view_set (λ _ u. Known (get_or ws 0 0) all ws u) id w s.views
          (λ j u apart e. other_knows (sequence s) (get_or ws 0 0) l.all all s.words ws u up grown (l.known j u e) (λ o. apart (l.one_owner j u e o ∙ sym mine_too)))
          k;
      owner = l.owner;
      one_owner = view_set (λ j u. u.owner ≡ true → j ≡ l.owner) id w s.views (λ j u _ e. l.one_owner j u e) (λ _. mine_too);
    }

-- a copy stays whole where another word changes
holds_set : (ws : List ℕ) (i x j : ℕ) (p : Published) → j ≢ i → (j + 1) ≢ i → Holds ws j p → Holds (set ws i x) j p
holds_set ws i x j p first second h = record {
  cyc = get_or-set_other ws i j x 0 first ∙ h.cyc;
  ns = subst (IsBitsOf p.ns) (sym (get_or-set_other ws i (j + 1) x 0 second)) h.ns;
}

-- words stand where they stood, and one more stands behind them
stands_more : (ws : List ℕ) (j i x : ℕ) (xs : List ℕ) → i ≡ j + length xs → i < length ws → Stands ws j xs → Stands (set ws i x) j (xs ++ x ∷ [])
stands_more ws j i x xs is within h k low =
    ⊎_elim
    (λ (before : k < length xs).
    let apart : (j + k) ≢ i = λ e. omega (arith, e, before, is) in
    get_or-set_other ws i (j + k) x 0 apart ∙ h k before ∙ sym (get_or_append_left xs (x ∷ []) 0 k before))
    (λ (behind : length xs ≤ k).
    let last : k ≡ length xs = omega (arith, behind, low, length-append xs (x ∷ [])) in
    let here : j + k ≡ i = omega (arith, last, is) in
    get_or-set_at ws i (j + k) x 0 here within ∙ sym (ap (λ m. get_or (xs ++ x ∷ []) m 0) last ∙ get_or-append_seam xs x [] 0))
    (cases_lt k (length xs))

-- the copies lie apart, and behind the sequence
copies_apart : (n : ℕ) → (idle n + 1 < 5) × (0 < idle n) × (0 < used n) × (used n ≢ idle n) × (used n ≢ idle n + 1) × ((used n + 1) ≢ idle n) × ((used n + 1) ≢ idle n + 1)
copies_apart n = (omega arith, omega arith, omega arith, (λ e. omega arith), (λ e. omega arith), (λ e. omega arith), (λ e. omega arith))

-- the place of the word that is written next
record IsNext (n i : ℕ) (wrote : List ℕ) : Type 0 where
  is : i ≡ idle n + length wrote
  few : length wrote ≤ 1

next_apart : (n i : ℕ) (wrote : List ℕ) → IsNext n i wrote → (i < 5) × (0 ≢ i) × (used n ≢ i) × ((used n + 1) ≢ i)
next_apart n i wrote h = (omega (arith, h.is, h.few), (λ e. omega (arith, h.is, h.few)), (λ e. omega (arith, h.is, h.few)), (λ e. omega (arith, h.is, h.few)))

pub puts : (slots id i x : ℕ) (me : Me (Unit {0}) Knows) → me.0.owner ≡ true → i ≡ idle me.0.seen + length me.0.wrote → length me.0.wrote ≤ 1
    → Allows Latched slots id me i (λ _. x) (λ _. Put (step slots i x 0 none) me x)
puts slots id i x me own is few s l homes at fits =
    let n = sequence s in
    let k = l.known id me.0 at in
    let o = k.owner own in
    let next : IsNext n i me.0.wrote = record { is = subst (λ m. i ≡ idle m + length me.0.wrote) o.seen is; few = few } in
    let (low, behind, first, second) = next_apart n i me.0.wrote next in
    let within : i < length s.words = omega (arith, low, l.wide) in
    let w = knows_written x me.0 in (
      w,
      keeps,
      tt,
      placed s id n me.0 w l.all (set s.words i x) l at own (length-set s.words i x ∙ l.wide) (get_or-set_other s.words i 0 x 0 behind) (omega arith)
          (prefix_self l.all)
          (record {
            low = l.low;
            count = l.count;
            whole = λ p e. holds_set s.words i x (used n) p first second (l.whole p e);
            small = l.small;
          })
          (record {
            begun = k.begun;
            seen = k.seen;
            records = k.records;
            told = k.told;
            once = k.once;
            reader = k.reader;
            owner = λ _. record {
              seen = o.seen;
              records = o.records;
              left = o.left;
              wrote = stands_more s.words (idle n) i x me.0.wrote next.is within o.wrote;
            };
          }),
      record { is = refl },
    )

-- ---- the owner's raises of the sequence

-- two words that were written are a record
holds_written : (ws : List ℕ) (j word : ℕ) (p : Published) → Stands ws j (p.cyc ∷ word ∷ []) → IsBitsOf p.ns word → Holds ws j p
holds_written ws j word p h ns =
    let first : get_or ws (j + 0) 0 ≡ p.cyc = h 0 (omega arith) in
    let second : get_or ws (j + 1) 0 ≡ word = h 1 (omega arith) in
    record { cyc = ap (λ i. get_or ws i 0) (omega arith) ∙ first; ns = subst (IsBitsOf p.ns) (sym second) ns }

-- after a raise the idle copy is the one that is used
raised_copy : (ws : List ℕ) (n word : ℕ) (p : Published) (wrote : List ℕ) → wrote ≡ p.cyc ∷ word ∷ [] → IsBitsOf p.ns word → Stands ws (idle n) wrote
    → Holds (set ws 0 (n + 1)) (used (n + 1)) p
raised_copy ws n word p wrote is ns h =
    let swapped : used (n + 1) ≡ idle n = omega arith in
    let whole : Holds ws (idle n) p = holds_written ws (idle n) word p (subst (λ xs. Stands ws (idle n) xs) is h) ns in
    subst (λ j. Holds (set ws 0 (n + 1)) j p) (sym swapped)
    (holds_set ws 0 (n + 1) (idle n) p (λ e. omega (arith, e)) (λ e. omega (arith, e)) whole)

-- nothing was written to the copy that has become idle
pub stands_none : (ws : List ℕ) (j : ℕ) → Stands ws j []
stands_none ws j k low = absurd (omega arith)

-- record 0 is the first of the records and of all that go on from them
pub small_by : (records updates : List Published) (zero p : Published) → IsPrefix records (zero ∷ updates) → p.cyc ≤ 83 * 2 ^ 41
    → IsFrom0To (46 * 2 ^ 52) (above p.ns zero.ns) → IsSmallIn records p
small_by records updates zero p begins cyc ns = record {
  cyc = cyc;
  ns = λ z e.
      let there = prefix_at records (zero ∷ updates) 0 z begins e in
      subst (λ (x : Published). IsFrom0To (46 * 2 ^ 52) (above p.ns x.ns)) (some-injective zero z there) ns;
}

-- so it stays where a record is added
pub small_more : (records : List Published) (p q : Published) → 0 < length records → IsSmallIn records q → IsSmallIn (records ++ p ∷ []) q
small_more records p q some_there small = record {
  cyc = small.cyc;
  ns = λ zero e.
      let z = at_within records 0 some_there in
      let there = prefix_at records (records ++ p ∷ []) 0 z.0 (prefix_more records (p ∷ [])) z.1 in
      subst (λ (x : Published). IsFrom0To (46 * 2 ^ 52) (above q.ns x.ns)) (at_once (records ++ p ∷ []) 0 z.0 zero there e) (small.ns z.0 z.1);
}

pub publishes : (slots id : ℕ) (p : Published) (me : Me (Unit {0}) Knows) → IsWritten p me.0 → 1 ≤ me.0.left → me.0.seen % 2 ≡ 0 → IsSmallIn me.0.records p
    → Allows Latched slots id me 0 (λ n. (n + 1) % 2 ^ 64) (λ _ after. after ≡ (knows_published p me.0, me.1))
publishes slots id p me written left even small s l homes at fits =
    let n = sequence s in
    let k = l.known id me.0 at in
    let o = k.owner written.owner in
    let next : (n + 1) % 2 ^ 64 ≡ n + 1 = omega (arith, l.low) in
    let evens : n % 2 ≡ 0 = subst (λ m. m % 2 ≡ 0) o.seen even in
    let more = l.all ++ p ∷ [] in
    let ends : length l.all ≡ number (n + 1) = omega (arith, l.count, evens) in
    let room : 0 < length s.words = omega (arith, l.wide) in
    let zero_there : 0 < length l.all = omega (arith, l.count) in
    let w = knows_published p me.0 in (
      w,
      keeps,
      tt,
      rw next (placed s id (n + 1) me.0 w more (set s.words 0 (n + 1)) l at written.owner (length-set s.words 0 (n + 1) ∙ l.wide)
          (get_or-set_same s.words 0 (n + 1) 0 room) (omega arith) (prefix_more l.all (p ∷ []))
          (record {
            low = omega (arith, o.left, left);
            count = omega (arith, length-append l.all (p ∷ []), ends);
            whole = λ q e. subst (λ x. Holds (set s.words 0 (n + 1)) (used (n + 1)) x) (at_end l.all p q (number (n + 1)) ends e)
                (raised_copy s.words n written.word p me.0.wrote written.wrote written.ns o.wrote);
            small = λ i q e. ⊎_elim
                (λ (old : get_elem? l.all i ≡ some q). small_more l.all p q zero_there (l.small i q old))
                (λ (new : p ≡ q). subst (IsSmallIn more) new (small_more l.all p p zero_there (subst (λ rs. IsSmallIn rs p) o.records small)))
                (at_snoc l.all p q i e);
          })
          (record {
            begun = omega (arith, k.begun);
            seen = omega (arith, o.seen);
            records = subst (λ rs. IsPrefix (rs ++ p ∷ []) more) (sym o.records) (prefix_self more);
            told = prefix_trans me.0.told l.all more k.told (prefix_more l.all (p ∷ []));
            once = k.once;
            reader = λ r. absurd (true_not_false (sym written.owner ∙ r));
            owner = λ _. record {
              seen = ap (λ m. m + 1) o.seen;
              records = ap (λ rs. rs ++ p ∷ []) o.records;
              left = omega (arith, o.left, left);
              wrote = stands_none (set s.words 0 (n + 1)) (idle (n + 1));
            };
          })),
      refl,
    )

pub settles : (slots id : ℕ) (p : Published) (me : Me (Unit {0}) Knows) → IsWritten p me.0 → EndsWith me.0.records p → me.0.seen % 2 ≡ 1
    → Allows Latched slots id me 0 (λ n. (n + 1) % 2 ^ 64) (λ _ after. after ≡ (knows_settled me.0, me.1))
settles slots id p me written last odd s l homes at fits =
    let n = sequence s in
    let k = l.known id me.0 at in
    let o = k.owner written.owner in
    let next : (n + 1) % 2 ^ 64 ≡ n + 1 = omega (arith, l.low) in
    let odds : n % 2 ≡ 1 = subst (λ m. m % 2 ≡ 1) o.seen odd in
    let same : number (n + 1) ≡ number n = omega (arith, odds) in
    let all_is : l.all ≡ last.0 ++ p ∷ [] = sym o.records ∙ last.1 in
    let ends : length last.0 ≡ number (n + 1) = omega (arith, l.count, same, ap length all_is, length-append last.0 (p ∷ [])) in
    let room : 0 < length s.words = omega (arith, l.wide) in
    let w = knows_settled me.0 in (
      w,
      keeps,
      tt,
      rw next (placed s id (n + 1) me.0 w l.all (set s.words 0 (n + 1)) l at written.owner (length-set s.words 0 (n + 1) ∙ l.wide)
          (get_or-set_same s.words 0 (n + 1) 0 room) (omega arith) (prefix_self l.all)
          (record {
            low = omega (arith, o.left, odds);
            count = omega (arith, l.count, same);
            whole = λ q e. subst (λ x. Holds (set s.words 0 (n + 1)) (used (n + 1)) x)
                (at_end last.0 p q (number (n + 1)) ends (subst (λ rs. get_elem? rs (number (n + 1)) ≡ some q) all_is e))
                (raised_copy s.words n written.word p me.0.wrote written.wrote written.ns o.wrote);
            small = l.small;
          })
          (record {
            begun = omega (arith, k.begun);
            seen = omega (arith, o.seen);
            records = k.records;
            told = k.told;
            once = k.once;
            reader = k.reader;
            owner = λ _. record {
              seen = ap (λ m. m + 1) o.seen;
              records = o.records;
              left = omega (arith, o.left, odds);
              wrote = stands_none (set s.words 0 (n + 1)) (idle (n + 1));
            };
          })),
      refl,
    )
