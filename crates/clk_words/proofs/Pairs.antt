-- The pair part: what each step does to it.
use Rattle.std.proofs.Common.{◌≡◌, ◌≢◌, ℕ, ◌+◌, ◌*◌, ◌/◌, ◌<◌, ◌≤◌, ◌⊎◌, ℤ, Bool, true, cond, List, [], ◌∷◌, ◌++◌, length, get_or, set, nat_eq, All, Some, None, refl, sym, ap, ◌∙◌, subst, inl, inr, ⊎_elim, arith, get_or-set_same, get_or-set_other, length-set, eq-eqb, ne_eqb}
use Rattle.std.proofs.lemmas.List.Elements.{All-nil, All-cons, All-weaker}
use mathlib.Core.Option.{some}
use mathlib.Core.Logic.{dite}
use native.Mathlib.Decide.{ℕ_discrete}
use lib.ListN.{get_elem?}
use Rattle.clk_num.specs.Wrapping.{IsBitsOf}
use Rattle.clk_words.specs.declared.view.View.{View}
use Rattle.clk_words.specs.declared.view.Part.{Part}
use Rattle.clk_words.specs.declared.view.PairView.{PairView}
use Rattle.clk_words.specs.declared.kind.SeatKind.{SeatKind}
use Rattle.clk_words.specs.declared.kind.SeatKind.TheVariants.{Owner, Reader, Watch}
use Rattle.clk_words.specs.Fronts.{Begins}
use Rattle.clk_words.specs.Bounds.{IsGtod, IsRaw}
use Rattle.clk_words.specs.Parts.{gtod_of, raw_of, part_of, put_part, PartBegins, joint_part, joint_parts}
use Rattle.clk_words.specs.Rights.{has_number, owns_without, owned_by}
use Rattle.clk_words.specs.Views.{giver_view, given_view, joint_view, joint_pairs, spent_view}
use Rattle.clk_words.specs.WordsRule.{Chain, last_of, Knows, FitsPairs, PairPart}
use Rattle.clk_words.proofs.Fronts.{begins_self, begins_more}
use Rattle.clk_words.proofs.Registers.{put_here, put_else, last_more, joint_at, part_through, knows_joint, kept_whole, begins_joint, cpu_of_gtod, cpu_of_raw}
use Rattle.clk_words.proofs.Owning.{has_append, has_filtered, has_one}
use Rattle.clk_words.proofs.Places.{placed, grown}

-- a view changes, but not in what it knows of the stamps
pub pairs_view : (cpus : ℕ) (opens : ℤ) (chain : ℕ → Chain) (writer : ℕ → ℕ) (words : List ℕ) (views : List View) (id : ℕ) (v w : View)
    → PairPart cpus opens chain writer words views → get_elem? views id ≡ some v → w.pairs ≡ v.pairs → PairPart cpus opens chain writer words (set views id w)
pairs_view cpus opens chain writer words views id v w part at same =
    let P : ℕ → View → Type 0 = λ j u. (c : ℕ) → has_number u.pairs.owns c ≡ true → writer c ≡ j in
    let Q : ℕ → View → Type 0 = λ j u. FitsPairs chain u.pairs in
    record {
      lasts = part.lasts;
      ahead = part.ahead;
      close = part.close;
      gtods = part.gtods;
      raws = part.raws;
      writers = placed P P views id w part.writers (λ j u ne p. p)
          (λ c h. part.writers id v at c (ap (λ (p : PairView). has_number p.owns c) (sym same) ∙ h));
      each = placed Q Q views id w part.each (λ j u ne p. p) (subst (FitsPairs chain) (sym same) (part.each id v at));
    }

-- a clock word changes
pub pairs_clock : (cpus : ℕ) (opens : ℤ) (chain : ℕ → Chain) (writer : ℕ → ℕ) (words : List ℕ) (views : List View) (i n : ℕ)
    → i < cpus → PairPart cpus opens chain writer words views → PairPart cpus opens chain writer (set words i n) views
pairs_clock cpus opens chain writer words views i n low part = record {
  lasts = λ r small. let ne : cpus + r ≢ i = omega arith in rw (get_or-set_other words i (cpus + r) n 0 ne) (part.lasts r small);
  ahead = part.ahead;
  close = part.close;
  gtods = part.gtods;
  raws = part.raws;
  writers = part.writers;
  each = part.each;
}

-- the part of one register grows to the whole of what its word has held
pub fits_put : (chain later : ℕ → Chain) (r : ℕ) (p : PairView) (n : Part) → FitsPairs chain p → ((k : ℕ) → k ≢ r → later k ≡ chain k)
    → (n.zero ≡ None) ⊎ (n.zero ≡ Some (later r).zero_is) → n.after ≡ (later r).after → PartBegins (part_of p.parts r) n
    → FitsPairs later (record { parts = put_part p.parts r n; owns = p.owns; told = p.told })
fits_put chain later r p n fits same stamp whole more = record {
  known = λ k. dite (ℕ_discrete k r)
      (λ e. subst (λ i. Knows (later i) (part_of (put_part p.parts r n) i)) (sym e)
      (rw (put_here p.parts r n) (record { zero_is = stamp; after = subst (λ zs. Begins n.after zs) whole (begins_self n.after) })))
      (λ ne. rw (put_else p.parts r k n ne, same k ne) (fits.known k));
  gtods = λ c own. whole_at (gtod_of c) (fits.gtods c own);
  raws = λ c own. whole_at (raw_of c) (fits.raws c own);
  told_is = All-weaker (λ (parts : List Part). (k : ℕ) → PartBegins (part_of parts k) (part_of p.parts k))
      (λ (parts : List Part). (k : ℕ) → PartBegins (part_of parts k) (part_of (put_part p.parts r n) k))
      (λ parts h k. dite (ℕ_discrete k r)
      (λ e. subst (λ i. PartBegins (part_of parts i) (part_of (put_part p.parts r n) i)) (sym e)
      (rw (put_here p.parts r n) (part_through (part_of parts r) (part_of p.parts r) n (h r) more)))
      (λ ne. rw (put_else p.parts r k n ne) (h k)))
      p.told fits.told_is;
}
  where
    whole_at : (k : ℕ) → (part_of p.parts k).after ≡ (chain k).after → (part_of (put_part p.parts r n) k).after ≡ (later k).after
    whole_at k h = dite (ℕ_discrete k r)
        (λ e. subst (λ i. (part_of (put_part p.parts r n) i).after ≡ (later i).after) (sym e) (rw (put_here p.parts r n) whole))
        (λ ne. rw (put_else p.parts r k n ne, same k ne) h)

-- what a load finds: the part grows to the whole
abbrev pub found_part : Chain → Part → List ℤ → Part
found_part c p more = record { zero = Some c.zero_is; after = p.after ++ more }

found_more : (c : Chain) (p : Part) (more : List ℤ) → Knows c p → PartBegins p (found_part c p more)
found_more c p more knows = record { zero_is = knows.zero_is; after = begins_more p.after p.after more (begins_self p.after) }

pub pairs_load : (cpus : ℕ) (opens : ℤ) (chain : ℕ → Chain) (writer : ℕ → ℕ) (words : List ℕ) (views : List View) (id r : ℕ) (v w : View)
    → PairPart cpus opens chain writer words views → get_elem? views id ≡ some v → (more : List ℤ) → (chain r).after ≡ (part_of v.pairs.parts r).after ++ more
    → w.pairs ≡ record { parts = put_part v.pairs.parts r (found_part (chain r) (part_of v.pairs.parts r) more); owns = v.pairs.owns; told = v.pairs.told }
    → PairPart cpus opens chain writer words (set views id w)
pairs_load cpus opens chain writer words views id r v w part at more all is =
    let P : ℕ → View → Type 0 = λ j u. (c : ℕ) → has_number u.pairs.owns c ≡ true → writer c ≡ j in
    let Q : ℕ → View → Type 0 = λ j u. FitsPairs chain u.pairs in
    let fits = part.each id v at in
    let p = part_of v.pairs.parts r in
    record {
      lasts = part.lasts;
      ahead = part.ahead;
      close = part.close;
      gtods = part.gtods;
      raws = part.raws;
      writers = placed P P views id w part.writers (λ j u ne q. q)
          (λ c h. part.writers id v at c (ap (λ (q : PairView). has_number q.owns c) (sym is) ∙ h));
      each = placed Q Q views id w part.each (λ j u ne q. q)
          (subst (FitsPairs chain) (sym is)
          (fits_put chain chain r v.pairs (found_part (chain r) p more) fits (λ k ne. refl) (inr refl) (sym all) (found_more (chain r) p more (fits.known r))));
    }

-- a store by the only writer: its word holds one more value
abbrev pub grown_chain : Chain → ℤ → Chain
grown_chain c x = record { zero_is = c.zero_is; after = c.after ++ x ∷ [] }

abbrev pub later_chain : (ℕ → Chain) → ℕ → ℤ → ℕ → Chain
later_chain chain r x k = cond (nat_eq k r) (grown_chain (chain k) x) (chain k)

pub later_here : (chain : ℕ → Chain) (r : ℕ) (x : ℤ) → later_chain chain r x r ≡ grown_chain (chain r) x
later_here chain r x = let t = eq-eqb r r refl in rw t refl

pub later_else : (chain : ℕ → Chain) (r k : ℕ) (x : ℤ) → k ≢ r → later_chain chain r x k ≡ chain k
later_else chain r k x ne = let t = ne_eqb k r ne in rw t refl

-- what the others know stays true
fits_beside : (chain : ℕ → Chain) (r : ℕ) (x : ℤ) (p : PairView) → FitsPairs chain p
    → ((c : ℕ) → has_number p.owns c ≡ true → (gtod_of c ≢ r) × (raw_of c ≢ r)) → FitsPairs (later_chain chain r x) p
fits_beside chain r x p fits apart = record {
  known = λ k. dite (ℕ_discrete k r)
      (λ e. subst (λ i. Knows (later_chain chain r x i) (part_of p.parts i)) (sym e)
      (rw (later_here chain r x) (record { zero_is = (fits.known r).zero_is; after = begins_more (part_of p.parts r).after (chain r).after (x ∷ []) (fits.known r).after })))
      (λ ne. rw (later_else chain r k x ne) (fits.known k));
  gtods = λ c own. rw (later_else chain r (gtod_of c) x (apart c own).0) (fits.gtods c own);
  raws = λ c own. rw (later_else chain r (raw_of c) x (apart c own).1) (fits.raws c own);
  told_is = fits.told_is;
}

-- the registers of a CPU
pub record IsRegisterOf (r cpu : ℕ) : Type 0 where
  pub either : (r ≡ gtod_of cpu) ⊎ (r ≡ raw_of cpu)

apart_of : (r cpu c : ℕ) → IsRegisterOf r cpu → c ≢ cpu → (gtod_of c ≢ r) × (raw_of c ≢ r)
apart_of r cpu c is ne = ⊎_elim
    (λ (e : r ≡ gtod_of cpu). ((λ h. ne (omega arith)), (λ h. omega arith)))
    (λ (e : r ≡ raw_of cpu). ((λ h. omega arith), (λ h. ne (omega arith))))
    is.either

abbrev pub stored_pairs : PairView → ℕ → ℤ → PairView
stored_pairs p r x = record {
  parts = put_part p.parts r (record { zero = (part_of p.parts r).zero; after = (part_of p.parts r).after ++ x ∷ [] });
  owns = p.owns;
  told = p.told;
}

pub pairs_store : (cpus : ℕ) (opens : ℤ) (chain : ℕ → Chain) (writer : ℕ → ℕ) (words : List ℕ) (views : List View) (id r cpu n : ℕ) (x : ℤ) (v w : View)
    → PairPart cpus opens chain writer words views → get_elem? views id ≡ some v → has_number v.pairs.owns cpu ≡ true → IsRegisterOf r cpu → cpus + r < length words → IsBitsOf x n
    → (part_of v.pairs.parts r).after ≡ (chain r).after
    → ((c : ℕ) → length (later_chain chain r x (raw_of c)).after ≤ length (later_chain chain r x (gtod_of c)).after)
    → ((c : ℕ) → length (later_chain chain r x (gtod_of c)).after ≤ length (later_chain chain r x (raw_of c)).after + 1)
    → ((c : ℕ) → IsGtod (last_of (later_chain chain r x (gtod_of c)))) → ((c : ℕ) → IsRaw opens (last_of (later_chain chain r x (raw_of c))))
    → w.pairs ≡ stored_pairs v.pairs r x
    → PairPart cpus opens (later_chain chain r x) writer (set words (cpus + r) n) (set views id w)
pairs_store cpus opens chain writer words views id r cpu n x v w part at own reg wide word whole ahead close gtods raws is =
    let P : ℕ → View → Type 0 = λ j u. (c : ℕ) → has_number u.pairs.owns c ≡ true → writer c ≡ j in
    let Q : ℕ → View → Type 0 = λ j u. FitsPairs chain u.pairs × P j u in
    let R : ℕ → View → Type 0 = λ j u. FitsPairs (later_chain chain r x) u.pairs in
    let fits = part.each id v at in
    let p = part_of v.pairs.parts r in
    let mine = part.writers id v at cpu own in
    record {
      lasts = λ k low. dite (ℕ_discrete k r)
          (λ e. subst (λ i. IsBitsOf (last_of (later_chain chain r x i)) (get_or (set words (cpus + r) n) (cpus + i) 0)) (sym e)
          (rw (get_or-set_same words (cpus + r) n 0 wide, later_here chain r x, last_more (chain r).zero_is x (chain r).after) word))
          (λ ne. let away : cpus + k ≢ cpus + r = λ h. ne (omega arith) in
          rw (get_or-set_other words (cpus + r) (cpus + k) n 0 away, later_else chain r k x ne) (part.lasts k low));
      ahead = ahead;
      close = close;
      gtods = gtods;
      raws = raws;
      writers = placed P P views id w part.writers (λ j u ne q. q)
          (λ c h. part.writers id v at c (ap (λ (q : PairView). has_number q.owns c) (sym is) ∙ h));
      each = placed Q R views id w (λ j u here. (part.each j u here, part.writers j u here))
          (λ j u ne q. fits_beside chain r x u.pairs q.0 (λ c h. apart_of r cpu c reg (λ e. ne (sym (q.1 c h) ∙ ap writer e ∙ mine))))
          (subst (FitsPairs (later_chain chain r x)) (sym is)
          (fits_put chain (later_chain chain r x) r v.pairs (record { zero = p.zero; after = p.after ++ x ∷ [] }) fits
          (λ k ne. later_else chain r k x ne)
          (rw (later_here chain r x) (fits.known r).zero_is)
          (rw (later_here chain r x) (ap (λ zs. zs ++ x ∷ []) whole))
          (record { zero_is = inr refl; after = begins_more p.after p.after (x ∷ []) (begins_self p.after) })));
    }

-- a split hands on a CPU, or none
abbrev pub hands : SeatKind → (ℕ → ℕ) → ℕ → ℕ → ℕ
hands (Owner cpu) writer place c = cond (nat_eq c cpu) place (writer c)
hands (Reader cpu) writer place c = writer c
hands Watch writer place c = writer c

fits_giver : (chain : ℕ → Chain) (kind : SeatKind) (p : PairView) → FitsPairs chain p
    → FitsPairs chain (record { parts = p.parts; owns = owns_without kind p.owns; told = p.told })
fits_giver chain (Owner cpu) p fits = record {
  known = fits.known;
  told_is = fits.told_is;
  gtods = λ c own. fits.gtods c (has_filtered cpu c p.owns own).0;
  raws = λ c own. fits.raws c (has_filtered cpu c p.owns own).0;
}
fits_giver chain (Reader cpu) p fits = record { known = fits.known; gtods = fits.gtods; raws = fits.raws; told_is = fits.told_is }
fits_giver chain Watch p fits = record { known = fits.known; gtods = fits.gtods; raws = fits.raws; told_is = fits.told_is }

-- what the giver may hand on it owns
abbrev pub HasGift : SeatKind → PairView → Type 0
HasGift (Owner cpu) p = has_number p.owns cpu ≡ true
HasGift (Reader cpu) p = Unit {0}
HasGift Watch p = Unit {0}

no_told : (parts : List Part) → All (λ told. (r : ℕ) → PartBegins (part_of told r) (part_of parts r)) []
no_told parts = All-nil (λ (told : List Part). (r : ℕ) → PartBegins (part_of told r) (part_of parts r))

fits_given : (chain : ℕ → Chain) (kind : SeatKind) (p : PairView) → FitsPairs chain p → HasGift kind p
    → FitsPairs chain (record { parts = p.parts; owns = owned_by kind; told = [] })
fits_given chain (Owner cpu) p fits has = record {
  known = fits.known;
  told_is = no_told p.parts;
  gtods = λ c own. fits.gtods c (subst (λ k. has_number p.owns k ≡ true) (has_one cpu c own) has);
  raws = λ c own. fits.raws c (subst (λ k. has_number p.owns k ≡ true) (has_one cpu c own) has);
}
fits_given chain (Reader cpu) p fits has = record { known = fits.known; told_is = no_told p.parts; gtods = λ c own. absurd (cc); raws = λ c own. absurd (cc) }
fits_given chain Watch p fits has = record { known = fits.known; told_is = no_told p.parts; gtods = λ c own. absurd (cc); raws = λ c own. absurd (cc) }

writes_other : (kind : SeatKind) (writer : ℕ → ℕ) (place id j : ℕ) (p q : PairView) → HasGift kind p → ((c : ℕ) → has_number p.owns c ≡ true → writer c ≡ id)
    → j ≢ id → ((c : ℕ) → has_number q.owns c ≡ true → writer c ≡ j) → (c : ℕ) → has_number q.owns c ≡ true → hands kind writer place c ≡ j
writes_other (Owner cpu) writer place id j p q has mine ne theirs c own =
    let t = ne_eqb c cpu (λ e. ne (sym (theirs c own) ∙ ap writer e ∙ mine cpu has)) in rw t (theirs c own)
writes_other (Reader cpu) writer place id j p q has mine ne theirs c own = theirs c own
writes_other Watch writer place id j p q has mine ne theirs c own = theirs c own

writes_giver : (kind : SeatKind) (writer : ℕ → ℕ) (place id : ℕ) (p : PairView) → ((c : ℕ) → has_number p.owns c ≡ true → writer c ≡ id)
    → (c : ℕ) → has_number (owns_without kind p.owns) c ≡ true → hands kind writer place c ≡ id
writes_giver (Owner cpu) writer place id p mine c own =
    let left = has_filtered cpu c p.owns own in let t = ne_eqb c cpu left.1 in rw t (mine c left.0)
writes_giver (Reader cpu) writer place id p mine c own = mine c own
writes_giver Watch writer place id p mine c own = mine c own

writes_given : (kind : SeatKind) (writer : ℕ → ℕ) (place : ℕ) → (c : ℕ) → has_number (owned_by kind) c ≡ true → hands kind writer place c ≡ place
writes_given (Owner cpu) writer place c own = let t = eq-eqb c cpu (sym (has_one cpu c own)) in rw t refl
writes_given (Reader cpu) writer place c own = absurd (cc)
writes_given Watch writer place c own = absurd (cc)

pub pairs_split : (cpus : ℕ) (opens : ℤ) (chain : ℕ → Chain) (writer : ℕ → ℕ) (words : List ℕ) (views : List View) (id : ℕ) (v : View) (kind : SeatKind)
    → PairPart cpus opens chain writer words views → get_elem? views id ≡ some v → HasGift kind v.pairs
    → PairPart cpus opens chain (hands kind writer (length views)) words (set views id (giver_view kind v) ++ given_view kind v ∷ [])
pairs_split cpus opens chain writer words views id v kind part at has =
    let place = length views in
    let wide : length (set views id (giver_view kind v)) ≡ place = length-set views id (giver_view kind v) in
    let P : ℕ → View → Type 0 = λ j u. (c : ℕ) → has_number u.pairs.owns c ≡ true → writer c ≡ j in
    let Q : ℕ → View → Type 0 = λ j u. (c : ℕ) → has_number u.pairs.owns c ≡ true → hands kind writer place c ≡ j in
    let R : ℕ → View → Type 0 = λ j u. FitsPairs chain u.pairs in
    let fits = part.each id v at in
    let mine = part.writers id v at in
    record {
      lasts = part.lasts;
      ahead = part.ahead;
      close = part.close;
      gtods = part.gtods;
      raws = part.raws;
      writers = grown Q Q (set views id (giver_view kind v)) (given_view kind v)
          (placed P Q views id (giver_view kind v) part.writers
          (λ j u ne q. writes_other kind writer place id j v.pairs u.pairs has mine ne q)
          (writes_giver kind writer place id v.pairs mine))
          (λ j u q. q)
          (λ c own. writes_given kind writer place c own ∙ sym wide);
      each = grown R R (set views id (giver_view kind v)) (given_view kind v)
          (placed R R views id (giver_view kind v) part.each (λ j u ne q. q) (fits_giver chain kind v.pairs fits))
          (λ j u q. q)
          (fits_given chain kind v.pairs fits has);
    }

-- a join: one seat owns what both did
fits_joint : (chain : ℕ → Chain) (p q : PairView) → FitsPairs chain p → FitsPairs chain q → FitsPairs chain (joint_pairs p q)
fits_joint chain p q mine yours =
    let a : ℕ → Bool = has_number p.owns in
    let b : ℕ → Bool = has_number q.owns in
    let both : (r : ℕ) → PartBegins (part_of p.parts r) (joint_part (a (r / 2)) (b (r / 2)) (part_of p.parts r) (part_of q.parts r)) × PartBegins (part_of q.parts r) (joint_part (a (r / 2)) (b (r / 2)) (part_of p.parts r) (part_of q.parts r)) =
    λ r. begins_joint (chain r) (a (r / 2)) (b (r / 2)) (part_of p.parts r) (part_of q.parts r) (mine.known r) (yours.known r) (owner_whole chain p mine r) (owner_whole chain q yours r) in
    let T : List Part → Type 0 = λ told. (r : ℕ) → PartBegins (part_of told r) (part_of (joint_parts a b p.parts q.parts) r) in
    record {
      known = λ r. rw (joint_at a b p.parts q.parts r) (knows_joint (chain r) (a (r / 2)) (b (r / 2)) (part_of p.parts r) (part_of q.parts r) (mine.known r) (yours.known r));
      gtods = λ c own. rw (joint_at a b p.parts q.parts (gtod_of c)) (rw (cpu_of_gtod c)
          (kept_whole (a c) (b c) (part_of p.parts (gtod_of c)).after (part_of q.parts (gtod_of c)).after (chain (gtod_of c)).after (mine.gtods c) (yours.gtods c) (has_append p.owns q.owns c own)));
      raws = λ c own. rw (joint_at a b p.parts q.parts (raw_of c)) (rw (cpu_of_raw c)
          (kept_whole (a c) (b c) (part_of p.parts (raw_of c)).after (part_of q.parts (raw_of c)).after (chain (raw_of c)).after (mine.raws c) (yours.raws c) (has_append p.owns q.owns c own)));
      told_is = All-cons T p.parts (q.parts ∷ []) (λ r. rw (joint_at a b p.parts q.parts r) (both r).0)
          (All-cons T q.parts [] (λ r. rw (joint_at a b p.parts q.parts r) (both r).1) (All-nil T));
    }
  where
    half : (r : ℕ) → (r ≡ 2 * (r / 2)) ⊎ (r ≡ 2 * (r / 2) + 1)
    half r = dite (ℕ_discrete r (2 * (r / 2))) (λ e. inl e) (λ n. inr (omega arith))

    owner_whole : (chain : ℕ → Chain) (p : PairView) → FitsPairs chain p → (r : ℕ) → has_number p.owns (r / 2) ≡ true → (part_of p.parts r).after ≡ (chain r).after
    owner_whole chain p fits r own = ⊎_elim
        (λ (e : r ≡ 2 * (r / 2)). subst (λ k. (part_of p.parts k).after ≡ (chain k).after) (sym e) (fits.gtods (r / 2) own))
        (λ (e : r ≡ 2 * (r / 2) + 1). subst (λ k. (part_of p.parts k).after ≡ (chain k).after) (sym e) (fits.raws (r / 2) own))
        (half r)

fits_spent : (chain : ℕ → Chain) → FitsPairs chain spent_view.pairs
fits_spent chain = record {
  known = λ r. record { zero_is = inl refl; after = record { rest = (chain r).after; is = refl } };
  gtods = λ c own. absurd (cc);
  raws = λ c own. absurd (cc);
  told_is = no_told [];
}

pub pairs_join : (cpus : ℕ) (opens : ℤ) (chain : ℕ → Chain) (writer : ℕ → ℕ) (words : List ℕ) (views : List View) (id other : ℕ) (v w : View)
    → PairPart cpus opens chain writer words views → get_elem? views id ≡ some v → get_elem? views other ≡ some w → other ≢ id
    → PairPart cpus opens chain (λ c. cond (nat_eq (writer c) other) id (writer c)) words (set (set views id (joint_view v w)) other spent_view)
pairs_join cpus opens chain writer words views id other v w part at there ne =
    let moved : ℕ → ℕ = λ c. cond (nat_eq (writer c) other) id (writer c) in
    let P : ℕ → View → Type 0 = λ j u. (c : ℕ) → has_number u.pairs.owns c ≡ true → writer c ≡ j in
    let M : ℕ → View → Type 0 = λ j u. j ≢ other → (c : ℕ) → has_number u.pairs.owns c ≡ true → moved c ≡ j in
    let Q : ℕ → View → Type 0 = λ j u. (c : ℕ) → has_number u.pairs.owns c ≡ true → moved c ≡ j in
    let R : ℕ → View → Type 0 = λ j u. FitsPairs chain u.pairs in
    let mine = part.writers id v at in
    let yours = part.writers other w there in
    record {
      lasts = part.lasts;
      ahead = part.ahead;
      close = part.close;
      gtods = part.gtods;
      raws = part.raws;
      writers = placed M Q (set views id (joint_view v w)) other spent_view
          (placed P M views id (joint_view v w) part.writers
          (λ j u away q apart c own. let t = ne_eqb (writer c) other (λ h. apart (sym (q c own) ∙ h)) in rw t (q c own))
          (λ apart c own. ⊎_elim
          (λ (h : has_number v.pairs.owns c ≡ true). let t = ne_eqb (writer c) other (λ e. ne (sym e ∙ mine c h)) in rw t (mine c h))
          (λ (h : has_number w.pairs.owns c ≡ true). let t = eq-eqb (writer c) other (yours c h) in rw t refl)
          (has_append v.pairs.owns w.pairs.owns c own)))
          (λ j u apart q. q apart)
          (λ c own. absurd (cc));
      each = placed R R (set views id (joint_view v w)) other spent_view
          (placed R R views id (joint_view v w) part.each (λ j u away q. q) (fits_joint chain v.pairs w.pairs (part.each id v at) (part.each other w there)))
          (λ j u apart q. q)
          (fits_spent chain);
    }

-- what was told is let go
pub pairs_told : (cpus : ℕ) (opens : ℤ) (chain : ℕ → Chain) (writer : ℕ → ℕ) (words : List ℕ) (views : List View) (id : ℕ) (v w : View)
    → PairPart cpus opens chain writer words views → get_elem? views id ≡ some v
    → w.pairs ≡ record { parts = v.pairs.parts; owns = v.pairs.owns; told = [] } → PairPart cpus opens chain writer words (set views id w)
pairs_told cpus opens chain writer words views id v w part at is =
    let P : ℕ → View → Type 0 = λ j u. (c : ℕ) → has_number u.pairs.owns c ≡ true → writer c ≡ j in
    let Q : ℕ → View → Type 0 = λ j u. FitsPairs chain u.pairs in
    let fits = part.each id v at in
    record {
      lasts = part.lasts;
      ahead = part.ahead;
      close = part.close;
      gtods = part.gtods;
      raws = part.raws;
      writers = placed P P views id w part.writers (λ j u ne p. p)
          (λ c h. part.writers id v at c (ap (λ (p : PairView). has_number p.owns c) (sym is) ∙ h));
      each = placed Q Q views id w part.each (λ j u ne p. p)
          (subst (FitsPairs chain) (sym is) (record { known = fits.known; gtods = fits.gtods; raws = fits.raws; told_is = no_told v.pairs.parts }));
    }
