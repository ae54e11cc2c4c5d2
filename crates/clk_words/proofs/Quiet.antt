-- What holds while the mode is stable: the seat with the watchdog's right has seen all, and the pairs rest.
use Rattle.std.proofs.Common.{◌≡◌, ℕ, ◌≤◌, ◌<◌, ℤ, Bool, true, false, cond, not, ◌&&◌, ◌||◌, List, [], ◌∷◌, ◌++◌, length, set, None, Option, refl, sym, ap, ◌∙◌, subst, ⊎_elim, arith}
use mathlib.Core.Option.{some}
use lib.ListN.{get_elem?}
use Rattle.clk_record.specs.declared.step.Step.{Step}
use Rattle.clk_words.specs.declared.view.View.{View}
use Rattle.clk_words.specs.declared.view.Part.{Part}
use Rattle.clk_words.specs.declared.kind.SeatKind.{SeatKind}
use Rattle.clk_words.specs.Kinds.{is_watch}
use Rattle.clk_words.specs.Fronts.{Begins}
use Rattle.clk_words.specs.Parts.{part_of, either_zero}
use Rattle.clk_words.specs.Rights.{has_number}
use Rattle.clk_words.specs.Views.{giver_view, given_view, joint_view, spent_view, longer}
use Rattle.clk_words.specs.WordsRule.{Chain, Knows, HasSeenAll, IsQuiet}
use Rattle.clk_words.proofs.Fronts.{begins_whole, begins_length}
use Rattle.clk_words.proofs.Owning.{or_cases}
use Rattle.clk_words.proofs.Clocks.{longer_case}
use Rattle.clk_words.proofs.Registers.{joint_at}
use Rattle.clk_words.proofs.Modes.{and_left, and_false, HasWatch}
use Rattle.clk_words.proofs.Places.{placed, grown}

-- one view changes
pub whole_view : (history : List Step) (views : List View) (id : ℕ) (w : View) → HasSeenAll history views → (w.modes.watch ≡ true → w.seen ≡ history)
    → HasSeenAll history (set views id w)
whole_view history views id w all here =
    let P : ℕ → View → Type 0 = λ j u. u.modes.watch ≡ true → u.seen ≡ history in
    placed P P views id w all (λ j u ne p. p) here

pub quiet_view : (chain : ℕ → Chain) (views : List View) (id : ℕ) (w : View) → IsQuiet chain views → ((r : ℕ) → (part_of w.pairs.parts r).zero ≡ None)
    → (w.modes.watch ≡ true → (r : ℕ) → Knows (chain r) (part_of w.modes.cloned r)) → IsQuiet chain (set views id w)
quiet_view chain views id w quiet unknown cloned =
    let P : ℕ → View → Type 0 = λ j u. (r : ℕ) → (part_of u.pairs.parts r).zero ≡ None in
    let Q : ℕ → View → Type 0 = λ j u. u.modes.watch ≡ true → (r : ℕ) → Knows (chain r) (part_of u.modes.cloned r) in
    record {
      bare = quiet.bare;
      unknown = placed P P views id w quiet.unknown (λ j u ne p. p) unknown;
      cloned = placed Q Q views id w quiet.cloned (λ j u ne q. q) cloned;
    }

-- a split
pub whole_split : (history : List Step) (views : List View) (id : ℕ) (v : View) (kind : SeatKind) → HasSeenAll history views → get_elem? views id ≡ some v
    → HasWatch (is_watch kind) v.modes → HasSeenAll history (set views id (giver_view kind v) ++ given_view kind v ∷ [])
whole_split history views id v kind all at has =
    let P : ℕ → View → Type 0 = λ j u. u.modes.watch ≡ true → u.seen ≡ history in
    grown P P (set views id (giver_view kind v)) (given_view kind v)
    (placed P P views id (giver_view kind v) all (λ j u ne p. p) (λ h. all id v at (and_left v.modes.watch (not (is_watch kind)) h)))
    (λ j u p. p)
    (λ h. all id v at (has_it (is_watch kind) has h))
  where
    has_it : (w : Bool) → HasWatch w v.modes → w ≡ true → v.modes.watch ≡ true
    has_it true h e = h
    has_it false h e = absurd (cc)

pub quiet_split : (chain : ℕ → Chain) (views : List View) (id : ℕ) (v : View) (kind : SeatKind) → IsQuiet chain views → get_elem? views id ≡ some v
    → HasWatch (is_watch kind) v.modes → IsQuiet chain (set views id (giver_view kind v) ++ given_view kind v ∷ [])
quiet_split chain views id v kind quiet at has =
    let P : ℕ → View → Type 0 = λ j u. (r : ℕ) → (part_of u.pairs.parts r).zero ≡ None in
    let Q : ℕ → View → Type 0 = λ j u. u.modes.watch ≡ true → (r : ℕ) → Knows (chain r) (part_of u.modes.cloned r) in
    let none = quiet.unknown id v at in
    let held = quiet.cloned id v at in
    record {
      bare = quiet.bare;
      unknown = grown P P (set views id (giver_view kind v)) (given_view kind v)
          (placed P P views id (giver_view kind v) quiet.unknown (λ j u ne p. p) none) (λ j u p. p) none;
      cloned = grown Q Q (set views id (giver_view kind v)) (given_view kind v)
          (placed Q Q views id (giver_view kind v) quiet.cloned (λ j u ne q. q) (still (is_watch kind) held))
          (λ j u q. q)
          (on (is_watch kind) has held);
    }
  where
    still : (w : Bool) → (v.modes.watch ≡ true → (r : ℕ) → Knows (chain r) (part_of v.modes.cloned r)) → (v.modes.watch && not w) ≡ true
        → (r : ℕ) → Knows (chain r) (part_of (cond w [] v.modes.cloned) r)
    still true held h r = absurd (and_false v.modes.watch h)
    still false held h r = held (and_left v.modes.watch true h) r

    on : (w : Bool) → HasWatch w v.modes → (v.modes.watch ≡ true → (r : ℕ) → Knows (chain r) (part_of v.modes.cloned r)) → w ≡ true
        → (r : ℕ) → Knows (chain r) (part_of (cond w v.modes.cloned []) r)
    on true h held e r = held h r
    on false h held e r = absurd (cc)

-- a join
longer_left : (xs ys : List Step) → Begins ys xs → longer xs ys ≡ xs
longer_left xs ys b = ⊎_elim
    (λ (c : (longer xs ys ≡ ys) × (length xs < length ys)). let short = begins_length ys xs b in absurd (omega (arith, c.1)))
    (λ (c : (longer xs ys ≡ xs) × (length ys ≤ length xs)). c.0)
    (longer_case xs ys)

longer_right : (xs ys : List Step) → Begins xs ys → longer xs ys ≡ ys
longer_right xs ys b = ⊎_elim
    (λ (c : (longer xs ys ≡ ys) × (length xs < length ys)). c.0)
    (λ (c : (longer xs ys ≡ xs) × (length ys ≤ length xs)). c.0 ∙ begins_whole xs ys b c.1)
    (longer_case xs ys)

pub whole_join : (history : List Step) (views : List View) (id other : ℕ) (v w : View) → HasSeenAll history views → get_elem? views id ≡ some v → get_elem? views other ≡ some w
    → Begins v.seen history → Begins w.seen history → HasSeenAll history (set (set views id (joint_view v w)) other spent_view)
whole_join history views id other v w all at there front back =
    let P : ℕ → View → Type 0 = λ j u. u.modes.watch ≡ true → u.seen ≡ history in
    placed P P (set views id (joint_view v w)) other spent_view
    (placed P P views id (joint_view v w) all (λ j u ne p. p)
    (λ h. ⊎_elim
    (λ (k : v.modes.watch ≡ true). let e = all id v at k in longer_left v.seen w.seen (subst (Begins w.seen) (sym e) back) ∙ e)
    (λ (k : w.modes.watch ≡ true). let e = all other w there k in longer_right v.seen w.seen (subst (Begins v.seen) (sym e) front) ∙ e)
    (or_cases v.modes.watch w.modes.watch h)))
    (λ j u ne p. p)
    (λ h. absurd (cc))

pub quiet_join : (chain : ℕ → Chain) (views : List View) (id other : ℕ) (v w : View) → IsQuiet chain views → get_elem? views id ≡ some v → get_elem? views other ≡ some w
    → IsQuiet chain (set (set views id (joint_view v w)) other spent_view)
quiet_join chain views id other v w quiet at there =
    let P : ℕ → View → Type 0 = λ j u. (r : ℕ) → (part_of u.pairs.parts r).zero ≡ None in
    let Q : ℕ → View → Type 0 = λ j u. u.modes.watch ≡ true → (r : ℕ) → Knows (chain r) (part_of u.modes.cloned r) in
    record {
      bare = quiet.bare;
      unknown = placed P P (set views id (joint_view v w)) other spent_view
          (placed P P views id (joint_view v w) quiet.unknown (λ j u ne p. p)
          (λ r. ap (λ (p : Part). p.zero) (joint_at (has_number v.pairs.owns) (has_number w.pairs.owns) v.pairs.parts w.pairs.parts r)
          ∙ both_none (part_of v.pairs.parts r).zero (part_of w.pairs.parts r).zero (quiet.unknown id v at r) (quiet.unknown other w there r)))
          (λ j u ne p. p)
          (λ r. refl);
      cloned = placed Q Q (set views id (joint_view v w)) other spent_view
          (placed Q Q views id (joint_view v w) quiet.cloned (λ j u ne q. q)
          (either v.modes.watch w.modes.watch (quiet.cloned id v at) (quiet.cloned other w there)))
          (λ j u ne q. q)
          (λ h. absurd (cc));
    }
  where
    both_none : (x y : Option ℤ) → x ≡ None → y ≡ None → either_zero x y ≡ None
    both_none x y e f = rw e f

    either : (a b : Bool) → (a ≡ true → (r : ℕ) → Knows (chain r) (part_of v.modes.cloned r)) → (b ≡ true → (r : ℕ) → Knows (chain r) (part_of w.modes.cloned r))
        → (a || b) ≡ true → (r : ℕ) → Knows (chain r) (part_of (cond a v.modes.cloned w.modes.cloned) r)
    either true b f g h r = f refl r
    either false b f g h r = g h r

-- a step of the seat with the right
pub whole_makes : (history : List Step) (views : List View) (id watcher : ℕ) (w : View) (s : Step) → HasSeenAll history views
    → ((j : ℕ) (u : View) → get_elem? views j ≡ some u → u.modes.watch ≡ true → watcher ≡ j) → watcher ≡ id → w.seen ≡ history ++ s ∷ []
    → HasSeenAll (history ++ s ∷ []) (set views id w)
whole_makes history views id watcher w s all watches mine e =
    let P : ℕ → View → Type 0 = λ j u. u.modes.watch ≡ true → watcher ≡ j in
    let Q : ℕ → View → Type 0 = λ j u. u.modes.watch ≡ true → u.seen ≡ history ++ s ∷ [] in
    placed P Q views id w watches (λ j u ne p h. absurd (ne (sym (p h) ∙ mine))) (λ h. e)
