-- The rule holds of a new lock, is kept by its split and its join, and says at the end what stands in the slot.
use Rattle.std.proofs.Common.{◌≡◌, ◌≢◌, ℕ, zero, suc, ◌<◌, ◌≤◌, List, [], ◌∷◌, ◌++◌, length, get_or, set, Some, Option, refl, sym, ap, ◌∙◌, subst, ⊎_elim, arith, length-append}
use Rattle.std.specs.List.{sum_by}
use Rattle.std.proofs.lemmas.List.Sums.{sum_by-cons}
use Rattle.std.proofs.lemmas.Bool.{cases_eq}
use mathlib.Core.Option.{Option as Maybe, some, some-injective, some-ne-none}
use mathlib.Core.List.{IsPrefix}
use lib.ListN.{get_elem?}
use Rattle.atomic_table.specs.Table.{Splits, Joins, Final, Seen, opening}
use Rattle.atomic_table.proofs.Lists.{at_set}
use Rattle.clk_record.specs.declared.warp.Side.{Side}
use Rattle.clk_record.specs.declared.warp.Side.TheVariants.{Source, Target}
use Rattle.clk_warp.specs.declared.section.Section.{Section}
use Rattle.clk_warp.specs.declared.view.Role.{Role}
use Rattle.clk_warp.specs.declared.view.Role.TheVariants.{First, Of, Joined, Spent}
use Rattle.clk_warp.specs.declared.view.Stage.TheVariants.{Away}
use Rattle.clk_warp.specs.declared.view.View.{View}
use Rattle.clk_warp.specs.Run.{Run}
use Rattle.clk_warp.specs.Sections.{after, AreSections}
use Rattle.clk_warp.specs.LockRule.{Locked, next, serving, rank, place, Known, NoneIs, Kept, knows_first, knows_side, knows_both, knows_nothing}
use Rattle.clk_warp.proofs.Folding.{prefix_self, at_below}
use Rattle.clk_warp.proofs.LockSteps.{total_set, view_set, none_before, apart_set}

-- ---- roles

first_not_of : (side : Side) → First ≡ Of side → ⊥
first_not_of side e = cc

first_not_joined : First ≡ Joined → ⊥
first_not_joined e = cc

first_not_spent : First ≡ Spent → ⊥
first_not_spent e = cc

of_not_first : (side : Side) → Of side ≡ First → ⊥
of_not_first side e = cc

of_not_joined : (side : Side) → Of side ≡ Joined → ⊥
of_not_joined side e = cc

of_not_spent : (side : Side) → Of side ≡ Spent → ⊥
of_not_spent side e = cc

joined_not_first : Joined ≡ First → ⊥
joined_not_first e = cc

joined_not_of : (side : Side) → Joined ≡ Of side → ⊥
joined_not_of side e = cc

joined_not_spent : Joined ≡ Spent → ⊥
joined_not_spent e = cc

spent_not_first : Spent ≡ First → ⊥
spent_not_first e = cc

spent_not_of : (side : Side) → Spent ≡ Of side → ⊥
spent_not_of side e = cc

spent_not_joined : Spent ≡ Joined → ⊥
spent_not_joined e = cc

same_side_of : (a b : Side) → Of a ≡ Of b → a ≡ b
same_side_of a b eq = cc

-- ---- views at the first places

at_one : (P : ℕ → View → Type 0) (a : View) → P 0 a → (j : ℕ) (v : View) → get_elem? (a ∷ []) j ≡ some v → P j v
at_one P a p zero v e = subst (P 0) (some-injective a v e) p
at_one P a p (suc j) v e = absurd (some-ne-none v (sym e))

at_pair : (P : ℕ → View → Type 0) (a b : View) → P 0 a → P 1 b → (j : ℕ) (v : View) → get_elem? (a ∷ (b ∷ [])) j ≡ some v → P j v
at_pair P a b p q zero v e = subst (P 0) (some-injective a v e) p
at_pair P a b p q (suc zero) v e = subst (P 1) (some-injective b v e) q
at_pair P a b p q (suc (suc j)) v e = absurd (some-ne-none v (sym e))

-- ---- a new lock

knows_at_first : (first : Run) (n m j : ℕ) → Known first [] n m j (knows_first first)
knows_at_first first n m j = record {
  first_is = λ _. refl;
  known = prefix_self [];
  told = prefix_self [];
  drawn = λ r. absurd (omega arith);
  called = λ r. absurd (omega arith);
  inside = λ r. absurd (omega arith);
  holds = λ r. absurd (omega arith);
  gave = λ r. absurd (omega arith);
  at = λ side e. absurd (first_not_of side e);
  mine = λ side e. absurd (first_not_of side e);
  mine_known = λ side e. absurd (first_not_of side e);
  idle = λ _. refl;
  spent = λ _. refl;
}

pub starts : (first : Run) → Kept first (opening (0 ∷ (0 ∷ [])) (Some first ∷ []) (knows_first first))
starts first = record {
  all = [];
  wide = refl;
  single = refl;
  fits = omega arith;
  order = omega arith;
  legal = tt;
  home = λ _. refl;
  count = λ _. refl;
  made = refl;
  known = at_one (λ j v. Known first [] 0 0 j v) (knows_first first) (knows_at_first first 0 0 0);
  apart = λ i j v w e f rv rw_ t. absurd (at_one (λ _ u. 1 ≤ rank u.stage → ⊥) (knows_first first) (λ r. omega arith) i v e rv);
  whole = λ j v e is. (refl, refl);
  joined = λ i j v w e f is other. absurd (at_one (λ _ u. u.role ≡ Joined → ⊥) (knows_first first) first_not_joined i v e is);
}

-- ---- the split of the first seat

knows_at_side : (first : Run) (n m : ℕ) (side : Side) (v : View) → v.first ≡ Some first → Known first [] n m (place side) (knows_side side v)
knows_at_side first n m side v is = record {
  first_is = λ _. is;
  known = prefix_self [];
  told = prefix_self [];
  drawn = λ r. absurd (omega arith);
  called = λ r. absurd (omega arith);
  inside = λ r. absurd (omega arith);
  holds = λ r. absurd (omega arith);
  gave = λ r. absurd (omega arith);
  at = λ t e. ap place (same_side_of side t e);
  mine = λ t e. refl;
  mine_known = λ t e. refl;
  idle = λ none. refl;
  spent = λ e. absurd (of_not_spent side e);
}

split_one : (first : Run) (words : List ℕ) (homes : List (Maybe (Option Run))) (v : View)
    → Kept first (record { words = words; homes = homes; views = v ∷ [] }) → v.role ≡ First
    → Kept first (record { words = words; homes = homes; views = knows_side Source v ∷ (knows_side Target v ∷ []) })
split_one first words homes v k is =
    let h = k.known 0 v refl in
    let none : k.all ≡ [] = (k.whole 0 v refl is).1 in
    let known_first = h.first_is (λ e. first_not_spent (sym is ∙ e)) in
    let idle : rank v.stage ≡ 0 = h.idle (λ side e. first_not_of side (sym is ∙ e)) in
    record {
      all = [];
      wide = k.wide;
      single = k.single;
      fits = k.fits;
      order = k.order;
      legal = tt;
      home = λ g. subst (λ (es : List Section). get_elem? homes 0 ≡ some (some (Some (after first es)))) none
          (k.home (at_one (λ _ u. rank u.stage ≢ 3) v (λ r. omega arith)));
      count = λ g. sym (ap length none) ∙ k.count (at_one (λ _ u. rank u.stage ≢ 4) v (λ r. omega arith));
      made = refl;
      known = at_pair (λ j u. Known first [] (get_or words 0 0) (get_or words 1 0) j u) (knows_side Source v) (knows_side Target v)
          (knows_at_side first (get_or words 0 0) (get_or words 1 0) Source v known_first)
          (knows_at_side first (get_or words 0 0) (get_or words 1 0) Target v known_first);
      apart = λ i j a b e f ra rb t. absurd (at_pair (λ _ u. 1 ≤ rank u.stage → ⊥) (knows_side Source v) (knows_side Target v) (λ r. omega arith) (λ r. omega arith) i a e ra);
      whole = λ j a e one. absurd (at_pair (λ _ u. u.role ≡ First → ⊥) (knows_side Source v) (knows_side Target v) (of_not_first Source) (of_not_first Target) j a e one);
      joined = λ i j a b e f one other. absurd (at_pair (λ _ u. u.role ≡ Joined → ⊥) (knows_side Source v) (knows_side Target v) (of_not_joined Source) (of_not_joined Target) i a e one);
    }

split_views : (first : Run) (id : ℕ) (v : View) (words : List ℕ) (homes : List (Maybe (Option Run))) (views : List View)
    → Kept first (record { words = words; homes = homes; views = views }) → length views ≡ 1 → get_elem? views id ≡ some v → v.role ≡ First
    → Kept first (record { words = words; homes = homes; views = set views id (knows_side Source v) ++ knows_side Target v ∷ [] })
split_views first id v words homes [] k one at is = absurd (omega arith)
split_views first zero v words homes (x ∷ []) k one at is =
    let same : x ≡ v = some-injective x v at in
    split_one first words homes v (subst (λ (y : View). Kept first (record { words = words; homes = homes; views = y ∷ [] })) same k) is
split_views first (suc id) v words homes (x ∷ []) k one at is = absurd (some-ne-none v (sym at))
split_views first id v words homes (x ∷ (y ∷ views)) k one at is = absurd (omega arith)

pub splits : (first : Run) (id : ℕ) (v : View) → v.role ≡ First → Splits (Kept first) id v (knows_side Source v) (knows_side Target v)
splits first id v is s k at = split_views first id v s.words s.homes s.views k (k.whole id v at is).0 at is

-- ---- the join of the two sides' seats

-- three places are not those of two sides
two_places : (a b c : Side) (i j k : ℕ) → i ≡ place a → j ≡ place b → k ≡ place c → i ≢ j → k ≢ i → k ≢ j → ⊥
two_places Source Source c i j k e f g ij ki kj = ij (e ∙ sym f)
two_places Target Target c i j k e f g ij ki kj = ij (e ∙ sym f)
two_places Source Target Source i j k e f g ij ki kj = ki (g ∙ sym e)
two_places Source Target Target i j k e f g ij ki kj = kj (g ∙ sym f)
two_places Target Source Source i j k e f g ij ki kj = kj (g ∙ sym f)
two_places Target Source Target i j k e f g ij ki kj = ki (g ∙ sym e)

-- any other view is spent
other_spent : (first : Run) (s : Locked) (k : Kept first s) (id other j : ℕ) (v w u : View) (a b : Side) (r : Role) → get_elem? s.views id ≡ some v → get_elem? s.views other ≡ some w
    → get_elem? s.views j ≡ some u → v.role ≡ Of a → w.role ≡ Of b → id ≢ other → j ≢ id → j ≢ other → u.role ≡ r → r ≡ Spent
other_spent first s k id other j v w u a b First at there e va wb apart ji jo is =
    let one = (k.whole j u e is).0 in
    let p = at_below s.views id v at in
    let q = at_below s.views j u e in
    absurd (ji (omega arith))
other_spent first s k id other j v w u a b (Of c) at there e va wb apart ji jo is =
    absurd (two_places a b c id other j ((k.known id v at).at a va) ((k.known other w there).at b wb) ((k.known j u e).at c is) apart ji jo)
other_spent first s k id other j v w u a b Joined at there e va wb apart ji jo is =
    absurd (of_not_spent a (sym va ∙ k.joined j id u v e at is (λ (same : id ≡ j). ji (sym same))))
other_spent first s k id other j v w u a b Spent at there e va wb apart ji jo is = refl

known_spent : (first : Run) (all : List Section) (n m j : ℕ) → Known first all n m j knows_nothing
known_spent first all n m j = record {
  first_is = λ no_spent. absurd (no_spent refl);
  known = (all, refl);
  told = (all, refl);
  drawn = λ r. absurd (omega arith);
  called = λ r. absurd (omega arith);
  inside = λ r. absurd (omega arith);
  holds = λ r. absurd (omega arith);
  gave = λ r. absurd (omega arith);
  at = λ side e. absurd (spent_not_of side e);
  mine = λ side e. absurd (spent_not_of side e);
  mine_known = λ side e. absurd (spent_not_of side e);
  idle = λ _. refl;
  spent = λ _. refl;
}

known_both : (first : Run) (all : List Section) (n m i j : ℕ) (v w : View) → Known first all n m i v → Known first all n m j w → v.role ≢ Spent → v.stage ≡ Away
    → Known first all n m i (knows_both v w)
known_both first all n m i j v w h g side away =
    let none : rank v.stage ≡ 0 = ap rank away in
    record {
      first_is = λ _. h.first_is side;
      known = h.known;
      told = g.known;
      drawn = λ r. absurd (omega arith);
      called = λ r. absurd (omega arith);
      inside = λ r. absurd (omega arith);
      holds = λ r. absurd (omega arith);
      gave = λ r. absurd (omega arith);
      at = λ t e. absurd (joined_not_of t e);
      mine = λ t e. absurd (joined_not_of t e);
      mine_known = λ t e. absurd (joined_not_of t e);
      idle = λ _. none;
      spent = λ e. absurd (joined_not_spent e);
    }

-- the only joined one is the one that stays
joined_is : (first : Run) (s : Locked) (k : Kept first s) (id other : ℕ) (v w both : View) (a b : Side) → get_elem? s.views id ≡ some v → get_elem? s.views other ≡ some w
    → v.role ≡ Of a → w.role ≡ Of b → (other ≢ id) → (i : ℕ) (x : View) → get_elem? (set (set s.views id both) other knows_nothing) i ≡ some x → x.role ≡ Joined → i ≡ id
joined_is first s k id other v w both a b at there va wb apart i x e is = ⊎_elim
    (λ (y : (i ≡ other) × (knows_nothing ≡ x)). absurd (spent_not_joined (ap (λ (z : View). z.role) y.1 ∙ is)))
    (λ (y : (i ≢ other) × (get_elem? (set s.views id both) i ≡ some x)). ⊎_elim
    (λ (z : (i ≡ id) × (both ≡ x)). z.0)
    (λ (z : (i ≢ id) × (get_elem? s.views i ≡ some x)).
    absurd (spent_not_joined (sym (other_spent first s k id other i v w x a b x.role at there z.1 va wb (λ (same : id ≡ other). apart (sym same)) z.0 y.0 refl) ∙ is)))
    (at_set s.views id i both x y.1))
    (at_set (set s.views id both) other i knows_nothing x e)

pub joins : (first : Run) (id other : ℕ) (v w : View) (a b : Side) → v.role ≡ Of a → w.role ≡ Of b → v.stage ≡ Away → w.stage ≡ Away
    → Joins (Kept first) id v other w (knows_both v w) knows_nothing
joins first id other v w a b va wb v_away w_away s k at apart there_now =
    let both = knows_both v w in
    let views = set s.views id both in
    let there : get_elem? s.views other ≡ some w = ⊎_elim
    (λ (x : (other ≡ id) × (both ≡ w)). absurd (apart x.0))
    (λ (x : (other ≢ id) × (get_elem? s.views other ≡ some w)). x.1)
    (at_set s.views id other both w there_now) in
    let v_none : rank v.stage ≡ 0 = ap rank v_away in
    let w_none : rank w.stage ≡ 0 = ap rank w_away in
    let spent_else = (λ (j : ℕ) (u : View) (ji : j ≢ id) (jo : j ≢ other) (e : get_elem? s.views j ≡ some u).
    other_spent first s k id other j v w u a b u.role at there e va wb (λ (same : id ≡ other). apart (sym same)) ji jo refl) in
    record {
      all = k.all;
      wide = k.wide;
      single = k.single;
      fits = k.fits;
      order = k.order;
      legal = k.legal;
      home = λ g. k.home (none_before 3 id v both s.views at (λ r. omega arith) (none_before 3 other w knows_nothing views there_now (λ r. omega arith) g));
      count = λ g. k.count (none_before 4 id v both s.views at (λ r. omega arith) (none_before 4 other w knows_nothing views there_now (λ r. omega arith) g));
      made = omega (
        arith,
        k.made,
        total_set (λ (u : View). length u.own) s.views id v both at,
        total_set (λ (u : View). length u.own) views other w knows_nothing there_now,
        length-append v.own w.own,
      );
      known = view_set (λ j u. Known first k.all (next s) (serving s) j u) other knows_nothing views
          (λ j u jo e. view_set (λ i y. Known first k.all (next s) (serving s) i y) id both s.views (λ i y ii f. k.known i y f)
          (known_both first k.all (next s) (serving s) id other v w (k.known id v at) (k.known other w there) (λ e. of_not_spent a (sym va ∙ e)) v_away) j u e)
          (known_spent first k.all (next s) (serving s) other);
      apart = apart_set other knows_nothing views
          (apart_set id both s.views k.apart (λ j u ji e ru rb. absurd (omega arith)))
          (λ j u jo e ru rn. absurd (omega arith));
      whole = λ j u e is. absurd (view_set (λ _ y. y.role ≡ First → ⊥) other knows_nothing views
          (λ i y io f. view_set (λ p z. p ≢ other → z.role ≡ First → ⊥) id both s.views
          (λ p z pi q po one. spent_not_first (sym (spent_else p z pi po q) ∙ one)) (λ _ one. joined_not_first one) i y f io)
          spent_not_first j u e is);
      joined = λ i j x y e f is ji. view_set (λ p z. p ≢ i → z.role ≡ Spent) other knows_nothing views
          (λ p z po q pi. view_set (λ p2 z2. p2 ≢ other → p2 ≢ i → z2.role ≡ Spent) id both s.views
          (λ p2 z2 p2i q2 p2o _. spent_else p2 z2 p2i p2o q2)
          (λ _ id_not. absurd (id_not (sym (joined_is first s k id other v w both a b at there va wb apart i x e is))))
          p z q po pi)
          (λ _. refl) j y f ji;
    }

-- ---- the end

-- the sum has what one place has, where the others have nothing
sum_none : {A : Type 0} (f : A → ℕ) (xs : List A) → ((j : ℕ) (u : A) → get_elem? xs j ≡ some u → f u ≡ 0) → sum_by f xs ≡ 0
sum_none f [] zeros = refl
sum_none f (x ∷ xs) zeros = omega (arith, sum_by-cons f x xs, zeros 0 x refl, sum_none f xs (λ j u e. zeros (suc j) u e))

sum_only : {A : Type 0} (f : A → ℕ) (xs : List A) (i : ℕ) (a : A) → get_elem? xs i ≡ some a → ((j : ℕ) (u : A) → j ≢ i → get_elem? xs j ≡ some u → f u ≡ 0)
    → sum_by f xs ≡ f a
sum_only f [] i a at zeros = absurd (some-ne-none a (sym at))
sum_only f (x ∷ xs) zero a at zeros =
    omega (arith, sum_by-cons f x xs, ap f (some-injective x a at), sum_none f xs (λ j u e. zeros (suc j) u (λ (z : suc j ≡ 0). omega arith) e))
sum_only f (x ∷ xs) (suc i) a at zeros =
    omega (arith, sum_by-cons f x xs, zeros 0 x (λ (z : 0 ≡ suc i). omega arith) refl, sum_only f xs i a at (λ j u ji e. zeros (suc j) u (λ (z : suc j ≡ suc i). ji (omega arith)) e))

-- what stands in the slot, and how many sections there are
pub record IsEnd (first : Run) (v : View) (xs : List (Option Run)) : Type 0 where
  pub all : List Section
  pub legal : AreSections first all
  pub slot : get_elem? xs 0 ≡ some (Some (after first all))
  pub count : length all ≡ length v.own
  pub known : IsPrefix v.known all
  pub told : IsPrefix v.told all

-- beside a joined seat none has come anywhere
none_far : (first : Run) (s : Locked) (k : Kept first s) (id : ℕ) (v : View) → get_elem? s.views id ≡ some v → v.role ≡ Joined → (r : ℕ) → 0 < r → NoneIs r s.views
none_far first s k id v at is r low j u e so = ⊎_elim {C = ⊥}
    (λ (same : j ≡ id).
    let here : u ≡ v = some-injective u v (sym e ∙ subst (λ (i : ℕ). get_elem? s.views i ≡ some v) (sym same) at) in
    let none_v : rank v.stage ≡ 0 = (k.known id v at).idle (λ side f. joined_not_of side (sym is ∙ f)) in
    let none_u : rank u.stage ≡ 0 = ap (λ (x : View). rank x.stage) here ∙ none_v in
    omega arith)
    (λ (other : j ≢ id).
    let none_u : rank u.stage ≡ 0 = (k.known j u e).idle (λ side f. spent_not_of side (sym (k.joined id j v u at e is other) ∙ f)) in
    omega arith)
    (cases_eq j id)

pub finishes : (first : Run) (id : ℕ) (v : View) (words : List ℕ) (xs : List (Option Run)) → v.role ≡ Joined → Final (Seen (Kept first) id v) words xs → IsEnd first v xs
finishes first id v words xs is final =
    let s = final.0 in
    let k = final.1.0 in
    let at = final.1.1 in
    let h = k.known id v at in
    record {
      all = k.all;
      legal = k.legal;
      slot = final.4 0 (Some (after first k.all)) (k.home (none_far first s k id v at is 3 (omega arith)));
      count = sym k.made ∙ sum_only (λ (u : View). length u.own) s.views id v at (λ j u other e. ap length ((k.known j u e).spent (k.joined id j v u at e is other)));
      known = h.known;
      told = h.told;
    }
