-- Each step of the warp lock keeps the rule.
use Rattle.std.proofs.Common.{◌≡◌, ◌≢◌, ℕ, zero, suc, ◌+◌, ◌%◌, ◌^◌, ◌<◌, ◌≤◌, eqb, false, List, [], ◌∷◌, ◌++◌, length, get_or, set, Some, Option, refl, sym, ap, ◌∙◌, subst, ⊎_elim, arith, length-set, get_or-set_same, get_or-set_other}
use Rattle.std.specs.List.{sum_by}
use Rattle.std.proofs.lemmas.List.{set-get_or, length_push}
use Rattle.std.proofs.lemmas.List.Sums.{sum_by-cons}
use Rattle.std.proofs.lemmas.Bool.{cases_eq}
use mathlib.Core.Option.{Option as Maybe, some, none, some-injective, some-ne-none}
use mathlib.Core.List.{IsPrefix}
use lib.ListN.{get_elem?}
use prog.Atomic.{either}
use Rattle.atomic_table.specs.Table.{Me, Act, keeps, takes, gives, step, stepped, carried_after, Valid, Allows}
use Rattle.atomic_table.proofs.Lists.{at_set, set_here, set_else, set_again, exchanged}
use Rattle.clk_record.specs.declared.warp.Side.{Side}
use Rattle.clk_record.specs.declared.warp.Side.TheVariants.{Source, Target}
use Rattle.clk_record.specs.Sides.{other_side}
use Rattle.clk_warp.specs.declared.section.Section.{Section}
use Rattle.clk_warp.specs.declared.view.Role.TheVariants.{First, Of, Joined, Spent}
use Rattle.clk_warp.specs.declared.view.Stage.TheVariants.{Away, Waiting, Called as CalledStage, Inside as InsideStage, Given}
use Rattle.clk_warp.specs.declared.view.View.{View}
use Rattle.clk_warp.specs.Run.{Run, change, IsSection, is_of}
use Rattle.clk_warp.specs.Sections.{after, AreSections, MayMake}
use Rattle.clk_warp.specs.LockRule.{Locked, next, serving, rank, place, Known, NoneIs, Kept, knows_ticket, knows_called, knows_inside, knows_given, knows_away, Drew, Called, Took, Gave, Raised}
use Rattle.clk_warp.proofs.Folding.{after_push, legal_push, both_push, theirs_push, prefix_self, prefix_push, at_below}

-- ---- lists of views of which one changes

pub total_set : {A : Type 0} (f : A → ℕ) (xs : List A) (i : ℕ) (a b : A) → get_elem? xs i ≡ some a → sum_by f (set xs i b) + f a ≡ sum_by f xs + f b
total_set f [] i a b at = absurd (some-ne-none a (sym at))
total_set f (x ∷ xs) zero a b at = omega (arith, sum_by-cons f b xs, sum_by-cons f x xs, ap f (some-injective x a at))
total_set f (x ∷ xs) (suc i) a b at = omega (arith, sum_by-cons f x (set xs i b), sum_by-cons f x xs, total_set f xs i a b at)

-- what holds of all views after one has changed
pub view_set : (P : ℕ → View → Type 0) (id : ℕ) (w : View) (views : List View) → ((j : ℕ) (u : View) → j ≢ id → get_elem? views j ≡ some u → P j u) → P id w
    → (j : ℕ) (u : View) → get_elem? (set views id w) j ≡ some u → P j u
view_set P id w views others mine j u e =
    ⊎_elim
    (λ (x : (j ≡ id) × (w ≡ u)). subst (λ i. P i u) (sym x.0) (subst (P id) x.1 mine))
    (λ (x : (j ≢ id) × (get_elem? views j ≡ some u)). others j u x.0 x.1)
    (at_set views id j w u e)

-- what one view is found as
pub same_view : (views : List View) (id : ℕ) (v u : View) → get_elem? views id ≡ some v → get_elem? views id ≡ some u → v ≡ u
same_view views id v u e f = some-injective v u (sym e ∙ f)

-- where no view is so far after one has changed, and it was not so far before, none was
pub none_before : (r id : ℕ) (v w : View) (views : List View) → get_elem? views id ≡ some v → rank v.stage ≢ r → NoneIs r (set views id w) → NoneIs r views
none_before r id v w views at not_so after_it j u e so = ⊎_elim
    (λ (same : j ≡ id). not_so (subst (λ (x : View). rank x.stage ≡ r) (sym (same_view views id v u at (subst (λ i. get_elem? views i ≡ some u) same e))) so))
    (λ (other : j ≢ id). after_it j u (set_else views id j w other ∙ e) so)
    (cases_eq j id)

-- no other view is so far, since its ticket would be the same
pub alone : (first : Run) (s : Locked) (r id : ℕ) (v : View) (k : Kept first s) → get_elem? s.views id ≡ some v → 2 ≤ rank v.stage → 2 ≤ r
    → rank v.stage ≢ r → NoneIs r s.views
alone first s r id v k at far low not_so j u e so =
    let a = (k.known id v at).called far in
    let b = (k.known j u e).called (omega arith) in
    let same : id ≡ j = k.apart id j v u at e (omega arith) (omega arith) (a ∙ sym b) in
    not_so (subst (λ (x : View). rank x.stage ≡ r) (sym (same_view s.views id v u at (subst (λ i. get_elem? s.views i ≡ some u) (sym same) e))) so)

-- nor is another one called
pub none_called : (first : Run) (s : Locked) (id j : ℕ) (v u : View) (k : Kept first s) → get_elem? s.views id ≡ some v → get_elem? s.views j ≡ some u → j ≢ id
    → 2 ≤ rank v.stage → 2 ≤ rank u.stage → ⊥
none_called first s id j v u k at e other far further =
    other (sym (k.apart id j v u at e (omega arith) (omega arith) ((k.known id v at).called far ∙ sym ((k.known j u e).called further))))

-- ---- any change of one view

pub record Moves (first : Run) (s : Locked) (k : Kept first s) (id : ℕ) (v w : View) (n m : ℕ) (all : List Section) (homes : List (Maybe (Option Run))) : Type 0 where
  pub side : Side
  pub of : v.role ≡ Of side
  pub role : w.role ≡ v.role
  pub fits : n < 2 ^ 64
  pub order : m ≤ n
  pub legal : AreSections first all
  pub mine : Known first all n m id w
  pub others : (j : ℕ) (u : View) → j ≢ id → get_elem? s.views j ≡ some u → Known first all n m j u
  pub single : length homes ≡ 1
  pub home : NoneIs 3 (set s.views id w) → get_elem? homes 0 ≡ some (some (Some (after first all)))
  pub count : NoneIs 4 (set s.views id w) → length all ≡ m
  pub made : length w.own + length k.all ≡ length v.own + length all
  pub apart : (j : ℕ) (u : View) → j ≢ id → get_elem? s.views j ≡ some u → 1 ≤ rank u.stage → 1 ≤ rank w.stage → u.ticket ≢ w.ticket

side_not_first : (side : Side) → Of side ≡ First → ⊥
side_not_first side e = cc

side_not_joined : (side : Side) → Of side ≡ Joined → ⊥
side_not_joined side e = cc

side_not_spent : (side : Side) → Of side ≡ Spent → ⊥
side_not_spent side e = cc

-- a ticket has one seat still
pub apart_set : (id : ℕ) (w : View) (views : List View)
    → ((i j : ℕ) (a b : View) → get_elem? views i ≡ some a → get_elem? views j ≡ some b → 1 ≤ rank a.stage → 1 ≤ rank b.stage → a.ticket ≡ b.ticket → i ≡ j)
    → ((j : ℕ) (u : View) → j ≢ id → get_elem? views j ≡ some u → 1 ≤ rank u.stage → 1 ≤ rank w.stage → u.ticket ≢ w.ticket)
    → (i j : ℕ) (a b : View) → get_elem? (set views id w) i ≡ some a → get_elem? (set views id w) j ≡ some b → 1 ≤ rank a.stage → 1 ≤ rank b.stage → a.ticket ≡ b.ticket → i ≡ j
apart_set id w views old new i j a b e f ra rb t = ⊎_elim
    (λ (x : (i ≡ id) × (w ≡ a)). ⊎_elim
    (λ (y : (j ≡ id) × (w ≡ b)). x.0 ∙ sym y.0)
    (λ (y : (j ≢ id) × (get_elem? views j ≡ some b)).
    absurd (new j b y.0 y.1 rb (subst (λ (u : View). 1 ≤ rank u.stage) (sym x.1) ra) (sym t ∙ sym (ap (λ (u : View). u.ticket) x.1))))
    (at_set views id j w b f))
    (λ (x : (i ≢ id) × (get_elem? views i ≡ some a)). ⊎_elim
    (λ (y : (j ≡ id) × (w ≡ b)).
    absurd (new i a x.0 x.1 ra (subst (λ (u : View). 1 ≤ rank u.stage) (sym y.1) rb) (t ∙ sym (ap (λ (u : View). u.ticket) y.1))))
    (λ (y : (j ≢ id) × (get_elem? views j ≡ some b)). old i j a b x.1 y.1 ra rb t)
    (at_set views id j w b f))
    (at_set views id i w a e)

-- beside a seat of a side there is no first one and no joined one
first_else : (first : Run) (s : Locked) (id : ℕ) (v w : View) (k : Kept first s) (side : Side) → get_elem? s.views id ≡ some v → v.role ≡ Of side → w.role ≡ v.role
    → {P : Type 0} → (j : ℕ) (u : View) → get_elem? (set s.views id w) j ≡ some u → u.role ≡ First → P
first_else first s id v w k side at of role j u e is = absurd (⊎_elim
    (λ (x : (j ≡ id) × (w ≡ u)). side_not_first side (sym of ∙ sym role ∙ ap (λ (y : View). y.role) x.1 ∙ is))
    (λ (x : (j ≢ id) × (get_elem? s.views j ≡ some u)).
    let one = (k.whole j u x.1 is).0 in
    let a = at_below s.views id v at in
    let b = at_below s.views j u x.1 in
    x.0 (omega arith))
    (at_set s.views id j w u e))

joined_else : (first : Run) (s : Locked) (id : ℕ) (v w : View) (k : Kept first s) (side : Side) → get_elem? s.views id ≡ some v → v.role ≡ Of side → w.role ≡ v.role
    → (i j : ℕ) (a b : View) → get_elem? (set s.views id w) i ≡ some a → get_elem? (set s.views id w) j ≡ some b → a.role ≡ Joined → j ≢ i → b.role ≡ Spent
joined_else first s id v w k side at of role i j a b e f is other = absurd (⊎_elim
    (λ (x : (i ≡ id) × (w ≡ a)). side_not_joined side (sym of ∙ sym role ∙ ap (λ (y : View). y.role) x.1 ∙ is))
    (λ (x : (i ≢ id) × (get_elem? s.views i ≡ some a)).
    side_not_spent side (sym of ∙ k.joined i id a v x.1 at is (λ (same : id ≡ i). x.0 (sym same))))
    (at_set s.views id i w a e))

-- any such change keeps the rule
pub placed : (first : Run) (s : Locked) (k : Kept first s) (id : ℕ) (v w : View) (n m : ℕ) (all : List Section) (homes : List (Maybe (Option Run))) (words : List ℕ)
    → get_elem? s.views id ≡ some v → Moves first s k id v w n m all homes → length words ≡ 2 → get_or words 0 0 ≡ n → get_or words 1 0 ≡ m
    → Kept first (record { words = words; homes = homes; views = set s.views id w })
placed first s k id v w n m all homes words at moves wide is_next is_serving = record {
  all = all;
  wide = wide;
  single = moves.single;
  fits = rw is_next moves.fits;
  order = rw (is_next, is_serving) moves.order;
  legal = moves.legal;
  home = moves.home;
  count = λ h. moves.count h ∙ sym is_serving;
  made = omega (arith, moves.made, k.made, total_set (λ (u : View). length u.own) s.views id v w at);
  known = rw (is_next, is_serving) (view_set (λ j u. Known first all n m j u) id w s.views moves.others moves.mine);
  apart = apart_set id w s.views k.apart moves.apart;
  whole = λ j u e is. first_else first s id v w k moves.side at moves.of moves.role j u e is;
  joined = joined_else first s id v w k moves.side at moves.of moves.role;
}

-- nothing changes
pub same_state : (first : Run) (s : Locked) (id i : ℕ) (v : View) → get_elem? s.views id ≡ some v → Kept first s
    → Kept first (record { words = set s.words i (get_or s.words i 0); homes = s.homes; views = set s.views id v })
same_state first s id i v at k =
    let words : set s.words i (get_or s.words i 0) ≡ s.words = set-get_or s.words i 0 in
    let views : set s.views id v ≡ s.views = set_again s.views id v at in
    subst (λ (ws : List ℕ). Kept first (record { words = ws; homes = s.homes; views = set s.views id v })) (sym words)
    (subst (λ (vs : List View). Kept first (record { words = s.words; homes = s.homes; views = vs })) (sym views) k)

-- ---- steps

pub looks : (first : Run) (slots id i : ℕ) (me : Me (Option Run) View) → Allows (Kept first) slots id me i (λ n. n) (λ _ now. now ≡ me)
looks first slots id i me s k homes at fits = (me.0, keeps, tt, same_state first s id i me.0 at k, refl)

-- a side's seat is no idle one
not_idle : (v : View) (side : Side) → v.role ≡ Of side → {P : Type 0} → ((t : Side) → v.role ≢ Of t) → P
not_idle v side of idle = absurd (idle side of)

-- what another view knows while only the next ticket grows
known_later : (first : Run) (all : List Section) (n m j : ℕ) (u : View) → Known first all n m j u → Known first all (n + 1) m j u
known_later first all n m j u h = record {
  first_is = h.first_is;
  known = h.known;
  told = h.told;
  drawn = λ r. let d = h.drawn r in (d.0, omega arith);
  called = h.called;
  inside = h.inside;
  holds = h.holds;
  gave = h.gave;
  at = h.at;
  mine = h.mine;
  mine_known = h.mine_known;
  idle = h.idle;
  spent = h.spent;
}

ticket_drawn : (first : Run) (s : Locked) (id : ℕ) (v : View) (side : Side) (k : Kept first s) → get_elem? s.views id ≡ some v → v.role ≡ Of side → v.stage ≡ Away
    → next s + 1 < 2 ^ 64 → Kept first (record { words = set s.words 0 (next s + 1); homes = s.homes; views = set s.views id (knows_ticket (next s) v) })
ticket_drawn first s id v side k at of away room =
    let n = next s in
    let h = k.known id v at in
    let w = knows_ticket n v in
    let none : rank v.stage ≡ 0 = ap rank away in
    placed first s k id v w (n + 1) (serving s) k.all s.homes (set s.words 0 (n + 1)) at
    (record {
      side = side;
      of = of;
      role = refl;
      fits = room;
      order = omega (arith, k.order);
      legal = k.legal;
      mine = record {
        first_is = h.first_is;
        known = h.known;
        told = h.told;
        drawn = λ _. (k.order, omega arith);
        called = λ r. absurd (omega arith);
        inside = λ r. absurd (omega arith);
        holds = λ r. absurd (omega arith);
        gave = λ r. absurd (omega arith);
        at = h.at;
        mine = h.mine;
        mine_known = h.mine_known;
        idle = λ idle. not_idle v side of idle;
        spent = h.spent;
      };
      others = λ j u other e. known_later first k.all n (serving s) j u (k.known j u e);
      single = k.single;
      home = λ g. k.home (none_before 3 id v w s.views at (λ r. omega arith) g);
      count = λ g. k.count (none_before 4 id v w s.views at (λ r. omega arith) g);
      made = refl;
      apart = λ j u other e ru rw_ same. let d = (k.known j u e).drawn ru in omega arith;
    })
    (length-set s.words 0 (n + 1) ∙ k.wide)
    (get_or-set_same s.words 0 (n + 1) 0 (omega (arith, k.wide)))
    (get_or-set_other s.words 0 1 (n + 1) 0 (λ (e : 1 ≡ 0). omega arith))

-- an exchange of the next lock ticket, which draws it where it is still the next one
pub draws : (first : Run) (slots id old : ℕ) (me : Me (Option Run) View) (side : Side) → me.0.role ≡ Of side → me.0.stage ≡ Away → old + 1 < 2 ^ 64
    → Allows (Kept first) slots id me 0 (λ n. either (eqb n old) (old + 1) n) (Drew (step slots 0 old (old + 1) none) me)
draws first slots id old me side of away room s k homes at fits =
    exchanged (next s) old (old + 1)
    (λ (n : ℕ). (w : View) × (a : Act (Option Run)) × Valid s.homes me.1 a × Kept first (stepped s 0 n id me.1 w a)
    × Drew (step slots 0 old (old + 1) none) me (next s) (w, carried_after me.1 a))
    (λ hit. (
      knows_ticket (next s) me.0,
      keeps,
      tt,
      subst (λ (n : ℕ). Kept first (record { words = set s.words 0 (n + 1); homes = s.homes; views = set s.views id (knows_ticket (next s) me.0) })) hit
          (ticket_drawn first s id me.0 side k at of away (omega arith)),
      record { hit = λ _. refl; miss = λ away. absurd (away hit) },
    ))
    (λ miss. (me.0, keeps, tt, same_state first s id 0 me.0 at k, record { hit = λ hit. absurd (miss hit); miss = λ _. refl }))

-- a load of the lock ticket that is served, by one that waits
called_now : (first : Run) (s : Locked) (id i : ℕ) (v : View) (side : Side) (k : Kept first s) → get_elem? s.views id ≡ some v → v.role ≡ Of side → v.stage ≡ Waiting
    → serving s ≡ v.ticket → Kept first (record { words = set s.words i (get_or s.words i 0); homes = s.homes; views = set s.views id (knows_called v) })
called_now first s id i v side k at of waits served =
    let h = k.known id v at in
    let w = knows_called v in
    let one : rank v.stage ≡ 1 = ap rank waits in
    let words : set s.words i (get_or s.words i 0) ≡ s.words = set-get_or s.words i 0 in
    placed first s k id v w (next s) (serving s) k.all s.homes (set s.words i (get_or s.words i 0)) at
    (record {
      side = side;
      of = of;
      role = refl;
      fits = k.fits;
      order = k.order;
      legal = k.legal;
      mine = record {
        first_is = h.first_is;
        known = h.known;
        told = h.told;
        drawn = λ _. h.drawn (omega arith);
        called = λ _. sym served;
        inside = λ r. absurd (omega arith);
        holds = λ r. absurd (omega arith);
        gave = λ r. absurd (omega arith);
        at = h.at;
        mine = h.mine;
        mine_known = h.mine_known;
        idle = λ idle. not_idle v side of idle;
        spent = h.spent;
      };
      others = λ j u other e. k.known j u e;
      single = k.single;
      home = λ g. k.home (none_before 3 id v w s.views at (λ r. omega arith) g);
      count = λ g. k.count (none_before 4 id v w s.views at (λ r. omega arith) g);
      made = refl;
      apart = λ j u other e ru rw_ same. other (k.apart j id u v e at ru (omega arith) same);
    })
    (ap length words ∙ k.wide)
    (ap (λ (ws : List ℕ). get_or ws 0 0) words)
    (ap (λ (ws : List ℕ). get_or ws 1 0) words)

pub calls : (first : Run) (slots id : ℕ) (me : Me (Option Run) View) (side : Side) → me.0.role ≡ Of side → me.0.stage ≡ Waiting
    → Allows (Kept first) slots id me 1 (λ n. n) (Called (step slots 1 0 0 none) me)
calls first slots id me side of waits s k homes at fits = ⊎_elim
    (λ (hit : serving s ≡ me.0.ticket). (
      knows_called me.0,
      keeps,
      tt,
      called_now first s id 1 me.0 side k at of waits hit,
      record { hit = λ _. refl; miss = λ away. absurd (away hit) },
    ))
    (λ (miss : serving s ≢ me.0.ticket). (me.0, keeps, tt, same_state first s id 1 me.0 at k, record { hit = λ hit. absurd (miss hit); miss = λ _. refl }))
    (cases_eq (serving s) me.0.ticket)

-- the slot of the one that is called is at home
home_called : (first : Run) (s : Locked) (id : ℕ) (v : View) (k : Kept first s) → get_elem? s.views id ≡ some v → v.stage ≡ CalledStage
    → get_elem? s.homes 0 ≡ some (some (Some (after first k.all)))
home_called first s id v k at stage = let two : rank v.stage ≡ 2 = ap rank stage in k.home (alone first s 3 id v k at (omega arith) (omega arith) (λ r. omega arith))

count_called : (first : Run) (s : Locked) (id : ℕ) (v : View) (k : Kept first s) → get_elem? s.views id ≡ some v → v.stage ≡ CalledStage → length k.all ≡ serving s
count_called first s id v k at stage = let two : rank v.stage ≡ 2 = ap rank stage in k.count (alone first s 4 id v k at (omega arith) (omega arith) (λ r. omega arith))

taken_now : (first : Run) (s : Locked) (id i : ℕ) (v : View) (side : Side) (k : Kept first s) → get_elem? s.views id ≡ some v → v.role ≡ Of side → v.stage ≡ CalledStage
    → Kept first (record { words = set s.words i (get_or s.words i 0); homes = set s.homes 0 none; views = set s.views id (knows_inside k.all v) })
taken_now first s id i v side k at of stage =
    let h = k.known id v at in
    let w = knows_inside k.all v in
    let two : rank v.stage ≡ 2 = ap rank stage in
    let words : set s.words i (get_or s.words i 0) ≡ s.words = set-get_or s.words i 0 in
    let low = at_below s.views id v at in
    placed first s k id v w (next s) (serving s) k.all (set s.homes 0 none) (set s.words i (get_or s.words i 0)) at
    (record {
      side = side;
      of = of;
      role = refl;
      fits = k.fits;
      order = k.order;
      legal = k.legal;
      mine = record {
        first_is = h.first_is;
        known = prefix_self k.all;
        told = h.told;
        drawn = λ _. h.drawn (omega arith);
        called = λ _. h.called (omega arith);
        inside = λ _. refl;
        holds = λ _. count_called first s id v k at stage;
        gave = λ r. absurd (omega arith);
        at = h.at;
        mine = h.mine;
        mine_known = h.mine;
        idle = λ idle. not_idle v side of idle;
        spent = h.spent;
      };
      others = λ j u other e. k.known j u e;
      single = length-set s.homes 0 none ∙ k.single;
      home = λ g. absurd (g id w (set_here s.views id w low) refl);
      count = λ g. count_called first s id v k at stage;
      made = refl;
      apart = λ j u other e ru rw_ same. other (k.apart j id u v e at ru (omega arith) same);
    })
    (ap length words ∙ k.wide)
    (ap (λ (ws : List ℕ). get_or ws 0 0) words)
    (ap (λ (ws : List ℕ). get_or ws 1 0) words)

-- the load with which the state is taken
pub taking : (first : Run) (slots id : ℕ) (me : Me (Option Run) View) (side : Side) → me.0.role ≡ Of side → me.0.stage ≡ CalledStage → me.1 ≡ []
    → Allows (Kept first) slots id me 1 (λ n. n) (Took (step slots 1 0 0 none) me)
taking first slots id me side of stage empty s k homes at fits =
    let h = k.known id me.0 at in
    let two : rank me.0.stage ≡ 2 = ap rank stage in
    let count = count_called first s id me.0 k at stage in
    let called = h.called (omega arith) in
    let drawn = h.drawn (omega arith) in (
      knows_inside k.all me.0,
      takes 0 (Some (after first k.all)),
      home_called first s id me.0 k at stage,
      taken_now first s id 1 me.0 side k at of stage,
      record {
        first = first;
        first_is = h.first_is (λ is. side_not_spent side (sym of ∙ is));
        all = k.all;
        is = ap (λ (c : List (ℕ × Option Run)). (knows_inside k.all me.0, (0, Some (after first k.all)) ∷ c)) empty;
        grown = h.known;
        legal = k.legal;
        count = count ∙ sym called;
        room = omega (arith, k.fits);
        mine = h.mine;
      },
    )

-- ---- one section more

-- the two sides have two places
other_of : (side t : Side) (id j : ℕ) → id ≡ place side → j ≡ place t → j ≢ id → t ≡ other_side side
other_of Source Source id j a b other = absurd (other (b ∙ sym a))
other_of Source Target id j a b other = refl
other_of Target Source id j a b other = refl
other_of Target Target id j a b other = absurd (other (b ∙ sym a))

given_now : (first : Run) (s : Locked) (id i : ℕ) (v : View) (side : Side) (e : Section) (k : Kept first s) → get_elem? s.views id ≡ some v → v.role ≡ Of side
    → v.stage ≡ InsideStage → IsSection (after first v.known) e → MayMake side e
    → Kept first (record {
      words = set s.words i (get_or s.words i 0);
      homes = set s.homes 0 (some (Some (change (after first v.known) e)));
      views = set s.views id (knows_given e v);
    })
given_now first s id i v side e k at of stage fits may =
    let h = k.known id v at in
    let w = knows_given e v in
    let three : rank v.stage ≡ 3 = ap rank stage in
    let known : v.known ≡ k.all = h.inside (omega arith) in
    let words : set s.words i (get_or s.words i 0) ≡ s.words = set-get_or s.words i 0 in
    let low = at_below s.views id v at in
    let one = length_push k.all e in
    let state : change (after first v.known) e ≡ after first (k.all ++ e ∷ []) = ap (λ es. change (after first es) e) known ∙ sym (after_push first k.all e) in
    placed first s k id v w (next s) (serving s) (k.all ++ e ∷ []) (set s.homes 0 (some (Some (change (after first v.known) e)))) (set s.words i (get_or s.words i 0)) at
    (record {
      side = side;
      of = of;
      role = refl;
      fits = k.fits;
      order = k.order;
      legal = legal_push first k.all e k.legal (subst (λ es. IsSection (after first es) e) known fits);
      mine = record {
        first_is = h.first_is;
        known = subst (λ es. IsPrefix (es ++ e ∷ []) (k.all ++ e ∷ [])) (sym known) (prefix_self (k.all ++ e ∷ []));
        told = prefix_push v.told k.all e h.told;
        drawn = λ _. h.drawn (omega arith);
        called = λ _. h.called (omega arith);
        inside = λ _. ap (λ es. es ++ e ∷ []) known;
        holds = λ r. absurd (omega arith);
        gave = λ _. omega (arith, h.holds three);
        at = h.at;
        mine = λ t is. both_push t k.all v.own e (h.mine t is);
        mine_known = λ t is. both_push t v.known v.own e (h.mine_known t is);
        idle = λ idle. not_idle v side of idle;
        spent = λ is. absurd (side_not_spent side (sym of ∙ is));
      };
      others = λ j u other at_u.
          let g = k.known j u at_u in
          record {
            first_is = g.first_is;
            known = prefix_push u.known k.all e g.known;
            told = prefix_push u.told k.all e g.told;
            drawn = g.drawn;
            called = g.called;
            inside = λ r. absurd (none_called first s id j v u k at at_u other (omega arith) (omega arith));
            holds = λ r. absurd (none_called first s id j v u k at at_u other (omega arith) (omega arith));
            gave = λ r. absurd (none_called first s id j v u k at at_u other (omega arith) (omega arith));
            at = g.at;
            mine = λ t is.
                let away : is_of t e ≡ false = subst (λ (x : Side). is_of x e ≡ false) (sym (other_of side t id j (h.at side of) (g.at t is) other)) may in
                theirs_push t k.all e away ∙ g.mine t is;
            mine_known = g.mine_known;
            idle = g.idle;
            spent = g.spent;
          };
      single = length-set s.homes 0 (some (Some (change (after first v.known) e))) ∙ k.single;
      home = λ g. set_here s.homes 0 (some (Some (change (after first v.known) e))) (omega (arith, k.single)) ∙ ap (λ (x : Run). some (some (Some x))) state;
      count = λ g. absurd (g id w (set_here s.views id w low) refl);
      made = omega (arith, one, length_push v.own e);
      apart = λ j u other at_u ru rw_ same. other (k.apart j id u v at_u at ru (omega arith) same);
    })
    (ap length words ∙ k.wide)
    (ap (λ (ws : List ℕ). get_or ws 0 0) words)
    (ap (λ (ws : List ℕ). get_or ws 1 0) words)

giving_held : (first : Run) (slots id : ℕ) (v : View) (side : Side) (e : Section) → v.role ≡ Of side → v.stage ≡ InsideStage
    → IsSection (after first v.known) e → MayMake side e
    → Allows (Kept first) slots id (v, (0, Some (change (after first v.known) e)) ∷ []) 1 (λ n. n) (Gave (step slots 1 0 0 none) (v, (0, Some (change (after first v.known) e)) ∷ []))
giving_held first slots id v side e of stage fits may s k homes at small =
    let h = k.known id v at in (
      knows_given e v,
      gives,
      tt,
      given_now first s id 1 v side e k at of stage fits may,
      record {
        first = first;
        first_is = h.first_is (λ is. side_not_spent side (sym of ∙ is));
        section = e;
        fits = fits;
        may = λ t is. subst (λ (x : Side). MayMake x e) (same_side_of side t (sym of ∙ is)) may;
        had = refl;
        is = refl;
      },
    ) where
      same_side_of : (a b : Side) → Of a ≡ Of b → a ≡ b
      same_side_of a b eq = cc

-- the load with which it is given back
pub giving : (first : Run) (slots id : ℕ) (me : Me (Option Run) View) (side : Side) (e : Section) → me.0.role ≡ Of side → me.0.stage ≡ InsideStage
    → IsSection (after first me.0.known) e → MayMake side e → me.1 ≡ (0, Some (change (after first me.0.known) e)) ∷ []
    → Allows (Kept first) slots id me 1 (λ n. n) (Gave (step slots 1 0 0 none) me)
giving first slots id me side e of stage fits may holds =
    let same : (me.0, (0, Some (change (after first me.0.known) e)) ∷ []) ≡ me = ap (λ (c : List (ℕ × Option Run)). (me.0, c)) (sym holds) in
    subst (λ (x : Me (Option Run) View). Allows (Kept first) slots id x 1 (λ n. n) (Gave (step slots 1 0 0 none) x)) same
    (giving_held first slots id me.0 side e of stage fits may)

-- ---- the lock is handed on

raised_now : (first : Run) (s : Locked) (id : ℕ) (v : View) (side : Side) (k : Kept first s) → get_elem? s.views id ≡ some v → v.role ≡ Of side → v.stage ≡ Given
    → Kept first (record { words = set s.words 1 (serving s + 1); homes = s.homes; views = set s.views id (knows_away v) })
raised_now first s id v side k at of stage =
    let m = serving s in
    let h = k.known id v at in
    let w = knows_away v in
    let four : rank v.stage ≡ 4 = ap rank stage in
    let called = h.called (omega arith) in
    let drawn = h.drawn (omega arith) in
    placed first s k id v w (next s) (m + 1) k.all s.homes (set s.words 1 (m + 1)) at
    (record {
      side = side;
      of = of;
      role = refl;
      fits = k.fits;
      order = omega arith;
      legal = k.legal;
      mine = record {
        first_is = h.first_is;
        known = h.known;
        told = h.told;
        drawn = λ r. absurd (omega arith);
        called = λ r. absurd (omega arith);
        inside = λ r. absurd (omega arith);
        holds = λ r. absurd (omega arith);
        gave = λ r. absurd (omega arith);
        at = h.at;
        mine = h.mine;
        mine_known = h.mine_known;
        idle = λ idle. not_idle v side of idle;
        spent = h.spent;
      };
      others = λ j u other e.
          let g = k.known j u e in
          record {
            first_is = g.first_is;
            known = g.known;
            told = g.told;
            drawn = λ r.
                let d = g.drawn r in
                let ne : u.ticket ≢ v.ticket = (λ (same : u.ticket ≡ v.ticket). other (k.apart j id u v e at r (omega arith) same)) in
                (omega arith, d.1);
            called = λ r. absurd (none_called first s id j v u k at e other (omega arith) r);
            inside = λ r. absurd (none_called first s id j v u k at e other (omega arith) (omega arith));
            holds = λ r. absurd (none_called first s id j v u k at e other (omega arith) (omega arith));
            gave = λ r. absurd (none_called first s id j v u k at e other (omega arith) (omega arith));
            at = g.at;
            mine = g.mine;
            mine_known = g.mine_known;
            idle = g.idle;
            spent = g.spent;
          };
      single = k.single;
      home = λ g. k.home (none_before 3 id v w s.views at (λ r. omega arith) g);
      count = λ g. h.gave four;
      made = refl;
      apart = λ j u other e ru rw_ same. absurd (omega arith);
    })
    (length-set s.words 1 (m + 1) ∙ k.wide)
    (get_or-set_other s.words 1 0 (m + 1) 0 (λ (e : 0 ≡ 1). omega arith))
    (get_or-set_same s.words 1 (m + 1) 0 (omega (arith, k.wide)))

pub raises : (first : Run) (slots id : ℕ) (me : Me (Option Run) View) (side : Side) → me.0.role ≡ Of side → me.0.stage ≡ Given
    → Allows (Kept first) slots id me 1 (λ n. (n + 1) % 2 ^ 64) (Raised (step slots 1 1 0 none) me)
raises first slots id me side of stage s k homes at fits =
    let h = k.known id me.0 at in
    let four : rank me.0.stage ≡ 4 = ap rank stage in
    let called = h.called (omega arith) in
    let drawn = h.drawn (omega arith) in
    let more : (serving s + 1) % 2 ^ 64 ≡ serving s + 1 = omega (arith, k.fits) in (
      knows_away me.0,
      keeps,
      tt,
      rw more (raised_now first s id me.0 side k at of stage),
      record { is = refl },
    )
