-- Lists of which every sum is the same have the same elements: so the steps of all threads can be put in the order of
-- the history of the words. What must be decided for that is whether two steps are one.
use Rattle.std.proofs.Common.{◌≡◌, ℕ, ◌+◌, ◌<◌, ℤ, Bool, true, false, ◌&&◌, cond, List, [], ◌∷◌, ◌++◌, map, filter, nat_eq, Decides, refl, ap, ◌∙◌, sym, subst, arith, eq-eqb}
use Rattle.std.specs.List.{sum_by}
use Rattle.std.specs.List.Sorted.{IsPermutation}
use Rattle.std.specs.Ordering.{int_eq}
use Rattle.std.specs.Cmp.{unsigned_Decides}
use Rattle.std.proofs.lemmas.Bool.Decides.{Decides-int_eq}
use Rattle.std.proofs.lemmas.List.{map-append}
use Rattle.std.proofs.lemmas.List.Sums.{sum_by-cons, sum_by-append}
use Rattle.std.proofs.lemmas.List.Sorted.{IsPermutation-refl, IsPermutation-trans, IsPermutation-cons, IsPermutation-middle}
use Rattle.clk_record.specs.declared.step.Step.{Step}
use Rattle.clk_record.specs.declared.step.Why.{Why}
use Rattle.clk_record.specs.declared.step.Why.TheVariants.{Raise, Couple, Lift}
use Rattle.clk_worker.proofs.RunSteps.{same_fields}

-- ---- whether two steps are one

abbrev same_why : Why → Why → Bool
same_why (Raise raw tick_raw tick_gtod offset) (Raise raw2 tick_raw2 tick_gtod2 offset2) =
    int_eq raw raw2 && (int_eq tick_raw tick_raw2 && (int_eq tick_gtod tick_gtod2 && int_eq offset offset2))
same_why (Raise raw tick_raw tick_gtod offset) (Couple from value) = false
same_why (Raise raw tick_raw tick_gtod offset) (Lift value) = false
same_why (Couple from value) (Raise raw tick_raw tick_gtod offset) = false
same_why (Couple from value) (Couple from2 value2) = nat_eq from from2 && int_eq value value2
same_why (Couple from value) (Lift other) = false
same_why (Lift value) (Raise raw tick_raw tick_gtod offset) = false
same_why (Lift value) (Couple from other) = false
same_why (Lift value) (Lift value2) = int_eq value value2

abbrev pub same_step : Step → Step → Bool
same_step s t = nat_eq s.by t.by && (nat_eq s.call t.call && (nat_eq s.word t.word && (same_why s.why t.why && (int_eq s.old t.old && int_eq s.new t.new))))

both : (b c : Bool) → (b && c) ≡ true → (b ≡ true) × (c ≡ true)
both true c e = (refl, e)
both false c e = absurd (cc)

and_true : (b c : Bool) → b ≡ true → c ≡ true → (b && c) ≡ true
and_true true c d e = e
and_true false c d e = d

int_is : (x y : ℤ) → int_eq x y ≡ true → x ≡ y
int_is x y e = (Decides-int_eq x y).0 e

nat_is : (x y : ℕ) → nat_eq x y ≡ true → x ≡ y
nat_is x y e = (unsigned_Decides x y).0 e

int_self : (x : ℤ) → int_eq x x ≡ true
int_self x = (Decides-int_eq x x).1 refl

nat_self : (x : ℕ) → nat_eq x x ≡ true
nat_self x = eq-eqb x x refl

why_is : (x y : Why) → same_why x y ≡ true → x ≡ y
why_is (Raise raw tick_raw tick_gtod offset) (Raise raw2 tick_raw2 tick_gtod2 offset2) e =
    let one = both (int_eq raw raw2) _ e in
    let two = both (int_eq tick_raw tick_raw2) _ one.1 in
    let three = both (int_eq tick_gtod tick_gtod2) _ two.1 in
    ap (λ x. Raise x tick_raw tick_gtod offset) (int_is raw raw2 one.0) ∙ ap (λ x. Raise raw2 x tick_gtod offset) (int_is tick_raw tick_raw2 two.0)
    ∙ ap (λ x. Raise raw2 tick_raw2 x offset) (int_is tick_gtod tick_gtod2 three.0) ∙ ap (λ x. Raise raw2 tick_raw2 tick_gtod2 x) (int_is offset offset2 three.1)
why_is (Raise raw tick_raw tick_gtod offset) (Couple from value) e = absurd (cc)
why_is (Raise raw tick_raw tick_gtod offset) (Lift value) e = absurd (cc)
why_is (Couple from value) (Raise raw tick_raw tick_gtod offset) e = absurd (cc)
why_is (Couple from value) (Couple from2 value2) e =
    let one = both (nat_eq from from2) _ e in
    ap (λ k. Couple k value) (nat_is from from2 one.0) ∙ ap (λ x. Couple from2 x) (int_is value value2 one.1)
why_is (Couple from value) (Lift other) e = absurd (cc)
why_is (Lift value) (Raise raw tick_raw tick_gtod offset) e = absurd (cc)
why_is (Lift value) (Couple from other) e = absurd (cc)
why_is (Lift value) (Lift value2) e = ap (λ x. Lift x) (int_is value value2 e)

why_self : (x : Why) → same_why x x ≡ true
why_self (Raise raw tick_raw tick_gtod offset) =
    and_true (int_eq raw raw) _ (int_self raw)
    (and_true (int_eq tick_raw tick_raw) _ (int_self tick_raw) (and_true (int_eq tick_gtod tick_gtod) _ (int_self tick_gtod) (int_self offset)))
why_self (Couple from value) = and_true (nat_eq from from) _ (nat_self from) (int_self value)
why_self (Lift value) = int_self value

step_is : (s t : Step) → same_step s t ≡ true → s ≡ t
step_is s t e =
    let one = both (nat_eq s.by t.by) _ e in
    let two = both (nat_eq s.call t.call) _ one.1 in
    let three = both (nat_eq s.word t.word) _ two.1 in
    let four = both (same_why s.why t.why) _ three.1 in
    let five = both (int_eq s.old t.old) _ four.1 in
    same_fields s t.by t.call t.word t.why t.old t.new (nat_is s.by t.by one.0) (nat_is s.call t.call two.0) (nat_is s.word t.word three.0)
    (why_is s.why t.why four.0) (int_is s.old t.old five.0) (int_is s.new t.new five.1)

step_self : (s : Step) → same_step s s ≡ true
step_self s =
    and_true (nat_eq s.by s.by) _ (nat_self s.by)
    (and_true (nat_eq s.call s.call) _ (nat_self s.call)
    (and_true (nat_eq s.word s.word) _ (nat_self s.word)
    (and_true (same_why s.why s.why) _ (why_self s.why) (and_true (int_eq s.old s.old) _ (int_self s.old) (int_self s.new)))))

pub step_decides : (s t : Step) → Decides (same_step s t) (s ≡ t)
step_decides s t = (λ e. step_is s t e, λ e. subst (λ u. same_step s u ≡ true) e (step_self s))

-- ---- lists of which every sum is the same

-- these items, in the order in which g makes ys of them
pub record Ordered {P X : Type 0} (g : P → X) (ps : List P) (ys : List X) : Type 0 where
  pub items : List P
  pub all : IsPermutation ps items
  pub is : map g items ≡ ys

-- an item of which g makes x
record Found {P X : Type 0} (g : P → X) (ps : List P) (x : X) : Type 0 where
  front : List P
  item : P
  back : List P
  is : ps ≡ front ++ item ∷ back
  made : g item ≡ x

abbrev pub SameSums : {X : Type 0} → List X → List X → Type 0
SameSums {X} xs ys = (f : X → ℕ) → sum_by f xs ≡ sum_by f ys

module _ {P X : Type 0} (g : P → X) (eq : X → X → Bool) (same : (x y : X) → Decides (eq x y) (x ≡ y)) where
  abbrev is_one : X → X → ℕ
  is_one x y = cond (eq x y) 1 0

  found_by : (x : X) (p : P) (ps : List P) (t : Bool) → eq x (g p) ≡ t → 0 < sum_by (is_one x) (map g (p ∷ ps)) → (0 < sum_by (is_one x) (map g ps) → Found g ps x)
      → Found g (p ∷ ps) x
  found_by x p ps true e low later = record { front = []; item = p; back = ps; is = refl; made = sym ((same x (g p)).0 e) }
  found_by x p ps false e low later =
      let none : is_one x (g p) ≡ 0 = ap (λ (b : Bool). cond b 1 0) e in
      let whole = sum_by-cons (is_one x) (g p) (map g ps) in
      let f = later (omega (arith, none, whole, low)) in
      record { front = p ∷ f.front; item = f.item; back = f.back; is = ap (λ qs. p ∷ qs) f.is; made = f.made }

  found : (x : X) (ps : List P) → 0 < sum_by (is_one x) (map g ps) → Found g ps x
  found x [] low = absurd (omega arith)
  found x (p ∷ ps) low = found_by x p ps (eq x (g p)) refl low (λ more. found x ps more)

  -- the sums without the item that was found
  less : (y : X) (ys : List X) (ps : List P) (f : Found g ps y) → SameSums (map g ps) (y ∷ ys) → SameSums (map g (f.front ++ f.back)) ys
  less y ys ps f all h =
      let whole : sum_by h (map g ps) ≡ sum_by h (map g f.front) + sum_by h (g f.item ∷ map g f.back) =
      ap (λ qs. sum_by h (map g qs)) f.is ∙ ap (sum_by h) (map-append g f.front (f.item ∷ f.back)) ∙ sum_by-append h (map g f.front) (g f.item ∷ map g f.back) in
      let part : sum_by h (map g (f.front ++ f.back)) ≡ sum_by h (map g f.front) + sum_by h (map g f.back) =
      ap (sum_by h) (map-append g f.front f.back) ∙ sum_by-append h (map g f.front) (map g f.back) in
      let one = sum_by-cons h (g f.item) (map g f.back) in
      let two = sum_by-cons h y ys in
      let value = ap h f.made in
      let given = all h in
      omega (arith, whole, part, one, two, value, given)

  put_first : (y : X) (ys : List X) (ps : List P) (f : Found g ps y) → Ordered g (f.front ++ f.back) ys → Ordered g ps (y ∷ ys)
  put_first y ys ps f rest = record {
    items = f.item ∷ rest.items;
    all =
        subst (λ qs. IsPermutation qs (f.item ∷ rest.items)) (sym f.is)
        (IsPermutation-trans (f.front ++ f.item ∷ f.back) (f.item ∷ (f.front ++ f.back)) (f.item ∷ rest.items) (IsPermutation-middle f.front f.item f.back)
        (IsPermutation-cons f.item (f.front ++ f.back) rest.items rest.all));
    is = ap (λ x. x ∷ map g rest.items) f.made ∙ ap (λ xs. y ∷ xs) rest.is;
  }

  none_left : (ps : List P) → SameSums (map g ps) [] → Ordered g ps []
  none_left [] all = record { items = []; all = IsPermutation-refl []; is = refl }
  none_left (p ∷ ps) all =
      let some = all (λ x. 1) in
      let whole = sum_by-cons (λ (x : X). 1) (g p) (map g ps) in
      absurd (omega (arith, some, whole))

  pub ordered : (ps : List P) (ys : List X) → SameSums (map g ps) ys → Ordered g ps ys
  ordered ps [] all = none_left ps all
  ordered ps (y ∷ ys) all =
      let self : is_one y y ≡ 1 = ap (λ (b : Bool). cond b 1 0) ((same y y).1 refl) in
      let whole = sum_by-cons (is_one y) y ys in
      let given = all (is_one y) in
      let f = found y ps (omega (arith, self, whole, given)) in
      put_first y ys ps f (ordered (f.front ++ f.back) ys (less y ys ps f all))

-- ---- and so are those of what a test keeps

filter_by : {X : Type 0} (f : X → ℕ) (x : X) (xs : List X) (n : ℕ) (t : Bool) → sum_by f xs ≡ n → sum_by f (cond t (x ∷ xs) xs) ≡ cond t (f x) 0 + n
filter_by f x xs n true e = let whole = sum_by-cons f x xs in omega (arith, whole, e)
filter_by f x xs n false e = omega (arith, e)

sum_filter : {X : Type 0} (f : X → ℕ) (p : X → Bool) (xs : List X) → sum_by f (filter p xs) ≡ sum_by (λ x. cond (p x) (f x) 0) xs
sum_filter f p [] = refl
sum_filter f p (x ∷ xs) =
    filter_by f x (filter p xs) (sum_by (λ y. cond (p y) (f y) 0) xs) (p x) (sum_filter f p xs) ∙ sym (sum_by-cons (λ y. cond (p y) (f y) 0) x xs)

pub same_kept : {X : Type 0} (p : X → Bool) (xs ys : List X) → SameSums xs ys → SameSums (filter p xs) (filter p ys)
same_kept p xs ys all f = sum_filter f p xs ∙ all (λ x. cond (p x) (f x) 0) ∙ sym (sum_filter f p ys)

map_kept : {P X : Type 0} (g : P → X) (q : P) (kept : List P) (made : List X) (t : Bool) → map g kept ≡ made → map g (cond t (q ∷ kept) kept) ≡ cond t (g q ∷ made) made
map_kept g q kept made true e = ap (λ xs. g q ∷ xs) e
map_kept g q kept made false e = e

pub map_filter : {P X : Type 0} (g : P → X) (p : X → Bool) (qs : List P) → map g (filter (λ q. p (g q)) qs) ≡ filter p (map g qs)
map_filter g p [] = refl
map_filter g p (q ∷ qs) = map_kept g q (filter (λ r. p (g r)) qs) (filter p (map g qs)) (p (g q)) (map_filter g p qs)
