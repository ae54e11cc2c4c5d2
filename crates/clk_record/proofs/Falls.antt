-- The laws of falls.
use Rattle.std.proofs.Common.{◌≡◌, ◌≢◌, ℕ, ◌+◌, ◌-◌, ◌<◌, ◌≤◌, Bool, true, false, cond, not, ◌&&◌, ltb, List, [], ◌∷◌, ◌++◌, fold, max, refl, sym, ap, subst, arith}
use Rattle.std.specs.List.{All}
use Rattle.std.proofs.lemmas.Bool.{le-ltb}
use Rattle.std.proofs.lemmas.List.Elements.{All-nil, All-cons, All-head, All-tail, All-push, All-weaker, All-filter}
use Rattle.clk_record.specs.declared.warp.Side.{Side}
use Rattle.clk_record.specs.declared.warp.Side.TheVariants.{Source, Target}
use Rattle.clk_record.specs.declared.warp.WarpReading.{WarpReading}
use Rattle.clk_record.specs.Sides.{is_same, turns_of}
use Rattle.clk_record.specs.Falls.{Limits, Fall, each_after, is_last, turn_before, is_fall, changes, has_fall, through_last}
use Rattle.clk_record.specs.FallLaws.{NeverFall, NoFallWhereNoneFalls, GreatestIsMost, SeenIsAtMostGreatest, HasChange, ChangesWhereSidesChange}

-- ---- no fall where none falls

last_below : (n at : ℕ) (rs : List WarpReading) → at ≤ n → All (λ r. r.tsc ≤ n) rs → fold (λ (last : ℕ) (r : WarpReading). r.tsc) at rs ≤ n
last_below n at [] low all = low
last_below n at (r ∷ rs) low all = last_below n r.tsc rs (All-head (λ s. s.tsc ≤ n) r rs all) (All-tail (λ s. s.tsc ≤ n) r rs all)

pub before_below : (n : ℕ) (front : List WarpReading) → All (λ s. s.tsc ≤ n) front → turn_before front ≤ n
before_below n front all = last_below n 0 (turns_of front) (omega arith) (All-filter (λ s. not s.start) (λ s. s.tsc ≤ n) front all)

and_none : (a b c : Bool) → c ≡ false → (a && (b && c)) ≡ false
and_none true true c e = e
and_none true false c e = refl
and_none false b c e = refl

steady_after : (l : Limits) (front rs : List WarpReading) → All (λ s. All (λ r. s.tsc ≤ r.tsc) rs) front → NeverFall rs
    → each_after {A = Fall} (λ front r. cond (is_fall l front r) ((record { side = r.side; size = turn_before front - r.tsc }) ∷ []) []) front rs ≡ []
steady_after l front [] all never = refl
steady_after l front (r ∷ rs) all never =
    let low = before_below r.tsc front (All-weaker (λ s. All (λ t. s.tsc ≤ t.tsc) (r ∷ rs)) (λ s. s.tsc ≤ r.tsc) (λ s h. All-head (λ t. s.tsc ≤ t.tsc) r rs h) front all) in
    let here : is_fall l front r ≡ false = and_none (not r.start) (not (is_last l front r)) (ltb r.tsc (turn_before front)) (le-ltb r.tsc (turn_before front) low) in
    let rest = All-weaker (λ s. All (λ t. s.tsc ≤ t.tsc) (r ∷ rs)) (λ s. All (λ t. s.tsc ≤ t.tsc) rs) (λ s h. All-tail (λ t. s.tsc ≤ t.tsc) r rs h) front all in
    rw here (steady_after l (front ++ r ∷ []) rs (All-push (λ s. All (λ t. s.tsc ≤ t.tsc) rs) front r rest never.0) never.1)

pub no_fall_where_none_falls : NoFallWhereNoneFalls
no_fall_where_none_falls l rs never = steady_after l [] rs (All-nil (λ s. All (λ t. s.tsc ≤ t.tsc) rs)) never

-- ---- the greatest

from_most : (a : ℕ) (fs : List Fall) → a ≤ fold (λ (most : ℕ) (f : Fall). max most f.size) a fs
from_most a [] = omega arith
from_most a (f ∷ fs) = omega (arith, from_most (max a f.size) fs)

all_most : (a : ℕ) (fs : List Fall) → All (λ f. f.size ≤ fold (λ (most : ℕ) (g : Fall). max most g.size) a fs) fs
all_most a [] = All-nil (λ f. f.size ≤ a)
all_most a (f ∷ fs) =
    All-cons (λ g. g.size ≤ fold (λ (most : ℕ) (h : Fall). max most h.size) (max a f.size) fs) f fs
    (omega (arith, from_most (max a f.size) fs)) (all_most (max a f.size) fs)

pub greatest_is_most : GreatestIsMost
greatest_is_most fs = all_most 0 fs

more_most : (a b : ℕ) (fs : List Fall) → a ≤ b → fold (λ (most : ℕ) (f : Fall). max most f.size) a fs ≤ fold (λ (most : ℕ) (f : Fall). max most f.size) b fs
more_most a b [] up = up
more_most a b (f ∷ fs) up = more_most (max a f.size) (max b f.size) fs (omega arith)

kept_most : (a : ℕ) (f : Fall) (fs gs : List Fall) (b : Bool)
    → fold (λ (most : ℕ) (g : Fall). max most g.size) (max a f.size) gs ≤ fold (λ (most : ℕ) (g : Fall). max most g.size) (max a f.size) fs
    → fold (λ (most : ℕ) (g : Fall). max most g.size) a (cond b (f ∷ gs) []) ≤ fold (λ (most : ℕ) (g : Fall). max most g.size) a (f ∷ fs)
kept_most a f fs gs true low = low
kept_most a f fs gs false low = omega (arith, from_most (max a f.size) fs)

seen_most : (side : Side) (a : ℕ) (fs : List Fall) → fold (λ (most : ℕ) (f : Fall). max most f.size) a (through_last side fs) ≤ fold (λ (most : ℕ) (f : Fall). max most f.size) a fs
seen_most side a [] = omega arith
seen_most side a (f ∷ fs) = kept_most a f fs (through_last side fs) (has_fall side (f ∷ fs)) (seen_most side (max a f.size) fs)

pub seen_is_at_most_greatest : SeenIsAtMostGreatest
seen_is_at_most_greatest side fs = seen_most side 0 fs

-- ---- changes of side

pub same_then : (s t : Side) → is_same s t ≡ true → s ≡ t
same_then Source Source e = refl
same_then Source Target e = cc
same_then Target Source e = cc
same_then Target Target e = refl

same_both : (s : Side) → is_same s s ≡ true
same_both Source = refl
same_both Target = refl

change_later : (f : Fall) (fs : List Fall) → HasChange fs → HasChange (f ∷ fs)
change_later f fs h = record { front = f ∷ h.front; one = h.one; next = h.next; rest = h.rest; all = ap (λ gs. f ∷ gs) h.all; apart = h.apart }

change_here_or_later : (b : Bool) (f g : Fall) (fs : List Fall) → is_same f.side g.side ≡ b → 0 < cond b 0 1 + changes (g ∷ fs) → (0 < changes (g ∷ fs) → HasChange (g ∷ fs)) → HasChange (f ∷ (g ∷ fs))
change_here_or_later true f g fs e some later = change_later f (g ∷ fs) (later (omega arith))
change_here_or_later false f g fs e some later =
    record { front = []; one = f; next = g; rest = fs; all = refl; apart = λ (same : f.side ≡ g.side). absurd (let t = same_both f.side in let u : is_same f.side g.side ≡ true = subst (λ s. is_same f.side s ≡ true) same t in cc) }

has_change : (fs : List Fall) → 0 < changes fs → HasChange fs
has_change [] some = absurd (omega arith)
has_change (f ∷ []) some = absurd (omega arith)
has_change (f ∷ (g ∷ fs)) some = change_here_or_later (is_same f.side g.side) f g fs refl some (has_change (g ∷ fs))

different : (s t : Side) → s ≢ t → is_same s t ≡ false
different Source Source apart = absurd (apart refl)
different Source Target apart = refl
different Target Source apart = refl
different Target Target apart = absurd (apart refl)

counts_change : (front : List Fall) (f g : Fall) (fs : List Fall) → f.side ≢ g.side → 0 < changes (front ++ f ∷ (g ∷ fs))
counts_change [] f g fs apart = rw (different f.side g.side apart) (omega arith)
counts_change (a ∷ []) f g fs apart = omega (arith, counts_change [] f g fs apart)
counts_change (a ∷ (b ∷ front)) f g fs apart = omega (arith, counts_change (b ∷ front) f g fs apart)

pub changes_where_sides_change : ChangesWhereSidesChange
changes_where_sides_change fs = (has_change fs, λ h. subst (λ gs. 0 < changes gs) (sym h.all) (counts_change h.front h.one h.next h.rest h.apart))
