-- One more reading, in each definition over the whole list.
use Rattle.std.proofs.Common.{◌≡◌, ℕ, ◌-◌, ◌<◌, Bool, true, false, cond, not, ◌||◌, List, [], ◌∷◌, ◌++◌, length, max, append_assoc, append-nil, refl, sym, ap, ◌∙◌, arith}
use Rattle.std.specs.List.{list_any}
use Rattle.std.proofs.lemmas.List.Elements.{filter-append}
use Rattle.std.proofs.lemmas.Grind.{fold-append}
use Rattle.clk_record.specs.declared.warp.Side.{Side}
use Rattle.clk_record.specs.declared.warp.WarpReading.{WarpReading}
use Rattle.clk_record.specs.Sides.{is_same, of_side, turns_of, first_tsc, last_tsc}
use Rattle.clk_record.specs.Falls.{Limits, Fall, each_after, each_place, is_last, ended_sides, is_ended, turn_before, is_fall, falls, greatest}

-- what one more reading gives stands behind what the others give
each_after_push : {A : Type 0} (f : List WarpReading → WarpReading → List A) (front rs : List WarpReading) (r : WarpReading)
    → each_after f front (rs ++ r ∷ []) ≡ each_after f front rs ++ f (front ++ rs) r
each_after_push f front [] r = rw (append-nil front) (append-nil (f front r))
each_after_push f front (s ∷ rs) r =
    let e = each_after_push f (front ++ s ∷ []) rs r in
    let same : (front ++ s ∷ []) ++ rs ≡ front ++ s ∷ rs = append_assoc front (s ∷ []) rs in
    rw (e, same) (sym (append_assoc (f front s) (each_after f (front ++ s ∷ []) rs) (f (front ++ s ∷ rs) r)))

pub each_place_push : {A : Type 0} (f : List WarpReading → WarpReading → List A) (rs : List WarpReading) (r : WarpReading)
    → each_place f (rs ++ r ∷ []) ≡ each_place f rs ++ f rs r
each_place_push f rs r = each_after_push f [] rs r

-- ---- the readings of a side, and turns

pub mine_push : (side : Side) (rs : List WarpReading) (r : WarpReading) → is_same side r.side ≡ true → of_side side (rs ++ r ∷ []) ≡ of_side side rs ++ r ∷ []
mine_push side rs r e = rw (filter-append (λ (s : WarpReading). is_same side s.side) rs (r ∷ [])) (rw e)

pub theirs_push : (side : Side) (rs : List WarpReading) (r : WarpReading) → is_same side r.side ≡ false → of_side side (rs ++ r ∷ []) ≡ of_side side rs
theirs_push side rs r e = rw (filter-append (λ (s : WarpReading). is_same side s.side) rs (r ∷ [])) (rw e (append-nil (of_side side rs)))

pub turn_push : (rs : List WarpReading) (r : WarpReading) → r.start ≡ false → turns_of (rs ++ r ∷ []) ≡ turns_of rs ++ r ∷ []
turn_push rs r e = rw (filter-append (λ (s : WarpReading). not s.start) rs (r ∷ [])) (rw e)

pub start_push : (rs : List WarpReading) (r : WarpReading) → r.start ≡ true → turns_of (rs ++ r ∷ []) ≡ turns_of rs
start_push rs r e = rw (filter-append (λ (s : WarpReading). not s.start) rs (r ∷ [])) (rw e (append-nil (turns_of rs)))

pub last_push : (rs : List WarpReading) (r : WarpReading) → last_tsc (rs ++ r ∷ []) ≡ r.tsc
last_push rs r = fold-append (λ (last : ℕ) (s : WarpReading). s.tsc) 0 rs (r ∷ [])

pub first_push : (rs : List WarpReading) (r : WarpReading) → 0 < length rs → first_tsc (rs ++ r ∷ []) ≡ first_tsc rs
first_push [] r some = absurd (omega arith)
first_push (s ∷ rs) r some = refl

pub first_alone : (rs : List WarpReading) (r : WarpReading) → length rs ≡ 0 → first_tsc (rs ++ r ∷ []) ≡ r.tsc
first_alone [] r none = refl
first_alone (s ∷ rs) r none = absurd (omega arith)

-- ---- ends

pub any_push : {A : Type 0} (test : A → Bool) (xs ys : List A) → list_any test (xs ++ ys) ≡ (list_any test xs || list_any test ys)
any_push test [] ys = refl
any_push test (x ∷ xs) ys = any_more (test x) (list_any test xs) (list_any test ys) (list_any test (xs ++ ys)) (any_push test xs ys) where
  any_more : (a b c d : Bool) → d ≡ (b || c) → (a || d) ≡ ((a || b) || c)
  any_more true b c d e = refl
  any_more false b c d e = e

ends_push : (l : Limits) (side : Side) (rs : List WarpReading) (r : WarpReading)
    → is_ended l side (rs ++ r ∷ []) ≡ (is_ended l side rs || list_any (is_same side) (cond (is_last l rs r) (r.side ∷ []) []))
ends_push l side rs r =
    ap (list_any (is_same side)) (each_place_push (λ front s. cond (is_last l front s) (s.side ∷ []) []) rs r)
    ∙ any_push (is_same side) (ended_sides l rs) (cond (is_last l rs r) (r.side ∷ []) [])

or_false : (b : Bool) → (b || false) ≡ b
or_false true = refl
or_false false = refl

any_alone : (side : Side) (s : Side) (b : Bool) → is_same side s ≡ true → list_any (is_same side) (cond b (s ∷ []) []) ≡ b
any_alone side s true e = rw e
any_alone side s false e = refl

pub any_other : (side : Side) (s : Side) (b : Bool) → is_same side s ≡ false → list_any (is_same side) (cond b (s ∷ []) []) ≡ false
any_other side s true e = rw e
any_other side s false e = refl

-- a reading of the other side ends nothing here
pub ended_theirs : (l : Limits) (side : Side) (rs : List WarpReading) (r : WarpReading) → is_same side r.side ≡ false
    → is_ended l side (rs ++ r ∷ []) ≡ is_ended l side rs
ended_theirs l side rs r e =
    ends_push l side rs r ∙ ap (λ b. is_ended l side rs || b) (any_other side r.side (is_last l rs r) e) ∙ or_false (is_ended l side rs)

-- one of this side ends it where it is the last, and else it stands as it was
pub ended_mine : (l : Limits) (side : Side) (rs : List WarpReading) (r : WarpReading) → is_same side r.side ≡ true → is_ended l side rs ≡ false
    → is_ended l side (rs ++ r ∷ []) ≡ is_last l rs r
ended_mine l side rs r e going =
    ends_push l side rs r ∙ ap (λ b. b || list_any (is_same side) (cond (is_last l rs r) (r.side ∷ []) [])) going ∙ any_alone side r.side (is_last l rs r) e

-- ---- falls

pub falls_push : (l : Limits) (rs : List WarpReading) (r : WarpReading)
    → falls l (rs ++ r ∷ []) ≡ falls l rs ++ cond (is_fall l rs r) ((record { side = r.side; size = turn_before rs - r.tsc }) ∷ []) []
falls_push l rs r =
    each_place_push (λ front s. cond (is_fall l front s) ((record { side = s.side; size = turn_before front - s.tsc }) ∷ []) []) rs r

pub no_fall : (l : Limits) (rs : List WarpReading) (r : WarpReading) → is_fall l rs r ≡ false → falls l (rs ++ r ∷ []) ≡ falls l rs
no_fall l rs r e = falls_push l rs r ∙ rw e (append-nil (falls l rs))

pub one_fall : (l : Limits) (rs : List WarpReading) (r : WarpReading) → is_fall l rs r ≡ true
    → falls l (rs ++ r ∷ []) ≡ falls l rs ++ (record { side = r.side; size = turn_before rs - r.tsc }) ∷ []
one_fall l rs r e = falls_push l rs r ∙ rw e

pub greatest_push : (fs : List Fall) (f : Fall) → greatest (fs ++ f ∷ []) ≡ max (greatest fs) f.size
greatest_push fs f = fold-append (λ (most : ℕ) (g : Fall). max most g.size) 0 fs (f ∷ [])
