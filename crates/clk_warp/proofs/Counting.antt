-- The counters stay those of the readings.
use Rattle.std.proofs.Common.{◌≡◌, ℕ, ◌+◌, ◌-◌, ◌<◌, Bool, true, false, not, ◌&&◌, ◌||◌, ltb, List, [], ◌∷◌, ◌++◌, length, max, Option, Some, refl, sym, ap, ◌∙◌, subst, ap₂, MatchBool, arith}
use Rattle.std.proofs.lemmas.Bool.{lt-ltb, ltb-true, ltb-false}
use Rattle.std.proofs.lemmas.List.{length_push}
use Rattle.clk_record.specs.declared.warp.Side.{Side}
use Rattle.clk_record.specs.declared.warp.Side.TheVariants.{Source, Target}
use Rattle.clk_record.specs.declared.warp.WarpReading.{WarpReading}
use Rattle.clk_record.specs.Sides.{is_same, of_side, turns_of, first_tsc, last_tsc, one_if_changed}
use Rattle.clk_record.specs.Falls.{Limits, Fall, is_over, is_last, turn_before, is_fall, falls, greatest, changes, has_fall, through_last, greatest_seen}
use Rattle.clk_warp.specs.declared.progress.Progress.{Progress}
use Rattle.clk_warp.specs.declared.counts.WarpCounts.{WarpCounts}
use Rattle.clk_warp.specs.Counts.{progress_of, limits_of, last_side, IsProgressOf, AreCountsOf}
use Rattle.clk_warp.specs.CountSteps.{at_source, at_target, SameFalls, OneFall, SameProgress, WithProgress, Compares}
use Rattle.clk_warp.proofs.Placing.{mine_push, theirs_push, turn_push, start_push, last_push, first_push, first_alone, ended_theirs, ended_mine, no_fall, one_fall, greatest_push}

pub same_side : (side : Side) → is_same side side ≡ true
same_side Source = refl
same_side Target = refl

-- ---- one more fall

last_side_push : (fs : List Fall) (f : Fall) → last_side (fs ++ f ∷ []) ≡ Some f.side
last_side_push [] f = refl
last_side_push (g ∷ []) f = refl
last_side_push (g ∷ (h ∷ fs)) f = last_side_push (h ∷ fs) f

changes_push : (fs : List Fall) (f : Fall) → changes (fs ++ f ∷ []) ≡ changes fs + one_if_changed (last_side fs) f.side
changes_push [] f = refl
changes_push (g ∷ []) f = omega arith
changes_push (g ∷ (h ∷ fs)) f = omega (arith, changes_push (h ∷ fs) f)

has_mine : (side : Side) (fs : List Fall) (f : Fall) → is_same side f.side ≡ true → has_fall side (fs ++ f ∷ []) ≡ true
has_mine side [] f e = rw e
has_mine side (g ∷ fs) f e = rw (has_mine side fs f e) (or_true (is_same side g.side)) where
  or_true : (b : Bool) → (b || true) ≡ true
  or_true true = refl
  or_true false = refl

through_mine : (side : Side) (fs : List Fall) (f : Fall) → is_same side f.side ≡ true → through_last side (fs ++ f ∷ []) ≡ fs ++ f ∷ []
through_mine side [] f e = rw e
through_mine side (g ∷ fs) f e = rw (has_mine side (g ∷ fs) f e) (ap (λ gs. g ∷ gs) (through_mine side fs f e))

has_theirs : (side : Side) (fs : List Fall) (f : Fall) → is_same side f.side ≡ false → has_fall side (fs ++ f ∷ []) ≡ has_fall side fs
has_theirs side [] f e = rw e
has_theirs side (g ∷ fs) f e = rw (has_theirs side fs f e)

through_theirs : (side : Side) (fs : List Fall) (f : Fall) → is_same side f.side ≡ false → through_last side (fs ++ f ∷ []) ≡ through_last side fs
through_theirs side [] f e = rw e
through_theirs side (g ∷ fs) f e = rw (has_theirs side (g ∷ fs) f e, through_theirs side fs f e)

seen_mine : (side : Side) (fs : List Fall) (f : Fall) → is_same side f.side ≡ true → greatest_seen side (fs ++ f ∷ []) ≡ max (greatest fs) f.size
seen_mine side fs f e = ap greatest (through_mine side fs f e) ∙ greatest_push fs f

seen_theirs : (side : Side) (fs : List Fall) (f : Fall) → is_same side f.side ≡ false → greatest_seen side (fs ++ f ∷ []) ≡ greatest_seen side fs
seen_theirs side fs f e = ap greatest (through_theirs side fs f e)

seen_at_source : (side : Side) (fs : List Fall) (f : Fall) → f.side ≡ side → greatest_seen Source (fs ++ f ∷ []) ≡ at_source side (max (greatest fs) f.size) (greatest_seen Source fs)
seen_at_source Source fs f e = seen_mine Source fs f (ap (is_same Source) e)
seen_at_source Target fs f e = seen_theirs Source fs f (ap (is_same Source) e)

seen_at_target : (side : Side) (fs : List Fall) (f : Fall) → f.side ≡ side → greatest_seen Target (fs ++ f ∷ []) ≡ at_target side (max (greatest fs) f.size) (greatest_seen Target fs)
seen_at_target Source fs f e = seen_theirs Target fs f (ap (is_same Target) e)
seen_at_target Target fs f e = seen_mine Target fs f (ap (is_same Target) e)

-- ---- how far a side is

progress_theirs : (l : Limits) (side : Side) (rs : List WarpReading) (r : WarpReading) (p : Progress) → is_same side r.side ≡ false
    → IsProgressOf l side rs p → IsProgressOf l side (rs ++ r ∷ []) p
progress_theirs l side rs r p e h =
    let same = theirs_push side rs r e in
    record {
      started = h.started ∙ sym (ap (λ (xs : List WarpReading). ltb 0 (length xs)) same);
      start = h.start ∙ sym (ap first_tsc same);
      turn = h.turn ∙ sym (ap (λ (xs : List WarpReading). length xs - 1) same);
      ended = h.ended ∙ sym (ended_theirs l side rs r e);
    }

-- a start reading is no last one, nor a fall
start_not_last : (l : Limits) (rs : List WarpReading) (r : WarpReading) → r.start ≡ true → is_last l rs r ≡ false
start_not_last l rs r e = rw e

start_no_fall : (l : Limits) (rs : List WarpReading) (r : WarpReading) → r.start ≡ true → is_fall l rs r ≡ false
start_no_fall l rs r e = rw e

pub progress_begun : (l : Limits) (side : Side) (rs : List WarpReading) (r : WarpReading) (p : Progress) → is_same side r.side ≡ true → r.start ≡ true
    → p.started ≡ false → p.ended ≡ false → IsProgressOf l side rs p → IsProgressOf l side (rs ++ r ∷ []) (record p { started = true; start = r.tsc })
progress_begun l side rs r p e start away going h =
    let same = mine_push side rs r e in
    let none : length (of_side side rs) ≡ 0 = omega (arith, ltb-false 0 (length (of_side side rs)) (sym h.started ∙ away)) in
    let one : length (of_side side (rs ++ r ∷ [])) ≡ 1 = ap length same ∙ omega (arith, length_push (of_side side rs) r) in
    record {
      started = sym (lt-ltb 0 (length (of_side side (rs ++ r ∷ []))) (omega arith));
      start = sym (ap first_tsc same ∙ first_alone (of_side side rs) r none);
      turn = omega (arith, h.turn);
      ended = going ∙ sym (ended_mine l side rs r e (sym h.ended ∙ going) ∙ start_not_last l rs r start);
    }

-- what a turn that is not the first reading finds
turn_last : (l : Limits) (rs : List WarpReading) (r : WarpReading) (p : Progress) → r.start ≡ false → IsProgressOf l r.side rs p
    → is_last l rs r ≡ is_over l p.start p.turn r.tsc
turn_last l rs r p start h = rw (start, h.start, h.turn)

pub progress_gone_on : (l : Limits) (rs : List WarpReading) (r : WarpReading) (p : Progress) → r.start ≡ false
    → p.started ≡ true → p.ended ≡ false → IsProgressOf l r.side rs p
    → IsProgressOf l r.side (rs ++ r ∷ []) (record p { turn = p.turn + 1; ended = is_over l p.start p.turn r.tsc })
progress_gone_on l rs r p start here going h =
    let e = same_side r.side in
    let same = mine_push r.side rs r e in
    let some : 0 < length (of_side r.side rs) = ltb-true 0 (length (of_side r.side rs)) (sym h.started ∙ here) in
    let more : length (of_side r.side (rs ++ r ∷ [])) ≡ length (of_side r.side rs) + 1 = ap length same ∙ length_push (of_side r.side rs) r in
    record {
      started = here ∙ sym (lt-ltb 0 (length (of_side r.side (rs ++ r ∷ []))) (omega arith));
      start = h.start ∙ sym (ap first_tsc same ∙ first_push (of_side r.side rs) r some);
      turn = omega (arith, h.turn);
      ended = sym (turn_last l rs r p start h) ∙ sym (ended_mine l r.side rs r e (sym h.ended ∙ going));
    }

-- both sides, of which one went on
record AreBoth (l : Limits) (rs : List WarpReading) (a b : Progress) : Type 0 where
  source : IsProgressOf l Source rs a
  target : IsProgressOf l Target rs b

both_push : (side : Side) (l : Limits) (rs : List WarpReading) (r : WarpReading) (p a b c d : Progress) → r.side ≡ side
    → IsProgressOf l Source rs a → IsProgressOf l Target rs b → IsProgressOf l side (rs ++ r ∷ []) p
    → c ≡ at_source side p a → d ≡ at_target side p b → AreBoth l (rs ++ r ∷ []) c d
both_push Source l rs r p a b c d e source target mine at_c at_d = record {
  source = subst (IsProgressOf l Source (rs ++ r ∷ [])) (sym at_c) mine;
  target = subst (IsProgressOf l Target (rs ++ r ∷ [])) (sym at_d) (progress_theirs l Target rs r b (ap (is_same Target) e) target);
}
both_push Target l rs r p a b c d e source target mine at_c at_d = record {
  source = subst (IsProgressOf l Source (rs ++ r ∷ [])) (sym at_c) (progress_theirs l Source rs r a (ap (is_same Source) e) source);
  target = subst (IsProgressOf l Target (rs ++ r ∷ [])) (sym at_d) mine;
}

-- ---- the counters

pub progress_at : (side : Side) (l : Limits) (rs : List WarpReading) (c : WarpCounts) → AreCountsOf l rs c → IsProgressOf l side rs (progress_of side c)
progress_at Source l rs c h = h.source
progress_at Target l rs c h = h.target

-- the falls stand, and one side went on
stands : (l : Limits) (rs : List WarpReading) (r : WarpReading) (p : Progress) (before after : WarpCounts) → WithProgress r.side p before after
    → falls l (rs ++ r ∷ []) ≡ falls l rs → turn_before (rs ++ r ∷ []) ≡ turn_before rs → IsProgressOf l r.side (rs ++ r ∷ []) p
    → AreCountsOf l rs before → AreCountsOf l (rs ++ r ∷ []) after
stands l rs r p before after w same prev mine h =
    let both = both_push r.side l rs r p before.source before.target after.source after.target refl h.source h.target mine w.source w.target in
    record {
      limits = w.limits ∙ h.limits;
      nr = w.falls.nr ∙ h.nr ∙ sym (ap length same);
      max = w.falls.max ∙ h.max ∙ sym (ap greatest same);
      random = w.falls.random ∙ h.random ∙ sym (ap changes same);
      cur_source = w.falls.cur_source ∙ h.cur_source ∙ sym (ap (greatest_seen Source) same);
      cur_target = w.falls.cur_target ∙ h.cur_target ∙ sym (ap (greatest_seen Target) same);
      last = w.falls.last ∙ h.last ∙ sym (ap last_side same);
      prev = w.prev ∙ h.prev ∙ sym prev;
      source = both.source;
      target = both.target;
    }

pub added_start : (side : Side) (tsc ticket : ℕ) (l : Limits) (rs : List WarpReading) (before after : WarpCounts)
    → (progress_of side before).started ≡ false → (progress_of side before).ended ≡ false
    → WithProgress side (record (progress_of side before) { started = true; start = tsc }) before after
    → AreCountsOf l rs before → AreCountsOf l (rs ++ (record { side = side; start = true; ticket = ticket; tsc = tsc }) ∷ []) after
added_start side tsc ticket l rs before after away going w h =
    let r : WarpReading = record { side = side; start = true; ticket = ticket; tsc = tsc } in
    stands l rs r _ before after w (no_fall l rs r (start_no_fall l rs r refl)) (ap last_tsc (start_push rs r refl))
    (progress_begun l side rs r (progress_of side before) (same_side side) refl away going (progress_at side l rs before h)) h

-- ---- a turn

-- how far the side is after it
abbrev pub gone_on : WarpCounts → Side → ℕ → Progress
gone_on c side tsc =
    let p = progress_of side c in
    record p { turn = p.turn + 1; ended = is_over (limits_of c) p.start p.turn tsc }

-- what one side's turn makes of the counters
compared : (b : Bool) (l : Limits) (rs : List WarpReading) (r : WarpReading) (p : Progress) (before middle after : WarpCounts)
    → WithProgress r.side p before middle → SameProgress middle after → after.prev ≡ r.tsc
    → MatchBool b (OneFall r.side (middle.prev - r.tsc) middle after) (SameFalls middle after) → is_fall l rs r ≡ b
    → r.start ≡ false → IsProgressOf l r.side (rs ++ r ∷ []) p → AreCountsOf l rs before → AreCountsOf l (rs ++ r ∷ []) after
compared true l rs r p before middle after w same prev one e turn mine h =
    let both = both_push r.side l rs r p before.source before.target after.source after.target refl h.source h.target mine (same.source ∙ w.source) (same.target ∙ w.target) in
    let f : Fall = record { side = r.side; size = turn_before rs - r.tsc } in
    let all = one_fall l rs r e in
    let most : max middle.max (middle.prev - r.tsc) ≡ max (greatest (falls l rs)) f.size =
    ap₂ (λ (a b : ℕ). max a (b - r.tsc)) (w.falls.max ∙ h.max) (w.prev ∙ h.prev) in
    record {
      limits = same.limits ∙ w.limits ∙ h.limits;
      nr = one.nr ∙ ap (λ n. n + 1) (w.falls.nr ∙ h.nr) ∙ sym (ap length all ∙ length_push (falls l rs) f);
      max = one.most ∙ most ∙ sym (ap greatest all ∙ greatest_push (falls l rs) f);
      random = one.random ∙ ap₂ (λ (n : ℕ) (s : Option Side). n + one_if_changed s r.side) (w.falls.random ∙ h.random) (w.falls.last ∙ h.last)
          ∙ sym (ap changes all ∙ changes_push (falls l rs) f);
      cur_source = one.cur_source ∙ ap₂ (λ (m c : ℕ). at_source r.side m c) most (w.falls.cur_source ∙ h.cur_source)
          ∙ sym (ap (greatest_seen Source) all ∙ seen_at_source r.side (falls l rs) f refl);
      cur_target = one.cur_target ∙ ap₂ (λ (m c : ℕ). at_target r.side m c) most (w.falls.cur_target ∙ h.cur_target)
          ∙ sym (ap (greatest_seen Target) all ∙ seen_at_target r.side (falls l rs) f refl);
      last = one.last ∙ sym (ap last_side all ∙ last_side_push (falls l rs) f);
      prev = prev ∙ sym (ap last_tsc (turn_push rs r turn) ∙ last_push (turns_of rs) r);
      source = both.source;
      target = both.target;
    }
compared false l rs r p before middle after w same prev none e turn mine h =
    let both = both_push r.side l rs r p before.source before.target after.source after.target refl h.source h.target mine (same.source ∙ w.source) (same.target ∙ w.target) in
    let all = no_fall l rs r e in
    record {
      limits = same.limits ∙ w.limits ∙ h.limits;
      nr = none.nr ∙ w.falls.nr ∙ h.nr ∙ sym (ap length all);
      max = none.max ∙ w.falls.max ∙ h.max ∙ sym (ap greatest all);
      random = none.random ∙ w.falls.random ∙ h.random ∙ sym (ap changes all);
      cur_source = none.cur_source ∙ w.falls.cur_source ∙ h.cur_source ∙ sym (ap (greatest_seen Source) all);
      cur_target = none.cur_target ∙ w.falls.cur_target ∙ h.cur_target ∙ sym (ap (greatest_seen Target) all);
      last = none.last ∙ w.falls.last ∙ h.last ∙ sym (ap last_side all);
      prev = prev ∙ sym (ap last_tsc (turn_push rs r turn) ∙ last_push (turns_of rs) r);
      source = both.source;
      target = both.target;
    }

-- whether a turn is a fall, as the counters find it
turn_fall : (l : Limits) (rs : List WarpReading) (r : WarpReading) (ended : Bool) (prev : ℕ) → r.start ≡ false → is_last l rs r ≡ ended → turn_before rs ≡ prev
    → is_fall l rs r ≡ (not ended && ltb r.tsc prev)
turn_fall l rs r ended prev start last before =
    ap (λ (b : Bool). not b && (not (is_last l rs r) && ltb r.tsc (turn_before rs))) start ∙ ap₂ (λ (b : Bool) (n : ℕ). not b && ltb r.tsc n) last before

pub added_turn : (side : Side) (tsc ticket : ℕ) (l : Limits) (rs : List WarpReading) (before middle after : WarpCounts)
    → (progress_of side before).started ≡ true → (progress_of side before).ended ≡ false
    → WithProgress side (gone_on before side tsc) before middle → Compares side (gone_on before side tsc).ended tsc middle after
    → AreCountsOf l rs before → AreCountsOf l (rs ++ (record { side = side; start = false; ticket = ticket; tsc = tsc }) ∷ []) after
added_turn side tsc ticket l rs before middle after here going w done h =
    let r : WarpReading = record { side = side; start = false; ticket = ticket; tsc = tsc } in
    let p = progress_of side before in
    let at = progress_at side l rs before h in
    let over : is_over (limits_of before) p.start p.turn tsc ≡ is_over l p.start p.turn tsc = ap (λ (m : Limits). is_over m p.start p.turn tsc) h.limits in
    let mine : IsProgressOf l side (rs ++ r ∷ []) (gone_on before side tsc) =
    subst (λ (b : Bool). IsProgressOf l side (rs ++ r ∷ []) (record p { turn = p.turn + 1; ended = b })) (sym over) (progress_gone_on l rs r p refl here going at) in
    compared (not (is_over (limits_of before) p.start p.turn tsc) && ltb tsc middle.prev) l rs r (gone_on before side tsc) before middle after w done.progress done.prev done.falls
    (turn_fall l rs r (is_over (limits_of before) p.start p.turn tsc) middle.prev refl (turn_last l rs r p refl at ∙ sym over) (sym (w.prev ∙ h.prev))) refl mine h
