-- A run makes no more readings than it has tickets for.
use Rattle.std.proofs.Common.{◌≡◌, ℕ, ◌+◌, ◌-◌, ◌*◌, ◌/◌, ◌%◌, ◌<◌, ◌≤◌, Bool, true, false, not, ◌&&◌, ◌||◌, ltb, nat_eq, List, [], ◌∷◌, ◌++◌, length, append_assoc, append-nil, refl, sym, ap, ◌∙◌, subst, arith}
use Rattle.std.proofs.lemmas.Bool.{ltb-true, ltb-false}
use Rattle.std.proofs.lemmas.List.{length_push}
use Rattle.clk_machine.specs.Plan.{Plan}
use Rattle.clk_record.specs.declared.warp.Side.{Side}
use Rattle.clk_record.specs.declared.warp.Side.TheVariants.{Source, Target}
use Rattle.clk_record.specs.declared.warp.WarpReading.{WarpReading}
use Rattle.clk_record.specs.declared.warp.WarpRun.{WarpRun}
use Rattle.clk_record.specs.Sides.{is_same, of_side}
use Rattle.clk_record.specs.Falls.{Limits, is_started, start_of, next_turn, is_over, is_ended, AreInTurn}
use Rattle.clk_record.specs.Warps.{IsWarpRun}
use Rattle.clk_record.specs.WarpLimits.{limits_in}
use Rattle.clk_record.proofs.Falls.{same_then}
use Rattle.clk_warp.specs.Run.{most_readings}
use Rattle.clk_warp.proofs.Counting.{same_side}
use Rattle.clk_warp.proofs.Placing.{mine_push, theirs_push, ended_theirs, ended_mine}

-- a side makes at most nine turns more than it may, and while it goes on it has passed each of its looks
record IsFewOf (l : Limits) (side : Side) (rs : List WarpReading) : Type 0 where
  count : length (of_side side rs) ≤ l.turns + 10
  going : is_ended l side rs ≡ false → 8 * ((next_turn side rs + 7) / 8) ≤ l.turns + 8

-- a turn at which a side goes on is no look, or it is one that the side may make
goes_on : (turns i : ℕ) (late : Bool) → (nat_eq (i % 8) 0 && (late || ltb turns i)) ≡ false → 8 * ((i + 7) / 8) ≤ turns + 8
    → 8 * ((i + 1 + 7) / 8) ≤ turns + 8
goes_on turns i late e low = by_look (nat_eq (i % 8) 0) refl e where
  by_late : (b c : Bool) → (b || c) ≡ false → c ≡ false
  by_late true c f = absurd (cc)
  by_late false c f = f

  by_look : (b : Bool) → nat_eq (i % 8) 0 ≡ b → (b && (late || ltb turns i)) ≡ false → 8 * ((i + 1 + 7) / 8) ≤ turns + 8
  by_look true look f =
      let at : i % 8 ≡ 0 = grind arith in
      let within : i ≤ turns = ltb-false turns i (by_late late (ltb turns i) f) in
      omega (arith, at, within)
  by_look false look f =
      let off : i % 8 ≡ 0 → ⊥ = λ z. absurd (let t : nat_eq (i % 8) 0 ≡ true = rw z refl in cc) in
      omega (arith, off, low)

-- one more reading of the side
by_start : (l : Limits) (rs : List WarpReading) (r : WarpReading) (b : Bool) → r.start ≡ b → IsFewOf l r.side rs → is_ended l r.side rs ≡ false
    → r.start ≡ not (is_started r.side rs) → IsFewOf l r.side (rs ++ r ∷ [])
by_start l rs r true e few going start =
    let none : length (of_side r.side rs) ≤ 0 = ltb-false 0 (length (of_side r.side rs)) (not_true (is_started r.side rs) (sym start ∙ e)) in
    let more : length (of_side r.side (rs ++ r ∷ [])) ≡ length (of_side r.side rs) + 1 =
    ap length (mine_push r.side rs r (same_side r.side)) ∙ length_push (of_side r.side rs) r in
    record {
      count = omega (arith, more, none);
      going = λ goes. let at : next_turn r.side (rs ++ r ∷ []) ≡ 0 = omega (arith, more, none) in rw at (omega arith);
    } where
      not_true : (b : Bool) → not b ≡ true → b ≡ false
      not_true true f = absurd (cc)
      not_true false f = refl
by_start l rs r false e few going start =
    let some : 0 < length (of_side r.side rs) = ltb-true 0 (length (of_side r.side rs)) (not_false (is_started r.side rs) (sym start ∙ e)) in
    let more : length (of_side r.side (rs ++ r ∷ [])) ≡ length (of_side r.side rs) + 1 =
    ap length (mine_push r.side rs r (same_side r.side)) ∙ length_push (of_side r.side rs) r in
    let low = few.going going in
    record {
      count = omega (arith, more, low, some);
      going = λ goes.
          let last : is_over l (start_of r.side rs) (next_turn r.side rs) r.tsc ≡ false =
          ap (λ (b : Bool). not b && is_over l (start_of r.side rs) (next_turn r.side rs) r.tsc) (sym e)
          ∙ sym (ended_mine l r.side rs r (same_side r.side) going) ∙ goes in
          let at : next_turn r.side (rs ++ r ∷ []) ≡ next_turn r.side rs + 1 = omega (arith, more, some) in
          rw at (goes_on l.turns (next_turn r.side rs) (ltb (start_of r.side rs + l.span) r.tsc) last low);
    } where
      not_false : (b : Bool) → not b ≡ false → b ≡ true
      not_false true f = refl
      not_false false f = absurd (cc)

few_push : (l : Limits) (side : Side) (rs : List WarpReading) (r : WarpReading) (b : Bool) → is_same side r.side ≡ b → IsFewOf l side rs → is_ended l r.side rs ≡ false
    → r.start ≡ not (is_started r.side rs) → IsFewOf l side (rs ++ r ∷ [])
few_push l side rs r true e few going start =
    let same : side ≡ r.side = same_then side r.side e in
    subst (λ (s : Side). IsFewOf l s (rs ++ r ∷ [])) (sym same) (by_start l rs r r.start refl (subst (λ (s : Side). IsFewOf l s rs) same few) going start)
few_push l side rs r false e few going start =
    let same = theirs_push side rs r e in
    record {
      count = subst (λ (xs : List WarpReading). length xs ≤ l.turns + 10) (sym same) few.count;
      going = λ goes.
          subst (λ (xs : List WarpReading). 8 * ((length xs - 1 + 7) / 8) ≤ l.turns + 8) (sym same) (few.going (sym (ended_theirs l side rs r e) ∙ goes));
    }

few_after : (l : Limits) (side : Side) (front rs : List WarpReading) → IsFewOf l side front → AreInTurn l front rs → IsFewOf l side (front ++ rs)
few_after l side front [] few turns = subst (IsFewOf l side) (sym (append-nil front)) few
few_after l side front (r ∷ rs) few turns =
    subst (IsFewOf l side) (append_assoc front (r ∷ []) rs)
    (few_after l side (front ++ r ∷ []) rs (few_push l side front r (is_same side r.side) refl few turns.0 turns.1) turns.2)

few_none : (l : Limits) (side : Side) → IsFewOf l side []
few_none l side = record { count = omega arith; going = λ goes. omega arith }

sides_add : (rs : List WarpReading) → length rs ≡ length (of_side Source rs) + length (of_side Target rs)
sides_add [] = refl
sides_add (r ∷ rs) = one_added r.side (sides_add rs) where
  one_added : (side : Side) → length rs ≡ length (of_side Source rs) + length (of_side Target rs)
      → length (r ∷ rs) ≡ length (of_side Source (record { side = side; start = r.start; ticket = r.ticket; tsc = r.tsc } ∷ rs)) + length (of_side Target (record { side = side; start = r.start; ticket = r.ticket; tsc = r.tsc } ∷ rs))
  one_added Source e = omega arith
  one_added Target e = omega arith

pub few_readings : (m : Plan) (cpu : ℕ) (run : WarpRun) → IsWarpRun (limits_in m cpu) run → length run.readings.items ≤ most_readings m
few_readings m cpu run h =
    let l = limits_in m cpu in
    let rs = run.readings.items in
    let a = (few_after l Source [] rs (few_none l Source) h.turns).count in
    let b = (few_after l Target [] rs (few_none l Target) h.turns).count in
    let both = sides_add rs in
    omega (arith, a, b, both)
