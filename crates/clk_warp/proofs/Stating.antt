-- The state keeps its promises over one more reading.
use Rattle.std.proofs.Common.{◌≡◌, ℕ, ◌+◌, ◌*◌, ◌^◌, ◌<◌, ◌≤◌, Bool, true, false, not, ◌&&◌, List, [], ◌∷◌, ◌++◌, length, ℤ, if◌then◌else◌, Option, Some, None, IfSome, inr, append_assoc, append-nil, refl, sym, ap, ◌∙◌, subst, arith}
use Rattle.std.specs.Prelude.{option_map, is_some, IsSomeAnd}
use Rattle.std.proofs.lemmas.List.{length_push}
use Rattle.std.proofs.lemmas.List.Elements.{All-push}
use Rattle.clk_ticket.specs.Time.{Time, Draws, after_draw}
use Rattle.clk_machine.specs.Plan.{Plan, count_of}
use Rattle.clk_machine.specs.Limits.{IsBringUp, IfThere}
use Rattle.clk_machine.specs.Time.{counter_at}
use Rattle.clk_machine.specs.Timeouts.{is_first_of_socket}
use Rattle.clk_machine.specs.declared.parts.BringUpPart.{BringUpPart}
use Rattle.clk_record.specs.declared.warp.Side.{Side}
use Rattle.clk_record.specs.declared.warp.Side.TheVariants.{Source, Target}
use Rattle.clk_record.specs.declared.warp.WarpReading.{WarpReading}
use Rattle.clk_record.specs.Sides.{of_side}
use Rattle.clk_record.specs.Falls.{Limits, AreInTurn, is_ended, is_started}
use Rattle.clk_record.specs.WarpLimits.{timeout_in, cpu_of, side_adjust}
use Rattle.clk_warp.specs.declared.progress.Progress.{Progress}
use Rattle.clk_warp.specs.declared.counts.WarpCounts.{WarpCounts}
use Rattle.clk_warp.specs.declared.state.Inner.{Inner}
use Rattle.clk_warp.specs.declared.section.Section.TheVariants.{Read}
use Rattle.clk_warp.specs.Few.{IsFew}
use Rattle.clk_warp.specs.Counts.{progress_of, AreCountsOf}
use Rattle.clk_warp.proofs.Counting.{progress_at}
use Rattle.clk_warp.specs.Run.{Run, limits_at, most_readings, both_here, side_ended, change, ShowsCounter, IsReading}
use Rattle.clk_warp.specs.Stated.{run_of, IsKept}

-- ---- the span is small

chosen_few : (own : Bool) (a b : ℤ) → count_of a ≤ 1000000 → count_of b ≤ 1000000 → count_of (if own then a else b) ≤ 1000000
chosen_few true a b ha hb = ha
chosen_few false a b ha hb = hb

timeout_few : (m : Plan) (b : Option BringUpPart) (cpu : ℕ) → IfThere IsBringUp b → timeout_in m b cpu ≤ 1000000
timeout_few m None cpu h = omega arith
timeout_few m (Some part) cpu h = chosen_few (is_first_of_socket m cpu) part.first_us part.timeout_us h.first.2 h.timeout.2

-- ---- fewer readings than room and tickets

sides_add : (rs : List WarpReading) → length rs ≡ length (of_side Source rs) + length (of_side Target rs)
sides_add [] = refl
sides_add (r ∷ rs) = one_added r.side (sides_add rs) where
  one_added : (side : Side) → length rs ≡ length (of_side Source rs) + length (of_side Target rs)
      → length (r ∷ rs) ≡ length (of_side Source (record { side = side; start = r.start; ticket = r.ticket; tsc = r.tsc } ∷ rs)) + length (of_side Target (record { side = side; start = r.start; ticket = r.ticket; tsc = r.tsc } ∷ rs))
  one_added Source e = omega arith
  one_added Target e = omega arith

going_few : (span turns : ℕ) (p : Progress) → IsFew span turns p → p.ended ≡ false → p.turn ≤ turns + 8
going_few span turns p few going = let h = few.going going in omega arith

few_by_sides : (side : Side) (l : Limits) (rs : List WarpReading) (c : WarpCounts) → AreCountsOf l rs c → is_ended l side rs ≡ false → length rs < 2 * (l.turns + 10)
few_by_sides Source l rs c h going =
    let a = going_few c.span c.turns c.source c.few.at_source (h.source.ended ∙ going) in
    omega (arith, a, c.few.at_target.turn, sides_add rs, h.source.turn, h.target.turn, ap (λ (m : Limits). m.turns) h.limits)
few_by_sides Target l rs c h going =
    let a = going_few c.span c.turns c.target c.few.at_target (h.target.ended ∙ going) in
    omega (arith, a, c.few.at_source.turn, sides_add rs, h.source.turn, h.target.turn, ap (λ (m : Limits). m.turns) h.limits)

pub few_readings : (side : Side) (s : Run) (room : ℕ) (c : WarpCounts) → IsKept s room c → is_ended (limits_at s) side s.readings ≡ false → length s.readings < most_readings s.machine
few_readings side s room c kept going = few_by_sides side (limits_at s) s.readings c kept.counted going

-- ---- one more reading

in_turn_push : (l : Limits) (front rs : List WarpReading) (r : WarpReading) → AreInTurn l front rs → is_ended l r.side (front ++ rs) ≡ false → r.start ≡ not (is_started r.side (front ++ rs))
    → AreInTurn l front (rs ++ r ∷ [])
in_turn_push l front [] r turns going start =
    let e = append-nil front in
    (subst (λ xs. is_ended l r.side xs ≡ false) e going, subst (λ xs. r.start ≡ not (is_started r.side xs)) e start, tt)
in_turn_push l front (s ∷ rs) r turns going start =
    let e : front ++ s ∷ rs ≡ (front ++ s ∷ []) ++ rs = sym (append_assoc front (s ∷ []) rs) in
    (turns.0, turns.1, in_turn_push l (front ++ s ∷ []) rs r turns.2 (subst (λ xs. is_ended l r.side xs ≡ false) e going) (subst (λ xs. r.start ≡ not (is_started r.side xs)) e start))

pub kept_read : (s : Run) (room after : ℕ) (c d : WarpCounts) (r : WarpReading) → IsKept s room c → IsReading s r → after + 1 ≡ room
    → AreCountsOf (limits_at s) (s.readings ++ r ∷ []) d → IsKept (change s (Read r)) after d
kept_read s room after c d r kept reads less counts =
    let e = length_push s.readings r in
    record {
      cpu = kept.cpu;
      near = kept.near;
      none_before = inr (still_here s.time s.target reads.here);
      few = omega (arith, kept.few, e);
      room_left = omega (arith, kept.room_left);
      tickets_left = less_left s.time kept.tickets_left;
      shows = All-push (ShowsCounter s) s.readings r kept.shows reads.shows;
      in_turn = in_turn_push (limits_at s) [] s.readings r kept.in_turn reads.going reads.start;
      counted = counts;
    } where
      still_here : (t : Option Time) (b : Bool) → (is_some t && b) ≡ true → (is_some (option_map (λ u. after_draw u r.ticket 1) t) && b) ≡ true
      still_here None b h = h
      still_here (Some t) b h = h

      less_left : (t : Option Time) → IfSome t (λ u. (u.table ≡ s.tickets) × (most_readings s.machine ≤ u.left + length s.readings))
          → IfSome (option_map (λ u. after_draw u r.ticket 1) t) (λ u. (u.table ≡ s.tickets) × (most_readings s.machine ≤ u.left + length (s.readings ++ r ∷ [])))
      less_left None h = h
      less_left (Some t) h = (h.0, omega (arith, h.1, length_push s.readings r))

-- what stands behind the state's box keeps its promises
pub kept_behind : (i j : Inner) → i ≡ j → IsKept (run_of j) j.readings.room j.counts → IsKept (run_of i) i.readings.room i.counts
kept_behind i j e kept = subst (λ (x : Inner). IsKept (run_of x) x.readings.room x.counts) (sym e) kept

-- a ticket is left
pub ticket_left : (s : Run) (t : Option Time) (b : Bool) (n : ℕ) → (is_some t && b) ≡ true → IfSome t (λ u. (u.table ≡ s.tickets) × (most_readings s.machine ≤ u.left + n))
    → n < most_readings s.machine → IsSomeAnd t (λ u. (u.table ≡ s.tickets) × (0 < u.left))
ticket_left s None b n here h few = absurd (let e = here in cc)
ticket_left s (Some t) b n here h few = (h.0, omega (arith, h.1))

-- the seat that a ticket was drawn from
pub record IsDrawn (o : Option Time) (k : ℕ) : Type 0 where
  pub time : Time
  pub has : o ≡ Some time
  pub draws : Draws time k 1 (after_draw time k 1)

pub drawn_time : (o : Option Time) (k : ℕ) → IsSomeAnd o (λ t. Draws t k 1 (after_draw t k 1)) → IsDrawn o k
drawn_time None k h = absurd h
drawn_time (Some t) k h = record { time = t; has = refl; draws = h }

-- a counter is far from the end of its type
pub far_from_end : (n m : ℕ) → n ≡ m → m ≤ 147 * 2 ^ 41 → n < 2 ^ 50
far_from_end n m e most = omega arith

-- a reading of the state as it was opened is one of the state as it was handed in
pub reading_is : (side : Side) (s now : Run) (room : ℕ) (c : WarpCounts) (p : Progress) (k tsc : ℕ) (machine : Plan) → s ≡ now → IsKept s room c
    → both_here now ≡ true → side_ended side now ≡ false → p ≡ progress_of side c → IsSomeAnd s.time (λ t. Draws t k 1 (after_draw t k 1)) → machine ≡ now.machine
    → tsc ≡ counter_at machine (cpu_of side s.cpu) (side_adjust side s.adjust) k → IsReading s (record { side = side; start = not p.started; ticket = k; tsc = tsc })
reading_is side s now room c p k tsc machine e kept here going progress drew same value =
    let drawn = drawn_time s.time k drew in
    let at = progress_at side (limits_at s) s.readings c kept.counted in
    let machine_is : machine ≡ s.machine = same ∙ sym (ap (λ (t : Run). t.machine) e) in
    record {
      here = subst (λ (t : Run). both_here t ≡ true) (sym e) here;
      going = subst (λ (t : Run). side_ended side t ≡ false) (sym e) going;
      start = ap not (ap (λ (q : Progress). q.started) progress ∙ at.started);
      time = drawn.time;
      has = drawn.has;
      draws = drawn.draws;
      shows = subst (λ (m : Plan). tsc ≡ counter_at m (cpu_of side s.cpu) (side_adjust side s.adjust) k) machine_is value;
    }
