-- The tickets of runs, one after another.
use Rattle.std.proofs.Common.{◌≡◌, ℕ, ◌<◌, ℤ, List, [], ◌∷◌, ◌++◌, map, length-append, append_assoc, append-nil, refl, sym, ap, ◌∙◌, subst, arith}
use Rattle.std.specs.List.{All}
use Rattle.std.proofs.lemmas.List.{map-append}
use Rattle.std.proofs.lemmas.List.Concat.{flat_map-append}
use Rattle.std.proofs.lemmas.List.Elements.{All-nil, All-cons, All-append}
use Rattle.clk_base.specs.declared.block.Block.{Block}
use Rattle.clk_base.specs.Walk.{Along}
use Rattle.clk_ticket.specs.Sizes.{most_tickets}
use Rattle.clk_ticket.specs.Time.{Time, after_draw}
use Rattle.clk_machine.specs.Plan.{Plan}
use Rattle.clk_record.specs.declared.warp.WarpReading.{WarpReading}
use Rattle.clk_record.specs.declared.warp.WarpRun.{WarpRun}
use Rattle.clk_record.specs.declared.up.CpuUp.{CpuUp}
use Rattle.clk_record.specs.BroughtUp.{IsRunOfCpu, adjusted}
use Rattle.clk_record.specs.WarpReadings.{readings_in, all_readings}
use Rattle.clk_warp.specs.Pairs.{drawn_for, block_of, DrawsFor, IsPaired}
use Rattle.clk_adjust.specs.Tickets.{IsMade, HasDrawn}

pub draws_none : (t : Time) → DrawsFor t [] t
draws_none t = record {
  is = refl;
  within = All-nil (λ r. r.ticket < most_tickets);
  table = refl;
  left = omega arith;
  blocks = sym (append-nil t.blocks);
  rises = λ r. r;
  share = refl;
}

drawn_append : (t : Time) (rs qs : List WarpReading) → drawn_for (drawn_for t rs) qs ≡ drawn_for t (rs ++ qs)
drawn_append t [] qs = refl
drawn_append t (r ∷ rs) qs = drawn_append (after_draw t r.ticket 1) rs qs

pub draws_both : (t u v : Time) (rs qs : List WarpReading) → DrawsFor t rs u → DrawsFor u qs v → DrawsFor t (rs ++ qs) v
draws_both t u v rs qs a b =
    let both = length-append rs qs in
    let first = a.left in
    let second = b.left in
    record {
      is = b.is ∙ ap (λ (w : Time). drawn_for w qs) a.is ∙ drawn_append t rs qs;
      within = All-append (λ r. r.ticket < most_tickets) rs qs a.within b.within;
      table = b.table ∙ a.table;
      left = omega (arith, both, first, second);
      blocks = b.blocks ∙ ap (λ (bs : List Block). bs ++ map block_of qs) a.blocks ∙ append_assoc t.blocks (map block_of rs) (map block_of qs)
          ∙ ap (λ (bs : List Block). t.blocks ++ bs) (sym (map-append block_of rs qs));
      rises = λ r. b.rises (a.rises r);
      share = b.share ∙ a.share;
    }

-- the readings of one more run, and of one more CPU
pub readings_push : (runs : List WarpRun) (run : WarpRun) → readings_in (runs ++ run ∷ []) ≡ readings_in runs ++ run.readings.items
readings_push runs run =
    flat_map-append (λ (r : WarpRun). r.readings.items) runs (run ∷ []) ∙ ap (λ (rs : List WarpReading). readings_in runs ++ rs) (append-nil run.readings.items)

pub all_push : (ups : List CpuUp) (up : CpuUp) → all_readings (ups ++ up ∷ []) ≡ all_readings ups ++ readings_in up.runs.items
all_push ups up =
    flat_map-append (λ (u : CpuUp). readings_in u.runs.items) ups (up ∷ [])
    ∙ ap (λ (rs : List WarpReading). all_readings ups ++ rs) (append-nil (readings_in up.runs.items))

-- ---- that finished runs drew them

pub drawn_none : (m : Plan) (t : Time) → HasDrawn m t t
drawn_none m t = record { runs = []; made = All-nil (IsMade m); draws = draws_none t }

pub drawn_both : (m : Plan) (t u v : Time) → HasDrawn m t u → HasDrawn m u v → HasDrawn m t v
drawn_both m t u v a b = record {
  runs = a.runs ++ b.runs;
  made = All-append (IsMade m) a.runs b.runs a.made b.made;
  draws =
      subst (λ (rs : List WarpReading). DrawsFor t rs v) (sym (flat_map-append (λ (r : WarpRun). r.readings.items) a.runs b.runs))
      (draws_both t u v (readings_in a.runs) (readings_in b.runs) a.draws b.draws);
}

pub runs_made : (m : Plan) (cpu : ℕ) (adjust : ℤ) (runs : List WarpRun) → Along (IsRunOfCpu m cpu) adjusted adjust runs → All (IsMade m) runs
runs_made m cpu adjust [] along = All-nil (IsMade m)
runs_made m cpu adjust (run ∷ runs) along =
    All-cons (IsMade m) run runs (record { cpu = cpu; adjust = adjust; is = along.0 }) (runs_made m cpu (adjusted adjust run) runs along.1)

pub run_of : (m : Plan) (cpu : ℕ) (adjust : ℤ) (t u : Time) (run : WarpRun) → IsPaired m cpu adjust t run u → IsRunOfCpu m cpu adjust run
run_of m cpu adjust t u run p = record { run_is = p.run_is; counters = p.counters }
