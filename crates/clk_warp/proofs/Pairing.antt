-- What a joined pair has made: both sides ended, and the tickets are those of its readings.
use Rattle.std.proofs.Common.{◌≡◌, ℕ, ◌-◌, ◌<◌, Bool, true, false, cond, ◌||◌, List, [], ◌∷◌, ◌++◌, map, Option, Some, None, ℤ, append_assoc, append-nil, refl, sym, ap, ap₂, ◌∙◌, subst, arith}
use Rattle.std.specs.Prelude.{option_map, is_some}
use Rattle.std.proofs.lemmas.List.Sums.{sum_by_push}
use Rattle.std.proofs.lemmas.List.Elements.{All-nil, All-cons}
use Rattle.clk_base.specs.declared.block.Block.{Block}
use Rattle.std.specs.List.{All, list_any}
use mathlib.Core.List.{IsPrefix}
use Rattle.clk_ticket.specs.Sizes.{most_tickets}
use Rattle.clk_ticket.specs.Time.{Time, Draws, after_draw, without}
use Rattle.clk_machine.specs.Plan.{Plan}
use Rattle.clk_machine.specs.Time.{counter_at}
use Rattle.clk_record.specs.declared.warp.Side.{Side}
use Rattle.clk_record.specs.declared.warp.Side.TheVariants.{Source, Target}
use Rattle.clk_record.specs.declared.warp.WarpReading.{WarpReading}
use Rattle.clk_record.specs.Sides.{is_same}
use Rattle.clk_record.specs.Falls.{Limits, each_after, ended_sides, is_last, is_ended}
use Rattle.clk_record.specs.declared.warp.WarpRun.{WarpRun}
use Rattle.clk_record.specs.WarpLimits.{limits_in, cpu_of, side_adjust}
use Rattle.clk_record.specs.Warps.{IsWarpRun}
use Rattle.clk_warp.specs.declared.section.Section.{Section}
use Rattle.clk_warp.specs.declared.section.Section.TheVariants.{Read, SourceArrives, TargetArrives, Pass}
use Rattle.clk_warp.specs.Run.{Run, limits_at, side_ended, ShowsCounter, new_run, change, IsReading}
use Rattle.clk_warp.specs.Sections.{after, AreSections}
use Rattle.clk_warp.specs.Turns.{Lock, Turn, Closes}
use Rattle.clk_warp.specs.Working.{readings_of, Works}
use Rattle.clk_warp.specs.Pairs.{drawn_for, block_of, DrawsFor, IsPaired, IsFinished}
use Rattle.clk_warp.proofs.Placing.{any_push}
use Rattle.clk_warp.proofs.Folding.{after_append}
use Rattle.clk_warp.proofs.Working.{machine_after, cpu_after, readings_after, limits_after}

-- ---- a side that has ended stays so

each_after_append : {A : Type 0} (f : List WarpReading → WarpReading → List A) (front rs qs : List WarpReading)
    → each_after f front (rs ++ qs) ≡ each_after f front rs ++ each_after f (front ++ rs) qs
each_after_append f front [] qs = ap (λ xs. each_after f xs qs) (sym (append-nil front))
each_after_append f front (r ∷ rs) qs =
    let e = each_after_append f (front ++ r ∷ []) rs qs in
    let same : (front ++ r ∷ []) ++ rs ≡ front ++ r ∷ rs = append_assoc front (r ∷ []) rs in
    ap (λ xs. f front r ++ xs) (e ∙ ap (λ xs. each_after f (front ++ r ∷ []) rs ++ each_after f xs qs) same)
    ∙ sym (append_assoc (f front r) (each_after f (front ++ r ∷ []) rs) (each_after f (front ++ r ∷ rs) qs))

or_stays : (a b : Bool) → a ≡ true → (a || b) ≡ true
or_stays true b e = refl
or_stays false b e = absurd (cc)

pub ended_stays : (l : Limits) (side : Side) (rs qs : List WarpReading) → is_ended l side rs ≡ true → is_ended l side (rs ++ qs) ≡ true
ended_stays l side rs qs ended =
    ap (list_any (is_same side)) (each_after_append {A = Side} (λ front r. cond (is_last l front r) (r.side ∷ []) []) [] rs qs)
    ∙ any_push (is_same side) (ended_sides l rs) (each_after {A = Side} (λ front r. cond (is_last l front r) (r.side ∷ []) []) rs qs)
    ∙ or_stays (is_ended l side rs) (list_any (is_same side) (each_after {A = Side} (λ front r. cond (is_last l front r) (r.side ∷ []) []) rs qs)) ended

ended_after : (side : Side) (s : Run) (es : List Section) → side_ended side s ≡ true → side_ended side (after s es) ≡ true
ended_after side s es ended =
    ap₂ (λ (l : Limits) (rs : List WarpReading). is_ended l side rs) (limits_after s es) (readings_after s es)
    ∙ ended_stays (limits_at s) side s.readings (readings_of es) ended

ended_all : (side : Side) (first state : Run) (known all : List Section) → state ≡ after first all → IsPrefix known all → side_ended side (after first known) ≡ true
    → side_ended side state ≡ true
ended_all side first state known all is grown ended =
    ap (side_ended side) (is ∙ ap (after first) (sym grown.1) ∙ after_append first known grown.0) ∙ ended_after side (after first known) grown.0 ended

pub finished : (lock : Lock) (source target a b : Turn) (m n : ℕ) (state : Run) → Works lock Source source m a → Works lock Target target n b → Closes lock.first a b state
    → IsFinished lock.first state
finished lock source target a b m n state one two closes = record {
  all = closes.all;
  legal = closes.legal;
  state_is = closes.state_is;
  source_ended = ended_all Source lock.first state a.known closes.all closes.state_is closes.first_known one.ended;
  target_ended = ended_all Target lock.first state b.known closes.all closes.state_is closes.second_known two.ended;
}

-- ---- the tickets and the adjustment

-- one after another, each drawn from the seat that the ones before left
abbrev pub AreDrawn : Time → List WarpReading → Type 0
AreDrawn t [] = Unit {0}
AreDrawn t (r ∷ rs) = Draws t r.ticket 1 (after_draw t r.ticket 1) × AreDrawn (after_draw t r.ticket 1) rs

some_of : (t u : Time) → Some t ≡ Some u → t ≡ u
some_of t u e = cc

pub record Drawn (s : Run) (t : Time) (es : List Section) : Type 0 where
  pub time : (after s es).time ≡ Some (drawn_for t (readings_of es))
  pub adjust : (after s es).adjust ≡ s.adjust
  pub drawn : AreDrawn t (readings_of es)

pub time_after : (s : Run) (t : Time) (es : List Section) → s.time ≡ Some t → AreSections s es → Drawn s t es
time_after s t [] has legal = record { time = has; adjust = refl; drawn = tt }
time_after s t (Read r ∷ es) has legal =
    let reads : IsReading s r = legal.0 in
    let same : reads.time ≡ t = some_of reads.time t (sym reads.has ∙ has) in
    let draws = subst (λ (u : Time). Draws u r.ticket 1 (after_draw u r.ticket 1)) same reads.draws in
    let next = time_after (change s (Read r)) (after_draw t r.ticket 1) es (ap (option_map (λ (u : Time). after_draw u r.ticket 1)) has) legal.1 in
    record { time = next.time; adjust = next.adjust; drawn = (draws, next.drawn) }
time_after s t (SourceArrives time adjust ∷ es) has legal =
    absurd (some_is_here s.time has legal.0.0) where
      some_is_here : (o : Option Time) → o ≡ Some t → is_some o ≡ false → ⊥
      some_is_here None e f = cc
      some_is_here (Some u) e f = cc
time_after s t (TargetArrives ∷ es) has legal =
    let next = time_after (change s TargetArrives) t es has legal.1 in
    record { time = next.time; adjust = next.adjust; drawn = next.drawn }
time_after s t (Pass ∷ es) has legal =
    let next = time_after (change s Pass) t es has legal.1 in
    record { time = next.time; adjust = next.adjust; drawn = next.drawn }

pub draws_for : (t : Time) (rs : List WarpReading) → AreDrawn t rs → DrawsFor t rs (drawn_for t rs)
draws_for t [] drawn = record { is = refl; within = All-nil (λ r. r.ticket < most_tickets); table = refl; left = omega arith; blocks = sym (append-nil t.blocks); rises = λ r. r; share = refl }
draws_for t (r ∷ rs) drawn =
    let next = draws_for (after_draw t r.ticket 1) rs drawn.1 in
    let grown = sum_by_push (λ (b : Block). b.count) t.blocks (block_of r) in
    let bound = drawn.0.bound in
    record {
      is = refl;
      within = All-cons (λ q. q.ticket < most_tickets) r rs (omega (arith, bound)) next.within;
      table = next.table;
      left = omega (arith, next.left, grown, drawn.0.share);
      blocks = next.blocks ∙ append_assoc t.blocks (block_of r ∷ []) (map block_of rs);
      rises = λ rises. next.rises (drawn.0.rises rises);
      share = next.share ∙ drawn.0.share;
    }

-- ---- a finished run

shows_by : (m n : Plan) (cpu other : ℕ) (adjust more : ℤ) (rs qs : List WarpReading) → m ≡ n → cpu ≡ other → adjust ≡ more → rs ≡ qs
    → All (λ r. r.tsc ≡ counter_at m (cpu_of r.side cpu) (side_adjust r.side adjust) r.ticket) rs
    → All (λ r. r.tsc ≡ counter_at n (cpu_of r.side other) (side_adjust r.side more) r.ticket) qs
shows_by m n cpu other adjust more rs qs e f g h all =
    subst (λ (xs : List WarpReading). All (λ r. r.tsc ≡ counter_at n (cpu_of r.side other) (side_adjust r.side more) r.ticket) xs) h
    (subst (λ (z : ℤ). All (λ r. r.tsc ≡ counter_at n (cpu_of r.side other) (side_adjust r.side z) r.ticket) rs) g
    (subst (λ (k : ℕ). All (λ r. r.tsc ≡ counter_at n (cpu_of r.side k) (side_adjust r.side adjust) r.ticket) rs) f
    (subst (λ (p : Plan). All (λ r. r.tsc ≡ counter_at p (cpu_of r.side cpu) (side_adjust r.side adjust) r.ticket) rs) e all)))

pub paired : (m : Plan) (cpu : ℕ) (adjust : ℤ) (t : Time) (first state : Run) (run : WarpRun) (now : Time) → first ≡ new_run m cpu adjust t → IsFinished first state
    → IsWarpRun (limits_at state) run → run.readings.items ≡ state.readings → All (ShowsCounter state) state.readings → state.time ≡ Some now
    → IsPaired m cpu adjust t run now
paired m cpu adjust t first state run now is finished counts readings shows time =
    let at = finished.state_is in
    let d = time_after first t finished.all (ap (λ (s : Run). s.time) is) finished.legal in
    let limits : limits_at state ≡ limits_in m cpu = ap limits_at at ∙ limits_after first finished.all ∙ ap limits_at is in
    let items : run.readings.items ≡ readings_of finished.all =
    readings ∙ ap (λ (s : Run). s.readings) at ∙ readings_after first finished.all ∙ ap (λ (s : Run). s.readings ++ readings_of finished.all) is in
    let back : now ≡ drawn_for t (readings_of finished.all) = some_of now (drawn_for t (readings_of finished.all)) (sym time ∙ ap (λ (s : Run). s.time) at ∙ d.time) in
    let drawn : DrawsFor t run.readings.items (drawn_for t (readings_of finished.all)) =
    subst (λ (rs : List WarpReading). DrawsFor t rs (drawn_for t (readings_of finished.all))) (sym items) (draws_for t (readings_of finished.all) d.drawn) in
    record {
      run_is = subst (λ (l : Limits). IsWarpRun l run) limits counts;
      counters = shows_by state.machine m state.cpu cpu state.adjust adjust state.readings run.readings.items
          (ap (λ (s : Run). s.machine) at ∙ machine_after first finished.all ∙ ap (λ (s : Run). s.machine) is)
          (ap (λ (s : Run). s.cpu) at ∙ cpu_after first finished.all ∙ ap (λ (s : Run). s.cpu) is)
          (ap (λ (s : Run). s.adjust) at ∙ d.adjust ∙ ap (λ (s : Run). s.adjust) is)
          (sym readings) shows;
      tickets = subst (DrawsFor t run.readings.items) (sym back) drawn;
    }

-- a seat of which nothing is given away
pub without_none : (t : Time) → without 0 t ≡ t
without_none t = let e : t.left - 0 ≡ t.left = omega arith in ap (λ (n : ℕ). record t { left = n }) e
