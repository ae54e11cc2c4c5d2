-- The tickets of a watchdog: its time seat gains the blocks of its checks, each check's above what it had seen, and
-- keeps its share.
use Rattle.std.proofs.Common.{◌≡◌, ℕ, ◌+◌, ◌≤◌, List, [], ◌∷◌, ◌++◌, map, ap, ◌∙◌, sym, refl, subst, append_assoc, append-nil, Option, Some, None}
use Rattle.std.specs.List.{flat_map}
use Rattle.std.proofs.lemmas.List.{map-append}
use Rattle.clk_base.specs.declared.block.Block.{Block}
use Rattle.clk_base.specs.Blocks.{end_of, Rises, RisesFrom}
use Rattle.clk_base.proofs.Rising.{rises_back, rises_from}
use Rattle.clk_ticket.specs.Time.{Time, Draws, share_of}
use Rattle.clk_record.specs.declared.attempt.Attempt.{Attempt}
use Rattle.clk_record.specs.declared.stable.StableStamp.{StableStamp}
use Rattle.clk_record.specs.declared.stable.Demotion.{Demotion}
use Rattle.clk_watch.specs.Draws.{single}
use Rattle.clk_lawful.specs.Checks.{Visit, Check, listed, one, stamp_blocks, demotion_blocks, visit_blocks, check_blocks, watch_blocks, pause_of}
use Rattle.clk_lawful.specs.RightReadings.{check_cpu}
use Rattle.clk_demote.specs.Context.{Site, Known}
use Rattle.clk_watcher.specs.Checking.{ShowsAttempts, StampsAt, DemotesAt, WatchesVisit, WatchesVisits, WatchesCheck, Watches}

-- these blocks were gained; no share was lost, and blocks that rose still do
pub record Gains (v w : Time) (bs : List Block) : Type 0 where
  pub blocks : w.blocks ≡ v.blocks ++ bs
  pub share : share_of w ≡ share_of v
  pub rises : Rises v.blocks → Rises w.blocks

gains_none : (v w : Known) → v ≡ w → Gains v.time w.time []
gains_none v w same = record { blocks = rw (← same) (sym (append-nil v.time.blocks)); share = rw same refl; rises = λ r. rw (← same) r }

gains_then : (u v w : Time) (bs cs : List Block) → Gains u v bs → Gains v w cs → Gains u w (bs ++ cs)
gains_then u v w bs cs g h =
    record {
      blocks = h.blocks ∙ ap (λ (xs : List Block). xs ++ cs) g.blocks ∙ append_assoc u.blocks bs cs;
      share = h.share ∙ g.share;
      rises = λ r. h.rises (g.rises r);
    }

draw_gains : (v : Time) (first n : ℕ) (w : Time) → Draws v first n w → Gains v w (record { first = first; count = n } ∷ [])
draw_gains v first n w d = record { blocks = ap (λ (t : Time). t.blocks) d.is; share = d.share; rises = d.rises }

-- the tickets of attempts, one by one
singles : (attempts : List Attempt) → map single (flat_map (λ a. a.ticket) attempts) ≡ flat_map (λ a. map one a.ticket) attempts
singles [] = refl
singles (a ∷ attempts) = map-append single a.ticket (flat_map (λ (b : Attempt). b.ticket) attempts) ∙ ap (λ (bs : List Block). map one a.ticket ++ bs) (singles attempts)

attempts_gain : (z : Site) (cpu source : ℕ) (v : Known) (attempts : List Attempt) (w : Known) → ShowsAttempts z cpu source v attempts w
    → Gains v.time w.time (flat_map (λ a. map one a.ticket) attempts)
attempts_gain z cpu source v attempts w h =
    record {
      blocks = h.draws.blocks ∙ ap (λ (bs : List Block). v.time.blocks ++ bs) (singles attempts);
      share = h.draws.share;
      rises = h.draws.rises;
    }

two_gain : (v t w : Time) (first second : ℕ) → Draws v first 1 t → Draws t second 1 w → Gains v w (one first ∷ one second ∷ [])
two_gain v t w first second d e = gains_then v t w (one first ∷ []) (one second ∷ []) (draw_gains v first 1 t d) (draw_gains t second 1 w e)

stamp_gains : (z : Site) (cpu : ℕ) (v : Known) (s : Option StableStamp) (w : Known) → StampsAt z cpu v s w → Gains v.time w.time (flat_map stamp_blocks (listed s))
stamp_gains z cpu v None w h = gains_none v w h
stamp_gains z cpu v (Some s) w h = two_gain v.time h.takes.middle w.time s.gtod_ticket s.raw.ticket h.takes.draws h.takes.draws_raw

demotion_gains : (z : Site) (cpu check : ℕ) (v : Known) (d : Option Demotion) (w : Known) → DemotesAt z cpu check v d w
    → Gains v.time w.time (flat_map demotion_blocks (listed d))
demotion_gains z cpu check v None w h = gains_none v w h
demotion_gains z cpu check v (Some d) w h = two_gain v.time h.takes.middle w.time d.gtod_ticket d.raw.ticket h.takes.draws h.takes.draws_raw

visit_gains : (z : Site) (cpu check : ℕ) (v : Known) (visit : Visit) (w : Known) → WatchesVisit z cpu check v visit w → Gains v.time w.time (visit_blocks visit)
visit_gains z cpu check v visit w h =
    gains_then v.time h.1.time w.time (flat_map (λ a. map one a.ticket) visit.attempts ++ flat_map stamp_blocks (listed visit.stamp))
    (flat_map demotion_blocks (listed visit.demotion))
    (gains_then v.time h.0.time h.1.time (flat_map (λ a. map one a.ticket) visit.attempts) (flat_map stamp_blocks (listed visit.stamp))
    (attempts_gain z cpu visit.made.source v visit.attempts h.0 h.2) (stamp_gains z cpu h.0 visit.stamp h.1 h.3))
    (demotion_gains z cpu check h.1 visit.demotion w h.4)

visits_gain : (z : Site) (cpu check : ℕ) (v : Known) (visits : List Visit) (w : Known) → WatchesVisits z cpu check v visits w
    → Gains v.time w.time (flat_map visit_blocks visits)
visits_gain z cpu check v [] w h = gains_none v w h
visits_gain z cpu check v (visit ∷ visits) w h =
    gains_then v.time h.0.time w.time (visit_blocks visit) (flat_map visit_blocks visits) (visit_gains z cpu check v visit h.0 h.1)
    (visits_gain z cpu check h.0 visits w h.2)

check_gains : (z : Site) (number : ℕ) (v : Known) (c : Check) (w : Known) → WatchesCheck z number v c w → Gains v.time w.time (check_blocks (pause_of z.machine) c)
check_gains z number v c w h =
    gains_then v.time h.0.time w.time (record { first = c.ticket; count = pause_of z.machine } ∷ []) (flat_map visit_blocks c.visits)
    (draw_gains v.time c.ticket (pause_of z.machine) h.0.time h.1.draws) (visits_gain z (check_cpu z.machine number) number h.0 c.visits w h.2)

pub watches_gain : (z : Site) (number : ℕ) (v : Known) (checks : List Check) (w : Known) → Watches z number v checks w
    → Gains v.time w.time (watch_blocks (pause_of z.machine) checks)
watches_gain z number v [] w h = gains_none v w h
watches_gain z number v (c ∷ checks) w h =
    gains_then v.time h.0.time w.time (check_blocks (pause_of z.machine) c) (watch_blocks (pause_of z.machine) checks) (check_gains z number v c h.0 h.1)
    (watches_gain z (number + 1) h.0 checks w h.2)

-- ---- the order

-- the first block begins at n, and each other one where it ended or above
above_first : (n : ℕ) (b : Block) (bs : List Block) → n ≤ b.first → Rises (b ∷ bs) → RisesFrom n (b ∷ bs)
above_first n b bs low r = (low, rises_from (end_of b) bs r.0 r.1)

-- where the blocks before rise, these rise from what had been seen
pub watches_rise : (z : Site) (number : ℕ) (v : Known) (checks : List Check) (w : Known) → Watches z number v checks w → Rises v.time.blocks
    → RisesFrom v.time.seen (watch_blocks (pause_of z.machine) checks)
watches_rise z number v [] w h rose = tt
watches_rise z number v (c ∷ checks) w h rose =
    let gained = watches_gain z number v (c ∷ checks) w h in
    let all : Rises w.time.blocks = gained.rises rose in
    let rise : Rises (watch_blocks (pause_of z.machine) (c ∷ checks)) =
    rises_back v.time.blocks (watch_blocks (pause_of z.machine) (c ∷ checks)) (subst Rises gained.blocks all) in
    above_first v.time.seen (record { first = c.ticket; count = pause_of z.machine })
    (flat_map visit_blocks c.visits ++ watch_blocks (pause_of z.machine) checks) h.1.1.draws.later rise
