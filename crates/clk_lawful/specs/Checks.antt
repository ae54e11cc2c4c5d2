-- The checks of a watchdog, cut out of the lists that a trace keeps of them.
use Rattle.std.specs.Prelude.{ℕ, ◌-◌, List, [], ◌∷◌, ◌++◌, map, take, drop, flat_map, Option, Some, None, if◌then◌else◌}
use Rattle.clk_base.specs.declared.block.Block.{Block}
use Rattle.clk_machine.specs.declared.parts.WatchPart.{WatchPart}
use Rattle.clk_machine.specs.Plan.{Plan, count_of}
use Rattle.clk_record.specs.declared.attempt.Attempt.{Attempt}
use Rattle.clk_record.specs.declared.visit.SourceRecord.{SourceRecord}
use Rattle.clk_record.specs.Fold.{attempts_of}
use Rattle.clk_record.specs.declared.stable.StableStamp.{StableStamp}
use Rattle.clk_record.specs.declared.stable.Demotion.{Demotion}
use Rattle.clk_lawful.specs.declared.trace.WatchTrace.{WatchTrace}

-- a visit to a source: its record and its attempts, and the stable stamp or the demotion that stands after them, if any
pub record Visit : Type 0 where
  pub made : SourceRecord
  pub attempts : List Attempt
  pub stamp : Option StableStamp
  pub demotion : Option Demotion

-- a check: the first ticket of its pause, its visits in order, and the place of the current source after them
pub record Check : Type 0 where
  pub ticket : ℕ
  pub visits : List Visit
  pub current : ℕ

-- what there is, as a list of one or none
abbrev pub listed : {A : Type 0} → Option A → List A
listed None = []
listed (Some x) = x ∷ []

abbrev pub first_of : {A : Type 0} → List A → Option A
first_of [] = None
first_of (x ∷ xs) = Some x

-- ---- the cut

-- each record with the attempts that it names. One of a good TSC source that is current is followed by the next stable
-- stamp, and one by which the TSC source was lost by the demotion, while there is one
abbrev pub visit_by : List Attempt → Option Demotion → List StableStamp → SourceRecord → Visit
visit_by attempts demotion stamps r = record {
  made = r;
  attempts = attempts_of attempts r;
  stamp = if r.tsc_current then first_of stamps else None;
  demotion = if r.tsc_demoted then demotion else None;
}

abbrev pub visits_from : List Attempt → Option Demotion → List StableStamp → List SourceRecord → List Visit
visits_from attempts demotion stamps [] = []
visits_from attempts demotion stamps (r ∷ rs) =
    visit_by attempts demotion stamps r ∷ visits_from attempts demotion (if r.tsc_current then drop 1 stamps else stamps) rs

abbrev pub visits_of : WatchTrace → List Visit
visits_of w = visits_from w.watch.attempts.items w.demotion w.stamps.items w.watch.records.items

-- each check has the visits from where the one before it ended to its own end, which counts the visits so far
abbrev pub checks_from : ℕ → List ℕ → List ℕ → List ℕ → List Visit → List Check
checks_from start (ticket ∷ tickets) (end ∷ ends) (place ∷ places) visits =
    record { ticket = ticket; visits = take (end - start) visits; current = place }
    ∷ checks_from end tickets ends places (drop (end - start) visits)
checks_from start _ _ _ visits = []

abbrev pub checks_of : WatchTrace → List Check
checks_of w = checks_from 0 w.pauses.items w.last_record.items w.currents.items (visits_of w)

abbrev pub checks_in : Option WatchTrace → List Check
checks_in None = []
checks_in (Some w) = checks_of w

-- ---- what a check draws

-- the tickets of a pause of the watchdog; without a table of it there is none
abbrev pub pause_in : Option WatchPart → ℕ
pause_in None = 0
pause_in (Some w) = count_of w.pause

abbrev pub pause_of : Plan → ℕ
pause_of m = pause_in m.watchdog

-- the block of one ticket
abbrev pub one : ℕ → Block
one k = record { first = k; count = 1 }

abbrev pub stamp_blocks : StableStamp → List Block
stamp_blocks s = one s.gtod_ticket ∷ one s.raw.ticket ∷ []

abbrev pub demotion_blocks : Demotion → List Block
demotion_blocks d = one d.gtod_ticket ∷ one d.raw.ticket ∷ []

-- a ticket for each reading of its attempts, and two for a stamp and for a demotion
abbrev pub visit_blocks : Visit → List Block
visit_blocks v =
    flat_map (λ a. map one a.ticket) v.attempts ++ flat_map stamp_blocks (listed v.stamp) ++ flat_map demotion_blocks (listed v.demotion)

-- its pause of so many tickets, and then its visits
abbrev pub check_blocks : ℕ → Check → List Block
check_blocks pause c = record { first = c.ticket; count = pause } ∷ flat_map visit_blocks c.visits

abbrev pub watch_blocks : ℕ → List Check → List Block
watch_blocks pause checks = flat_map (check_blocks pause) checks
