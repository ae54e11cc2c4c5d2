-- Records that are right by their attempts name attempts that are there.
use Rattle.std.proofs.Common.{◌+◌, ◌≤◌, List, [], ◌∷◌, length}
use Rattle.std.specs.List.{All}
use Rattle.std.proofs.lemmas.List.Elements.{All-nil, All-cons}
use Rattle.clk_machine.specs.Plan.{Plan}
use Rattle.clk_record.specs.declared.attempt.Attempt.{Attempt}
use Rattle.clk_record.specs.declared.visit.SourceRecord.{SourceRecord}
use Rattle.clk_record.specs.declared.watched.Watched.{Watched}
use Rattle.clk_record.specs.Fold.{after_record, AreVisits}

pub visits_named : (m : Plan) (attempts : List Attempt) (ws : List Watched) (records : List SourceRecord) → AreVisits m attempts ws records
    → All (λ r. r.first + r.count ≤ length attempts) records
visits_named m attempts ws [] visits = All-nil (λ (r : SourceRecord). r.first + r.count ≤ length attempts)
visits_named m attempts ws (r ∷ records) visits =
    All-cons (λ (s : SourceRecord). s.first + s.count ≤ length attempts) r records visits.0.named
    (visits_named m attempts (after_record attempts r ws) records visits.1)
