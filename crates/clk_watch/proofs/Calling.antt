-- What calls of a `Watch` leave of it.
use Rattle.std.proofs.Common.{◌≡◌, ℕ, ◌+◌, ◌<◌, ◌≤◌, ℤ, List, [], ◌∷◌, ◌++◌, length, Option, Some, None, refl, sym, ◌∙◌, ap, subst, arith, length-append}
use Rattle.std.specs.Prelude.{Bool, true, false, ◌&&◌}
use Rattle.std.proofs.lemmas.List.{length-map}
use Rattle.clk_num.specs.Listed.{Listed}
use Rattle.clk_ticket.specs.Time.{Time}
use Rattle.clk_machine.specs.Plan.{Plan, count_of}
use Rattle.clk_machine.specs.Time.{source_plan_at}
use Rattle.clk_record.specs.declared.attempt.Attempt.{Attempt}
use Rattle.clk_record.specs.declared.attempt.Bracket.{Bracket}
use Rattle.clk_record.specs.declared.visit.Outcome.{Outcome}
use Rattle.clk_record.specs.declared.visit.SourceRecord.{SourceRecord}
use Rattle.clk_record.specs.declared.watched.Watched.{Watched}
use Rattle.clk_record.specs.Fold.{outcome_of, is_lost, source_at_first, at_first, left_by, watched_at, attempts_of, last_of, pair_of, after_record, watch_after, IsReadBy, IsVisit, AreVisits}
use Rattle.clk_record.specs.Watching.{Watching, kept_of}
use Rattle.clk_watch.specs.Brackets.{Tries, Brackets}
use Rattle.clk_watch.specs.Visiting.{IsRead, HasFlags, pair_in}
use Rattle.clk_watch.specs.Visits.{Visits, Checks}
use Rattle.clk_watch.proofs.Trial.{no_tries}
use Rattle.clk_watch.proofs.Growing.{named_last, length_after, grow_after, grow_visits, after_push, visits_push}
use Rattle.clk_watch.proofs.Leaving.{left_same}

-- ---- a visit

-- a source that is passed over is not read
pub not_read : (m : Plan) (cpu : ℕ) (adjust : ℤ) (s : ℕ) (w : Watched) (a : Listed Attempt) (t : Time) → w.unstable ≡ true → IsRead m cpu adjust s w a a t t None
not_read m cpu adjust s w a t unstable = record { made = []; tries = no_tries m cpu adjust s a t; few = omega arith; read = (unstable, refl) }

pub is_read : (m : Plan) (cpu : ℕ) (adjust : ℤ) (s : ℕ) (w : Watched) (a b : Listed Attempt) (t u : Time) (outcome : Bracket) → w.unstable ≡ false
    → Brackets m cpu adjust s a b t u outcome → IsRead m cpu adjust s w a b t u (Some outcome)
is_read m cpu adjust s w a b t u outcome stable p = record {
  made = p.made;
  tries = p.tries;
  few = let few = p.bracket.few in let e = ap length p.bracket.attempts_are in omega (arith, few, e, length-append p.bracket.before (p.bracket.last ∷ []));
  read = (stable, p.bracket);
}

pub visits : (m : Plan) (cpu : ℕ) (adjust : ℤ) (s first count reference : ℕ) (ws left : List Watched) (a b : Listed Attempt) (t u : Time) (w : Watched) (ends : Option Bracket) (outcome : Outcome) (tsc current lost : Bool)
    → s < length m.source → w ≡ watched_at ws s → IsRead m cpu adjust s w a b t u ends
    → first ≡ length a.items → count + first ≡ length b.items → outcome ≡ outcome_of m s w ends
    → reference ≡ count_of m.reference.rating → tsc ≡ (source_plan_at m s).tsc → HasFlags ws reference s tsc outcome current → lost ≡ (is_lost outcome && tsc)
    → left ≡ left_by outcome (pair_in ends) s ws
    → Visits m cpu adjust s ws a b t u (record { source = s; first = first; count = count; outcome = outcome; tsc_current = current; tsc_demoted = lost }) left
visits m cpu adjust s first count reference ws left a b t u w ends outcome tsc current lost there at read from all judged rating own flags loses leaves =
    let made = read.made in
    let r : SourceRecord = record { source = s; first = first; count = count; outcome = outcome; tsc_current = current; tsc_demoted = lost } in
    let longer : length b.items ≡ length a.items + length made = ap length read.tries.attempts ∙ length-append a.items made in
    let many : count ≡ length made = omega (arith, from, all, longer) in
    let named : attempts_of b.items r ≡ made = ap (λ (xs : List Attempt). attempts_of xs r) read.tries.attempts ∙ named_last a.items made r from many in
    record {
      made = made;
      tries = read.tries;
      few = read.few;
      source_is = refl;
      first_is = from;
      count_is = many;
      visit = record {
        there = there;
        named = omega (arith, all);
        ends = ends;
        read = subst (λ (x : Watched). IsReadBy m x (attempts_of b.items r) ends) at (subst (λ (xs : List Attempt). IsReadBy m w xs ends) (sym named) read.read);
        outcome_is = judged ∙ ap (λ (x : Watched). outcome_of m s x ends) at;
        current = subst (λ (n : ℕ). HasFlags ws n s (source_plan_at m s).tsc outcome current) rating (subst (λ (x : Bool). HasFlags ws reference s x outcome current) own flags);
        lost = loses ∙ ap (λ (x : Bool). is_lost outcome && x) own;
      };
      left_is =
          leaves
          ∙ ap (λ (o : Outcome). left_by o (pair_in ends) s ws) judged
          ∙ left_same m s w made ends ws read.read
          ∙ ap (λ (o : Outcome). left_by o (pair_of (last_of made)) s ws) (sym judged)
          ∙ ap (λ (xs : List Attempt). left_by outcome (pair_of (last_of xs)) s ws) (sym named);
    }

-- ---- what the records tell then

-- as many sources are kept as there are
pub sources_all : (m : Plan) (lost : Bool) (attempts : List Attempt) (ws : List Watched) (rs : List SourceRecord) → ws ≡ watch_after attempts (at_first m lost) rs → length ws ≡ length m.source
sources_all m lost attempts ws rs e = ap length e ∙ length_after attempts (at_first m lost) rs ∙ length-map m.source (source_at_first lost)

-- attempts that are appended change nothing
pub brackets_keep : (m : Plan) (cpu : ℕ) (adjust : ℤ) (s : ℕ) (a b : Listed Attempt) (t u : Time) (made : List Attempt) (first sources : List Watched) (rs : List SourceRecord)
    → Tries m cpu adjust s a made b t u → AreVisits m a.items first rs → sources ≡ watch_after a.items first rs
    → AreVisits m b.items first rs × (sources ≡ watch_after b.items first rs)
brackets_keep m cpu adjust s a b t u made first sources rs tries v e = (
  subst (λ (xs : List Attempt). AreVisits m xs first rs) (sym tries.attempts) (grow_visits m a.items made first rs v),
  e ∙ sym (grow_after m a.items made first rs v) ∙ ap (λ (xs : List Attempt). watch_after xs first rs) (sym tries.attempts),
)

pub room_still : (m : Plan) (cpu : ℕ) (adjust : ℤ) (s n : ℕ) (a b : Listed Attempt) (t u : Time) (made : List Attempt) → Tries m cpu adjust s a made b t u → length a.items + a.room ≤ n → length b.items + b.room ≤ n
room_still m cpu adjust s n a b t u made tries room =
    let longer : length b.items ≡ length a.items + length made = ap length tries.attempts ∙ length-append a.items made in
    let left = tries.room in
    omega (arith, longer, left, room)

-- the record of a visit is right too
pub more_visits : (m : Plan) (cpu : ℕ) (adjust : ℤ) (s : ℕ) (a b : Listed Attempt) (t u : Time) (r : SourceRecord) (first sources left : List Watched) (rs : List SourceRecord)
    → AreVisits m a.items first rs → sources ≡ watch_after a.items first rs → Visits m cpu adjust s sources a b t u r left
    → AreVisits m b.items first (rs ++ r ∷ []) × (left ≡ watch_after b.items first (rs ++ r ∷ []))
more_visits m cpu adjust s a b t u r first sources left rs v e p =
    let grown = brackets_keep m cpu adjust s a b t u p.made first sources rs p.tries v e in (
      visits_push m b.items first rs r grown.0 (subst (λ (ws : List Watched). IsVisit m b.items ws r) grown.1 p.visit),
      p.left_is ∙ ap (after_record b.items r) grown.1 ∙ sym (after_push b.items first rs r),
    )

pub checks : (w v : Watching) (cpu : ℕ) (adjust : ℤ) (s : ℕ) (t u : Time) (r : SourceRecord) (sources left : List Watched)
    → AreVisits w.machine w.attempts.items (at_first w.machine w.tsc_unstable) w.records.items → sources ≡ kept_of w
    → Visits w.machine cpu adjust s sources w.attempts v.attempts t u r left
    → v.records.items ≡ w.records.items ++ r ∷ [] → v.records.room + 1 ≡ w.records.room → v.machine ≡ w.machine → v.tsc_unstable ≡ w.tsc_unstable
    → Checks cpu adjust s w t r v u
checks w v cpu adjust s t u r sources left right e p records room machine tsc =
    let more = more_visits w.machine cpu adjust s w.attempts v.attempts t u r (at_first w.machine w.tsc_unstable) sources left w.records.items right e p in
    let first : at_first v.machine v.tsc_unstable ≡ at_first w.machine w.tsc_unstable = ap (λ (m : Plan). at_first m v.tsc_unstable) machine ∙ ap (at_first w.machine) tsc in
    let now : left ≡ kept_of v =
    more.1 ∙ ap (λ (ws : List Watched). watch_after v.attempts.items ws (w.records.items ++ r ∷ [])) (sym first) ∙ ap (watch_after v.attempts.items (at_first v.machine v.tsc_unstable)) (sym records) in
    record {
      visits = subst (λ (ws : List Watched). Visits w.machine cpu adjust s ws w.attempts v.attempts t u r (kept_of v)) e
          (subst (Visits w.machine cpu adjust s sources w.attempts v.attempts t u r) now p);
      records = records;
      room = room;
      machine_is = machine;
      tsc_is = tsc;
    }
