-- The watchdog's lines, by the parts that the writer goes through.
use Rattle.std.proofs.Common.{◌≡◌, ℕ, ◌%◌, List, [], ◌∷◌, ◌++◌, map, flat_map, sym, ◌∙◌, ap, append_assoc, append-nil, Option}
use Rattle.clk_base.specs.Text.{lines_from}
use Rattle.clk_record.specs.declared.step.Step.{Step}
use Rattle.clk_record.specs.declared.attempt.Attempt.{Attempt}
use Rattle.clk_record.specs.declared.stable.StableStamp.{StableStamp}
use Rattle.clk_record.specs.declared.stable.Demotion.{Demotion}
use Rattle.clk_lawful.specs.Lines.{Line, line_text, text_of}
use Rattle.clk_lawful.specs.Lines.Line.{Demoted, Watchdog, Checking, Attempted, Judged, Stamped, Current}
use Rattle.clk_lawful.specs.Checks.{Visit, Check, listed, checks_of}
use Rattle.clk_lawful.specs.TraceText.{lift_line, demotion_lines, visit_lines, check_lines, watch_lines}
use Rattle.clk_lawful.specs.declared.trace.WatchTrace.{WatchTrace}
use Rattle.clk_trace.specs.WriterParts.{attempt_text, stamp_text, demotion_text, visit_text, check_text, watch_text}
use Rattle.clk_trace.proofs.Texts.{text_of-both, text_of-flat, text_of-map, text_of-from}

demotion_text_is : (lifts : List Step) (n : ℕ) (d : Demotion) → text_of (demotion_lines lifts d) ≡ demotion_text lifts n d
demotion_text_is lifts n d = ap (λ v. line_text (Demoted d) ++ v) (text_of-map lift_line 0 lifts)

visit_text_is : (lifts : List Step) (n : ℕ) (v : Visit) → text_of (visit_lines lifts v) ≡ visit_text lifts n v
visit_text_is lifts n v =
    let attempts : List Line = map (λ (a : Attempt). Attempted v.made.source a) v.attempts in
    let judged : Line = Judged v.made.source v.made.outcome in
    let stamps : List Line = map (λ (s : StableStamp). Stamped s) (listed v.stamp) in
    let read : List ℕ = lines_from (attempt_text v.made.source) 0 v.attempts in
    let stamped : List ℕ = lines_from stamp_text 0 (listed v.stamp) in
    let front : text_of (attempts ++ (judged ∷ stamps)) ≡ read ++ line_text judged ++ stamped =
    text_of-both attempts (judged ∷ stamps) read (line_text judged ++ stamped) (text_of-map (λ (a : Attempt). Attempted v.made.source a) 0 v.attempts)
    (ap (λ t. line_text judged ++ t) (text_of-map (λ (s : StableStamp). Stamped s) 0 (listed v.stamp)))
    ∙ sym (append_assoc read (line_text judged) stamped) in
    text_of-both (attempts ++ (judged ∷ stamps)) (flat_map (demotion_lines lifts) (listed v.demotion)) (read ++ line_text judged ++ stamped)
    (lines_from (demotion_text lifts) 0 (listed v.demotion)) front
    (text_of-flat (demotion_lines lifts) (demotion_text lifts) (demotion_text_is lifts) 0 (listed v.demotion))

check_text_is : (cpus : ℕ) (lifts : List Step) (n : ℕ) (c : Check) → text_of (check_lines cpus lifts n c) ≡ check_text cpus lifts n c
check_text_is cpus lifts n c =
    let head : List ℕ = line_text (Checking n (n % cpus) c.ticket) in
    let visits : List ℕ = lines_from (visit_text lifts) 0 c.visits in
    let current : List ℕ = line_text (Current c.current) in
    ap (λ v. head ++ v)
    (text_of-both (flat_map (visit_lines lifts) c.visits) (Current c.current ∷ []) visits current
    (text_of-flat (visit_lines lifts) (visit_text lifts) (visit_text_is lifts) 0 c.visits) (append-nil current))
    ∙ sym (append_assoc head visits current)

watch_text_is : (cpus n : ℕ) (w : WatchTrace) → text_of (watch_lines cpus w) ≡ watch_text cpus n w
watch_text_is cpus n w =
    ap (λ v. line_text (Watchdog w.thread) ++ v)
    (text_of-from (check_lines cpus w.lifts.items) (check_text cpus w.lifts.items) (check_text_is cpus w.lifts.items) 0 (checks_of w))

pub watches_text : (cpus : ℕ) (w : Option WatchTrace) → text_of (flat_map (watch_lines cpus) (listed w)) ≡ lines_from (watch_text cpus) 0 (listed w)
watches_text cpus w = text_of-flat (watch_lines cpus) (watch_text cpus) (watch_text_is cpus) 0 (listed w)
