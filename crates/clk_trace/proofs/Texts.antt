-- The texts of lists of lines, by the parts that the writer goes through.
use Rattle.std.proofs.Common.{◌≡◌, ℕ, ◌+◌, nat_eq, List, [], ◌∷◌, ◌++◌, map, flat_map, length, slice_index, refl, sym, ◌∙◌, ap, append_assoc, append-nil}
use Rattle.clk_base.specs.Text.{lines_from}
use Rattle.clk_base.specs.Walk.{flat_from}
use Rattle.clk_num.specs.Listed.{Listed}
use Rattle.clk_record.specs.declared.warp.WarpReading.{WarpReading}
use Rattle.clk_record.specs.declared.warp.WarpRun.{WarpRun}
use Rattle.clk_record.specs.declared.up.CpuUp.{CpuUp}
use Rattle.clk_lawful.specs.Lines.{Line, step_line, line_text, text_of}
use Rattle.clk_lawful.specs.Lines.Line.{Run, Turn, Thread, Shown, History}
use Rattle.clk_lawful.specs.TraceText.{done_line, run_lines, cpu_line, up_lines, word_lines, thread_lines, history_lines}
use Rattle.clk_lawful.specs.declared.event.Event.{Event}
use Rattle.clk_lawful.specs.declared.trace.HistoryStep.{HistoryStep}
use Rattle.clk_lawful.specs.declared.trace.Trace.{Trace}
use Rattle.clk_trace.specs.WriterParts.{reading_text, run_text, up_text, word_text, thread_text, history_text}

pub text_of-append : (ls ms : List Line) → text_of (ls ++ ms) ≡ text_of ls ++ text_of ms
text_of-append [] ms = refl
text_of-append (l ∷ ls) ms = ap (λ v. line_text l ++ v) (text_of-append ls ms) ∙ sym (append_assoc (line_text l) (text_of ls) (text_of ms))

-- a line for each item
pub text_of-map : {A : Type 0} (f : A → Line) (n : ℕ) (xs : List A) → text_of (map f xs) ≡ lines_from (λ k x. line_text (f x)) n xs
text_of-map f n [] = refl
text_of-map f n (x ∷ xs) = ap (λ v. line_text (f x) ++ v) (text_of-map f (n + 1) xs)

-- two lists of lines, one after the other
pub text_of-both : (ls ms : List Line) (a b : List ℕ) → text_of ls ≡ a → text_of ms ≡ b → text_of (ls ++ ms) ≡ a ++ b
text_of-both ls ms a b p q = text_of-append ls ms ∙ ap (λ v. v ++ text_of ms) p ∙ ap (λ v. a ++ v) q

-- lines for each item
pub text_of-flat : {A : Type 0} (f : A → List Line) (g : ℕ → A → List ℕ) → ((n : ℕ) (x : A) → text_of (f x) ≡ g n x) → (n : ℕ) (xs : List A)
    → text_of (flat_map f xs) ≡ lines_from g n xs
text_of-flat f g each n [] = refl
text_of-flat f g each n (x ∷ xs) = text_of-both (f x) (flat_map f xs) (g n x) (lines_from g (n + 1) xs) (each n x) (text_of-flat f g each (n + 1) xs)

-- lines for each item and its number
pub text_of-from : {A : Type 0} (f : ℕ → A → List Line) (g : ℕ → A → List ℕ) → ((n : ℕ) (x : A) → text_of (f n x) ≡ g n x) → (n : ℕ) (xs : List A)
    → text_of (flat_from f n xs) ≡ lines_from g n xs
text_of-from f g each n [] = refl
text_of-from f g each n (x ∷ xs) =
    text_of-both (f n x) (flat_from f (n + 1) xs) (g n x) (lines_from g (n + 1) xs) (each n x) (text_of-from f g each (n + 1) xs)

run_text_is : (cpu count n : ℕ) (run : WarpRun) → text_of (run_lines cpu count n run) ≡ run_text cpu count n run
run_text_is cpu count n run =
    let head : List ℕ = line_text (Run cpu (n + 1)) in
    let readings : List ℕ = lines_from reading_text 0 run.readings.items in
    let done : Line = done_line (nat_eq (n + 1) count) run in
    ap (λ v. head ++ v)
    (text_of-append (map (λ (r : WarpReading). Turn r) run.readings.items) (done ∷ [])
    ∙ ap (λ v. v ++ text_of (done ∷ [])) (text_of-map (λ (r : WarpReading). Turn r) 0 run.readings.items)
    ∙ ap (λ v. readings ++ v) (append-nil (line_text done)))
    ∙ sym (append_assoc head readings (line_text done))

up_text_is : (n : ℕ) (up : CpuUp) → text_of (up_lines n up) ≡ up_text n up
up_text_is n up =
    let count : ℕ = length up.runs.items in
    let runs : List Line = flat_from (run_lines up.cpu count) 0 up.runs.items in
    text_of-append runs (cpu_line up ∷ [])
    ∙ ap (λ v. v ++ text_of (cpu_line up ∷ [])) (text_of-from (run_lines up.cpu count) (run_text up.cpu count) (run_text_is up.cpu count) 0 up.runs.items)
    ∙ ap (λ v. lines_from (run_text up.cpu count) 0 up.runs.items ++ v) (append-nil (line_text (cpu_line up)))

pub ups_text : (ups : List CpuUp) → text_of (flat_from up_lines 0 ups) ≡ lines_from up_text 0 ups
ups_text ups = text_of-from up_lines up_text up_text_is 0 ups

pub words_text : (t : Trace) → text_of (flat_from (word_lines t.start_word) 0 t.histories.items) ≡ lines_from (word_text t.start_word) 0 t.histories.items
words_text t = text_of-from (word_lines t.start_word) (word_text t.start_word) (λ w x. append-nil _) 0 t.histories.items

pub threads_text : (cpus : List ℕ) (threads : List (Listed Event)) → text_of (flat_from (thread_lines cpus) 0 threads) ≡ lines_from (thread_text cpus) 0 threads
threads_text cpus threads =
    text_of-from (thread_lines cpus) (thread_text cpus)
    (λ n es. ap (λ v. line_text (Thread n (slice_index cpus n)) ++ v) (text_of-map (λ (e : Event). Shown e) 0 es.items)) 0 threads

pub histories_text : (lists : List (Listed HistoryStep)) → text_of (flat_from history_lines 0 lists) ≡ lines_from history_text 0 lists
histories_text lists =
    text_of-from history_lines history_text (λ w steps. ap (λ v. line_text (History w (length steps.items)) ++ v) (text_of-map step_line 0 steps.items)) 0 lists
