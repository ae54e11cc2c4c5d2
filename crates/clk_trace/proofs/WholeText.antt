-- The whole text of a trace, by the parts that the writer goes through.
use Rattle.std.proofs.Common.{◌≡◌, ℕ, List, [], ◌∷◌, ◌++◌, map, flat_map, length, sym, ◌∙◌, ap, append_assoc, append-nil}
use Rattle.clk_base.specs.Text.{lines_from}
use Rattle.clk_base.specs.Walk.{flat_from}
use Rattle.clk_record.specs.declared.stable.Demotion.{Demotion}
use Rattle.clk_lawful.specs.Lines.{Line, line_text, text_of}
use Rattle.clk_lawful.specs.Lines.Line.{Head, Epoch, Start, Demoted, End}
use Rattle.clk_lawful.specs.Checks.{listed}
use Rattle.clk_lawful.specs.TraceText.{boot_line, up_lines, word_lines, thread_lines, watch_lines, history_lines, text}
use Rattle.clk_lawful.specs.declared.trace.Trace.{Trace}
use Rattle.clk_trace.specs.WriterParts.{boot_text, up_text, boot_demotion_text, word_text, thread_text, history_text, watch_text}
use Rattle.clk_trace.proofs.Texts.{text_of-both, text_of-map, ups_text, words_text, threads_text, histories_text}
use Rattle.clk_trace.proofs.WatchTexts.{watches_text}

-- what stands before the demotion at boot
front_is : (t : Trace)
    → text_of ((Head ∷ Epoch t.epoch_ticket t.epoch_cyc ∷ map boot_line t.boots.items) ++ (Start t.starts t.sched_offset t.gtod_offset ∷ flat_from up_lines 0 t.ups.cpus.items))
    ≡ line_text Head
    ++ line_text (Epoch t.epoch_ticket t.epoch_cyc)
    ++ lines_from boot_text 0 t.boots.items
    ++ line_text (Start t.starts t.sched_offset t.gtod_offset)
    ++ lines_from up_text 0 t.ups.cpus.items
front_is t =
    let head : List ℕ = line_text Head in
    let epoch : List ℕ = line_text (Epoch t.epoch_ticket t.epoch_cyc) in
    let start : List ℕ = line_text (Start t.starts t.sched_offset t.gtod_offset) in
    let boots : List ℕ = lines_from boot_text 0 t.boots.items in
    let ups : List ℕ = lines_from up_text 0 t.ups.cpus.items in
    text_of-both (Head ∷ Epoch t.epoch_ticket t.epoch_cyc ∷ map boot_line t.boots.items) (Start t.starts t.sched_offset t.gtod_offset ∷ flat_from up_lines 0 t.ups.cpus.items)
    (head ++ epoch ++ boots) (start ++ ups)
    (ap (λ v. head ++ (epoch ++ v)) (text_of-map boot_line 0 t.boots.items) ∙ sym (append_assoc head epoch boots))
    (ap (λ v. start ++ v) (ups_text t.ups.cpus.items))
    ∙ sym (append_assoc (head ++ epoch ++ boots) start ups)

-- all of it
pub text_is : (t : Trace)
    → text t
    ≡ line_text Head
    ++ line_text (Epoch t.epoch_ticket t.epoch_cyc)
    ++ lines_from boot_text 0 t.boots.items
    ++ line_text (Start t.starts t.sched_offset t.gtod_offset)
    ++ lines_from up_text 0 t.ups.cpus.items
    ++ lines_from boot_demotion_text 0 (listed t.boot_demotion)
    ++ lines_from (word_text t.start_word) 0 t.histories.items
    ++ lines_from (thread_text t.cpu_of.items) 0 t.threads.items
    ++ lines_from (watch_text (length t.histories.items)) 0 (listed t.watch)
    ++ lines_from history_text 0 t.histories.items
    ++ line_text (End t.tickets)
text_is t =
    let front : List Line = (Head ∷ Epoch t.epoch_ticket t.epoch_cyc ∷ map boot_line t.boots.items) ++ (Start t.starts t.sched_offset t.gtod_offset ∷ flat_from up_lines 0 t.ups.cpus.items) in
    let demotions : List Line = map (λ (d : Demotion). Demoted d) (listed t.boot_demotion) in
    let words : List Line = flat_from (word_lines t.start_word) 0 t.histories.items in
    let threads : List Line = flat_from (thread_lines t.cpu_of.items) 0 t.threads.items in
    let watches : List Line = flat_map (watch_lines (length t.histories.items)) (listed t.watch) in
    let histories : List Line = flat_from history_lines 0 t.histories.items in
    text_of-both (front ++ demotions ++ words ++ threads ++ watches ++ histories) (End t.tickets ∷ []) _ _
    (text_of-both (front ++ demotions ++ words ++ threads ++ watches) histories _ _
    (text_of-both (front ++ demotions ++ words ++ threads) watches _ _
    (text_of-both (front ++ demotions ++ words) threads _ _
    (text_of-both (front ++ demotions) words _ _
    (text_of-both front demotions _ _ (front_is t) (text_of-map (λ (d : Demotion). Demoted d) 0 (listed t.boot_demotion)))
    (words_text t))
    (threads_text t.cpu_of.items t.threads.items))
    (watches_text (length t.histories.items) t.watch))
    (histories_text t.histories.items))
    (append-nil (line_text (End t.tickets)))
