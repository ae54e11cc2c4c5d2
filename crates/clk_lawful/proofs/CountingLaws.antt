-- A lawful trace counts to what its machine tells: it is per-CPU from the start, without a bring-up and a watchdog.
use Rattle.std.proofs.Common.{◌≡◌, ℕ, ◌+◌, ◌*◌, Bool, false, ◌&&◌, is_some, if◌then◌else◌, List, [], ◌∷◌, ◌++◌, map, length, flat_map, Option, Some, None, refl, ap, ◌∙◌, subst, arith, length-append}
use Rattle.std.specs.List.{All, AllZip, sum_by}
use Rattle.std.proofs.lemmas.List.{length-map}
use Rattle.std.proofs.lemmas.List.Concat.{flat_map-append}
use Rattle.std.proofs.lemmas.List.Elements.{All-head, All-tail, All-weaker}
use Rattle.std.proofs.lemmas.List.Sorted.{length_permutation}
use Rattle.std.proofs.lemmas.List.Sums.{sum_by-cons, sum_by-append}
use Rattle.clk_base.specs.declared.block.Block.{Block}
use Rattle.clk_base.specs.Walk.{Along}
use Rattle.clk_num.specs.Listed.{Listed}
use Rattle.clk_machine.specs.declared.parts.BringUpPart.{BringUpPart}
use Rattle.clk_machine.specs.declared.script.Word.{Word}
use Rattle.clk_machine.specs.Plan.{Plan, threads_of}
use Rattle.clk_machine.specs.Tickets.{tickets_of, boot_tickets, word_tickets}
use Rattle.clk_record.specs.BroughtUp.{IsUp, failed_after}
use Rattle.clk_record.specs.WarpReadings.{all_readings}
use Rattle.clk_record.specs.declared.up.CpuUp.{CpuUp}
use Rattle.clk_record.specs.declared.stable.Demotion.{Demotion}
use Rattle.clk_record.specs.declared.stable.StableStamp.{StableStamp}
use Rattle.clk_lawful.specs.Checks.{stamp_blocks, demotion_blocks, listed, pause_of, watch_blocks, checks_in}
use Rattle.clk_lawful.specs.Counting.{steps_of_word, word_steps, CountsTickets, CountsSteps}
use Rattle.clk_lawful.specs.LawfulTrace.{IsLawful}
use Rattle.clk_lawful.specs.Lines.{step_line}
use Rattle.clk_lawful.specs.Modes.{modes_of, IsOfMode, turned_after}
use Rattle.clk_lawful.specs.ScriptEvents.{AreEventsOf}
use Rattle.clk_lawful.specs.Standing.{is_stable}
use Rattle.clk_lawful.specs.TicketOrder.{thread_blocks, boot_blocks, up_blocks, first_blocks}
use Rattle.clk_lawful.specs.WordHistory.{Placed, steps_from, all_steps, lift_steps, steps_of, line_of}
use Rattle.clk_lawful.specs.declared.event.Event.{Event}
use Rattle.clk_lawful.specs.declared.trace.HistoryStep.{HistoryStep}
use Rattle.clk_lawful.specs.declared.trace.WatchTrace.{WatchTrace}
use Rattle.clk_lawful.specs.declared.trace.Trace.{Trace}
use Rattle.clk_lawful.proofs.CountingBlocks.{size, size_covered}
use Rattle.clk_lawful.proofs.CountingWords.{AreOfPerCpu, of_mode, script_drawn, thread_steps}

none_there : {A : Type 0} (o : Option A) → is_some o ≡ false → o ≡ None
none_there None e = refl
none_there (Some x) e = absurd (cc)

-- ---- a machine without these parts

-- it starts per-CPU, and there is neither a demotion at boot nor a watchdog
record StartsPlain (t : Trace) : Type 0 where
  starts : is_stable t.starts ≡ false
  demotion : t.boot_demotion ≡ None
  watch : t.watch ≡ None

starts_plain : (m : Plan) (t : Trace) → IsLawful m t → m.stable ≡ false → m.watchdog ≡ None → StartsPlain t
starts_plain m t h percpu alone =
    let starts : is_stable t.starts ≡ false = h.opening.starts ∙ percpu in
    record {
      starts = starts;
      demotion = none_there t.boot_demotion (h.demotion.boot.called ∙ ap (λ (b : Bool). b && t.ups.failed) starts);
      watch = none_there t.watch (h.watchdog.there ∙ ap (λ o. is_some o) alone);
    }

-- so each event is one of per-CPU clocks
abbrev AreOfLists : List (Listed Event) → Type 0
AreOfLists threads = All (λ es. AreOfPerCpu es.items) threads

lists_percpu : (m : Plan) (t : Trace) → IsLawful m t → StartsPlain t → AreOfLists t.threads.items
lists_percpu m t h plain =
    let stable : (modes_of t).stable ≡ false = rw plain.starts refl in
    All-weaker
    (λ (es : Listed Event). Along (λ turned e. IsOfMode (modes_of t) t.sched_offset turned e.kind) (λ turned e. turned_after turned e.kind) false es.items)
    (λ (es : Listed Event). AreOfPerCpu es.items)
    (λ es along. of_mode (modes_of t) t.sched_offset false es.items stable along)
    t.threads.items
    h.modes

-- ---- tickets

-- the boot draws one ticket for the epoch, and two for a stamp
stamps_drawn : (boots : List StableStamp) → size (flat_map stamp_blocks boots) ≡ 2 * length boots
stamps_drawn [] = refl
stamps_drawn (s ∷ boots) =
    let both = sum_by-append (λ b. b.count) (stamp_blocks s) (flat_map stamp_blocks boots) in
    let more = stamps_drawn boots in
    omega (arith, both, more)

boot_drawn : (epoch : ℕ) (boots : List StableStamp) → size (boot_blocks epoch boots) ≡ 1 + 2 * length boots
boot_drawn epoch boots =
    let both = sum_by-cons (λ b. b.count) (record { first = epoch; count = 1 }) (flat_map stamp_blocks boots) in
    let more = stamps_drawn boots in
    omega (arith, both, more)

-- without a bring-up no reading is made
no_readings : (m : Plan) (failed : Bool) (ups : List CpuUp) → Along (λ failed up. IsUp m None failed up) failed_after failed ups → all_readings ups ≡ []
no_readings m failed [] h = refl
no_readings m failed (up ∷ ups) h = rw h.0.runs (no_readings m (failed_after failed up) ups h.1)

ups_drawn : (m : Plan) (part : Option BringUpPart) (ups : List CpuUp) → part ≡ None → Along (λ failed up. IsUp m part failed up) failed_after false ups
    → size (up_blocks ups) ≡ 0
ups_drawn m part ups e h =
    let none = no_readings m false ups (subst (λ (p : Option BringUpPart). Along (λ failed up. IsUp m p failed up) failed_after false ups) e h) in
    rw none refl

demotion_drawn : (d : Option Demotion) → d ≡ None → size (flat_map demotion_blocks (listed d)) ≡ 0
demotion_drawn d e = rw e refl

watch_drawn : (pause : ℕ) (w : Option WatchTrace) → w ≡ None → size (watch_blocks pause (checks_in w)) ≡ 0
watch_drawn pause w e = rw e refl

-- each thread draws what its words do
threads_drawn : (ts : List (ℕ × List Word)) (threads : List (Listed Event)) → AllZip (λ s es. AreEventsOf s.0 0 s.1 es.items) ts threads → AreOfLists threads
    → size (flat_map (λ bs. bs) (map thread_blocks threads)) ≡ sum_by (λ s. sum_by tickets_of s.1) ts
threads_drawn [] [] h p = refl
threads_drawn [] (es ∷ threads) h p = absurd h
threads_drawn (s ∷ ts) [] h p = absurd h
threads_drawn (s ∷ ts) (es ∷ threads) h p =
    let P : Listed Event → Type 0 = λ l. AreOfPerCpu l.items in
    let both = sum_by-append (λ b. b.count) (thread_blocks es) (flat_map (λ bs. bs) (map thread_blocks threads)) in
    let here = script_drawn s.0 0 s.1 es.items (All-head P es threads p) h.0 in
    let more = threads_drawn ts threads h.1 (All-tail P es threads p) in
    let sum = sum_by-cons (λ (x : ℕ × List Word). sum_by tickets_of x.1) s ts in
    omega (arith, both, here, more, sum)

first_drawn : (m : Plan) (t : Trace) → IsLawful m t → StartsPlain t → m.stable ≡ false → m.bringup ≡ None → size (first_blocks t) ≡ 3
first_drawn m t h plain percpu none =
    let boots : length t.boots.items ≡ 1 = h.opening.boots ∙ ap (λ (b : Bool). if b then 2 else 1) percpu in
    let boot = boot_drawn t.epoch_ticket t.boots.items in
    let up = ups_drawn m m.bringup t.ups.cpus.items none h.bring_up.cpus in
    let demotion = demotion_drawn t.boot_demotion plain.demotion in
    let bs = boot_blocks t.epoch_ticket t.boots.items in
    let us = up_blocks t.ups.cpus.items in
    let ds = flat_map demotion_blocks (listed t.boot_demotion) in
    let outer = sum_by-append (λ (b : Block). b.count) (bs ++ us) ds in
    let inner = sum_by-append (λ (b : Block). b.count) bs us in
    omega (arith, boots, boot, up, demotion, outer, inner)

scripts_drawn : (m : Plan) (t : Trace) → IsLawful m t → StartsPlain t
    → size (flat_map (λ bs. bs) (map thread_blocks t.threads.items ++ watch_blocks (pause_of m) (checks_in t.watch) ∷ [])) ≡ word_tickets m
scripts_drawn m t h plain =
    let threads : List (List Block) = map thread_blocks t.threads.items in
    let watch : List Block = watch_blocks (pause_of m) (checks_in t.watch) in
    let parts = ap size (flat_map-append (λ (bs : List Block). bs) threads (watch ∷ [])) in
    let both = sum_by-append (λ (b : Block). b.count) (flat_map (λ (bs : List Block). bs) threads) (watch ++ []) in
    let last = sum_by-append (λ (b : Block). b.count) watch [] in
    let none = watch_drawn (pause_of m) t.watch plain.watch in
    let all = threads_drawn (threads_of m) t.threads.items h.script.events (lists_percpu m t h plain) in
    omega (arith, parts, both, last, none, all)

pub counts_tickets : CountsTickets
counts_tickets m t h percpu none alone =
    let plain = starts_plain m t h percpu alone in
    let lists : List Block =
    flat_map (λ (bs : List Block). bs) (map thread_blocks t.threads.items ++ watch_blocks (pause_of m) (checks_in t.watch) ∷ []) in
    let whole = size_covered t.tickets (first_blocks t ++ lists) h.readings.tickets.covers in
    let both = sum_by-append (λ (b : Block). b.count) (first_blocks t) lists in
    let first = first_drawn m t h plain percpu none in
    let scripts = scripts_drawn m t h plain in
    let boot : boot_tickets m ≡ 3 = ap (λ (b : Bool). if b then 5 else 3) percpu in
    omega (arith, whole, both, first, scripts, boot)

-- ---- steps

-- each thread makes the steps of its words
threads_stepped : (n : ℕ) (ts : List (ℕ × List Word)) (threads : List (Listed Event)) → AllZip (λ s es. AreEventsOf s.0 0 s.1 es.items) ts threads → AreOfLists threads
    → length (all_steps n (map (λ s. s.0) ts) threads) ≡ sum_by (λ s. sum_by (steps_of_word s.0) s.1) ts
threads_stepped n [] [] h p = refl
threads_stepped n [] (es ∷ threads) h p = absurd h
threads_stepped n (s ∷ ts) [] h p = absurd h
threads_stepped n (s ∷ ts) (es ∷ threads) h p =
    let P : Listed Event → Type 0 = λ l. AreOfPerCpu l.items in
    let cpus : List ℕ = map (λ (x : ℕ × List Word). x.0) ts in
    let both = length-append (steps_from n s.0 0 es.items) (all_steps (n + 1) cpus threads) in
    let here = thread_steps n s.0 0 s.1 es.items (All-head P es threads p) h.0 in
    let more = threads_stepped (n + 1) ts threads h.1 (All-tail P es threads p) in
    let sum = sum_by-cons (λ (x : ℕ × List Word). sum_by (steps_of_word x.0) x.1) s ts in
    omega (arith, both, here, more, sum)

no_lifts : (w : Option WatchTrace) → w ≡ None → length (lift_steps w) ≡ 0
no_lifts w e = rw e refl

trace_stepped : (m : Plan) (t : Trace) → IsLawful m t → StartsPlain t → length (steps_of t) ≡ word_steps m
trace_stepped m t h plain =
    let both = length-append (all_steps 0 t.cpu_of.items t.threads.items) (lift_steps t.watch) in
    let none = no_lifts t.watch plain.watch in
    let cpus = ap (λ (cs : List ℕ). length (all_steps 0 cs t.threads.items)) h.script.cpus in
    let all = threads_stepped 0 (threads_of m) t.threads.items h.script.events (lists_percpu m t h plain) in
    omega (arith, both, none, cpus, all)

-- a history has a line for each step
lines_shown : (histories : List (Listed HistoryStep)) → length (flat_map (λ lines. map step_line lines.items) histories) ≡ sum_by (λ l. length l.items) histories
lines_shown [] = refl
lines_shown (l ∷ histories) =
    let both = length-append (map step_line l.items) (flat_map (λ lines. map step_line lines.items) histories) in
    let here = length-map l.items step_line in
    let more = lines_shown histories in
    let sum = sum_by-cons (λ (x : Listed HistoryStep). length x.items) l histories in
    omega (arith, both, here, more, sum)

pub counts_steps : CountsSteps
counts_steps m t h percpu none alone =
    let plain = starts_plain m t h percpu alone in
    let shown = lines_shown t.histories.items in
    let same =
    length_permutation (map (λ (p : Placed). step_line (line_of p)) (steps_of t)) (flat_map (λ (lines : Listed HistoryStep). map step_line lines.items) t.histories.items) h.once in
    let lines = length-map (steps_of t) (λ (p : Placed). step_line (line_of p)) in
    let steps = trace_stepped m t h plain in
    omega (arith, shown, same, lines, steps)
