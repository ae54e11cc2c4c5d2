-- What the couplings of a run name: a value that the other word held, by any history that goes on from what the thread
-- saw. And which words the events of a run step on: those of its CPUs.
use Rattle.std.proofs.Common.{◌≡◌, ℕ, ◌+◌, ◌<◌, ℤ, Bool, true, false, cond, List, [], ◌∷◌, ◌++◌, ap, ◌∙◌, sym, subst}
use Rattle.std.specs.List.{All}
use Rattle.std.proofs.lemmas.List.Elements.{All-nil, All-cons, All-head, All-tail}
use Rattle.clk_record.specs.declared.step.Step.{Step}
use Rattle.clk_record.specs.declared.step.Why.{Why}
use Rattle.clk_record.specs.declared.step.Why.TheVariants.{Raise, Lift}
use Rattle.clk_record.specs.declared.step.Why.TheVariants as why
use Rattle.clk_record.specs.LowerWord.{is_lower, lower_word}
use Rattle.clk_words.specs.declared.opening.Start.{Start}
use Rattle.clk_words.specs.Fronts.{Begins}
use Rattle.clk_words.specs.Histories.{NamesHeld}
use Rattle.clk_words.proofs.Fronts.{begins_through}
use Rattle.clk_words.proofs.Replay.{had_later}
use Rattle.clk_lawful.specs.Couples.{named_word, named_value}
use Rattle.clk_lawful.specs.Filling.{NamesWordsBelow}
use Rattle.clk_lawful.specs.WordHistory.{Placed, steps_of_kind, steps_from}
use Rattle.clk_lawful.specs.declared.event.Event.{Event}
use Rattle.clk_lawful.specs.declared.event.EventKind.{EventKind}
use Rattle.clk_lawful.specs.declared.event.EventKind.TheVariants.{Stable, Local, Couple, Stamp, Nothing, Update, Pause}
use Rattle.clk_local.specs.Context.{Site, Known}
use Rattle.clk_worker.specs.Running.{Shows, ShowsCouple, Runs, at_call}
use Rattle.clk_worker.proofs.RunKeeping.{IsHome, home_looked, home_next, step_seen, runs_grows}
use Rattle.clk_worker.proofs.RunSteps.{couple_why}

-- ---- what is named

-- what a word held it has held in a longer history too
names_later : (start : Start) (front history : List Step) (y : Why) → Begins front history → NamesHeld start front y → NamesHeld start history y
names_later start front history (Raise raw tick_raw tick_gtod offset) begins h = tt
names_later start front history (why.Couple from value) begins h = had_later start front history from value begins h
names_later start front history (Lift value) begins h = tt

couple_named : (z : Site) (start : Start) (number : ℕ) (v w : Known) (asked : ℕ) (own other : ℤ) (word : ℕ) (old new : ℤ) (history : List Step) → IsHome z.cpu start number v.view
    → ShowsCouple z v asked own other word old new w → Begins w.view.seen history
    → NamesHeld start history (why.Couple (named_word z.cpu asked word) (named_value asked own other word))
couple_named z start number v w asked own other word old new history home h begins =
    let to_end : Begins h.coupled.loaded.seen w.view.seen =
    record { rest = h.coupled.raises.makes.between ++ h.step ∷ []; is = step_seen h.coupled.loaded w.view h.step h.coupled.raises } in
    let named : NamesHeld start h.coupled.loaded.seen h.step.why = subst (λ (o : Start). NamesHeld o h.coupled.loaded.seen h.step.why) home.start_is h.coupled.named in
    names_later start h.coupled.loaded.seen history (why.Couple (named_word z.cpu asked word) (named_value asked own other word))
    (begins_through h.coupled.loaded.seen w.view.seen history to_end begins)
    (subst (NamesHeld start h.coupled.loaded.seen) (couple_why z v w asked own other word old new h) named)

abbrev pub NamesIn : Start → List Step → Placed → Type 0
NamesIn start history p = NamesHeld start history p.step.why

shows_named : (z : Site) (start : Start) (number thread part : ℕ) (v : Known) (k : EventKind) (w : Known) (history : List Step) (rest : List Placed)
    → IsHome z.cpu start number v.view → Shows z v k w → Begins w.view.seen history
    → All (NamesIn start history) rest → All (NamesIn start history) (steps_of_kind thread z.cpu z.call part k ++ rest)
shows_named z start number thread part v (Stable raw value) w history rest home h begins later = later
shows_named z start number thread part v (Local raw tick_raw tick_gtod offset old new) w history rest home h begins later = All-cons (NamesIn start history) _ rest tt later
shows_named z start number thread part v (Couple asked own other word old new) w history rest home h begins later =
    All-cons (NamesIn start history) _ rest (couple_named z start number v w asked own other word old new history home h begins) later
shows_named z start number thread part v (Stamp gtod_ticket gtod raw) w history rest home h begins later = later
shows_named z start number thread part v Nothing w history rest home h begins later = later
shows_named z start number thread part v (Update p) w history rest home h begins later = later
shows_named z start number thread part v (Pause ticket count) w history rest home h begins later = later

pub runs_named : (z : Site) (start : Start) (number thread part : ℕ) (v : Known) (es : List Event) (w : Known) (history : List Step)
    → IsHome z.cpu start number v.view → Runs z v es w → Begins w.view.seen history
    → All (NamesIn start history) (steps_from thread z.cpu part es)
runs_named z start number thread part v [] w history home r begins = All-nil (NamesIn start history)
runs_named z start number thread part v (e ∷ es) w history home r begins =
    shows_named (at_call z e.call) start number thread part r.0 e.kind r.1 history (steps_from thread z.cpu (part + 1) es) (home_looked z.cpu start number v r.0 r.2 home) r.3
    (begins_through r.1.view.seen w.view.seen history (runs_grows z r.1 es w r.4).seen begins)
    (runs_named z start number thread (part + 1) r.1 es w history (home_next z start number v e es w r home) r.4 begins)

-- ---- which words they step on

lower_below : (n : ℕ) (t : Bool) (cpu asked : ℕ) → cpu < n → asked < n → cond t asked cpu < n
lower_below n true cpu asked own other = other
lower_below n false cpu asked own other = own

couple_below : (z : Site) (start : Start) (number : ℕ) (v w : Known) (asked : ℕ) (own other : ℤ) (word : ℕ) (old new : ℤ) → IsHome z.cpu start number v.view → z.cpu < start.cpus
    → ShowsCouple z v asked own other word old new w → word < start.cpus
couple_below z start number v w asked own other word old new home low h =
    let within : asked < start.cpus = subst (λ (o : Start). asked < o.cpus) home.start_is h.within in
    let is : lower_word z.cpu asked own other ≡ word = sym (ap (λ (s : Step). s.word) h.coupled.step_is) ∙ h.word_is in
    subst (λ k. k < start.cpus) is (lower_below start.cpus (is_lower other own) z.cpu asked low within)

shows_below : (z : Site) (start : Start) (number : ℕ) (v : Known) (k : EventKind) (w : Known) → IsHome z.cpu start number v.view → z.cpu < start.cpus → Shows z v k w
    → NamesWordsBelow start.cpus k
shows_below z start number v (Stable raw value) w home low h = tt
shows_below z start number v (Local raw tick_raw tick_gtod offset old new) w home low h = tt
shows_below z start number v (Couple asked own other word old new) w home low h = couple_below z start number v w asked own other word old new home low h
shows_below z start number v (Stamp gtod_ticket gtod raw) w home low h = tt
shows_below z start number v Nothing w home low h = tt
shows_below z start number v (Update p) w home low h = tt
shows_below z start number v (Pause ticket count) w home low h = tt

pub runs_below : (z : Site) (start : Start) (number : ℕ) (v : Known) (es : List Event) (w : Known) → IsHome z.cpu start number v.view → z.cpu < start.cpus → Runs z v es w
    → All (λ e. NamesWordsBelow start.cpus e.kind) es
runs_below z start number v [] w home low r = All-nil (λ (e : Event). NamesWordsBelow start.cpus e.kind)
runs_below z start number v (e ∷ es) w home low r =
    All-cons (λ (x : Event). NamesWordsBelow start.cpus x.kind) e es
    (shows_below (at_call z e.call) start number r.0 e.kind r.1 (home_looked z.cpu start number v r.0 r.2 home) low r.3)
    (runs_below z start number r.1 es w (home_next z start number v e es w r home) low r.4)

-- and so does each step of such events
step_below : (n thread cpu call part : ℕ) (k : EventKind) (rest : List Placed) → cpu < n → NamesWordsBelow n k → All (λ p. p.step.word < n) rest
    → All (λ p. p.step.word < n) (steps_of_kind thread cpu call part k ++ rest)
step_below n thread cpu call part (Stable raw value) rest low h later = later
step_below n thread cpu call part (Local raw tick_raw tick_gtod offset old new) rest low h later = All-cons (λ (p : Placed). p.step.word < n) _ rest low later
step_below n thread cpu call part (Couple asked own other word old new) rest low h later = All-cons (λ (p : Placed). p.step.word < n) _ rest h later
step_below n thread cpu call part (Stamp gtod_ticket gtod raw) rest low h later = later
step_below n thread cpu call part Nothing rest low h later = later
step_below n thread cpu call part (Update p) rest low h later = later
step_below n thread cpu call part (Pause ticket count) rest low h later = later

pub steps_below : (n thread cpu part : ℕ) (es : List Event) → cpu < n → All (λ e. NamesWordsBelow n e.kind) es → All (λ p. p.step.word < n) (steps_from thread cpu part es)
steps_below n thread cpu part [] low h = All-nil (λ (p : Placed). p.step.word < n)
steps_below n thread cpu part (e ∷ es) low h =
    step_below n thread cpu e.call part e.kind (steps_from thread cpu (part + 1) es) low (All-head (λ (x : Event). NamesWordsBelow n x.kind) e es h)
    (steps_below n thread cpu (part + 1) es low (All-tail (λ (x : Event). NamesWordsBelow n x.kind) e es h))
