-- The steps of a run: those of its events, each of which raises the word that it found to its target.
use Rattle.std.proofs.Common.{◌≡◌, ◌≢◌, ℕ, ◌+◌, ℤ, Bool, true, false, cond, List, [], ◌∷◌, ◌++◌, map, ap, ◌∙◌, sym, refl, append_assoc, append-nil, eq-eqb, ne_eqb}
use Rattle.std.proofs.lemmas.List.{map-append}
use Rattle.std.specs.List.{All}
use Rattle.std.proofs.lemmas.List.Elements.{All-nil, All-cons}
use Rattle.clk_num.specs.Wrapping.{raise}
use Rattle.clk_machine.specs.declared.reading.RawReading.{RawReading}
use Rattle.clk_record.specs.declared.step.Step.{Step}
use Rattle.clk_record.specs.declared.step.Why.{Why}
use Rattle.clk_record.specs.declared.step.Why.TheVariants.{Raise}
use Rattle.clk_record.specs.declared.step.Why.TheVariants as why
use Rattle.clk_record.specs.LowerWord.{is_lower}
use Rattle.clk_record.specs.Targets.{target}
use Rattle.clk_words.specs.declared.opening.Start.{Start}
use Rattle.clk_words.specs.declared.view.View.{View}
use Rattle.clk_lawful.specs.Couples.{named_word, named_value}
use Rattle.clk_lawful.specs.LegalHistory.{ReachesTarget}
use Rattle.clk_lawful.specs.WordHistory.{Placed, steps_of_kind, steps_from}
use Rattle.clk_lawful.specs.declared.event.Event.{Event}
use Rattle.clk_lawful.specs.declared.event.EventKind.{EventKind}
use Rattle.clk_lawful.specs.declared.event.EventKind.TheVariants.{Stable, Local, Couple, Stamp, Nothing, Update, Pause}
use Rattle.clk_local.specs.Context.{Site, Known}
use Rattle.clk_remote.specs.Coupling.{coupling, higher_value}
use Rattle.clk_worker.specs.Running.{Shows, ShowsLocal, ShowsCouple, Runs, at_call}
use Rattle.clk_worker.proofs.RunKeeping.{IsHome, home_looked, home_next}

-- ---- what a coupling names

named_by : (t : Bool) (cpu asked : ℕ) (own other : ℤ) → asked ≢ cpu
    → cond t (why.Couple cpu own) (why.Couple asked other) ≡ why.Couple (named_word cpu asked (cond t asked cpu)) (named_value asked own other (cond t asked cpu))
named_by true cpu asked own other apart = let same = eq-eqb asked asked refl in rw same refl
named_by false cpu asked own other apart = let differ = ne_eqb cpu asked (λ e. apart (sym e)) in rw differ refl

-- of the words that a coupling joins, it names the one that it does not step on, and what that held
pub coupling_is : (cpu asked word : ℕ) (own other : ℤ) → asked ≢ cpu → word ≡ cond (is_lower other own) asked cpu
    → coupling cpu asked own other ≡ why.Couple (named_word cpu asked word) (named_value asked own other word)
coupling_is cpu asked word own other apart is =
    named_by (is_lower other own) cpu asked own other apart
    ∙ ap (λ k. why.Couple (named_word cpu asked k) (named_value asked own other k)) (sym is)

target_by : (tick : ℤ) (t : Bool) (cpu asked : ℕ) (own other : ℤ) → target tick (cond t (why.Couple cpu own) (why.Couple asked other)) ≡ cond t own other
target_by tick true cpu asked own other = refl
target_by tick false cpu asked own other = refl

-- ---- the steps that the thread made

-- the words number the seat of a thread one higher, after the first seat
abbrev pub numbered : Placed → Step
numbered p = record p.step { by = p.step.by + 1 }

pub same_fields : (s : Step) (by call word : ℕ) (y : Why) (old new : ℤ) → s.by ≡ by → s.call ≡ call → s.word ≡ word → s.why ≡ y → s.old ≡ old → s.new ≡ new
    → s ≡ record { by = by; call = call; word = word; why = y; old = old; new = new }
same_fields s by call word y old new a b c d e f =
    ap (λ x. record s { by = x }) a ∙ ap (λ x. record s { by = by; call = x }) b ∙ ap (λ x. record s { by = by; call = call; word = x }) c
    ∙ ap (λ x. record s { by = by; call = call; word = word; why = x }) d ∙ ap (λ x. record s { by = by; call = call; word = word; why = y; old = x }) e
    ∙ ap (λ x. record s { by = by; call = call; word = word; why = y; old = old; new = x }) f

local_step : (z : Site) (start : Start) (thread : ℕ) (v w : Known) (raw : RawReading) (tick_raw tick_gtod offset old new : ℤ) → IsHome z.cpu start (thread + 1) v.view
    → (h : ShowsLocal z v raw tick_raw tick_gtod offset old new w)
    → h.step ≡ record { by = thread + 1; call = z.call; word = z.cpu; why = Raise raw.ns tick_raw tick_gtod offset; old = old; new = new }
local_step z start thread v w raw tick_raw tick_gtod offset old new home h =
    let is = h.raised.step_is in
    same_fields h.step (thread + 1) z.call z.cpu (Raise raw.ns tick_raw tick_gtod offset) old new
    (ap (λ (s : Step). s.by) is ∙ home.number_is) (ap (λ (s : Step). s.call) is) (ap (λ (s : Step). s.word) is ∙ home.cpu_is) h.why_is h.old_is h.new_is

pub couple_why : (z : Site) (v w : Known) (asked : ℕ) (own other : ℤ) (word : ℕ) (old new : ℤ) (h : ShowsCouple z v asked own other word old new w)
    → h.step.why ≡ why.Couple (named_word z.cpu asked word) (named_value asked own other word)
couple_why z v w asked own other word old new h =
    let is = h.coupled.step_is in
    ap (λ (s : Step). s.why) is ∙ coupling_is z.cpu asked word own other h.apart (sym h.word_is ∙ ap (λ (s : Step). s.word) is)

couple_step : (z : Site) (start : Start) (thread : ℕ) (v w : Known) (asked : ℕ) (own other : ℤ) (word : ℕ) (old new : ℤ) → IsHome z.cpu start (thread + 1) v.view
    → (h : ShowsCouple z v asked own other word old new w)
    → h.step ≡ record { by = thread + 1; call = z.call; word = word; why = why.Couple (named_word z.cpu asked word) (named_value asked own other word); old = old; new = new }
couple_step z start thread v w asked own other word old new home h =
    let is = h.coupled.step_is in
    same_fields h.step (thread + 1) z.call word (why.Couple (named_word z.cpu asked word) (named_value asked own other word)) old new
    (ap (λ (s : Step). s.by) is ∙ home.number_is) (ap (λ (s : Step). s.call) is) h.word_is (couple_why z v w asked own other word old new h) h.old_is h.new_is

shows_mine : (z : Site) (start : Start) (thread part : ℕ) (v : Known) (k : EventKind) (w : Known) → IsHome z.cpu start (thread + 1) v.view → Shows z v k w
    → w.view.mine ≡ v.view.mine ++ map numbered (steps_of_kind thread z.cpu z.call part k)
shows_mine z start thread part v (Stable raw value) w home h = ap (λ (x : View). x.mine) h.stable.view_is ∙ sym (append-nil v.view.mine)
shows_mine z start thread part v (Local raw tick_raw tick_gtod offset old new) w home h =
    h.raised.mine_is ∙ ap (λ s. v.view.mine ++ s ∷ []) (local_step z start thread v w raw tick_raw tick_gtod offset old new home h)
shows_mine z start thread part v (Couple asked own other word old new) w home h =
    h.coupled.mine_is ∙ ap (λ s. v.view.mine ++ s ∷ []) (couple_step z start thread v w asked own other word old new home h)
shows_mine z start thread part v (Stamp gtod_ticket gtod raw) w home h = ap (λ (x : View). x.mine) h.stamps.view_is ∙ sym (append-nil v.view.mine)
shows_mine z start thread part v Nothing w home h = ap (λ (x : Known). x.view.mine) h.same ∙ sym (append-nil v.view.mine)
shows_mine z start thread part v (Update p) w home h = ap (λ (x : View). x.mine) h.view_is ∙ sym (append-nil v.view.mine)
shows_mine z start thread part v (Pause ticket count) w home h = ap (λ (x : View). x.mine) h.view_is ∙ sym (append-nil v.view.mine)

pub runs_mine : (z : Site) (start : Start) (thread part : ℕ) (v : Known) (es : List Event) (w : Known) → IsHome z.cpu start (thread + 1) v.view → Runs z v es w
    → w.view.mine ≡ v.view.mine ++ map numbered (steps_from thread z.cpu part es)
runs_mine z start thread part v [] w home r = rw (← r) (sym (append-nil v.view.mine))
runs_mine z start thread part v (e ∷ es) w home r =
    let here : List Placed = steps_of_kind thread z.cpu e.call part e.kind in
    let later : List Placed = steps_from thread z.cpu (part + 1) es in
    runs_mine z start thread (part + 1) r.1 es w (home_next z start (thread + 1) v e es w r home) r.4
    ∙ ap (λ (xs : List Step). xs ++ map numbered later)
    (shows_mine (at_call z e.call) start thread part r.0 e.kind r.1 (home_looked z.cpu start (thread + 1) v r.0 r.2 home) r.3)
    ∙ ap (λ (x : View). (x.mine ++ map numbered here) ++ map numbered later) r.2.view_is
    ∙ append_assoc v.view.mine (map numbered here) (map numbered later)
    ∙ ap (λ xs. v.view.mine ++ xs) (sym (map-append numbered here later))

-- ---- each of them raises its word to its target

local_reaches : (z : Site) (start : Start) (number : ℕ) (v w : Known) (raw : RawReading) (tick_raw tick_gtod offset old new : ℤ) → IsHome z.cpu start number v.view
    → ShowsLocal z v raw tick_raw tick_gtod offset old new w → new ≡ raise old (target start.tick (Raise raw.ns tick_raw tick_gtod offset))
local_reaches z start number v w raw tick_raw tick_gtod offset old new home h =
    let is = h.raised.step_is in
    sym h.new_is ∙ ap (λ (s : Step). s.new) is
    ∙ ap (λ (y : Why). raise h.step.old (target v.view.start.tick y)) (sym (ap (λ (s : Step). s.why) is) ∙ h.why_is)
    ∙ ap (λ (o : Start). raise h.step.old (target o.tick (Raise raw.ns tick_raw tick_gtod offset))) home.start_is
    ∙ ap (λ x. raise x (target start.tick (Raise raw.ns tick_raw tick_gtod offset))) h.old_is

couple_reaches : (z : Site) (tick : ℤ) (v w : Known) (asked : ℕ) (own other : ℤ) (word : ℕ) (old new : ℤ) → ShowsCouple z v asked own other word old new w
    → new ≡ raise old (target tick (why.Couple (named_word z.cpu asked word) (named_value asked own other word)))
couple_reaches z tick v w asked own other word old new h =
    let is = h.coupled.step_is in
    let value : higher_value own other ≡ target tick h.step.why =
    sym (target_by tick (is_lower other own) z.cpu asked own other) ∙ ap (target tick) (sym (ap (λ (s : Step). s.why) is)) in
    sym h.new_is ∙ ap (λ (s : Step). s.new) is ∙ ap (raise h.step.old) (value ∙ ap (target tick) (couple_why z v w asked own other word old new h))
    ∙ ap (λ x. raise x (target tick (why.Couple (named_word z.cpu asked word) (named_value asked own other word)))) h.old_is

shows_reaches : (z : Site) (start : Start) (number thread part : ℕ) (v : Known) (k : EventKind) (w : Known) (rest : List Placed) → IsHome z.cpu start number v.view → Shows z v k w
    → All (ReachesTarget start.tick) rest → All (ReachesTarget start.tick) (steps_of_kind thread z.cpu z.call part k ++ rest)
shows_reaches z start number thread part v (Stable raw value) w rest home h later = later
shows_reaches z start number thread part v (Local raw tick_raw tick_gtod offset old new) w rest home h later =
    All-cons (ReachesTarget start.tick) _ rest (local_reaches z start number v w raw tick_raw tick_gtod offset old new home h) later
shows_reaches z start number thread part v (Couple asked own other word old new) w rest home h later =
    All-cons (ReachesTarget start.tick) _ rest (couple_reaches z start.tick v w asked own other word old new h) later
shows_reaches z start number thread part v (Stamp gtod_ticket gtod raw) w rest home h later = later
shows_reaches z start number thread part v Nothing w rest home h later = later
shows_reaches z start number thread part v (Update p) w rest home h later = later
shows_reaches z start number thread part v (Pause ticket count) w rest home h later = later

pub runs_reach : (z : Site) (start : Start) (number thread part : ℕ) (v : Known) (es : List Event) (w : Known) → IsHome z.cpu start number v.view → Runs z v es w
    → All (ReachesTarget start.tick) (steps_from thread z.cpu part es)
runs_reach z start number thread part v [] w home r = All-nil (ReachesTarget start.tick)
runs_reach z start number thread part v (e ∷ es) w home r =
    shows_reaches (at_call z e.call) start number thread part r.0 e.kind r.1 (steps_from thread z.cpu (part + 1) es) (home_looked z.cpu start number v r.0 r.2 home) r.3
    (runs_reach z start number thread (part + 1) r.1 es w (home_next z start number v e es w r home) r.4)
