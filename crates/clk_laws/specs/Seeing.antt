-- No thread sees a clock word fall.
use Rattle.std.specs.Prelude.{◌≡◌, ℕ, List, [], ◌∷◌, All, AllPairs}
use Rattle.std.specs.List.{AllZip}
use Rattle.clk_num.specs.Wrapping.{IsNotBelow}
use Rattle.clk_machine.specs.Plan.{Plan}
use Rattle.clk_lawful.specs.LawfulTrace.{IsLawful}
use Rattle.clk_lawful.specs.SeenBefore.{Seen, seen_at, shown_by_kind}
use Rattle.clk_lawful.specs.declared.event.EventKind.{EventKind}
use Rattle.clk_lawful.specs.declared.event.EventKind.TheVariants.{Stable, Local, Couple, Stamp, Nothing, Update, Pause}
use Rattle.clk_lawful.specs.declared.trace.Trace.{Trace}

-- what an event of a thread on this CPU found of the words: what a reading loaded, and what a coupling's step found
abbrev pub found_by_kind : ℕ → EventKind → List Seen
found_by_kind cpu (Stable raw value) = []
found_by_kind cpu (Local raw tick_raw tick_gtod offset old new) = seen_at cpu old ∷ []
found_by_kind cpu (Couple asked own other word old new) = seen_at cpu own ∷ seen_at asked other ∷ seen_at word old ∷ []
found_by_kind cpu (Stamp gtod_ticket gtod raw) = []
found_by_kind cpu Nothing = []
found_by_kind cpu (Update p) = []
found_by_kind cpu (Pause ticket count) = []

-- of a word the later event found no less than the earlier one showed
abbrev pub FindsNoLess : ℕ → EventKind → EventKind → Type 0
FindsNoLess cpu before after =
    All (λ y. All (λ x. x.word ≡ y.word → IsNotBelow y.value x.value) (shown_by_kind cpu before)) (found_by_kind cpu after)

-- in each thread, of each event and each later one
abbrev pub NoWordFalls : Type 0
NoWordFalls =
    (m : Plan) (t : Trace)
    → IsLawful m t
    → AllZip (λ cpu es. AllPairs (λ e f. FindsNoLess cpu e.kind f.kind) es.items) t.cpu_of.items t.threads.items
