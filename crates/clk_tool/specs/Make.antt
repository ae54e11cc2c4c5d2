-- What `make` writes.
use Rattle.std.specs.Prelude.{◌≡◌, ℕ, ◌+◌, List, [], ◌∷◌, ◌++◌, codes, decimal, length}
use Rattle.std.specs.List.{sum_by}
use Rattle.clk_base.specs.Text.{line}
use Rattle.clk_num.specs.Listed.{Listed}
use Rattle.clk_machine.specs.Plan.{threads_of}
use Rattle.clk_lawful.specs.LawfulTrace.{IsLawful}
use Rattle.clk_lawful.specs.declared.trace.HistoryStep.{HistoryStep}
use Rattle.clk_lawful.specs.declared.trace.Trace.{Trace}
use Rattle.clk_make.specs.Made.{made, made_cpus, made_readers}
use Rattle.clk_make.specs.Numbers.{made_words, made_tickets, made_steps}
use Rattle.clk_tool.specs.declared.make.Sizes.{Sizes}

-- the steps in all histories
abbrev pub steps_of : List (Listed HistoryStep) → ℕ
steps_of histories = sum_by (λ lines. length lines.items) histories

-- the sizes of a lawful run of the machine that is made from n: its CPUs and readers, its script words after repeats,
-- its tickets, and the steps in all histories
pub record AreSizesOf (n : ℕ) (s : Sizes) : Type 0 where
  pub trace : Trace
  pub lawful : IsLawful (made n) trace
  pub cpus : s.cpus ≡ length trace.histories.items
  pub readers : s.cpus + s.readers ≡ length trace.threads.items
  pub words : s.words ≡ sum_by (λ t. length t.1) (threads_of (made n))
  pub tickets : s.tickets ≡ trace.tickets
  pub steps : s.steps ≡ steps_of trace.histories.items

-- those that the number alone tells
abbrev pub made_sizes : ℕ → Sizes
made_sizes n = record {
  cpus = made_cpus n;
  readers = made_readers n;
  words = made_words n;
  tickets = made_tickets n;
  steps = made_steps n;
}

-- the six lines of the machine of n and some sizes
abbrev pub sizes_text : ℕ → Sizes → List ℕ
sizes_text n s =
    line (codes "machine" ∷ decimal n ∷ [])
    ++ line (codes "cpus" ∷ decimal s.cpus ∷ [])
    ++ line (codes "readers" ∷ decimal s.readers ∷ [])
    ++ line (codes "words" ∷ decimal s.words ∷ [])
    ++ line (codes "tickets" ∷ decimal s.tickets ∷ [])
    ++ line (codes "steps" ∷ decimal s.steps ∷ [])

-- those lines by the number alone
unfoldable pub make_text : ℕ → List ℕ
make_text n = sizes_text n (made_sizes n)

-- the lines of a lawful run were written so, and they are those that the number alone tells
pub record MadeRun (n : ℕ) (Written : List ℕ → Type 0) : Type 0 where
  pub sizes : Sizes
  pub are : AreSizesOf n sizes
  pub fixed : sizes ≡ made_sizes n
  pub written : Written (sizes_text n sizes)
