-- The history of the words at their end has just the steps of all threads: so the lines of each word are a legal
-- history, and each coupling names a value that the other word held and that some word got otherwise.
use Rattle.std.proofs.Common.{◌≡◌, ℕ, ◌+◌, ℤ, ◌<ℤ◌, ◌⊎◌, inl, inr, Bool, List, [], ◌∷◌, ◌++◌, map, filter, nat_eq, Contains, refl, ap, ◌∙◌, sym, subst, arith}
use Rattle.std.proofs.lemmas.Int.{ints}
use Rattle.std.specs.List.{All, sum_by}
use Rattle.std.specs.List.Sorted.{IsPermutation}
use Rattle.std.proofs.lemmas.List.Elements.{All-nil, All-cons, All-head, All-tail, All-weaker, All-filter}
use Rattle.std.proofs.lemmas.List.Sorted.{IsPermutation-sym, IsPermutation-trans, IsPermutation-cons, IsPermutation-map, Contains-permutation}
use Rattle.clk_base.specs.Chains.{IsChainBy}
use Rattle.clk_base.specs.Walk.{EachFrom}
use Rattle.clk_num.specs.Listed.{Listed}
use Rattle.clk_num.specs.Wrapping.{IsValue, above, IsAbove}
use Rattle.clk_num.proofs.Heights.{above_is, raise_up}
use Rattle.clk_record.specs.declared.step.Step.{Step}
use Rattle.clk_record.specs.declared.step.Why.{Why}
use Rattle.clk_record.specs.declared.step.Why.TheVariants.{Raise, Couple, Lift}
use Rattle.clk_record.specs.Targets.{target}
use Rattle.clk_words.specs.declared.opening.Start.{Start}
use Rattle.clk_words.specs.Bounds.{IsClock}
use Rattle.clk_words.specs.Histories.{opens_at, NamesHeld, Follows, AllFollow, IsGlobalHistory, steps_on, IsChain}
use Rattle.clk_words.proofs.Replay.{clock_near, AreClocks, opening_range, range_more, is_chain}
use Rattle.clk_lawful.specs.LegalHistory.{NamesSource, IsLegalHistory}
use Rattle.clk_lawful.specs.SortedHistory.{GoesUp, change_of}
use Rattle.clk_lawful.specs.WordHistory.{Placed, line_of, placed_on, IsHistoryOf}
use Rattle.clk_lawful.specs.declared.trace.HistoryStep.{HistoryStep}
use Rattle.clk_lawful.proofs.Sorting.{sorted_chain}
use Rattle.clk_worker.proofs.RunBrought.{brings_step, held_here, held_brought}
use Rattle.clk_worker.proofs.RunNamed.{NamesIn}
use Rattle.clk_worker.proofs.RunOrders.{same_step, step_decides, Ordered, SameSums, ordered, same_kept, map_filter}
use Rattle.clk_worker.proofs.RunSteps.{numbered}

-- ---- the steps of all threads

-- a legal history of just these steps
pub record HoldsSteps (start : Start) (history : List Step) (placed : List Placed) : Type 0 where
  pub legal : IsGlobalHistory start history
  pub once : SameSums (map numbered placed) history

-- the steps that a test keeps, in the order of the history
pub in_order : (start : Start) (history : List Step) (placed : List Placed) → HoldsSteps start history placed → (p : Step → Bool)
    → Ordered numbered (filter (λ q. p (numbered q)) placed) (filter p history)
in_order start history placed h p =
    ordered numbered same_step step_decides (filter (λ q. p (numbered q)) placed) (filter p history)
    (λ f. ap (sum_by f) (map_filter numbered p placed) ∙ same_kept p (map numbered placed) history h.once f)

-- ---- each word

-- a step leaves its word as it was, or higher
record StepUp (opening : ℤ) (s : Step) : Type 0 where
  old_fits : IsValue s.old
  new_fits : IsValue s.new
  up : (s.old ≡ s.new) ⊎ (above s.old opening <ℤ above s.new opening)

higher_up : (o old new : ℤ) → IsClock o old → IsClock o new → IsAbove new old → above old o <ℤ above new o
higher_up o old new p q up = let far = above_is o new old (clock_near o new q) (clock_near o old p) in omega (arith, ints, far, up)

step_up : (start : Start) (before : List Step) (s : Step) → Follows start before s → AreClocks start before → StepUp (opens_at start) s
step_up start before s f all =
    let o = opens_at start in
    let was : IsClock o s.old = subst (IsClock o) (sym f.old_is) (all s.word) in
    record {
      old_fits = was.0;
      new_fits = f.range.0;
      up =
          elim (raise_up s.old (target start.tick s.why)) [
            | inl same ↦ inl (sym (f.new_is ∙ same))
            | inr high ↦ inr (higher_up o s.old s.new was f.range (subst (λ x. IsAbove x s.old) (sym f.new_is) high))
          ];
    }

all_up : (start : Start) (before xs : List Step) → AllFollow start before xs → AreClocks start before → All (StepUp (opens_at start)) xs
all_up start before [] p all = All-nil (StepUp (opens_at start))
all_up start before (s ∷ xs) p all =
    All-cons (StepUp (opens_at start)) s xs (step_up start before s p.0 all)
    (all_up start (before ++ s ∷ []) xs p.1 (range_more start before s p.0.range all))

-- the lines of steps that are a chain and go up
lines_chain : (x : ℤ) (qs : List Placed) → IsChain x (map numbered qs) → IsChainBy (λ (s : HistoryStep). s.old) (λ s. s.new) x (map line_of qs)
lines_chain x [] h = tt
lines_chain x (q ∷ qs) h = (h.0, lines_chain q.step.new qs h.1)

lines_up : (o : ℤ) (qs : List Placed) → All (StepUp o) (map numbered qs) → All (GoesUp o) (map line_of qs)
lines_up o [] h = All-nil (GoesUp o)
lines_up o (q ∷ qs) h =
    let one = All-head (StepUp o) (numbered q) (map numbered qs) h in
    All-cons (GoesUp o) (line_of q) (map line_of qs) (record { old_fits = one.old_fits; new_fits = one.new_fits; up = one.up })
    (lines_up o qs (All-tail (StepUp o) (numbered q) (map numbered qs) h))

-- in the order of a history they are a chain, and show what the words' history does
pub sorted_word : (start : Start) (history : List Step) (placed : List Placed) → (h : HoldsSteps start history placed) → (w : ℕ) (lines : List HistoryStep)
    → IsHistoryOf (opens_at start) (placed_on w placed) lines
    → (map change_of lines ≡ map change_of (map line_of (in_order start history placed h (λ s. nat_eq s.word w)).items))
    × IsChainBy (λ (s : HistoryStep). s.old) (λ s. s.new) (opens_at start) lines
sorted_word start history placed h w lines is =
    let o = opens_at start in
    let put : Ordered numbered (placed_on w placed) (steps_on w history) = in_order start history placed h (λ s. nat_eq s.word w) in
    let chain = lines_chain o put.items (subst (IsChain o) (sym put.is) (is_chain start history w h.legal)) in
    let all = All-filter (λ (s : Step). nat_eq s.word w) (StepUp o) history (all_up start [] history h.legal (λ k. opening_range start)) in
    let up = lines_up o put.items (subst (All (StepUp o)) (sym put.is) all) in
    let same : IsPermutation (map line_of put.items) lines =
    IsPermutation-trans (map line_of put.items) (map line_of (placed_on w placed)) lines
    (IsPermutation-sym (map line_of (placed_on w placed)) (map line_of put.items) (IsPermutation-map line_of (placed_on w placed) put.items put.all)) is.all in
    sorted_chain o (map line_of put.items) lines chain up same is.sorted

pub legal_word : (start : Start) (history : List Step) (placed : List Placed) → HoldsSteps start history placed → (w : ℕ) (lines : List HistoryStep)
    → IsHistoryOf (opens_at start) (placed_on w placed) lines → IsLegalHistory (opens_at start) (placed_on w placed) lines
legal_word start history placed h w lines is =
    record { ordered = lines; history = is; printed = refl; chain = (sorted_word start history placed h w lines is).1 }

pub legal_words : (start : Start) (history : List Step) (placed : List Placed) → HoldsSteps start history placed → (n : ℕ) (lists : List (Listed HistoryStep))
    → EachFrom (λ w lines. IsHistoryOf (opens_at start) (placed_on w placed) lines.items) n lists
    → EachFrom (λ w lines. IsLegalHistory (opens_at start) (placed_on w placed) lines.items) n lists
legal_words start history placed h n [] each = tt
legal_words start history placed h n (l ∷ lists) each =
    (legal_word start history placed h n l.items each.0, legal_words start history placed h (n + 1) lists each.1)

-- ---- what couplings name

news_of : (qs : List Placed) → map (λ (s : Step). s.new) (map numbered qs) ≡ map (λ (q : Placed). q.step.new) qs
news_of [] = refl
news_of (q ∷ qs) = ap (λ (xs : List ℤ). q.step.new ∷ xs) (news_of qs)

-- what the kept steps of the history left, those of the threads left
news_same : (start : Start) (history : List Step) (placed : List Placed) → HoldsSteps start history placed → (p : Step → Bool) (o x : ℤ)
    → Contains (o ∷ map (λ s. s.new) (filter p history)) x → Contains (o ∷ map (λ q. q.step.new) (filter (λ q. p (numbered q)) placed)) x
news_same start history placed h p o x has =
    let put = in_order start history placed h p in
    let kept : List ℤ = map (λ (q : Placed). q.step.new) (filter (λ q. p (numbered q)) placed) in
    let made : List ℤ = map (λ (q : Placed). q.step.new) put.items in
    let is : map (λ (s : Step). s.new) (filter p history) ≡ made = ap (map (λ (s : Step). s.new)) (sym put.is) ∙ news_of put.items in
    let back : IsPermutation (o ∷ made) (o ∷ kept) =
    IsPermutation-sym (o ∷ kept) (o ∷ made)
    (IsPermutation-cons o kept made (IsPermutation-map (λ (q : Placed). q.step.new) (filter (λ q. p (numbered q)) placed) put.items put.all)) in
    Contains-permutation (o ∷ made) (o ∷ kept) x back (subst (λ (xs : List ℤ). Contains (o ∷ xs) x) is has)

pub names_source : (start : Start) (history : List Step) (placed : List Placed) → HoldsSteps start history placed → (y : Why) → NamesHeld start history y
    → NamesSource (opens_at start) placed y
names_source start history placed h (Raise raw tick_raw tick_gtod offset) names = tt
names_source start history placed h (Couple from value) names = (
  news_same start history placed h (λ s. nat_eq s.word from) (opens_at start) value (held_here start history from value names),
  news_same start history placed h brings_step (opens_at start) value (held_brought start history from value h.legal names),
)
names_source start history placed h (Lift value) names = tt

pub names_sources : (start : Start) (history : List Step) (placed : List Placed) → HoldsSteps start history placed → All (NamesIn start history) placed
    → All (λ p. NamesSource (opens_at start) placed p.step.why) placed
names_sources start history placed h all =
    All-weaker (NamesIn start history) (λ p. NamesSource (opens_at start) placed p.step.why) (λ p names. names_source start history placed h p.step.why names) placed all
