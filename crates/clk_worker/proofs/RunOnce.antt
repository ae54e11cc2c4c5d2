-- The histories of the words show the step of each event once: each step stands in the list of its word.
use Rattle.std.proofs.Common.{◌≡◌, ◌≢◌, ℕ, ◌+◌, ◌<◌, ◌≤◌, ◌==◌, ℤ, Bool, true, false, not, cond, List, [], ◌∷◌, ◌++◌, length, map, filter, refl, ap, ◌∙◌, sym, subst, arith, eq-eqb, ne_eqb}
use Rattle.std.specs.List.{All, flat_map}
use Rattle.std.specs.List.Sorted.{IsPermutation}
use Rattle.std.specs.Cmp.{unsigned_Decides}
use Rattle.std.proofs.lemmas.List.{map-append}
use Rattle.std.proofs.lemmas.List.Elements.{All-head, All-filter, filter_passes}
use Rattle.std.proofs.lemmas.List.Sorted.{IsPermutation-refl, IsPermutation-trans, IsPermutation-append, IsPermutation-map, IsPermutation-filter_both}
use Rattle.clk_base.specs.Walk.{EachFrom}
use Rattle.clk_num.specs.Listed.{Listed}
use Rattle.clk_lawful.specs.Lines.{step_line}
use Rattle.clk_lawful.specs.WordHistory.{Placed, line_of, placed_on, IsHistoryOf}
use Rattle.clk_lawful.specs.declared.trace.HistoryStep.{HistoryStep}

-- the steps on other words than k
abbrev steps_off : ℕ → List Placed → List Placed
steps_off k placed = filter (λ p. not (p.step.word == k)) placed

off_by : (k w : ℕ) (p : Placed) (off on : List Placed) (t : Bool) → k < w → (p.step.word == k) ≡ t → placed_on w off ≡ on
    → placed_on w (cond (not t) (p ∷ off) off) ≡ cond (p.step.word == w) (p ∷ on) on
off_by k w p off on true low e same =
    let is : p.step.word ≡ k = (unsigned_Decides p.step.word k).0 e in
    let differ : (p.step.word == w) ≡ false = ne_eqb p.step.word w (λ (f : p.step.word ≡ w). omega (arith, is, f, low)) in
    same ∙ sym (ap (λ (b : Bool). cond b (p ∷ on) on) differ)
off_by k w p off on false low e same = ap (λ (xs : List Placed). cond (p.step.word == w) (p ∷ xs) xs) same

-- those on a later word are among them
later_on : (k w : ℕ) (placed : List Placed) → k < w → placed_on w (steps_off k placed) ≡ placed_on w placed
later_on k w [] low = refl
later_on k w (p ∷ placed) low = off_by k w p (steps_off k placed) (placed_on w placed) (p.step.word == k) low refl (later_on k w placed low)

abbrev HoldsLines : List Placed → ℕ → Listed HistoryStep → Type 0
HoldsLines placed w lines = IsPermutation (map line_of (placed_on w placed)) lines.items

later_hold : (k n : ℕ) (placed : List Placed) (lists : List (Listed HistoryStep)) → k < n → EachFrom (HoldsLines placed) n lists → EachFrom (HoldsLines (steps_off k placed)) n lists
later_hold k n placed [] low each = tt
later_hold k n placed (l ∷ lists) low each =
    (subst (λ (ps : List Placed). IsPermutation (map line_of ps) l.items) (sym (later_on k n placed low)) each.0, later_hold k (n + 1) placed lists (omega (arith, low)) each.1)

-- the words of these steps are those from k on, as many as n
abbrev AreWithin : ℕ → ℕ → List Placed → Type 0
AreWithin k n placed = All (λ p. (k ≤ p.step.word) × (p.step.word < k + n)) placed

other_word : (a b : ℕ) → not (a == b) ≡ true → a ≢ b
other_word a b e f = let same = eq-eqb a b f in absurd (cc)

within_off : (k n : ℕ) (placed : List Placed) → AreWithin k (n + 1) placed → AreWithin (k + 1) n (steps_off k placed)
within_off k n placed all i d low =
    let test : Placed → Bool = λ p. not (p.step.word == k) in
    let range = All-filter test (λ (p : Placed). (k ≤ p.step.word) × (p.step.word < k + (n + 1))) placed all i d low in
    let differ = other_word _ k (filter_passes test placed i d low) in
    let from = range.0 in
    let to = range.1 in
    (omega (arith, from, differ), omega (arith, to))

hold_all : (k : ℕ) (lists : List (Listed HistoryStep)) (placed : List Placed) → AreWithin k (length lists) placed → EachFrom (HoldsLines placed) k lists
    → IsPermutation (map line_of placed) (flat_map (λ l. l.items) lists)
hold_all k [] [] within each = IsPermutation-refl []
hold_all k [] (p ∷ placed) within each =
    let range = All-head (λ (q : Placed). (k ≤ q.step.word) × (q.step.word < k + 0)) p placed within in
    let from = range.0 in
    let to = range.1 in
    absurd (omega (arith, from, to))
hold_all k (l ∷ lists) placed within each =
    let here : List Placed = placed_on k placed in
    let off : List Placed = steps_off k placed in
    let parts : IsPermutation placed (here ++ off) = IsPermutation-filter_both (λ (p : Placed). p.step.word == k) (λ p. not (p.step.word == k)) (λ p. refl) placed in
    let lines : IsPermutation (map line_of placed) (map line_of here ++ map line_of off) =
    subst (IsPermutation (map line_of placed)) (map-append line_of here off) (IsPermutation-map line_of placed (here ++ off) parts) in
    let count : length (l ∷ lists) ≡ length lists + 1 = omega arith in
    let later =
    hold_all (k + 1) lists off (within_off k (length lists) placed (subst (λ n. AreWithin k n placed) count within)) (later_hold k (k + 1) placed lists (omega arith) each.1) in
    IsPermutation-trans (map line_of placed) (map line_of here ++ map line_of off) (l.items ++ flat_map (λ (x : Listed HistoryStep). x.items) lists) lines
    (IsPermutation-append (map line_of here) l.items (map line_of off) (flat_map (λ (x : Listed HistoryStep). x.items) lists) each.0 later)

-- as they are printed
printed_steps : (placed : List Placed) → map step_line (map line_of placed) ≡ map (λ p. step_line (line_of p)) placed
printed_steps [] = refl
printed_steps (p ∷ placed) = ap (λ xs. step_line (line_of p) ∷ xs) (printed_steps placed)

printed_lists : (lists : List (Listed HistoryStep)) → map step_line (flat_map (λ l. l.items) lists) ≡ flat_map (λ l. map step_line l.items) lists
printed_lists [] = refl
printed_lists (l ∷ lists) =
    map-append step_line l.items (flat_map (λ (x : Listed HistoryStep). x.items) lists) ∙ ap (λ xs. map step_line l.items ++ xs) (printed_lists lists)

each_lines : (opening : ℤ) (placed : List Placed) (n : ℕ) (lists : List (Listed HistoryStep))
    → EachFrom (λ w lines. IsHistoryOf opening (placed_on w placed) lines.items) n lists → EachFrom (HoldsLines placed) n lists
each_lines opening placed n [] each = tt
each_lines opening placed n (l ∷ lists) each = (each.0.all, each_lines opening placed (n + 1) lists each.1)

pub holds_once : (opening : ℤ) (placed : List Placed) (lists : List (Listed HistoryStep)) → All (λ p. p.step.word < length lists) placed
    → EachFrom (λ w lines. IsHistoryOf opening (placed_on w placed) lines.items) 0 lists
    → IsPermutation (map (λ p. step_line (line_of p)) placed) (flat_map (λ lines. map step_line lines.items) lists)
holds_once opening placed lists below each =
    let within : AreWithin 0 (length lists) placed = λ i d low. (let high = below i d low in (omega arith, omega (arith, high))) in
    let whole = IsPermutation-map step_line (map line_of placed) (flat_map (λ (l : Listed HistoryStep). l.items) lists)
    (hold_all 0 lists placed within (each_lines opening placed 0 lists each)) in
    subst (λ xs. IsPermutation xs (flat_map (λ lines. map step_line lines.items) lists)) (printed_steps placed)
    (subst (IsPermutation (map step_line (map line_of placed))) (printed_lists lists) whole)
