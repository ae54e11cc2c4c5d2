-- Where the words stood when per-CPU readings began: at their opening, or as a lift left them. Lifts come before all
-- other steps, so a thread that made a step has seen them all, and no word stands below where a lift left it.
use Rattle.std.proofs.Common.{◌≡◌, ℕ, zero, suc, ◌<◌, ◌==◌, ℤ, Bool, true, false, cond, ◌⊎◌, inl, inr, List, [], ◌∷◌, ◌++◌, length, get_or, Contains, IsTrue, refl, ap, ◌∙◌, sym, subst, arith, append_assoc, eqb-true}
use Rattle.std.specs.List.{All}
use Rattle.std.proofs.lemmas.List.Elements.{All-nil, All-cons, All-head, All-tail, All-contains, Contains-append_left, Contains-append_right, Contains-append_cases}
use Rattle.clk_record.specs.declared.step.Step.{Step}
use Rattle.clk_record.specs.declared.step.Why.{Why}
use Rattle.clk_record.specs.declared.step.Why.TheVariants.{Raise, Couple, Lift}
use Rattle.clk_words.specs.declared.opening.Start.{Start}
use Rattle.clk_words.specs.Fronts.{Begins}
use Rattle.clk_words.specs.Histories.{opens_at, value_after, HadValue, is_lift, IsInOrder, AllFollow, IsGlobalHistory}
use Rattle.clk_words.proofs.Replay.{value_here, follow_back, had_here, had_more}
use Rattle.clk_lawful.specs.Standing.{lifted_from}
use Rattle.clk_worker.specs.Running.{HasPassed}

-- a lift of this history left the word k at x
pub record LiftedTo (history : List Step) (k : ℕ) (x : ℤ) : Type 0 where
  pub lift : Step
  pub there : Contains history lift
  pub lifts : is_lift lift.why ≡ true
  pub word_is : lift.word ≡ k
  pub new_is : lift.new ≡ x

-- so many values where the words stood, one for each word
abbrev pub StoodAt : Start → List Step → (ℕ → ℤ) → Type 0
StoodAt start history base = (k : ℕ) → (base k ≡ opens_at start) ⊎ LiftedTo history k (base k)

-- ---- the lifts of a trace

pub record IsLiftIn (history : List Step) (s : Step) : Type 0 where
  pub there : Contains history s
  pub lifts : is_lift s.why ≡ true

stood_by : (start : Start) (history : List Step) (k : ℕ) (s : Step) (rest : ℤ) (t : Bool) → (s.word == k) ≡ t → IsLiftIn history s
    → (rest ≡ opens_at start) ⊎ LiftedTo history k rest
    → (cond t s.new rest ≡ opens_at start) ⊎ LiftedTo history k (cond t s.new rest)
stood_by start history k s rest true e lifted later =
    inr (record { lift = s; there = lifted.there; lifts = lifted.lifts; word_is = eqb-true s.word k e; new_is = refl })
stood_by start history k s rest false e lifted later = later

stood_one : (start : Start) (history lifts : List Step) (k : ℕ) → All (IsLiftIn history) lifts
    → (lifted_from (opens_at start) lifts k ≡ opens_at start) ⊎ LiftedTo history k (lifted_from (opens_at start) lifts k)
stood_one start history [] k all = inl refl
stood_one start history (s ∷ lifts) k all =
    stood_by start history k s (lifted_from (opens_at start) lifts k) (s.word == k) refl (All-head (IsLiftIn history) s lifts all)
    (stood_one start history lifts k (All-tail (IsLiftIn history) s lifts all))

-- where some lifts of a history left the words, they stood
pub lifted_stood : (start : Start) (history lifts : List Step) → All (IsLiftIn history) lifts → StoodAt start history (λ k. lifted_from (opens_at start) lifts k)
lifted_stood start history lifts all k = stood_one start history lifts k all

pub opening_stood : (start : Start) (history : List Step) (base : ℕ → ℤ) → ((k : ℕ) → base k ≡ opens_at start) → StoodAt start history base
opening_stood start history base opens k = inl (opens k)

-- ---- the word held it

-- where an element stands
pub record Stands (xs : List Step) (x : Step) : Type 0 where
  pub front : List Step
  pub back : List Step
  pub is : xs ≡ front ++ x ∷ back

stands_at : (xs : List Step) (x : Step) (i : ℕ) → i < length xs → get_or xs i x ≡ x → Stands xs x
stands_at [] x i low is = absurd (omega (arith, low))
stands_at (y ∷ xs) x zero low is = record { front = []; back = xs; is = ap (λ z. z ∷ xs) is }
stands_at (y ∷ xs) x (suc i) low is =
    let rest = stands_at xs x i (omega (arith, low)) is in
    record { front = y ∷ rest.front; back = rest.back; is = ap (λ zs. y ∷ zs) rest.is }

pub stands : (xs : List Step) (x : Step) → Contains xs x → Stands xs x
stands xs x there = stands_at xs x there.0 there.1 there.2

lifted_had : (start : Start) (history : List Step) (k : ℕ) (x : ℤ) → LiftedTo history k x → HadValue start history k x
lifted_had start history k x l =
    let at = stands history l.lift l.there in
    let here : List Step = at.front ++ l.lift ∷ [] in
    let whole : history ≡ here ++ at.back = at.is ∙ sym (append_assoc at.front (l.lift ∷ []) at.back) in
    let value : value_after (opens_at start) k here ≡ x = value_here (opens_at start) k at.front l.lift l.word_is ∙ l.new_is in
    subst (λ (zs : List Step). HadValue start zs k x) (sym whole) (had_more start here at.back k x (had_here start here k x value))

pub stood_had : (start : Start) (history : List Step) (base : ℕ → ℤ) (k : ℕ) → StoodAt start history base → HadValue start history k (base k)
stood_had start history base k stood = by_case (stood k)
  where
    by_case : (base k ≡ opens_at start) ⊎ LiftedTo history k (base k) → HadValue start history k (base k)
    by_case (inl e) = record { front = []; back = history; history_is = refl; value_is = sym e }
    by_case (inr l) = lifted_had start history k (base k) l

-- ---- lifts come first

lifts_apart : (b : Bool) → b ≡ true → b ≡ false → ⊥
lifts_apart b on off = absurd (cc)

-- after a step that is no lift there is no lift
no_lift : (start : Start) (before : List Step) (t : Step) (why : Why) → IsInOrder start before why → Contains before t → is_lift t.why ≡ false → is_lift why ≡ false
no_lift start before t (Raise raw tick_raw tick_gtod offset) order there other = refl
no_lift start before t (Couple from value) order there other = refl
no_lift start before t (Lift value) order there other =
    absurd (lifts_apart (is_lift t.why) (All-contains (λ (s : Step). IsTrue (is_lift s.why)) before t order there) other)

abbrev NoLifts : List Step → Type 0
NoLifts steps = All (λ s. is_lift s.why ≡ false) steps

none_after : (start : Start) (before xs : List Step) (t : Step) → AllFollow start before xs → Contains before t → is_lift t.why ≡ false → NoLifts xs
none_after start before [] t follows there other = All-nil (λ (s : Step). is_lift s.why ≡ false)
none_after start before (s ∷ xs) t follows there other =
    All-cons (λ (s : Step). is_lift s.why ≡ false) s xs (no_lift start before t s.why follows.0.in_order there other)
    (none_after start (before ++ s ∷ []) xs t follows.1 (Contains-append_left before (s ∷ []) t there) other)

lifted_front : (front rest : List Step) (k : ℕ) (x : ℤ) → NoLifts rest → LiftedTo (front ++ rest) k x → LiftedTo front k x
lifted_front front rest k x none l = by_case (Contains-append_cases front rest l.lift l.there)
  where
    by_case : Contains front l.lift ⊎ Contains rest l.lift → LiftedTo front k x
    by_case (inl c) = record { lift = l.lift; there = c; lifts = l.lifts; word_is = l.word_is; new_is = l.new_is }
    by_case (inr c) =
        absurd (lifts_apart (is_lift l.lift.why) l.lifts (All-contains (λ (s : Step). is_lift s.why ≡ false) rest l.lift none c))

stood_front : (start : Start) (front rest : List Step) (base : ℕ → ℤ) → NoLifts rest → StoodAt start (front ++ rest) base → StoodAt start front base
stood_front start front rest base none stood k = by_case (stood k)
  where
    by_case : (base k ≡ opens_at start) ⊎ LiftedTo (front ++ rest) k (base k) → (base k ≡ opens_at start) ⊎ LiftedTo front k (base k)
    by_case (inl e) = inl e
    by_case (inr l) = inr (lifted_front front rest k (base k) none l)

-- so what has passed the lifts has them all
pub stood_passed : (start : Start) (front history : List Step) (base : ℕ → ℤ) → IsGlobalHistory start history → Begins front history → HasPassed front
    → StoodAt start history base → StoodAt start front base
stood_passed start front history base legal begins passed stood =
    let there : Contains front passed.step =
    subst (λ (zs : List Step). Contains zs passed.step) (sym passed.is) (Contains-append_right passed.front (passed.step ∷ passed.back) passed.step (0, omega arith, refl)) in
    let none : NoLifts begins.rest =
    none_after start front begins.rest passed.step (follow_back start [] front begins.rest (subst (IsGlobalHistory start) begins.is legal)) there passed.passes in
    stood_front start front begins.rest base none (subst (λ (zs : List Step). StoodAt start zs base) begins.is stood)

-- and so has what comes before a step that is no lift
pub stood_before : (start : Start) (front : List Step) (s : Step) (base : ℕ → ℤ) → is_lift s.why ≡ false → StoodAt start (front ++ s ∷ []) base → StoodAt start front base
stood_before start front s base other stood =
    stood_front start front (s ∷ []) base (All-cons (λ (t : Step). is_lift t.why ≡ false) s [] other (All-nil (λ (t : Step). is_lift t.why ≡ false))) stood
