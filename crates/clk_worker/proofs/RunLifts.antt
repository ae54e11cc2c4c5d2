-- The lifts of a watchdog, placed under its thread's number as a trace's steps are: what the fields of a lawful trace
-- ask of them.
use Rattle.std.proofs.Common.{◌≡◌, ℕ, ◌+◌, true, List, [], ◌∷◌, map, Contains, refl, ap, ◌∙◌, sym, subst}
use Rattle.std.specs.List.{All}
use Rattle.std.proofs.lemmas.List.Elements.{All-nil, All-cons, All-head, All-tail}
use Rattle.clk_num.specs.Wrapping.{raise}
use Rattle.clk_record.specs.declared.step.Step.{Step}
use Rattle.clk_record.specs.declared.step.Why.{Why}
use Rattle.clk_record.specs.declared.step.Why.TheVariants.{Raise, Couple, Lift}
use Rattle.clk_record.specs.Targets.{target}
use Rattle.clk_words.specs.declared.opening.Start.{Start}
use Rattle.clk_words.specs.Histories.{is_lift, NamesHeld, IsGlobalHistory}
use Rattle.clk_words.proofs.Holding.{each_follows}
use Rattle.clk_lawful.specs.LegalHistory.{ReachesTarget}
use Rattle.clk_lawful.specs.WordHistory.{placed_lift}
use Rattle.clk_worker.proofs.RunLifted.{IsLiftIn, stands}
use Rattle.clk_worker.proofs.RunNamed.{NamesIn}
use Rattle.clk_worker.proofs.RunSteps.{numbered}

-- by the number of the watchdog's seat, one higher than its thread's, they are the steps of the history
pub numbered_lifts : (thread : ℕ) (lifts : List Step) → All (λ s. s.by ≡ thread + 1) lifts → map numbered (map (placed_lift thread) lifts) ≡ lifts
numbered_lifts thread [] all = refl
numbered_lifts thread (s ∷ lifts) all =
    let by : s.by ≡ thread + 1 = All-head (λ (t : Step). t.by ≡ thread + 1) s lifts all in
    ap (λ n. (record s { by = n }) ∷ map numbered (map (placed_lift thread) lifts)) (sym by)
    ∙ ap (λ (ss : List Step). s ∷ ss) (numbered_lifts thread lifts (All-tail (λ (t : Step). t.by ≡ thread + 1) s lifts all))

-- each raises its word to its target, as any step of a history does
step_reaches : (start : Start) (history : List Step) (s : Step) → IsGlobalHistory start history → Contains history s → s.new ≡ raise s.old (target start.tick s.why)
step_reaches start history s legal there =
    let at = stands history s there in
    (each_follows start at.front at.back s (subst (IsGlobalHistory start) at.is legal)).new_is

pub lifts_reach : (start : Start) (history : List Step) (thread : ℕ) (lifts : List Step) → IsGlobalHistory start history → All (IsLiftIn history) lifts
    → All (ReachesTarget start.tick) (map (placed_lift thread) lifts)
lifts_reach start history thread [] legal all = All-nil (ReachesTarget start.tick)
lifts_reach start history thread (s ∷ lifts) legal all =
    All-cons (ReachesTarget start.tick) (placed_lift thread s) (map (placed_lift thread) lifts)
    (step_reaches start history s legal (All-head (IsLiftIn history) s lifts all).there)
    (lifts_reach start history thread lifts legal (All-tail (IsLiftIn history) s lifts all))

-- and none names a word
lift_names : (start : Start) (history : List Step) (why : Why) → is_lift why ≡ true → NamesHeld start history why
lift_names start history (Raise raw tick_raw tick_gtod offset) lifts = tt
lift_names start history (Couple from value) lifts = absurd (cc)
lift_names start history (Lift value) lifts = tt

pub lifts_name : (start : Start) (history : List Step) (thread : ℕ) (lifts : List Step) → All (IsLiftIn history) lifts
    → All (NamesIn start history) (map (placed_lift thread) lifts)
lifts_name start history thread [] all = All-nil (NamesIn start history)
lifts_name start history thread (s ∷ lifts) all =
    All-cons (NamesIn start history) (placed_lift thread s) (map (placed_lift thread) lifts)
    (lift_names start history s.why (All-head (IsLiftIn history) s lifts all).lifts)
    (lifts_name start history thread lifts (All-tail (IsLiftIn history) s lifts all))
