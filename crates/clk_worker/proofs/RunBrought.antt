-- Each value that a word held is its opening or was put there, and some word got it by a step that is no coupling.
use Rattle.std.proofs.Common.{◌≡◌, ℕ, ℤ, pos, ◌<ℤ◌, inl, inr, Bool, true, false, not, ◌&&◌, cond, List, [], ◌∷◌, ◌++◌, map, filter, Contains, refl, ap, ◌∙◌, sym, subst, arith, append_assoc, append-nil, eq-eqb, nat_eq}
use Rattle.std.specs.List.{All}
use Rattle.std.specs.Ordering.{int_eq}
use Rattle.std.proofs.lemmas.Int.{ints}
use Rattle.std.proofs.lemmas.Bool.Decides.{Decides-int_eq}
use Rattle.std.proofs.lemmas.List.{map-append}
use Rattle.std.proofs.lemmas.List.Elements.{All-nil, All-cons, All-append, All-contains, All-weaker, filter-append, Contains-append_left, Contains-append_right, Contains-push}
use Rattle.clk_num.specs.Wrapping.{above, IsAbove}
use Rattle.clk_num.proofs.Heights.{above_same, raise_is}
use Rattle.clk_record.specs.declared.step.Step.{Step}
use Rattle.clk_record.specs.declared.step.Why.{Why}
use Rattle.clk_record.specs.declared.step.Why.TheVariants.{Raise, Couple, Lift}
use Rattle.clk_record.specs.Targets.{target}
use Rattle.clk_words.specs.declared.opening.Start.{Start}
use Rattle.clk_words.specs.Histories.{opens_at, steps_on, HadValue, NamesHeld, Follows, AllFollow, IsGlobalHistory}
use Rattle.clk_words.specs.Laws.{WasPut}
use Rattle.clk_words.proofs.Holding.{held_put}
use Rattle.clk_words.proofs.Replay.{had_here}
use Rattle.clk_lawful.specs.LegalHistory.{is_coupling}

-- what the word w got, and what any word got by another step than a coupling, and the opening
abbrev pub held_in : ℤ → List Step → ℕ → List ℤ
held_in opening steps w = opening ∷ map (λ s. s.new) (steps_on w steps)

abbrev pub brings_step : Step → Bool
brings_step s = not (is_coupling s.why) && not (int_eq s.old s.new)

abbrev pub brought_in : ℤ → List Step → List ℤ
brought_in opening steps = opening ∷ map (λ s. s.new) (filter brings_step steps)

-- ---- held

put_there : (w : ℕ) (step : Step) (back : List Step) → step.word ≡ w → Contains (map (λ s. s.new) (steps_on w (step ∷ back))) step.new
put_there w step back e = let same = eq-eqb step.word w e in rw same (0, omega arith, refl)

pub held_here : (start : Start) (history : List Step) (w : ℕ) (x : ℤ) → HadValue start history w x → Contains (held_in (opens_at start) history w) x
held_here start history w x had =
    elim (held_put start history w x had) [
      | inl e ↦ (0, omega arith, sym e)
      | inr p ↦ put p
    ]
  where
    put : WasPut history w x → Contains (held_in (opens_at start) history w) x
    put p =
        let news : List ℤ = map (λ (s : Step). s.new) (steps_on w p.front) in
        let parts : map (λ (s : Step). s.new) (steps_on w (p.front ++ p.step ∷ p.back)) ≡ news ++ map (λ s. s.new) (steps_on w (p.step ∷ p.back)) =
        ap (map (λ (s : Step). s.new)) (filter-append (λ (s : Step). nat_eq s.word w) p.front (p.step ∷ p.back)) ∙ map-append (λ (s : Step). s.new) (steps_on w p.front) (steps_on w (p.step ∷ p.back)) in
        let there : Contains (news ++ map (λ s. s.new) (steps_on w (p.step ∷ p.back))) p.step.new =
        Contains-append_right news _ p.step.new (put_there w p.step p.back p.word_is) in
        subst (Contains (held_in (opens_at start) history w)) p.new_is
        (subst (λ (ss : List Step). Contains (held_in (opens_at start) ss w) p.step.new) (sym p.history_is)
        (Contains-append_right (opens_at start ∷ []) _ p.step.new (subst (λ xs. Contains xs p.step.new) (sym parts) there)))

-- ---- brought

abbrev AllBrought : ℤ → List Step → List Step → Type 0
AllBrought opening history steps = All (λ s. Contains (brought_in opening history) s.new) steps

brought_append : (opening : ℤ) (before more : List Step) → brought_in opening (before ++ more) ≡ brought_in opening before ++ map (λ s. s.new) (filter brings_step more)
brought_append opening before more =
    ap (λ ss. opening ∷ map (λ (s : Step). s.new) ss) (filter-append brings_step before more)
    ∙ ap (λ xs. opening ∷ xs) (map-append (λ (s : Step). s.new) (filter brings_step before) (filter brings_step more))

brought_later : (opening : ℤ) (before more : List Step) (x : ℤ) → Contains (brought_in opening before) x → Contains (brought_in opening (before ++ more)) x
brought_later opening before more x h = subst (λ xs. Contains xs x) (sym (brought_append opening before more)) (Contains-append_left (brought_in opening before) _ x h)

brought_here : (opening : ℤ) (before : List Step) (s : Step) → brings_step s ≡ true → Contains (brought_in opening (before ++ s ∷ [])) s.new
brought_here opening before s brings =
    let last : map (λ (t : Step). t.new) (filter brings_step (s ∷ [])) ≡ s.new ∷ [] = ap (λ (b : Bool). map (λ (t : Step). t.new) (cond b (s ∷ []) [])) brings in
    subst (λ xs. Contains xs s.new) (sym (brought_append opening before (s ∷ []) ∙ ap (λ xs. brought_in opening before ++ xs) last))
    (Contains-push (brought_in opening before) s.new)

-- a value that a word held was brought, where what was put there was
held_was_brought : (start : Start) (history : List Step) (w : ℕ) (x : ℤ) → AllBrought (opens_at start) history history → HadValue start history w x
    → Contains (brought_in (opens_at start) history) x
held_was_brought start history w x all had =
    elim (held_put start history w x had) [
      | inl e ↦ (0, omega arith, sym e)
      | inr p ↦ put p
    ]
  where
    put : WasPut history w x → Contains (brought_in (opens_at start) history) x
    put p =
        let there : Contains history p.step =
        subst (λ ss. Contains ss p.step) (sym p.history_is) (Contains-append_right p.front (p.step ∷ p.back) p.step (0, omega arith, refl)) in
        subst (Contains (brought_in (opens_at start) history)) p.new_is
        (All-contains (λ (s : Step). Contains (brought_in (opens_at start) history) s.new) history p.step all there)

-- a step that raised its word brings, where it is no coupling
raised_differ : (old new : ℤ) (t : Bool) → int_eq old new ≡ t → IsAbove new old → t ≡ false
raised_differ old new true e up =
    let same : old ≡ new = (Decides-int_eq old new).0 e in
    let none : above old old ≡ pos 0 = above_same old in
    let high : pos 0 <ℤ above old old = subst (λ x. IsAbove x old) (sym same) up in
    absurd (omega (arith, ints, none, high))
raised_differ old new false e up = refl

brings_up : (s : Step) → is_coupling s.why ≡ false → IsAbove s.new s.old → brings_step s ≡ true
brings_up s kind up = let differ = raised_differ s.old s.new (int_eq s.old s.new) refl up in rw (kind, differ) refl

step_brought : (start : Start) (before : List Step) (s : Step) → Follows start before s → AllBrought (opens_at start) before before
    → Contains (brought_in (opens_at start) (before ++ s ∷ [])) s.new
step_brought start before s f all =
    elim (raise_is s.old (target start.tick s.why)) [
      | inl up ↦ by_why s.why refl f.names (subst (λ x. IsAbove x s.old) (sym (f.new_is ∙ up.1)) up.0) (f.new_is ∙ up.1)
      | inr stays ↦ subst (Contains (brought_in o (before ++ s ∷ []))) (sym (f.new_is ∙ stays.1))
          (brought_later o before (s ∷ []) s.old (held_was_brought start before s.word s.old all (had_here start before s.word s.old (sym f.old_is))))
    ]
  where
    o : ℤ
    o = opens_at start

    by_why : (y : Why) → s.why ≡ y → NamesHeld start before y → IsAbove s.new s.old → s.new ≡ target start.tick y → Contains (brought_in o (before ++ s ∷ [])) s.new
    by_why (Raise raw tick_raw tick_gtod offset) e names up is = brought_here o before s (brings_up s (ap is_coupling e) up)
    by_why (Couple from value) e names up is =
        subst (Contains (brought_in o (before ++ s ∷ []))) (sym is) (brought_later o before (s ∷ []) value (held_was_brought start before from value all names))
    by_why (Lift value) e names up is = brought_here o before s (brings_up s (ap is_coupling e) up)

follow_brought : (start : Start) (before xs : List Step) → AllFollow start before xs → AllBrought (opens_at start) before before
    → AllBrought (opens_at start) (before ++ xs) (before ++ xs)
follow_brought start before [] follows all = subst (λ ss. AllBrought (opens_at start) ss ss) (sym (append-nil before)) all
follow_brought start before (s ∷ xs) follows all =
    let o = opens_at start in
    let Got : Step → Type 0 = λ t. Contains (brought_in o (before ++ s ∷ [])) t.new in
    let earlier : All Got before =
    All-weaker (λ (t : Step). Contains (brought_in o before) t.new) Got (λ t h. brought_later o before (s ∷ []) t.new h) before all in
    let here : All Got (s ∷ []) = All-cons Got s [] (step_brought start before s follows.0 all) (All-nil Got) in
    subst (λ ss. AllBrought o ss ss) (append_assoc before (s ∷ []) xs)
    (follow_brought start (before ++ s ∷ []) xs follows.1 (All-append Got before (s ∷ []) earlier here))

pub held_brought : (start : Start) (history : List Step) (w : ℕ) (x : ℤ) → IsGlobalHistory start history → HadValue start history w x
    → Contains (brought_in (opens_at start) history) x
held_brought start history w x legal had =
    held_was_brought start history w x (follow_brought start [] history legal (All-nil (λ (s : Step). Contains (brought_in (opens_at start) []) s.new))) had
