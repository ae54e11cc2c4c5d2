-- The replay of a history on one word, and the steps of one seat.
use Rattle.std.proofs.Common.{◌≡◌, ◌≢◌, ℕ, ◌<◌, ℤ, ◌≤ℤ◌, Bool, cond, List, [], ◌∷◌, ◌++◌, nat_eq, All, refl, sym, ap, ◌∙◌, subst, arith, append_assoc, append-nil, eq-eqb, ne_eqb, ⊎_elim}
use Rattle.std.proofs.lemmas.Int.{ints}
use Rattle.std.proofs.lemmas.List.Elements.{filter-append, All-head, All-tail}
use mathlib.Core.Logic.{dite}
use native.Mathlib.Decide.{ℕ_discrete}
use Rattle.clk_num.specs.Range.{IsNear}
use Rattle.clk_num.specs.Wrapping.{above, raise, IsAbove, IsNotBelow}
use Rattle.clk_num.proofs.Wraps.{wrapped}
use Rattle.clk_num.proofs.Heights.{wrap_fits, above_is, above_same, raise_up}
use Rattle.clk_record.specs.declared.step.Step.{Step}
use Rattle.clk_record.specs.Targets.{target}
use Rattle.clk_words.specs.declared.opening.Opening.{Opening}
use Rattle.clk_words.specs.declared.opening.Start.{Start}
use Rattle.clk_words.specs.Fronts.{Begins}
use Rattle.clk_words.specs.Histories.{opens_at, value_after, HadValue, Follows, AllFollow, IsGlobalHistory, steps_by, steps_on, IsChain}
use Rattle.clk_words.specs.Heights.{height}
use Rattle.clk_words.specs.Bounds.{opens_of, IsOffset, IsOpening, IsClock}
use Rattle.clk_words.proofs.Fronts.{begins_none}

pub value_append : (x : ℤ) (w : ℕ) (xs ys : List Step) → value_after x w (xs ++ ys) ≡ value_after (value_after x w xs) w ys
value_append x w [] ys = refl
value_append x w (s ∷ xs) ys = value_append (cond (nat_eq s.word w) s.new x) w xs ys

-- after a step on the word it holds the step's new value; any other step leaves it
pub value_here : (x : ℤ) (w : ℕ) (xs : List Step) (s : Step) → s.word ≡ w → value_after x w (xs ++ s ∷ []) ≡ s.new
value_here x w xs s e = let t = eq-eqb s.word w e in value_append x w xs (s ∷ []) ∙ rw t refl

pub value_else : (x : ℤ) (w : ℕ) (xs : List Step) (s : Step) → s.word ≢ w → value_after x w (xs ++ s ∷ []) ≡ value_after x w xs
value_else x w xs s n = let t = ne_eqb s.word w n in value_append x w xs (s ∷ []) ∙ rw t refl

-- a history may go on
pub follow_append : (start : Start) (before xs ys : List Step) → AllFollow start before xs → AllFollow start (before ++ xs) ys → AllFollow start before (xs ++ ys)
follow_append start before [] ys p q = subst (λ zs. AllFollow start zs ys) (append-nil before) q
follow_append start before (s ∷ xs) ys p q =
    (p.0, follow_append start (before ++ s ∷ []) xs ys p.1 (subst (λ zs. AllFollow start zs ys) (sym (append_assoc before (s ∷ []) xs)) q))

pub follow_front : (start : Start) (before xs ys : List Step) → AllFollow start before (xs ++ ys) → AllFollow start before xs
follow_front start before [] ys p = tt
follow_front start before (s ∷ xs) ys p = (p.0, follow_front start (before ++ s ∷ []) xs ys p.1)

pub follow_back : (start : Start) (before xs ys : List Step) → AllFollow start before (xs ++ ys) → AllFollow start (before ++ xs) ys
follow_back start before [] ys p = subst (λ zs. AllFollow start zs ys) (sym (append-nil before)) p
follow_back start before (s ∷ xs) ys p =
    subst (λ zs. AllFollow start zs ys) (append_assoc before (s ∷ []) xs) (follow_back start (before ++ s ∷ []) xs ys p.1)

pub legal_more : (start : Start) (history : List Step) (s : Step) → IsGlobalHistory start history → Follows start history s → IsGlobalHistory start (history ++ s ∷ [])
legal_more start history s p f = follow_append start [] history (s ∷ []) p (f, tt)

-- what begins a legal history is legal
pub legal_front : (start : Start) (front history : List Step) → Begins front history → IsGlobalHistory start history → IsGlobalHistory start front
legal_front start front history b p = follow_front start [] front b.rest (subst (IsGlobalHistory start) b.is p)

-- a word only rises: heights of values in range compare as the values do
pub clock_near : (o x : ℤ) → IsClock o x → IsNear 61 (above x o)
clock_near o x p = let low = p.1 in let high = p.2 in (omega (arith, ints), omega (arith, ints))

pub not_below : (o x y : ℤ) → IsClock o x → IsClock o y → above x o ≤ℤ above y o → IsNotBelow y x
not_below o x y p q le = let far = above_is o y x (clock_near o y q) (clock_near o x p) in omega (arith, ints)

step_rises : (start : Start) (before : List Step) (s : Step) → Follows start before s → IsClock (opens_at start) s.old → height start s.old ≤ℤ height start s.new
step_rises start before s f was = ⊎_elim
    (λ (e : raise s.old (target start.tick s.why) ≡ s.old). let same = ap (height start) (f.new_is ∙ e) in omega (arith, ints))
    (λ (h : IsAbove (raise s.old (target start.tick s.why)) s.old).
    let up : IsAbove s.new s.old = subst (λ y. IsAbove y s.old) (sym f.new_is) h in
    let far = above_is (opens_at start) s.new s.old (clock_near (opens_at start) s.new f.range) (clock_near (opens_at start) s.old was) in
    omega (arith, ints))
    (raise_up s.old (target start.tick s.why))

-- all words are in range
abbrev pub AreClocks : Start → List Step → Type 0
AreClocks start history = (w : ℕ) → IsClock (opens_at start) (value_after (opens_at start) w history)

pub opening_range : (start : Start) → IsClock (opens_at start) (opens_at start)
opening_range start = let none = above_same (opens_at start) in (wrap_fits _, omega (arith, ints), omega (arith, ints))

pub range_more : (start : Start) (history : List Step) (s : Step) → IsClock (opens_at start) s.new → AreClocks start history → AreClocks start (history ++ s ∷ [])
range_more start history s new all w =
    dite (ℕ_discrete s.word w)
    (λ e. subst (IsClock (opens_at start)) (sym (value_here (opens_at start) w history s e)) new)
    (λ k. subst (IsClock (opens_at start)) (sym (value_else (opens_at start) w history s k)) (all w))

pub ranges : (start : Start) (before xs : List Step) → AllFollow start before xs → AreClocks start before → AreClocks start (before ++ xs)
ranges start before [] p all = subst (AreClocks start) (sym (append-nil before)) all
ranges start before (s ∷ xs) p all =
    subst (AreClocks start) (append_assoc before (s ∷ []) xs)
    (ranges start (before ++ s ∷ []) xs p.1 (range_more start before s p.0.range all))

pub legal_range : (start : Start) (history : List Step) → IsGlobalHistory start history → AreClocks start history
legal_range start history p = ranges start [] history p (λ w. opening_range start)

rises_here : (start : Start) (x : ℤ) (w : ℕ) (s : Step) → Dec (s.word ≡ w) → (s.word ≡ w → height start x ≤ℤ height start s.new)
    → height start x ≤ℤ height start (cond (nat_eq s.word w) s.new x)
rises_here start x w s (yes e) h = let t = eq-eqb s.word w e in rw t (h e)
rises_here start x w s (no n) h = let t = ne_eqb s.word w n in rw t (omega (arith, ints))

le_through : (x y z : ℤ) → x ≤ℤ y → y ≤ℤ z → x ≤ℤ z
le_through x y z p q = omega (arith, ints)

pub rises : (start : Start) (before xs : List Step) (w : ℕ) → AllFollow start before xs → AreClocks start before
    → height start (value_after (opens_at start) w before) ≤ℤ height start (value_after (opens_at start) w (before ++ xs))
rises start before [] w p all = subst (λ zs. height start (value_after (opens_at start) w before) ≤ℤ height start (value_after (opens_at start) w zs)) (sym (append-nil before)) (omega (arith, ints))
rises start before (s ∷ xs) w p all =
    let x = value_after (opens_at start) w before in
    let was : IsClock (opens_at start) s.old = subst (IsClock (opens_at start)) (sym p.0.old_is) (all s.word) in
    let up = step_rises start before s p.0 was in
    let one : height start x ≤ℤ height start (value_after (opens_at start) w (before ++ s ∷ [])) =
    subst (λ y. height start x ≤ℤ height start y) (sym (value_append (opens_at start) w before (s ∷ []))) (rises_here start x w s (ℕ_discrete s.word w)
    (λ e. let held = p.0.old_is in subst (λ y. height start y ≤ℤ height start s.new) (held ∙ ap (λ k. value_after (opens_at start) k before) e) up)) in
    let two = rises start (before ++ s ∷ []) xs w p.1 (range_more start before s p.0.range all) in
    le_through _ _ _ one
    (subst (λ zs. height start (value_after (opens_at start) w (before ++ s ∷ [])) ≤ℤ height start (value_after (opens_at start) w zs)) (append_assoc before (s ∷ []) xs) two)

-- moments of a history
pub had_here : (start : Start) (history : List Step) (w : ℕ) (x : ℤ) → value_after (opens_at start) w history ≡ x → HadValue start history w x
had_here start history w x e = record { front = history; back = []; history_is = sym (append-nil history); value_is = e }

pub had_more : (start : Start) (history more : List Step) (w : ℕ) (x : ℤ) → HadValue start history w x → HadValue start (history ++ more) w x
had_more start history more w x h = record {
  front = h.front;
  back = h.back ++ more;
  history_is = ap (λ zs. zs ++ more) h.history_is ∙ append_assoc h.front h.back more;
  value_is = h.value_is;
}

pub had_later : (start : Start) (front history : List Step) (w : ℕ) (x : ℤ) → Begins front history → HadValue start front w x → HadValue start history w x
had_later start front history w x b h = subst (λ zs. HadValue start zs w x) (sym b.is) (had_more start front b.rest w x h)

pub had_below : (start : Start) (history : List Step) (w : ℕ) (x : ℤ) → IsGlobalHistory start history → HadValue start history w x
    → height start x ≤ℤ height start (value_after (opens_at start) w history)
had_below start history w x legal h =
    let e = h.history_is in
    let whole = subst (IsGlobalHistory start) e legal in
    let p = follow_back start [] h.front h.back whole in
    let all = legal_range start h.front (follow_front start [] h.front h.back whole) in
    subst (λ y. height start y ≤ℤ height start (value_after (opens_at start) w history)) h.value_is
    (subst (λ zs. height start (value_after (opens_at start) w h.front) ≤ℤ height start (value_after (opens_at start) w zs)) (sym e) (rises start h.front h.back w p all))

-- the steps of one seat
pub by_append : (n : ℕ) (xs ys : List Step) → steps_by n (xs ++ ys) ≡ steps_by n xs ++ steps_by n ys
by_append n xs ys = filter-append (λ (s : Step). nat_eq s.by n) xs ys

pub by_here : (n : ℕ) (xs : List Step) (s : Step) → s.by ≡ n → steps_by n (xs ++ s ∷ []) ≡ steps_by n xs ++ s ∷ []
by_here n xs s e = let t = eq-eqb s.by n e in by_append n xs (s ∷ []) ∙ rw t refl

pub by_else : (n : ℕ) (xs : List Step) (s : Step) → s.by ≢ n → steps_by n (xs ++ s ∷ []) ≡ steps_by n xs
by_else n xs s k = let t = ne_eqb s.by n k in by_append n xs (s ∷ []) ∙ rw t (append-nil (steps_by n xs))

-- a seat whose number no step has made none
by_fresh_at : (n : ℕ) (s : Step) (xs : List Step) → s.by < n → steps_by n xs ≡ [] → steps_by n (s ∷ xs) ≡ []
by_fresh_at n s xs low e = let t = ne_eqb s.by n (λ h. omega arith) in rw t e

pub by_fresh : (n : ℕ) (xs : List Step) → All (λ s. s.by < n) xs → steps_by n xs ≡ []
by_fresh n [] h = refl
by_fresh n (s ∷ xs) h = by_fresh_at n s xs (All-head (λ (t : Step). t.by < n) s xs h) (by_fresh n xs (All-tail (λ (t : Step). t.by < n) s xs h))

-- of the steps of a history none is made after those of a beginning that has them all; so it is with any longer
-- beginning
pub by_between : (n : ℕ) (front whole history steps : List Step) → Begins front whole → Begins whole history
    → steps_by n front ≡ steps → steps_by n history ≡ steps → steps_by n whole ≡ steps
by_between n front whole history steps p q mine all =
    let e : steps_by n whole ≡ steps ++ steps_by n p.rest = ap (steps_by n) p.is ∙ by_append n front p.rest ∙ ap (λ zs. zs ++ steps_by n p.rest) mine in
    let f : steps_by n history ≡ (steps ++ steps_by n p.rest) ++ steps_by n q.rest = ap (steps_by n) q.is ∙ by_append n whole q.rest ∙ ap (λ zs. zs ++ steps_by n q.rest) e in
    let g : steps ++ (steps_by n p.rest ++ steps_by n q.rest) ≡ steps = sym (append_assoc steps (steps_by n p.rest) (steps_by n q.rest)) ∙ sym f ∙ all in
    let none = front_none (steps_by n p.rest) (steps_by n q.rest) (begins_none steps (steps_by n p.rest ++ steps_by n q.rest) g) in
    e ∙ ap (λ zs. steps ++ zs) none ∙ append-nil steps
  where
    front_none : (xs ys : List Step) → xs ++ ys ≡ [] → xs ≡ []
    front_none [] ys h = refl
    front_none (x ∷ xs) ys h = absurd (cc)

-- the steps on one word are a chain
on_chain : (start : Start) (before xs : List Step) (w : ℕ) → AllFollow start before xs → IsChain (value_after (opens_at start) w before) (steps_on w xs)
on_chain start before [] w p = tt
on_chain start before (s ∷ xs) w p =
    let rest = on_chain start (before ++ s ∷ []) xs w p.1 in
    let P : Bool → Type 0 = λ b. IsChain (value_after (opens_at start) w before) (cond b (s ∷ steps_on w xs) (steps_on w xs)) in
    dite (ℕ_discrete s.word w)
    (λ e. subst P (sym (eq-eqb s.word w e)) (p.0.old_is ∙ ap (λ k. value_after (opens_at start) k before) e, subst (λ y. IsChain y (steps_on w xs)) (value_here (opens_at start) w before s e) rest))
    (λ n. subst P (sym (ne_eqb s.word w n)) (subst (λ y. IsChain y (steps_on w xs)) (value_else (opens_at start) w before s n) rest))

pub is_chain : (start : Start) (history : List Step) (w : ℕ) → IsGlobalHistory start history → IsChain (opens_at start) (steps_on w history)
is_chain start history w p = on_chain start [] history w p

pub words_rise : (start : Start) (front back : List Step) (w : ℕ) → IsGlobalHistory start (front ++ back)
    → IsNotBelow (value_after (opens_at start) w (front ++ back)) (value_after (opens_at start) w front)
words_rise start front back w legal =
    let all = legal_range start front (follow_front start [] front back legal) in
    not_below (opens_at start) (value_after (opens_at start) w front) (value_after (opens_at start) w (front ++ back)) (all w) (legal_range start (front ++ back) legal w)
    (rises start front back w (follow_back start [] front back legal) all)

-- the offset of an opening is in range by itself
pub offset_range : (o : Opening) → IsOpening o → IsOffset (opens_of o) o.offset
offset_range o is = let low = is.gtod.0 in let high = is.gtod.1 in (omega (arith, ints, wrapped), omega (arith, ints, wrapped))
