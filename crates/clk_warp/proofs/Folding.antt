-- One more section, in each definition over the whole list, and the beginnings of a list.
use Rattle.std.proofs.Common.{◌≡◌, ℕ, zero, suc, ◌<◌, false, cond, List, [], ◌∷◌, ◌++◌, length, append_assoc, append-nil, refl, sym, ap, ◌∙◌, arith}
use Rattle.std.proofs.lemmas.List.Elements.{filter-append}
use mathlib.Core.Option.{some, some-ne-none}
use mathlib.Core.List.{IsPrefix}
use lib.ListN.{get_elem?}
use Rattle.clk_record.specs.declared.warp.Side.{Side}
use Rattle.clk_warp.specs.declared.section.Section.{Section}
use Rattle.clk_warp.specs.Run.{Run, change, IsSection, is_of}
use Rattle.clk_warp.specs.Sections.{after, AreSections, sections_of}

pub after_push : (s : Run) (es : List Section) (e : Section) → after s (es ++ e ∷ []) ≡ change (after s es) e
after_push s [] e = refl
after_push s (d ∷ es) e = after_push (change s d) es e

pub after_append : (s : Run) (es ds : List Section) → after s (es ++ ds) ≡ after (after s es) ds
after_append s [] ds = refl
after_append s (e ∷ es) ds = after_append (change s e) es ds

pub legal_push : (s : Run) (es : List Section) (e : Section) → AreSections s es → IsSection (after s es) e → AreSections s (es ++ e ∷ [])
legal_push s [] e legal fits = (fits, tt)
legal_push s (d ∷ es) e legal fits = (legal.0, legal_push (change s d) es e legal.1 fits)

pub legal_front : (s : Run) (es ds : List Section) → AreSections s (es ++ ds) → AreSections s es
legal_front s [] ds legal = tt
legal_front s (e ∷ es) ds legal = (legal.0, legal_front (change s e) es ds legal.1)

pub legal_rest : (s : Run) (es ds : List Section) → AreSections s (es ++ ds) → AreSections (after s es) ds
legal_rest s [] ds legal = legal
legal_rest s (e ∷ es) ds legal = legal_rest (change s e) es ds legal.1

pub sections_push : (side : Side) (es : List Section) (e : Section) → sections_of side (es ++ e ∷ []) ≡ sections_of side es ++ cond (is_of side e) (e ∷ []) []
sections_push side es e = filter-append (is_of side) es (e ∷ [])

-- both lists grow by one section
pub both_push : (side : Side) (es ds : List Section) (e : Section) → sections_of side es ≡ sections_of side ds → sections_of side (es ++ e ∷ []) ≡ sections_of side (ds ++ e ∷ [])
both_push side es ds e same = sections_push side es e ∙ ap (λ xs. xs ++ cond (is_of side e) (e ∷ []) []) same ∙ sym (sections_push side ds e)

-- one that is not of the side
pub theirs_push : (side : Side) (es : List Section) (e : Section) → is_of side e ≡ false → sections_of side (es ++ e ∷ []) ≡ sections_of side es
theirs_push side es e other = sections_push side es e ∙ rw other (append-nil (sections_of side es))

module _ {A : Type 0} where
  pub prefix_self : (xs : List A) → IsPrefix xs xs
  prefix_self xs = ([], append-nil xs)

  pub prefix_push : (xs ys : List A) (y : A) → IsPrefix xs ys → IsPrefix xs (ys ++ y ∷ [])
  prefix_push xs ys y p = (p.0 ++ y ∷ [], sym (append_assoc xs p.0 (y ∷ [])) ∙ ap (λ zs. zs ++ y ∷ []) p.1)

  pub prefix_trans : (xs ys zs : List A) → IsPrefix xs ys → IsPrefix ys zs → IsPrefix xs zs
  prefix_trans xs ys zs p q = (p.0 ++ q.0, sym (append_assoc xs p.0 q.0) ∙ (ap (λ w. w ++ q.0) p.1 ∙ q.1))

  pub at_below : (xs : List A) (j : ℕ) (x : A) → get_elem? xs j ≡ some x → j < length xs
  at_below [] j x e = absurd (some-ne-none x (sym e))
  at_below (y ∷ xs) zero x e = omega arith
  at_below (y ∷ xs) (suc j) x e = omega (arith, at_below xs j x e)
