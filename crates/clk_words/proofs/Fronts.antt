-- Beginnings of lists.
use Rattle.std.proofs.Common.{◌≡◌, ◌≤◌, List, [], ◌∷◌, ◌++◌, length, refl, sym, ap, ◌∙◌, subst, arith, append_assoc, append-nil, length-append}
use Rattle.clk_words.specs.Fronts.{Begins}

module _ {A : Type 0} where
  -- each list begins with itself
  pub begins_self : (xs : List A) → Begins xs xs
  begins_self xs = record { rest = []; is = sym (append-nil xs) }

  -- a longer list begins with what a shorter one begins with
  pub begins_more : (xs ys more : List A) → Begins xs ys → Begins xs (ys ++ more)
  begins_more xs ys more b = record { rest = b.rest ++ more; is = ap (λ zs. zs ++ more) b.is ∙ append_assoc xs b.rest more }

  pub begins_through : (xs ys zs : List A) → Begins xs ys → Begins ys zs → Begins xs zs
  begins_through xs ys zs p q = subst (Begins xs) (sym q.is) (begins_more xs ys q.rest p)

  pub begins_length : (xs ys : List A) → Begins xs ys → length xs ≤ length ys
  begins_length xs ys b = omega (arith, ap length b.is, length-append xs b.rest)

  -- of two beginnings of one list the shorter begins the longer
  pub begins_shorter : (xs ys zs : List A) → Begins xs zs → Begins ys zs → length xs ≤ length ys → Begins xs ys
  begins_shorter [] ys zs p q le = record { rest = ys; is = refl }
  begins_shorter (x ∷ xs) [] zs p q le = absurd (omega arith)
  begins_shorter (x ∷ xs) (y ∷ ys) [] p q le = let e = p.is in absurd (cc)
  begins_shorter (x ∷ xs) (y ∷ ys) (z ∷ zs) p q le =
      let a = p.is in
      let b = q.is in
      let heads : x ≡ y = cc in
      let one : zs ≡ xs ++ p.rest = cc in
      let two : zs ≡ ys ++ q.rest = cc in
      let rest = begins_shorter xs ys zs (record { rest = p.rest; is = one }) (record { rest = q.rest; is = two }) (omega arith) in
      let tails = rest.is in
      record { rest = rest.rest; is = cc }

  -- a beginning as long as the whole is the whole
  pub begins_whole : (xs ys : List A) → Begins xs ys → length ys ≤ length xs → xs ≡ ys
  begins_whole [] [] b le = refl
  begins_whole [] (y ∷ ys) b le = absurd (omega arith)
  begins_whole (x ∷ xs) [] b le = let e = b.is in absurd (cc)
  begins_whole (x ∷ xs) (y ∷ ys) b le =
      let e = b.is in
      let tails : ys ≡ xs ++ b.rest = cc in
      let rest = begins_whole xs ys (record { rest = b.rest; is = tails }) (omega arith) in
      cc

  -- what is added to both sides begins, and what is left over is nothing
  pub begins_none : (xs rest : List A) → xs ++ rest ≡ xs → rest ≡ []
  begins_none [] rest e = e
  begins_none (x ∷ xs) rest e = begins_none xs rest (cc)
