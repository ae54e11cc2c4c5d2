-- A text that is taken piece by piece is taken.
use Rattle.std.proofs.Common.{◌≡◌, ℕ, ◌+◌, Bool, true, false, List, [], ◌++◌, length, take, drop, Option, Some, None, ◌⊎◌, inl, inr, Result, Ok, Err, OnOk, OnErr, refl, sym, ◌∙◌, ap, arith, append_assoc, append-nil}
use Rattle.std.proofs.Math.Seq.{take-append_seam, take-append-add}
use Rattle.std.proofs.lemmas.List.{take-append-drop}
use Rattle.clk_base.specs.Causes.{Grew, GrewByPrefix, HasCause}
use Rattle.clk_trace.specs.Taking.{Progress, Passes, Cuts, Takes}

true_or_false : (b : Bool) → (b ≡ true) ⊎ (b ≡ false)
true_or_false true = inl refl
true_or_false false = inr refl

-- a sink that took nothing, and one that took two texts
pub grew_none : (a : Option (List ℕ)) → Grew a a []
grew_none None = tt
grew_none (Some xs) = sym (append-nil xs)

pub grew_more : (a b c : Option (List ℕ)) (x y : List ℕ) → Grew a b x → Grew b c y → Grew a c (x ++ y)
grew_more a b None x y p q = tt
grew_more a None (Some zs) x y p q = absurd q
grew_more None (Some ys) (Some zs) x y p q = absurd p
grew_more (Some xs) (Some ys) (Some zs) x y p q = q ∙ ap (λ v. v ++ y) p ∙ append_assoc xs x y

-- a beginning of a text is a beginning of a longer one
pub prefix_longer : (a b : Option (List ℕ)) (xs ys : List ℕ) → GrewByPrefix a b xs → GrewByPrefix a b (xs ++ ys)
prefix_longer a b xs ys p =
    let e : take (length (take p.0 xs)) (xs ++ ys) ≡ take p.0 xs =
    ap (λ v. take (length (take p.0 xs)) (v ++ ys)) (sym (take-append-drop p.0 xs))
    ∙ ap (λ v. take (length (take p.0 xs)) v) (append_assoc (take p.0 xs) (drop p.0 xs) ys)
    ∙ take-append_seam (take p.0 xs) (drop p.0 xs ++ ys) in
    (length (take p.0 xs), rw e p.1)

-- nothing was taken yet
pub passes_none : (a : Option (List ℕ)) (text : List ℕ) → Passes a a text text
passes_none a text = record { front = []; grew = grew_none a; parts = refl }

-- more passes of what was left, with a text behind it
pub passes_more : (a b c : Option (List ℕ)) (bytes rest text end : List ℕ) → Passes a b bytes rest → Passes b c (rest ++ text) end → Passes a c (bytes ++ text) end
passes_more a b c bytes rest text end p q = record {
  front = p.front ++ q.front;
  grew = grew_more a b c p.front q.front p.grew q.grew;
  parts =
      ap (λ v. v ++ text) p.parts
      ∙ append_assoc p.front rest text
      ∙ ap (λ v. p.front ++ v) q.parts
      ∙ sym (append_assoc p.front q.front end);
}

-- a text behind what was left is left too
pub passes_before : (a b : Option (List ℕ)) (bytes rest text : List ℕ) → Passes a b bytes rest → Passes a b (bytes ++ text) (rest ++ text)
passes_before a b bytes rest text p = passes_more a b b bytes rest text (rest ++ text) p (passes_none b (rest ++ text))

-- some of what was left is taken
pub passes_some : (a b c : Option (List ℕ)) (bytes rest : List ℕ) (n : ℕ) → Passes a b bytes rest → Grew b c (take n rest) → Passes a c bytes (drop n rest)
passes_some a b c bytes rest n p g = record {
  front = p.front ++ take n rest;
  grew = grew_more a b c p.front (take n rest) p.grew g;
  parts =
      p.parts
      ∙ ap (λ v. p.front ++ v) (sym (take-append-drop n rest))
      ∙ sym (append_assoc p.front (take n rest) (drop n rest));
}

-- with nothing left, all was taken
pub passes_all : (a b : Option (List ℕ)) (bytes : List ℕ) → Passes a b bytes [] → Grew a b bytes
passes_all a b bytes p = rw (p.parts, append-nil) p.grew

-- a beginning of what was left is taken
pub passes_cut : (a b c : Option (List ℕ)) (bytes rest : List ℕ) → Passes a b bytes rest → GrewByPrefix b c rest → GrewByPrefix a c bytes
passes_cut a b c bytes rest p q =
    (length p.front + q.0, rw (p.parts, take-append-add p.front rest q.0) (grew_more a b c p.front (take q.0 rest) p.grew q.1))

-- no text
pub takes_none : (a : Progress) → Takes a a []
takes_none a = record {
  later = omega arith;
  rests = λ f. record { failed = f; written = refl; faults = refl };
  sound = λ f g. rw append-nil (passes_none a.written a.out.waiting);
  cut = λ f g. absurd (cc);
}

-- a write failed in the first of two texts or in the second
cut_more : (a b c : Progress) (t u : List ℕ) → Takes a b t → Takes b c u → a.out.failed ≡ false → c.out.failed ≡ true → Cuts a c (a.out.waiting ++ (t ++ u))
cut_more a b c t u p q f g =
    elim (true_or_false b.out.failed) [
      | inl e ↦
          let r = q.rests e in
          let k = p.cut f e in
          rw (← append_assoc) record {
            grew = prefix_longer a.written c.written (a.out.waiting ++ t) u (rw r.written k.grew);
            rose = omega (arith, k.rose, r.faults);
          }
      | inr e ↦
          let k = q.cut e g in
          let w = p.sound f e in
          rw (← append_assoc) record {
            grew = passes_cut a.written b.written c.written (a.out.waiting ++ t ++ u) (b.out.waiting ++ u) (passes_before a.written b.written (a.out.waiting ++ t) b.out.waiting u w) k.grew;
            rose = omega (arith, k.rose, p.later);
          }
    ]

-- one text and then another
pub takes_more : (a b c : Progress) (t u : List ℕ) → Takes a b t → Takes b c u → Takes a c (t ++ u)
takes_more a b c t u p q = record {
  later = omega (arith, p.later, q.later);
  rests = λ f.
      let r = p.rests f in
      let s = q.rests r.failed in
      record { failed = s.failed; written = s.written ∙ r.written; faults = s.faults ∙ r.faults };
  sound = λ f g.
      elim (true_or_false b.out.failed) [
        | inl e ↦ let r = q.rests e in absurd (cc)
        | inr e ↦
            rw (← append_assoc)
            (passes_more a.written b.written c.written (a.out.waiting ++ t) b.out.waiting u c.out.waiting (p.sound f e) (q.sound e g))
      ];
  cut = cut_more a b c t u p q;
}

-- a text is put behind what waits
pub takes_kept : (a b : Progress) (text : List ℕ) → b.written ≡ a.written → b.faults ≡ a.faults → b.out.failed ≡ a.out.failed → b.out.waiting ≡ a.out.waiting ++ text → Takes a b text
takes_kept a b text w n f o = record {
  later = omega arith;
  rests = λ g. record { failed = f ∙ g; written = w; faults = n };
  sound = λ g h. rw (w, o) (passes_none a.written (a.out.waiting ++ text));
  cut = λ g h. absurd (cc);
}

-- a whole text from an empty buffer to an empty one, or a write that failed
pub takes_all : {E : Type 0} (a b : Progress) (text : List ℕ) (r : Result (Unit {0}) E) → a.out ≡ record { waiting = []; failed = false } → Takes a b text
    → OnOk r (b.out ≡ record { waiting = []; failed = false }) → OnErr r (b.out.failed ≡ true)
    → OnOk r (Grew a.written b.written text) × OnErr r (GrewByPrefix a.written b.written text) × HasCause a.faults b.faults r
takes_all a b text (Ok x) o t e f =
    let w : a.out.waiting ≡ [] = ap (λ v. v.waiting) o in
    let p = t.sound (ap (λ v. v.failed) o) (ap (λ v. v.failed) e) in
    let q = rw (ap (λ v. v.waiting) e, w) at p in
    (passes_all a.written b.written text q, tt, record { later = t.later; failed = tt })
takes_all a b text (Err x) o t e f =
    let w : a.out.waiting ≡ [] = ap (λ v. v.waiting) o in
    let k = rw w at (t.cut (ap (λ v. v.failed) o) f) in
    (tt, k.grew, record { later = t.later; failed = k.rose })
