-- Whose turn it is: an owner stores a GTOD and then a raw value, and its loads change nothing in what it knows of them.
use Rattle.std.proofs.Common.{◌≡◌, ◌≢◌, ℕ, ◌+◌, ◌*◌, ℤ, Bool, true, List, [], ◌∷◌, ◌++◌, length, refl, sym, ap, ◌∙◌, subst, arith, append-nil, length-append}
use mathlib.Core.Logic.{dite}
use native.Mathlib.Decide.{ℕ_discrete}
use Rattle.clk_words.specs.declared.view.View.{View}
use Rattle.clk_words.specs.declared.view.Part.{Part}
use Rattle.clk_words.specs.declared.view.Name.{Name}
use Rattle.clk_words.specs.declared.view.Name.TheVariants.{Gtod, Raw}
use Rattle.clk_words.specs.Kinds.{cpu_of}
use Rattle.clk_words.specs.Parts.{gtod_of, raw_of, part_of, put_part}
use Rattle.clk_words.specs.Knowing.{IsOwner, StampsAreWhole, StampsAreHalf}
use Rattle.clk_words.specs.Told.{Finds, FindsGtod, FindsRaw, stamped}
use Rattle.clk_words.proofs.Registers.{put_here, put_else}

-- a load that adds nothing leaves every list
known_kept : (v w : View) (r : ℕ) (name : Name) (x : ℤ) (f : Finds v r name x w) → f.more ≡ [] → (k : ℕ) → (part_of w.pairs.parts k).after ≡ (part_of v.pairs.parts k).after
known_kept v w r name x f none k =
    let p = part_of v.pairs.parts r in
    subst (λ (u : View). (part_of u.pairs.parts k).after ≡ (part_of v.pairs.parts k).after) (sym f.view_is)
    (dite (ℕ_discrete k r)
    (λ e. subst (λ i. (part_of (put_part v.pairs.parts r (record { zero = Rattle.std.proofs.Common.Some f.stamp; after = p.after ++ f.more })) i).after ≡ (part_of v.pairs.parts i).after) (sym e)
    (rw (put_here v.pairs.parts r (record { zero = Rattle.std.proofs.Common.Some f.stamp; after = p.after ++ f.more })) (ap (λ zs. p.after ++ zs) none ∙ append-nil p.after)))
    (λ ne. rw (put_else v.pairs.parts r k (record { zero = Rattle.std.proofs.Common.Some f.stamp; after = p.after ++ f.more }) ne) refl))

whole_kept : (v w : View) (r : ℕ) (name : Name) (x : ℤ) (f : Finds v r name x w) → f.more ≡ [] → StampsAreWhole v → StampsAreWhole w
whole_kept v w r name x f none whole =
    let kind = ap (λ (u : View). cpu_of u.kind) f.view_is in
    let cpu = cpu_of v.kind in
    subst (λ c. length (part_of w.pairs.parts (gtod_of c)).after ≡ length (part_of w.pairs.parts (raw_of c)).after) (sym kind)
    (ap length (known_kept v w r name x f none (gtod_of cpu)) ∙ whole ∙ sym (ap length (known_kept v w r name x f none (raw_of cpu))))

-- an owner's loads
pub whole_gtod : (v w : View) (x : ℤ) → FindsGtod v (cpu_of v.kind) x w → IsOwner v → StampsAreWhole v → StampsAreWhole w
whole_gtod v w x told own whole = whole_kept v w (gtod_of (cpu_of v.kind)) (Gtod (cpu_of v.kind)) x told.finds (told.whole own) whole

pub whole_raw : (v w : View) (x : ℤ) → FindsRaw v (cpu_of v.kind) x w → IsOwner v → StampsAreWhole v → StampsAreWhole w
whole_raw v w x told own whole = whole_kept v w (raw_of (cpu_of v.kind)) (Raw (cpu_of v.kind)) x told.finds (told.whole own) whole

pub owner_gtod : (v w : View) (x : ℤ) → FindsGtod v (cpu_of v.kind) x w → IsOwner v → IsOwner w
owner_gtod v w x told own = subst IsOwner (sym told.finds.view_is) own

pub owner_raw : (v w : View) (x : ℤ) → FindsRaw v (cpu_of v.kind) x w → IsOwner v → IsOwner w
owner_raw v w x told own = subst IsOwner (sym told.finds.view_is) own

-- the two stores of a stamp
grown : (v : View) (r k : ℕ) (x : ℤ) → k ≡ r → length (part_of (stamped r x v).pairs.parts k).after ≡ length (part_of v.pairs.parts k).after + 1
grown v r k x e =
    let p = part_of v.pairs.parts r in
    let n : Part = record { zero = p.zero; after = p.after ++ x ∷ [] } in
    subst (λ i. length (part_of (put_part v.pairs.parts r n) i).after ≡ length (part_of v.pairs.parts i).after + 1) (sym e)
    (rw (put_here v.pairs.parts r n) (length-append p.after (x ∷ [])))

left : (v : View) (r k : ℕ) (x : ℤ) → k ≢ r → length (part_of (stamped r x v).pairs.parts k).after ≡ length (part_of v.pairs.parts k).after
left v r k x ne =
    let p = part_of v.pairs.parts r in
    let n : Part = record { zero = p.zero; after = p.after ++ x ∷ [] } in
    rw (put_else v.pairs.parts r k n ne) refl

pub half_stamped : (v w : View) (x : ℤ) → w ≡ stamped (gtod_of (cpu_of v.kind)) x v → StampsAreWhole v → StampsAreHalf w
half_stamped v w x is whole = subst StampsAreHalf (sym is)
    (let c = cpu_of v.kind in
    let one = grown v (gtod_of c) (gtod_of c) x refl in
    let two = left v (gtod_of c) (raw_of c) x (λ e. omega arith) in
    omega arith)

pub whole_stamped : (v w : View) (x : ℤ) → w ≡ stamped (raw_of (cpu_of v.kind)) x v → StampsAreHalf v → StampsAreWhole w
whole_stamped v w x is half = subst StampsAreWhole (sym is)
    (let c = cpu_of v.kind in
    let one = grown v (raw_of c) (raw_of c) x refl in
    let two = left v (raw_of c) (gtod_of c) x (λ e. omega arith) in
    omega arith)
