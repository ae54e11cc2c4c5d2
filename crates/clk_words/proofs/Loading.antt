-- What a seat has loaded it has loaded still, and what calls leave as it was: for callers.
use Rattle.std.proofs.Common.{◌≡◌, ℕ, ℤ, ◌⊎◌, Option, Some, None, inl, inr, ⊎_elim, [], ◌∷◌, ◌++◌, length, Contains, refl, sym, ap, ◌∙◌, subst, arith, length-append}
use Rattle.std.proofs.lemmas.List.{get_or_append_left}
use Rattle.std.proofs.Math.Seq.{get_or-append_seam}
use Rattle.clk_record.specs.declared.step.Step.{Step}
use Rattle.clk_record.specs.declared.step.Why.{Why}
use Rattle.clk_record.specs.declared.step.Why.TheVariants.{Raise, Couple, Lift}
use Rattle.clk_words.specs.declared.opening.Start.{Start}
use Rattle.clk_words.specs.declared.step.Put.{Put}
use Rattle.clk_words.specs.declared.step.Put.TheVariants.{Done, Lost}
use Rattle.clk_words.specs.declared.view.View.{View}
use Rattle.clk_words.specs.declared.view.Load.{Load}
use Rattle.clk_words.specs.declared.view.Name.{Name}
use Rattle.clk_words.specs.declared.view.Name.TheVariants.{Clock, Gtod, Raw, Offset}
use Rattle.clk_words.specs.Kinds.{cpu_of}
use Rattle.clk_words.specs.Histories.{opens_at}
use Rattle.clk_words.specs.Bounds.{IsRaw}
use Rattle.clk_words.specs.Parts.{gtod_of}
use Rattle.clk_words.specs.Knowing.{HasLoaded, IsTrusted, StampsAreWhole}
use Rattle.clk_words.specs.Told.{Looks, Makes, Loads, Finds, FindsGtod, FindsOffset, stamped}
use Rattle.clk_words.specs.Calls.{with_offset, KeepsSeat, OnDone, OnLost, Loses}

loaded_now : (v w : View) (name : Name) (x : ℤ) → w.loads ≡ v.loads ++ (record { of = name; value = x }) ∷ [] → HasLoaded w name x
loaded_now v w name x is =
    let l : Load = record { of = name; value = x } in
    subst (λ ls. Contains ls l) (sym is) (length v.loads, omega (arith, length-append v.loads (l ∷ [])), get_or-append_seam v.loads l [] l)

loaded_still : (v w : View) (name : Name) (x : ℤ) (more : Load) → w.loads ≡ v.loads ++ more ∷ [] → HasLoaded v name x → HasLoaded w name x
loaded_still v w name x more is has =
    let l : Load = record { of = name; value = x } in
    let low = has.1 in
    subst (λ ls. Contains ls l) (sym is)
    (has.0, omega (arith, length-append v.loads (more ∷ [])), get_or_append_left v.loads (more ∷ []) l has.0 low ∙ has.2)

-- a load of a clock word
pub loaded_clock : (v w : View) (word : ℕ) (x : ℤ) → Loads v word x w → HasLoaded w (Clock word) x
loaded_clock v w word x told = loaded_now v w (Clock word) x (ap (λ (u : View). u.loads) told.view_is)

pub still_clock : (v w : View) (word : ℕ) (y x : ℤ) (name : Name) → Loads v word y w → HasLoaded v name x → HasLoaded w name x
still_clock v w word y x name told has = loaded_still v w name x (record { of = Clock word; value = y }) (ap (λ (u : View). u.loads) told.view_is) has

pub kept_clock : (v w : View) (word : ℕ) (x : ℤ) → Loads v word x w → KeepsSeat v w
kept_clock v w word x told = subst (KeepsSeat v) (sym told.view_is) (record { start_is = refl; number_is = refl; kind_is = refl; made_is = refl; joined_is = refl; owns_is = refl; gives_is = refl; modes_is = refl; offset_is = inr refl })

-- a load of a stamp word
pub loaded_stamp : (v w : View) (r : ℕ) (name : Name) (x : ℤ) → Finds v r name x w → HasLoaded w name x
loaded_stamp v w r name x told = loaded_now v w name x (ap (λ (u : View). u.loads) told.view_is)

pub still_stamp : (v w : View) (r : ℕ) (other name : Name) (y x : ℤ) → Finds v r other y w → HasLoaded v name x → HasLoaded w name x
still_stamp v w r other name y x told has = loaded_still v w name x (record { of = other; value = y }) (ap (λ (u : View). u.loads) told.view_is) has

pub kept_stamp : (v w : View) (r : ℕ) (name : Name) (x : ℤ) → Finds v r name x w → KeepsSeat v w
kept_stamp v w r name x told = subst (KeepsSeat v) (sym told.view_is) (record { start_is = refl; number_is = refl; kind_is = refl; made_is = refl; joined_is = refl; owns_is = refl; gives_is = refl; modes_is = refl; offset_is = inr refl })

-- an exchange
pub kept_makes : (v w : View) (s : Step) → Makes v s w → KeepsSeat v w
kept_makes v w s told = subst (KeepsSeat v) (sym told.view_is) (record { start_is = refl; number_is = refl; kind_is = refl; made_is = refl; joined_is = refl; owns_is = refl; gives_is = refl; modes_is = refl; offset_is = inr refl })

pub kept_looks : (v w : View) → Looks v w → KeepsSeat v w
kept_looks v w told = subst (KeepsSeat v) (sym told.view_is) (record { start_is = refl; number_is = refl; kind_is = refl; made_is = refl; joined_is = refl; owns_is = refl; gives_is = refl; modes_is = refl; offset_is = inr refl })

pub still_looks : (v w : View) (name : Name) (x : ℤ) → Looks v w → HasLoaded v name x → HasLoaded w name x
still_looks v w name x told has = subst (λ (u : View). HasLoaded u name x) (sym told.view_is) has

-- an owner's store
pub kept_stamped : (v w : View) (r : ℕ) (x : ℤ) → w ≡ stamped r x v → KeepsSeat v w
kept_stamped v w r x is = subst (KeepsSeat v) (sym is) (record { start_is = refl; number_is = refl; kind_is = refl; made_is = refl; joined_is = refl; owns_is = refl; gives_is = refl; modes_is = refl; offset_is = inr refl })

-- one after the other
pub kept_both : (u v w : View) → KeepsSeat u v → KeepsSeat v w → KeepsSeat u w
kept_both u v w p q = record {
  start_is = q.start_is ∙ p.start_is;
  number_is = q.number_is ∙ p.number_is;
  kind_is = q.kind_is ∙ p.kind_is;
  made_is = q.made_is ∙ p.made_is;
  joined_is = q.joined_is ∙ p.joined_is;
  owns_is = q.owns_is ∙ p.owns_is;
  gives_is = q.gives_is ∙ p.gives_is;
  modes_is = q.modes_is ∙ ap (with_offset w.modes.offset) p.modes_is;
  offset_is = ⊎_elim (λ (e : u.modes.offset ≡ None). inl e)
      (λ (e : u.modes.offset ≡ v.modes.offset). ⊎_elim (λ (k : v.modes.offset ≡ None). inl (e ∙ k)) (λ (k : v.modes.offset ≡ w.modes.offset). inr (e ∙ k)) q.offset_is)
      p.offset_is;
}

-- a step may be made still
still_trusted : (v w : View) (why : Why) → KeepsSeat v w → ((name : Name) (x : ℤ) → HasLoaded v name x → HasLoaded w name x) → IsTrusted v why → IsTrusted w why
still_trusted v w (Raise raw tick_raw tick_gtod offset) kept more trusted =
    let kind = ap cpu_of kept.kind_is in (
      subst (λ (s : Start). IsRaw (opens_at s) raw) (sym kept.start_is) trusted.0,
      subst (λ k. HasLoaded w (Raw k) tick_raw) (sym kind) (more (Raw (cpu_of v.kind)) tick_raw trusted.1),
      subst (λ k. HasLoaded w (Gtod k) tick_gtod) (sym kind) (more (Gtod (cpu_of v.kind)) tick_gtod trusted.2),
      more Offset offset trusted.3,
    )
still_trusted v w (Couple from value) kept more trusted = more (Clock from) value trusted
still_trusted v w (Lift value) kept more trusted = absurd trusted

pub trusted_clock : (v w : View) (word : ℕ) (y : ℤ) (why : Why) → Loads v word y w → IsTrusted v why → IsTrusted w why
trusted_clock v w word y why told = still_trusted v w why (kept_clock v w word y told) (λ name x has. still_clock v w word y x name told has)

pub trusted_looks : (v w : View) (why : Why) → Looks v w → IsTrusted v why → IsTrusted w why
trusted_looks v w why told = still_trusted v w why (kept_looks v w told) (λ name x has. still_looks v w name x told has)

pub trusted_makes : (v w : View) (s : Step) (why : Why) → Makes v s w → IsTrusted v why → IsTrusted w why
trusted_makes v w s why told = still_trusted v w why (kept_makes v w s told) (λ name x has. subst (λ (u : View). HasLoaded u name x) (sym told.view_is) has)

-- a look at the mode, and a load of the offset
seen_kept : (v : View) (x : ℤ) (seen : Option ℤ) → ((y : ℤ) → seen ≡ Some y → x ≡ y) → (seen ≡ None) ⊎ (seen ≡ Some x)
seen_kept v x None same = inl refl
seen_kept v x (Some y) same = inr (ap Some (sym (same y refl)))

pub loaded_offset : (v w : View) (x : ℤ) → FindsOffset v x w → HasLoaded w Offset x
loaded_offset v w x told = loaded_now v w Offset x (ap (λ (u : View). u.loads) told.view_is)

pub still_offset : (v w : View) (name : Name) (y x : ℤ) → FindsOffset v y w → HasLoaded v name x → HasLoaded w name x
still_offset v w name y x told has = loaded_still v w name x (record { of = Offset; value = y }) (ap (λ (u : View). u.loads) told.view_is) has

pub kept_offset : (v w : View) (x : ℤ) → FindsOffset v x w → KeepsSeat v w
kept_offset v w x told = subst (KeepsSeat v) (sym told.view_is) (record {
  start_is = refl;
  number_is = refl;
  kind_is = refl;
  made_is = refl;
  joined_is = refl;
  owns_is = refl;
  gives_is = refl;
  modes_is = refl;
  offset_is = seen_kept v x v.modes.offset told.same;
})

-- the pair that was loaded, and the offset after it
pub trusted_pair : (v w : View) (raw tick_raw tick_gtod offset : ℤ) → IsRaw (opens_at w.start) raw → HasLoaded v (Raw (cpu_of v.kind)) tick_raw
    → HasLoaded v (Gtod (cpu_of v.kind)) tick_gtod → FindsOffset v offset w → IsTrusted w (Raise raw tick_raw tick_gtod offset)
trusted_pair v w raw tick_raw tick_gtod offset bound one two told =
    let kind = ap (λ (u : View). cpu_of u.kind) told.view_is in (
      bound,
      subst (λ k. HasLoaded w (Raw k) tick_raw) (sym kind) (still_offset v w (Raw (cpu_of v.kind)) offset tick_raw told one),
      subst (λ k. HasLoaded w (Gtod k) tick_gtod) (sym kind) (still_offset v w (Gtod (cpu_of v.kind)) offset tick_gtod told two),
      loaded_offset v w offset told,
    )

-- the half of a pair that was loaded, the other half after it, and the offset
pub trusted_half : (v u w : View) (raw tick_raw tick_gtod offset : ℤ) → IsRaw (opens_at w.start) raw → HasLoaded v (Raw (cpu_of v.kind)) tick_raw
    → FindsGtod v (cpu_of v.kind) tick_gtod u → FindsOffset u offset w → IsTrusted w (Raise raw tick_raw tick_gtod offset)
trusted_half v u w raw tick_raw tick_gtod offset bound one two told =
    let second = kept_stamp v u (gtod_of (cpu_of v.kind)) (Gtod (cpu_of v.kind)) tick_gtod two.finds in
    let kind = ap cpu_of second.kind_is in
    trusted_pair u w raw tick_raw tick_gtod offset bound
    (subst (λ k. HasLoaded u (Raw k) tick_raw) (sym kind) (still_stamp v u (gtod_of (cpu_of v.kind)) (Gtod (cpu_of v.kind)) (Raw (cpu_of v.kind)) tick_gtod tick_raw two.finds one))
    (subst (λ k. HasLoaded u (Gtod k) tick_gtod) (sym kind) (loaded_stamp v u (gtod_of (cpu_of v.kind)) (Gtod (cpu_of v.kind)) tick_gtod two.finds))
    told

-- an exchange, however it ended
pub trusted_put : (r : Put) (v w : View) (why : Why) (said : Step) (word : ℕ) (old : ℤ) → OnDone r (λ s. (s ≡ said) × Makes v s w) → OnLost r (λ found. Loses v word old found w)
    → IsTrusted v why → IsTrusted w why
trusted_put (Done s) v w why said word old done lost = trusted_makes v w s why done.1
trusted_put (Lost found) v w why said word old done lost = trusted_looks v w why lost.looks

-- whose turn it is stays so
pub whole_clock : (v w : View) (word : ℕ) (x : ℤ) → Loads v word x w → StampsAreWhole v → StampsAreWhole w
whole_clock v w word x told whole = subst StampsAreWhole (sym told.view_is) whole

pub whole_offset : (v w : View) (x : ℤ) → FindsOffset v x w → StampsAreWhole v → StampsAreWhole w
whole_offset v w x told whole = subst StampsAreWhole (sym told.view_is) whole
