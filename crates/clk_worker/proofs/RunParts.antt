-- What a thread knows of the stamps and of the offset it knows to the end of a run: stamp 0 of a register and the
-- offset stay once they are known, and the list of the values after stamp 0 only grows.
use Rattle.std.proofs.Common.{◌≡◌, ◌≢◌, ℕ, ℤ, ◌⊎◌, inl, inr, List, [], ◌∷◌, ◌++◌, Option, Some, None, refl, ap, ◌∙◌, sym, subst}
use mathlib.Core.Logic.{dite}
use native.Mathlib.Decide.{ℕ_discrete}
use Rattle.clk_machine.specs.declared.reading.RawReading.{RawReading}
use Rattle.clk_record.specs.declared.step.Step.{Step}
use Rattle.clk_words.specs.declared.view.View.{View}
use Rattle.clk_words.specs.declared.view.PairView.{PairView}
use Rattle.clk_words.specs.declared.view.Name.{Name}
use Rattle.clk_words.specs.declared.view.Part.{Part}
use Rattle.clk_words.specs.Parts.{gtod_of, raw_of, part_of, put_part, PartBegins}
use Rattle.clk_words.specs.Told.{Finds, stamped}
use Rattle.clk_words.proofs.Fronts.{begins_self}
use Rattle.clk_words.proofs.Registers.{put_here, put_else, part_through}
use Rattle.clk_lawful.specs.declared.event.Event.{Event}
use Rattle.clk_lawful.specs.declared.event.EventKind.{EventKind}
use Rattle.clk_lawful.specs.declared.event.EventKind.TheVariants.{Stable, Local, Couple, Stamp, Nothing, Update, Pause}
use Rattle.clk_local.specs.Context.{Site, Known}
use Rattle.clk_local.specs.Shows.{ShowsRaised}
use Rattle.clk_worker.specs.Running.{Shows, ShowsLocal, HasLooked, Runs, at_call}

-- ---- what may be known

-- nothing else than x is known
abbrev pub MayHave : Option ℤ → ℤ → Type 0
MayHave o x = (o ≡ None) ⊎ (o ≡ Some x)

none_is_some : (x : ℤ) → {A : Type 0} → None ≡ Some x → A
none_is_some x e = absurd (cc)

some_is : (x y : ℤ) → Some x ≡ Some y → x ≡ y
some_is x y e = cc

-- and so what is known is x
pub may_be : (o : Option ℤ) (x y : ℤ) → o ≡ Some y → MayHave o x → y ≡ x
may_be o x y known (inl nothing) = none_is_some y (sym nothing ∙ known)
may_be o x y known (inr is) = some_is y x (sym known ∙ is)

-- ---- the parts

abbrev pub PartsBegin : List Part → List Part → Type 0
PartsBegin ps qs = (r : ℕ) → PartBegins (part_of ps r) (part_of qs r)

part_self : (p : Part) → PartBegins p p
part_self p = record { zero_is = inr refl; after = begins_self p.after }

parts_self : (ps qs : List Part) → qs ≡ ps → PartsBegin ps qs
parts_self ps qs same = subst (PartsBegin ps) (sym same) (λ r. part_self (part_of ps r))

pub parts_through : (ps qs rs : List Part) → PartsBegin ps qs → PartsBegin qs rs → PartsBegin ps rs
parts_through ps qs rs p q r = part_through (part_of ps r) (part_of qs r) (part_of rs r) (p r) (q r)

put_begins : (ps : List Part) (r : ℕ) (p : Part) → PartBegins (part_of ps r) p → PartsBegin ps (put_part ps r p)
put_begins ps r p b k =
    dite (ℕ_discrete k r)
    (λ e. subst (λ i. PartBegins (part_of ps i) (part_of (put_part ps r p) i)) (sym e) (subst (PartBegins (part_of ps r)) (sym (put_here ps r p)) b))
    (λ other. subst (PartBegins (part_of ps k)) (sym (put_else ps r k p other)) (part_self (part_of ps k)))

zero_begins : (o : Option ℤ) (stamp : ℤ) → ((z : ℤ) → o ≡ Some z → stamp ≡ z) → (o ≡ None) ⊎ (o ≡ Some stamp)
zero_begins None stamp same = inl refl
zero_begins (Some z) stamp same = inr (ap Some (sym (same z refl)))

pub finds_begin : (v w : View) (r : ℕ) (name : Name) (x : ℤ) → Finds v r name x w → PartsBegin v.pairs.parts w.pairs.parts
finds_begin v w r name x f =
    let p : Part = record { zero = Some f.stamp; after = (part_of v.pairs.parts r).after ++ f.more } in
    subst (λ (u : View). PartsBegin v.pairs.parts u.pairs.parts) (sym f.view_is)
    (put_begins v.pairs.parts r p
    (record { zero_is = zero_begins (part_of v.pairs.parts r).zero f.stamp f.same; after = record { rest = f.more; is = refl } }))

stamped_begin : (v : View) (r : ℕ) (x : ℤ) → PartsBegin v.pairs.parts (stamped r x v).pairs.parts
stamped_begin v r x =
    let p : Part = record { zero = (part_of v.pairs.parts r).zero; after = (part_of v.pairs.parts r).after ++ x ∷ [] } in
    put_begins v.pairs.parts r p (record { zero_is = inr refl; after = record { rest = x ∷ []; is = refl } })

-- the part of a register that was loaded, and that of another
pub finds_part : (v w : View) (r : ℕ) (name : Name) (x : ℤ) → (f : Finds v r name x w)
    → part_of w.pairs.parts r ≡ record { zero = Some f.stamp; after = (part_of v.pairs.parts r).after ++ f.more }
finds_part v w r name x f =
    ap (λ (u : View). part_of u.pairs.parts r) f.view_is
    ∙ put_here v.pairs.parts r (record { zero = Some f.stamp; after = (part_of v.pairs.parts r).after ++ f.more })

pub finds_other : (v w : View) (r k : ℕ) (name : Name) (x : ℤ) → Finds v r name x w → k ≢ r → part_of w.pairs.parts k ≡ part_of v.pairs.parts k
finds_other v w r k name x f other =
    ap (λ (u : View). part_of u.pairs.parts k) f.view_is
    ∙ put_else v.pairs.parts r k (record { zero = Some f.stamp; after = (part_of v.pairs.parts r).after ++ f.more }) other

-- a local reading and a stamp add to the parts
local_parts : (z : Site) (v w : Known) (raw : RawReading) (tick_raw tick_gtod offset old new : ℤ) → ShowsLocal z v raw tick_raw tick_gtod offset old new w
    → PartsBegin v.view.pairs.parts w.view.pairs.parts
local_parts z v w raw tick_raw tick_gtod offset old new h =
    let f = h.raised.finds in
    subst (λ (ps : PairView). PartsBegin v.view.pairs.parts ps.parts) (sym h.raised.pairs_is)
    (parts_through v.view.pairs.parts f.half.pairs.parts h.raised.pair.pairs.parts
    (finds_begin v.view f.half _ _ h.raised.tick_raw f.first.finds) (finds_begin f.half h.raised.pair _ _ h.raised.tick_gtod f.second.finds))

pub shows_parts : (z : Site) (v : Known) (k : EventKind) (w : Known) → Shows z v k w → PartsBegin v.view.pairs.parts w.view.pairs.parts
shows_parts z v (Stable raw value) w h = parts_self v.view.pairs.parts w.view.pairs.parts (ap (λ (x : View). x.pairs.parts) h.stable.view_is)
shows_parts z v (Local raw tick_raw tick_gtod offset old new) w h = local_parts z v w raw tick_raw tick_gtod offset old new h
shows_parts z v (Couple asked own other word old new) w h =
    parts_self v.view.pairs.parts w.view.pairs.parts (ap (λ (ps : PairView). ps.parts) h.coupled.pairs_is)
shows_parts z v (Stamp gtod_ticket gtod raw) w h =
    let half : View = stamped (gtod_of z.cpu) gtod v.view in
    subst (λ (x : View). PartsBegin v.view.pairs.parts x.pairs.parts) (sym h.stamps.view_is)
    (parts_through v.view.pairs.parts half.pairs.parts (stamped (raw_of z.cpu) raw.ns half).pairs.parts
    (stamped_begin v.view (gtod_of z.cpu) gtod) (stamped_begin half (raw_of z.cpu) raw.ns))
shows_parts z v Nothing w h = parts_self v.view.pairs.parts w.view.pairs.parts (ap (λ (x : Known). x.view.pairs.parts) h.same)
shows_parts z v (Update p) w h = parts_self v.view.pairs.parts w.view.pairs.parts (ap (λ (x : View). x.pairs.parts) h.view_is)
shows_parts z v (Pause ticket count) w h = parts_self v.view.pairs.parts w.view.pairs.parts (ap (λ (x : View). x.pairs.parts) h.view_is)

runs_parts : (z : Site) (v : Known) (es : List Event) (w : Known) → Runs z v es w → PartsBegin v.view.pairs.parts w.view.pairs.parts
runs_parts z v [] w r = parts_self v.view.pairs.parts w.view.pairs.parts (ap (λ (x : Known). x.view.pairs.parts) (sym r))
runs_parts z v (e ∷ es) w r =
    subst (λ (x : View). PartsBegin x.pairs.parts w.view.pairs.parts) r.2.view_is
    (parts_through r.0.view.pairs.parts r.1.view.pairs.parts w.view.pairs.parts (shows_parts (at_call z e.call) r.0 e.kind r.1 r.3) (runs_parts z r.1 es w r.4))

-- stamp 0 stays known
pub zero_stays : (p q : Part) (x : ℤ) → PartBegins p q → p.zero ≡ Some x → q.zero ≡ Some x
zero_stays p q x b known = by_zero b.zero_is
  where
    by_zero : (p.zero ≡ None) ⊎ (p.zero ≡ q.zero) → q.zero ≡ Some x
    by_zero (inl nothing) = none_is_some x (sym nothing ∙ known)
    by_zero (inr same) = sym same ∙ known

-- ---- the offset

-- a reading knows the offset that it goes by
raised_offset : (z : Site) (v w : Known) (raw : RawReading) (step : Step) → (h : ShowsRaised z v raw step w) → w.view.modes.offset ≡ Some h.offset
raised_offset z v w raw step h = ap (λ (x : View). x.modes.offset) h.raises.makes.view_is ∙ ap (λ (x : View). x.modes.offset) h.finds_offset.view_is

raised_same : (z : Site) (v w : Known) (raw : RawReading) (step : Step) (x : ℤ) → (h : ShowsRaised z v raw step w) → v.view.modes.offset ≡ Some x → h.offset ≡ x
raised_same z v w raw step x h known =
    h.finds_offset.same x
    (ap (λ (y : View). y.modes.offset) h.finds.second.finds.view_is ∙ ap (λ (y : View). y.modes.offset) h.finds.first.finds.view_is ∙ known)

shows_offset : (z : Site) (v : Known) (k : EventKind) (w : Known) (x : ℤ) → Shows z v k w → v.view.modes.offset ≡ Some x → w.view.modes.offset ≡ Some x
shows_offset z v (Stable raw value) w x h known = ap (λ (y : View). y.modes.offset) h.stable.view_is ∙ known
shows_offset z v (Local raw tick_raw tick_gtod offset old new) w x h known =
    raised_offset z v w raw h.step h.raised ∙ ap Some (raised_same z v w raw h.step x h.raised known)
shows_offset z v (Couple asked own other word old new) w x h known =
    ap (λ (y : View). y.modes.offset) h.coupled.raises.makes.view_is
    ∙ ap (λ (y : View). y.modes.offset) h.coupled.loads.second.view_is
    ∙ ap (λ (y : View). y.modes.offset) h.coupled.loads.first.view_is
    ∙ known
shows_offset z v (Stamp gtod_ticket gtod raw) w x h known = ap (λ (y : View). y.modes.offset) h.stamps.view_is ∙ known
shows_offset z v Nothing w x h known = ap (λ (y : Known). y.view.modes.offset) h.same ∙ known
shows_offset z v (Update p) w x h known = ap (λ (y : View). y.modes.offset) h.view_is ∙ known
shows_offset z v (Pause ticket count) w x h known = ap (λ (y : View). y.modes.offset) h.view_is ∙ known

looked_offset : (v w : Known) → HasLooked v w → w.view.modes.offset ≡ v.view.modes.offset
looked_offset v w h = ap (λ (y : View). y.modes.offset) h.view_is

runs_offset : (z : Site) (v : Known) (es : List Event) (w : Known) (x : ℤ) → Runs z v es w → v.view.modes.offset ≡ Some x → w.view.modes.offset ≡ Some x
runs_offset z v [] w x r known = ap (λ (y : Known). y.view.modes.offset) (sym r) ∙ known
runs_offset z v (e ∷ es) w x r known =
    runs_offset z r.1 es w x r.4 (shows_offset (at_call z e.call) r.0 e.kind r.1 x r.3 (looked_offset v r.0 r.2 ∙ known))

-- ---- both

-- what this view knows is known at the end
pub record Lasts (v end : View) : Type 0 where
  pub parts : PartsBegin v.pairs.parts end.pairs.parts
  pub offset : (x : ℤ) → v.modes.offset ≡ Some x → end.modes.offset ≡ Some x

pub runs_last : (z : Site) (v : Known) (es : List Event) (w : Known) → Runs z v es w → Lasts v.view w.view
runs_last z v es w r = record { parts = runs_parts z v es w r; offset = λ x known. runs_offset z v es w x r known }

-- stamp 0 of a register that was loaded, and the offset of a reading
pub stamp_lasts : (v w : View) (r : ℕ) (name : Name) (x stamp : ℤ) (end : List Part) → (f : Finds v r name x w) → PartsBegin w.pairs.parts end
    → MayHave (part_of end r).zero stamp → f.stamp ≡ stamp
stamp_lasts v w r name x stamp end f later may =
    may_be (part_of end r).zero stamp f.stamp
    (zero_stays (part_of w.pairs.parts r) (part_of end r) f.stamp (later r) (ap (λ (p : Part). p.zero) (finds_part v w r name x f))) may

pub offset_lasts : (z : Site) (v w : Known) (raw : RawReading) (step : Step) (offset : ℤ) (end : View) → (h : ShowsRaised z v raw step w) → Lasts w.view end
    → MayHave end.modes.offset offset → h.offset ≡ offset
offset_lasts z v w raw step offset end h later may =
    may_be end.modes.offset offset h.offset (later.offset h.offset (raised_offset z v w raw step h)) may
