-- Each reading of an owner names the pair of its last stamp, as its view of the clock words tells; before its first
-- stamp that is the pair of stamp 0.
use Rattle.std.proofs.Common.{◌≡◌, ◌≢◌, ℕ, zero, suc, ◌<◌, ℤ, true, List, [], ◌∷◌, ◌++◌, Some, ap, ◌∙◌, sym, subst, refl, arith, append-nil, eq-eqb}
use Rattle.clk_base.specs.Walk.{Along}
use Rattle.clk_machine.specs.declared.reading.RawReading.{RawReading}
use Rattle.clk_record.specs.declared.step.Step.{Step}
use Rattle.clk_record.specs.declared.step.Why.{Why}
use Rattle.clk_record.specs.declared.step.Why.TheVariants.{Raise, Couple, Lift}
use Rattle.clk_words.specs.declared.opening.Opening.{Opening}
use Rattle.clk_words.specs.declared.opening.Start.{Start}
use Rattle.clk_words.specs.declared.kind.SeatKind.TheVariants.{Owner}
use Rattle.clk_words.specs.declared.view.View.{View}
use Rattle.clk_words.specs.declared.view.PairView.{PairView}
use Rattle.clk_words.specs.declared.view.Name.{Name}
use Rattle.clk_words.specs.declared.view.Part.{Part}
use Rattle.clk_words.specs.Parts.{gtod_of, raw_of, part_of, last_from}
use Rattle.clk_words.specs.Rights.{has_number, owned_by}
use Rattle.clk_words.specs.Told.{Finds, FindsRaw, FindsGtod, stamped}
use Rattle.clk_words.specs.Views.{pairs_known}
use Rattle.clk_words.proofs.Registers.{put_here, put_else, last_more}
use Rattle.clk_lawful.specs.Stamps.{Pair, pair_after, NamesPair}
use Rattle.clk_lawful.specs.declared.event.Event.{Event}
use Rattle.clk_lawful.specs.declared.event.EventKind.{EventKind}
use Rattle.clk_lawful.specs.declared.event.EventKind.TheVariants.{Stable, Local, Stamp, Nothing, Update, Pause}
use Rattle.clk_lawful.specs.declared.event.EventKind.TheVariants as event
use Rattle.clk_local.specs.Context.{Site, Known}
use Rattle.clk_local.specs.Shows.{ShowsRaised}
use Rattle.clk_worker.specs.Running.{Shows, ShowsLocal, Runs, at_call}
use Rattle.clk_worker.proofs.RunKeeping.{IsHome, home_looked, home_next}
use Rattle.clk_worker.proofs.RunParts.{MayHave, PartsBegin, parts_through, finds_begin, finds_part, finds_other, Lasts, runs_last, stamp_lasts, offset_lasts}

-- where stamp 0 of a register is this one, what is known of the register ends with x
abbrev EndsAt : List Part → ℕ → ℤ → ℤ → Type 0
EndsAt parts r stamp x = last_from stamp (part_of parts r).after ≡ x

-- a load that adds nothing finds it, and leaves it the last; it leaves other registers too
finds_here : (v w : View) (r : ℕ) (name : Name) (x stamp y : ℤ) → (f : Finds v r name x w) → f.stamp ≡ stamp → f.more ≡ [] → EndsAt v.pairs.parts r stamp y
    → (x ≡ y) × EndsAt w.pairs.parts r stamp y
finds_here v w r name x stamp y f same nothing h =
    let all : (part_of v.pairs.parts r).after ++ f.more ≡ (part_of v.pairs.parts r).after =
    ap (λ (xs : List ℤ). (part_of v.pairs.parts r).after ++ xs) nothing ∙ append-nil (part_of v.pairs.parts r).after in
    let last : last_from stamp ((part_of v.pairs.parts r).after ++ f.more) ≡ y = ap (λ (xs : List ℤ). last_from stamp xs) all ∙ h in
    let found : last_from stamp ((part_of v.pairs.parts r).after ++ f.more) ≡ x =
    ap (λ (z : ℤ). last_from z ((part_of v.pairs.parts r).after ++ f.more)) (sym same) ∙ f.last_is in
    (sym found ∙ last, ap (λ (q : Part). last_from stamp q.after) (finds_part v w r name x f) ∙ last)

finds_else : (v w : View) (r k : ℕ) (name : Name) (x stamp y : ℤ) → Finds v r name x w → k ≢ r → EndsAt v.pairs.parts k stamp y → EndsAt w.pairs.parts k stamp y
finds_else v w r k name x stamp y f other h = ap (λ (q : Part). last_from stamp q.after) (finds_other v w r k name x f other) ∙ h

-- a stamp makes its value the last
stamped_here : (v : View) (r : ℕ) (x stamp : ℤ) → EndsAt (stamped r x v).pairs.parts r stamp x
stamped_here v r x stamp =
    let p : Part = record { zero = (part_of v.pairs.parts r).zero; after = (part_of v.pairs.parts r).after ++ x ∷ [] } in
    ap (λ (q : Part). last_from stamp q.after) (put_here v.pairs.parts r p) ∙ last_more stamp x (part_of v.pairs.parts r).after

stamped_else : (v : View) (r k : ℕ) (x stamp y : ℤ) → k ≢ r → EndsAt v.pairs.parts k stamp y → EndsAt (stamped r x v).pairs.parts k stamp y
stamped_else v r k x stamp y other h =
    let p : Part = record { zero = (part_of v.pairs.parts r).zero; after = (part_of v.pairs.parts r).after ++ x ∷ [] } in
    ap (λ (q : Part). last_from stamp q.after) (put_else v.pairs.parts r k p other) ∙ h

-- the pair of its CPU that an owner's view ends with, where stamp 0 has the pair o
pub record EndsWith (cpu : ℕ) (ps : PairView) (o p : Pair) : Type 0 where
  pub raw : EndsAt ps.parts (raw_of cpu) o.raw p.raw
  pub gtod : EndsAt ps.parts (gtod_of cpu) o.gtod p.gtod
  pub owner : has_number ps.owns cpu ≡ true

-- a pair that may be that of stamp 0, as a view at the end knows it, and an offset that may be the one it knows
pub record MayStand (cpu : ℕ) (end : View) (o : Pair) (offset : ℤ) : Type 0 where
  pub raw : MayHave (part_of end.pairs.parts (raw_of cpu)).zero o.raw
  pub gtod : MayHave (part_of end.pairs.parts (gtod_of cpu)).zero o.gtod
  pub offset_is : MayHave end.modes.offset offset

-- ---- at first

pub known_at : (n cpu : ℕ) (o : Opening) → cpu < n
    → (part_of (pairs_known n o) (gtod_of cpu) ≡ record { zero = Some o.tick_gtod; after = [] })
    × (part_of (pairs_known n o) (raw_of cpu) ≡ record { zero = Some o.tick_raw; after = [] })
known_at zero cpu o low = absurd (omega arith)
known_at (suc n) zero o low = (refl, refl)
known_at (suc n) (suc cpu) o low =
    let rest = known_at n cpu o (omega arith) in
    let gtod : gtod_of (suc cpu) ≡ suc (suc (gtod_of cpu)) = omega arith in
    let raw : raw_of (suc cpu) ≡ suc (suc (raw_of cpu)) = omega arith in
    (ap (part_of (pairs_known (suc n) o)) gtod ∙ rest.0, ap (part_of (pairs_known (suc n) o)) raw ∙ rest.1)

pub owns_self : (cpu : ℕ) → has_number (owned_by (Owner cpu)) cpu ≡ true
owns_self cpu = let same = eq-eqb cpu cpu refl in rw same refl

-- a seat that knows of no stamps but stamp 0 ends with its pair
pub pair_first : (cpu : ℕ) (ps : PairView) (o : Pair) → (part_of ps.parts (raw_of cpu)).after ≡ [] → (part_of ps.parts (gtod_of cpu)).after ≡ []
    → ps.owns ≡ owned_by (Owner cpu) → EndsWith cpu ps o o
pair_first cpu ps o raws gtods owns =
    record {
      raw = ap (λ (xs : List ℤ). last_from o.raw xs) raws;
      gtod = ap (λ (xs : List ℤ). last_from o.gtod xs) gtods;
      owner = ap (λ (cs : List ℕ). has_number cs cpu) owns ∙ owns_self cpu;
    }

-- ---- one event

abbrev raw_of_why : Why → ℤ
raw_of_why (Raise raw tick_raw tick_gtod offset) = tick_raw
raw_of_why (Couple from value) = value
raw_of_why (Lift value) = value

abbrev gtod_of_why : Why → ℤ
gtod_of_why (Raise raw tick_raw tick_gtod offset) = tick_gtod
gtod_of_why (Couple from value) = value
gtod_of_why (Lift value) = value

abbrev offset_of_why : Why → ℤ
offset_of_why (Raise raw tick_raw tick_gtod offset) = offset
offset_of_why (Couple from value) = value
offset_of_why (Lift value) = value

-- a local reading names what it found
pub local_names : (z : Site) (v w : Known) (raw : RawReading) (tick_raw tick_gtod offset old new : ℤ) → (h : ShowsLocal z v raw tick_raw tick_gtod offset old new w)
    → (tick_raw ≡ h.raised.tick_raw) × (tick_gtod ≡ h.raised.tick_gtod) × (offset ≡ h.raised.offset)
local_names z v w raw tick_raw tick_gtod offset old new h =
    let why = sym h.why_is ∙ ap (λ (s : Step). s.why) h.raised.step_is in
    (ap raw_of_why why, ap gtod_of_why why, ap offset_of_why why)

-- what it found are the halves of its own CPU's pair
pub local_raw : (z : Site) (start : Start) (number : ℕ) (v w : Known) (raw : RawReading) (step : Step) → IsHome z.cpu start number v.view
    → (h : ShowsRaised z v raw step w) → FindsRaw v.view z.cpu h.tick_raw h.finds.half
local_raw z start number v w raw step home h = subst (λ k. FindsRaw v.view k h.tick_raw h.finds.half) home.cpu_is h.finds.first

pub local_gtod : (z : Site) (start : Start) (number : ℕ) (v w : Known) (raw : RawReading) (step : Step) → IsHome z.cpu start number v.view
    → (h : ShowsRaised z v raw step w) → FindsGtod h.finds.half z.cpu h.tick_gtod h.pair
local_gtod z start number v w raw step home h = subst (λ k. FindsGtod h.finds.half k h.tick_gtod h.pair) home.cpu_is h.finds.second

local_pair : (z : Site) (start : Start) (number : ℕ) (v w : Known) (raw : RawReading) (tick_raw tick_gtod shown old new : ℤ) (end : View) (o p : Pair) (offset : ℤ)
    → IsHome z.cpu start number v.view → ShowsLocal z v raw tick_raw tick_gtod shown old new w → Lasts w.view end → MayStand z.cpu end o offset
    → EndsWith z.cpu v.view.pairs o p
    → ((tick_raw ≡ p.raw) × (tick_gtod ≡ p.gtod) × (shown ≡ offset)) × EndsWith z.cpu w.view.pairs o p
local_pair z start number v w raw tick_raw tick_gtod shown old new end o p offset home h later may ends =
    let half : View = h.raised.finds.half in
    let pair : View = h.raised.pair in
    let names = local_names z v w raw tick_raw tick_gtod shown old new h in
    let first = local_raw z start number v w raw h.step home h.raised in
    let second = local_gtod z start number v w raw h.step home h.raised in
    let after : PartsBegin pair.pairs.parts end.pairs.parts = subst (λ (ps : PairView). PartsBegin ps.parts end.pairs.parts) h.raised.pairs_is later.parts in
    let between : PartsBegin half.pairs.parts end.pairs.parts =
    parts_through half.pairs.parts pair.pairs.parts end.pairs.parts (finds_begin half pair (gtod_of z.cpu) _ h.raised.tick_gtod second.finds) after in
    let raw_zero = stamp_lasts v.view half (raw_of z.cpu) _ h.raised.tick_raw o.raw end.pairs.parts first.finds between may.raw in
    let gtod_zero = stamp_lasts half pair (gtod_of z.cpu) _ h.raised.tick_gtod o.gtod end.pairs.parts second.finds after may.gtod in
    let half_owner : has_number half.pairs.owns z.cpu ≡ true = ap (λ (x : View). has_number x.pairs.owns z.cpu) first.finds.view_is ∙ ends.owner in
    let one = finds_here v.view half (raw_of z.cpu) _ h.raised.tick_raw o.raw p.raw first.finds raw_zero (first.whole ends.owner) ends.raw in
    let one_else = finds_else v.view half (raw_of z.cpu) (gtod_of z.cpu) _ h.raised.tick_raw o.gtod p.gtod first.finds (λ e. omega (arith, e)) ends.gtod in
    let two = finds_here half pair (gtod_of z.cpu) _ h.raised.tick_gtod o.gtod p.gtod second.finds gtod_zero (second.whole half_owner) one_else in
    let two_else = finds_else half pair (gtod_of z.cpu) (raw_of z.cpu) _ h.raised.tick_gtod o.raw p.raw second.finds (λ e. omega (arith, e)) one.1 in
    let owner : has_number pair.pairs.owns z.cpu ≡ true = ap (λ (x : View). has_number x.pairs.owns z.cpu) second.finds.view_is ∙ half_owner in
    let found : EndsWith z.cpu pair.pairs o p = record { raw = two_else; gtod = two.1; owner = owner } in (
      (names.0 ∙ one.0, names.1 ∙ two.0, names.2 ∙ offset_lasts z v w raw h.step offset end h.raised later may.offset_is),
      subst (λ ps. EndsWith z.cpu ps o p) (sym h.raised.pairs_is) found,
    )

pair_same : (cpu : ℕ) (v w : View) (o p : Pair) → w.pairs ≡ v.pairs → EndsWith cpu v.pairs o p → EndsWith cpu w.pairs o p
pair_same cpu v w o p same ends = subst (λ ps. EndsWith cpu ps o p) (sym same) ends

stamp_pair : (cpu : ℕ) (v : View) (raw gtod : ℤ) (o p : Pair) → EndsWith cpu v.pairs o p
    → EndsWith cpu (stamped (raw_of cpu) raw (stamped (gtod_of cpu) gtod v)).pairs o (record { raw = raw; gtod = gtod })
stamp_pair cpu v raw gtod o p ends =
    let half : View = stamped (gtod_of cpu) gtod v in
    record {
      raw = stamped_here half (raw_of cpu) raw o.raw;
      gtod = stamped_else half (raw_of cpu) (gtod_of cpu) raw o.gtod gtod (λ e. omega (arith, e)) (stamped_here v (gtod_of cpu) gtod o.gtod);
      owner = ends.owner;
    }

shows_pair : (z : Site) (start : Start) (number : ℕ) (v : Known) (k : EventKind) (w : Known) (end : View) (o p : Pair) (offset : ℤ) → IsHome z.cpu start number v.view
    → Shows z v k w → Lasts w.view end → MayStand z.cpu end o offset → EndsWith z.cpu v.view.pairs o p
    → NamesPair offset p k × EndsWith z.cpu w.view.pairs o (pair_after p k)
shows_pair z start number v (Stable raw value) w end o p offset home h later may ends =
    (tt, pair_same z.cpu v.view w.view o p (ap (λ (x : View). x.pairs) h.stable.view_is) ends)
shows_pair z start number v (Local raw tick_raw tick_gtod shown old new) w end o p offset home h later may ends =
    local_pair z start number v w raw tick_raw tick_gtod shown old new end o p offset home h later may ends
shows_pair z start number v (event.Couple asked own other word old new) w end o p offset home h later may ends =
    (tt, pair_same z.cpu v.view w.view o p h.coupled.pairs_is ends)
shows_pair z start number v (Stamp gtod_ticket gtod raw) w end o p offset home h later may ends =
    (tt, subst (λ (x : View). EndsWith z.cpu x.pairs o (record { raw = raw.ns; gtod = gtod })) (sym h.stamps.view_is) (stamp_pair z.cpu v.view raw.ns gtod o p ends))
shows_pair z start number v Nothing w end o p offset home h later may ends =
    (tt, pair_same z.cpu v.view w.view o p (ap (λ (x : Known). x.view.pairs) h.same) ends)
shows_pair z start number v (Update q) w end o p offset home h later may ends =
    (tt, pair_same z.cpu v.view w.view o p (ap (λ (x : View). x.pairs) h.view_is) ends)
shows_pair z start number v (Pause ticket count) w end o p offset home h later may ends =
    (tt, pair_same z.cpu v.view w.view o p (ap (λ (x : View). x.pairs) h.view_is) ends)

-- ---- all events

pub runs_name : (z : Site) (start : Start) (number : ℕ) (v : Known) (es : List Event) (w : Known) (o p : Pair) (offset : ℤ) → IsHome z.cpu start number v.view
    → Runs z v es w → MayStand z.cpu w.view o offset → EndsWith z.cpu v.view.pairs o p
    → Along (λ q e. NamesPair offset q e.kind) (λ q e. pair_after q e.kind) p es
runs_name z start number v [] w o p offset home r may ends = tt
runs_name z start number v (e ∷ es) w o p offset home r may ends =
    let looked = pair_same z.cpu v.view r.0.view o p (ap (λ (x : View). x.pairs) r.2.view_is) ends in
    let here = shows_pair (at_call z e.call) start number r.0 e.kind r.1 w.view o p offset (home_looked z.cpu start number v r.0 r.2 home) r.3
    (runs_last z r.1 es w r.4) may looked in
    (here.0, runs_name z start number r.1 es w o (pair_after p e.kind) offset (home_next z start number v e es w r home) r.4 may here.1)
