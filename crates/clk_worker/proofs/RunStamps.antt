-- Each reading of a run names stamps of its CPU that its thread knew then: neither half goes back, and the GTOD is not
-- older than the raw clock. So the least stamps by which a list of them can be named in order are there.
use Rattle.std.proofs.Common.{◌≡◌, ◌≢◌, ℕ, ◌+◌, ◌≤◌, max, ℤ, Bool, true, false, cond, inr, List, [], ◌∷◌, ◌++◌, length, map, Option, Some, is_some, option_map, option_and_then, refl, ap, ◌∙◌, sym, subst, arith, append_assoc, append-nil, le-leb}
use Rattle.std.specs.List.{flat_map}
use Rattle.std.specs.Prelude.{nat_le, unwrap_or, ◌&&◌}
use Rattle.std.specs.Ordering.{int_eq}
use Rattle.std.proofs.lemmas.Bool.Decides.{Decides-int_eq}
use Rattle.std.proofs.lemmas.List.{map-append}
use Rattle.clk_base.specs.Walk.{Along}
use Rattle.clk_machine.specs.declared.reading.RawReading.{RawReading}
use Rattle.clk_words.specs.declared.opening.Start.{Start}
use Rattle.clk_words.specs.declared.view.View.{View}
use Rattle.clk_words.specs.declared.view.PairView.{PairView}
use Rattle.clk_words.specs.declared.view.Name.{Name}
use Rattle.clk_words.specs.declared.view.Part.{Part}
use Rattle.clk_words.specs.Parts.{gtod_of, raw_of, part_of, last_from, PartBegins}
use Rattle.clk_words.specs.Rights.{has_number}
use Rattle.clk_words.specs.Told.{Finds, FindsRaw, FindsGtod, stamped}
use Rattle.clk_words.proofs.Fronts.{begins_length}
use Rattle.clk_words.proofs.Registers.{put_here, put_else}
use Rattle.clk_lawful.specs.Stamps.{Pair, stamp_of_kind, Numbers, least_from, numbers_of, NamesStamps, numbers_after}
use Rattle.clk_lawful.specs.declared.event.Event.{Event}
use Rattle.clk_lawful.specs.declared.event.EventKind.{EventKind}
use Rattle.clk_lawful.specs.declared.event.EventKind.TheVariants.{Stable, Local, Couple, Stamp, Nothing, Update, Pause}
use Rattle.clk_local.specs.Context.{Site, Known}
use Rattle.clk_worker.specs.Running.{Shows, ShowsLocal, Runs, at_call}
use Rattle.clk_worker.proofs.RunKeeping.{IsHome, home_looked, home_next}
use Rattle.clk_worker.proofs.RunPairs.{local_names, local_raw, local_gtod}
use Rattle.clk_worker.proofs.RunParts.{MayHave, may_be, PartsBegin, parts_through, finds_begin, finds_part, finds_other, shows_parts, zero_stays, Lasts, runs_last, offset_lasts}

-- what is known of a register begins these values, the first of which is stamp 0's if that is known
pub record BeginsValues (p : Part) (xs : List ℤ) : Type 0 where
  pub stamp : ℤ
  pub known : MayHave p.zero stamp
  pub rest : List ℤ
  pub is : xs ≡ stamp ∷ (p.after ++ rest)

-- what a view knows of a CPU's pair begins these stamps
pub record KnowsStamps (cpu : ℕ) (ps : PairView) (stamps : List Pair) : Type 0 where
  pub raws : BeginsValues (part_of ps.parts (raw_of cpu)) (map (λ s. s.raw) stamps)
  pub gtods : BeginsValues (part_of ps.parts (gtod_of cpu)) (map (λ s. s.gtod) stamps)

-- what was known of a register begins what its later part begins
values_before : (p q : Part) (stamp : ℤ) (xs : List ℤ) → p.zero ≡ Some stamp → PartBegins p q → BeginsValues q xs → BeginsValues p xs
values_before p q stamp xs zero b k =
    record {
      stamp = k.stamp;
      known = inr (zero ∙ ap Some (may_be q.zero k.stamp stamp (zero_stays p q stamp b zero) k.known));
      rest = b.after.rest ++ k.rest;
      is = k.is ∙ ap (λ (ys : List ℤ). k.stamp ∷ (ys ++ k.rest)) b.after.is ∙ ap (λ (ys : List ℤ). k.stamp ∷ ys) (append_assoc p.after b.after.rest k.rest);
    }

-- ---- the least place of a value that stands somewhere

-- a place, not after this one
record Within (last : ℕ) (o : Option ℕ) : Type 0 where
  place : ℕ
  is : o ≡ Some place
  low : place ≤ last

within_by : (t : Bool) (n last : ℕ) (o : Option ℕ) → n ≤ last → Within last o → Within last (cond t (Some n) o)
within_by true n last o low w = record { place = n; is = refl; low = low }
within_by false n last o low w = w

within_found : (a b : Bool) (n last : ℕ) (o : Option ℕ) → a ≡ true → b ≡ true → n ≤ last → Within last (cond (a && b) (Some n) o)
within_found true true n last o p q low = record { place = n; is = refl; low = low }
within_found true false n last o p q low = absurd (cc)
within_found false b n last o p q low = absurd (cc)

-- the last of what is known stands at its place, where the search finds it at the latest
least_last : (x : ℤ) (low n : ℕ) (stamp : ℤ) (after rest : List ℤ) → last_from stamp after ≡ x → low ≤ n + length after
    → Within (n + length after) (least_from x low n (stamp ∷ (after ++ rest)))
least_last x low n stamp [] rest is far =
    let passed : nat_le low n ≡ true = le-leb low n (omega (arith, far)) in
    let found : int_eq stamp x ≡ true = (Decides-int_eq stamp x).1 is in
    within_found (nat_le low n) (int_eq stamp x) n (n + 0) (least_from x low (n + 1) rest) passed found (omega arith)
least_last x low n stamp (y ∷ after) rest is far =
    let place : n + 1 + length after ≡ n + length (y ∷ after) = omega arith in
    within_by (nat_le low n && int_eq stamp x) n (n + length (y ∷ after)) (least_from x low (n + 1) (y ∷ (after ++ rest))) (omega arith)
    (subst (λ k. Within k (least_from x low (n + 1) (y ∷ (after ++ rest)))) place (least_last x low (n + 1) y after rest is (omega (arith, far))))

part_least : (p : Part) (stamp x : ℤ) (xs : List ℤ) (low : ℕ) → p.zero ≡ Some stamp → last_from stamp p.after ≡ x → BeginsValues p xs → low ≤ length p.after
    → Within (length p.after) (least_from x low 0 xs)
part_least p stamp x xs low zero last k far =
    let same : stamp ≡ k.stamp = may_be p.zero k.stamp stamp zero k.known in
    let is : last_from k.stamp p.after ≡ x = subst (λ s. last_from s p.after ≡ x) same last in
    let count : 0 + length p.after ≡ length p.after = omega arith in
    let found : Within (length p.after) (least_from x low 0 (k.stamp ∷ (p.after ++ k.rest))) =
    subst (λ n. Within n (least_from x low 0 (k.stamp ∷ (p.after ++ k.rest)))) count (least_last x low 0 k.stamp p.after k.rest is (omega (arith, far))) in
    subst (λ ys. Within (length p.after) (least_from x low 0 ys)) (sym k.is) found

-- ---- the numbers that a reading names

-- numbers, not after these
record NumbersWithin (raws gtods : ℕ) (o : Option Numbers) : Type 0 where
  numbers : Numbers
  is : o ≡ Some numbers
  raw : numbers.raw ≤ raws
  gtod : numbers.gtod ≤ gtods

numbers_within : (stamps : List Pair) (last : Numbers) (tick_raw tick_gtod : ℤ) (raws gtods : ℕ)
    → Within raws (least_from tick_raw last.raw 0 (map (λ s. s.raw) stamps))
    → ((low : ℕ) → low ≤ gtods → Within gtods (least_from tick_gtod low 0 (map (λ s. s.gtod) stamps)))
    → last.gtod ≤ gtods → raws ≤ gtods → NumbersWithin raws gtods (numbers_of stamps last tick_raw tick_gtod)
numbers_within stamps last tick_raw tick_gtod raws gtods first second low half =
    let j : ℕ = first.place in
    let under = first.low in
    let two = second (max j last.gtod) (omega (arith, under, low, half)) in
    let pair : ℕ → Numbers = λ i. record { raw = j; gtod = i } in
    record {
      numbers = pair two.place;
      is =
          ap
          (option_and_then
          (λ m. option_map (λ i. record { raw = m; gtod = i }) (least_from tick_gtod (max m last.gtod) 0 (map (λ s. s.gtod) stamps))))
          first.is
          ∙ ap (option_map pair) two.is;
      raw = under;
      gtod = two.low;
    }

-- the numbers named last are those of known stamps
pub record AreKnown (cpu : ℕ) (parts : List Part) (last : Numbers) : Type 0 where
  pub raw : last.raw ≤ length (part_of parts (raw_of cpu)).after
  pub gtod : last.gtod ≤ length (part_of parts (gtod_of cpu)).after

known_more : (cpu : ℕ) (ps qs : List Part) (last : Numbers) → PartsBegin ps qs → AreKnown cpu ps last → AreKnown cpu qs last
known_more cpu ps qs last b known =
    let raws = begins_length (part_of ps (raw_of cpu)).after (part_of qs (raw_of cpu)).after (b (raw_of cpu)).after in
    let gtods = begins_length (part_of ps (gtod_of cpu)).after (part_of qs (gtod_of cpu)).after (b (gtod_of cpu)).after in
    let raw = known.raw in
    let gtod = known.gtod in
    record { raw = omega (arith, raw, raws); gtod = omega (arith, gtod, gtods) }

-- what a loaded register's part says
record Loaded (p : Part) (x : ℤ) : Type 0 where
  stamp : ℤ
  zero : p.zero ≡ Some stamp
  last : last_from stamp p.after ≡ x

finds_loaded : (v w : View) (r : ℕ) (name : Name) (x : ℤ) → Finds v r name x w → Loaded (part_of w.pairs.parts r) x
finds_loaded v w r name x f =
    let is = finds_part v w r name x f in
    record { stamp = f.stamp; zero = ap (λ (p : Part). p.zero) is; last = ap (λ (p : Part). last_from f.stamp p.after) is ∙ f.last_is }

loaded_least : (p q : Part) (x : ℤ) (xs : List ℤ) (low : ℕ) → Loaded p x → PartBegins p q → BeginsValues q xs → low ≤ length p.after
    → Within (length p.after) (least_from x low 0 xs)
loaded_least p q x xs low l b k far = part_least p l.stamp x xs low l.zero l.last (values_before p q l.stamp xs l.zero b k) far

-- the loads of a pair, by what is known in the end
pair_numbers : (v half pair : View) (cpu : ℕ) (x y : ℤ) (end : PairView) (stamps : List Pair) (last : Numbers) → FindsRaw v cpu x half → FindsGtod half cpu y pair
    → PartsBegin pair.pairs.parts end.parts → KnowsStamps cpu end stamps → AreKnown cpu v.pairs.parts last
    → NumbersWithin (length (part_of pair.pairs.parts (raw_of cpu)).after) (length (part_of pair.pairs.parts (gtod_of cpu)).after) (numbers_of stamps last x y)
pair_numbers v half pair cpu x y end stamps last first second later knows known =
    let r : ℕ = raw_of cpu in
    let g : ℕ = gtod_of cpu in
    let raw_same : part_of pair.pairs.parts r ≡ part_of half.pairs.parts r = finds_other half pair g r _ y second.finds (λ e. omega (arith, e)) in
    let raw_loaded : Loaded (part_of pair.pairs.parts r) x =
    subst (λ p. Loaded p x) (sym raw_same) (finds_loaded v half r _ x first.finds) in
    let gtod_loaded = finds_loaded half pair g _ y second.finds in
    let begins = parts_through v.pairs.parts half.pairs.parts pair.pairs.parts (finds_begin v half r _ x first.finds) (finds_begin half pair g _ y second.finds) in
    let still = known_more cpu v.pairs.parts pair.pairs.parts last begins known in
    let not_older : length (part_of pair.pairs.parts r).after ≤ length (part_of pair.pairs.parts g).after =
    subst (λ (p : Part). length p.after ≤ length (part_of pair.pairs.parts g).after) (sym raw_same) second.half in
    numbers_within stamps last x y (length (part_of pair.pairs.parts r).after) (length (part_of pair.pairs.parts g).after)
    (loaded_least (part_of pair.pairs.parts r) (part_of end.parts r) x (map (λ s. s.raw) stamps) last.raw raw_loaded (later r) knows.raws still.raw)
    (λ low far. loaded_least (part_of pair.pairs.parts g) (part_of end.parts g) y (map (λ s. s.gtod) stamps) low gtod_loaded (later g) knows.gtods far)
    still.gtod not_older

-- ---- one event, by what its thread knows in the end

-- a list of stamps that begins with what is known then, and an offset that may be the one that is known
pub record MayName (cpu : ℕ) (end : View) (stamps : List Pair) (offset : ℤ) : Type 0 where
  pub knows : KnowsStamps cpu end.pairs stamps
  pub offset_is : MayHave end.modes.offset offset

local_stamps : (z : Site) (start : Start) (number : ℕ) (v w : Known) (raw : RawReading) (tick_raw tick_gtod shown old new : ℤ) (end : View) (stamps : List Pair) (offset : ℤ) (last : Numbers)
    → IsHome z.cpu start number v.view → ShowsLocal z v raw tick_raw tick_gtod shown old new w
    → Lasts w.view end → MayName z.cpu end stamps offset → AreKnown z.cpu v.view.pairs.parts last
    → NamesStamps stamps offset last (Local raw tick_raw tick_gtod shown old new)
    × AreKnown z.cpu w.view.pairs.parts (numbers_after stamps last (Local raw tick_raw tick_gtod shown old new))
local_stamps z start number v w raw tick_raw tick_gtod shown old new end stamps offset last home h later may known =
    let names = local_names z v w raw tick_raw tick_gtod shown old new h in
    let first = local_raw z start number v w raw h.step home h.raised in
    let second = local_gtod z start number v w raw h.step home h.raised in
    let after : PartsBegin h.raised.pair.pairs.parts end.pairs.parts = subst (λ (ps : PairView). PartsBegin ps.parts end.pairs.parts) h.raised.pairs_is later.parts in
    let found = pair_numbers v.view h.raised.finds.half h.raised.pair z.cpu h.raised.tick_raw h.raised.tick_gtod end.pairs stamps last first second after may.knows known in
    let is : numbers_of stamps last tick_raw tick_gtod ≡ Some found.numbers =
    ap (λ x. numbers_of stamps last x tick_gtod) names.0 ∙ ap (numbers_of stamps last h.raised.tick_raw) names.1 ∙ found.is in
    let there : AreKnown z.cpu w.view.pairs.parts found.numbers =
    subst (λ (ps : PairView). AreKnown z.cpu ps.parts found.numbers) (sym h.raised.pairs_is) (record { raw = found.raw; gtod = found.gtod }) in
    let same : shown ≡ offset = names.2 ∙ offset_lasts z v w raw h.step offset end h.raised later may.offset_is in
    ((ap is_some is, same), subst (AreKnown z.cpu w.view.pairs.parts) (sym (ap (λ o. unwrap_or o last) is)) there)

-- an event that names no stamps
stamps_kept : (z : Site) (v : Known) (k : EventKind) (w : Known) (last : Numbers) → Shows z v k w → AreKnown z.cpu v.view.pairs.parts last
    → AreKnown z.cpu w.view.pairs.parts last
stamps_kept z v k w last h known = known_more z.cpu v.view.pairs.parts w.view.pairs.parts last (shows_parts z v k w h) known

shows_stamps : (z : Site) (start : Start) (number : ℕ) (v : Known) (k : EventKind) (w : Known) (end : View) (stamps : List Pair) (offset : ℤ) (last : Numbers)
    → IsHome z.cpu start number v.view → Shows z v k w → Lasts w.view end → MayName z.cpu end stamps offset → AreKnown z.cpu v.view.pairs.parts last
    → NamesStamps stamps offset last k × AreKnown z.cpu w.view.pairs.parts (numbers_after stamps last k)
shows_stamps z start number v (Stable raw value) w end stamps offset last home h later may known = (tt, stamps_kept z v (Stable raw value) w last h known)
shows_stamps z start number v (Local raw tick_raw tick_gtod shown old new) w end stamps offset last home h later may known =
    local_stamps z start number v w raw tick_raw tick_gtod shown old new end stamps offset last home h later may known
shows_stamps z start number v (Couple asked own other word old new) w end stamps offset last home h later may known =
    (tt, stamps_kept z v (Couple asked own other word old new) w last h known)
shows_stamps z start number v (Stamp gtod_ticket gtod raw) w end stamps offset last home h later may known =
    (tt, stamps_kept z v (Stamp gtod_ticket gtod raw) w last h known)
shows_stamps z start number v Nothing w end stamps offset last home h later may known = (tt, stamps_kept z v Nothing w last h known)
shows_stamps z start number v (Update p) w end stamps offset last home h later may known = (tt, stamps_kept z v (Update p) w last h known)
shows_stamps z start number v (Pause ticket count) w end stamps offset last home h later may known = (tt, stamps_kept z v (Pause ticket count) w last h known)

-- ---- all events

pub runs_stamps : (z : Site) (start : Start) (number : ℕ) (v : Known) (es : List Event) (w : Known) (stamps : List Pair) (offset : ℤ) (last : Numbers)
    → IsHome z.cpu start number v.view → Runs z v es w → MayName z.cpu w.view stamps offset → AreKnown z.cpu v.view.pairs.parts last
    → Along (λ n e. NamesStamps stamps offset n e.kind) (λ n e. numbers_after stamps n e.kind) last es
runs_stamps z start number v [] w stamps offset last home r may known = tt
runs_stamps z start number v (e ∷ es) w stamps offset last home r may known =
    let looked : AreKnown z.cpu r.0.view.pairs.parts last = subst (λ (x : View). AreKnown z.cpu x.pairs.parts last) (sym r.2.view_is) known in
    let here = shows_stamps (at_call z e.call) start number r.0 e.kind r.1 w.view stamps offset last (home_looked z.cpu start number v r.0 r.2 home) r.3
    (runs_last z r.1 es w r.4) may looked in
    (here.0, runs_stamps z start number r.1 es w stamps offset (numbers_after stamps last e.kind) (home_next z start number v e es w r home) r.4 may here.1)

-- ---- an owner knows all stamps after stamp 0: its own

pub record HasStamps (cpu : ℕ) (ps : PairView) (stamps : List Pair) : Type 0 where
  pub raws : (part_of ps.parts (raw_of cpu)).after ≡ map (λ (s : Pair). s.raw) stamps
  pub gtods : (part_of ps.parts (gtod_of cpu)).after ≡ map (λ (s : Pair). s.gtod) stamps
  pub owner : has_number ps.owns cpu ≡ true

-- a load that adds nothing leaves the list
finds_same : (v w : View) (r : ℕ) (name : Name) (x : ℤ) (xs : List ℤ) → (f : Finds v r name x w) → f.more ≡ []
    → (part_of v.pairs.parts r).after ≡ xs → (part_of w.pairs.parts r).after ≡ xs
finds_same v w r name x xs f nothing is =
    ap (λ (p : Part). p.after) (finds_part v w r name x f)
    ∙ ap (λ (ys : List ℤ). (part_of v.pairs.parts r).after ++ ys) nothing
    ∙ append-nil (part_of v.pairs.parts r).after
    ∙ is

local_whole : (z : Site) (start : Start) (number : ℕ) (v w : Known) (raw : RawReading) (tick_raw tick_gtod offset old new : ℤ) (stamps : List Pair)
    → IsHome z.cpu start number v.view → ShowsLocal z v raw tick_raw tick_gtod offset old new w
    → HasStamps z.cpu v.view.pairs stamps → HasStamps z.cpu w.view.pairs stamps
local_whole z start number v w raw tick_raw tick_gtod offset old new stamps home h has =
    let half : View = h.raised.finds.half in
    let pair : View = h.raised.pair in
    let first = local_raw z start number v w raw h.step home h.raised in
    let second = local_gtod z start number v w raw h.step home h.raised in
    let half_owner : has_number half.pairs.owns z.cpu ≡ true = ap (λ (x : View). has_number x.pairs.owns z.cpu) first.finds.view_is ∙ has.owner in
    let pair_owner : has_number pair.pairs.owns z.cpu ≡ true = ap (λ (x : View). has_number x.pairs.owns z.cpu) second.finds.view_is ∙ half_owner in
    let gtod_half = ap (λ (p : Part). p.after) (finds_other v.view half (raw_of z.cpu) (gtod_of z.cpu) _ h.raised.tick_raw first.finds (λ e. omega (arith, e))) ∙ has.gtods in
    let raw_half = finds_same v.view half (raw_of z.cpu) _ h.raised.tick_raw _ first.finds (first.whole has.owner) has.raws in
    let whole : HasStamps z.cpu pair.pairs stamps = record {
      raws = ap (λ (p : Part). p.after) (finds_other half pair (gtod_of z.cpu) (raw_of z.cpu) _ h.raised.tick_gtod second.finds (λ e. omega (arith, e))) ∙ raw_half;
      gtods = finds_same half pair (gtod_of z.cpu) _ h.raised.tick_gtod _ second.finds (second.whole half_owner) gtod_half;
      owner = pair_owner;
    } in
    subst (λ (ps : PairView). HasStamps z.cpu ps stamps) (sym h.raised.pairs_is) whole

-- one more value of a register, of which this is known
stamped_more : (v : View) (r : ℕ) (x : ℤ) (xs : List ℤ) → (part_of v.pairs.parts r).after ≡ xs → (part_of (stamped r x v).pairs.parts r).after ≡ xs ++ x ∷ []
stamped_more v r x xs is =
    ap (λ (p : Part). p.after)
    (put_here v.pairs.parts r (record { zero = (part_of v.pairs.parts r).zero; after = (part_of v.pairs.parts r).after ++ x ∷ [] }))
    ∙ ap (λ (ys : List ℤ). ys ++ x ∷ []) is

stamped_other : (v : View) (r k : ℕ) (x : ℤ) → k ≢ r → (part_of (stamped r x v).pairs.parts k).after ≡ (part_of v.pairs.parts k).after
stamped_other v r k x other =
    ap (λ (p : Part). p.after)
    (put_else v.pairs.parts r k (record { zero = (part_of v.pairs.parts r).zero; after = (part_of v.pairs.parts r).after ++ x ∷ [] }) other)

stamp_whole : (v : View) (cpu : ℕ) (raw gtod : ℤ) (stamps : List Pair) → HasStamps cpu v.pairs stamps
    → HasStamps cpu (stamped (raw_of cpu) raw (stamped (gtod_of cpu) gtod v)).pairs (stamps ++ (record { raw = raw; gtod = gtod }) ∷ [])
stamp_whole v cpu raw gtod stamps has =
    let half : View = stamped (gtod_of cpu) gtod v in
    let one : Pair = record { raw = raw; gtod = gtod } in
    let raw_half = stamped_other v (gtod_of cpu) (raw_of cpu) gtod (λ e. omega (arith, e)) ∙ has.raws in
    record {
      raws = stamped_more half (raw_of cpu) raw (map (λ (s : Pair). s.raw) stamps) raw_half ∙ sym (map-append (λ (s : Pair). s.raw) stamps (one ∷ []));
      gtods =
          stamped_other half (raw_of cpu) (gtod_of cpu) raw (λ e. omega (arith, e))
          ∙ stamped_more v (gtod_of cpu) gtod (map (λ (s : Pair). s.gtod) stamps) has.gtods
          ∙ sym (map-append (λ (s : Pair). s.gtod) stamps (one ∷ []));
      owner = has.owner;
    }

whole_same : (cpu : ℕ) (v w : View) (stamps : List Pair) → w.pairs ≡ v.pairs → HasStamps cpu v.pairs stamps → HasStamps cpu w.pairs (stamps ++ [])
whole_same cpu v w stamps same has =
    subst (HasStamps cpu w.pairs) (sym (append-nil stamps)) (subst (λ (ps : PairView). HasStamps cpu ps stamps) (sym same) has)

shows_whole : (z : Site) (start : Start) (number : ℕ) (v : Known) (k : EventKind) (w : Known) (stamps : List Pair) → IsHome z.cpu start number v.view
    → Shows z v k w → HasStamps z.cpu v.view.pairs stamps → HasStamps z.cpu w.view.pairs (stamps ++ stamp_of_kind k)
shows_whole z start number v (Stable raw value) w stamps home h has = whole_same z.cpu v.view w.view stamps (ap (λ (x : View). x.pairs) h.stable.view_is) has
shows_whole z start number v (Local raw tick_raw tick_gtod offset old new) w stamps home h has =
    subst (HasStamps z.cpu w.view.pairs) (sym (append-nil stamps)) (local_whole z start number v w raw tick_raw tick_gtod offset old new stamps home h has)
shows_whole z start number v (Couple asked own other word old new) w stamps home h has = whole_same z.cpu v.view w.view stamps h.coupled.pairs_is has
shows_whole z start number v (Stamp gtod_ticket gtod raw) w stamps home h has =
    subst (λ (x : View). HasStamps z.cpu x.pairs (stamps ++ (record { raw = raw.ns; gtod = gtod }) ∷ [])) (sym h.stamps.view_is)
    (stamp_whole v.view z.cpu raw.ns gtod stamps has)
shows_whole z start number v Nothing w stamps home h has = whole_same z.cpu v.view w.view stamps (ap (λ (x : Known). x.view.pairs) h.same) has
shows_whole z start number v (Update p) w stamps home h has = whole_same z.cpu v.view w.view stamps (ap (λ (x : View). x.pairs) h.view_is) has
shows_whole z start number v (Pause ticket count) w stamps home h has = whole_same z.cpu v.view w.view stamps (ap (λ (x : View). x.pairs) h.view_is) has

pub runs_whole : (z : Site) (start : Start) (number : ℕ) (v : Known) (es : List Event) (w : Known) (stamps : List Pair) → IsHome z.cpu start number v.view
    → Runs z v es w → HasStamps z.cpu v.view.pairs stamps → HasStamps z.cpu w.view.pairs (stamps ++ flat_map (λ e. stamp_of_kind e.kind) es)
runs_whole z start number v [] w stamps home r has = whole_same z.cpu v.view w.view stamps (ap (λ (x : Known). x.view.pairs) (sym r)) has
runs_whole z start number v (e ∷ es) w stamps home r has =
    let looked = subst (λ (x : View). HasStamps z.cpu x.pairs stamps) (sym r.2.view_is) has in
    let here = shows_whole (at_call z e.call) start number r.0 e.kind r.1 stamps (home_looked z.cpu start number v r.0 r.2 home) r.3 looked in
    subst (HasStamps z.cpu w.view.pairs) (append_assoc stamps (stamp_of_kind e.kind) (flat_map (λ x. stamp_of_kind x.kind) es))
    (runs_whole z start number r.1 es w (stamps ++ stamp_of_kind e.kind) (home_next z start number v e es w r home) r.4 here)
