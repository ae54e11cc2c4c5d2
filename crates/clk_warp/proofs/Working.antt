-- What a side finds under the lock and what it leaves there, in the terms of its own sections.
use Rattle.std.proofs.Common.{◌≡◌, ℕ, ◌+◌, ◌-◌, ◌^◌, ◌<◌, Bool, true, false, cond, not, ◌&&◌, ◌||◌, List, [], ◌∷◌, ◌++◌, length, Option, Some, None, append_assoc, append-nil, refl, sym, ap, ap₂, ◌∙◌, subst, arith}
use Rattle.std.specs.Prelude.{option_map, is_some}
use Rattle.std.specs.List.{list_any}
use Rattle.std.proofs.lemmas.Bool.{and_parts, and_from}
use Rattle.std.proofs.lemmas.List.{length_push, same_from_push}
use mathlib.Core.List.{IsPrefix}
use Rattle.clk_ticket.specs.Time.{Time, after_draw}
use Rattle.clk_record.specs.declared.warp.Side.{Side}
use Rattle.clk_record.specs.declared.warp.Side.TheVariants.{Source, Target}
use Rattle.clk_record.specs.declared.warp.WarpReading.{WarpReading}
use Rattle.clk_record.specs.Sides.{is_same, of_side, first_tsc}
use Rattle.clk_record.specs.Falls.{Limits, each_after, is_over, is_last, is_ended}
use Rattle.clk_record.specs.WarpLimits.{limits_in}
use Rattle.clk_record.proofs.Falls.{same_then}
use Rattle.clk_warp.specs.declared.section.Section.{Section}
use Rattle.clk_warp.specs.declared.section.Section.TheVariants.{Read, SourceArrives, TargetArrives, Pass}
use Rattle.clk_warp.specs.Run.{Run, limits_at, both_here, side_ended, change, IsReading}
use Rattle.clk_warp.specs.Sections.{after, MayMake, sections_of}
use Rattle.clk_warp.specs.Turns.{Lock, Turn, Enters, IsChanged, Leaves}
use Rattle.clk_warp.specs.Working.{readings_of, IsReady}
use Rattle.clk_warp.proofs.Placing.{mine_push as of_side_mine, theirs_push as of_side_theirs, any_push, any_other}
use Rattle.clk_warp.proofs.Counting.{same_side}
use Rattle.clk_warp.proofs.Folding.{after_push, after_append, both_push, prefix_push}

-- ---- what sections leave as it is

machine_change : (s : Run) (e : Section) → (change s e).machine ≡ s.machine
machine_change s (Read r) = refl
machine_change s (SourceArrives time adjust) = refl
machine_change s TargetArrives = refl
machine_change s Pass = refl

pub machine_after : (s : Run) (es : List Section) → (after s es).machine ≡ s.machine
machine_after s [] = refl
machine_after s (e ∷ es) = machine_after (change s e) es ∙ machine_change s e

tickets_change : (s : Run) (e : Section) → (change s e).tickets ≡ s.tickets
tickets_change s (Read r) = refl
tickets_change s (SourceArrives time adjust) = refl
tickets_change s TargetArrives = refl
tickets_change s Pass = refl

pub tickets_after : (s : Run) (es : List Section) → (after s es).tickets ≡ s.tickets
tickets_after s [] = refl
tickets_after s (e ∷ es) = tickets_after (change s e) es ∙ tickets_change s e

cpu_change : (s : Run) (e : Section) → (change s e).cpu ≡ s.cpu
cpu_change s (Read r) = refl
cpu_change s (SourceArrives time adjust) = refl
cpu_change s TargetArrives = refl
cpu_change s Pass = refl

pub cpu_after : (s : Run) (es : List Section) → (after s es).cpu ≡ s.cpu
cpu_after s [] = refl
cpu_after s (e ∷ es) = cpu_after (change s e) es ∙ cpu_change s e

pub limits_after : (s : Run) (es : List Section) → limits_at (after s es) ≡ limits_at s
limits_after s es = ap₂ limits_in (machine_after s es) (cpu_after s es)

-- ---- what they change

count_change : (s : Run) (e : Section) → (change s e).sections ≡ s.sections + 1
count_change s (Read r) = refl
count_change s (SourceArrives time adjust) = refl
count_change s TargetArrives = refl
count_change s Pass = refl

pub count_after : (s : Run) (es : List Section) → (after s es).sections ≡ s.sections + length es
count_after s [] = omega arith
count_after s (e ∷ es) = omega (arith, count_after (change s e) es, count_change s e)

readings_change : (s : Run) (e : Section) (es : List Section) → (change s e).readings ++ readings_of es ≡ s.readings ++ readings_of (e ∷ es)
readings_change s (Read r) es = append_assoc s.readings (r ∷ []) (readings_of es)
readings_change s (SourceArrives time adjust) es = refl
readings_change s TargetArrives es = refl
readings_change s Pass es = refl

pub readings_after : (s : Run) (es : List Section) → (after s es).readings ≡ s.readings ++ readings_of es
readings_after s [] = sym (append-nil s.readings)
readings_after s (e ∷ es) = readings_after (change s e) es ∙ readings_change s e es

still_some : (t : Option Time) (k : ℕ) (b : Bool) → (is_some t && b) ≡ true → (is_some (option_map (λ u. after_draw u k 1) t) && b) ≡ true
still_some None k b h = h
still_some (Some t) k b h = h

here_change : (s : Run) (e : Section) → both_here s ≡ true → both_here (change s e) ≡ true
here_change s (Read r) h = still_some s.time r.ticket s.target h
here_change s (SourceArrives time adjust) h = (and_parts (is_some s.time) s.target h).1
here_change s TargetArrives h = and_from (is_some s.time) true (and_parts (is_some s.time) s.target h).0 refl
here_change s Pass h = h

pub here_after : (s : Run) (es : List Section) → both_here s ≡ true → both_here (after s es) ≡ true
here_after s [] h = h
here_after s (e ∷ es) h = here_after (change s e) es (here_change s e h)

-- ---- the readings of a side

either_kept : (b : Bool) (r : WarpReading) (xs : List WarpReading) (ds : List Section) → xs ≡ readings_of ds → cond b (r ∷ xs) xs ≡ readings_of (cond b (Read r ∷ ds) ds)
either_kept true r xs ds e = ap (λ ys. r ∷ ys) e
either_kept false r xs ds e = e

none_kept : (b : Bool) (e : Section) (ds : List Section) → readings_of (e ∷ ds) ≡ readings_of ds → readings_of (cond b (e ∷ ds) ds) ≡ readings_of ds
none_kept true e ds same = same
none_kept false e ds same = refl

pub side_of_readings : (side : Side) (es : List Section) → of_side side (readings_of es) ≡ readings_of (sections_of side es)
side_of_readings side [] = refl
side_of_readings side (Read r ∷ es) = either_kept (is_same side r.side) r (of_side side (readings_of es)) (sections_of side es) (side_of_readings side es)
side_of_readings side (SourceArrives time adjust ∷ es) =
    side_of_readings side es ∙ sym (none_kept (is_same side Source) (SourceArrives time adjust) (sections_of side es) refl)
side_of_readings side (TargetArrives ∷ es) = side_of_readings side es ∙ sym (none_kept (is_same side Target) TargetArrives (sections_of side es) refl)
side_of_readings side (Pass ∷ es) = side_of_readings side es

-- ---- where a side ends is told by its own readings

again_kept : (side : Side) (b : Bool) (r : WarpReading) (rs : List WarpReading) → is_same side r.side ≡ b → of_side side (cond b (r ∷ rs) rs) ≡ cond b (r ∷ of_side side rs) (of_side side rs)
again_kept side true r rs e = rw e
again_kept side false r rs e = refl

of_side_again : (side : Side) (rs : List WarpReading) → of_side side (of_side side rs) ≡ of_side side rs
of_side_again side [] = refl
of_side_again side (r ∷ rs) =
    again_kept side (is_same side r.side) r (of_side side rs) refl ∙ ap (λ xs. cond (is_same side r.side) (r ∷ xs) xs) (of_side_again side rs)

last_again : (l : Limits) (side : Side) (front : List WarpReading) (r : WarpReading) → is_same side r.side ≡ true → is_last l (of_side side front) r ≡ is_last l front r
last_again l side front r e =
    let same : side ≡ r.side = same_then side r.side e in
    let again : of_side r.side (of_side side front) ≡ of_side r.side front = ap (λ t. of_side r.side (of_side t front)) same ∙ of_side_again r.side front in
    ap (λ (xs : List WarpReading). not r.start && is_over l (first_tsc xs) (length xs - 1) r.tsc) again

abbrev ends_at : Limits → List WarpReading → WarpReading → List Side
ends_at l front r = cond (is_last l front r) (r.side ∷ []) []

ends_case : (b : Bool) (l : Limits) (side : Side) (front : List WarpReading) (r : WarpReading) (rs : List WarpReading) → is_same side r.side ≡ b
    → list_any (is_same side) (each_after {A = Side} (ends_at l) (front ++ r ∷ []) rs) ≡ list_any (is_same side) (each_after {A = Side} (ends_at l) (of_side side (front ++ r ∷ [])) (of_side side rs))
    → list_any (is_same side) (ends_at l front r ++ each_after {A = Side} (ends_at l) (front ++ r ∷ []) rs)
    ≡ list_any (is_same side) (each_after {A = Side} (ends_at l) (of_side side front) (cond b (r ∷ of_side side rs) (of_side side rs)))
ends_case true l side front r rs e rest =
    let mine = of_side_mine side front r e in
    let later : list_any (is_same side) (each_after {A = Side} (ends_at l) (front ++ r ∷ []) rs)
    ≡ list_any (is_same side) (each_after {A = Side} (ends_at l) (of_side side front ++ r ∷ []) (of_side side rs)) =
    rest ∙ ap (λ (xs : List WarpReading). list_any (is_same side) (each_after {A = Side} (ends_at l) xs (of_side side rs))) mine in
    let here : ends_at l front r ≡ ends_at l (of_side side front) r = ap (λ (b : Bool). cond b (r.side ∷ []) []) (sym (last_again l side front r e)) in
    any_push (is_same side) (ends_at l front r) (each_after {A = Side} (ends_at l) (front ++ r ∷ []) rs)
    ∙ ap₂ (λ (xs : List Side) (c : Bool). list_any (is_same side) xs || c) here later
    ∙ sym (any_push (is_same side) (ends_at l (of_side side front) r) (each_after {A = Side} (ends_at l) (of_side side front ++ r ∷ []) (of_side side rs)))
ends_case false l side front r rs e rest =
    any_push (is_same side) (ends_at l front r) (each_after {A = Side} (ends_at l) (front ++ r ∷ []) rs)
    ∙ ap (λ (c : Bool). c || list_any (is_same side) (each_after {A = Side} (ends_at l) (front ++ r ∷ []) rs)) (any_other side r.side (is_last l front r) e)
    ∙ rest
    ∙ ap (λ (xs : List WarpReading). list_any (is_same side) (each_after {A = Side} (ends_at l) xs (of_side side rs))) (of_side_theirs side front r e)

ends_by : (l : Limits) (side : Side) (front rs : List WarpReading)
    → list_any (is_same side) (each_after {A = Side} (ends_at l) front rs) ≡ list_any (is_same side) (each_after {A = Side} (ends_at l) (of_side side front) (of_side side rs))
ends_by l side front [] = refl
ends_by l side front (r ∷ rs) = ends_case (is_same side r.side) l side front r rs refl (ends_by l side (front ++ r ∷ []) rs)

pub ended_by_side : (l : Limits) (side : Side) (rs qs : List WarpReading) → of_side side rs ≡ of_side side qs → is_ended l side rs ≡ is_ended l side qs
ended_by_side l side rs qs same =
    ends_by l side [] rs ∙ ap (λ (xs : List WarpReading). list_any (is_same side) (each_after {A = Side} (ends_at l) [] xs)) same ∙ sym (ends_by l side [] qs)

-- ---- a side's readings are those of its own sections

pub own_readings : (side : Side) (s : Run) (known own : List Section) → s.readings ≡ [] → sections_of side known ≡ sections_of side own
    → of_side side (after s known).readings ≡ of_side side (readings_of own)
own_readings side s known own none mine =
    ap (of_side side) (readings_after s known ∙ ap (λ xs. xs ++ readings_of known) none)
    ∙ side_of_readings side known ∙ ap readings_of mine ∙ sym (side_of_readings side own)

pub own_ended : (side : Side) (s : Run) (known own : List Section) → s.readings ≡ [] → sections_of side known ≡ sections_of side own
    → side_ended side (after s known) ≡ is_ended (limits_at s) side (readings_of own)
own_ended side s known own none mine =
    ap (λ (l : Limits). is_ended l side (after s known).readings) (limits_after s known)
    ∙ ended_by_side (limits_at s) side (after s known).readings (readings_of own) (own_readings side s known own none mine)

-- ---- a change tells that it was a reading

list_grows : (rs : List WarpReading) (r : WarpReading) → rs ++ r ∷ [] ≡ rs → ⊥
list_grows rs r e = let n = length_push rs r in let m = ap length e in omega arith

pub was_reading : (s : Run) (r : WarpReading) (e : Section) → change s (Read r) ≡ change s e → e ≡ Read r
was_reading s r (Read q) same = ap Read (sym (same_from_push s.readings s.readings r q (ap (λ (t : Run). t.readings) same)).1)
was_reading s r (SourceArrives time adjust) same = absurd (list_grows s.readings r (ap (λ (t : Run). t.readings) same))
was_reading s r TargetArrives same = absurd (list_grows s.readings r (ap (λ (t : Run). t.readings) same))
was_reading s r Pass same = absurd (list_grows s.readings r (ap (λ (t : Run). t.readings) same))

-- ---- what a ready seat finds

pub record Finds (lock : Lock) (side : Side) (state : Run) (now : Turn) : Type 0 where
  pub state_is : state ≡ after lock.first now.known
  pub machine : state.machine ≡ lock.first.machine
  pub tickets : state.tickets ≡ lock.first.tickets
  pub here : both_here state ≡ true
  pub going : side_ended side state ≡ false
  pub room : state.sections + 1 < 2 ^ 64

pub finds : (lock : Lock) (side : Side) (before now : Turn) (state : Run) → IsReady lock side before → Enters before state now
    → is_ended (limits_at lock.first) side (readings_of before.own) ≡ false → Finds lock side state now
finds lock side before now state ready enters going =
    let lock_is : now.lock ≡ lock = enters.lock_is ∙ ready.lock_is in
    let state_is : state ≡ after lock.first now.known = enters.state_is ∙ ap (λ (l : Lock). after l.first now.known) lock_is in
    let mine : sections_of side now.known ≡ sections_of side now.own = subst (λ (t : Side). sections_of t now.known ≡ sections_of t now.own) (enters.side_is ∙ ready.side_is) enters.mine in
    let grown : after lock.first now.known ≡ after (after lock.first before.known) enters.grown.0 =
    ap (after lock.first) (sym enters.grown.1) ∙ after_append lock.first before.known enters.grown.0 in
    record {
      state_is = state_is;
      machine = ap (λ (s : Run). s.machine) state_is ∙ machine_after lock.first now.known;
      tickets = ap (λ (s : Run). s.tickets) state_is ∙ tickets_after lock.first now.known;
      here = ap both_here (state_is ∙ grown) ∙ here_after (after lock.first before.known) enters.grown.0 ready.here;
      going = ap (side_ended side) state_is ∙ own_ended side lock.first now.known now.own ready.first_readings mine
          ∙ ap (λ (es : List Section). is_ended (limits_at lock.first) side (readings_of es)) enters.own_is ∙ going;
      room = omega (arith, ap (λ (s : Run). s.sections) state_is, count_after lock.first now.known, ready.first_sections, enters.room);
    }

-- what it may give back
may_read : (side : Side) (r : WarpReading) → r.side ≡ side → MayMake side (Read r)
may_read Source r e = ap (is_same Target) e
may_read Target r e = ap (is_same Source) e

pub changed_by : (lock : Lock) (side : Side) (before now : Turn) (state after_it : Run) (r : WarpReading) → IsReady lock side before → Enters before state now
    → IsReading state r → r.side ≡ side → after_it ≡ change state (Read r) → IsChanged now.side (after now.lock.first now.known) after_it
changed_by lock side before now state after_it r ready enters reads side_is is = record {
  section = Read r;
  fits = subst (λ (s : Run). IsReading s r) enters.state_is reads;
  may = may_read now.side r (side_is ∙ sym (enters.side_is ∙ ready.side_is));
  is = is ∙ ap (λ (s : Run). change s (Read r)) enters.state_is;
}

-- what it leaves
pub record Left (lock : Lock) (side : Side) (before final : Turn) (r : WarpReading) (state : Run) : Type 0 where
  pub ready : IsReady lock side final
  pub grown : IsPrefix before.known final.known
  pub own : final.own ≡ before.own ++ Read r ∷ []
  pub state_is : state ≡ after lock.first final.known

pub leaves : (lock : Lock) (side : Side) (before now final : Turn) (state after_it : Run) (r : WarpReading) → IsReady lock side before → Enters before state now
    → r.side ≡ side → after_it ≡ change state (Read r) → Leaves now after_it final → Left lock side before final r after_it
leaves lock side before now final state after_it r ready enters side_is is left =
    let lock_is : now.lock ≡ lock = enters.lock_is ∙ ready.lock_is in
    let was : left.section ≡ Read r = was_reading (after now.lock.first now.known) r left.section
    (sym (is ∙ ap (λ (s : Run). change s (Read r)) enters.state_is) ∙ left.state_is) in
    let known : final.known ≡ now.known ++ Read r ∷ [] = ap (λ (t : Turn). t.known) left.is ∙ ap (λ (e : Section). now.known ++ e ∷ []) was in
    let own : final.own ≡ now.own ++ Read r ∷ [] = ap (λ (t : Turn). t.own) left.is ∙ ap (λ (e : Section). now.own ++ e ∷ []) was in
    let mine_now : sections_of side now.known ≡ sections_of side now.own = subst (λ (t : Side). sections_of t now.known ≡ sections_of t now.own) (enters.side_is ∙ ready.side_is) enters.mine in
    let grown : IsPrefix before.known final.known = subst (λ (es : List Section). IsPrefix before.known es) (sym known) (prefix_push before.known now.known (Read r) enters.grown) in
    let state_is : after_it ≡ after lock.first final.known =
    is ∙ ap (λ (s : Run). change s (Read r)) (enters.state_is ∙ ap (λ (l : Lock). after l.first now.known) lock_is)
    ∙ sym (after_push lock.first now.known (Read r)) ∙ ap (after lock.first) (sym known) in
    let here_grown : after lock.first final.known ≡ after (after lock.first before.known) grown.0 =
    ap (after lock.first) (sym grown.1) ∙ after_append lock.first before.known grown.0 in
    record {
      ready = record {
        lock_is = ap (λ (t : Turn). t.lock) left.is ∙ lock_is;
        side_is = ap (λ (t : Turn). t.side) left.is ∙ enters.side_is ∙ ready.side_is;
        outside = ap (λ (t : Turn). t.inside) left.is;
        first_readings = ready.first_readings;
        first_sections = ready.first_sections;
        here = ap both_here here_grown ∙ here_after (after lock.first before.known) grown.0 ready.here;
        mine = ap (sections_of side) known ∙ both_push side now.known now.own (Read r) mine_now ∙ sym (ap (sections_of side) own);
      };
      grown = grown;
      own = own ∙ ap (λ (es : List Section). es ++ Read r ∷ []) enters.own_is;
      state_is = state_is;
    }

-- ---- how many readings a side made

pub readings_append : (es ds : List Section) → readings_of (es ++ ds) ≡ readings_of es ++ readings_of ds
readings_append [] ds = refl
readings_append (Read r ∷ es) ds = ap (λ rs. r ∷ rs) (readings_append es ds)
readings_append (SourceArrives time adjust ∷ es) ds = readings_append es ds
readings_append (TargetArrives ∷ es) ds = readings_append es ds
readings_append (Pass ∷ es) ds = readings_append es ds

pub one_more : (side : Side) (es : List Section) (r : WarpReading) → r.side ≡ side
    → length (of_side side (readings_of (es ++ Read r ∷ []))) ≡ length (of_side side (readings_of es)) + 1
one_more side es r e =
    let mine : is_same side r.side ≡ true = ap (is_same side) e ∙ same_side side in
    ap (λ rs. length (of_side side rs)) (readings_append es (Read r ∷ []))
    ∙ ap length (of_side_mine side (readings_of es) r mine) ∙ length_push (of_side side (readings_of es)) r
