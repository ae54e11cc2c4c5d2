-- The readings of a watchdog are right by the records that it has seen of each CPU, which only grow, and the records
-- that its stamps name of a CPU do not go back.
use Rattle.std.proofs.Common.{◌≡◌, ℕ, ◌+◌, ◌<◌, ◌≤◌, ℤ, Bool, true, false, List, [], ◌∷◌, ◌++◌, map, length, ap, ◌∙◌, sym, refl, subst, arith, Option, Some, None}
use Rattle.std.specs.List.{All, flat_map}
use Rattle.std.specs.Prelude.{◌==◌, cond}
use Rattle.std.proofs.lemmas.Bool.{eqb-true}
use Rattle.std.proofs.lemmas.Nat.{mod_below}
use Rattle.std.proofs.lemmas.List.{map-append, length-set, get_or-set_same, get_or-set_other}
use Rattle.std.proofs.lemmas.List.Elements.{All-nil, All-cons, All-append}
use mathlib.Core.Logic.{dite}
use mathlib.Core.List.{IsPrefix}
use native.Mathlib.Decide.{ℕ_discrete}
use Rattle.clk_base.specs.Walk.{EachFrom, flat_from}
use Rattle.clk_machine.specs.Plan.{Plan, cpu_count}
use Rattle.clk_machine.specs.Time.{gtod_at}
use Rattle.clk_machine.specs.Records.{IsRightReading}
use Rattle.clk_machine.specs.declared.reading.RawReading.{RawReading}
use Rattle.clk_machine.specs.declared.reading.Published.{Published}
use Rattle.clk_record.specs.declared.stable.StableStamp.{StableStamp}
use Rattle.clk_record.specs.declared.stable.Demotion.{Demotion}
use Rattle.clk_lawful.specs.Checks.{Visit, Check, listed}
use Rattle.clk_lawful.specs.RightReadings.{taken_stamp, stamps_in, IsRightVisit, check_cpu, named_in, NeverFall}
use Rattle.clk_latch.specs.Epoch.{Epoch}
use Rattle.clk_latch.proofs.Prefixes.{prefix_self, prefix_trans, prefix_length}
use Rattle.clk_latch.proofs.Staying.{stay_right}
use Rattle.clk_demote.specs.Context.{Site, Known}
use Rattle.clk_demote.specs.Shows.{adjust_at, TakesStamp}
use Rattle.clk_demote.specs.Stamping.{epoch_at, ReadsAt}
use Rattle.clk_watcher.specs.Checking.{StampsAt, DemotesAt, WatchesVisit, WatchesVisits, WatchesCheck, Watches}

-- what was seen of each CPU's records begins what is seen
pub record Grows (v w : Known) : Type 0 where
  pub count : length w.epochs ≡ length v.epochs
  pub each : (c : ℕ) → IsPrefix (epoch_at v.epochs c).records (epoch_at w.epochs c).records

grows_same : (v w : Known) → w.epochs ≡ v.epochs → Grows v w
grows_same v w same =
    record {
      count = ap length same;
      each = λ c. subst (λ (es : List Epoch). IsPrefix (epoch_at v.epochs c).records (epoch_at es c).records) (sym same) (prefix_self (epoch_at v.epochs c).records);
    }

grows_then : (u v w : Known) → Grows u v → Grows v w → Grows u w
grows_then u v w g h =
    record {
      count = h.count ∙ g.count;
      each = λ c. prefix_trans (epoch_at u.epochs c).records (epoch_at v.epochs c).records (epoch_at w.epochs c).records (g.each c) (h.each c);
    }

-- ---- a reading

-- the latch that was read has what the reading left
read_here : (m : Plan) (cpu : ℕ) (adjust : ℤ) (before after : List Epoch) (r : RawReading) (h : ReadsAt m cpu adjust before after r) → cpu < length before
    → epoch_at after cpu ≡ h.epoch
read_here m cpu adjust before after r h low =
    ap (λ (es : List Epoch). epoch_at es cpu) h.after_is ∙ get_or-set_same before cpu h.epoch (record { owner = false; left = 0; records = []; begins = [] }) low

read_grows : (m : Plan) (cpu : ℕ) (adjust : ℤ) (before after : List Epoch) (r : RawReading) → ReadsAt m cpu adjust before after r → cpu < length before
    → (c : ℕ) → IsPrefix (epoch_at before c).records (epoch_at after c).records
read_grows m cpu adjust before after r h low c =
    dite (ℕ_discrete c cpu)
    (λ e. subst (λ k. IsPrefix (epoch_at before k).records (epoch_at after k).records) (sym e)
    (subst (λ (x : Epoch). IsPrefix (epoch_at before cpu).records x.records) (sym (read_here m cpu adjust before after r h low)) h.reads.seen))
    (λ ne. let same : epoch_at after c ≡ epoch_at before c =
    ap (λ (es : List Epoch). epoch_at es c) h.after_is
    ∙ get_or-set_other before cpu c h.epoch (record { owner = false; left = 0; records = []; begins = [] }) ne in
    subst (λ (x : Epoch). IsPrefix (epoch_at before c).records x.records) (sym same) (prefix_self (epoch_at before c).records))

takes_grows : (z : Site) (cpu : ℕ) (v : Known) (gtod_ticket : ℕ) (gtod : ℤ) (raw : RawReading) (w : Known)
    → TakesStamp z cpu v gtod_ticket gtod raw w.epochs w.time → cpu < length v.epochs → Grows v w
takes_grows z cpu v gtod_ticket gtod raw w h low =
    record {
      count = ap length h.reads.after_is ∙ length-set v.epochs cpu h.reads.epoch;
      each = read_grows z.machine cpu (adjust_at z cpu) v.epochs w.epochs raw h.reads low;
    }

-- it is right by any records that begin with those seen then
takes_right : (z : Site) (cpu : ℕ) (v : Known) (gtod_ticket : ℕ) (gtod : ℤ) (raw : RawReading) (w : Known) (records : List Published)
    → TakesStamp z cpu v gtod_ticket gtod raw w.epochs w.time → cpu < length v.epochs → IsPrefix (epoch_at w.epochs cpu).records records
    → (gtod ≡ gtod_at z.machine gtod_ticket) × IsRightReading z.machine cpu (adjust_at z cpu) records raw
takes_right z cpu v gtod_ticket gtod raw w records h low begins =
    let here = read_here z.machine cpu (adjust_at z cpu) v.epochs w.epochs raw h.reads low in
    (h.gtod_is, stay_right z.machine cpu (adjust_at z cpu) h.reads.epoch.records records raw (subst (λ (x : Epoch). IsPrefix x.records records) here begins) h.reads.reads.right)

-- ---- growing

stamp_grows : (z : Site) (cpu : ℕ) (v : Known) (s : Option StableStamp) (w : Known) → StampsAt z cpu v s w → cpu < length v.epochs → Grows v w
stamp_grows z cpu v None w h low = grows_same v w (sym (ap (λ (k : Known). k.epochs) h))
stamp_grows z cpu v (Some s) w h low = takes_grows z cpu v s.gtod_ticket s.gtod s.raw w h.takes low

demotion_grows : (z : Site) (cpu check : ℕ) (v : Known) (d : Option Demotion) (w : Known) → DemotesAt z cpu check v d w → cpu < length v.epochs → Grows v w
demotion_grows z cpu check v None w h low = grows_same v w (sym (ap (λ (k : Known). k.epochs) h))
demotion_grows z cpu check v (Some d) w h low = takes_grows z cpu v d.gtod_ticket d.gtod d.raw w h.takes low

within : (v w : Known) (cpu : ℕ) → Grows v w → cpu < length v.epochs → cpu < length w.epochs
within v w cpu g low = subst (λ n. cpu < n) (sym g.count) low

-- what a visit's parts leave
pub record VisitGrows (v t u w : Known) (cpu : ℕ) : Type 0 where
  pub first : Grows v t
  pub stamp : Grows t u
  pub demotion : Grows u w
  pub whole : Grows v w
  pub low_first : cpu < length t.epochs
  pub low_stamp : cpu < length u.epochs

visit_parts : (z : Site) (cpu check : ℕ) (v : Known) (visit : Visit) (w : Known) (h : WatchesVisit z cpu check v visit w) → cpu < length v.epochs → VisitGrows v h.0 h.1 w cpu
visit_parts z cpu check v visit w h low =
    let first = grows_same v h.0 (ap (λ (k : Known). k.epochs) h.2.rest) in
    let low_first = within v h.0 cpu first low in
    let stamp = stamp_grows z cpu h.0 visit.stamp h.1 h.3 low_first in
    let low_stamp = within h.0 h.1 cpu stamp low_first in
    let demotion = demotion_grows z cpu check h.1 visit.demotion w h.4 low_stamp in
    record {
      first = first;
      stamp = stamp;
      demotion = demotion;
      whole = grows_then v h.0 w first (grows_then h.0 h.1 w stamp demotion);
      low_first = low_first;
      low_stamp = low_stamp;
    }

visits_grow : (z : Site) (cpu check : ℕ) (v : Known) (visits : List Visit) (w : Known) → WatchesVisits z cpu check v visits w → cpu < length v.epochs → Grows v w
visits_grow z cpu check v [] w h low = grows_same v w (sym (ap (λ (k : Known). k.epochs) h))
visits_grow z cpu check v (visit ∷ visits) w h low =
    let here = (visit_parts z cpu check v visit h.0 h.1 low).whole in
    grows_then v h.0 w here (visits_grow z cpu check h.0 visits w h.2 (within v h.0 cpu here low))

pause_grows : (z : Site) (number : ℕ) (v : Known) (c : Check) (w : Known) (h : WatchesCheck z number v c w) → Grows v h.0
pause_grows z number v c w h = grows_same v h.0 (ap (λ (k : Known). k.epochs) h.1.rest)

check_grows : (z : Site) (number : ℕ) (v : Known) (c : Check) (w : Known) → WatchesCheck z number v c w → check_cpu z.machine number < length v.epochs → Grows v w
check_grows z number v c w h low =
    let pause = pause_grows z number v c w h in
    grows_then v h.0 w pause
    (visits_grow z (check_cpu z.machine number) number h.0 c.visits w h.2 (within v h.0 (check_cpu z.machine number) pause low))

-- there is a seat of each CPU of a check
pub cpu_there : (m : Plan) (number n : ℕ) → 0 < cpu_count m → n ≡ cpu_count m → check_cpu m number < n
cpu_there m number n some count = subst (λ k. check_cpu m number < k) (sym count) (mod_below number (cpu_count m) some)

pub watches_grow : (z : Site) (number : ℕ) (v : Known) (checks : List Check) (w : Known) → Watches z number v checks w → 0 < cpu_count z.machine
    → length v.epochs ≡ cpu_count z.machine → Grows v w
watches_grow z number v [] w h some count = grows_same v w (sym (ap (λ (k : Known). k.epochs) h))
watches_grow z number v (c ∷ checks) w h some count =
    let here = check_grows z number v c h.0 h.1 (cpu_there z.machine number (length v.epochs) some count) in
    grows_then v h.0 w here (watches_grow z (number + 1) h.0 checks w h.2 some (here.count ∙ count))

-- ---- right readings

abbrev IsRightStampOf : Plan → ℕ → ℤ → List Published → StableStamp → Type 0
IsRightStampOf m cpu adjust records s = (s.gtod ≡ gtod_at m s.gtod_ticket) × IsRightReading m cpu adjust records s.raw

stamp_right : (z : Site) (cpu : ℕ) (v : Known) (s : Option StableStamp) (w : Known) (records : List Published) → StampsAt z cpu v s w → cpu < length v.epochs
    → IsPrefix (epoch_at w.epochs cpu).records records → All (λ s. (s.gtod ≡ gtod_at z.machine s.gtod_ticket) × IsRightReading z.machine cpu (adjust_at z cpu) records s.raw) (listed s)
stamp_right z cpu v None w records h low begins = All-nil (IsRightStampOf z.machine cpu (adjust_at z cpu) records)
stamp_right z cpu v (Some s) w records h low begins =
    All-cons (IsRightStampOf z.machine cpu (adjust_at z cpu) records) s [] (takes_right z cpu v s.gtod_ticket s.gtod s.raw w records h.takes low begins)
    (All-nil (IsRightStampOf z.machine cpu (adjust_at z cpu) records))

demotion_right : (z : Site) (cpu check : ℕ) (v : Known) (d : Option Demotion) (w : Known) (records : List Published) → DemotesAt z cpu check v d w → cpu < length v.epochs
    → IsPrefix (epoch_at w.epochs cpu).records records
    → All (λ s. (s.gtod ≡ gtod_at z.machine s.gtod_ticket) × IsRightReading z.machine cpu (adjust_at z cpu) records s.raw) (map taken_stamp (listed d))
demotion_right z cpu check v None w records h low begins = All-nil (IsRightStampOf z.machine cpu (adjust_at z cpu) records)
demotion_right z cpu check v (Some d) w records h low begins =
    All-cons (IsRightStampOf z.machine cpu (adjust_at z cpu) records) (taken_stamp d) []
    (takes_right z cpu v d.gtod_ticket d.gtod d.raw w records h.takes low begins) (All-nil (IsRightStampOf z.machine cpu (adjust_at z cpu) records))

visit_right : (z : Site) (cpu check : ℕ) (v : Known) (visit : Visit) (w : Known) (records : List Published) → WatchesVisit z cpu check v visit w → cpu < length v.epochs
    → IsPrefix (epoch_at w.epochs cpu).records records → IsRightVisit z.machine cpu (adjust_at z cpu) records visit
visit_right z cpu check v visit w records h low begins =
    let parts = visit_parts z cpu check v visit w h low in
    let begins_before = prefix_trans (epoch_at h.1.epochs cpu).records (epoch_at w.epochs cpu).records records (parts.demotion.each cpu) begins in
    record {
      attempts = h.2.right;
      stamps = All-append (IsRightStampOf z.machine cpu (adjust_at z cpu) records) (listed visit.stamp) (map taken_stamp (listed visit.demotion))
          (stamp_right z cpu h.0 visit.stamp h.1 records h.3 parts.low_first begins_before)
          (demotion_right z cpu check h.1 visit.demotion w records h.4 parts.low_stamp begins);
    }

visits_right : (z : Site) (cpu check : ℕ) (v : Known) (visits : List Visit) (w : Known) (records : List Published) → WatchesVisits z cpu check v visits w → cpu < length v.epochs
    → IsPrefix (epoch_at w.epochs cpu).records records → All (IsRightVisit z.machine cpu (adjust_at z cpu) records) visits
visits_right z cpu check v [] w records h low begins = All-nil (IsRightVisit z.machine cpu (adjust_at z cpu) records)
visits_right z cpu check v (visit ∷ visits) w records h low begins =
    let here = (visit_parts z cpu check v visit h.0 h.1 low).whole in
    let low_next = within v h.0 cpu here low in
    let rest = visits_grow z cpu check h.0 visits w h.2 low_next in
    All-cons (IsRightVisit z.machine cpu (adjust_at z cpu) records) visit visits
    (visit_right z cpu check v visit h.0 records h.1 low (prefix_trans (epoch_at h.0.epochs cpu).records (epoch_at w.epochs cpu).records records (rest.each cpu) begins))
    (visits_right z cpu check h.0 visits w records h.2 low_next begins)

pub watches_right : (z : Site) (number : ℕ) (v : Known) (checks : List Check) (w : Known) (records : ℕ → List Published) → Watches z number v checks w → 0 < cpu_count z.machine
    → length v.epochs ≡ cpu_count z.machine → ((c : ℕ) → c < cpu_count z.machine → IsPrefix (epoch_at w.epochs c).records (records c))
    → EachFrom (λ n c. All (IsRightVisit z.machine (check_cpu z.machine n) (adjust_at z (check_cpu z.machine n)) (records (check_cpu z.machine n))) c.visits) number checks
watches_right z number v [] w records h some count begins = tt
watches_right z number v (c ∷ checks) w records h some count begins =
    let cpu = check_cpu z.machine number in
    let low = cpu_there z.machine number (length v.epochs) some count in
    let pause = pause_grows z number v c h.0 h.1 in
    let here = check_grows z number v c h.0 h.1 low in
    let rest = watches_grow z (number + 1) h.0 checks w h.2 some (here.count ∙ count) in
    let below : cpu < cpu_count z.machine = subst (λ n. cpu < n) count low in (
      visits_right z cpu number h.1.0 c.visits h.0 (records cpu) h.1.2 (within v h.1.0 cpu pause low)
          (prefix_trans (epoch_at h.0.epochs cpu).records (epoch_at w.epochs cpu).records (records cpu) (rest.each cpu) (begins cpu below)),
      watches_right z (number + 1) h.0 checks w records h.2 some (here.count ∙ count) begins,
    )

-- ---- the records that its stamps name

-- a number below the last record that was seen of the CPU
abbrev IsOld : ℕ → ℕ → Known → Type 0
IsOld c low v = (r : ℕ) → length (epoch_at v.epochs c).records ≤ r + 1 → low ≤ r

old_grown : (c low : ℕ) (v w : Known) → Grows v w → IsOld c low v → IsOld c low w
old_grown c low v w g old r high =
    let grown = prefix_length (epoch_at v.epochs c).records (epoch_at w.epochs c).records (g.each c) in
    old r (omega (arith, grown, high))

abbrev last_named : ℕ → List ℕ → ℕ
last_named low [] = low
last_named low (n ∷ ns) = last_named n ns

named_both : (low : ℕ) (xs ys : List ℕ) → last_named low (xs ++ ys) ≡ last_named (last_named low xs) ys
named_both low [] ys = refl
named_both low (x ∷ xs) ys = named_both x xs ys

never_both : (low : ℕ) (xs ys : List ℕ) → NeverFall low xs → NeverFall (last_named low xs) ys → NeverFall low (xs ++ ys)
never_both low [] ys first second = second
never_both low (x ∷ xs) ys first second = (first.0, never_both x xs ys first.1 second)

-- from v to w these numbers of the records of a CPU were named, and none below one before it
pub record NamesOf (c : ℕ) (v : Known) (ns : List ℕ) (w : Known) : Type 0 where
  pub never : (low : ℕ) → IsOld c low v → NeverFall low ns
  pub last : (low : ℕ) → IsOld c low v → IsOld c (last_named low ns) w

names_none : (c : ℕ) (v w : Known) → Grows v w → NamesOf c v [] w
names_none c v w g = record { never = λ low old. tt; last = λ low old. old_grown c low v w g old }

names_then : (c : ℕ) (u v w : Known) (xs ys : List ℕ) → NamesOf c u xs v → NamesOf c v ys w → NamesOf c u (xs ++ ys) w
names_then c u v w xs ys f g =
    record {
      never = λ low old. never_both low xs ys (f.never low old) (g.never (last_named low xs) (f.last low old));
      last = λ low old. subst (λ n. IsOld c n w) (sym (named_both low xs ys)) (g.last (last_named low xs) (f.last low old));
    }

takes_names : (z : Site) (cpu : ℕ) (v : Known) (gtod_ticket : ℕ) (gtod : ℤ) (raw : RawReading) (w : Known)
    → TakesStamp z cpu v gtod_ticket gtod raw w.epochs w.time → cpu < length v.epochs → NamesOf cpu v (raw.rec ∷ []) w
takes_names z cpu v gtod_ticket gtod raw w h low =
    let here = read_here z.machine cpu (adjust_at z cpu) v.epochs w.epochs raw h.reads low in
    let count : length (epoch_at w.epochs cpu).records ≡ raw.rec + 1 = ap (λ (x : Epoch). length x.records) here ∙ h.reads.reads.last in
    let grown = prefix_length (epoch_at v.epochs cpu).records h.reads.epoch.records h.reads.reads.seen in
    record {
      never = λ n old. (old raw.rec (omega (arith, grown, h.reads.reads.last)), tt);
      last = λ n old r high. omega (arith, count, high);
    }

stamp_names : (z : Site) (cpu : ℕ) (v : Known) (s : Option StableStamp) (w : Known) → StampsAt z cpu v s w → cpu < length v.epochs
    → NamesOf cpu v (map (λ s. s.raw.rec) (listed s)) w
stamp_names z cpu v None w h low = names_none cpu v w (grows_same v w (sym (ap (λ (k : Known). k.epochs) h)))
stamp_names z cpu v (Some s) w h low = takes_names z cpu v s.gtod_ticket s.gtod s.raw w h.takes low

demotion_names : (z : Site) (cpu check : ℕ) (v : Known) (d : Option Demotion) (w : Known) → DemotesAt z cpu check v d w → cpu < length v.epochs
    → NamesOf cpu v (map (λ s. s.raw.rec) (map taken_stamp (listed d))) w
demotion_names z cpu check v None w h low = names_none cpu v w (grows_same v w (sym (ap (λ (k : Known). k.epochs) h)))
demotion_names z cpu check v (Some d) w h low = takes_names z cpu v d.gtod_ticket d.gtod d.raw w h.takes low

visit_names : (z : Site) (cpu check : ℕ) (v : Known) (visit : Visit) (w : Known) → WatchesVisit z cpu check v visit w → cpu < length v.epochs
    → NamesOf cpu v (map (λ s. s.raw.rec) (stamps_in visit)) w
visit_names z cpu check v visit w h low =
    let parts = visit_parts z cpu check v visit w h low in
    subst (λ ns. NamesOf cpu v ns w) (sym (map-append (λ (s : StableStamp). s.raw.rec) (listed visit.stamp) (map taken_stamp (listed visit.demotion))))
    (names_then cpu v h.0 w [] (map (λ s. s.raw.rec) (listed visit.stamp) ++ map (λ s. s.raw.rec) (map taken_stamp (listed visit.demotion)))
    (names_none cpu v h.0 parts.first)
    (names_then cpu h.0 h.1 w (map (λ s. s.raw.rec) (listed visit.stamp)) (map (λ s. s.raw.rec) (map taken_stamp (listed visit.demotion)))
    (stamp_names z cpu h.0 visit.stamp h.1 h.3 parts.low_first) (demotion_names z cpu check h.1 visit.demotion w h.4 parts.low_stamp)))

visits_names : (z : Site) (cpu check : ℕ) (v : Known) (visits : List Visit) (w : Known) → WatchesVisits z cpu check v visits w → cpu < length v.epochs
    → NamesOf cpu v (map (λ s. s.raw.rec) (flat_map stamps_in visits)) w
visits_names z cpu check v [] w h low = names_none cpu v w (grows_same v w (sym (ap (λ (k : Known). k.epochs) h)))
visits_names z cpu check v (visit ∷ visits) w h low =
    let here = (visit_parts z cpu check v visit h.0 h.1 low).whole in
    subst (λ ns. NamesOf cpu v ns w) (sym (map-append (λ (s : StableStamp). s.raw.rec) (stamps_in visit) (flat_map stamps_in visits)))
    (names_then cpu v h.0 w (map (λ s. s.raw.rec) (stamps_in visit)) (map (λ s. s.raw.rec) (flat_map stamps_in visits))
    (visit_names z cpu check v visit h.0 h.1 low) (visits_names z cpu check h.0 visits w h.2 (within v h.0 cpu here low)))

check_names : (z : Site) (c number : ℕ) (v : Known) (check : Check) (w : Known) → WatchesCheck z number v check w → check_cpu z.machine number < length v.epochs
    → (b : Bool) → (check_cpu z.machine number == c) ≡ b
    → NamesOf c v (cond b (map (λ s. s.raw.rec) (flat_map stamps_in check.visits)) []) w
check_names z c number v check w h low true e =
    let cpu = check_cpu z.machine number in
    let pause = pause_grows z number v check w h in
    subst (λ k. NamesOf k v (map (λ s. s.raw.rec) (flat_map stamps_in check.visits)) w) (eqb-true cpu c e)
    (names_then cpu v h.0 w [] (map (λ s. s.raw.rec) (flat_map stamps_in check.visits)) (names_none cpu v h.0 pause)
    (visits_names z cpu number h.0 check.visits w h.2 (within v h.0 cpu pause low)))
check_names z c number v check w h low false e = names_none c v w (check_grows z number v check w h low)

pub watches_names : (z : Site) (c number : ℕ) (v : Known) (checks : List Check) (w : Known) → Watches z number v checks w → 0 < cpu_count z.machine
    → length v.epochs ≡ cpu_count z.machine → NamesOf c v (flat_from (named_in z.machine c) number checks) w
watches_names z c number v [] w h some count = names_none c v w (grows_same v w (sym (ap (λ (k : Known). k.epochs) h)))
watches_names z c number v (check ∷ checks) w h some count =
    let low = cpu_there z.machine number (length v.epochs) some count in
    let here = check_grows z number v check h.0 h.1 low in
    names_then c v h.0 w (named_in z.machine c number check) (flat_from (named_in z.machine c) (number + 1) checks)
    (check_names z c number v check h.0 h.1 low (check_cpu z.machine number == c) refl)
    (watches_names z c (number + 1) h.0 checks w h.2 some (here.count ∙ count))

pub watches_later : (z : Site) (c number : ℕ) (v : Known) (checks : List Check) (w : Known) → Watches z number v checks w → 0 < cpu_count z.machine
    → length v.epochs ≡ cpu_count z.machine → NeverFall 0 (flat_from (named_in z.machine c) number checks)
watches_later z c number v checks w h some count = (watches_names z c number v checks w h some count).never 0 (λ r high. omega arith)
