-- The checks that a trace's lists are cut into are those that were made.
use Rattle.std.proofs.Common.{◌≡◌, ℕ, suc, ◌+◌, ◌-◌, ◌≤◌, Option, Some, None, List, [], ◌∷◌, ◌++◌, map, take, drop, length, inl, inr, refl, sym, ◌∙◌, ap, subst, arith, append_assoc, length-append}
use Rattle.std.specs.Prelude.{Bool, true, false, ◌&&◌, is_some, ◌⊎◌, if◌then◌else◌}
use Rattle.std.specs.List.{All, flat_map}
use Rattle.std.proofs.Math.Seq.{take-append_seam, drop-append_seam}
use Rattle.std.proofs.lemmas.List.{append-nil}
use Rattle.std.proofs.lemmas.List.Concat.{flat_map-cons}
use Rattle.std.proofs.lemmas.List.Elements.{All-nil, All-cons}
use Rattle.clk_record.specs.declared.attempt.Attempt.{Attempt}
use Rattle.clk_record.specs.declared.visit.SourceRecord.{SourceRecord}
use Rattle.clk_record.specs.Fold.{attempts_of}
use Rattle.clk_record.specs.declared.stable.StableStamp.{StableStamp}
use Rattle.clk_record.specs.declared.stable.Demotion.{Demotion}
use Rattle.clk_words.specs.declared.opening.Start.{Start}
use Rattle.clk_lawful.specs.Checks.{Visit, Check, listed, first_of, visit_by, visits_from, checks_from}
use Rattle.clk_lawful.specs.RightReadings.{NeverFall}
use Rattle.clk_lawful.specs.Watchdog.{NamesAll}
use Rattle.clk_demote.specs.Lifts.{lifts_of}
use Rattle.clk_watcher.specs.VisitsKept.{AreNamed, lifts_in, demoted_after, ends_from, visits_in}
use Rattle.clk_watcher.proofs.Called.{NoneIn, AllCalled, demoted_here}

-- ---- the demotion of some visits

-- each is none, or is this one
abbrev pub EachOf : Option Demotion → List Visit → Type 0
EachOf d [] = Unit {0}
EachOf d (v ∷ visits) = ((v.demotion ≡ None) ⊎ (v.demotion ≡ d)) × EachOf d visits

abbrev demotions_in : List Visit → List Demotion
demotions_in visits = flat_map (λ v. listed v.demotion) visits

-- none was listed
pub none_listed : (xs : List Visit) → [] ≡ demotions_in xs → NoneIn xs
none_listed [] e = tt
none_listed (v ∷ xs) e = by v.demotion refl (none_listed xs)
  where
    open_e : [] ≡ listed v.demotion ++ demotions_in xs
    open_e = e ∙ flat_map-cons (λ (x : Visit). listed x.demotion) v xs

    by : (o : Option Demotion) → v.demotion ≡ o → ([] ≡ demotions_in xs → NoneIn xs) → (is_some v.demotion ≡ false) × NoneIn xs
    by None q next = (ap is_some q, next (subst (λ o. [] ≡ listed o ++ demotions_in xs) q open_e))
    by (Some d) q next = absurd (let h : [] ≡ d ∷ demotions_in xs = subst (λ o. [] ≡ listed o ++ demotions_in xs) q open_e in cc)

each_none : (d : Option Demotion) (xs : List Visit) → NoneIn xs → EachOf d xs
each_none d [] h = tt
each_none d (v ∷ xs) h = (inl (by v.demotion h.0), each_none d xs h.1)
  where
    by : (o : Option Demotion) → is_some o ≡ false → o ≡ None
    by None e = refl
    by (Some x) e = absurd (cc)

-- there is at most one
one_listed : (d : Option Demotion) (x : Demotion) (rest : List Demotion) → listed d ≡ x ∷ rest → (d ≡ Some x) × (rest ≡ [])
one_listed None x rest e = absurd (cc)
one_listed (Some d) x rest e = (cc, cc)

pub each_of : (d : Option Demotion) (xs : List Visit) → listed d ≡ demotions_in xs → EachOf d xs
each_of d [] e = tt
each_of d (v ∷ xs) e = by v.demotion refl (each_of d xs)
  where
    open_e : listed d ≡ listed v.demotion ++ demotions_in xs
    open_e = e ∙ flat_map-cons (λ (x : Visit). listed x.demotion) v xs

    by : (o : Option Demotion) → v.demotion ≡ o → (listed d ≡ demotions_in xs → EachOf d xs) → EachOf d (v ∷ xs)
    by None q next = (inl q, next (subst (λ o. listed d ≡ listed o ++ demotions_in xs) q open_e))
    by (Some x) q next =
        let one = one_listed d x (demotions_in xs) (subst (λ o. listed d ≡ listed o ++ demotions_in xs) q open_e) in
        (inr (q ∙ sym one.0), each_none d xs (none_listed xs (sym one.1)))

-- its lifts are those of all visits
pub lifts_listed : (number : ℕ) (start : Start) (check cpus : ℕ) (d : Option Demotion) (xs : List Visit) → listed d ≡ demotions_in xs
    → flat_map (λ v. lifts_in number start check cpus v.demotion) xs ≡ lifts_in number start check cpus d
lifts_listed number start check cpus None [] e = refl
lifts_listed number start check cpus (Some d) [] e = absurd (cc)
lifts_listed number start check cpus d (v ∷ xs) e = flat_map-cons (λ (x : Visit). lifts_in number start check cpus x.demotion) v xs ∙ by v.demotion refl (λ o h. lifts_listed number start check cpus o xs h)
  where
    open_e : listed d ≡ listed v.demotion ++ demotions_in xs
    open_e = e ∙ flat_map-cons (λ (x : Visit). listed x.demotion) v xs

    by : (o : Option Demotion) → v.demotion ≡ o
        → ((c : Option Demotion) → listed c ≡ demotions_in xs → flat_map (λ x. lifts_in number start check cpus x.demotion) xs ≡ lifts_in number start check cpus c)
        → lifts_in number start check cpus v.demotion ++ flat_map (λ x. lifts_in number start check cpus x.demotion) xs ≡ lifts_in number start check cpus d
    by None q next =
        subst (λ o. lifts_in number start check cpus o ++ flat_map (λ x. lifts_in number start check cpus x.demotion) xs ≡ lifts_in number start check cpus d) (sym q)
        (next d (subst (λ o. listed d ≡ listed o ++ demotions_in xs) q open_e))
    by (Some x) q next =
        let one = one_listed d x (demotions_in xs) (subst (λ o. listed d ≡ listed o ++ demotions_in xs) q open_e) in
        let rest : flat_map (λ (y : Visit). lifts_in number start check cpus y.demotion) xs ≡ [] = next None (sym one.1) in
        subst (λ o. lifts_in number start check cpus o ++ flat_map (λ y. lifts_in number start check cpus y.demotion) xs ≡ lifts_in number start check cpus d) (sym q)
        (subst (λ o. lifts_of number start check x.opening cpus ++ flat_map (λ y. lifts_in number start check cpus y.demotion) xs ≡ lifts_in number start check cpus o) (sym one.0)
        (ap (λ l. lifts_of number start check x.opening cpus ++ l) rest ∙ append-nil (lifts_of number start check x.opening cpus)))

-- and its check is this one
pub demoted_listed : (check n : ℕ) (d : Demotion) (xs : List Visit) → d ∷ [] ≡ demotions_in xs → demoted_after check xs n ≡ check
demoted_listed check n d [] e = absurd (cc)
demoted_listed check n d (v ∷ xs) e = by v.demotion refl (demoted_listed check n d xs)
  where
    open_e : d ∷ [] ≡ listed v.demotion ++ demotions_in xs
    open_e = e ∙ flat_map-cons (λ (x : Visit). listed x.demotion) v xs

    by : (o : Option Demotion) → v.demotion ≡ o → (d ∷ [] ≡ demotions_in xs → demoted_after check xs n ≡ check) → demoted_after check xs (if is_some v.demotion then check else n) ≡ check
    by None q next =
        subst (λ o. demoted_after check xs (if is_some o then check else n) ≡ check) (sym q)
        (next (subst (λ o. d ∷ [] ≡ listed o ++ demotions_in xs) q open_e))
    by (Some x) q next = subst (λ o. demoted_after check xs (if is_some o then check else n) ≡ check) (sym q) (demoted_here check xs)

-- ---- one visit

stamp_step : (stable current : Bool) (o : Option StableStamp) (rest : List StableStamp) → is_some o ≡ (stable && current) → (stable ≡ false → rest ≡ [])
    → ((if current then first_of (listed o ++ rest) else None) ≡ o) × ((if current then drop 1 (listed o ++ rest) else listed o ++ rest) ≡ rest)
stamp_step stable true (Some s) rest e h = (refl, refl)
stamp_step true true None rest e h = absurd (cc)
stamp_step false true None rest e h = let nil = h refl in (ap first_of nil, ap (drop 1) nil ∙ sym nil)
stamp_step stable false None rest e h = (refl, refl)
stamp_step true false (Some s) rest e h = absurd (cc)
stamp_step false false (Some s) rest e h = absurd (cc)

demotion_step : (stable demoted : Bool) (o d : Option Demotion) → is_some o ≡ (stable && demoted) → (o ≡ None) ⊎ (o ≡ d) → (stable ≡ false → d ≡ None)
    → (if demoted then d else None) ≡ o
demotion_step stable true (Some x) d e (inl q) h = absurd (cc)
demotion_step stable true (Some x) d e (inr q) h = sym q
demotion_step true true None d e q h = absurd (cc)
demotion_step false true None d e q h = h refl
demotion_step stable false None d e q h = refl
demotion_step true false (Some x) d e q h = absurd (cc)
demotion_step false false (Some x) d e q h = absurd (cc)

-- without a stable clock there are no stamps
no_stamps : (xs : List Visit) → AllCalled false xs → flat_map (λ v. listed v.stamp) xs ≡ []
no_stamps [] h = refl
no_stamps (v ∷ xs) h = flat_map-cons (λ (x : Visit). listed x.stamp) v xs ∙ by v.stamp h.0 (no_stamps xs h.2)
  where
    by : (o : Option StableStamp) → is_some o ≡ false → flat_map (λ x. listed x.stamp) xs ≡ [] → listed o ++ flat_map (λ x. listed x.stamp) xs ≡ []
    by None e rest = rest
    by (Some s) e rest = absurd (cc)

-- the attempts that a record names
named_here : (before made rest : List Attempt) (r : SourceRecord) → r.first ≡ length before → r.count ≡ length made → attempts_of (before ++ (made ++ rest)) r ≡ made
named_here before made rest r first count =
    ap (λ n. take r.count (drop n (before ++ (made ++ rest)))) first
    ∙ ap (take r.count) (drop-append_seam before (made ++ rest)) ∙ ap (λ n. take n (made ++ rest)) count ∙ take-append_seam made rest

-- ---- all visits

pub cut_visits : (stable : Bool) (before attempts : List Attempt) (d : Option Demotion) (xs : List Visit) (m : ℕ) → attempts ≡ before ++ flat_map (λ v. v.attempts) xs
    → AreNamed (length before) xs m → AllCalled stable xs → EachOf d xs → (stable ≡ false → d ≡ None)
    → visits_from attempts d (flat_map (λ v. listed v.stamp) xs) (map (λ v. v.made) xs) ≡ xs
cut_visits stable before attempts d [] m e named called each never = refl
cut_visits stable before attempts d (v ∷ xs) m e named called each never =
    let stamps = flat_map (λ (x : Visit). listed x.stamp) xs in
    let more = flat_map (λ (x : Visit). x.attempts) xs in
    let open_stamps : flat_map (λ (x : Visit). listed x.stamp) (v ∷ xs) ≡ listed v.stamp ++ stamps = flat_map-cons (λ (x : Visit). listed x.stamp) v xs in
    let open_attempts : attempts ≡ before ++ (v.attempts ++ more) = e ∙ ap (λ l. before ++ l) (flat_map-cons (λ (x : Visit). x.attempts) v xs) in
    let stamp = stamp_step stable v.made.tsc_current v.stamp stamps called.0 (λ no_one. no_stamps xs (subst (λ b. AllCalled b xs) no_one called.2)) in
    let demotion = demotion_step stable v.made.tsc_demoted v.demotion d called.1 each.0 never in
    let own : attempts_of attempts v.made ≡ v.attempts = ap (λ l. attempts_of l v.made) open_attempts ∙ named_here before v.attempts more v.made named.0 named.1 in
    let head : visit_by attempts d (listed v.stamp ++ stamps) v.made ≡ v =
    ap (λ l. record { made = v.made; attempts = l; stamp = if v.made.tsc_current then first_of (listed v.stamp ++ stamps) else None; demotion = if v.made.tsc_demoted then d else None }) own
    ∙ ap (λ o. record { made = v.made; attempts = v.attempts; stamp = o; demotion = if v.made.tsc_demoted then d else None }) stamp.0
    ∙ ap (λ o. record { made = v.made; attempts = v.attempts; stamp = v.stamp; demotion = o }) demotion in
    let long : length (before ++ v.attempts) ≡ length before + v.made.count = length-append before v.attempts ∙ ap (λ n. length before + n) (sym named.1) in
    let rest : visits_from attempts d stamps (map (λ (x : Visit). x.made) xs) ≡ xs =
    cut_visits stable (before ++ v.attempts) attempts d xs m (open_attempts ∙ sym (append_assoc before v.attempts more))
    (subst (λ n. AreNamed n xs m) (sym long) named.2) called.2 each.1 never in
    ap (λ l. visits_from attempts d l (map (λ (x : Visit). x.made) (v ∷ xs))) open_stamps
    ∙ ap (λ x. x ∷ visits_from attempts d (if v.made.tsc_current then drop 1 (listed v.stamp ++ stamps) else listed v.stamp ++ stamps) (map (λ (y : Visit). y.made) xs)) head
    ∙ ap (λ l. v ∷ visits_from attempts d l (map (λ (y : Visit). y.made) xs)) stamp.1
    ∙ ap (λ l. v ∷ l) rest

pub names_all : (n m : ℕ) (xs : List Visit) → AreNamed n xs m → NamesAll n (map (λ v. v.made) xs) m
names_all n m [] h = h
names_all n m (v ∷ xs) h = (h.0, names_all (n + v.made.count) m xs h.2)

-- ---- all checks

pub cut_checks : (n : ℕ) (cs : List Check) → checks_from n (map (λ c. c.ticket) cs) (ends_from n cs) (map (λ c. c.current) cs) (visits_in cs) ≡ cs
cut_checks n [] = refl
cut_checks n (c ∷ cs) =
    let end = n + length c.visits in
    let few : end - n ≡ length c.visits = omega arith in
    let open_visits : visits_in (c ∷ cs) ≡ c.visits ++ visits_in cs = flat_map-cons (λ (x : Check). x.visits) c cs in
    let here : take (end - n) (visits_in (c ∷ cs)) ≡ c.visits =
    ap (λ k. take k (visits_in (c ∷ cs))) few ∙ ap (take (length c.visits)) open_visits ∙ take-append_seam c.visits (visits_in cs) in
    let later : drop (end - n) (visits_in (c ∷ cs)) ≡ visits_in cs =
    ap (λ k. drop k (visits_in (c ∷ cs))) few ∙ ap (drop (length c.visits)) open_visits ∙ drop-append_seam c.visits (visits_in cs) in
    ap (λ (l : List Visit). (record { ticket = c.ticket; visits = l; current = c.current }) ∷ checks_from end (map (λ (x : Check). x.ticket) cs) (ends_from end cs) (map (λ (x : Check). x.current) cs) (drop (end - n) (visits_in (c ∷ cs)))) here
    ∙ ap (λ l. c ∷ checks_from end (map (λ (x : Check). x.ticket) cs) (ends_from end cs) (map (λ (x : Check). x.current) cs) l) later
    ∙ ap (λ l. c ∷ l) (cut_checks end cs)

pub ends_long : (n : ℕ) (cs : List Check) → length (ends_from n cs) ≡ length cs
ends_long n [] = refl
ends_long n (c ∷ cs) = ap suc (ends_long (n + length c.visits) cs)

-- they do not fall, and are at most the number of visits
pub ends_later : (low n : ℕ) (cs : List Check) → low ≤ n → NeverFall low (ends_from n cs)
ends_later low n [] h = tt
ends_later low n (c ∷ cs) h = (omega (arith, h), ends_later (n + length c.visits) (n + length c.visits) cs (omega arith))

pub ends_there : (n most : ℕ) (cs : List Check) → n + length (visits_in cs) ≤ most → All (λ k. k ≤ most) (ends_from n cs)
ends_there n most [] h = All-nil _
ends_there n most (c ∷ cs) h =
    let long : length (visits_in (c ∷ cs)) ≡ length c.visits + length (visits_in cs) = ap length (flat_map-cons (λ (y : Check). y.visits) c cs) ∙ length-append c.visits (visits_in cs) in
    All-cons (λ k. k ≤ most) (n + length c.visits) (ends_from (n + length c.visits) cs) (omega (arith, h, long)) (ends_there (n + length c.visits) most cs (omega (arith, h, long)))

-- the attempts that a record names are there
named_low : (n m : ℕ) (xs : List Visit) → AreNamed n xs m → n ≤ m
named_low n m [] h = omega (arith, h)
named_low n m (v ∷ xs) h = let rest = named_low (n + v.made.count) m xs h.2 in omega (arith, rest)

pub named_there : (n m : ℕ) (xs : List Visit) → AreNamed n xs m → All (λ r. r.first + r.count ≤ m) (map (λ v. v.made) xs)
named_there n m [] h = All-nil _
named_there n m (v ∷ xs) h =
    let first = h.0 in
    let low = named_low (n + v.made.count) m xs h.2 in
    All-cons (λ (r : SourceRecord). r.first + r.count ≤ m) v.made (map (λ (x : Visit). x.made) xs) (omega (arith, first, low)) (named_there (n + v.made.count) m xs h.2)
