-- The first seat of the clock words gives each thread's seat, and each owner's once.
use Rattle.std.proofs.Common.{◌≡◌, ◌≢◌, ℕ, zero, suc, ◌+◌, ◌<◌, ◌≤◌, Bool, true, false, not, cond, ◌||◌, List, [], ◌∷◌, ◌++◌, length, nat_eq, refl, sym, ap, ◌∙◌, subst, inl, inr, arith, eqb-true}
use Rattle.std.proofs.lemmas.Bool.{cases_lt, false≢true}
use Rattle.std.proofs.lemmas.Bool.Decides.{nat_tests}
use Rattle.clk_words.specs.declared.kind.SeatKind.{SeatKind}
use Rattle.clk_words.specs.declared.kind.SeatKind.TheVariants.{Owner, Reader, Watch}
use Rattle.clk_words.specs.declared.opening.Start.{Start}
use Rattle.clk_words.specs.declared.view.View.{View}
use Rattle.clk_words.specs.Kinds.{is_watch}
use Rattle.clk_words.specs.Rights.{has_kind, has_number, owners_below, gives_without, owns_without}
use Rattle.clk_words.specs.Held.{Place}
use Rattle.clk_words.specs.Views.{first_view, giver_view}
use Rattle.clk_words.specs.Knowing.{MayGive, MaySplit}
use Rattle.clk_machine.specs.Plan.{Plan, cpu_count, threads_of}
use Rattle.clk_threads.specs.Preparing.{kind_on, gave, gave_threads, thread_seat, thread_seats}
use Rattle.clk_threads.proofs.Numbering.{kind_owner, kind_reader}

pub gave_start : (m : Plan) (n : ℕ) (v : View) → (gave m n v).start ≡ v.start
gave_start m zero v = refl
gave_start m (suc n) v = gave_start m n v

pub gave_made : (m : Plan) (n : ℕ) (v : View) → (gave m n v).made ≡ v.made + n
gave_made m zero v = omega arith
gave_made m (suc n) v = let h = gave_made m n v in omega (arith, h)

-- one more
pub gave_next : (m : Plan) (n : ℕ) (v : View) → gave m (n + 1) v ≡ giver_view (kind_on m n) (gave m n v)
gave_next m n v = let on : n + 1 ≡ suc n = omega arith in ap (λ k. gave m k v) on

pub seats_next : (m : Plan) (p : Place) (n : ℕ) → thread_seats m p (n + 1) ≡ thread_seats m p n ++ thread_seat m p n ∷ []
seats_next m p n = let on : n + 1 ≡ suc n = omega arith in ap (thread_seats m p) on

-- ---- rights

-- the first seat may give the owner of each of its CPUs
owner_below : (n c : ℕ) → c < n → has_kind (owners_below n) (Owner c) ≡ true
owner_below zero c h = absurd (omega (arith, h))
owner_below (suc n) c h = at (nat_eq n c) refl (λ low. owner_below n c low)
  where
    at : (t : Bool) → nat_eq n c ≡ t → (c < n → has_kind (owners_below n) (Owner c) ≡ true) → (t || has_kind (owners_below n) (Owner c)) ≡ true
    at true e rest = refl
    at false e rest = let low : c < n = grind (arith, nat_tests) in rest low

-- to give one owner's right away leaves each other's
other_left : (d c : ℕ) (kinds : List SeatKind) → d ≢ c → has_kind kinds (Owner c) ≡ true → has_kind (gives_without (Owner d) kinds) (Owner c) ≡ true
other_left d c [] ne e = absurd (cc)
other_left d c (Reader b ∷ kinds) ne e = other_left d c kinds ne e
other_left d c (Watch ∷ kinds) ne e = other_left d c kinds ne e
other_left d c (Owner b ∷ kinds) ne e = at (nat_eq b d) refl (nat_eq b c) refl e (λ h. other_left d c kinds ne h)
  where
    at : (t : Bool) → nat_eq b d ≡ t → (u : Bool) → nat_eq b c ≡ u → (u || has_kind kinds (Owner c)) ≡ true
        → (has_kind kinds (Owner c) ≡ true → has_kind (gives_without (Owner d) kinds) (Owner c) ≡ true)
        → has_kind (cond (not t) (Owner b ∷ gives_without (Owner d) kinds) (gives_without (Owner d) kinds)) (Owner c) ≡ true
    at true i true k h rest = absurd (ne (sym (eqb-true b d i) ∙ eqb-true b c k))
    at true i false k h rest = rest h
    at false i true k h rest = rw k refl
    at false i false k h rest = rw k (rest h)

may_give : (m : Plan) (start : Start) (n c : ℕ) → start.cpus ≡ cpu_count m → n ≤ c → c < cpu_count m
    → has_kind (gave m n (first_view start)).gives (Owner c) ≡ true
may_give m start zero c cpus low h = owner_below start.cpus c (omega (arith, cpus, h))
may_give m start (suc n) c cpus low h =
    let gives : List SeatKind = (gave m n (first_view start)).gives in
    subst (λ (k : SeatKind). has_kind (gives_without k gives) (Owner c) ≡ true) (sym (kind_owner m n (omega (arith, low, h))))
    (other_left n c gives (λ e. absurd (omega (arith, low, e))) (may_give m start n c cpus (omega (arith, low)) h))

pub may_split : (m : Plan) (start : Start) (n : ℕ) → start.cpus ≡ cpu_count m → MaySplit (gave m n (first_view start)) (kind_on m n)
may_split m start n cpus =
    let v : View = gave m n (first_view start) in
    let made = gave_made m n (first_view start) in
    record {
      first = omega (arith, made);
      gives =
          elim (cases_lt n (cpu_count m)) [
            | inl low ↦ subst (MayGive v) (sym (kind_owner m n low)) (may_give m start n n cpus (omega arith) low)
            | inr past ↦ subst (MayGive v) (sym (kind_reader m n past)) tt
          ];
    }

-- ---- the watchdog's right

-- to give another kind away leaves it
watch_left : (kind : SeatKind) (kinds : List SeatKind) → is_watch kind ≡ false → has_kind kinds Watch ≡ true → has_kind (gives_without kind kinds) Watch ≡ true
watch_left Watch kinds other e = absurd (false≢true (sym other))
watch_left (Owner d) [] other e = absurd (cc)
watch_left (Owner d) (Watch ∷ kinds) other e = refl
watch_left (Owner d) (Reader b ∷ kinds) other e = watch_left (Owner d) kinds other e
watch_left (Owner d) (Owner b ∷ kinds) other e = at (nat_eq b d) (watch_left (Owner d) kinds other e)
  where
    at : (t : Bool) → has_kind (gives_without (Owner d) kinds) Watch ≡ true
        → has_kind (cond (not t) (Owner b ∷ gives_without (Owner d) kinds) (gives_without (Owner d) kinds)) Watch ≡ true
    at true rest = rest
    at false rest = rest
watch_left (Reader d) [] other e = absurd (cc)
watch_left (Reader d) (Watch ∷ kinds) other e = refl
watch_left (Reader d) (Owner b ∷ kinds) other e = watch_left (Reader d) kinds other e
watch_left (Reader d) (Reader b ∷ kinds) other e = at (nat_eq b d) (watch_left (Reader d) kinds other e)
  where
    at : (t : Bool) → has_kind (gives_without (Reader d) kinds) Watch ≡ true
        → has_kind (cond (not t) (Reader b ∷ gives_without (Reader d) kinds) (gives_without (Reader d) kinds)) Watch ≡ true
    at true rest = rest
    at false rest = rest

-- no thread's seat is the watchdog's
pub not_watch : (m : Plan) (thread : ℕ) → is_watch (kind_on m thread) ≡ false
not_watch m thread =
    elim (cases_lt thread (cpu_count m)) [
      | inl low ↦ ap is_watch (kind_owner m thread low)
      | inr past ↦ ap is_watch (kind_reader m thread past)
    ]

watch_kept : (m : Plan) (n : ℕ) (start : Start) → has_kind (gave m n (first_view start)).gives Watch ≡ true
watch_kept m zero start = refl
watch_kept m (suc n) start = watch_left (kind_on m n) (gave m n (first_view start)).gives (not_watch m n) (watch_kept m n start)

-- so the first seat may give it after those of all threads
pub may_watch : (m : Plan) (start : Start) → MaySplit (gave_threads m start) Watch
may_watch m start =
    let n : ℕ = length (threads_of m) in
    let made = gave_made m n (first_view start) in
    record { first = omega (arith, made); gives = watch_kept m n start }

-- ---- what the first seat owns no more

gone : (c : ℕ) (owns : List ℕ) → has_number (owns_without (Owner c) owns) c ≡ false
gone c [] = refl
gone c (d ∷ owns) = at (nat_eq d c) refl (gone c owns)
  where
    at : (t : Bool) → nat_eq d c ≡ t → has_number (owns_without (Owner c) owns) c ≡ false
        → has_number (cond (not t) (d ∷ owns_without (Owner c) owns) (owns_without (Owner c) owns)) c ≡ false
    at true e rest = rest
    at false e rest = rw e rest

still_gone : (d c : ℕ) (owns : List ℕ) → has_number owns c ≡ false → has_number (owns_without (Owner d) owns) c ≡ false
still_gone d c [] e = e
still_gone d c (b ∷ owns) e = at (nat_eq b d) refl (nat_eq b c) refl e (λ h. still_gone d c owns h)
  where
    at : (t : Bool) → nat_eq b d ≡ t → (u : Bool) → nat_eq b c ≡ u → (u || has_number owns c) ≡ false
        → (has_number owns c ≡ false → has_number (owns_without (Owner d) owns) c ≡ false)
        → has_number (cond (not t) (b ∷ owns_without (Owner d) owns) (owns_without (Owner d) owns)) c ≡ false
    at true i true k h rest = absurd (false≢true (sym h))
    at true i false k h rest = rest h
    at false i true k h rest = absurd (false≢true (sym h))
    at false i false k h rest = rw k (rest h)

gone_with : (kind : SeatKind) (c : ℕ) (owns : List ℕ) → has_number owns c ≡ false → has_number (owns_without kind owns) c ≡ false
gone_with (Owner d) c owns e = still_gone d c owns e
gone_with (Reader d) c owns e = e
gone_with Watch c owns e = e

-- the CPU of each owner that it gave
pub owns_none : (m : Plan) (n c : ℕ) (v : View) → c < n → c < cpu_count m → has_number (gave m n v).pairs.owns c ≡ false
owns_none m zero c v low own = absurd (omega (arith, low))
owns_none m (suc n) c v low own = at (nat_eq c n) refl (λ lower. owns_none m n c v lower own)
  where
    at : (t : Bool) → nat_eq c n ≡ t → (c < n → has_number (gave m n v).pairs.owns c ≡ false)
        → has_number (owns_without (kind_on m n) (gave m n v).pairs.owns) c ≡ false
    at true e rest =
        let same : c ≡ n = eqb-true c n e in
        let mine : kind_on m n ≡ Owner c = kind_owner m n (omega (arith, same, own)) ∙ ap Owner (sym same) in
        subst (λ (k : SeatKind). has_number (owns_without k (gave m n v).pairs.owns) c ≡ false) (sym mine) (gone c (gave m n v).pairs.owns)
    at false e rest =
        let lower : c < n = grind (arith, nat_tests) in gone_with (kind_on m n) c (gave m n v).pairs.owns (rest lower)
