-- Rights over lists of them.
use Rattle.std.proofs.Common.{◌≡◌, ◌≢◌, ℕ, zero, suc, ◌⊎◌, Bool, true, false, not, cond, ◌||◌, List, [], ◌∷◌, ◌++◌, nat_eq, filter, refl, sym, ap, ◌∙◌, subst, inl, inr, ⊎_elim, eq-eqb, eqb-true, true≢false}
use Rattle.clk_words.specs.declared.kind.SeatKind.{SeatKind}
use Rattle.clk_words.specs.declared.kind.SeatKind.TheVariants.{Owner, Reader, Watch}
use Rattle.clk_words.specs.Kinds.{same_kind}
use Rattle.clk_words.specs.Rights.{has_number, has_kind, cpus_below, owners_below, gives_without, owns_without}

pub or_cases : (a b : Bool) → (a || b) ≡ true → (a ≡ true) ⊎ (b ≡ true)
or_cases true b e = inl refl
or_cases false b e = inr e

or_left : (a b : Bool) → a ≡ true → (a || b) ≡ true
or_left true b e = refl
or_left false b e = absurd (cc)

or_right : (a b : Bool) → b ≡ true → (a || b) ≡ true
or_right true b e = refl
or_right false b e = e

pub has_append : (ms ns : List ℕ) (n : ℕ) → has_number (ms ++ ns) n ≡ true → (has_number ms n ≡ true) ⊎ (has_number ns n ≡ true)
has_append [] ns n e = inr e
has_append (m ∷ ms) ns n e = ⊎_elim
    (λ (h : nat_eq m n ≡ true). inl (or_left (nat_eq m n) (has_number ms n) h))
    (λ (h : has_number (ms ++ ns) n ≡ true). ⊎_elim
    (λ (k : has_number ms n ≡ true). inl (or_right (nat_eq m n) (has_number ms n) k))
    (λ (k : has_number ns n ≡ true). inr k)
    (has_append ms ns n h))
    (or_cases (nat_eq m n) (has_number (ms ++ ns) n) e)

pub has_left : (ms ns : List ℕ) (n : ℕ) → has_number ms n ≡ true → has_number (ms ++ ns) n ≡ true
has_left [] ns n e = absurd (cc)
has_left (m ∷ ms) ns n e = ⊎_elim
    (λ (h : nat_eq m n ≡ true). or_left (nat_eq m n) (has_number (ms ++ ns) n) h)
    (λ (h : has_number ms n ≡ true). or_right (nat_eq m n) (has_number (ms ++ ns) n) (has_left ms ns n h))
    (or_cases (nat_eq m n) (has_number ms n) e)

pub has_right : (ms ns : List ℕ) (n : ℕ) → has_number ns n ≡ true → has_number (ms ++ ns) n ≡ true
has_right [] ns n e = e
has_right (m ∷ ms) ns n e = or_right (nat_eq m n) (has_number (ms ++ ns) n) (has_right ms ns n e)

-- what is left after one CPU is given away
pub has_filtered : (cpu n : ℕ) (ms : List ℕ) → has_number (filter (λ c. not (nat_eq c cpu)) ms) n ≡ true → (has_number ms n ≡ true) × (n ≢ cpu)
has_filtered cpu n [] e = absurd (cc)
has_filtered cpu n (m ∷ ms) e = at (has_filtered cpu n ms) (nat_eq m cpu) refl e
  where
    at : (has_number (filter (λ c. not (nat_eq c cpu)) ms) n ≡ true → (has_number ms n ≡ true) × (n ≢ cpu)) → (t : Bool) → nat_eq m cpu ≡ t → has_number (cond (not t) (m ∷ filter (λ c. not (nat_eq c cpu)) ms) (filter (λ c. not (nat_eq c cpu)) ms)) n ≡ true
        → (has_number (m ∷ ms) n ≡ true) × (n ≢ cpu)
    at again true i h = let rest = again h in (or_right (nat_eq m n) (has_number ms n) rest.0, rest.1)
    at again false i h = ⊎_elim
        (λ (k : nat_eq m n ≡ true). (or_left (nat_eq m n) (has_number ms n) k, λ e. true≢false (sym (eq-eqb m cpu (eqb-true m n k ∙ e)) ∙ i)))
        (λ (k : has_number (filter (λ c. not (nat_eq c cpu)) ms) n ≡ true). let rest = again k in (or_right (nat_eq m n) (has_number ms n) rest.0, rest.1))
        (or_cases (nat_eq m n) (has_number (filter (λ c. not (nat_eq c cpu)) ms) n) h)

pub has_one : (m n : ℕ) → has_number (m ∷ []) n ≡ true → m ≡ n
has_one m n e = ⊎_elim (λ (h : nat_eq m n ≡ true). eqb-true m n h) (λ (h : false ≡ true). absurd (cc)) (or_cases (nat_eq m n) false e)

-- what may still be given after one kind is given, and of whom the giver is still the owner
pub owner_left : (kind : SeatKind) (c : ℕ) (kinds : List SeatKind) → has_kind (gives_without kind kinds) (Owner c) ≡ true
    → (has_kind kinds (Owner c) ≡ true) × (same_kind (Owner c) kind ≡ false)
owner_left kind c [] e = absurd (cc)
owner_left kind c (k ∷ kinds) e = at (owner_left kind c kinds) (same_kind k kind) refl e
  where
    same_owner : (k : SeatKind) (c : ℕ) → same_kind k (Owner c) ≡ true → k ≡ Owner c
    same_owner (Owner d) c h = ap Owner (eqb-true d c h)
    same_owner (Reader d) c h = absurd (cc)
    same_owner Watch c h = absurd (cc)

    at : (has_kind (gives_without kind kinds) (Owner c) ≡ true → (has_kind kinds (Owner c) ≡ true) × (same_kind (Owner c) kind ≡ false)) → (t : Bool)
        → same_kind k kind ≡ t → has_kind (cond (not t) (k ∷ gives_without kind kinds) (gives_without kind kinds)) (Owner c) ≡ true
        → (has_kind (k ∷ kinds) (Owner c) ≡ true) × (same_kind (Owner c) kind ≡ false)
    at again true i h = let rest = again h in (or_right (same_kind k (Owner c)) (has_kind kinds (Owner c)) rest.0, rest.1)
    at again false i h = ⊎_elim
        (λ (g : same_kind k (Owner c) ≡ true). (or_left (same_kind k (Owner c)) (has_kind kinds (Owner c)) g, subst (λ (x : SeatKind). same_kind x kind ≡ false) (same_owner k c g) i))
        (λ (g : has_kind (gives_without kind kinds) (Owner c) ≡ true). let rest = again g in (or_right (same_kind k (Owner c)) (has_kind kinds (Owner c)) rest.0, rest.1))
        (or_cases (same_kind k (Owner c)) (has_kind (gives_without kind kinds) (Owner c)) h)

-- so what it may give it owns still
filter_keeps : (cpu n : ℕ) (ms : List ℕ) → has_number ms n ≡ true → n ≢ cpu → has_number (filter (λ c. not (nat_eq c cpu)) ms) n ≡ true
filter_keeps cpu n [] e ne = absurd (cc)
filter_keeps cpu n (m ∷ ms) e ne = at (λ k. filter_keeps cpu n ms k ne) (nat_eq m cpu) refl
  where
    at : (has_number ms n ≡ true → has_number (filter (λ c. not (nat_eq c cpu)) ms) n ≡ true) → (t : Bool) → nat_eq m cpu ≡ t → has_number (cond (not t) (m ∷ filter (λ c. not (nat_eq c cpu)) ms) (filter (λ c. not (nat_eq c cpu)) ms)) n ≡ true
    at again true i = ⊎_elim
        (λ (k : nat_eq m n ≡ true). absurd (ne (sym (eqb-true m n k) ∙ eqb-true m cpu i)))
        (λ (k : has_number ms n ≡ true). again k)
        (or_cases (nat_eq m n) (has_number ms n) e)
    at again false i = ⊎_elim
        (λ (k : nat_eq m n ≡ true). or_left (nat_eq m n) (has_number (filter (λ c. not (nat_eq c cpu)) ms) n) k)
        (λ (k : has_number ms n ≡ true). or_right (nat_eq m n) (has_number (filter (λ c. not (nat_eq c cpu)) ms) n) (again k))
        (or_cases (nat_eq m n) (has_number ms n) e)

pub owns_left : (kind : SeatKind) (c : ℕ) (owns : List ℕ) → has_number owns c ≡ true → same_kind (Owner c) kind ≡ false → has_number (owns_without kind owns) c ≡ true
owns_left (Owner d) c owns h k = filter_keeps d c owns h (λ e. true≢false (sym (eq-eqb c d e) ∙ k))
owns_left (Reader d) c owns h k = h
owns_left Watch c owns h k = h

pub watch_left : (kind : SeatKind) (kinds : List SeatKind) → has_kind (gives_without kind kinds) Watch ≡ true
    → (has_kind kinds Watch ≡ true) × (same_kind Watch kind ≡ false)
watch_left kind [] e = absurd (cc)
watch_left kind (k ∷ kinds) e = at (watch_left kind kinds) (same_kind k kind) refl e
  where
    same_watch : (k : SeatKind) → same_kind k Watch ≡ true → k ≡ Watch
    same_watch (Owner d) h = absurd (cc)
    same_watch (Reader d) h = absurd (cc)
    same_watch Watch h = refl

    at : (has_kind (gives_without kind kinds) Watch ≡ true → (has_kind kinds Watch ≡ true) × (same_kind Watch kind ≡ false)) → (t : Bool)
        → same_kind k kind ≡ t → has_kind (cond (not t) (k ∷ gives_without kind kinds) (gives_without kind kinds)) Watch ≡ true
        → (has_kind (k ∷ kinds) Watch ≡ true) × (same_kind Watch kind ≡ false)
    at again true i h = let rest = again h in (or_right (same_kind k Watch) (has_kind kinds Watch) rest.0, rest.1)
    at again false i h = ⊎_elim
        (λ (g : same_kind k Watch ≡ true). (or_left (same_kind k Watch) (has_kind kinds Watch) g, subst (λ (x : SeatKind). same_kind x kind ≡ false) (same_watch k g) i))
        (λ (g : has_kind (gives_without kind kinds) Watch ≡ true). let rest = again g in (or_right (same_kind k Watch) (has_kind kinds Watch) rest.0, rest.1))
        (or_cases (same_kind k Watch) (has_kind (gives_without kind kinds) Watch) h)

-- the first seat may give only what it owns
pub owners_owned : (n c : ℕ) → has_kind (owners_below n) (Owner c) ≡ true → has_number (cpus_below n) c ≡ true
owners_owned zero c e = absurd (cc)
owners_owned (suc n) c e = ⊎_elim
    (λ (h : nat_eq n c ≡ true). or_left (nat_eq n c) (has_number (cpus_below n) c) h)
    (λ (h : has_kind (owners_below n) (Owner c) ≡ true). or_right (nat_eq n c) (has_number (cpus_below n) c) (owners_owned n c h))
    (or_cases (nat_eq n c) (has_kind (owners_below n) (Owner c)) e)
