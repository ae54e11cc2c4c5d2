-- What is kept of visits in one stretch after another.
use Rattle.std.proofs.Common.{◌≡◌, ℕ, ◌+◌, Option, Some, None, List, [], ◌∷◌, ◌++◌, map, length, refl, sym, ◌∙◌, ap, subst, arith, append_assoc}
use Rattle.std.specs.Prelude.{Bool, not, ◌&&◌, is_some, if◌then◌else◌}
use Rattle.std.specs.List.{flat_map}
use Rattle.std.proofs.lemmas.List.{append-nil, map-append}
use Rattle.std.proofs.lemmas.Grind.{flat_map-append}
use Rattle.std.proofs.lemmas.List.Concat.{flat_map-cons}
use Rattle.clk_record.specs.declared.stable.StableStamp.{StableStamp}
use Rattle.clk_record.specs.declared.stable.Demotion.{Demotion}
use Rattle.clk_words.specs.declared.opening.Start.{Start}
use Rattle.clk_words.specs.declared.view.View.{View}
use Rattle.clk_lawful.specs.Checks.{Visit, Check, listed}
use Rattle.clk_lawful.specs.declared.trace.WatchTrace.{WatchTrace}
use Rattle.clk_demote.specs.Context.{Site, Known}
use Rattle.clk_watcher.specs.Checking.{StampsAt, DemotesAt, WatchesVisit, WatchesVisits, WatchesCheck, Watches}
use Rattle.clk_watcher.specs.VisitsKept.{AreCalled, AreNamed, KeepsVisits, lifts_in, demoted_after, KeepsDemotion, KeepsRest}

-- ---- lists

-- one stretch and then another
pub grown : {A B : Type 0} (f : A → List B) (a t w : List B) (xs ys : List A) → t ≡ a ++ flat_map f xs → w ≡ t ++ flat_map f ys → w ≡ a ++ flat_map f (xs ++ ys)
grown f a t w xs ys p q =
    q ∙ ap (λ l. l ++ flat_map f ys) p ∙ append_assoc a (flat_map f xs) (flat_map f ys) ∙ ap (λ l. a ++ l) (sym (flat_map-append f xs ys))

pub grown_map : {A B : Type 0} (f : A → B) (a t w : List B) (xs ys : List A) → t ≡ a ++ map f xs → w ≡ t ++ map f ys → w ≡ a ++ map f (xs ++ ys)
grown_map f a t w xs ys p q =
    q ∙ ap (λ l. l ++ map f ys) p ∙ append_assoc a (map f xs) (map f ys) ∙ ap (λ l. a ++ l) (sym (map-append f xs ys))

pub one_flat : {A B : Type 0} (f : A → List B) (x : A) → flat_map f (x ∷ []) ≡ f x
one_flat f x = flat_map-cons f x [] ∙ append-nil (f x)

-- ---- visits

pub called_both : (b c d : Bool) (xs ys : List Visit) → AreCalled b xs c → AreCalled c ys d → AreCalled b (xs ++ ys) d
called_both b c d [] ys p q = subst (λ x. AreCalled x ys d) (sym p) q
called_both b c d (x ∷ xs) ys p q = (p.0, p.1, called_both (b && not x.made.tsc_demoted) c d xs ys p.2 q)

pub named_both : (n m k : ℕ) (xs ys : List Visit) → AreNamed n xs m → AreNamed m ys k → AreNamed n (xs ++ ys) k
named_both n m k [] ys p q = subst (λ x. AreNamed x ys k) (sym p) q
named_both n m k (x ∷ xs) ys p q = (p.0, p.1, named_both (n + x.made.count) m k xs ys p.2 q)

pub demoted_both : (check n : ℕ) (xs ys : List Visit) → demoted_after check (xs ++ ys) n ≡ demoted_after check ys (demoted_after check xs n)
demoted_both check n [] ys = refl
demoted_both check n (x ∷ xs) ys = demoted_both check (if is_some x.demotion then check else n) xs ys

pub kept_both : (b c d : Bool) (a t w : WatchTrace) (xs ys : List Visit) → KeepsVisits b a xs c t → KeepsVisits c t ys d w → KeepsVisits b a (xs ++ ys) d w
kept_both b c d a t w xs ys p q = record {
  attempts = grown (λ v. v.attempts) a.watch.attempts.items t.watch.attempts.items w.watch.attempts.items xs ys p.attempts q.attempts;
  records = grown_map (λ v. v.made) a.watch.records.items t.watch.records.items w.watch.records.items xs ys p.records q.records;
  named = named_both (length a.watch.attempts.items) (length t.watch.attempts.items) (length w.watch.attempts.items) xs ys p.named q.named;
  stamps = grown (λ v. listed v.stamp) a.stamps.items t.stamps.items w.stamps.items xs ys p.stamps q.stamps;
  demotion = grown (λ v. listed v.demotion) (listed a.demotion) (listed t.demotion) (listed w.demotion) xs ys p.demotion q.demotion;
  called = called_both b c d xs ys p.called q.called;
}

pub kept_none : (b : Bool) (a : WatchTrace) → KeepsVisits b a [] b a
kept_none b a = record {
  attempts = sym (append-nil a.watch.attempts.items);
  records = sym (append-nil a.watch.records.items);
  named = refl;
  stamps = sym (append-nil a.stamps.items);
  demotion = sym (append-nil (listed a.demotion));
  called = refl;
}

pub demotes_both : (number : ℕ) (start : Start) (check cpus : ℕ) (a t w : WatchTrace) (xs ys : List Visit)
    → KeepsDemotion number start check cpus a xs t → KeepsDemotion number start check cpus t ys w → KeepsDemotion number start check cpus a (xs ++ ys) w
demotes_both number start check cpus a t w xs ys p q = record {
  lifts = grown (λ v. lifts_in number start check cpus v.demotion) a.lifts.items t.lifts.items w.lifts.items xs ys p.lifts q.lifts;
  demoted_in = q.demoted_in ∙ ap (demoted_after check ys) p.demoted_in ∙ sym (demoted_both check a.demoted_in xs ys);
}

pub demotes_none : (number : ℕ) (start : Start) (check cpus : ℕ) (a : WatchTrace) → KeepsDemotion number start check cpus a [] a
demotes_none number start check cpus a = record { lifts = sym (append-nil a.lifts.items); demoted_in = refl }

pub rest_both : (a t w : WatchTrace) → KeepsRest a t → KeepsRest t w → KeepsRest a w
rest_both a t w p q = record {
  thread = q.thread ∙ p.thread;
  machine = q.machine ∙ p.machine;
  lost = q.lost ∙ p.lost;
  pauses = q.pauses ∙ p.pauses;
  ends = q.ends ∙ p.ends;
  currents = q.currents ∙ p.currents;
}

pub rest_none : (a : WatchTrace) → KeepsRest a a
rest_none a = record { thread = refl; machine = refl; lost = refl; pauses = refl; ends = refl; currents = refl }

-- ---- the chain

pub watches_both : (z : Site) (cpu check : ℕ) (v t w : Known) (xs ys : List Visit) → WatchesVisits z cpu check v xs t → WatchesVisits z cpu check t ys w
    → WatchesVisits z cpu check v (xs ++ ys) w
watches_both z cpu check v t w [] ys p q = subst (λ x. WatchesVisits z cpu check x ys w) (sym p) q
watches_both z cpu check v t w (x ∷ xs) ys p q = (p.0, p.1, watches_both z cpu check p.0 t w xs ys p.2 q)

pub watches_push : (z : Site) (n : ℕ) (v t w : Known) (xs : List Check) (c : Check) → Watches z n v xs t → WatchesCheck z (n + length xs) t c w
    → Watches z n v (xs ++ c ∷ []) w
watches_push z n v t w [] c p q = (w, subst (λ k. WatchesCheck z k v c w) (let e : n + 0 ≡ n = omega arith in e) (subst (λ x. WatchesCheck z (n + 0) x c w) (sym p) q), refl)
watches_push z n v t w (x ∷ xs) c p q =
    (p.0, p.1, watches_push z (n + 1) p.0 t w xs c p.2 (subst (λ k. WatchesCheck z k t c w) (let e : n + length (x ∷ xs) ≡ n + 1 + length xs = omega arith in e) q))

-- no visit changes which seat it is, nor what the words began with
pub record SameSeat (v w : Known) : Type 0 where
  pub number : w.view.number ≡ v.view.number
  pub start : w.view.start ≡ v.view.start

pub same_both : (v t w : Known) → SameSeat v t → SameSeat t w → SameSeat v w
same_both v t w p q = record { number = q.number ∙ p.number; start = q.start ∙ p.start }

same_stamp : (z : Site) (cpu : ℕ) (v w : Known) (s : Option StableStamp) → StampsAt z cpu v s w → SameSeat v w
same_stamp z cpu v w None p = record { number = ap (λ (x : Known). x.view.number) (sym p); start = ap (λ (x : Known). x.view.start) (sym p) }
same_stamp z cpu v w (Some s) p = record { number = ap (λ (x : View). x.number) p.view_is; start = ap (λ (x : View). x.start) p.view_is }

same_demotion : (z : Site) (cpu check : ℕ) (v w : Known) (d : Option Demotion) → DemotesAt z cpu check v d w → SameSeat v w
same_demotion z cpu check v w None p = record { number = ap (λ (x : Known). x.view.number) (sym p); start = ap (λ (x : Known). x.view.start) (sym p) }
same_demotion z cpu check v w (Some d) p = record { number = ap (λ (x : View). x.number) p.view_is; start = ap (λ (x : View). x.start) p.view_is }

same_visit : (z : Site) (cpu check : ℕ) (v w : Known) (x : Visit) → WatchesVisit z cpu check v x w → SameSeat v w
same_visit z cpu check v w x p =
    let t = p.0 in
    let u = p.1 in
    let first : SameSeat v t = record { number = ap (λ (k : Known). k.view.number) p.2.rest; start = ap (λ (k : Known). k.view.start) p.2.rest } in
    same_both v t w first (same_both t u w (same_stamp z cpu t u x.stamp p.3) (same_demotion z cpu check u w x.demotion p.4))

pub same_visits : (z : Site) (cpu check : ℕ) (v w : Known) (xs : List Visit) → WatchesVisits z cpu check v xs w → SameSeat v w
same_visits z cpu check v w [] p = record { number = ap (λ (x : Known). x.view.number) (sym p); start = ap (λ (x : Known). x.view.start) (sym p) }
same_visits z cpu check v w (x ∷ xs) p = same_both v p.0 w (same_visit z cpu check v p.0 x p.1) (same_visits z cpu check p.0 w xs p.2)

same_check : (z : Site) (n : ℕ) (v w : Known) (c : Check) → WatchesCheck z n v c w → SameSeat v w
same_check z n v w c p =
    let first : SameSeat v p.0 = record { number = ap (λ (k : Known). k.view.number) p.1.rest; start = ap (λ (k : Known). k.view.start) p.1.rest } in
    same_both v p.0 w first (same_visits z _ n p.0 w c.visits p.2)

pub same_watch : (z : Site) (n : ℕ) (v w : Known) (cs : List Check) → Watches z n v cs w → SameSeat v w
same_watch z n v w [] p = record { number = ap (λ (x : Known). x.view.number) (sym p); start = ap (λ (x : Known). x.view.start) (sym p) }
same_watch z n v w (c ∷ cs) p = same_both v p.0 w (same_check z n v p.0 c p.1) (same_watch z (n + 1) p.0 w cs p.2)
