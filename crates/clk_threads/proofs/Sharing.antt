-- The tickets of all threads, split off one seat.
use Rattle.std.proofs.Common.{◌≡◌, ℕ, ◌+◌, ◌<◌, ◌≤◌, cond, Option, Some, None, List, [], ◌∷◌, ◌++◌, length, map, get_or, take, refl, ap, ◌∙◌, arith}
use Rattle.std.specs.Prelude.{is_some}
use Rattle.std.specs.List.{sum_by}
use Rattle.std.proofs.lemmas.List.{take_more, map-append}
use Rattle.std.proofs.lemmas.List.Sums.{sum_by-cons, sum_by_more}
use Rattle.clk_ticket.specs.Time.{Time, fresh, without, share_of}
use Rattle.clk_machine.specs.declared.parts.WatchPart.{WatchPart}
use Rattle.clk_machine.specs.Plan.{Plan, threads_of}
use Rattle.clk_machine.specs.Tickets.{word_tickets, watch_tickets}
use Rattle.clk_machine.specs.declared.script.Word.{Word}
use Rattle.clk_lawful.specs.Checks.{listed}
use Rattle.clk_threads.specs.Preparing.{thread_tickets, time_seat, watch_time}

-- what f gives for one item more
pub map_more : {A B : Type 0} (f : A → B) (xs : List A) (i : ℕ) (d : A) → i < length xs
    → map f (take (i + 1) xs) ≡ map f (take i xs) ++ f (get_or xs i d) ∷ []
map_more f xs i d h = ap (map f) (take_more xs i d h) ∙ map-append f (take i xs) (get_or xs i d ∷ [])

pub without_more : (a b n : ℕ) (t : Time) → n ≡ a + b → without b (without a t) ≡ without n t
without_more a b n t e = ap (λ k. record t { left = k }) (omega (arith, e))

-- the seat once one thread more has its tickets
pub without_next : (ts : List (ℕ × List Word)) (i : ℕ) (d : ℕ × List Word) (t : Time) → i < length ts
    → without (thread_tickets (get_or ts i d)) (without (sum_by thread_tickets (take i ts)) t) ≡ without (sum_by thread_tickets (take (i + 1) ts)) t
without_next ts i d t h =
    without_more (sum_by thread_tickets (take i ts)) (thread_tickets (get_or ts i d)) (sum_by thread_tickets (take (i + 1) ts)) t (sum_by_more thread_tickets ts i d h)

-- all seats together have what the one had
shares : (t : Time) (ts : List (ℕ × List Word)) → sum_by share_of (map (time_seat t) ts) ≡ sum_by thread_tickets ts
shares t [] = refl
shares t (s ∷ ts) =
    let rest = shares t ts in
    let a = sum_by-cons share_of (time_seat t s) (map (time_seat t) ts) in
    let b = sum_by-cons thread_tickets s ts in
    omega (arith, rest, a, b)

pub shares_all : (t : Time) (ts : List (ℕ × List Word)) → sum_by thread_tickets ts ≤ t.left
    → share_of (without (sum_by thread_tickets ts) t) + sum_by share_of (map (time_seat t) ts) ≡ share_of t
shares_all t ts h = let all = shares t ts in omega (arith, all, h)

-- the watchdog's has what its checks need, if there is one
watch_share : (m : Plan) (t : Time) (o : Option WatchPart)
    → sum_by share_of (listed (cond (is_some o) (Some (fresh t.table (watch_tickets m o) t.seen)) None)) ≡ watch_tickets m o
watch_share m t None = refl
watch_share m t (Some w) =
    let one = sum_by-cons share_of (fresh t.table (watch_tickets m (Some w)) t.seen) [] in
    omega (arith, one)

pub shares_watched : (m : Plan) (t : Time) → word_tickets m + watch_tickets m m.watchdog ≤ t.left
    → share_of (without (word_tickets m + watch_tickets m m.watchdog) t) + sum_by share_of (map (time_seat t) (threads_of m))
    + sum_by share_of (listed (cond (is_some m.watchdog) (Some (watch_time m t)) None)) ≡ share_of t
shares_watched m t h =
    let all = shares t (threads_of m) in
    let watch = watch_share m t m.watchdog in
    omega (arith, all, watch, h)
