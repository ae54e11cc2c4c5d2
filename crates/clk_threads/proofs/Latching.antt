-- The seats at the latches: each CPU's owner's, those of readers that are split off it, and the joins at the end.
use Rattle.std.proofs.Common.{◌≡◌, ◌≢◌, ℕ, zero, suc, ◌+◌, ◌<◌, ◌≤◌, nat_eq, Bool, true, false, cond, ◌||◌, List, [], ◌∷◌, ◌++◌, map, length, get_or, set, Option, Some, take, drop, refl, sym, ap, ◌∙◌, subst, inl, inr, arith, length-append, eqb-true}
use Rattle.std.specs.Prelude.{option_to_list}
use Rattle.std.specs.List.{All, insert, remove, refill}
use Rattle.std.proofs.Math.Seq.{get_or-append_seam}
use Rattle.std.proofs.lemmas.Bool.{cases_lt}
use Rattle.std.proofs.lemmas.Bool.Decides.{nat_tests}
use Rattle.std.proofs.lemmas.List.{length-map, length-set, get_or-map, get_or_default, get_or_append_left, get_or-set_same, get_or-set_other}
use Rattle.std.proofs.lemmas.List.Elements.{All-get_or}
use mathlib.Core.List.{IsPrefix}
use Rattle.clk_base.specs.Walk.{EachFrom}
use Rattle.clk_base.proofs.Walks.{each_from}
use Rattle.clk_machine.specs.declared.reading.Published.{Published}
use Rattle.clk_machine.specs.Plan.{Plan, cpu_count, thread_at, threads_of}
use Rattle.clk_machine.specs.Limits.{IsWithinLimits}
use Rattle.clk_machine.proofs.Threading.{threads_length}
use Rattle.clk_latch.specs.Calls.{Joins}
use Rattle.clk_latch.specs.Epoch.{Epoch, owner_of, reader_of}
use Rattle.clk_latch.specs.Epoch.{Place as LatchPlace}
use Rattle.clk_latch.proofs.Prefixes.{prefix_self}
use Rattle.clk_worker.specs.declared.shared.Shared.{Shared}
use Rattle.clk_threads.specs.Preparing.{epoch_on, IsOfLatch, IsLatchSeat, HaveLatches}
use Rattle.clk_threads.specs.declared.latches.Latches.{Latches}
use Rattle.clk_threads.specs.Ending.{FitsLatch, FitLatches, RecordsBegin, IsOwnerLeft, AreOwnersLeft, IsAtLatch, IsOwnerAt, FitWatch, WatchFollows}
use Rattle.clk_threads.proofs.LawfulLists.{owner_cpu, thread_cpu}
use Rattle.clk_threads.proofs.Numbering.{each_of, threads_cover, cpu_low, own_thread, other_thread}

-- ---- as they are given

abbrev epoch_by : Published → Bool → Epoch
epoch_by first own = record { owner = own; left = cond own 1024 0; records = first ∷ []; begins = [] }

pub epoch_owner : (m : Plan) (first : Published) (thread : ℕ) → thread < cpu_count m → epoch_on m first thread ≡ owner_of first 1024
epoch_owner m first thread low = ap (epoch_by first) (own_thread m thread low)

pub epoch_reader : (m : Plan) (first : Published) (thread : ℕ) → cpu_count m ≤ thread → epoch_on m first thread ≡ reader_of (owner_of first 1024)
epoch_reader m first thread past = ap (epoch_by first) (other_thread m thread past)

-- those of the owners
pub owners_seats : (m : Plan) (first : Published) (l : Latches) → length l.epochs.items ≡ cpu_count m
    → map (λ (s : LatchPlace). s.latch) l.seats.items ≡ l.epochs.items → All (λ (s : LatchPlace). s.epoch ≡ owner_of first 1024) l.seats.items
    → HaveLatches m first (cpu_count m) l
owners_seats m first l count named owners =
    record {
      latches = count;
      count = many;
      each =
          each_from (IsLatchSeat m first l) 0 l.seats.items (λ k d low.
          let s : LatchPlace = get_or l.seats.items k d in
          let e : k ≡ 0 + k = omega arith in
          let own : k < cpu_count m = omega (arith, low, many) in
          let at : get_or l.epochs.items k s.latch ≡ s.latch =
          ap (λ (xs : _). get_or xs k s.latch) (sym named) ∙ get_or-map (λ (x : LatchPlace). x.latch) l.seats.items k d s.latch low in
          let latch : IsOfLatch m l k s = sym (ap (λ (i : ℕ). get_or l.epochs.items i s.latch) (owner_cpu m k own) ∙ at) in
          let epoch : s.epoch ≡ epoch_on m first k =
          All-get_or (λ (x : LatchPlace). x.epoch ≡ owner_of first 1024) l.seats.items k d low owners ∙ sym (epoch_owner m first k own) in
          subst (λ (i : ℕ). IsLatchSeat m first l i s) e (latch, epoch));
    }
  where
    many : length l.seats.items ≡ cpu_count m
    many = sym (length-map l.seats.items (λ (s : LatchPlace). s.latch)) ∙ ap length named ∙ count

-- an owner's is of its CPU's latch
pub owner_there : (m : Plan) (first : Published) (l : Latches) (n cpu : ℕ) (d o : LatchPlace) → HaveLatches m first n l → cpu < cpu_count m → cpu_count m ≤ n
    → (get_or l.seats.items cpu d).latch ≡ get_or l.epochs.items cpu o.latch
owner_there m first l n cpu d o h below past =
    let many = h.count in
    let all = h.latches in
    let s : LatchPlace = get_or l.seats.items cpu d in
    let is : IsLatchSeat m first l cpu s = each_of (IsLatchSeat m first l) l.seats.items cpu d (omega (arith, below, past, many)) h.each in
    is.0 ∙ ap (λ (i : ℕ). get_or l.epochs.items i s.latch) (owner_cpu m cpu below) ∙ get_or_default l.epochs.items cpu s.latch o.latch (omega (arith, below, all))

-- one of a reader, split off that of its CPU's owner
pub reader_seat : (m : Plan) (first : Published) (l : Latches) (thread : ℕ) (s : LatchPlace) → IsWithinLimits m → cpu_count m ≤ thread → thread < length (threads_of m)
    → HaveLatches m first thread l → IsOfLatch m l thread s → s.epoch ≡ reader_of (get_or l.seats.items (thread_at m thread).0 s).epoch
    → IsLatchSeat m first l thread s
reader_seat m first l thread s limits past low h latch epoch =
    let cpu : ℕ = (thread_at m thread).0 in
    let below : cpu < cpu_count m = thread_cpu m thread limits low in
    let many = h.count in
    let owner : IsLatchSeat m first l cpu (get_or l.seats.items cpu s) =
    each_of (IsLatchSeat m first l) l.seats.items cpu s (omega (arith, below, past, many)) h.each in
    (latch, epoch ∙ ap reader_of (owner.1 ∙ epoch_owner m first cpu below) ∙ sym (epoch_reader m first thread past))

-- what was lent and came back as it was
take_front : {A : Type 0} (xs ys : List A) → take (length xs) (xs ++ ys) ≡ xs
take_front [] ys = refl
take_front {A} (x ∷ xs) ys = ap (λ (zs : List A). x ∷ zs) (take_front xs ys)

pub refill_same : {A : Type 0} (xs ws : List A) → ws ≡ xs → refill (length xs) xs ws ≡ xs
refill_same xs ws same = ap (refill (length xs) xs) same ∙ take_front xs (drop (length xs) xs)

-- ---- as they are joined

-- an item that was taken out and whose place another took
pub put_back : {A : Type 0} (xs : List A) (i : ℕ) (y : A) → i < length xs → insert (remove xs i) i y ≡ set xs i y
put_back [] i y low = absurd (omega (arith, low))
put_back (x ∷ xs) zero y low = refl
put_back {A} (x ∷ xs) (suc i) y low = ap (λ (ys : List A). x ∷ ys) (put_back xs i y (omega (arith, low)))

-- what a CPU's own seat became: it is of the same latch, and has the owner's right and the same records
pub record IsOwnedAs (a b : LatchPlace) : Type 0 where
  pub latch : b.latch ≡ a.latch
  pub owner : b.epoch.owner ≡ true
  pub records : b.epoch.records ≡ a.epoch.records

-- those of the last readers were joined with their owners', and the others are left
pub record HaveJoined (m : Plan) (all seats : List LatchPlace) : Type 0 where
  pub few : length seats ≤ length all
  pub some : cpu_count m ≤ length seats
  pub owners : (k : ℕ) (d : LatchPlace) → k < cpu_count m → IsOwnedAs (get_or all k d) (get_or seats k d)
  pub readers : (k : ℕ) (d : LatchPlace) → cpu_count m ≤ k → k < length seats → get_or seats k d ≡ get_or all k d
  pub joined : (k : ℕ) (d e : LatchPlace) → length seats ≤ k → k < length all
      → IsPrefix (get_or all k d).epoch.records (get_or all (thread_at m k).0 e).epoch.records

pub joined_none : (s : Shared) (all : List LatchPlace) → FitLatches s all → HaveJoined s.machine all all
joined_none s all fit =
    let m : Plan = s.machine in
    let count = fit.count in
    record {
      few = omega arith;
      some = (let low = threads_cover m in omega (arith, count, low));
      owners = λ k d low.
          let there : k < length all = (let within = cpu_low m k low in omega (arith, within, count)) in
          record { latch = refl; owner = (each_of (FitsLatch s) all k d there fit.each).owner low; records = refl };
      readers = λ k d past low. refl;
      joined = λ k d e past low. absurd (omega (arith, past, low));
    }

-- ---- one join more

-- the last seat was taken out: it is a reader's on this CPU
pub record TakesLast (m : Plan) (seats front : List LatchPlace) (reader : LatchPlace) (cpu : ℕ) : Type 0 where
  pub last : seats ≡ front ++ reader ∷ []
  pub past : cpu_count m ≤ length front
  pub low : length front < length (threads_of m)
  pub cpu_is : cpu ≡ (thread_at m (length front)).0
  pub below : cpu < cpu_count m

pub takes_last : (m : Plan) (seats front : List LatchPlace) (popped : Option LatchPlace) (reader : LatchPlace) (counter end thread cpu : ℕ) → IsWithinLimits m
    → seats ≡ front ++ option_to_list popped → popped ≡ Some reader → length seats + counter ≡ length (threads_of m) → end ≡ length m.reader → counter < end
    → thread ≡ length front → cpu ≡ (thread_at m thread).0 → TakesLast m seats front reader cpu
takes_last m seats front popped reader counter end thread cpu limits items is count readers more number on =
    let last : seats ≡ front ++ reader ∷ [] = items ∙ ap (λ (o : Option LatchPlace). front ++ option_to_list o) is in
    let both = ap length last ∙ length-append front (reader ∷ []) in
    let all = threads_length m in
    let low : length front < length (threads_of m) = omega (arith, both, count) in
    let cpu_is = on ∙ ap (λ (i : ℕ). (thread_at m i).0) number in
    let below = thread_cpu m (length front) limits low in
    record { last = last; past = omega (arith, both, count, readers, more, all); low = low; cpu_is = cpu_is; below = omega (arith, cpu_is, below) }

front_at : (seats front : List LatchPlace) (reader : LatchPlace) (k : ℕ) (d : LatchPlace) → seats ≡ front ++ reader ∷ [] → k < length front
    → get_or front k d ≡ get_or seats k d
front_at seats front reader k d last low =
    sym (ap (λ (xs : List LatchPlace). get_or xs k d) last ∙ get_or_append_left front (reader ∷ []) d k low)

-- the owner's seat that is taken out
turn_owner : (m : Plan) (all seats front : List LatchPlace) (reader owner : LatchPlace) (cpu : ℕ) (d : LatchPlace) → HaveJoined m all seats
    → TakesLast m seats front reader cpu → owner ≡ get_or front cpu owner → IsOwnedAs (get_or all cpu d) owner
turn_owner m all seats front reader owner cpu d h t taken =
    let below = t.below in
    let past = t.past in
    let within : cpu < length front = omega (arith, below, past) in
    let both = ap length t.last ∙ length-append front (reader ∷ []) in
    let is : owner ≡ get_or seats cpu d =
    taken ∙ front_at seats front reader cpu owner t.last within ∙ get_or_default seats cpu owner d (omega (arith, within, both)) in
    subst (IsOwnedAs (get_or all cpu d)) (sym is) (h.owners cpu d t.below)

-- the reader's
turn_reader : (m : Plan) (all seats front : List LatchPlace) (reader : LatchPlace) (cpu : ℕ) (d : LatchPlace) → HaveJoined m all seats
    → TakesLast m seats front reader cpu → get_or all (length front) d ≡ reader
turn_reader m all seats front reader cpu d h t =
    let both = ap length t.last ∙ length-append front (reader ∷ []) in
    sym (h.readers (length front) d t.past (omega (arith, both)))
    ∙ ap (λ (xs : List LatchPlace). get_or xs (length front) d) t.last ∙ get_or-append_seam front reader [] d

-- both are of the CPU's latch
pub owner_fits : (s : Shared) (all seats front : List LatchPlace) (reader owner o : LatchPlace) (cpu : ℕ) → FitLatches s all → HaveJoined s.machine all seats
    → TakesLast s.machine seats front reader cpu → owner ≡ get_or front cpu owner → owner.latch ≡ get_or s.epochs.items cpu o.latch
owner_fits s all seats front reader owner o cpu fit h t taken =
    let own : LatchPlace = get_or all cpu owner in
    let is : IsOwnedAs own owner = turn_owner s.machine all seats front reader owner cpu owner h t taken in
    let low = cpu_low s.machine cpu t.below in
    let below = t.below in
    let count = fit.count in
    let many = fit.latches in
    let f : FitsLatch s cpu own = each_of (FitsLatch s) all cpu owner (omega (arith, low, count)) fit.each in
    is.latch ∙ f.latch ∙ ap (λ (i : ℕ). get_or s.epochs.items i own.latch) (owner_cpu s.machine cpu t.below)
    ∙ get_or_default s.epochs.items cpu own.latch o.latch (omega (arith, below, many))

pub reader_fits : (s : Shared) (all seats front : List LatchPlace) (reader o : LatchPlace) (cpu : ℕ) → FitLatches s all → HaveJoined s.machine all seats
    → TakesLast s.machine seats front reader cpu → reader.latch ≡ get_or s.epochs.items cpu o.latch
reader_fits s all seats front reader o cpu fit h t =
    let low = t.low in
    let below = t.below in
    let count = fit.count in
    let many = fit.latches in
    let is : get_or all (length front) reader ≡ reader = turn_reader s.machine all seats front reader cpu reader h t in
    let f : FitsLatch s (length front) reader =
    subst (FitsLatch s (length front)) is (each_of (FitsLatch s) all (length front) reader (omega (arith, low, count)) fit.each) in
    f.latch ∙ ap (λ (i : ℕ). get_or s.epochs.items i reader.latch) (sym t.cpu_is)
    ∙ get_or_default s.epochs.items cpu reader.latch o.latch (omega (arith, below, many))

-- it was joined with its owner's, in the place of that
pub record JoinsLast (front after : List LatchPlace) (reader owner joint : LatchPlace) (cpu : ℕ) : Type 0 where
  pub taken : owner ≡ get_or front cpu owner
  pub latch : joint.latch ≡ owner.latch
  pub joins : Joins owner.epoch reader.epoch joint.epoch
  pub put : after ≡ set front cpu joint

pub joined_more : (m : Plan) (all seats front after : List LatchPlace) (reader owner joint : LatchPlace) (cpu : ℕ) → HaveJoined m all seats
    → TakesLast m seats front reader cpu → JoinsLast front after reader owner joint cpu → HaveJoined m all after
joined_more m all seats front after reader owner joint cpu h t j =
    record {
      few = omega (arith, same_length, seats_length, few);
      some = omega (arith, same_length, past);
      owners = λ k d low. owned k d low (nat_eq k cpu) refl;
      readers = λ k d from low.
          let apart : k ≢ cpu = λ e. absurd (omega (arith, e, below, from)) in
          let there : k < length front = omega (arith, low, same_length) in
          others k d apart ∙ front_at seats front reader k d t.last there ∙ h.readers k d from (omega (arith, there, seats_length));
      joined = λ k d e from low. follows k d e low (nat_eq k (length front)) refl (omega (arith, from, same_length));
    }
  where
    below : cpu < cpu_count m
    below = t.below

    past : cpu_count m ≤ length front
    past = t.past

    few : length seats ≤ length all
    few = h.few

    seats_length : length seats ≡ length front + 1
    seats_length = ap length t.last ∙ length-append front (reader ∷ [])

    same_length : length after ≡ length front
    same_length = ap length j.put ∙ length-set front cpu joint

    others : (k : ℕ) (d : LatchPlace) → k ≢ cpu → get_or after k d ≡ get_or front k d
    others k d apart = ap (λ (xs : List LatchPlace). get_or xs k d) j.put ∙ get_or-set_other front cpu k joint d apart

    placed : (d : LatchPlace) → get_or after cpu d ≡ joint
    placed d = ap (λ (xs : List LatchPlace). get_or xs cpu d) j.put ∙ get_or-set_same front cpu joint d (omega (arith, below, past))

    mine : (d : LatchPlace) → IsOwnedAs (get_or all cpu d) joint
    mine d =
        let b : IsOwnedAs (get_or all cpu d) owner = turn_owner m all seats front reader owner cpu d h t j.taken in
        record {
          latch = j.latch ∙ b.latch;
          owner = j.joins.owner ∙ ap (λ (t : Bool). t || reader.epoch.owner) b.owner;
          records = j.joins.first_owner b.owner ∙ b.records;
        }

    owned : (k : ℕ) (d : LatchPlace) → k < cpu_count m → (t : Bool) → nat_eq k cpu ≡ t → IsOwnedAs (get_or all k d) (get_or after k d)
    owned k d low true e =
        let same : k ≡ cpu = eqb-true k cpu e in
        subst (λ (i : ℕ). IsOwnedAs (get_or all i d) (get_or after i d)) (sym same) (subst (IsOwnedAs (get_or all cpu d)) (sym (placed d)) (mine d))
    owned k d low false e =
        let apart : k ≢ cpu = grind (arith, nat_tests) in
        subst (IsOwnedAs (get_or all k d)) (sym (others k d apart ∙ front_at seats front reader k d t.last (omega (arith, low, past)))) (h.owners k d low)

    follows : (k : ℕ) (d e : LatchPlace) → k < length all → (t : Bool) → nat_eq k (length front) ≡ t → length front ≤ k
        → IsPrefix (get_or all k d).epoch.records (get_or all (thread_at m k).0 e).epoch.records
    follows k d e low true is from =
        let same : k ≡ length front = eqb-true k (length front) is in
        let reads : get_or all (length front) d ≡ reader = turn_reader m all seats front reader cpu d h t in
        let own : IsOwnedAs (get_or all cpu e) joint = mine e in
        let on : get_or all cpu e ≡ get_or all (thread_at m (length front)).0 e = ap (λ (i : ℕ). get_or all i e) t.cpu_is in
        subst (λ (i : ℕ). IsPrefix (get_or all i d).epoch.records (get_or all (thread_at m i).0 e).epoch.records) (sym same)
        (subst (λ (x : LatchPlace). IsPrefix (get_or all (length front) d).epoch.records x.epoch.records) on
        (subst (λ (x : LatchPlace). IsPrefix x.epoch.records (get_or all cpu e).epoch.records) (sym reads)
        (subst (IsPrefix reader.epoch.records) own.records j.joins.second)))
    follows k d e low false is from =
        let later : length front + 1 ≤ k = grind (arith, nat_tests) in
        h.joined k d e (omega (arith, later, seats_length)) low

-- once those of all readers were joined
pub joined_all : (m : Plan) (all seats : List LatchPlace) → HaveJoined m all seats → length seats ≡ cpu_count m → EachFrom (RecordsBegin m all) 0 all
joined_all m all seats h count =
    each_from (RecordsBegin m all) 0 all (λ k d low.
    let e : k ≡ 0 + k = omega arith in
    subst (λ (i : ℕ). RecordsBegin m all i (get_or all k d)) e (λ x.
    elim (cases_lt k (cpu_count m)) [
      | inl own ↦
          let same : get_or all k d ≡ get_or all (thread_at m k).0 x = get_or_default all k d x low ∙ ap (λ (i : ℕ). get_or all i x) (sym (owner_cpu m k own)) in
          subst (λ (y : LatchPlace). IsPrefix (get_or all k d).epoch.records y.epoch.records) same (prefix_self (get_or all k d).epoch.records)
      | inr past ↦ h.joined k d x (omega (arith, past, count)) low
    ]))

-- those of the owners are left
pub owners_left : (s : Shared) (all seats : List LatchPlace) → FitLatches s all → HaveJoined s.machine all seats → length seats ≡ cpu_count s.machine
    → AreOwnersLeft s all seats
owners_left s all seats fit h count =
    let m : Plan = s.machine in
    record {
      count = count;
      each =
          each_from (IsOwnerLeft s all) 0 seats (λ k d low.
          let e : k ≡ 0 + k = omega arith in
          let own : k < cpu_count m = omega (arith, low, count) in
          let within = cpu_low m k own in
          let many = fit.count in
          let there : k < length all = omega (arith, within, many) in
          let o : LatchPlace = get_or seats k d in
          let was : LatchPlace = get_or all k d in
          let is : IsOwnedAs was o = h.owners k d own in
          let f : FitsLatch s k was = each_of (FitsLatch s) all k d there fit.each in
          let latches = fit.latches in
          let at : k < length s.epochs.items = omega (arith, own, latches) in
          subst (λ (i : ℕ). IsOwnerLeft s all i o) e
          (record {
            latch = is.latch ∙ f.latch ∙ ap (λ (i : ℕ). get_or s.epochs.items i was.latch) (owner_cpu m k own)
                ∙ get_or_default s.epochs.items k was.latch o.latch at;
            owner = is.owner;
            records = λ x. is.records ∙ ap (λ (y : LatchPlace). y.epoch.records) (get_or_default all k d x there);
          }));
    }

-- ---- the watchdog's, from the last on

-- those of the last CPUs were joined, and the others are left
pub record HaveMet (all_owners all_watch owners watch : List LatchPlace) : Type 0 where
  pub few : length watch ≤ length all_watch
  pub same : length owners ≡ length watch
  pub owners_are : (k : ℕ) (d : LatchPlace) → k < length owners → get_or owners k d ≡ get_or all_owners k d
  pub watch_are : (k : ℕ) (d : LatchPlace) → k < length watch → get_or watch k d ≡ get_or all_watch k d
  pub met : (k : ℕ) (d e : LatchPlace) → length watch ≤ k → k < length all_watch → IsPrefix (get_or all_watch k d).epoch.records (get_or all_owners k e).epoch.records

pub met_none : (s : Shared) (owners watch : List LatchPlace) → FitWatch s owners watch → HaveMet owners watch owners watch
met_none s owners watch fit =
    let count = fit.count in
    record {
      few = omega arith;
      same = sym count;
      owners_are = λ k d low. refl;
      watch_are = λ k d low. refl;
      met = λ k d e past low. absurd (omega (arith, past, low));
    }

-- the last two
pub record TakesBoth (owners owners_front watch watch_front : List LatchPlace) (owner reader : LatchPlace) : Type 0 where
  pub owners_last : owners_front ++ owner ∷ [] ≡ owners
  pub watch_last : watch_front ++ reader ∷ [] ≡ watch

last_at : (xs front : List LatchPlace) (x d : LatchPlace) → front ++ x ∷ [] ≡ xs → get_or xs (length front) d ≡ x
last_at xs front x d is = ap (λ (ys : List LatchPlace). get_or ys (length front) d) (sym is) ∙ get_or-append_seam front x [] d

before_last : (xs front : List LatchPlace) (x : LatchPlace) (k : ℕ) (d : LatchPlace) → front ++ x ∷ [] ≡ xs → k < length front → get_or front k d ≡ get_or xs k d
before_last xs front x k d is low = front_at xs front x k d (sym is) low

front_length : (xs front : List LatchPlace) (x : LatchPlace) → front ++ x ∷ [] ≡ xs → length xs ≡ length front + 1
front_length xs front x is = ap length (sym is) ∙ length-append front (x ∷ [])

pub met_owner : (s : Shared) (all_owners all_watch owners owners_front watch watch_front : List LatchPlace) (owner reader : LatchPlace)
    → FitWatch s all_owners all_watch → HaveMet all_owners all_watch owners watch → TakesBoth owners owners_front watch watch_front owner reader
    → IsOwnerAt s (length watch_front) owner
met_owner s all_owners all_watch owners owners_front watch watch_front owner reader fit h t =
    let n : ℕ = length watch_front in
    let long = front_length owners owners_front owner t.owners_last in
    let wide = front_length watch watch_front reader t.watch_last in
    let same = h.same in
    let few = h.few in
    let count = fit.count in
    let at : length owners_front ≡ n = omega (arith, long, wide, same) in
    let is : get_or all_owners n owner ≡ owner =
    sym (h.owners_are n owner (omega (arith, long, at))) ∙ ap (λ (i : ℕ). get_or owners i owner) (sym at) ∙ last_at owners owners_front owner owner t.owners_last in
    subst (IsOwnerAt s n) is (each_of (IsOwnerAt s) all_owners n owner (omega (arith, wide, few, count)) fit.owners_fit)

pub met_reader : (s : Shared) (all_owners all_watch owners owners_front watch watch_front : List LatchPlace) (owner reader : LatchPlace)
    → FitWatch s all_owners all_watch → HaveMet all_owners all_watch owners watch → TakesBoth owners owners_front watch watch_front owner reader
    → IsAtLatch s (length watch_front) reader
met_reader s all_owners all_watch owners owners_front watch watch_front owner reader fit h t =
    let n : ℕ = length watch_front in
    let wide = front_length watch watch_front reader t.watch_last in
    let few = h.few in
    let is : get_or all_watch n reader ≡ reader =
    sym (h.watch_are n reader (omega (arith, wide))) ∙ last_at watch watch_front reader reader t.watch_last in
    subst (IsAtLatch s n) is (each_of (IsAtLatch s) all_watch n reader (omega (arith, wide, few)) fit.watch_fit)

pub met_more : (s : Shared) (all_owners all_watch owners owners_front watch watch_front : List LatchPlace) (owner reader joint : LatchPlace)
    → FitWatch s all_owners all_watch → HaveMet all_owners all_watch owners watch → TakesBoth owners owners_front watch watch_front owner reader
    → Joins owner.epoch reader.epoch joint.epoch → HaveMet all_owners all_watch owners_front watch_front
met_more s all_owners all_watch owners owners_front watch watch_front owner reader joint fit h t joins =
    record {
      few = omega (arith, wide, few);
      same = at;
      owners_are = λ k d low. before_last owners owners_front owner k d t.owners_last low ∙ h.owners_are k d (omega (arith, low, long));
      watch_are = λ k d low. before_last watch watch_front reader k d t.watch_last low ∙ h.watch_are k d (omega (arith, low, wide));
      met = λ k d e past low. now k d e low (nat_eq k (length watch_front)) refl past;
    }
  where
    long : length owners ≡ length owners_front + 1
    long = front_length owners owners_front owner t.owners_last

    wide : length watch ≡ length watch_front + 1
    wide = front_length watch watch_front reader t.watch_last

    few : length watch ≤ length all_watch
    few = h.few

    at : length owners_front ≡ length watch_front
    at = let same = h.same in omega (arith, long, wide, same)

    owner_is : (e : LatchPlace) → get_or all_owners (length watch_front) e ≡ owner
    owner_is e =
        sym (h.owners_are (length watch_front) e (omega (arith, long, at))) ∙ ap (λ (i : ℕ). get_or owners i e) (sym at) ∙ last_at owners owners_front owner e t.owners_last

    reader_is : (d : LatchPlace) → get_or all_watch (length watch_front) d ≡ reader
    reader_is d = sym (h.watch_are (length watch_front) d (omega (arith, wide))) ∙ last_at watch watch_front reader d t.watch_last

    right : owner.epoch.owner ≡ true
    right = (met_owner s all_owners all_watch owners owners_front watch watch_front owner reader fit h t).1

    now : (k : ℕ) (d e : LatchPlace) → k < length all_watch → (b : Bool) → nat_eq k (length watch_front) ≡ b → length watch_front ≤ k
        → IsPrefix (get_or all_watch k d).epoch.records (get_or all_owners k e).epoch.records
    now k d e low true is past =
        let same : k ≡ length watch_front = eqb-true k (length watch_front) is in
        subst (λ (i : ℕ). IsPrefix (get_or all_watch i d).epoch.records (get_or all_owners i e).epoch.records) (sym same)
        (subst (λ (x : LatchPlace). IsPrefix x.epoch.records (get_or all_owners (length watch_front) e).epoch.records) (sym (reader_is d))
        (subst (λ (x : LatchPlace). IsPrefix reader.epoch.records x.epoch.records) (sym (owner_is e))
        (subst (IsPrefix reader.epoch.records) (joins.first_owner right) joins.second)))
    now k d e low false is past =
        let later : length watch_front + 1 ≤ k = grind (arith, nat_tests) in
        h.met k d e (omega (arith, later, wide)) low

pub met_all : (all_owners all_watch owners watch : List LatchPlace) → HaveMet all_owners all_watch owners watch → length watch ≡ 0
    → EachFrom (WatchFollows all_owners) 0 all_watch
met_all all_owners all_watch owners watch h none =
    each_from (WatchFollows all_owners) 0 all_watch (λ k d low.
    let e : k ≡ 0 + k = omega arith in
    subst (λ (i : ℕ). WatchFollows all_owners i (get_or all_watch k d)) e (λ x. h.met k d x (omega (arith, none)) low))
