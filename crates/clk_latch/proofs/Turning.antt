-- A turn loads both words of a record, or the sequence is greater then.
use Rattle.std.proofs.Common.{◌≡◌, ℕ, ◌+◌, ◌*◌, ◌%◌, ◌≤◌, ℤ, List, [], ◌∷◌, get_or, refl, sym, ap, ◌∙◌, subst, arith}
use Rattle.std.proofs.lemmas.List.Elements.{All-nil, All-cons}
use lib.ListN.{get_elem?}
use Rattle.atomic_table.specs.Table.{Me, Step}
use Rattle.clk_num.specs.Wrapping.{IsBitsOf}
use Rattle.clk_machine.specs.declared.reading.Published.{Published}
use Rattle.clk_latch.specs.declared.rule.Knows.{Knows}
use Rattle.clk_latch.specs.declared.rule.TurnBegin.{TurnBegin}
use Rattle.clk_latch.specs.declared.turn.Turn.{Turn}
use Rattle.clk_latch.specs.LatchRule.{number, used, Holds, knows_begun, knows_later, Began, IsOfTurn, Loaded, IsCyc, IsNs}
use Rattle.clk_latch.specs.Turns.{Went, HasTurn, HasCurrent}
use Rattle.clk_latch.proofs.Prefixes.{at_within}

-- ---- the words of the copy that a turn uses

pub reads_cyc : (at n : ℕ) → at ≡ n → (ws : List ℕ) (p : Published) → Holds ws (used at) p → IsCyc p (get_or ws (1 + 2 * (n % 2)) 0)
reads_cyc at n same ws p h =
    let place : used at ≡ 1 + 2 * (n % 2) = omega (arith, same) in
    sym h.cyc ∙ ap (λ i. get_or ws i 0) place

pub reads_ns : (at n : ℕ) → at ≡ n → (ws : List ℕ) (p : Published) → Holds ws (used at) p → IsNs p (get_or ws (1 + 2 * (n % 2) + 1) 0)
reads_ns at n same ws p h =
    let place : used at + 1 ≡ 1 + 2 * (n % 2) + 1 = omega (arith, same) in
    subst (λ i. IsBitsOf p.ns (get_or ws i 0)) place h.ns

-- ---- a turn

pub has_turn : (ticket : ℕ) (st : Step (Unit {0})) (a b c d : Me (Unit {0}) Knows) (n x y : ℕ) → Began ticket st a n b → Loaded IsCyc b x c → Loaded IsNs c y d
    → HasTurn d.0 (record { sequence = n; cyc = x; ns = y })
has_turn ticket st a b c d n x y began first second =
    let b_is : b.0 ≡ knows_begun ticket n began.records a.0 = ap (λ (me : Me (Unit {0}) Knows). me.0) began.is in
    let c_is : c.0 ≡ knows_later first.now b.0 = ap (λ (me : Me (Unit {0}) Knows). me.0) first.is in
    let d_is : d.0 ≡ knows_later second.now c.0 = ap (λ (me : Me (Unit {0}) Knows). me.0) second.is in
    let c_full : c.0 ≡ knows_later first.now (knows_begun ticket n began.records a.0) = c_is ∙ ap (knows_later first.now) b_is in
    let d_full : d.0 ≡ knows_later second.now (knows_begun ticket n began.records a.0) = d_is ∙ ap (knows_later second.now) c_full in
    let b_seen : b.0.seen ≡ n = ap (λ (k : Knows). k.seen) b_is in
    let c_seen : c.0.seen ≡ first.now = ap (λ (k : Knows). k.seen) c_is in
    let cyc_whole = subst (λ (k : Knows). first.now ≤ k.at → IsOfTurn IsCyc k x) b_is first.whole in
    let ns_whole = subst (λ (k : Knows). second.now ≤ k.at → IsOfTurn IsNs k y) c_full second.whole in
    subst (λ (k : Knows). HasTurn k (record { sequence = n; cyc = x; ns = y })) (sym d_full) (record {
      at = refl;
      begun = omega (arith, b_seen, c_seen, first.later, second.later);
      low = began.low;
      count = began.count;
      small = began.small;
      cyc = λ still. cyc_whole (omega (arith, c_seen, second.later, still));
      ns = ns_whole;
    })

-- ---- what a turn does to the seat

went_begin : (ticket : ℕ) (st : Step (Unit {0})) (a b c d : Me (Unit {0}) Knows) (n x y : ℕ) → Began ticket st a n b → Loaded IsCyc b x c → Loaded IsNs c y d
    → Went ticket a d
went_begin ticket st a b c d n x y began first second =
    let c_full : c ≡ (knows_later first.now (knows_begun ticket n began.records a.0), a.1) =
    first.is ∙ ap (λ (me : Me (Unit {0}) Knows). (knows_later first.now me.0, me.1)) began.is in
    let d_full : d ≡ (knows_later second.now (knows_later first.now (knows_begun ticket n began.records a.0)), a.1) =
    second.is ∙ ap (λ (me : Me (Unit {0}) Knows). (knows_later second.now me.0, me.1)) c_full in
    let b_seen : b.0.seen ≡ n = ap (λ (me : Me (Unit {0}) Knows). me.0.seen) began.is in
    let c_seen : c.0.seen ≡ first.now = ap (λ (me : Me (Unit {0}) Knows). me.0.seen) first.is in
    let b_owner : b.0.owner ≡ a.0.owner = ap (λ (me : Me (Unit {0}) Knows). me.0.owner) began.is in
    let c_owner : c.0.owner ≡ a.0.owner = ap (λ (me : Me (Unit {0}) Knows). me.0.owner) c_full in
    let turn : TurnBegin = record { ticket = ticket; rec = number n } in
    subst (Went ticket a) (sym d_full) (record {
      is = refl;
      records = began.grown;
      begins = record { more = turn ∷ []; is = refl; same = All-cons (λ (b : TurnBegin). b.ticket ≡ ticket) turn [] refl (All-nil (λ (b : TurnBegin). b.ticket ≡ ticket)) };
      later = omega (arith, began.later, b_seen, first.later, c_seen, second.later);
      owner = λ o. ((began.owner o).0, second.owner (c_owner ∙ o) ∙ (c_seen ∙ (first.owner (b_owner ∙ o) ∙ (b_seen ∙ (began.owner o).1))));
    })

-- a step is told the ticket by what its caller picks
pub went_turn : (pick ticket : ℕ) (st : Step (Unit {0})) (a b c d : Me (Unit {0}) Knows) (n x y : ℕ) → pick ≡ ticket → Began pick st a n b → Loaded IsCyc b x c
    → Loaded IsNs c y d → Went ticket a d
went_turn pick ticket st a b c d n x y is began first second = subst (λ t. Went t a d) is (went_begin pick st a b c d n x y began first second)

-- ---- a turn that closed at its own sequence

pub has_current : (v k : Knows) (t : Turn) (n rec : ℕ) (ns : ℤ) → HasTurn v t → k ≡ knows_later n v → v.seen ≤ n → n ≡ t.sequence → rec ≡ number t.sequence
    → IsBitsOf ns t.ns → HasCurrent k (record { rec = rec; cyc = t.cyc; ns = ns })
has_current v k t n rec ns h is later closed named word =
    let still : v.seen ≤ v.at = omega (arith, h.at, closed, later) in
    let rec_is : rec ≡ number v.at = named ∙ ap number (sym h.at) in
    let p = at_within v.records (number v.at) (omega (arith, h.count)) in
    subst (λ (x : Knows). HasCurrent x (record { rec = rec; cyc = t.cyc; ns = ns })) (sym is) (record {
      record_is = p.0;
      there = ap (λ i. get_elem? v.records i) rec_is ∙ p.1;
      cyc = h.cyc still p.0 p.1;
      ns = sym (h.ns still p.0 p.1) ∙ word;
      small = h.small p.0 p.1;
      count = h.count ∙ ap (λ i. i + 1) (sym rec_is);
    })
