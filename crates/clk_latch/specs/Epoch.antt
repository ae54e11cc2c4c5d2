-- What contracts see of a latch's seat.
use Rattle.std.specs.Prelude.{ℕ, ℤ, Bool, true, false, List, [], ◌∷◌, refl}
use Rattle.std.specs.Coded.{Coded, code_by, coded×, coded_list, coded_ℕ, coded_ℤ, coded_bool}
use Rattle.atomic_table.specs.Seated.{TableId, table_id_coded}
use Rattle.clk_machine.specs.declared.reading.Published.{Published}
use Rattle.clk_latch.specs.declared.rule.TurnBegin.{TurnBegin}

-- what a seat has of a latch: whether it has the owner's right, how many updates are left to it, the records that it
-- has seen, and its begins: of each turn of its readings the ticket that the reading had drawn, and the number of the
-- record that the turn found current
pub record Epoch : Type 0 where
  pub owner : Bool
  pub left : ℕ
  pub records : List Published
  pub begins : List TurnBegin

-- the seat that a latch is made with
abbrev pub owner_of : Published → ℕ → Epoch
owner_of zero updates = record { owner = true; left = updates; records = zero ∷ []; begins = [] }

-- the seat that a split gives: it has seen what the first one has
abbrev pub reader_of : Epoch → Epoch
reader_of e = record { owner = false; left = 0; records = e.records; begins = [] }

-- a seat over words: the table of its latch, and what it has
pub record Place : Type 0 where
  pub latch : TableId
  pub epoch : Epoch

-- a record is stored as its fields in a row
abbrev pub published_code : Coded Published
published_code =
    code_by
    (ℕ × (ℕ × (ℕ × ℤ)))
    (coded× coded_ℕ (coded× coded_ℕ (coded× coded_ℕ coded_ℤ)))
    (λ p. (p.rec, (p.ticket, (p.cyc, p.ns))))
    (λ q. record { rec = q.0; ticket = q.1.0; cyc = q.1.1.0; ns = q.1.1.1 })
    (λ _. refl)

-- so are a turn's begin, what a seat has, and a seat
abbrev pub turn_begin_code : Coded TurnBegin
turn_begin_code = code_by (ℕ × ℕ) (coded× coded_ℕ coded_ℕ) (λ b. (b.ticket, b.rec)) (λ q. record { ticket = q.0; rec = q.1 }) (λ _. refl)

abbrev pub epoch_code : Coded Epoch
epoch_code =
    code_by
    (Bool × (ℕ × (List Published × List TurnBegin)))
    (coded× coded_bool (coded× coded_ℕ (coded× (coded_list published_code) (coded_list turn_begin_code))))
    (λ e. (e.owner, (e.left, (e.records, e.begins))))
    (λ q. record { owner = q.0; left = q.1.0; records = q.1.1.0; begins = q.1.1.1 })
    (λ _. refl)

abbrev pub place_code : Coded Place
place_code =
    code_by (TableId × Epoch) (coded× table_id_coded epoch_code) (λ s. (s.latch, s.epoch)) (λ q. record { latch = q.0; epoch = q.1 }) (λ _. refl)
