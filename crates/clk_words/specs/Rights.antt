-- Rights: which CPUs a seat owns, and which kinds it may still give.
use Rattle.std.specs.Prelude.{ℕ, zero, suc, Bool, false, not, ◌||◌, List, [], ◌∷◌, filter, nat_eq}
use Rattle.clk_words.specs.declared.kind.SeatKind.{SeatKind}
use Rattle.clk_words.specs.declared.kind.SeatKind.TheVariants.{Owner, Reader, Watch}
use Rattle.clk_words.specs.Kinds.{same_kind}

abbrev pub has_number : List ℕ → ℕ → Bool
has_number [] n = false
has_number (m ∷ ms) n = nat_eq m n || has_number ms n

abbrev pub has_kind : List SeatKind → SeatKind → Bool
has_kind [] kind = false
has_kind (k ∷ kinds) kind = same_kind k kind || has_kind kinds kind

-- the CPUs below n, and their owners
abbrev pub cpus_below : ℕ → List ℕ
cpus_below zero = []
cpus_below (suc n) = n ∷ cpus_below n

abbrev pub owners_below : ℕ → List SeatKind
owners_below zero = []
owners_below (suc n) = Owner n ∷ owners_below n

-- what the first seat may give, besides readers
abbrev pub first_gives : ℕ → List SeatKind
first_gives cpus = Watch ∷ owners_below cpus

-- what is left after giving this kind
abbrev pub gives_without : SeatKind → List SeatKind → List SeatKind
gives_without kind kinds = filter (λ k. not (same_kind k kind)) kinds

abbrev pub owns_without : SeatKind → List ℕ → List ℕ
owns_without (Owner cpu) owns = filter (λ c. not (nat_eq c cpu)) owns
owns_without (Reader cpu) owns = owns
owns_without Watch owns = owns

-- what a seat of this kind owns
abbrev pub owned_by : SeatKind → List ℕ
owned_by (Owner cpu) = cpu ∷ []
owned_by (Reader cpu) = []
owned_by Watch = []
