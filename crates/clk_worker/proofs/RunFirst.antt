-- What the first seat of the clock words has, after it has given others before any step: the n-th that it gives gets
-- the number n, and knows of the pairs and of the mode what the first seat knew at first.
use Rattle.std.proofs.Common.{◌≡◌, ℕ, ◌+◌, [], refl, ap}
use Rattle.clk_words.specs.declared.opening.Start.{Start}
use Rattle.clk_words.specs.declared.kind.SeatKind.{SeatKind}
use Rattle.clk_words.specs.declared.view.View.{View}
use Rattle.clk_words.specs.Views.{first_view, giver_view}

-- the first seat after it has given n seats and before any step
pub record HasGiven (start : Start) (n : ℕ) (v : View) : Type 0 where
  pub start_is : v.start ≡ start
  pub made : v.made ≡ n + 1
  pub mine : v.mine ≡ []
  pub joined : v.joined ≡ []
  pub seen : v.seen ≡ []
  pub parts : v.pairs.parts ≡ (first_view start).pairs.parts
  pub found : v.modes.found ≡ (first_view start).modes.found
  pub offset : v.modes.offset ≡ (first_view start).modes.offset

pub given_none : (start : Start) → HasGiven start 0 (first_view start)
given_none start = record { start_is = refl; made = refl; mine = refl; joined = refl; seen = refl; parts = refl; found = refl; offset = refl }

pub given_more : (start : Start) (n : ℕ) (v : View) (kind : SeatKind) → HasGiven start n v → HasGiven start (n + 1) (giver_view kind v)
given_more start n v kind h =
    record {
      start_is = h.start_is;
      made = ap (λ k. k + 1) h.made;
      mine = h.mine;
      joined = h.joined;
      seen = h.seen;
      parts = h.parts;
      found = h.found;
      offset = h.offset;
    }
