use Rattle.std.proofs.Common.{ℕ, ◌<◌, ◌≤◌, [], ◌∷◌, ◌++◌, map, length, slice_index}
use Rattle.clk_watch.proofs.place.current_place.Given as goal

abbrev pub invariant-loop-i : goal.invariant-loop-i
invariant-loop-i l = record {
  low : l.i ≤ l.place;
  high : l.place ≤ length l.sources;
  greatest : (k : ℕ) → l.i ≤ k → k ≤ length l.sources → slice_index (map (λ w. w.rating) l.sources ++ l.reference ∷ []) k ≤ slice_index (map (λ w. w.rating) l.sources ++ l.reference ∷ []) l.place;
  first : (k : ℕ) → l.i ≤ k → k < l.place → slice_index (map (λ w. w.rating) l.sources ++ l.reference ∷ []) k < slice_index (map (λ w. w.rating) l.sources ++ l.reference ∷ []) l.place;
}
