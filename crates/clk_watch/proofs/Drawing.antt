-- Draws of single tickets, one after another.
use Rattle.std.proofs.Common.{rules, ◌≡◌, ℕ, ◌+◌, ◌<◌, List, [], ◌∷◌, ◌++◌, map, append_assoc, refl, sym, ◌∙◌, ap, arith, length-append}
use Rattle.std.proofs.lemmas.List.{append-nil, map-append}
use Rattle.std.proofs.lemmas.List.Elements.{All-nil, All-append}
use Rattle.clk_ticket.specs.Time.{Time}
use Rattle.clk_machine.specs.Limits.{most_tickets}
use Rattle.clk_watch.specs.Draws.{single, seen_after, DrawsEach}

pub no_draws : (t : Time) → DrawsEach [] t t
no_draws t = record {
  table_is = search rules;
  left = omega arith;
  blocks = sym (append-nil t.blocks);
  seen = refl;
  share = search rules;
  rises = λ h. h;
  below = All-nil _;
}

seen_on : (x : ℕ) (xs ys : List ℕ) → seen_after (seen_after x xs) ys ≡ seen_after x (xs ++ ys)
seen_on x [] ys = refl
seen_on x (ticket ∷ xs) ys = seen_on (ticket + 1) xs ys

pub then_draws : (xs ys : List ℕ) (t u v : Time) → DrawsEach xs t u → DrawsEach ys u v → DrawsEach (xs ++ ys) t v
then_draws xs ys t u v p q = record {
  table_is = q.table_is ∙ p.table_is;
  left = let a = p.left in let b = q.left in omega (arith, length-append xs ys);
  blocks = q.blocks ∙ ap (λ bs. bs ++ map single ys) p.blocks ∙ append_assoc t.blocks (map single xs) (map single ys) ∙ ap (λ bs. t.blocks ++ bs) (sym (map-append single xs ys));
  seen = q.seen ∙ ap (λ x. seen_after x ys) p.seen ∙ seen_on t.seen xs ys;
  share = q.share ∙ p.share;
  rises = λ h. q.rises (p.rises h);
  below = All-append (λ ticket. ticket < most_tickets) xs ys p.below q.below;
}
