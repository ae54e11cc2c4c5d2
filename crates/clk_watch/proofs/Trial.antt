-- Attempts, one after another, and the bracket that they make.
use Rattle.std.proofs.Common.{rules, ◌≡◌, ℕ, ◌+◌, ◌≤◌, ℤ, List, [], ◌∷◌, ◌++◌, length, Option, None, append_assoc, sym, ◌∙◌, ap, subst, arith, length-append}
use Rattle.std.specs.Prelude.{unwrap_or}
use Rattle.std.specs.List.{All}
use Rattle.std.proofs.lemmas.List.{append-nil}
use Rattle.std.proofs.lemmas.List.Elements.{All-nil, All-cons, All-append, All-push}
use Rattle.std.proofs.lemmas.Grind.{flat_map-append}
use Rattle.clk_num.specs.Listed.{Listed}
use Rattle.clk_ticket.specs.Time.{Time}
use Rattle.clk_machine.specs.Plan.{Plan}
use Rattle.clk_record.specs.declared.attempt.Attempt.{Attempt}
use Rattle.clk_record.specs.declared.attempt.Bracket.{Bracket}
use Rattle.clk_record.specs.declared.attempt.Bracket.TheVariants.{Slow}
use Rattle.clk_record.specs.Attempts.{decided, retries_of, IsRightAttempt}
use Rattle.clk_watch.specs.Draws.{DrawsEach}
use Rattle.clk_watch.specs.Brackets.{Tries, Brackets}
use Rattle.clk_watch.specs.Trying.{TriesOnce}
use Rattle.clk_watch.proofs.Drawing.{no_draws, then_draws}

-- as many attempts as this, of which none decides
pub record Undecided (m : Plan) (cpu : ℕ) (adjust : ℤ) (s : ℕ) (before after : Listed Attempt) (t u : Time) (n : ℕ) : Type 0 where
  pub made : List Attempt
  pub tries : Tries m cpu adjust s before made after t u
  pub undecided : All (λ a. decided m a ≡ None) made
  pub count : length made ≡ n

module _ (m : Plan) (cpu : ℕ) (adjust : ℤ) (s : ℕ) where
  pub no_tries : (a : Listed Attempt) (t : Time) → Tries m cpu adjust s a [] a t t
  no_tries a t = record {
    attempts = sym (append-nil a.items);
    room = omega arith;
    right = All-nil (IsRightAttempt m cpu adjust s);
    draws = no_draws t;
    left = omega arith;
  }

  pub then_tries : (a b c : Listed Attempt) (xs ys : List Attempt) (t u v : Time) → Tries m cpu adjust s a xs b t u → Tries m cpu adjust s b ys c u v → Tries m cpu adjust s a (xs ++ ys) c t v
  then_tries a b c xs ys t u v p q = record {
    attempts = q.attempts ∙ ap (λ l. l ++ ys) p.attempts ∙ append_assoc a.items xs ys;
    room = let e = p.room in let f = q.room in omega (arith, length-append xs ys);
    right = All-append (IsRightAttempt m cpu adjust s) xs ys p.right q.right;
    draws = subst (λ ts. DrawsEach ts t v) (sym (flat_map-append (λ (a : Attempt). a.ticket) xs ys)) (then_draws _ _ t u v p.draws q.draws);
    left = let e = p.left in let f = q.left in omega (arith, length-append xs ys);
  }

  pub one_try : (a b : Listed Attempt) (x : Attempt) (t u : Time) → IsRightAttempt m cpu adjust s x → DrawsEach x.ticket t u → b.items ≡ a.items ++ x ∷ [] → b.room + 1 ≡ a.room
      → Tries m cpu adjust s a (x ∷ []) b t u
  one_try a b x t u right draws items room = record {
    attempts = items;
    room = omega (arith, room);
    right = All-cons (IsRightAttempt m cpu adjust s) x [] right (All-nil _);
    draws = subst (λ ts. DrawsEach ts t u) (sym (append-nil x.ticket)) draws;
    left = let four = right.tickets in let e = draws.left in omega arith;
  }

  pub none_decided : (a : Listed Attempt) (t : Time) → Undecided m cpu adjust s a a t t 0
  none_decided a t = record { made = []; tries = no_tries a t; undecided = All-nil _; count = search rules }

  pub more_undecided : (a b c : Listed Attempt) (t u v : Time) (n : ℕ) (res : Option Bracket) → Undecided m cpu adjust s a b t u n → TriesOnce m cpu adjust s b c u v res → res ≡ None
      → Undecided m cpu adjust s a c t v (n + 1)
  more_undecided a b c t u v n res p q none = record {
    made = p.made ++ q.attempt ∷ [];
    tries = then_tries a b c p.made (q.attempt ∷ []) t u v p.tries q.tries;
    undecided = All-push (λ a. decided m a ≡ None) p.made q.attempt p.undecided (sym q.decides ∙ none);
    count = let e = p.count in omega (arith, length-append p.made (q.attempt ∷ []));
  }

  -- the attempt that decides, or the last one
  pub bracket_ends : (a b c : Listed Attempt) (t u v : Time) (n : ℕ) (res : Option Bracket) (outcome : Bracket) → Undecided m cpu adjust s a b t u n
      → TriesOnce m cpu adjust s b c u v res → n ≤ retries_of m → (res ≡ None → n ≡ retries_of m) → outcome ≡ unwrap_or res Slow
      → Brackets m cpu adjust s a c t v outcome
  bracket_ends a b c t u v n res outcome p q few all is = record {
    made = p.made ++ q.attempt ∷ [];
    tries = then_tries a b c p.made (q.attempt ∷ []) t u v p.tries q.tries;
    bracket = record {
      before = p.made;
      last = q.attempt;
      attempts_are = search rules;
      undecided = p.undecided;
      few = omega (arith, p.count, few);
      outcome_is = is ∙ ap (λ o. unwrap_or o Slow) q.decides;
      all = λ none. p.count ∙ all (q.decides ∙ none);
    };
  }
