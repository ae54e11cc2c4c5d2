-- A text is a script word exactly where it is that word's spelling.
use Rattle.std.proofs.Common.{◌≡◌, ℕ, ◌<◌, ◌^◌, pos, Bool, true, false, not, ◌||◌, leb, eqb, List, ◌++◌, length, get_or, take, drop, Option, Some, None, option_map, codes, refl, sym, ap, subst, ◌∙◌, inl, inr, rules, arith}
use Rattle.std.specs.Option.{option_or}
use Rattle.std.specs.List.{list_all, fold}
use Rattle.std.specs.Str.{bytes_eq}
use Rattle.std.specs.Fmt.{decimal}
use Rattle.std.proofs.lemmas.List.{take-append-drop}
use Rattle.std.proofs.lemmas.Bool.{cases_Bool}
use Rattle.std.proofs.lemmas.Bool.Decides.{nat_tests}
use Rattle.std.proofs.lemmas.Slice.Eq.{bytes_eq-Decides}
use Rattle.std.proofs.lemmas.Str.Parse.{IsNumeralModel, numerals_by_fold, digits_value_short}
use Rattle.std.proofs.lemmas.Fmt.{decimal_digit, decimal_nonempty, length-decimal-le, first_decimal, digits_decimal, digits_value-decimal, decimal-digits_value}
use Rattle.clk_machine.specs.declared.script.Word.{Word}
use Rattle.clk_machine.specs.declared.script.Word.TheVariants.{Local, Remote, Tick, Idle, Update, Pause}
use Rattle.clk_machine.specs.Plan.{count_of}
use Rattle.clk_file.specs.Words.{is_digit, with_digit, is_number, number_of, begins_with, number_after, word_of}
use Rattle.clk_file.specs.Laws.{spelling, HasSpelling}
use Rattle.clk_file.proofs.Digits.{number-parts}

own : IsNumeralModel (λ ds. list_all is_digit ds ≡ true) (fold with_digit 0)
own = numerals_by_fold (λ ds. list_all is_digit ds ≡ true) (search rules) (λ n ds. fold with_digit n ds) (search rules)

-- ---- numbers

abbrev IsSmall : ℕ → Type 0
IsSmall n = n < 10 ^ 9

one_digit : (n : ℕ) → n < 10 → eqb (length (decimal n)) 1 ≡ true
one_digit n h = rw (decimal_digit n h)

first_passes : (n : ℕ) → IsSmall n → (eqb (length (decimal n)) 1 || not (eqb (get_or (decimal n) 0 0) 48)) ≡ true
first_passes n h = go (leb n 9) refl
  where
    go : (b : Bool) → leb n 9 ≡ b → (eqb (length (decimal n)) 1 || not (eqb (get_or (decimal n) 0 0) 48)) ≡ true
    go true low = rw (one_digit n (grind (arith, nat_tests)))
    go false high =
        let some : 0 < n = grind (arith, nat_tests) in
        let first = first_decimal n some (omega arith) in
        grind (arith, nat_tests)

pub number_of-decimal : (n : ℕ) → IsSmall n → number_of (decimal n) ≡ Some n
unfolding number_of is_number
number_of-decimal n h =
    let some : leb 1 (length (decimal n)) ≡ true = grind (arith, nat_tests, decimal_nonempty n (omega arith)) in
    let few : leb (length (decimal n)) 9 ≡ true = grind (arith, nat_tests, length-decimal-le 9 n (omega arith) h (omega arith)) in
    rw (some, few, digits_decimal own n (omega arith), first_passes n h, digits_value-decimal own n (omega arith))

pub record IsDecimal (text : List ℕ) (n : ℕ) : Type 0 where
  pub written : text ≡ decimal n
  pub small : IsSmall n

pub decimal-number_of : (text : List ℕ) (n : ℕ) → number_of text ≡ Some n → IsDecimal text n
unfolding number_of
decimal-number_of text n h =
    elim (cases_Bool (is_number text)) [
      | inl is ↦
          let value : fold with_digit 0 text ≡ n = cc (rw is at h) in
          let number = number-parts text is in
          let small : fold with_digit 0 text < 10 ^ 9 = digits_value_short own text 9 number.digits number.short in
          record {
            written = sym (decimal-digits_value own text number.digits (omega arith) number.first (omega arith)) ∙ ap decimal value;
            small = subst (λ v. v < 10 ^ 9) value small;
          }
      | inr other ↦ absurd (cc (rw other at h))
    ]

-- ---- a name and a number

pub number_after-is : (name text : List ℕ) (n : ℕ) → number_after name text ≡ Some n → (text ≡ name ++ decimal n) × IsSmall n
unfolding number_after
number_after-is name text n h =
    elim (cases_Bool (begins_with name text)) [
      | inl begins ↦
          let front : take (length name) text ≡ name = (bytes_eq-Decides (take (length name) text) name).0 begins in
          let number = decimal-number_of (drop (length name) text) n (rw begins at h) in
          (sym (take-append-drop (length name) text) ∙ ap (λ xs. xs ++ drop (length name) text) front ∙ ap (λ xs. name ++ xs) number.written, number.small)
      | inr other ↦ absurd (cc (rw other at h))
    ]

-- ---- words

abbrev HasWord : List ℕ → Word → Type 0
HasWord text w = (text ≡ spelling w) × HasSpelling w

numbered : (o p : Option ℕ) (text : List ℕ) (w : Word)
    → ((n : ℕ) → o ≡ Some n → (text ≡ codes "remote " ++ decimal n) × IsSmall n)
    → ((n : ℕ) → p ≡ Some n → (text ≡ codes "pause " ++ decimal n) × IsSmall n)
    → option_or (option_map (λ cpu. Remote (pos cpu)) o) (option_map (λ tickets. Pause (pos tickets)) p) ≡ Some w → HasWord text w
numbered (Some n) p text w remote pause h =
    let (written, small) = remote n refl in
    let same : Remote (pos n) ≡ w = cc in
    subst (HasWord text) same (written, (refl, omega arith, omega arith))
numbered None (Some n) text w remote pause h =
    let (written, small) = pause n refl in
    let same : Pause (pos n) ≡ w = cc in
    subst (HasWord text) same (written, (refl, omega arith, omega arith))
numbered None None text w remote pause h = absurd (cc)

pub spelling-word_of : (text : List ℕ) (w : Word) → word_of text ≡ Some w → HasWord text w
unfolding word_of
spelling-word_of text w h =
    elim (cases_Bool (bytes_eq text (codes "local"))) [
      | inl same ↦
          let some : Some Local ≡ Some w = rw same at h in
          let is : Local ≡ w = cc in
          subst (HasWord text) is ((bytes_eq-Decides text (codes "local")).0 same, tt)
      | inr no_local ↦
          let h1 = rw no_local at h in
          elim (cases_Bool (bytes_eq text (codes "tick"))) [
            | inl same ↦
                let some : Some Tick ≡ Some w = rw same at h1 in
                let is : Tick ≡ w = cc in
                subst (HasWord text) is ((bytes_eq-Decides text (codes "tick")).0 same, tt)
            | inr no_tick ↦
                let h2 = rw no_tick at h1 in
                elim (cases_Bool (bytes_eq text (codes "idle"))) [
                  | inl same ↦
                      let some : Some Idle ≡ Some w = rw same at h2 in
                      let is : Idle ≡ w = cc in
                      subst (HasWord text) is ((bytes_eq-Decides text (codes "idle")).0 same, tt)
                  | inr no_idle ↦
                      let h3 = rw no_idle at h2 in
                      elim (cases_Bool (bytes_eq text (codes "update"))) [
                        | inl same ↦
                            let some : Some Update ≡ Some w = rw same at h3 in
                            let is : Update ≡ w = cc in
                            subst (HasWord text) is ((bytes_eq-Decides text (codes "update")).0 same, tt)
                        | inr no_update ↦
                            let h4 = rw no_update at h3 in
                            numbered (number_after (codes "remote ") text) (number_after (codes "pause ") text) text w
                            (number_after-is (codes "remote ") text) (number_after-is (codes "pause ") text) h4
                      ]
                ]
          ]
    ]

remote_after : (n : ℕ) → IsSmall n → number_after (codes "remote ") (codes "remote " ++ decimal n) ≡ Some n
unfolding number_after
remote_after n h = number_of-decimal n h

pause_after : (n : ℕ) → IsSmall n → number_after (codes "pause ") (codes "pause " ++ decimal n) ≡ Some n
unfolding number_after
pause_after n h = number_of-decimal n h

no_remote_after : (n : ℕ) → number_after (codes "remote ") (codes "pause " ++ decimal n) ≡ None
unfolding number_after
no_remote_after n = refl

word_of-remote : (n : ℕ) → IsSmall n → word_of (codes "remote " ++ decimal n) ≡ Some (Remote (pos n))
unfolding word_of
word_of-remote n h = rw (remote_after n h)

word_of-pause : (n : ℕ) → IsSmall n → word_of (codes "pause " ++ decimal n) ≡ Some (Pause (pos n))
unfolding word_of
word_of-pause n h = rw (no_remote_after n, pause_after n h)

word_of-spelling : (w : Word) → HasSpelling w → word_of (spelling w) ≡ Some w
unfolding word_of
word_of-spelling Local h = refl
word_of-spelling Tick h = refl
word_of-spelling Idle h = refl
word_of-spelling Update h = refl
word_of-spelling (Remote z) (is, low, high) = rw is (word_of-remote (count_of z) (omega arith))
word_of-spelling (Pause z) (is, low, high) = rw is (word_of-pause (count_of z) (omega arith))

pub words_spelled : (text : List ℕ) (w : Word) → ((word_of text ≡ Some w) → HasWord text w) × (HasWord text w → word_of text ≡ Some w)
words_spelled text w = (spelling-word_of text w, λ h. rw h.0 (word_of-spelling w h.1))
