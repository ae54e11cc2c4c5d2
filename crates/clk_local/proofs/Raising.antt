-- Lemmas on raising a word: raw readings are near the opening of the words, the pair that was loaded may be named, and
-- what a step finds is not below what was seen of its word.
use Rattle.std.proofs.Common.{◌≡◌, ℕ, ◌*◌, ◌^◌, ℤ, List, [], ◌∷◌, ◌++◌, get_or, refl, sym, ap, ◌∙◌, subst, arith}
use Rattle.std.proofs.lemmas.Int.{ints}
use mathlib.Core.List.{IsPrefix}
use Rattle.clk_num.specs.Range.{IsFrom0To}
use Rattle.clk_num.specs.Wrapping.{above, IsNotBelow, raise}
use Rattle.clk_num.proofs.Wraps.{wrapped}
use Rattle.clk_machine.specs.Plan.{Plan}
use Rattle.clk_machine.specs.Records.{record_zero, base_of, above_base}
use Rattle.clk_machine.specs.declared.reading.Published.{Published}
use Rattle.clk_machine.specs.declared.reading.RawReading.{RawReading}
use Rattle.clk_record.specs.declared.step.Step.{Step}
use Rattle.clk_record.specs.declared.step.Why.{Why}
use Rattle.clk_record.specs.declared.step.Why.TheVariants.{Raise}
use Rattle.clk_record.specs.Targets.{target}
use Rattle.clk_words.specs.declared.opening.Start.{Start}
use Rattle.clk_words.specs.declared.view.View.{View}
use Rattle.clk_words.specs.declared.view.Name.TheVariants.{Gtod, Raw}
use Rattle.clk_words.specs.Bounds.{IsRaw}
use Rattle.clk_words.specs.Calls.{step_of}
use Rattle.clk_words.specs.Histories.{opens_at, IsGlobalHistory}
use Rattle.clk_words.specs.Kinds.{cpu_of}
use Rattle.clk_words.specs.Knowing.{HasLoaded, IsTrusted}
use Rattle.clk_words.specs.Parts.{gtod_of, raw_of}
use Rattle.clk_words.specs.Told.{Raises, FindsRaw, FindsGtod, FindsOffset}
use Rattle.clk_words.proofs.Loading.{loaded_stamp, kept_stamp, kept_offset, trusted_half}
use Rattle.clk_words.proofs.Replay.{words_rise, follow_front}
use Rattle.clk_latch.specs.Calls.{Reads}
use Rattle.clk_latch.specs.Epoch.{Epoch}
use Rattle.clk_local.specs.Context.{BeginsAtBase}
use Rattle.clk_local.specs.Raising.{FindsWhy, own_step, shown_on}

-- ---- raw readings

-- a list that goes on has the same first item
stays_first : {A : Type 0} (before after : List A) → IsPrefix before after → (P : A → Type 0) → ((d : A) → P (get_or before 0 d)) → (d : A) → P (get_or after 0 d)
stays_first [] after p P first d = first (get_or after 0 d)
stays_first (x ∷ xs) after p P first d = subst (λ ys. P (get_or ys 0 d)) p.1 (first d)

-- a reading leaves record 0 as it was
pub still_base : (m : Plan) (cpu : ℕ) (adjust : ℤ) (before after : Epoch) (r : RawReading) → Reads m cpu adjust before after r
    → BeginsAtBase m before → BeginsAtBase m after
still_base m cpu adjust before after r reads begins = record {
  zero = stays_first before.records after.records reads.seen (λ (p : Published). p.ns ≡ base_of m) begins.zero;
}

-- what is not far above the base is near an opening that is not far above it
near_opening : (base opens raw : ℤ) → IsFrom0To (2 ^ 57) (above opens base) → IsFrom0To (11 * 2 ^ 55) (above raw base) → IsRaw opens raw
near_opening base opens raw p q = (omega (arith, ints, wrapped), omega (arith, ints, wrapped))

-- a raw reading is in the range of the words
pub raw_near : (m : Plan) (cpu : ℕ) (adjust : ℤ) (before after : Epoch) (r : RawReading) (opens : ℤ) → Reads m cpu adjust before after r
    → BeginsAtBase m before → IsFrom0To (2 ^ 57) (above_base m opens) → IsRaw opens r.ns
raw_near m cpu adjust before after r opens reads begins opening =
    let zero = record_zero m in
    let base = (still_base m cpu adjust before after r reads begins).zero zero in
    near_opening (base_of m) opens r.ns opening (subst (λ x. IsFrom0To (11 * 2 ^ 55) (above r.ns x)) base (reads.bound zero))

-- ---- the pair, and the step

-- the pair and the offset that were loaded may be named
pub trusted_why : (v half both w : View) (raw tick_raw tick_gtod offset : ℤ) → IsRaw (opens_at v.start) raw → FindsRaw v (cpu_of v.kind) tick_raw half → FindsGtod half (cpu_of half.kind) tick_gtod both
    → FindsOffset both offset w → IsTrusted w (Raise raw tick_raw tick_gtod offset)
trusted_why v half both w raw tick_raw tick_gtod offset bound one two three =
    let kept = kept_stamp v half (raw_of (cpu_of v.kind)) (Raw (cpu_of v.kind)) tick_raw one.finds in
    let loaded : HasLoaded half (Raw (cpu_of half.kind)) tick_raw =
    subst (λ k. HasLoaded half (Raw (cpu_of k)) tick_raw) (sym kept.kind_is) (loaded_stamp v half (raw_of (cpu_of v.kind)) (Raw (cpu_of v.kind)) tick_raw one.finds) in
    let later = kept_stamp half both (gtod_of (cpu_of half.kind)) (Gtod (cpu_of half.kind)) tick_gtod two.finds in
    let last = kept_offset both w offset three in
    let near : IsRaw (opens_at w.start) raw = subst (λ (s : Start). IsRaw (opens_at s) raw) (sym (last.start_is ∙ later.start_is ∙ kept.start_is)) bound in
    trusted_half half both w raw tick_raw tick_gtod offset near loaded two three

-- and they are what a reading goes by
pub found_why : (v half both w : View) (raw tick_raw tick_gtod offset : ℤ) → FindsRaw v (cpu_of v.kind) tick_raw half → FindsGtod half (cpu_of half.kind) tick_gtod both
    → FindsOffset both offset w → FindsWhy v raw (Raise raw tick_raw tick_gtod offset) w
found_why v half both w raw tick_raw tick_gtod offset one two three =
    let kept = kept_stamp v half (raw_of (cpu_of v.kind)) (Raw (cpu_of v.kind)) tick_raw one.finds in
    record {
      tick_raw = tick_raw;
      tick_gtod = tick_gtod;
      offset = offset;
      both = both;
      pair = record { half = half; first = one; second = subst (λ k. FindsGtod half k tick_gtod both) (ap cpu_of kept.kind_is) two };
      last = three;
      why_is = refl;
    }

-- the step of the seat's own word, in words of the same start
pub own_raise : (v : View) (start : Start) (call cpu : ℕ) (why : Why) (s : Step) → cpu ≡ cpu_of v.kind → v.start ≡ start
    → s ≡ step_of v call cpu s.old (raise s.old (target start.tick why)) why → s ≡ own_step v call why s.old
own_raise v start call cpu why s here same is =
    is
    ∙ ap (λ w. step_of v call w s.old (raise s.old (target start.tick why)) why) here
    ∙ ap (λ (o : Start). step_of v call (cpu_of v.kind) s.old (raise s.old (target o.tick why)) why) (sym same)

-- what a step finds is not below what the seat had seen of its word
pub found_not_below : (v w : View) (s : Step) → Raises v s w → IsNotBelow s.old (shown_on s.word v)
found_not_below v w s raises = subst (λ x. IsNotBelow x (shown_on s.word v)) (sym raises.old_is) (words_rise v.start v.seen raises.makes.between s.word legal)
  where
    whole : IsGlobalHistory v.start ((v.seen ++ raises.makes.between) ++ s ∷ [])
    whole = subst (λ (u : View). IsGlobalHistory u.start u.seen) raises.makes.view_is raises.makes.good.legal

    legal : IsGlobalHistory v.start (v.seen ++ raises.makes.between)
    legal = follow_front v.start [] (v.seen ++ raises.makes.between) (s ∷ []) whole
