-- What splits and joins say, over plain data.
use Rattle.std.proofs.Common.{◌≡◌, ℕ, ◌+◌, ◌≤◌, ◌⊎◌, ℤ, Option, None, Bool, true, false, not, cond, ◌||◌, ◌&&◌, List, [], ◌∷◌, ◌++◌, nat_eq, refl, sym, ap, ◌∙◌, subst, inl, inr, ⊎_elim, arith}
use Rattle.std.proofs.lemmas.List.Elements.{All-nil, All-head, All-tail}
use Rattle.clk_record.specs.declared.step.Step.{Step}
use Rattle.clk_words.specs.declared.opening.Start.{Start}
use Rattle.clk_words.specs.declared.view.View.{View}
use Rattle.clk_words.specs.declared.view.Load.{Load}
use Rattle.clk_words.specs.declared.view.Part.{Part}
use Rattle.clk_words.specs.declared.kind.SeatKind.{SeatKind}
use Rattle.clk_words.specs.declared.kind.SeatKind.TheVariants.{Owner, Reader, Watch}
use Rattle.clk_words.specs.Fronts.{Begins}
use Rattle.clk_words.specs.Kinds.{is_watch, same_kind}
use Rattle.clk_words.specs.Parts.{part_of, PartBegins}
use Rattle.clk_words.specs.Rights.{has_number, has_kind}
use Rattle.clk_words.specs.Views.{giver_view, joint_view, longer, joint_made, first_view}
use Rattle.clk_words.specs.Knowing.{IsSoundAs, AreSound, MayGive}
use Rattle.clk_words.specs.Told.{Settles}
use Rattle.clk_words.specs.WordSeats.{IsSeated}
use Rattle.clk_words.specs.Calls.{Joins}
use Rattle.clk_words.proofs.Owning.{has_left, has_right, owner_left, owns_left, watch_left, owners_owned}
use Rattle.clk_words.proofs.Calling.{loads_more}
use Rattle.clk_words.proofs.Pairs.{HasGift}
use Rattle.clk_words.proofs.Modes.{HasWatch}

-- the first seat
pub sits_first : (start : Start) → 1 ≤ start.cpus → IsSeated 0 (Reader 0) 1 [] (first_view start)
sits_first start some_cpu = record {
  empty = refl;
  live = refl;
  number_is = refl;
  kind_is = refl;
  made_is = refl;
  within = omega arith;
  sound = All-nil (λ (l : Load). IsSoundAs start [] l.of l.value);
  owned = λ c h. owners_owned start.cpus c h;
  watched = λ h. refl;
}

-- what may be given is there to give
pub gift_of : (number : ℕ) (kind : SeatKind) (made : ℕ) (taken : List (ℕ × Step)) (v : View) (gift : SeatKind) → IsSeated number kind made taken v → MayGive v gift → HasGift gift v.pairs
gift_of number kind made taken v (Owner cpu) seated may = seated.owned cpu may
gift_of number kind made taken v (Reader cpu) seated may = tt
gift_of number kind made taken v Watch seated may = tt

pub watch_of : (number : ℕ) (kind : SeatKind) (made : ℕ) (taken : List (ℕ × Step)) (v : View) (gift : SeatKind) → IsSeated number kind made taken v → MayGive v gift → HasWatch (is_watch gift) v.modes
watch_of number kind made taken v (Owner cpu) seated may = tt
watch_of number kind made taken v (Reader cpu) seated may = tt
watch_of number kind made taken v Watch seated may = seated.watched may

watches_still : (kind : SeatKind) (b : Bool) → same_kind Watch kind ≡ false → b ≡ true → (b && not (is_watch kind)) ≡ true
watches_still (Owner cpu) b h e = rw e refl
watches_still (Reader cpu) b h e = rw e refl
watches_still Watch b h e = absurd (cc)

pub sits_giver : (number : ℕ) (kind : SeatKind) (made : ℕ) (taken later : List (ℕ × Step)) (v w : View) (gift : SeatKind) → IsSeated number kind made taken v → later ≡ taken
    → w ≡ giver_view gift v → IsSeated number kind (made + 1) later w
sits_giver number kind made taken later v w gift seated same is = subst (IsSeated number kind (made + 1) later) (sym is) (record {
  empty = same ∙ seated.empty;
  live = seated.live;
  number_is = seated.number_is;
  kind_is = seated.kind_is;
  made_is = ap (λ k. k + 1) seated.made_is;
  within = seated.within;
  sound = seated.sound;
  owned = λ c h. let left = owner_left gift c v.gives h in owns_left gift c v.pairs.owns (seated.owned c left.0) left.1;
  watched = λ h. let left = watch_left gift v.gives h in watches_still gift v.modes.watch left.1 (seated.watched left.0);
})

-- a join
module _ (number : ℕ) (kind : SeatKind) (made : ℕ) (taken : List (ℕ × Step)) (a : View) (n : ℕ) (other : SeatKind) (m : ℕ) (gone : List (ℕ × Step)) (b w : View)
    (mine : IsSeated number kind made taken a) (yours : IsSeated n other m gone b) (met : Settles (joint_view a b) w) where
  front_begins : Begins a.seen (longer a.seen b.seen)
  front_begins = All-head (λ (f : List Step). Begins f (longer a.seen b.seen)) a.seen (b.seen ∷ []) met.fronts

  joint_owned : (c : ℕ) → has_kind (cond (nat_eq a.made 0) b.gives a.gives) (Owner c) ≡ true → has_number (a.pairs.owns ++ b.pairs.owns) c ≡ true
  joint_owned c = at (nat_eq a.made 0)
    where
      at : (t : Bool) → has_kind (cond t b.gives a.gives) (Owner c) ≡ true → has_number (a.pairs.owns ++ b.pairs.owns) c ≡ true
      at true h = has_right a.pairs.owns b.pairs.owns c (yours.owned c h)
      at false h = has_left a.pairs.owns b.pairs.owns c (mine.owned c h)

  joint_watched : has_kind (cond (nat_eq a.made 0) b.gives a.gives) Watch ≡ true → (a.modes.watch || b.modes.watch) ≡ true
  joint_watched = at (nat_eq a.made 0)
    where
      or_one : (x y : Bool) → (x ≡ true) ⊎ (y ≡ true) → (x || y) ≡ true
      or_one true y h = refl
      or_one false y h = ⊎_elim (λ (e : false ≡ true). absurd (cc)) (λ (e : y ≡ true). e) h

      at : (t : Bool) → has_kind (cond t b.gives a.gives) Watch ≡ true → (a.modes.watch || b.modes.watch) ≡ true
      at true h = or_one a.modes.watch b.modes.watch (inr (yours.watched h))
      at false h = or_one a.modes.watch b.modes.watch (inl (mine.watched h))

  pub sits_joined : (later : List (ℕ × Step)) → later ≡ taken → IsSeated number kind (joint_made made m) later w
  sits_joined later same = subst (IsSeated number kind (joint_made made m) later) (sym met.view_is) (record {
    empty = same ∙ mine.empty;
    live = mine.live;
    number_is = mine.number_is;
    kind_is = mine.kind_is;
    made_is = rw (mine.made_is, yours.made_is) refl;
    within = mine.within;
    sound = subst (λ zs. AreSound a.start zs a.loads) (sym front_begins.is) (loads_more a.start a.seen front_begins.rest a.loads mine.sound);
    owned = joint_owned;
    watched = joint_watched;
  })

-- what a join says, of the callers' views
pub says_joins : (a b w : View) → Settles (joint_view a b) w → Joins a b w
says_joins a b w met =
    let F : List Step → Type 0 = λ f. Begins f (longer a.seen b.seen) in
    let kept : List Part = (joint_view a b).pairs.parts in
    let P : List Part → Type 0 = λ parts. (r : ℕ) → PartBegins (part_of parts r) (part_of kept r) in
    let one = All-head F a.seen (b.seen ∷ []) met.fronts in
    let two = All-head F b.seen [] (All-tail F a.seen (b.seen ∷ []) met.fronts) in
    let seen : Option ℤ = (joint_view a b).modes.offset in
    let O : Option ℤ → Type 0 = λ z. (z ≡ None) ⊎ (z ≡ seen) in
    let offset_one = All-head O a.modes.offset (b.modes.offset ∷ []) met.offsets in
    let offset_two = All-head O b.modes.offset [] (All-tail O a.modes.offset (b.modes.offset ∷ []) met.offsets) in
    let parts_one = All-head P a.pairs.parts (b.pairs.parts ∷ []) met.parts in
    let parts_two = All-head P b.pairs.parts [] (All-tail P a.pairs.parts (b.pairs.parts ∷ []) met.parts) in
    record {
      view_is = met.view_is;
      good = met.good;
      first = subst (λ (u : View). Begins a.seen u.seen) (sym met.view_is) one;
      second = subst (λ (u : View). Begins b.seen u.seen) (sym met.view_is) two;
      first_parts = subst (λ (u : View). (r : ℕ) → PartBegins (part_of a.pairs.parts r) (part_of u.pairs.parts r)) (sym met.view_is) parts_one;
      second_parts = subst (λ (u : View). (r : ℕ) → PartBegins (part_of b.pairs.parts r) (part_of u.pairs.parts r)) (sym met.view_is) parts_two;
      first_offset = subst (λ (u : View). (a.modes.offset ≡ None) ⊎ (a.modes.offset ≡ u.modes.offset)) (sym met.view_is) offset_one;
      second_offset = subst (λ (u : View). (b.modes.offset ≡ None) ⊎ (b.modes.offset ≡ u.modes.offset)) (sym met.view_is) offset_two;
    }
