use Rattle.std.proofs.Common.{◌≡◌, [], ◌∷◌, ◌++◌, length-append, map, sym, ap, ◌∙◌, subst, arith}
use Rattle.std.specs.List.{All}
use Rattle.std.proofs.lemmas.List.{map-append}
use Rattle.std.proofs.lemmas.List.Elements.{All-nil, All-cons, All-append}
use Rattle.clk_latch.specs.Epoch.{Place, owner_of}
use Rattle.clk_threads.proofs.latches.fill_latches.Goals as goal

pub loop-preserved : goal.loop-preserved
loop-preserved c =
    let before = c.loop.invariant in
    let seat : Place = c.in_ok-latch.seat in
    let epochs = c.push.ensures.items in
    let seats = c.push-in-loop.ensures.items in
    let count = before.count in
    let both = length-append c.loop.epochs.items (c.in_ok-latch.latch ∷ []) in
    let epochs_left = c.push.ensures.room in
    let seats_left = c.push-in-loop.ensures.room in
    let epochs_room = before.epochs_room in
    let seats_room = before.seats_room in
    record {
      count = rw epochs (omega (arith, both, count));
      latches =
          ap (map (λ (s : Place). s.latch)) seats ∙ map-append (λ (s : Place). s.latch) c.loop.seats.items (seat ∷ [])
          ∙ ap (λ xs. xs ++ seat.latch ∷ []) before.latches
          ∙ ap (λ l. c.loop.epochs.items ++ l ∷ []) c.in_ok-latch.ensures.own
          ∙ sym epochs;
      owners =
          subst (All (λ (s : Place). s.epoch ≡ owner_of c.args.zero 1024)) (sym seats)
          (All-append (λ (s : Place). s.epoch ≡ owner_of c.args.zero 1024) c.loop.seats.items (seat ∷ []) before.owners
          (All-cons (λ (s : Place). s.epoch ≡ owner_of c.args.zero 1024) seat [] c.in_ok-latch.ensures.seat
          (All-nil (λ (s : Place). s.epoch ≡ owner_of c.args.zero 1024))));
      epochs_room = omega (arith, epochs_left, epochs_room);
      seats_room = omega (arith, seats_left, seats_room);
    }
