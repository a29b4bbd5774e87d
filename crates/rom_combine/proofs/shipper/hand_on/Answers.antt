use Rattle.std.proofs.Common.{◌≡◌, ◌≤◌, IfSome, List, ℕ, arith, length, length-take-le, map, subst, sym, take}
use Rattle.rom_lr.specs.Seats.{plan}
use Rattle.rom_combine.specs.Shipping.{AreLast, Ships, reply_in, text_from}
use Rattle.rom_combine.proofs.Handed.{take_updates}
use Rattle.rom_combine.proofs.shipper.hand_on.Goals as goal

-- the batch that is handed on is one
pub invariant_of-ship : goal.invariant_of-ship
invariant_of-ship g c = let found : length (take c.args.done c.args.found.now) ≡ c.args.done = length-take-le c.args.done c.args.found.now c.requires.within in
    let answers : length (take c.args.done c.args.answers.now) ≡ c.args.done = length-take-le c.args.done c.args.answers.now (omega (arith, c.requires.within, c.requires.many)) in (
      omega (arith, found, answers),
      omega (arith, found, c.requires.within, c.requires.few),
      omega (arith, found, c.requires.fits),
      c.requires.unanswered,
      subst (λ (us : List (List ℕ × List ℕ)). AreLast (plan c.args.seat.now).history us) (sym (take_updates c.args.done c.args.found.now c.args.answers.now)) c.requires.published,
    )

pub returns : goal.returns
returns g c = record {
  ships = λ tells. subst (λ (us : List (List ℕ × List ℕ)). Ships (g.W.Shipper.shown.state c.args.shipper.now) (g.W.Shipper.shown.state c.ship.new.self) (text_from g.W.Shipper.shown.text c.args.place us))
      (take_updates c.args.done c.args.found.now c.args.answers.now) (c.ship.ensures.ships tells);
  last = subst (λ (us : List (List ℕ × List ℕ)). IfSome (g.W.Shipper.shown.last c.ship.new.self) (λ replies. replies ≡ map reply_in us))
      (take_updates c.args.done c.args.found.now c.args.answers.now) c.ship.ensures.last;
}
