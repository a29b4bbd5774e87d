use Rattle.std.proofs.Common.{refl, sym, subst, List, ℕ}
use Rattle.rom_hear.specs.Events.{EndsAt}
use Rattle.rom_hear.specs.Hearing.{IsNext, waiting_in}
use Rattle.rom_hear.specs.declared.ear.Next.{Next}
use Rattle.rom_hear.proofs.Hearing.{next_cut, no_end}
use Rattle.rom_hear.proofs.ear.Ear.step.Goals as goal

pub returns-in-Some-clause-steps : goal.returns-in-Some-clause-steps
returns-in-Some-clause-steps g c =
    let log = g.P.Peer.shown.log c.args.peer.now in
    let at : EndsAt c.in-Some.len (waiting_in c.args.self.now) = subst (λ (bs : List ℕ). EndsAt c.in-Some.len bs) c.waiting.ensures c.in-Some.ensures.some in
    λ lines here. (
      refl,
      subst (λ (n : Next). IsNext c.cut.new.self log lines n) (sym c.cut.ensures.handed)
          (next_cut c.args.self.now c.cut.new.self log lines _ _ here at.1 at.2 c.cut.ensures.waiting c.cut.ensures.ended c.cut.ensures.long c.cut.ensures.line),
      λ end. absurd (no_end c.args.self.now.long c.cut.result c.cut.ensures.handed end),
    )
