use Rattle.std.proofs.Common.{refl, sym, ap, subst, ◌∙◌, ◌≡◌, false, length, arith}
use Rattle.std.proofs.lemmas.List.{drop_all, take_all}
use Rattle.rom_text.specs.Lines.{without_cr}
use Rattle.rom_hear.specs.Events.{ends_in}
use Rattle.rom_hear.specs.Hearing.{IsNext, waiting_in}
use Rattle.rom_hear.specs.declared.ear.Next.{Next}
use Rattle.rom_hear.specs.declared.ear.Next.TheVariants as nexts
use Rattle.rom_hear.proofs.Hearing.{asks_one, at_more, at_on, at_same, next_failed, next_last, no_end}
use Rattle.rom_hear.proofs.ear.Ear.step_on.Goals as goal
use Rattle.rom_hear.proofs.ear.Ear.step_on.Goals.{else-waits-eq0-via-then-waits-eq0+else-not-self, else-waits-eq0-via-else-waits-eq0}

pub returns-then-self-clause-steps : goal.returns-then-self-clause-steps
returns-then-self-clause-steps g c =
    let ear = c.args.self.now in
    let log = g.P.Peer.shown.log c.args.peer.now in
    let many = ap length c.waiting-waits.ensures in
    λ lines here. (
      refl,
      subst (λ (n : Next). IsNext c.cut.new.self log lines n) (sym c.cut.ensures.handed)
          (next_last ear c.cut.new.self log lines here c.if-self.true c.requires.unbroken
          (λ short. elim c.else-waits-eq0.branch [ else-waits-eq0-via-then-waits-eq0+else-not-self w ↦ absurd (grind arith) | else-waits-eq0-via-else-waits-eq0 w ↦ omega (arith, many, w.if-waits-eq0.false) ])
          (c.cut.ensures.waiting ∙ drop_all (length c.waiting-waits.result.now) (waiting_in ear) (omega (arith, many)))
          c.cut.ensures.ended c.cut.ensures.long
          (c.cut.ensures.line ∙ ap without_cr (take_all (length c.waiting-waits.result.now) (waiting_in ear) (omega (arith, many))))),
      λ end. absurd (no_end ear.long c.cut.result c.cut.ensures.handed end),
    )

pub returns-in-Ok-clause-steps : goal.returns-in-Ok-clause-steps
returns-in-Ok-clause-steps g c = λ lines here.
    let mid = c.make_way.new.self in
    let k = c.in-Ok.ensures in
    let at = at_on c.args.self.now mid _ lines c.make_way.ensures.kept here in
    let going : mid.ended ≡ false = c.make_way.ensures.ended ∙ c.if-self.false in (
      at_more mid c.more.new.self _ _ k.came.0 lines at k.came.1 going k.came.2 k.came.3 k.long,
      asks_one mid _ _ k.came.0 lines at k.came.1 going c.make_way.ensures.unbroken,
    )

pub returns-in-Err-clause-steps : goal.returns-in-Err-clause-steps
returns-in-Err-clause-steps g c = λ lines here.
    let mid = c.make_way.new.self in
    let k = c.in-Err.ensures in
    let log = g.P.Peer.shown.log c.args.peer.now in
    let at = at_on c.args.self.now mid log lines c.make_way.ensures.kept here in
    let going : mid.ended ≡ false = c.make_way.ensures.ended ∙ c.if-self.false in
    let none : ends_in (waiting_in c.more.new.self) ≡ 0 = ap ends_in k.came.1 ∙ c.make_way.ensures.unbroken in (
      k.came.0,
      subst (λ o. IsNext c.more.new.self o lines nexts.Failed) (sym k.came.0)
          (next_failed c.more.new.self log lines (at_same mid c.more.new.self log lines at k.came.1 k.came.2 k.long) (k.came.2 ∙ going) none),
      λ end. cc,
    )
