use Rattle.std.proofs.Common.{sym, ◌∙◌}
use Rattle.rom_replica.specs.Merging.{frames_left}
use Rattle.rom_replica.proofs.Taking.{takes}
use Rattle.rom_replica.proofs.ship.merge.next.Goals as goal

pub returns-clause-next : goal.returns-clause-next
returns-clause-next c =
    let found = c.in-Some.ensures.next in (
      found.0,
      found.1,
      sym (takes (λ caller. frames_left caller.at caller.script.now.items caller.results.now.items) c.args.callers.now c.in_ok-i.i c.in_ok-i.field-0-1 c.index-callers-i.result
          (sym c.least.ensures.is ∙ c.in_ok-i.was) c.in_ok-i.ensures.within found.0 c.in-Some.rest found.2),
    )
