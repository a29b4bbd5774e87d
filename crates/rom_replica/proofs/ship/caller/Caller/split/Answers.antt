use Rattle.std.proofs.Common.{◌+◌, ◌∷◌, ◌++◌, refl, sym, ap, ◌∙◌}
use Rattle.rom_frame.specs.declared.frame.Frame.{Frame}
use Rattle.rom_replica.specs.Merging.{frames_left, update_by}
use Rattle.rom_replica.proofs.Passing.{left_here, never_other, never_undone}
use Rattle.rom_replica.proofs.ship.caller.Caller.split.Goals as goal
use Rattle.rom_replica.proofs.ship.caller.Caller.split.Goals.{in_default-via-in-Update+in_default, in_default-via-in_default}

pub returns-in-Update-Done-clause-next : goal.returns-in-Update-Done-clause-next
returns-in-Update-Done-clause-next c =
    let own = c.args.self.now in
    let lines = own.script.now.items in
    let results = own.results.now.items in
    let e = c.in-Update-Done.ensures in
    let t = c.in-Update-Done.ensures' in
    let f : Frame = record { place = c.in-Update-Done.place; call = e.line.0; reply = t.told.0 } in (
      f,
      record { place = refl; call = e.line.2; reply = t.told.2 },
      left_here own.at lines results e.asks t.line e.left t.left ∙ ((λ i. update_by (e.line.1 i) (t.told.1 i) ++ frames_left (own.at + 1) lines results) ∙ ap (λ fs. f ∷ fs) (sym c.from.ensures)),
    )

pub returns-in_default-clause-none : goal.returns-in_default-clause-none
returns-in_default-clause-none c =
    let own = c.args.self.now in
    let e = c.line.ensures in
    let t = c.at.ensures in
    elim c.in_default.branch [
      | in_default-via-in-Update+in_default w ↦ absurd (never_undone own.at own.script.now.items own.results.now.items t.line c.at.result (c.if-is_over.ensures.not_over refl).0 t.left t.told w.in_default.not-Done-1 own.begins)
      | in_default-via-in_default w ↦ absurd (never_other own.at own.script.now.items own.results.now.items e.asks c.line.result (c.if-is_over.ensures.not_over refl).1 e.left e.line w.in_default.not-Update-0 own.begins)
    ]
