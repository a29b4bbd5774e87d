use Rattle.rom_model.specs.Machine.{on_words}
use Rattle.std.proofs.Common.{rules, arith, ◌<◌, ap, sym, ◌∙◌}
use Rattle.rom_rule.specs.Places.{indicator_count, indicator_of}
use Rattle.rom_rule.specs.Views.{base_of, version_of}
use Rattle.rom_rule.specs.declared.views.View.{View}
use Rattle.rom_rule.proofs.Readers.{loads_version, arrives, loads_side}
use Rattle.rom_lr.proofs.Homes.{from_home}
use Rattle.rom_lr.proofs.shared.Shared.enter.Goals as goal

pub load-version-requires : goal.load-version-requires
load-version-requires g c = (search rules, search rules, rw c.version.ensures.is (loads_version g.O.Object.Contents (on_words g.O.Object.machine) (base_of c.args.self.now.table.shared.key) _ _ _ (c.requires.out, c.args.seat.now.numbered)))

pub store-requires : goal.store-requires
store-requires g c = let s = c.args.seat.now in let did = c.load-version.ensures.2 in let now = did.2 in
    (search rules, search rules, rw (from_home s.number c.load-version.result s.home s.placed.0 did.1, s.own ∙ sym (ap (λ m. m.0.number) now)) (arrives g.O.Object.Contents (on_words g.O.Object.machine) (base_of c.args.self.now.table.shared.key) _ _ _ c.load-version.result (ap (λ m. m.0.position) now, did.1, rw (ap (λ m. m.0.number) now) s.numbered)))

pub load-side-requires : goal.load-side-requires
load-side-requires g c = let s = c.args.seat.now in let did = c.load-version.ensures.2.2 in let went = c.store.ensures.2.1 in let v : View = c.load-version.new.seat.me.0 in let w : View = c.store.new.seat.me.0 in
    let low : indicator_of v.number (version_of v.position) < indicator_count w.base.callers
    = omega (arith, ap (λ m. m.0.number) did, ap (λ m. version_of m.0.position) did, c.load-version.ensures.2.1, ap (λ m. m.0.base.callers) went ∙ ap (λ m. m.0.base.callers) did, s.within, s.numbered) in (
      search rules,
      search rules,
      rw c.side.ensures.is (loads_side g.O.Object.Contents (on_words g.O.Object.machine) (base_of c.args.self.now.table.shared.key) g.met.O.Object.one_contents _ _ _ _ (
        ap (λ m. m.0.position) went,
        low,
        rw (ap (λ m. m.0.number) went) (rw (ap (λ m. m.0.number) did) s.numbered),
      )),
    )
