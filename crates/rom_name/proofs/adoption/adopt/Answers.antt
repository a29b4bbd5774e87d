use Rattle.std.proofs.Common.{rules, ◌≡◌, ◌+◌, inr, Result, Ok, Err, subst, sym, ◌∙◌}
use Rattle.std.specs.Result.{IsErrAnd}
use Rattle.rom_device.specs.Device.{ShownDevice}
use Rattle.rom_name.specs.Adopting.{IsAdopted, IsNext}
use Rattle.rom_name.specs.Identities.{IsNamed, IsOwnAnswer, WritesEpoch}
use Rattle.rom_name.specs.declared.adoption.Adopted.{Adopted}
use Rattle.rom_name.specs.declared.adoption.AdoptRefused.{AdoptRefused}
use Rattle.rom_name.specs.declared.adoption.AdoptRefused.TheVariants.{Device}
use Rattle.rom_name.proofs.Carrying.{does_behind, failed_behind, same_epoch}
use Rattle.rom_name.proofs.adoption.adopt.Goals as goal

failed_so : {D : Type 0} (shown : ShownDevice D) (old new : D) (r : Result Adopted AdoptRefused) → IsErrAnd r (λ e. e ≡ Device) → IsAdopted shown old new (Err Device) → IsAdopted shown old new r
failed_so shown old new (Ok adopted) is facts = absurd is
failed_so shown old new (Err refused) is facts = subst (λ (e : AdoptRefused). IsAdopted shown old new (Err e)) (sym is) facts

pub returns-in_err-write_epoch-clause-adopted : goal.returns-in_err-write_epoch-clause-adopted
returns-in_err-write_epoch-clause-adopted g c =
    let shown = g.D.Device.shown in
    let own = c.in-Some.own in
    let named : IsNamed own.identity.name = search rules in
    let later : c.in-Some-checked_add.epoch ≡ own.identity.epoch + 1 = search rules in
    let adopted : Adopted = record { name = own.identity.name; epoch = c.in-Some-checked_add.epoch; count = own.count } in
    let next : IsNext own adopted = record { named = named; name = λ i. own.identity.name; epoch = later; count = λ i. own.count } in
    failed_so shown c.args.device.now c.write_epoch.new.device c.from_residual-in_err-write_epoch.result c.from_residual-in_err-write_epoch.ensures.1 (
      failed_behind shown c.args.device.now c.read_own.new.device c.write_epoch.new.device c.in_ok-own.ensures.cause.none c.in_err-write_epoch.ensures.makes.cause.failed,
      inr (
        own,
        adopted,
        λ told. subst (IsOwnAnswer (shown.words c.args.device.now)) c.in-Some.is (c.in_ok-own.ensures.answer told),
        next,
        does_behind shown (WritesEpoch adopted.epoch adopted.count) (same_epoch adopted.epoch adopted.count) c.args.device.now c.read_own.new.device c.write_epoch.new.device c.in_ok-own.ensures.only c.write_epoch.ensures.does,
      ),
    )

pub returns-clause-adopted : goal.returns-clause-adopted
returns-clause-adopted g c =
    let shown = g.D.Device.shown in
    let own = c.in-Some.own in
    let named : IsNamed own.identity.name = search rules in
    let later : c.in-Some-checked_add.epoch ≡ own.identity.epoch + 1 = search rules in
    let epoch = c.in-Some-checked_add.epoch in (
      own,
      λ told. subst (IsOwnAnswer (shown.words c.args.device.now)) c.in-Some.is (c.in_ok-own.ensures.answer told),
      record { named = named; name = λ i. own.identity.name; epoch = later; count = λ i. own.count },
      does_behind shown (WritesEpoch epoch own.count) (same_epoch epoch own.count) c.args.device.now c.read_own.new.device c.write_epoch.new.device c.in_ok-own.ensures.only c.write_epoch.ensures.does,
      c.in_ok-write_epoch.ensures.makes.cause.none ∙ c.in_ok-own.ensures.cause.none,
      λ told. (c.in_ok-write_epoch.ensures.epoch told, c.in_ok-write_epoch.ensures.since told),
    )
