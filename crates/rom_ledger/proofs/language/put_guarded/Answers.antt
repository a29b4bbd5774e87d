use Rattle.std.proofs.Common.{◌++◌, codes, ap}
use Rattle.rom_model.specs.declared.line.Step.TheVariants.{Update}
use Rattle.rom_guard.specs.declared.call.GuardedCall.TheVariants.{All}
use Rattle.rom_ledger.proofs.language.put_guarded.Goals as goal

pub returns-in-Some : goal.returns-in-Some
returns-in-Some c =
    let call = All c.in-Some.group in
    let fits = c.in-Some.ensures.some in
    (Update call, (call, (λ i. Update call), c.put_call_words.ensures.back), (fits.0, ap (λ members. codes "all " ++ members) fits.1))
