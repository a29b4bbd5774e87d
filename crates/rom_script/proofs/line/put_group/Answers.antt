use Rattle.std.proofs.Common.{◌++◌, codes, ap}
use Rattle.rom_model.specs.declared.call.Call.TheVariants.{Group}
use Rattle.rom_model.specs.declared.line.Step.TheVariants.{Update}
use Rattle.rom_script.proofs.line.put_group.Goals as goal

pub returns-in-Some : goal.returns-in-Some
returns-in-Some c =
    let call = Group c.in-Some.group in
    let fits = c.in-Some.ensures.some in
    (Update call, (call, (λ i. Update call), c.put_call_words.ensures.back), (fits.0, ap (λ members. codes "tx " ++ members) fits.1))
