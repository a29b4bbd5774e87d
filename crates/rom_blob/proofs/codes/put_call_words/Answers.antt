use Rattle.std.proofs.Common.{sym, ap, ◌∙◌, Some}
use Rattle.rom_blob.specs.Codes.{blob_call_from_words}
use Rattle.rom_blob.specs.Tags.{set_back}
use Rattle.rom_blob.proofs.codes.put_call_words.Goals as goal

pub returns-in-Set-clause-back : goal.returns-in-Set-clause-back
returns-in-Set-clause-back c =
    let done = c.put_set_words.ensures in
    ap blob_call_from_words done.words ∙ (set_back c.in-Set.key c.in-Set.bytes done.few done.small ∙ ap Some (sym c.in-Set.is))
