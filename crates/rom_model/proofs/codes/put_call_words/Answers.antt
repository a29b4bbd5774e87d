use Rattle.std.proofs.Common.{sym, ap, ◌∙◌, Some}
use Rattle.rom_model.specs.Codes.{words_call}
use Rattle.rom_model.proofs.Tags.{group_back}
use Rattle.rom_model.proofs.codes.put_call_words.Goals as goal

pub returns-in-Group-clause-back : goal.returns-in-Group-clause-back
returns-in-Group-clause-back c =
    let done = c.put_group_words.ensures in
    ap words_call done.words ∙ (group_back c.in-Group.group done.size ∙ ap Some (sym c.in-Group.is))
