use Rattle.std.proofs.Common.{Result, Ok, Err, OnOk}
use Rattle.rom_recover.proofs.Restoring.{midst_left, midst_images, end_left, end_images, end_done}
use Rattle.rom_recover.proofs.Keeping.{copy_kept_on}
use Rattle.rom_recover.proofs.Doubting.{copied_free, copied_leaves, end_certain, written_leaves}
use Rattle.rom_recover.proofs.restore.copy_over.Goals as goal

pub returns-in_err-copy_words-clause-left : goal.returns-in_err-copy_words-clause-left
returns-in_err-copy_words-clause-left g c =
    midst_left g.D.Device.shown c.args.geometry c.args.state _ _ _ _ _ c.requires.heap c.requires.state c.way-from.ensures c.region.ensures.region c.copy_words.ensures.does

pub returns-in_err-copy_words-clause-images : goal.returns-in_err-copy_words-clause-images
returns-in_err-copy_words-clause-images g c =
    midst_images g.D.Device.shown c.args.geometry c.args.state _ _ _ _ _ c.requires.heap c.requires.state c.way-from.ensures c.region.ensures.region c.copy_words.ensures.does
    g.met.D.Device.tells_both c.requires.certain

pub returns-clause-done : goal.returns-clause-done
returns-clause-done g c =
    end_done g.D.Device.shown c.args.geometry c.args.state _ _ _ _ _ c.requires.heap c.requires.state c.way-from.ensures c.region.ensures.region c.copy_words.ensures.does
    c.in_ok-copy_words.ensures.copied _ c.word.ensures.word _ c.write_certain.result c.write_certain.ensures.written

pub returns-clause-left : goal.returns-clause-left
returns-clause-left g c =
    end_left g.D.Device.shown c.args.geometry c.args.state _ _ _ _ _ c.requires.heap c.requires.state c.way-from.ensures c.region.ensures.region c.copy_words.ensures.does
    c.in_ok-copy_words.ensures.copied _ c.word.ensures.word _ c.write_certain.ensures.size c.write_certain.ensures.left

pub returns-clause-images : goal.returns-clause-images
returns-clause-images g c =
    end_images g.D.Device.shown c.args.geometry c.args.state _ _ _ _ _ c.requires.heap c.requires.state c.way-from.ensures c.region.ensures.region c.copy_words.ensures.does
    c.in_ok-copy_words.ensures.copied _ c.word.ensures.word _ g.met.D.Device.tells_both c.requires.certain c.write_certain.ensures.images

pub returns-clause-kept : goal.returns-clause-kept
returns-clause-kept g c told =
    let done = end_done g.D.Device.shown c.args.geometry c.args.state _ _ _ _ _ c.requires.heap c.requires.state c.way-from.ensures c.region.ensures.region c.copy_words.ensures.does
    c.in_ok-copy_words.ensures.copied _ c.word.ensures.word _ c.write_certain.result c.write_certain.ensures.written told in
    copy_kept_on c.args.geometry c.args.state _ _ _ _ _ _ c.write_certain.result (c.requires.heap told) c.way-from.ensures (c.requires.state told) c.region.ensures.region done (c.in_ok-copy_words.ensures.kept told)

pub returns-in_err-copy_words-clause-doubts : goal.returns-in_err-copy_words-clause-doubts
returns-in_err-copy_words-clause-doubts g c doubts sure =
    let told = g.met.D.Device.doubts_told doubts in
    copied_leaves g.D.Device.shown doubts told c.args.geometry c.args.state _ _ _ c.way-from.ensures c.region.ensures.region _ _ (c.requires.heap told.words) (c.requires.state told.words) sure c.copy_words.ensures.does

pub returns-clause-doubts : goal.returns-clause-doubts
returns-clause-doubts g c doubts sure =
    let told = g.met.D.Device.doubts_told doubts in
    let free = copied_free g.D.Device.shown doubts told c.args.geometry c.args.state _ _ _ c.way-from.ensures c.region.ensures.region _ _ (c.requires.heap told.words) (c.requires.state told.words) sure c.copy_words.ensures.does c.in_ok-copy_words.ensures.renews in
    written_leaves g.D.Device.shown doubts told c.args.geometry c.args.state _ _ _ c.way-from.ensures c.region.ensures.region _ _ (c.requires.heap told.words) (c.requires.state told.words) sure c.copy_words.ensures.does
    (c.in_ok-copy_words.ensures.copied told.words) _ c.word.ensures.word _ (c.write_certain.ensures.doubts doubts free)

pub returns-clause-recovers : goal.returns-clause-recovers
returns-clause-recovers g c doubts sure =
    let told = g.met.D.Device.doubts_told doubts in
    let free = copied_free g.D.Device.shown doubts told c.args.geometry c.args.state _ _ _ c.way-from.ensures c.region.ensures.region _ _ (c.requires.heap told.words) (c.requires.state told.words) sure c.copy_words.ensures.does c.in_ok-copy_words.ensures.renews in
    let done = end_done g.D.Device.shown c.args.geometry c.args.state _ _ _ _ _ c.requires.heap c.requires.state c.way-from.ensures c.region.ensures.region c.copy_words.ensures.does
    c.in_ok-copy_words.ensures.copied _ c.word.ensures.word _ c.write_certain.result c.write_certain.ensures.written told.words in
    ends c.write_certain.result (λ is settled. end_certain g.D.Device.shown doubts told c.args.geometry _ _ (c.requires.heap told.words) is settled (λ place here. free place (c.write_certain.ensures.fewer place here))) done (c.write_certain.ensures.settles doubts)
  where
    ends : {T E P Q R : Type 0} (r : Result T E) → (P → Q → R) → OnOk r P → OnOk r Q → OnOk r R
    ends (Ok done) by first second = by first second
    ends (Err failed) by first second = tt
