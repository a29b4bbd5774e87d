use Rattle.std.proofs.Common.{◌≡◌, List, ℕ, Option, Some, sym, ap, ◌∙◌}
use Rattle.std.specs.Prelude.{option_map}
use Rattle.rom_blob_region.specs.State.{BlobState, blob_step}
use Rattle.rom_blob_region.specs.declared.call.BlobCall.{BlobCall}
use Rattle.rom_blob.specs.Codes.{blob_call_from_words, blob_reply_words}
use Rattle.rom_blob.proofs.blobs.BlobsObject.apply_words.Goals as goal

pub returns-clause-done : goal.returns-clause-done
returns-clause-done g c s k held =
    let call = c.unwrap-call.result in
    let after = blob_step c.args.order s k call in
    let is : blob_call_from_words c.args.words.now ≡ Some call = sym c.words_call.ensures ∙ c.unwrap-call.ensures in
    let done = c.apply_blob.ensures.done s k held in
    let told : c.put_reply_words.new.words ≡ blob_reply_words after.1 = c.put_reply_words.ensures.words ∙ ap blob_reply_words done.0 in
    let did : Option BlobCall → Option (BlobState × List ℕ) = option_map (λ call. let done = blob_step c.args.order s k call in (done.0, blob_reply_words done.1)) in
    (after.0, ap did is ∙ ap (λ ws. Some (after.0, ws)) (sym told), done.1)
