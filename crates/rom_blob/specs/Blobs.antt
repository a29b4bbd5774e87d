-- Keys with bytes, as their callers see them.
use Rattle.rom_model.specs.Machine.{Machine}
use Rattle.rom_blob_region.specs.State.{BlobState, no_blobs, blob_step, blob_tell, blob_cost}
use Rattle.rom_blob_region.specs.declared.call.BlobCall.{BlobCall}
use Rattle.rom_blob_region.specs.declared.call.BlobQuery.{BlobQuery}
use Rattle.rom_blob_region.specs.declared.call.BlobReply.{BlobReply}
use Rattle.rom_blob_region.specs.declared.call.BlobAnswer.{BlobAnswer}
use Rattle.rom_blob.specs.Codes.{blob_call_words, blob_call_from_words, blob_reply_words, blob_reply_from_words}

-- each call has the weight 1
abbrev pub blobs : Machine BlobState BlobCall BlobQuery BlobReply BlobAnswer
blobs = record {
  empty = no_blobs;
  step = blob_step;
  weight = λ call. 1;
  tell = blob_tell;
  cost = blob_cost;
  call_words = blob_call_words;
  words_call = blob_call_from_words;
  reply_words = blob_reply_words;
  words_reply = blob_reply_from_words;
}
