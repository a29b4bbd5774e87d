-- An update by the words of its call and its reply.
use Rattle.std.specs.Prelude.{◌≡◌, Some}
use Rattle.rom_model.specs.Codes.{words_call, words_reply}
use Rattle.rom_frame.specs.declared.frame.Frame.{Frame}
use Rattle.rom_replica.specs.declared.ship.update.Update.{Update}

-- The frame has the place of the update, and the call and the reply that its words are read as.
pub record IsUpdateFrame (update : Update) (f : Frame) : Type 0 where
  pub place : f.place ≡ update.place
  pub call : words_call update.args.now ≡ Some f.call
  pub reply : words_reply update.reply.now ≡ Some f.reply
