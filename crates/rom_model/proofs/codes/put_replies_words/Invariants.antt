use Rattle.std.proofs.Common.{◌≡◌, ◌+◌, ◌*◌, ◌≤◌, ◌∷◌, ◌++◌, length, drop}
use Rattle.rom_model.specs.Codes as codes
use Rattle.rom_model.proofs.codes.put_replies_words.Given as goal

-- the words so far and those of the replies that are left are those of all
abbrev pub invariant-loop-reply : goal.invariant-loop-reply
invariant-loop-reply l = record {
  so_far : l.words ++ codes.all_words codes.single_reply_words (drop l.reply-index l.reply-items) ≡ 14 ∷ length l.reply-items ∷ codes.all_words codes.single_reply_words l.reply-items;
  few : length l.words ≤ 2 + 2 * l.reply-index;
  most : length l.reply-items ≤ 8;
}
