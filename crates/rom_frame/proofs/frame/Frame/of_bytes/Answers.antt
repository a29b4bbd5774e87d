use Rattle.std.proofs.Common.{rules, ◌≡◌, ◌*◌, length, ap, ◌∙◌, arith}
use Rattle.std.proofs.lemmas.List.{take_at}
use Rattle.rom_frame.specs.Frames.{words_of_frame}
use Rattle.rom_frame.proofs.Coded.{length-frame, read_back, words_short}
use Rattle.rom_frame.proofs.frame.Frame.of_bytes.Goals as goal
use Rattle.rom_frame.proofs.frame.Frame.of_bytes.Goals.{then-bytes-gt-MOST_BYTES-via-then-bytes-gt-MOST_BYTES, then-bytes-gt-MOST_BYTES-via-else-bytes-gt-MOST_BYTES+then-bytes-ne0}

pub returns-then-bytes-gt-MOST_BYTES : goal.returns-then-bytes-gt-MOST_BYTES
returns-then-bytes-gt-MOST_BYTES c f small is = elim c.then-bytes-gt-MOST_BYTES.branch [
  | then-bytes-gt-MOST_BYTES-via-then-bytes-gt-MOST_BYTES w ↦ grind (arith, ap length is, length-frame f, words_short f small)
  | then-bytes-gt-MOST_BYTES-via-else-bytes-gt-MOST_BYTES+then-bytes-ne0 w ↦ grind (arith, ap length is, length-frame f, words_short f small)
]

pub returns : goal.returns
returns c f small is =
    let long : 8 * length c.read_u64_into.new.dst ≡ length c.args.bytes.now = search rules in
    let words : c.read_u64_into.new.dst ≡ words_of_frame f = read_back f c.args.bytes.now c.read_u64_into.new.dst small is long c.read_u64_into.ensures in
    c.of_words.ensures f small (take_at c.read_u64_into.new.dst _ _ (omega (arith, long)) ∙ words)
