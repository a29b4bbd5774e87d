use Rattle.std.proofs.Common.{◌≡◌, length, take, rules, sym, ap, ◌∙◌, arith}
use Rattle.std.specs.Prelude.{Some}
use Rattle.rom_frame.specs.declared.head.Head.{Head}
use Rattle.rom_frame.specs.Heads.{AreWords, head, head_words}
use Rattle.rom_frame.proofs.Heads.{head_back, length-head}
use Rattle.rom_frame.proofs.head.read_head.Goals as goal

pub returns-then-message-ne-HEAD_BYTES-clause-whole : goal.returns-then-message-ne-HEAD_BYTES-clause-whole
returns-then-message-ne-HEAD_BYTES-clause-whole c h small is = grind (arith, ap length is, length-head h)

pub returns-then-eq-clause-whole : goal.returns-then-eq-clause-whole
returns-then-eq-clause-whole c h small is =
    let long : length c.read_u64_into.new.dst ≡ 7 = search rules in
    ap Some (c.of_words-head.ensures h (head_back h c.args.message.now c.read_u64_into.new.dst small is long c.read_u64_into.ensures))

pub returns-else-eq-clause-whole : goal.returns-else-eq-clause-whole
returns-else-eq-clause-whole c h small is =
    let long : length c.read_u64_into.new.dst ≡ 7 = search rules in
    let same : c.of_words-head.result ≡ h = c.of_words-head.ensures h (head_back h c.args.message.now c.read_u64_into.new.dst small is long c.read_u64_into.ensures) in
    let bytes : c.args.message.now ≡ take c.fill-len.result c.fill-len.new.bytes = is ∙ ap head (sym same) ∙ sym c.fill-len.ensures.head in
    search rules
