use Rattle.std.proofs.Common.{rules, ◌≡◌, ◌≤◌, length, take, sym, ap, ◌∙◌, subst, arith}
use Rattle.std.specs.Io.KnownBytes.{Consumes}
use Rattle.std.proofs.lemmas.List.{length-take-le}
use Rattle.rom_frame.specs.Messages.{first_word}
use Rattle.rom_frame.proofs.Hearing.{heard_behind, read_behind, same_word}
use Rattle.rom_frame.proofs.stream.message.next_message.Goals as goal

pub returns-clause-bytes : goal.returns-clause-bytes
returns-clause-bytes g c =
    let s = g.S.Source.shown in
    let eight = (c.read_part-first.ensures.whole c.in-Whole.is).0 in
    let before = subst (λ n. Consumes (s.left c.args.source.now) (s.left c.read_part-first.new.source) (take n c.read_part-first.new.block)) eight c.read_part-first.ensures.bytes in
    read_behind _ _ _ c.read_part-first.new.block c.read_part.new.block c.read_part.result.len c.read_part.ensures.within.0 (search rules) c.read_part.ensures.front before c.read_part.ensures.bytes

pub returns-clause-heard : goal.returns-clause-heard
returns-clause-heard g c =
    let len = c.read_part.result.len in
    let bytes = take len c.read_part.new.block in
    let within = c.read_part.ensures.within in
    let word : first_word bytes ≡ c.read_u64-words.result =
    same_word len c.read_part.new.block within.0 ∙ sym (same_word 8 c.read_part.new.block (omega arith)) ∙ ap first_word c.read_part.ensures.front ∙ sym c.read_u64-words.ensures in
    let there : len ≤ length c.read_part.new.block = search rules in
    let long : length bytes ≡ len = length-take-le len c.read_part.new.block there in
    let few : 4 ≤ c.read_u64-words.result = search rules in
    let many : c.read_u64-words.result ≤ 64 = search rules in
    let first = c.read_part-first.ensures.whole c.in-Whole.is in
    heard_behind g.S.Source.shown c.args.taken bytes c.args.source.now c.read_part-first.new.source c.read_part.new.source c.read_part.result.kind
    (omega (arith, word, few), omega (arith, word, many)) c.requires (omega (arith, first.1)) (omega (arith, long, within.0)) (omega (arith, long, within.1, word)) first.2
    (λ is. let w = c.read_part.ensures.whole is in (omega (arith, long, w.0, word), omega (arith, w.1, word), w.2))
    (λ is. let w = c.read_part.ensures.end is in (omega (arith, long, w.0), w.1))
    (λ is. let w = c.read_part.ensures.broken is in (omega (arith, long, w.0), omega (arith, long, w.1, word), omega (arith, long, w.2), w.3))
    (λ is. let w = c.read_part.ensures.failed is in (omega (arith, long, w.0, word), omega (arith, long, w.1), w.2))
    (λ is. let w = c.read_part.ensures.too_long is in (omega (arith, long, w.0), w.1))
