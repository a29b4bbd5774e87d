use Rattle.std.proofs.Common.{rules, ◌∙◌, sym}
use Rattle.rom_words.specs.Wanted.{told}
use Rattle.rom_words.proofs.Saying.{drilled, one_text}
use Rattle.rom_words.proofs.words.read_drill.Goals as goal

pub returns-clause-named : goal.returns-clause-named
returns-clause-named c =
    drilled (told c.args.said).plain (told c.args.said).options _ c.in_ok-callers.callers.now c.in_ok-callers.calls.now
    c.in_ok-read_within.field-0 c.in_ok-read_within-2.field-0 c.in_ok-read_within-3.field-0
    (one_text c.as_slice.result.now c.args.said.plain.items _ c.as_slice.ensures.value c.in-len1.len_at_least c.in-len1.len_below)
    (search rules) (sym c.in_ok-read_within.was ∙ c.read_within.ensures.number) (search rules) (search rules)
