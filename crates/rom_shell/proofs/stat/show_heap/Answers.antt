use Rattle.std.proofs.Common.{sym}
use Rattle.rom_shell.proofs.stat.show_heap.Goals as goal

pub returns-in-Ok-clause-session : goal.returns-in-Ok-clause-session
returns-in-Ok-clause-session g c =
    let opened = c.in-Ok.ensures.session in
    record {
      story = opened.story;
      each = opened.each;
      certain = opened.certain;
      told = λ story of.
          let stands = c.in-Ok.ensures.story story of in
          let printed = c.print_sizes.ensures.printed story.opening story.opening_count stands.1 in
          record { answered = opened.told story of; printed = rw (sym stands.0, c.in-Ok.ensures.unprinted) at printed };
    }
