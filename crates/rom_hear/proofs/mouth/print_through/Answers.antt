use Rattle.std.proofs.Common.{ap, ◌∙◌}
use Rattle.rom_hear.proofs.Saying.{has_told, same_said}
use Rattle.rom_hear.proofs.mouth.print_through.Goals as goal

pub returns-clause-tells : goal.returns-clause-tells
returns-clause-tells g c =
    let p = c.print_gathered.ensures.prints in
    record {
      told = has_told _ _ _ c.print_gathered.result _ (same_said _ _ _ _ _ (ap (λ z. z.2) p.rest) (ap (λ z. z.1) p.rest ∙ c.requires.opened) c.print_gathered.new.out.only_said) p.bytes;
      cause = p.cause;
      unasked = record { idle = ap (λ z. z.3) p.rest; ended = ap (λ z. z.4) p.rest; unheard = ap (λ z. z.5) p.rest; rest = ap (λ z. z.6) p.rest };
    }
