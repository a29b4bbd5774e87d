use Rattle.std.proofs.Common.{rules, ◌≡◌, ◌++◌, sym, ap, ◌∙◌}
use Rattle.rom_frame.specs.Frames.{frame}
use Rattle.rom_frame.proofs.Coded.{length_by_first, no_prefix}
use Rattle.rom_frame.proofs.frame.read_frame.Goals as goal

pub returns-then-eq-clause-torn : goal.returns-then-eq-clause-torn
returns-then-eq-clause-torn c f rest small same there =
    let is : c.args.message.now ≡ frame c.in_ok-frame.frame = search rules in
    no_prefix c.in_ok-frame.frame f rest c.fill-len.ensures.of_words small (ap (λ xs. xs ++ rest) (sym is) ∙ same)

pub returns-then-eq-clause-first : goal.returns-then-eq-clause-first
returns-then-eq-clause-first c =
    let is : c.args.message.now ≡ frame c.in_ok-frame.frame = search rules in
    rw is (length_by_first c.in_ok-frame.frame c.fill-len.ensures.of_words)
