use Rattle.std.proofs.Common.{◌++◌, ◌∷◌, [], List, ap, subst, sym, ◌∙◌, arith, inl, length, length-append, take}
use Rattle.std.specs.List.{AllByRecursion}
use Rattle.rom_rule.proofs.Told.{all_append}
use Rattle.rom_frame.specs.Frames.{IsOfWords}
use Rattle.rom_frame.specs.declared.frame.Frame.{Frame}
use Rattle.rom_replica.specs.Turns.{bytes_of_all}
use Rattle.rom_tail.specs.Waiting.{waits_in}
use Rattle.rom_tail.proofs.Blocks.{taken_more}
use Rattle.rom_tail.proofs.intake.Intake.cut.Goals as goal

pub loop-i-preserved : goal.loop-i-preserved
loop-i-preserved c =
    let so = c.loop-i.invariant in
    let front = c.in-Whole.ensures in
    let items = c.push.ensures in
    record {
      many = omega (arith, so.many, ap length items, length-append c.loop-i.frames.items (c.in-Whole.frame ∷ []));
      taken = taken_more _ (waits_in c.loop-i.self) c.loop-i.frames.items c.in-Whole.frame c.in-Whole.len so.taken (ap (take c.in-Whole.len) (sym c.waiting.ensures) ∙ front.is)
          ∙ (λ i. bytes_of_all (sym items i) ++ sym c.pass_over.ensures i);
      of_words = subst (λ (fs : List Frame). AllByRecursion IsOfWords fs) (sym items) (all_append IsOfWords c.loop-i.frames.items (c.in-Whole.frame ∷ []) so.of_words (front.of_words, tt));
    }

pub returns-in-Unfinished-clause-whole : goal.returns-in-Unfinished-clause-whole
returns-in-Unfinished-clause-whole c = inl (rw (sym c.waiting.ensures) c.in-Unfinished.ensures)
