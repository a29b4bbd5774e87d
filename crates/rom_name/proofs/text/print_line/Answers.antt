use Rattle.std.proofs.Common.{sym, subst}
use Rattle.rom_text.specs.Streams.{Prints}
use Rattle.rom_name.specs.Texts.{refusal_text}
use Rattle.rom_name.proofs.text.print_line.Goals as goal

pub returns-in-NoName : goal.returns-in-NoName
returns-in-NoName g c = record {
  prints = subst (λ why. Prints g.O.Sink.shown c.args.out.now c.print_text.new.out c.print_text.result (refusal_text why)) (sym c.in-NoName.is) c.print_text.ensures.prints;
}

pub returns-in-OtherName : goal.returns-in-OtherName
returns-in-OtherName g c = record {
  prints = subst (λ why. Prints g.O.Sink.shown c.args.out.now c.print_other.new.out c.print_other.result (refusal_text why)) (sym c.in-OtherName.is) c.print_other.ensures.prints;
}

pub returns-in-OlderEpoch : goal.returns-in-OlderEpoch
returns-in-OlderEpoch g c = record {
  prints = subst (λ why. Prints g.O.Sink.shown c.args.out.now c.print_two.new.out c.print_two.result (refusal_text why)) (sym c.in-OlderEpoch.is) c.print_two.ensures.prints;
}

pub returns-in-SkippedEpoch : goal.returns-in-SkippedEpoch
returns-in-SkippedEpoch g c = record {
  prints = subst (λ why. Prints g.O.Sink.shown c.args.out.now c.print_two-in-SkippedEpoch.new.out c.print_two-in-SkippedEpoch.result (refusal_text why)) (sym c.in-SkippedEpoch.is) c.print_two-in-SkippedEpoch.ensures.prints;
}

pub returns-in-Parted : goal.returns-in-Parted
returns-in-Parted g c = record {
  prints = subst (λ why. Prints g.O.Sink.shown c.args.out.now c.print_two-in-Parted.new.out c.print_two-in-Parted.result (refusal_text why)) (sym c.in-Parted.is) c.print_two-in-Parted.ensures.prints;
}

pub returns-in-Gap : goal.returns-in-Gap
returns-in-Gap g c = record {
  prints = subst (λ why. Prints g.O.Sink.shown c.args.out.now c.print_one.new.out c.print_one.result (refusal_text why)) (sym c.in-Gap.is) c.print_one.ensures.prints;
}

pub returns-in-Nameless : goal.returns-in-Nameless
returns-in-Nameless g c = record {
  prints = subst (λ why. Prints g.O.Sink.shown c.args.out.now c.print_text-in-Nameless.new.out c.print_text-in-Nameless.result (refusal_text why)) (sym c.in-Nameless.is) c.print_text-in-Nameless.ensures.prints;
}
