use Rattle.std.proofs.Common.{[], ◌∷◌, ◌++◌, subst}
use Rattle.std.specs.Prelude.{codes}
use Rattle.std.specs.List.{flat_map}
use Rattle.rom_text.specs.Streams.{Prints}
use Rattle.rom_carry.proofs.gauge.print_gauge.Goals as goal

pub returns : goal.returns
returns g c = record {
  prints = subst (λ value. Prints g.K.Sink.shown c.args.out.now c.print_pieces.new.out c.print_pieces.result (flat_map (λ piece. piece) (codes "# TYPE romulus_" ∷ c.args.name.now ∷ (codes " gauge" ++ 10 ∷ codes "romulus_") ∷ c.args.name.now ∷ codes " " ∷ value ∷ (10 ∷ []) ∷ []))) c.format-value.ensures.text c.print_pieces.ensures.prints;
}
