use Rattle.std.proofs.Common.{◌≡◌, ◌∙◌, ap, length, rules, subst, sym}
use Rattle.std.proofs.lemmas.List.{length-map}
use Rattle.rom_lr.specs.Seats.{opened_with}
use Rattle.rom_model.specs.VecSpace.{words_of_space}
use Rattle.rom_store.specs.Callers.{IsNewCaller, caller_at}
use Rattle.rom_store.specs.Indexed.{Indexed}
use Rattle.rom_store.specs.Seating.{base_for}
use Rattle.rom_store.proofs.Beginning.{new_callers, new_idle}
use Rattle.rom_store.proofs.seated.Seated.new.Goals as goal

pub passes_of-requires : goal.passes_of-requires
passes_of-requires g c =
    record { idle = new_idle c.in_ok-shared.shared c.in_ok-shared.seats.items c.in_ok-shared.ensures.seats }

pub returns : goal.returns
returns g c =
    let shared = c.in_ok-shared.shared in
    let base_is : opened_with shared ≡ base_for c.args.order c.args.callers (words_of_space c.args.image.now) c.args.faults = search rules in
    record {
      formed = c.requires.formed;
      of = c.in_ok-shared.ensures.of;
      base_is = base_is;
      writer = c.in_ok-shared.ensures.writer;
      ready = search rules;
      many = ap length c.in_ok-passes.ensures.passes ∙ (length-map c.in_ok-shared.seats.items caller_at ∙ c.in_ok-shared.ensures.many);
      passes = subst (Indexed (IsNewCaller g.O.Object.Contents shared.table.shared.table_id (opened_with shared))) (sym c.in_ok-passes.ensures.passes)
          (new_callers shared c.in_ok-shared.seats.items c.in_ok-shared.ensures.seats g.O.Object.Contents);
      begun = search rules;
    }
