use Rattle.std.proofs.Common.{◌≡◌, ◌∙◌, ◌*◌, ℕ, IsTrue, List, arith, rules, sym, subst}
use Rattle.rom_rule.specs.declared.views.Base.{Base}
use Rattle.rom_combine.specs.Costs.{WithinHeap}
use Rattle.rom_device.specs.Device.{Leaves}
use Rattle.rom_header.specs.Fresh.{IsNewHeap}
use Rattle.rom_header.specs.Held.{Holds}
use Rattle.rom_open.specs.Making.{NoneOrHolds}
use Rattle.rom_open.specs.Within.{LiesAtRest, WithinMaking}
use Rattle.rom_model.specs.VecSpace.{words_of_space}
use Rattle.rom_rule.specs.Views.{base_of}
use Rattle.rom_store.specs.Openings.{Started}
use Rattle.rom_store.specs.Playing.{CanPlay}
use Rattle.rom_store.specs.Seating.{IsSeated}
use Rattle.rom_store.proofs.Starting.{made_first, session_since}
use Rattle.rom_store.proofs.playing_new.play_new.Goals as goal

pub of-opening-requires-clause-seated : goal.of-opening-requires-clause-seated
of-opening-requires-clause-seated g c =
    let seated = c.in-Ok.ensures.seated in
    subst (λ (b : Base). IsSeated g.O.Object.Contents (g.O.Object.STORES * g.O.Object.WEIGHT) b c.in-Ok.made.seated) (sym seated.base_is) seated

pub play_on-requires-clause-ready : goal.play_on-requires-clause-ready
play_on-requires-clause-ready g c = λ κs outlive.
    let Contents = g.O.Object.Contents in
    let made = c.in-Ok.ensures in
    let seated = made.seated in
    let scripts = c.args.scripts.now in
    let rooms = c.in-Ok.made.rooms in
    subst (λ (o : Started _). CanPlay Contents g.O.Object.machine.call_words o.table_id (base_of o.key) o.passes scripts rooms.results rooms.jobs) (sym c.of-opening.ensures.opening)
    (record {
      opened = subst (λ (b : Base). (s : g.O.Object.State) × (k : ℕ) × Contents b.order b.image s k) (sym seated.base_is) seated.formed;
      fresh = seated.passes;
      as_many = (seated.many, λ j. (sym seated.base_is j).callers);
      room = made.rooms;
      few = c.requires.few;
    })

pub returns-clause-played : goal.returns-clause-played
returns-clause-played g c =
    record {
      session =
          let shown = g.D.Device.shown in
          let opening = c.of-opening.result in
          let base_is = (λ j. base_of (c.of-opening.ensures.opening j).key) ∙ c.in-Ok.ensures.seated.base_is in
          let within = subst (λ d. WithinMaking shown c.args.order c.args.device d) (λ j. (sym c.of-opening.ensures.opening j).device) c.write_heap.ensures.within in
          let region : List ℕ = words_of_space c.in-Ok.made.region in
          let rests : LiesAtRest shown c.args.order c.write_heap.new.device = λ told.
          let made = c.write_heap.ensures.made told in
          let new : IsNewHeap c.args.order region (shown.words c.write_heap.new.device) = search rules in
          (region, record { heap = new.heap; idle = new.idle; main_is = new.main_is; back_is = new.back_is }) in
          let making : IsTrue shown.tells_images → Leaves shown (NoneOrHolds g.O.Object.Contents c.args.order g.O.Object.machine.empty) c.args.device c.write_heap.new.device = λ told. c.write_heap.ensures.images told in
          let stands : IsTrue shown.tells_images → (i : List ℕ) → shown.leaves c.write_heap.new.device i → Holds g.O.Object.Contents c.args.order i g.O.Object.machine.empty 0 = λ told. let held = c.write_heap.ensures.held_images told in search rules in
          let made = subst (λ d. LiesAtRest shown c.args.order d × (IsTrue shown.tells_images → Leaves shown (NoneOrHolds g.O.Object.Contents c.args.order g.O.Object.machine.empty) c.args.device d)
          × (IsTrue shown.tells_images → (i : List ℕ) → shown.leaves d i → Holds g.O.Object.Contents c.args.order i g.O.Object.machine.empty 0)) (λ j. (sym c.of-opening.ensures.opening j).device) (rests, making, stands) in
          let w = g.world in
          let laws = g.met.D.Device w.𝓛 w.𝓜 w.𝓡 ((λ s x. x), (λ x. x), (λ x. x), λ x. x) in
          session_since shown g.O.Object.machine g.O.Object.Contents c.args.scripts.now c.play_on.result.results.items _ _ c.play_on.result.closed
          (λ d same. made_first shown g.O.Object.Contents c.args.order g.O.Object.machine.empty c.args.device opening.device d (base_of opening.key).faults laws.counts_now laws.only_now within ((λ j. (base_is j).faults) ∙ c.fault_count.ensures) made.0 made.1 made.2 same) c.play_on.ensures.played.session;
      order = c.play_on.ensures.played.order ∙ (λ j. (base_of (c.of-opening.ensures.opening j).key).order) ∙ (λ j. (c.in-Ok.ensures.seated.base_is j).order);
      accepted = search rules;
      fits = search rules;
      empty = λ story is.
          let object = g.O.Object in
          let session = c.play_on.result.closed.session in
          let region : List ℕ = words_of_space c.in-Ok.made.region in
          let base_is = (λ j. base_of (c.of-opening.ensures.opening j).key) ∙ c.in-Ok.ensures.seated.base_is in
          let order_is : session.order ≡ c.args.order = c.play_on.ensures.played.order ∙ (λ j. (base_is j).order) in
          let image_is : session.image ≡ region = c.play_on.ensures.played.image ∙ (λ j. (base_is j).image) in
          let at : object.Contents c.args.order region story.opening story.opening_count = subst (λ (z : ℕ × List ℕ). object.Contents z.0 z.1 story.opening story.opening_count) (λ j. (order_is j, image_is j)) is.opening in
          let w = g.world in
          (g.met.O.Object w.𝓛 w.𝓜 w.𝓡 ((λ s x. x), (λ x. x), (λ x. x), λ x. x)).one_contents c.args.order region story.opening object.machine.empty story.opening_count 0 at c.in-Ok.ensures.region;
      faults =
          let base_is = (λ j. base_of (c.of-opening.ensures.opening j).key) ∙ c.in-Ok.ensures.seated.base_is in
          c.play_on.ensures.played.opening_faults ∙ (λ j. (base_is j).faults) ∙ c.fault_count.ensures;
      size = c.play_on.ensures.played.size ∙ (λ j. g.D.Device.shown.size (c.of-opening.ensures.opening j).device) ∙ c.write_heap.ensures.alters.size;
      outside = λ told.
          let words = g.D.Device.shown.words in
          let closed = c.play_on.result.closed in
          let base_is = (λ j. base_of (c.of-opening.ensures.opening j).key) ∙ c.in-Ok.ensures.seated.base_is in
          let first = c.write_heap.ensures.alters.words told in
          let second : WithinHeap c.args.order (words c.write_heap.new.device) (words closed.device) =
          subst (λ (z : ℕ × List ℕ). WithinHeap z.0 z.1 (words closed.device)) (λ j. ((base_is j).order, words (c.of-opening.ensures.opening j).device)) (c.play_on.ensures.played.outside told) in
          record {
            as_long = second.as_long ∙ first.as_long;
            before = λ k low. absurd (omega (arith, low));
            behind = λ k high. second.behind k (omega (arith, high)) ∙ first.behind k high;
          };
    }
