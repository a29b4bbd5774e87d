use Rattle.rom_combine.specs.Session.{SessionImage}
use Rattle.rom_model.specs.Machine.{on_words}
use Rattle.rom_rule.specs.Views.{base_of}
use Rattle.rom_store.specs.Start.{device_start}
use Rattle.rom_store.proofs.Spans.{leaves_first}
use Rattle.rom_caller.proofs.running.run_on.Goals as goal

pub returns : goal.returns
returns g c =
    let shown = g.D.Device.shown in
    let opening = c.args.opening in
    let closed = c.run_as.ensures.ended in
    record {
      run = record {
        story = closed.story;
        alone = c.run_as.ensures.alone;
        done = c.run_as.ensures.done;
        lasts = c.run_as.ensures.lasts;
        now = closed.now;
        went = closed.went;
        since = λ told story is.
            let w = closed.went story is in
            leaves_first shown (device_start shown opening.device) (shown.left_since opening.device) (base_of opening.key).faults (SessionImage g.O.Object.Contents (on_words g.O.Object.machine) story) w.first c.run_as.result.closed.device told w.begun (closed.since told story is);
        faults = closed.faults;
      };
      order = closed.order;
      image = closed.image;
      opening_faults = closed.opening_faults;
      since = λ told story is. let left = closed.since told story is in record { later = left.later; nothing_else = λ t i early now. left.nothing_else t i now; keeps = left.keeps };
      size = closed.size;
      outside = closed.outside;
    }
