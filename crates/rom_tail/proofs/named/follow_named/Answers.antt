use Rattle.std.proofs.Common.{None, codes, refl, subst, sym, ◌∙◌}
use Rattle.std.proofs.lemmas.List.{with_items_is}
use Rattle.rom_run.proofs.Told.{writing_told}
use Rattle.rom_name.specs.Telling.{IsPrintedOr5}
use Rattle.rom_name.specs.Texts.{refusal_text}
use Rattle.rom_tail.specs.Named.{EndsBy}
use Rattle.rom_tail.proofs.Naming.{goes_on, named_by, writing_printed}
use Rattle.rom_tail.proofs.named.follow_named.Goals as goal

pub returns-in-Followed : goal.returns-in-Followed
returns-in-Followed g c =
    let shown = g.D.Device.shown in
    let source = g.S.Source.shown in
    let sink = g.O.Sink.shown in
    let met = c.meet_only.new.device in
    let found = c.meet_only.new.inputs in
    let kept = with_items_is c.args.inputs found (c.meet_only.ensures.many ∙ c.deref_mut.ensures.len) in
    let end = c.tail.result in
    let tailed = c.tail.ensures.promise in
    record {
      promise = named_by shown source c.args.missing c.args.device met sink end.device c.args.inputs.items c.deref_mut.result.now _ found end.scripts.items c.args.out.now c.tail.new.out end.status end.session None c.meet_only.result
          c.deref_mut.ensures.value kept c.meet_only.ensures.met
          (goes_on shown source c.args.missing c.args.device met sink end.device c.args.inputs.items c.deref_mut.result.now _ found end.scripts.items c.args.out.now c.tail.new.out end.status end.session None c.meet_only.result c.in-Followed.is (refl, tailed))
          tailed.writing tailed.rest;
    }

pub returns-in-Refused : goal.returns-in-Refused
returns-in-Refused g c =
    let shown = g.D.Device.shown in
    let source = g.S.Source.shown in
    let sink = g.O.Sink.shown in
    let met = c.meet_only.new.device in
    let found = c.meet_only.new.inputs in
    let kept = with_items_is c.args.inputs found (c.meet_only.ensures.many ∙ c.deref_mut.ensures.len) in
    let end = c.end_untailed.result.ended in
    let refusal = c.end_untailed.result.refusal in
    let is = c.end_untailed.ensures in
    let told : IsPrintedOr5 sink 3 (refusal_text c.in-Refused.why) c.args.out.now c.tell_refusal.new.out end.status = subst (IsPrintedOr5 sink 3 (refusal_text c.in-Refused.why) c.args.out.now c.tell_refusal.new.out) (sym is.status) c.tell_refusal.ensures.told in
    record {
      promise = named_by shown source c.args.missing c.args.device met sink end.device c.args.inputs.items c.deref_mut.result.now _ found end.scripts.items c.args.out.now c.tell_refusal.new.out end.status end.session refusal c.meet_only.result
          c.deref_mut.ensures.value kept c.meet_only.ensures.met
          (subst (EndsBy shown source sink met end.device _ end.scripts.items c.args.out.now c.tell_refusal.new.out end.status end.session refusal) (sym c.in-Refused.is) (is.refusal, is.untailed, told))
          (writing_printed sink 3 (refusal_text c.in-Refused.why) c.args.out.now c.tell_refusal.new.out end.status told) c.tell_refusal.ensures.rest;
    }

pub returns-in-DeviceFailed : goal.returns-in-DeviceFailed
returns-in-DeviceFailed g c =
    let shown = g.D.Device.shown in
    let source = g.S.Source.shown in
    let sink = g.O.Sink.shown in
    let met = c.meet_only.new.device in
    let found = c.meet_only.new.inputs in
    let kept = with_items_is c.args.inputs found (c.meet_only.ensures.many ∙ c.deref_mut.ensures.len) in
    let end = c.end_untailed-in-DeviceFailed.result.ended in
    let refusal = c.end_untailed-in-DeviceFailed.result.refusal in
    let is = c.end_untailed-in-DeviceFailed.ensures in
    record {
      promise = named_by shown source c.args.missing c.args.device met sink end.device c.args.inputs.items c.deref_mut.result.now _ found end.scripts.items c.args.out.now c.tell.new.out end.status end.session refusal c.meet_only.result
          c.deref_mut.ensures.value kept c.meet_only.ensures.met
          (subst (EndsBy shown source sink met end.device _ end.scripts.items c.args.out.now c.tell.new.out end.status end.session refusal) (sym c.in-DeviceFailed.is) (is.refusal, is.untailed, is.status ∙ c.number.ensures, c.tell.ensures.told))
          (writing_told sink c.args.out.now c.tell.new.out (codes "device failed") c.tell.ensures.told) c.tell.ensures.rest;
    }
