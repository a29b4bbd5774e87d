use Rattle.std.proofs.Common.{◌≡◌, ◌<◌, ◌≤◌, ◌+◌, ◌++◌, ◌∷◌, [], All, length, map, get_or, slice_set, ap, arith, length-append, subst, sym, ◌∙◌}
use Rattle.std.proofs.lemmas.List.{map-append}
use Rattle.std.proofs.lemmas.List.Elements.{All-push}
use Rattle.rom_model.specs.History.{LAST_COUNT}
use Rattle.rom_run.proofs.Sources.{AreReadUpTo, all_unasked, asked_so_far, cause_of, first_unread, one_read_more, unfailed_by, unfailed_read, unfailed_so_far}
use Rattle.rom_run.proofs.script.read_all.Goals as goal

pub returns-in_default-clause-asked_once : goal.returns-in_default-clause-asked_once
returns-in_default-clause-asked_once g c = all_unasked g.S.Source.shown c.args.sources.now

pub returns-in-Err-clause-unread : goal.returns-in-Err-clause-unread
returns-in-Err-clause-unread g c =
    let source = g.S.Source.shown in
    let read = c.loop-i.invariant.read in
    let was = get_or c.loop-i.sources c.loop-i.i c.index-sources-i.result in
    let is = ap (λ d. get_or c.loop-i.sources c.loop-i.i d) c.index-sources-i.is in
    let lt : c.loop-i.i < length c.loop-i.sources = omega (arith, c.loop-i-test.true, read.as_many) in
    first_unread g.L.Lines.Reads source c.loop-i.i c.args.sources.now c.loop-i.sources _ was c.read_script.new.source lt is read c.in-Err.why
    (cause_of source c.in-Err.why was c.read_script.new.source c.in-Err.ensures.ends)

pub returns-in-Err-clause-unfailed : goal.returns-in-Err-clause-unfailed
returns-in-Err-clause-unfailed g c = λ not.
    let source = g.S.Source.shown in
    let read = c.loop-i.invariant.read in
    let was = get_or c.loop-i.sources c.loop-i.i c.index-sources-i.result in
    let is = ap (λ d. get_or c.loop-i.sources c.loop-i.i d) c.index-sources-i.is in
    let lt : c.loop-i.i < length c.loop-i.sources = omega (arith, c.loop-i-test.true, read.as_many) in
    unfailed_so_far g.L.Lines.Reads source c.loop-i.i c.args.sources.now c.loop-i.sources _ was c.read_script.new.source lt is read
    (unfailed_by source c.in-Err.why (c.loop-i.i + 1) was c.read_script.new.source c.in-Err.ensures.ends not)

pub returns-in-Err-clause-asked_once : goal.returns-in-Err-clause-asked_once
returns-in-Err-clause-asked_once g c =
    let source = g.S.Source.shown in
    let read = c.loop-i.invariant.read in
    let was = get_or c.loop-i.sources c.loop-i.i c.index-sources-i.result in
    let is = ap (λ d. get_or c.loop-i.sources c.loop-i.i d) c.index-sources-i.is in
    let lt : c.loop-i.i < length c.loop-i.sources = omega (arith, c.loop-i-test.true, read.as_many) in
    asked_so_far g.L.Lines.Reads source c.loop-i.i c.args.sources.now c.loop-i.sources _ was c.read_script.new.source lt is read c.in-Err.ensures.ends.asked_once

pub loop-i-preserved : goal.loop-i-preserved
loop-i-preserved g c =
    let source = g.S.Source.shown in
    let inv = c.loop-i.invariant in
    let read = inv.read in
    let told = c.in-Ok-read_script.ensures in
    let was = get_or c.loop-i.sources c.loop-i.i c.index-sources-i.result in
    let is = ap (λ d. get_or c.loop-i.sources c.loop-i.i d) c.index-sources-i.is in
    let lt : c.loop-i.i < length c.loop-i.sources = omega (arith, c.loop-i-test.true, read.as_many) in
    let pushed = c.push_reserved.ensures.items in
    let own = c.in-Ok-read_script.lines in
    let scripts_are : map (λ v. v.items) c.loop-i.scripts.items ++ c.in-Ok-read_script.lines.items ∷ [] ≡ map (λ v. v.items) c.push_reserved.new.self.items
    = sym (map-append (λ v. v.items) c.loop-i.scripts.items (own ∷ [])) ∙ ap (map (λ v. v.items)) (sym pushed) in
    record {
      read = subst (λ ss. AreReadUpTo g.L.Lines.Reads source (c.loop-i.i + 1) c.args.sources.now (slice_set c.loop-i.sources c.loop-i.i c.read_script.new.source) ss) scripts_are
          (one_read_more g.L.Lines.Reads source c.loop-i.i c.args.sources.now c.loop-i.sources _ was c.read_script.new.source lt is read (c.in-Ok-read_script.lines.items)
          told.lines told.fits told.ends.to_its_end.at_end told.ends.asked_once (unfailed_read source c.in-Ok-read_script.lines was c.read_script.new.source told.ends));
      few = subst (λ vs. All (λ v. length v.items ≤ LAST_COUNT) vs) (sym pushed)
          (All-push (λ v. length v.items ≤ LAST_COUNT) c.loop-i.scripts.items own inv.few (omega (arith, told.few)));
      many = omega (arith, ap (λ vs. length vs) pushed, length-append c.loop-i.scripts.items (own ∷ []), inv.many);
      room = omega (arith, inv.room, c.push_reserved.ensures.capacity);
    }
