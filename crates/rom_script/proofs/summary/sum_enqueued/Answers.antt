use Rattle.std.proofs.Common.{◌≡◌, ◌+◌, ◌∷◌, [], ◌++◌, length, map, take, ap, sym, ◌∙◌, arith, length-append}
use Rattle.std.proofs.lemmas.Slice.Zip.{zip_turn, zip_end}
use Rattle.std.specs.List.{sum_by, zip}
use Rattle.rom_script.specs.Drill.{enqueued_of}
use Rattle.rom_script.proofs.Sums.{mapped_pair_more, mapped_pairs_all}
use Rattle.rom_script.proofs.summary.sum_enqueued.Goals as goal

pub loop-script-preserved : goal.loop-script-preserved
loop-script-preserved c =
    let scripts = c.args.scripts.now in
    let results = c.args.results.now in
    let first = ap (λ z. z.a.rest.now) c.into_iter-script-iterator.ensures.into_iter_gives ∙ ap (λ i. i.rest.now) c.zip-script-items.ensures.first ∙ c.iter.ensures.rest in
    let other : c.zip-script-items.result.b.rest.now ≡ results = c.zip-script-items.ensures.second.0 in
    let second = ap (λ z. z.b.rest.now) c.into_iter-script-iterator.ensures.into_iter_gives ∙ other in
    let turn = zip_turn scripts results c.loop-script.yielded c.into_iter-script-iterator.result c.loop-script.script-iterator c.next.new.self c.next.result first second c.loop-script.yielded_by
    (c.in-Some.script, c.in-Some.own) c.in-Some.is c.next.ensures.steps in
    let one : length (c.loop-script.yielded ++ (c.in-Some.script, c.in-Some.own) ∷ []) ≡ length c.loop-script.yielded + 1 = length-append c.loop-script.yielded ((c.in-Some.script, c.in-Some.own) ∷ []) in
    let value = c.enqueued_of-sum.ensures.sum in
    record {
      sum = (λ i. c.loop-script.invariant.sum i + value i)
          ∙ sym (mapped_pair_more (λ v. v.items) (λ v. v.items) scripts results (λ p. enqueued_of p.0 p.1) (length c.loop-script.yielded) c.in-Some.script.now c.in-Some.own.now turn.0 turn.1 (turn.2 c.in-Some.script.now) (turn.3 c.in-Some.own.now))
          ∙ ap (λ n. sum_by (λ p. enqueued_of p.0 p.1) (take n (zip (map (λ v. v.items) scripts) (map (λ v. v.items) results)))) (sym one);
      within = omega (arith, one, c.loop-script.invariant.within, c.enqueued_of-sum.ensures.within);
    }

pub returns : goal.returns
returns c =
    let scripts = c.args.scripts.now in
    let results = c.args.results.now in
    let first = ap (λ z. z.a.rest.now) c.into_iter-script-iterator.ensures.into_iter_gives ∙ ap (λ i. i.rest.now) c.zip-script-items.ensures.first ∙ c.iter.ensures.rest in
    let other : c.zip-script-items.result.b.rest.now ≡ results = c.zip-script-items.ensures.second.0 in
    let second = ap (λ z. z.b.rest.now) c.into_iter-script-iterator.ensures.into_iter_gives ∙ other in
    let end = zip_end scripts results c.loop-script.yielded c.into_iter-script-iterator.result c.loop-script.script-iterator c.next.new.self c.next.result first second c.loop-script.yielded_by c.in-None.is c.next.ensures.steps in
    record { sum = c.loop-script.invariant.sum ∙ mapped_pairs_all (λ v. v.items) (λ v. v.items) scripts results (λ p. enqueued_of p.0 p.1) (length c.loop-script.yielded) end }
