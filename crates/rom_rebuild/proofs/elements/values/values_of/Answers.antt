use Rattle.std.proofs.Common.{◌≡◌, ◌+◌, [], ◌∷◌, ◌++◌, map, length, get_or, sym, subst, ap, ◌∙◌, arith, length-append}
use Rattle.std.specs.Option.{unwrap_or}
use Rattle.std.proofs.lemmas.List.{map_more, take_all}
use Rattle.rom_model.specs.Region.{Contents}
use Rattle.rom_model.specs.State.{value_of}
use Rattle.rom_rebuild.proofs.Fits.{fit_more}
use Rattle.rom_rebuild.proofs.elements.values.values_of.Goals as goal

pub returns-in_err-push-clause-words : goal.returns-in_err-push-clause-words
returns-in_err-push-clause-words c =
    let q = c.requires.region in
    let same = c.loop-key.invariant.image in
    (c.map_get.ensures.looks q.state q.count (subst (λ w. Contents c.args.order w q.state q.count) (sym same) q.contents)).image ∙ same

pub loop-key-preserved : goal.loop-key-preserved
loop-key-preserved c =
    let q = c.requires.region in
    let n = c.args.order in
    let same = c.loop-key.invariant.image in
    let items = c.in_ok-push.ensures.items in
    record {
      image = (c.map_get.ensures.looks q.state q.count (subst (λ w. Contents n w q.state q.count) (sym same) q.contents)).image ∙ same;
      so_far = λ s k held.
          let got : c.map_get.result ≡ value_of s (get_or c.args.keys.now c.loop-key.key-index 0) = c.map_get.ensures.is s k (subst (λ w. Contents n w s k) (sym same) held) in
          let value = c.unwrap_or-value.ensures ∙ ap (λ o. unwrap_or o 0) got in
          items ∙ (λ i. c.loop-key.invariant.so_far s k held i ++ value i ∷ []) ∙ sym (map_more (λ key. unwrap_or (value_of s key) 0) c.args.keys.now c.loop-key.key-index 0 c.loop-key-test.true);
      many = ap length items ∙ length-append c.loop-key.values.items (c.unwrap_or-value.result ∷ []) ∙ ap (λ m. m + 1) c.loop-key.invariant.many;
      fit = fit_more c.loop-key.values.items c.push.new.self.items c.unwrap_or-value.result items (omega arith) c.loop-key.invariant.fit;
    }

pub returns-clause-values : goal.returns-clause-values
returns-clause-values c s k held = c.loop-key.invariant.so_far s k held ∙ ap (map (λ key. unwrap_or (value_of s key) 0)) (take_all c.loop-key.key-index c.args.keys.now (omega arith))
