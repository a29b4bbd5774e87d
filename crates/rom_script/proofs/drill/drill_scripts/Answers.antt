use Rattle.std.proofs.Common.{◌≡◌, ◌+◌, ◌*◌, ◌≤◌, [], ◌∷◌, ◌++◌, All, length, map, ap, sym, subst, ◌∙◌, arith}
use Rattle.std.proofs.lemmas.List.{map-append}
use Rattle.std.proofs.lemmas.List.Elements.{All-push}
use Rattle.std.proofs.lemmas.List.FromFn.{map-range_with_len_more}
use Rattle.rom_script.specs.Drill.{drill_script}
use Rattle.rom_script.proofs.drill.drill_scripts.Goals as goal

pub loop-before-preserved : goal.loop-before-preserved
loop-before-preserved c =
    let own = c.in_ok-drill_script.field-0 in
    let script = drill_script c.args.start c.args.callers c.args.calls in
    let number : 1 + c.loop-before.before ≡ c.loop-before.before + 1 = omega arith in
    record {
      lines = ap (map (λ v. v.items)) c.in_ok-push.ensures.items ∙ map-append (λ v. v.items) c.loop-before.scripts.items (own ∷ [])
          ∙ (λ i. c.loop-before.invariant.lines i ++ c.in_ok-drill_script.ensures.lines i ∷ [])
          ∙ sym (map-range_with_len_more script 1 c.loop-before.before (c.loop-before.before + 1) number);
      many = omega (arith, c.in_ok-push.ensures.len, c.loop-before.invariant.many);
      few = subst (λ vs. All (λ v. length v.items ≤ 4 + 2 * c.args.calls) vs) (sym c.in_ok-push.ensures.items)
          (All-push (λ v. length v.items ≤ 4 + 2 * c.args.calls) c.loop-before.scripts.items own c.loop-before.invariant.few c.in_ok-drill_script.ensures.few);
    }
