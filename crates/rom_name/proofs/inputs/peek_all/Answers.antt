use Rattle.std.proofs.Common.{arith, ◌∷◌, [], ◌++◌, ◌∙◌, ap, length, length-append, map}
use Rattle.std.proofs.lemmas.List.Elements.{All-push, All-same}
use Rattle.std.proofs.lemmas.List.{map-append}
use Rattle.rom_name.specs.Peeked.{IsUnread, source_of}
use Rattle.rom_name.proofs.inputs.peek_all.Goals as goal

pub loop-source-preserved : goal.loop-source-preserved
loop-source-preserved g c =
    let was = c.loop-source in
    let push = c.push_reserved.ensures in
    record {
      many = omega (arith, ap length push.items, length-append was.peeked.items (c.over.result ∷ []), length-append was.yielded (c.in-Some.source ∷ []), was.invariant.many);
      same = ap (map source_of) push.items ∙ map-append source_of was.peeked.items (c.over.result ∷ []) ∙ (λ i. was.invariant.same i ++ c.over.ensures.source i ∷ []);
      unread = All-same (λ p. IsUnread p) _ _ push.items (All-push (λ p. IsUnread p) was.peeked.items c.over.result was.invariant.unread c.over.ensures.unread);
      space = omega (arith, was.invariant.space, push.capacity);
    }
