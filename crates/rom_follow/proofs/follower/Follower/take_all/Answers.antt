use Rattle.std.proofs.Common.{◌≡◌, ℕ, ◌+◌, ◌<◌, List, [], ◌∷◌, ◌++◌, ap, ◌∙◌, arith, length, refl, subst, sym, take}
use Rattle.std.proofs.Math.ListN.{set}
use Rattle.std.proofs.lemmas.List.{take_all, take_more, take_more_set}
use Rattle.std.specs.Global.{Vec}
use Rattle.rom_follow.specs.Following.{MayArrive}
use Rattle.rom_follow.specs.Taking.{AreTaken, TakesMessage}
use Rattle.rom_follow.specs.declared.taken.MessageTaken.{MessageTaken}
use Rattle.rom_follow.proofs.Keeping.{answers_more, taken_more}
use Rattle.rom_follow.proofs.follower.Follower.take_all.Goals as goal

pub loop-i-init : goal.loop-i-init
loop-i-init g c = (refl, λ s0 n0 history first legal has follows arrive. (follows, λ k d low. absurd (omega (arith, low))))

pub loop-i-preserved : goal.loop-i-preserved
loop-i-preserved g c =
    let message = c.index-messages-i in
    let is : c.deref.result.now ≡ message.result.items = c.deref.ensures.value in
    let within : c.loop-i.i < length c.loop-i.answers = omega (arith, c.loop-i-test.true, c.loop-i.auto.answers, c.requires.as_many) in
    let takes : TakesMessage message.result.items c.loop-i.self c.take.result c.take.new.self = subst (λ (m : List ℕ). TakesMessage m c.loop-i.self c.take.result c.take.new.self) is record {
      parted = c.take.ensures.parted;
      no_frame = c.take.ensures.no_frame;
      frame = c.take.ensures.frame;
    } in
    let more : take (c.loop-i.i + 1) c.args.messages.now ≡ take c.loop-i.i c.args.messages.now ++ message.result ∷ [] =
    take_more c.args.messages.now c.loop-i.i message.result c.loop-i-test.true ∙ ap (λ m. take c.loop-i.i c.args.messages.now ++ m ∷ []) (sym message.is) in (
      subst (λ (ms : List (Vec ℕ)). AreTaken ms c.args.self.now (take (c.loop-i.i + 1) (set c.loop-i.answers c.loop-i.i c.take.result)) c.take.new.self) (sym more)
          (subst (λ (ts : List MessageTaken). AreTaken (take c.loop-i.i c.args.messages.now ++ message.result ∷ []) c.args.self.now ts c.take.new.self) (sym (take_more_set c.loop-i.answers c.loop-i.i c.take.result within)) (taken_more (take c.loop-i.i c.args.messages.now) c.args.self.now c.loop-i.self c.take.new.self (take c.loop-i.i c.loop-i.answers) message.result c.take.result c.loop-i.invariant.0 takes)),
      λ s0 n0 history first legal has follows arrive.
          let so_far = c.loop-i.invariant.1 s0 n0 history first legal has follows arrive in
          let may : MayArrive n0 history c.deref.result.now =
          subst (MayArrive n0 history) (sym (ap (λ m. m.items) message.is) ∙ sym is) (arrive c.loop-i.i message.result c.loop-i-test.true) in
          let next = c.take.ensures.follows s0 n0 history first legal has so_far.0 may in
          (next.0, answers_more c.loop-i.self.count c.take.new.self.count c.loop-i.i c.loop-i.answers c.take.result c.take.ensures.rises within so_far.1 next.1),
    )

pub returns-clause-follows : goal.returns-clause-follows
returns-clause-follows g c s0 n0 history first legal has follows arrive =
    let so_far = c.loop-i.invariant.1 s0 n0 history first legal has follows arrive in
    (so_far.0, λ k d low. so_far.1 k d (omega (arith, low, c.loop-i-test.false, c.loop-i.auto.answers, c.requires.as_many)))

pub returns-clause-taken : goal.returns-clause-taken
returns-clause-taken g c =
    let messages : take c.loop-i.i c.args.messages.now ≡ c.args.messages.now = take_all c.loop-i.i c.args.messages.now (omega (arith, c.loop-i-test.false)) in
    let answers : take c.loop-i.i c.loop-i.answers ≡ c.loop-i.answers = take_all c.loop-i.i c.loop-i.answers (omega (arith, c.loop-i-test.false, c.loop-i.auto.answers, c.requires.as_many)) in
    subst (λ (ms : List (Vec ℕ)). AreTaken ms c.args.self.now c.loop-i.answers c.loop-i.self) messages
    (subst (λ (ts : List MessageTaken). AreTaken (take c.loop-i.i c.args.messages.now) c.args.self.now ts c.loop-i.self) answers c.loop-i.invariant.0)
