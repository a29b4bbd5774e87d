use Rattle.std.proofs.Common.{inl, inr, ◌≡◌, ℕ, ◌+◌, List, ap, ◌∙◌, arith, length, subst}
use Rattle.std.specs.Prelude.{All}
use Rattle.rom_heap.specs.contracts.trio.TrioObject.TheImpl.Laws as laws
use Rattle.rom_model.specs.History.{after}
use Rattle.rom_model.specs.Machine.{on_words}
use Rattle.rom_model.specs.Region.{Contents}
use Rattle.rom_model.specs.Trio.{trio}
use Rattle.rom_model.specs.declared.entry.Entry.{Entry}
use Rattle.rom_follow.specs.Following.{AgreesBelow, HoldsPrefix, state_after_first}
use Rattle.rom_follow.proofs.Ended.{ends_after, ends_within, left_since_start}
use Rattle.rom_follow.proofs.followed.follow_as.Goals as goal

pub returns-clause-taken : goal.returns-clause-taken
returns-clause-taken g c =
    let base = g.N.Label.base in
    let session = c.close.result.session in
    record {
      begun = c.start-follower.result;
      ended = c.take_all.new.self;
      none = c.start-follower.ensures.none;
      count = λ s k there.
          let here : Contents base.order base.image s k = subst (λ (n : ℕ). Contents n base.image s k) c.close.ensures.ended.order (subst (λ (words : List ℕ). Contents session.order words s k) c.close.ensures.ended.image there) in
          omega (arith, (c.start-follower.ensures.done s k here).count_is, ap length c.start-follower.ensures.none.0);
      taken = c.take_all.ensures.taken;
      history = c.close.ensures.history;
      passes = c.close.ensures.passes;
      kept = c.close.ensures.kept;
    }

pub returns-clause-follows : goal.returns-clause-follows
returns-clause-follows g c s0 n0 history first legal has within held arrive =
    let base = g.N.Label.base in
    let f = c.take_all.new.self in
    let kept = c.take_all.ensures.follows s0 n0 history first legal has (c.start-follower.ensures.follows s0 n0 history first within held) arrive in
    let closed = c.close.result in
    let count : f.count ≡ n0 + (first + length f.history) = omega (arith, (c.close.ensures.done (state_after_first base.order s0 n0 history first) (n0 + first) held).count_is) in
    record {
      len = first + length f.history;
      least = omega arith;
      within = ends_within base s0 n0 history first f kept.0;
      ends = λ s k there.
          let here : Contents base.order base.image s k = subst (λ (n : ℕ). Contents n base.image s k) c.close.ensures.ended.order (subst (λ (words : List ℕ). Contents closed.session.order words s k) c.close.ensures.ended.image there) in
          let ends = ends_after base s0 n0 history first f kept.0 laws.one_contents-law s k here in (
            (λ i. after (on_words trio) (c.close.ensures.ended.order i) s k (c.close.ensures.history i)) ∙ ends.0,
            ap (λ (es : List Entry). k + length es) c.close.ensures.history ∙ ends.1,
          );
      agrees = subst (λ (n : ℕ). All (AgreesBelow n) c.take_all.new.answers) count kept.1;
      now = λ told i left. c.close.ensures.follows_now told s0 n0 history first kept.0 i left;
      stopped = λ told before i left. elim ((left_since_start g.D.Device.shown g.N.Label.start g.N.Label.since (HoldsPrefix base.order s0 n0 history first) c.args.opening.device closed.device c.requires.started (c.requires.since told) (c.close.ensures.follows_since told s0 n0 history first kept.0)).nothing_else (g.D.Device.shown.clock c.args.opening.device) i (omega arith) left) [
        | inl early ↦ before i (g.met.D.Device.only_now c.args.opening.device i told early)
        | inr holds ↦ holds
      ];
      since = λ told. left_since_start g.D.Device.shown g.N.Label.start g.N.Label.since (HoldsPrefix base.order s0 n0 history first) c.args.opening.device closed.device c.requires.started (c.requires.since told) (c.close.ensures.follows_since told s0 n0 history first kept.0);
    }
