use Rattle.std.proofs.Common.{◌≡◌, ℕ, List, [], ◌∷◌, ◌++◌, ap, ◌∙◌, inl, inr, length, refl, subst, sym}
use Rattle.std.specs.Prelude.{map}
use Rattle.rom_heap.specs.contracts.trio.TrioObject.TheImpl.Laws as laws
use Rattle.rom_model.specs.Leaving.{IsClosed, IsKept}
use Rattle.rom_model.specs.Region.{Contents}
use Rattle.rom_model.specs.Trio.{trio}
use Rattle.rom_model.specs.declared.kept.Kept.{Kept}
use Rattle.rom_store.specs.Callers.{Caller}
use Rattle.rom_store.specs.Closing.{joined_of, kept_in}
use Rattle.rom_store.specs.Indexed.{Indexed}
use Rattle.rom_follow.specs.Alone.{seen_by, tried_by}
use Rattle.rom_follow.specs.Closing.{ArePassesOf}
use Rattle.rom_follow.specs.Followed.{HasDoneUpdates}
use Rattle.rom_follow.proofs.Ended.{Agrees, agree, now_prefix, session_prefix}
use Rattle.rom_follow.proofs.follower.Follower.close.Given.{Over}
use Rattle.rom_follow.proofs.follower.Follower.close.Goals as goal

order_is : (g : Over) (c : goal.After-close g) → c.close.ensures.ended.story.0.order ≡ g.N.Label.base.order
order_is g c = c.close.ensures.ended.story.1.order_is ∙ c.close.ensures.ended.order

opened : (g : Over) (c : goal.After-close g) → let story = c.close.ensures.ended.story.0 in Contents g.N.Label.base.order g.N.Label.base.image story.opening story.opening_count
opened g c =
    let story = c.close.ensures.ended.story.0 in
    subst (λ (n : ℕ). Contents n g.N.Label.base.image story.opening story.opening_count) c.close.ensures.ended.order
    (subst (λ (words : List ℕ). Contents c.close.result.session.order words story.opening story.opening_count) c.close.ensures.ended.image c.close.ensures.ended.story.1.opening)

agreeing : (g : Over) (c : goal.After-close g) → Agrees c.close.ensures.ended.story.0 c.args.self
agreeing g c =
    let story = c.close.ensures.ended.story.0 in
    let only = c.self.invariant.only in
    let closed : IsClosed trio story 1 = subst (IsClosed trio story) (ap length only.1) (c.close.ensures.closed story c.close.ensures.ended.story.1) in
    let all_kept : Indexed (λ _ v. IsKept trio story v) (map kept_in (only.0 ∷ [])) = subst (λ (ps : List Caller). Indexed (λ _ v. IsKept trio story v) (map kept_in ps)) only.1 (c.close.ensures.kept story c.close.ensures.ended.story.1) in
    let done : HasDoneUpdates story.order story.opening story.opening_count c.args.self =
    subst (λ (n : ℕ). HasDoneUpdates n story.opening story.opening_count c.args.self) (sym (order_is g c)) (subst (HasDoneUpdates g.N.Label.base.order story.opening story.opening_count) c.self.view_is (c.self.invariant.done story.opening story.opening_count (opened g c))) in
    agree story only.0 c.args.self closed (all_kept.at 0 (kept_in only.0) refl) only.2.numbered.number (sym (ap (λ f. f.tried) c.self.view_is) ∙ ap tried_by only.1) done

pub returns-clause-history : goal.returns-clause-history
returns-clause-history g c = sym c.close.ensures.ended.story.1.history ∙ (agreeing g c).history

pub returns-clause-passes : goal.returns-clause-passes
returns-clause-passes g c = subst (λ rs. ArePassesOf rs c.args.self.tried) c.close.ensures.ended.story.1.records (agreeing g c).passes

pub returns-clause-kept : goal.returns-clause-kept
returns-clause-kept g c =
    let only = c.self.invariant.only in
    record {
      own = kept_in only.0;
      only = c.close.ensures.callers ∙ ap joined_of only.1 ∙ ap (λ (vs : List Kept). kept_in only.0 ∷ vs ++ []) only.2.nobody;
      number = only.2.numbered.number;
      seen = sym (ap seen_by only.1) ∙ ap (λ f. f.history) c.self.view_is;
      told = sym (ap tried_by only.1) ∙ ap (λ f. f.tried) c.self.view_is;
    }

pub returns-clause-follows_now : goal.returns-clause-follows_now
returns-clause-follows_now g c told s0 n0 history first follows i left =
    let story = c.close.ensures.ended.story.0 in
    now_prefix g.N.Label.base s0 n0 history first c.args.self follows story laws.one_contents-law (order_is g c) (opened g c) (agreeing g c) i (c.close.ensures.ended.now told story c.close.ensures.ended.story.1 i left)

pub returns-clause-follows_since : goal.returns-clause-follows_since
returns-clause-follows_since g c told s0 n0 history first follows =
    let story = c.close.ensures.ended.story.0 in
    let since = c.close.ensures.ended.since told story c.close.ensures.ended.story.1 in
    record {
      later = since.later;
      nothing_else = λ t i left. elim (since.nothing_else t i left) [
        | inl before ↦ inl before
        | inr of_session ↦ inr (session_prefix g.N.Label.base s0 n0 history first c.args.self follows story laws.one_contents-law (order_is g c) (opened g c) (agreeing g c) i of_session)
      ];
      keeps = since.keeps;
    }

pub returns-clause-done : goal.returns-clause-done
returns-clause-done g c s k held = subst (HasDoneUpdates g.N.Label.base.order s k) c.self.view_is (c.self.invariant.done s k held)
