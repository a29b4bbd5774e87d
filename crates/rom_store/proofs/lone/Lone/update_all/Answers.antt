use Rattle.std.proofs.Common.{arith, ◌≡◌, ◌<◌, ◌≤◌, ◌+◌, ℕ, ◌++◌, ◌∙◌, List, append-nil, ap, drop, length, subst, sym, take}
use Rattle.std.proofs.lemmas.List.{drop_all, take_all}
use Rattle.std.specs.List.{AllByRecursion}
use Rattle.rom_store.specs.Callers.{Caller, IsNumberedCaller}
use Rattle.rom_store.specs.Indexed.{Indexed}
use Rattle.rom_store.specs.Lone.{HaveWorked, LoneSeen, MayPost}
use Rattle.rom_model.specs.History.{LAST_COUNT}
use Rattle.rom_store.proofs.Callers.{may_post, worked_few, worked_many, worked_numbered}
use Rattle.rom_store.proofs.lone.Lone.update_all.Goals as goal

pub do_posted-passed-requires-clause-callers : goal.do_posted-passed-requires-clause-callers
do_posted-passed-requires-clause-callers g c =
    let inv = c.self.invariant in
    subst (MayPost g.O.Object.Contents g.N.Label.table g.N.Label.base LAST_COUNT) (sym c.as_mut_slice.ensures.value) (may_post g.O.Object.Contents g.N.Label.table g.N.Label.base c.self.inside.turns c.self.inside.passes.items inv.numbered inv.posted (omega (arith, c.requires.turns, ap (λ (l : LoneSeen g.row.D.Denot). l.turns) c.self.view_is)))

pub invariant_of-self : goal.invariant_of-self
invariant_of-self g c =
    let inv = c.self.invariant in
    let was : List Caller = c.self.inside.passes.items in
    let now : List Caller = c.do_posted-passed.new.passes in
    let did : HaveWorked g.O.Object.Contents g.N.Label.table g.N.Label.base was now = subst (λ ps. HaveWorked g.O.Object.Contents g.N.Label.table g.N.Label.base ps now) c.as_mut_slice.ensures.value c.do_posted-passed.ensures.callers in
    let many : length now ≡ length was = worked_many g.O.Object.Contents g.N.Label.table g.N.Label.base was now did in
    let is : take c.self.inside.passes.len (now ++ drop (length now) was) ≡ now = ap (λ (l : List Caller). take c.self.inside.passes.len (now ++ l)) (drop_all (length now) was (omega (arith, many))) ∙ (ap (take c.self.inside.passes.len) (append-nil now) ∙ take_all c.self.inside.passes.len now (let len : length c.as_mut_slice.result.now ≡ c.self.inside.passes.len = c.as_mut_slice.ensures.len in omega (arith, many, len, ap length c.as_mut_slice.ensures.value))) in
    record {
      behind = c.do_posted-passed.ensures.held;
      named_is = inv.named_is;
      based_is = inv.based_is;
      order_is = inv.order_is;
      image_is = inv.image_is;
      faults_is = inv.faults_is;
      numbered = subst (Indexed (IsNumberedCaller g.O.Object.Contents g.N.Label.table g.N.Label.base)) (sym is) (worked_numbered g.O.Object.Contents g.N.Label.table g.N.Label.base was now did inv.numbered);
      many = ap length is ∙ (many ∙ inv.many);
      posted = subst (AllByRecursion (λ (p : Caller). length p.view.calls ≤ c.self.inside.turns + 1)) (sym is) (worked_few g.O.Object.Contents g.N.Label.table g.N.Label.base c.self.inside.turns was now did inv.posted);
    }
