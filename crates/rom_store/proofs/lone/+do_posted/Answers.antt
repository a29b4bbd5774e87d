use Rattle.std.proofs.Common.{◌≡◌, ◌++◌, ◌+◌, ◌≤◌, ℕ, List, [], ◌∷◌, length, length-append, ap, sym, ◌∙◌, subst, arith}
use Rattle.rom_model.specs.History.{LAST_COUNT}
use Rattle.rom_rule.specs.Records.{KnowsEntries}
use Rattle.rom_rule.specs.declared.views.Base.{Base}
use Rattle.rom_rule.specs.declared.views.View.{View}
use Rattle.rom_store.specs.Callers.{Caller, caller_at}
use Rattle.rom_store.specs.Lone.{HasWorked, HaveWorked, MayPost}
use Rattle.rom_store.proofs.Callers.{have_stayed}
use Rattle.rom_store.proofs.lone.+do_posted.Goals.{in-Some+in_default-split_first_mut, in_default}
use Rattle.rom_store.proofs.lone.+do_posted.Goals as goal

pub returns-in-Some-split_first_mut-clause-callers : goal.returns-in-Some-split_first_mut-clause-callers
returns-in-Some-split_first_mut-clause-callers g n c =
    let whole : c.args.passes.now ≡ c.in-Some-split_first_mut.pass.now ∷ c.in-Some-split_first_mut.more.now = c.in-Some-split_first_mut.ensures.cases.0 in
    let may = subst (MayPost g.O.Object.Contents g.N.Label.table g.N.Label.base LAST_COUNT) whole c.requires.callers in
    let old : View = c.pass.inside.seat.token.me.0 in
    let v : View = c.post_words.new.seat.token.me.0 in
    let w : View = c.await_told.new.seat.token.me.0 in
    let told = c.await_told.ensures.told in
    let was : caller_at c.pass.inside.seat ≡ c.in-Some-split_first_mut.pass.now = c.pass.view_is in
    let based : v.base ≡ g.N.Label.base = ap (λ (z : View). z.base) c.post_words.ensures.posted ∙ (ap (λ (p : Caller). p.view.base) was ∙ may.0.0.base_is) in
    let base : w.base ≡ g.N.Label.base = ap (λ (z : View). z.base) told.view ∙ based in
    let worked : HasWorked g.O.Object.Contents g.N.Label.table g.N.Label.base c.in-Some-split_first_mut.pass.now (caller_at c.await_told.new.seat) = record {
      of = record {
        table_is = c.await_told.ensures.same.0 ∙ (c.post_words.ensures.same.0 ∙ (ap (λ (p : Caller). p.table_id) was ∙ may.0.0.table_is));
        base_is = base;
        knows = λ s k op. subst (λ (n : ℕ). KnowsEntries n k w) (ap (λ (b : Base). b.callers) based) (told.knows s k (subst (λ (b : Base). g.O.Object.Contents b.order b.image s k) (sym based) op));
      };
      number = ap (λ (z : View). z.number) told.view ∙ (ap (λ (z : View). z.number) c.post_words.ensures.posted ∙ ap (λ (p : Caller). p.view.number) was);
      few = let a = ap (λ (z : View). length z.calls) told.view in let b = ap (λ (z : View). length z.calls) c.post_words.ensures.posted in let d = ap (λ (p : Caller). length p.view.calls) was in omega (arith, a, b, d, length-append old.calls (c.as_slice.result.now ∷ []));
    } in
    subst (λ (ps : List Caller). HaveWorked g.O.Object.Contents g.N.Label.table g.N.Label.base ps (caller_at c.await_told.new.seat ∷ c.do_posted-passed.new.passes)) (sym whole) (worked, c.do_posted-passed.ensures.callers)

pub returns-clause-callers : goal.returns-clause-callers
returns-clause-callers g n c =
    let unchanged : c.match-split_first.passes ≡ c.args.passes.now = elim c.match-split_first.branch [
      | in-Some+in_default-split_first_mut w ↦ w.passes-is
      | in_default w ↦ w.passes-is
    ] in
    subst (λ (ps : List Caller). HaveWorked g.O.Object.Contents g.N.Label.table g.N.Label.base c.args.passes.now ps) (sym unchanged) (have_stayed g.O.Object.Contents g.N.Label.table g.N.Label.base LAST_COUNT c.args.passes.now c.requires.callers)
