use Rattle.std.proofs.Common.{◌≡◌, ℕ, ◌+◌, ◌-◌, List, refl, sym, ◌∙◌, ap, subst, arith}
use Rattle.rom_model.specs.State.{value_of, written}
use Rattle.rom_model.specs.Region.{IsRegion, IsWellFormed, Contents}
use Rattle.rom_model.proofs.Looks.{looks_most, looks_then}
use Rattle.rom_model.specs.declared.call.SingleReply.TheVariants as reply
use Rattle.rom_map.specs.Map.{with_pairs, KeyBlock}
use Rattle.rom_map.specs.Shift.{HasNode}
use Rattle.rom_map.proofs.Moves.{no_source, no_target, short, alone, over, moved}
use Rattle.rom_map.proofs.shift.plan_move.Goals as goal

-- the first key is not there
pub returns-in_default-clause-is : goal.returns-in_default-clause-is
returns-in_default-clause-is g c p s k is = (λ stamp. no_source s c.args.from c.args.to c.args.amount stamp (c.in_default.ensures.is p s k is), refl)

pub returns-in_default-clause-looks : goal.returns-in_default-clause-looks
returns-in_default-clause-looks g c s k held = looks_most g.M.Look.shown _ _ (omega arith) (c.find_entry.ensures.looks s k held)

-- they are one key
pub returns-then-source-amount-clause-is : goal.returns-then-source-amount-clause-is
returns-then-source-amount-clause-is g c p s k is =
    let one = c.in-Some.ensures.is p s k is in
    let two = ap (λ (key : ℕ). value_of s key) (sym c.if-from-to.true) ∙ one.0 in
    (λ stamp. short s c.args.from c.args.to c.args.amount stamp c.in-Some.source.value one.0 c.in-Some.source.value two c.if-source-amount.true, refl)

pub returns-then-source-amount-clause-looks : goal.returns-then-source-amount-clause-looks
returns-then-source-amount-clause-looks g c s k held = looks_most g.M.Look.shown _ _ (omega arith) (c.find_entry.ensures.looks s k held)

pub returns-then-from-to-clause-is : goal.returns-then-from-to-clause-is
returns-then-from-to-clause-is g c p s k is =
    let one = c.in-Some.ensures.is p s k is in
    let two = ap (λ (key : ℕ). value_of s key) (sym c.if-from-to.true) ∙ one.0 in (
      λ stamp. alone s c.args.from c.args.to c.args.amount stamp c.in-Some.source.value one.0 c.in-Some.source.value two c.if-source-amount.false c.if-from-to.true,
      record {
        source = one.1.at;
        target = subst (λ key. KeyBlock c.args.order (g.M.Look.shown.image c.args.space.now) p key) c.if-from-to.true one.1.at;
        as_long = refl;
        others = λ j a b c d. refl;
      },
    )

pub returns-then-from-to-clause-looks : goal.returns-then-from-to-clause-looks
returns-then-from-to-clause-looks g c s k held = looks_most g.M.Look.shown _ _ (omega arith) (c.find_entry.ensures.looks s k held)

-- they are two keys
pub find_entry-requires-2-clause-region : goal.find_entry-requires-2-clause-region
find_entry-requires-2-clause-region g c =
    let r = c.requires.region in
    subst (λ (v : List ℕ). IsWellFormed c.args.order v) (sym (c.find_entry.ensures.looks r.state r.count r.contents).image) r

pub returns-in_default-find_entry-clause-is : goal.returns-in_default-find_entry-clause-is
returns-in_default-find_entry-clause-is g c p s k is =
    let same = (c.find_entry.ensures.looks s k (p, is)).image in
    let none = c.in_default-find_entry.ensures.is p s k (subst (λ v. IsRegion c.args.order v p s k) (sym same) is) in
    (λ stamp. no_target s c.args.from c.args.to c.args.amount stamp c.in-Some.source.value (c.in-Some.ensures.is p s k is).0 none, refl)

pub returns-in_default-find_entry-clause-looks : goal.returns-in_default-find_entry-clause-looks
returns-in_default-find_entry-clause-looks g c s k held =
    let one = c.find_entry.ensures.looks s k held in
    looks_then _ (omega arith) one (c.find_entry-2.ensures.looks s k (subst (λ v. Contents c.args.order v s k) (sym one.image) held))

pub returns-then-source-amount-2-clause-is : goal.returns-then-source-amount-2-clause-is
returns-then-source-amount-2-clause-is g c p s k is =
    let same = (c.find_entry.ensures.looks s k (p, is)).image in
    let two = c.in-Some-find_entry.ensures.is p s k (subst (λ v. IsRegion c.args.order v p s k) (sym same) is) in
    (λ stamp. short s c.args.from c.args.to c.args.amount stamp c.in-Some.source.value (c.in-Some.ensures.is p s k is).0 c.in-Some-find_entry.target.value two.0 c.if-source-amount-2.true, refl)

pub returns-then-source-amount-2-clause-looks : goal.returns-then-source-amount-2-clause-looks
returns-then-source-amount-2-clause-looks g c s k held =
    let one = c.find_entry.ensures.looks s k held in
    looks_then _ (omega arith) one (c.find_entry-2.ensures.looks s k (subst (λ v. Contents c.args.order v s k) (sym one.image) held))

pub returns-in_default-checked_add-clause-is : goal.returns-in_default-checked_add-clause-is
returns-in_default-checked_add-clause-is g c p s k is =
    let same = (c.find_entry.ensures.looks s k (p, is)).image in
    let two = c.in-Some-find_entry.ensures.is p s k (subst (λ v. IsRegion c.args.order v p s k) (sym same) is) in
    (λ stamp. over s c.args.from c.args.to c.args.amount stamp c.in-Some.source.value (c.in-Some.ensures.is p s k is).0 c.in-Some-find_entry.target.value two.0 c.if-source-amount-2.false c.if-from-to.false (omega arith), refl)

pub returns-in_default-checked_add-clause-looks : goal.returns-in_default-checked_add-clause-looks
returns-in_default-checked_add-clause-looks g c s k held =
    let one = c.find_entry.ensures.looks s k held in
    looks_then _ (omega arith) one (c.find_entry-2.ensures.looks s k (subst (λ v. Contents c.args.order v s k) (sym one.image) held))

pub returns-clause-is : goal.returns-clause-is
returns-clause-is g c p s k is =
    let d = c.args.amount in
    let w = c.in-Some-find_entry.target.value in
    let same = (c.find_entry.ensures.looks s k (p, is)).image in
    let one = c.in-Some.ensures.is p s k is in
    let two = c.in-Some-find_entry.ensures.is p s k (subst (λ v. IsRegion c.args.order v p s k) (sym same) is) in
    let more : w + d ≡ c.in-Some-checked_add.more = omega arith in
    record {
      differ = c.if-from-to.false;
      source_is = one.1;
      target_is = subst (λ v. HasNode c.args.order v p c.args.to c.in-Some-find_entry.target.node) same two.1;
      after = λ stamp. moved s c.args.from c.args.to d stamp c.in-Some.source.value one.0 w two.0 c.if-source-amount-2.false c.if-from-to.false (omega arith)
          ∙ ap (λ (x : ℕ). (with_pairs s (written (written s.pairs stamp c.args.from (c.in-Some.source.value - d)) stamp c.args.to x), reply.Moved)) more;
    }

pub returns-clause-looks : goal.returns-clause-looks
returns-clause-looks g c s k held =
    let one = c.find_entry.ensures.looks s k held in
    looks_then _ (omega arith) one (c.find_entry-2.ensures.looks s k (subst (λ v. Contents c.args.order v s k) (sym one.image) held))
