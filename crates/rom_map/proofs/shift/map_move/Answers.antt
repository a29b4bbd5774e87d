use Rattle.std.proofs.Common.{◌≡◌, ℕ, ◌≤◌, List, length, sym, ap, subst, arith}
use Rattle.rom_model.specs.Space.{ShownSpace, Looks}
use Rattle.rom_model.specs.State.{State}
use Rattle.rom_model.specs.Region.{IsRegion, IsWellFormed}
use Rattle.rom_model.proofs.Nodes.{pow_small}
use Rattle.rom_model.proofs.Looks.{costs_most, costs_then, room_left}
use Rattle.rom_bucket.proofs.Sparing.{sparing_after}
use Rattle.rom_bucket.proofs.Finding.{own_within}
use Rattle.rom_map.specs.Map.{with_entry}
use Rattle.rom_map.specs.Shift.{after_move, MovedWords, KeepsUnlessMoved}
use Rattle.rom_map.specs.declared.shift.Moved.{Moved}
use Rattle.rom_map.specs.declared.shift.Moved.TheVariants.{Done, Absent, Short, Over}
use Rattle.rom_map.proofs.Shifting.{inside, apart, shifted_region, shifted}
use Rattle.rom_map.proofs.shift.map_move.Goals as goal

-- each word stays
keeps : {M : Type 0} (shown : ShownSpace M) (loads : ℕ) (told : Moved) (old new : M) → Looks shown loads old new → KeepsUnlessMoved shown loads told old new
keeps shown loads Done old new looks = tt
keeps shown loads Absent old new looks = looks
keeps shown loads (Short value) old new looks = looks
keeps shown loads Over old new looks = looks

pub returns-in-Stays-clause-others : goal.returns-in-Stays-clause-others
returns-in-Stays-clause-others g c p s k is =
    let n = c.args.order in
    let w = g.M.Look.shown.image c.args.space.now in
    let same = (c.plan_move.ensures.looks s k (p, is)).image in
    let stays = c.in-Stays.ensures.is p s k is in
    record {
      region = subst (λ (x : State). IsRegion n (g.M.Look.shown.image c.plan_move.new.space) p x k) (sym (ap (λ a. a.0) (stays.0 c.args.stamp))) (subst (λ v. IsRegion n v p s k) (sym same) is);
      words = subst (λ v. MovedWords n w p c.args.from c.args.to c.in-Stays.told v) (sym same) stays.1;
    }

pub returns-in-Stays-clause-contents : goal.returns-in-Stays-clause-contents
returns-in-Stays-clause-contents g c s k held =
    let stays = c.in-Stays.ensures.is held.0 s k held.1 in
    (sym (ap (λ a. a.1) (stays.0 c.args.stamp)), (held.0, (returns-in-Stays-clause-others g c held.0 s k held.1).region))

pub returns-in-Stays-clause-region : goal.returns-in-Stays-clause-region
returns-in-Stays-clause-region g c =
    let r = c.requires.region in
    subst (λ v. IsWellFormed c.args.order v) (sym (c.plan_move.ensures.looks r.state r.count r.contents).image) r

pub returns-in-Stays-clause-costs : goal.returns-in-Stays-clause-costs
returns-in-Stays-clause-costs g c s k held = costs_most _ _ (omega arith) (omega arith) (c.plan_move.ensures.looks s k held).costs

pub returns-in-Stays-clause-alone : goal.returns-in-Stays-clause-alone
returns-in-Stays-clause-alone g c one s k held = c.plan_move.ensures.alone one s k held

pub returns-in-Stays-clause-kept : goal.returns-in-Stays-clause-kept
returns-in-Stays-clause-kept g c s k held = keeps g.M.Look.shown _ c.in-Stays.told _ _ (c.plan_move.ensures.looks s k held)

pub returns-in-Stays-clause-sparing : goal.returns-in-Stays-clause-sparing
returns-in-Stays-clause-sparing g c told =
    let r = c.requires.region in
    omega (arith, (c.plan_move.ensures.looks r.state r.count r.contents).costs.most_stores told)

-- both values change
pub replace_both-requires-clause-source : goal.replace_both-requires-clause-source
replace_both-requires-clause-source g c =
    let r = c.requires.region in
    let is = r.contents.1 in
    omega (arith, inside is (own_within c.args.from c.requires.order) (c.in-Changes.ensures.is r.contents.0 r.state r.count is).source_is, ap length (c.plan_move.ensures.looks r.state r.count r.contents).image)

pub replace_both-requires-clause-target : goal.replace_both-requires-clause-target
replace_both-requires-clause-target g c =
    let r = c.requires.region in
    let is = r.contents.1 in
    omega (arith, inside is (own_within c.args.to c.requires.order) (c.in-Changes.ensures.is r.contents.0 r.state r.count is).target_is, ap length (c.plan_move.ensures.looks r.state r.count r.contents).image)

pub replace_both-requires-clause-small : goal.replace_both-requires-clause-small
replace_both-requires-clause-small g c =
    let r = c.requires.region in
    omega (arith, r.contents.1.shape.as_long, pow_small c.args.order c.requires.order.most, ap length (c.plan_move.ensures.looks r.state r.count r.contents).image)

pub replace_both-requires-clause-room : goal.replace_both-requires-clause-room
replace_both-requires-clause-room g c =
    let r = c.requires.region in
    room_left 4 g.met.M.Look.limit_counts (omega arith) c.requires.room (c.plan_move.ensures.looks r.state r.count r.contents).costs

pub returns-in-Changes-clause-others : goal.returns-in-Changes-clause-others
returns-in-Changes-clause-others g c p s k is =
    let o = c.requires.order in
    let n = c.args.order in
    let source = c.in-Changes.source in
    let target = c.in-Changes.target in
    let new = g.M.Look.shown.image c.replace_both.new.space in
    let does = c.in-Changes.ensures.is p s k is in
    let stamp = c.args.stamp in
    let most : stamp ≤ k = omega (arith, c.requires.stamp, is.shape.root.count_is) in
    let now : new ≡ with_entry (with_entry (g.M.Look.shown.image c.args.space.now) source.node source.value stamp) target.node target.value stamp =
    subst (λ (v : List ℕ). new ≡ with_entry (with_entry v source.node source.value stamp) target.node target.value stamp) (c.plan_move.ensures.looks s k (p, is)).image c.replace_both.ensures.image in
    record {
      region = subst (λ (x : State). IsRegion n new p x k) (sym (ap (λ a. a.0) (does.after stamp)))
          (shifted_region o.least is does.differ (own_within c.args.from o) (own_within c.args.to o) does.source_is does.target_is source.value target.value stamp most now);
      words = shifted o.least is does.differ (own_within c.args.from o) (own_within c.args.to o) does.source_is does.target_is source.value target.value stamp most now;
    }

pub returns-in-Changes-clause-contents : goal.returns-in-Changes-clause-contents
returns-in-Changes-clause-contents g c s k held =
    let does = c.in-Changes.ensures.is held.0 s k held.1 in
    (sym (ap (λ a. a.1) (does.after c.args.stamp)), (held.0, (returns-in-Changes-clause-others g c held.0 s k held.1).region))

pub returns-in-Changes-clause-region : goal.returns-in-Changes-clause-region
returns-in-Changes-clause-region g c =
    let r = c.requires.region in
    record { state = (after_move r.state c.args.from c.args.to c.args.amount c.args.stamp).0; count = r.count; contents = (returns-in-Changes-clause-contents g c r.state r.count r.contents).1 }

pub returns-in-Changes-clause-costs : goal.returns-in-Changes-clause-costs
returns-in-Changes-clause-costs g c s k held = costs_then _ _ (omega arith) (omega arith) (c.plan_move.ensures.looks s k held).costs c.replace_both.ensures.costs

pub returns-in-Changes-clause-alone : goal.returns-in-Changes-clause-alone
returns-in-Changes-clause-alone g c one s k held = absurd ((c.in-Changes.ensures.is held.0 s k held.1).differ one)

pub returns-in-Changes-clause-kept : goal.returns-in-Changes-clause-kept
returns-in-Changes-clause-kept g c s k held = tt

pub returns-in-Changes-clause-sparing : goal.returns-in-Changes-clause-sparing
returns-in-Changes-clause-sparing g c =
    let o = c.requires.order in
    let r = c.requires.region in
    let is = r.contents.1 in
    let does = c.in-Changes.ensures.is r.contents.0 r.state r.count is in
    sparing_after g.M.Look.shown _ _ _ (c.plan_move.ensures.looks r.state r.count r.contents)
    (c.replace_both.ensures.sparing (apart o.least is does.differ (own_within c.args.from o) (own_within c.args.to o) does.source_is does.target_is))
