use Rattle.std.proofs.Common.{rules, ◌≡◌, ◌+◌, ◌*◌, ◌≤◌, length, ℕ, ◌-◌, sym, subst, arith}
use Rattle.std.specs.Prelude.{max, slice_index}
use Rattle.rom_guard.specs.Wording.{size_least}
use Rattle.rom_guard.specs.Working.{members_in}
use Rattle.rom_guard.proofs.Asking.{asked_step, asked_weight, zero_asks}
use Rattle.rom_guard.proofs.Storing.{stores_fewer}
use Rattle.rom_guard.proofs.Weights.{group_fits, most_fits, weight_most}
use Rattle.rom_guard.proofs.guarded.GuardedObject.apply_words.Goals as goal

pub apply_group-requires-clause-group : goal.apply_group-requires-clause-group
apply_group-requires-clause-group g c =
    let first : slice_index c.as_slice.result.now 0 ≡ 0 = search rules in
    let asked = zero_asks g.O.Object.machine g.P.Members.shown g.met.P.Members.member_only c.as_slice.ensures.words c.as_slice-in-0.ensures.words c.in-0.len_at_least first c.requires.call in
    asked.group

pub apply_group-requires-clause-ready : goal.apply_group-requires-clause-ready
apply_group-requires-clause-ready g c =
    let first : slice_index c.as_slice.result.now 0 ≡ 0 = search rules in
    let asked = zero_asks g.O.Object.machine g.P.Members.shown g.met.P.Members.member_only c.as_slice.ensures.words c.as_slice-in-0.ensures.words c.in-0.len_at_least first c.requires.call in
    let fits = most_fits g.O.Object.STORES (length (members_in g.P.Members.shown c.as_slice-in-0.result.now)) g.O.Object.WEIGHT g.met.P.Members.enough.0 asked.group.size in
    let r = c.requires.region in
    record {
      state = r.0;
      place = r.1;
      contents = r.2;
      below = r.3;
      room = λ told. omega (arith, fits, c.requires.room told);
    }

pub returns-in-0-clause-done : goal.returns-in-0-clause-done
returns-in-0-clause-done g c = λ s k held.
    let first : slice_index c.as_slice.result.now 0 ≡ 0 = search rules in
    let asked = zero_asks g.O.Object.machine g.P.Members.shown g.met.P.Members.member_only c.as_slice.ensures.words c.as_slice-in-0.ensures.words c.in-0.len_at_least first c.requires.call in
    let done = c.apply_group.ensures.done s k held in
    asked_step g.O.Object.machine g.P.Members.shown asked c.args.order k s _ _ done.0 done.1

pub returns-in-0-clause-stores : goal.returns-in-0-clause-stores
returns-in-0-clause-stores g c =
    let first : slice_index c.as_slice.result.now 0 ≡ 0 = search rules in
    let asked = zero_asks g.O.Object.machine g.P.Members.shown g.met.P.Members.member_only c.as_slice.ensures.words c.as_slice-in-0.ensures.words c.in-0.len_at_least first c.requires.call in
    let n = length (members_in g.P.Members.shown c.as_slice-in-0.result.now) in
    let fits = group_fits g.O.Object.STORES n g.met.P.Members.enough.0 (omega (arith, size_least n asked.group.size)) in
    stores_fewer _ (subst (λ (w : ℕ). 1 + 2 * ((g.O.Object.STORES - 1) * n) ≤ g.O.Object.STORES * w) (sym (asked_weight g.O.Object.machine g.P.Members.shown asked)) fits) c.apply_group.ensures.stores

pub returns-in-0-clause-weight : goal.returns-in-0-clause-weight
returns-in-0-clause-weight g c =
    let first : slice_index c.as_slice.result.now 0 ≡ 0 = search rules in
    let asked = zero_asks g.O.Object.machine g.P.Members.shown g.met.P.Members.member_only c.as_slice.ensures.words c.as_slice-in-0.ensures.words c.in-0.len_at_least first c.requires.call in
    subst (λ (w : ℕ). w ≤ max g.O.Object.WEIGHT 16) (sym (asked_weight g.O.Object.machine g.P.Members.shown asked)) (weight_most (length (members_in g.P.Members.shown c.as_slice-in-0.result.now)) g.O.Object.WEIGHT asked.group.size)
