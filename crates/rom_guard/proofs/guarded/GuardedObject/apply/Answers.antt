use Rattle.std.proofs.Common.{◌≡◌, ℕ, ◌+◌, ◌-◌, ◌*◌, ◌≤◌, length, ap, sym, subst, ◌∙◌, arith}
use Rattle.rom_model.specs.Groups.{is_size}
use Rattle.rom_guard.specs.declared.call.GuardedCall.TheVariants as call
use Rattle.rom_guard.specs.Guarded.{weight}
use Rattle.rom_guard.specs.Wording.{size_least}
use Rattle.rom_guard.specs.Working.{members_in}
use Rattle.rom_guard.proofs.Asking.{group_done, reply_some}
use Rattle.rom_guard.proofs.Weights.{group_fits}
use Rattle.rom_guard.proofs.guarded.GuardedObject.apply.Goals as goal

pub apply_group-requires-clause-ready : goal.apply_group-requires-clause-ready
apply_group-requires-clause-ready g c =
    let size = ap (λ ws. is_size (length (members_in g.P.Members.shown ws))) c.as_slice.ensures.words ∙ c.group.invariant.size in
    let asked : c.args.call.now ≡ call.All (members_in g.P.Members.shown c.as_slice.result.now) = c.in-All.is ∙ ap (λ ms. call.All ms) (sym (ap (members_in g.P.Members.shown) c.as_slice.ensures.words ∙ c.group.view_is)) in
    let n = length (members_in g.P.Members.shown c.as_slice.result.now) in
    let fits = group_fits g.O.Object.STORES n g.met.P.Members.enough.0 (omega (arith, size_least n size)) in
    let within : 1 + 2 * ((g.O.Object.STORES - 1) * n) ≤ g.O.Object.STORES * weight g.O.Object.machine g.P.Members.shown c.args.call.now =
    subst (λ (w : ℕ). 1 + 2 * ((g.O.Object.STORES - 1) * n) ≤ g.O.Object.STORES * w) (sym (ap (weight g.O.Object.machine g.P.Members.shown) asked)) fits in
    let r = c.requires.region in
    record {
      state = r.0;
      place = r.1;
      contents = r.2;
      below = r.3;
      room = λ told. omega (arith, within, c.requires.room told);
    }

pub unwrap-requires : goal.unwrap-requires
unwrap-requires g c =
    let size = ap (λ ws. is_size (length (members_in g.P.Members.shown ws))) c.as_slice.ensures.words ∙ c.group.invariant.size in
    let r = c.requires.region in
    let done = c.apply_group.ensures.done r.0 r.1 r.2 in
    reply_some g.O.Object.machine g.P.Members.shown g.met.P.Members.told_two g.met.P.Members.told_back c.args.order r.1 r.0 _ size done.0 c.read_guarded_reply.ensures

pub returns-in-All-clause-done : goal.returns-in-All-clause-done
returns-in-All-clause-done g c = λ s k held.
    let size = ap (λ ws. is_size (length (members_in g.P.Members.shown ws))) c.as_slice.ensures.words ∙ c.group.invariant.size in
    let asked : c.args.call.now ≡ call.All (members_in g.P.Members.shown c.as_slice.result.now) = c.in-All.is ∙ ap (λ ms. call.All ms) (sym (ap (members_in g.P.Members.shown) c.as_slice.ensures.words ∙ c.group.view_is)) in
    let done = c.apply_group.ensures.done s k held in
    group_done g.O.Object.machine g.P.Members.shown g.met.P.Members.told_two g.met.P.Members.told_back c.args.order k s _ size done.0 c.read_guarded_reply.ensures (λ t. g.O.Object.Contents c.args.order (g.M.Look.shown.image c.apply_group.new.space) t (k + 1)) asked c.unwrap.ensures done.1
