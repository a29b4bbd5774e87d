use Rattle.std.proofs.Common.{◌≡◌, ◌+◌, None, arith, sym, ◌∙◌}
use Rattle.rom_model.specs.State.{value_of}
use Rattle.rom_model.proofs.Looks.{looks_then, room_left}
use Rattle.rom_map.specs.Map.{get_loads}
use Rattle.rom_heap.proofs.Steps.{well_formed, stamp_within, stamp_of}
use Rattle.rom_ledger.specs.State.{with_value}
use Rattle.rom_ledger.proofs.Doing.{is_none, make_present, make_added, make_full, put_absent, held_after, stamp_after, stays, changes}
use Rattle.rom_ledger.proofs.conditional.make.Goals as goal

pub returns-then-is_some : goal.returns-then-is_some
returns-then-is_some g c =
    let r = c.requires.region in
    record {
      does = stays (λ s j held. make_present c.args.order s j c.args.key c.args.value c.map_get.result (sym (c.map_get.ensures.is s (j + 1) held)) (sym c.is_some.ensures ∙ c.if-is_some.true))
          (c.map_get.ensures.looks r.state (r.place + 1) r.contents);
    }

pub map_put-requires-clause-region : goal.map_put-requires-clause-region
map_put-requires-clause-region g c = let r = c.requires.region in well_formed (stamp_after (c.map_get.ensures.looks r.state (r.place + 1) r.contents) r)

pub map_put-requires-clause-stamp : goal.map_put-requires-clause-stamp
map_put-requires-clause-stamp g c = let r = c.requires.region in stamp_within (stamp_after (c.map_get.ensures.looks r.state (r.place + 1) r.contents) r)

pub map_put-requires-clause-room : goal.map_put-requires-clause-room
map_put-requires-clause-room g c = let r = c.requires.region in room_left 31 g.met.M.Look.limit_counts (omega arith) c.requires.room (c.map_get.ensures.looks r.state (r.place + 1) r.contents).costs

pub returns-in-Full : goal.returns-in-Full
returns-in-Full g c =
    let n = c.args.order in
    let r = c.requires.region in
    let put = c.in-Full.ensures in
    let looks = c.map_get.ensures.looks r.state (r.place + 1) r.contents in
    record {
      does = stays (λ s j held. let full = put.contents s (j + 1) (held_after looks held) in make_full n s j c.args.key c.args.value full.0 full.1)
          (looks_then (get_loads n r.state.pairs c.args.key + (n + 1 + get_loads n r.state.pairs c.args.key)) (omega arith) looks (put.each r.state (r.place + 1) (held_after looks r.contents)));
    }

pub returns-in-New : goal.returns-in-New
returns-in-New g c =
    let n = c.args.order in
    let r = c.requires.region in
    let put = c.map_put.ensures in
    let looks = c.map_get.ensures.looks r.state (r.place + 1) r.contents in
    record {
      does = changes (λ s. with_value s c.args.stamp c.args.key c.args.value)
          (λ s j held.
          let none : value_of s c.args.key ≡ None = sym (c.map_get.ensures.is s (j + 1) held) ∙ is_none c.map_get.result (sym c.is_some.ensures ∙ c.if-is_some.false) in
          let done = put_absent n s (j + 1) c.args.key c.args.value c.args.stamp (g.M.Look.shown.image c.map_put.new.space) c.map_put.result c.in-New.is none (put.contents s (j + 1) (held_after looks held)) in
          (make_added n s j c.args.stamp c.args.key c.args.value (stamp_of r j held) none done.0, done.1))
          looks (omega (arith, c.requires.order.most)) (put.costs r.state (r.place + 1) (held_after looks r.contents));
    }
