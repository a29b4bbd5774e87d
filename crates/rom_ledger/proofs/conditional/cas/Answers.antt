use Rattle.std.proofs.Common.{◌+◌, arith, sym}
use Rattle.rom_model.proofs.Looks.{room_left}
use Rattle.rom_heap.proofs.Steps.{well_formed, stamp_within, stamp_of}
use Rattle.rom_ledger.specs.State.{with_value}
use Rattle.rom_ledger.proofs.Doing.{cas_absent, cas_other, cas_done, put_there, held_after, stamp_after, stays, changes}
use Rattle.rom_ledger.proofs.conditional.cas.Goals as goal

pub returns-in_default : goal.returns-in_default
returns-in_default g c =
    let r = c.requires.region in
    record { does = stays (λ s j held. cas_absent c.args.order s j c.args.key c.args.was c.args.value (sym (c.in_default.ensures.is s (j + 1) held))) (c.map_get.ensures.looks r.state (r.place + 1) r.contents) }

pub returns-then-now-was : goal.returns-then-now-was
returns-then-now-was g c =
    let r = c.requires.region in
    record {
      does = stays (λ s j held. cas_other c.args.order s j c.args.key c.args.was c.args.value c.in-Some.now (sym (c.in-Some.ensures.is s (j + 1) held)) c.if-now-was.true)
          (c.map_get.ensures.looks r.state (r.place + 1) r.contents);
    }

pub map_put-requires-clause-region : goal.map_put-requires-clause-region
map_put-requires-clause-region g c = let r = c.requires.region in well_formed (stamp_after (c.map_get.ensures.looks r.state (r.place + 1) r.contents) r)

pub map_put-requires-clause-stamp : goal.map_put-requires-clause-stamp
map_put-requires-clause-stamp g c = let r = c.requires.region in stamp_within (stamp_after (c.map_get.ensures.looks r.state (r.place + 1) r.contents) r)

pub map_put-requires-clause-room : goal.map_put-requires-clause-room
map_put-requires-clause-room g c = let r = c.requires.region in room_left 31 g.met.M.Look.limit_counts (omega arith) c.requires.room (c.map_get.ensures.looks r.state (r.place + 1) r.contents).costs

pub returns : goal.returns
returns g c =
    let n = c.args.order in
    let r = c.requires.region in
    let put = c.map_put.ensures in
    let looks = c.map_get.ensures.looks r.state (r.place + 1) r.contents in
    record {
      does = changes (λ s. with_value s c.args.stamp c.args.key c.args.value)
          (λ s j held.
          let had = sym (c.in-Some.ensures.is s (j + 1) held) in (
            cas_done n s j c.args.stamp c.args.key c.args.was c.args.value c.in-Some.now (stamp_of r j held) had c.if-now-was.false,
            put_there n s (j + 1) c.args.key c.args.value c.args.stamp (g.M.Look.shown.image c.map_put.new.space) c.map_put.result c.in-Some.now had (put.contents s (j + 1) (held_after looks held)),
          ))
          looks (omega (arith, c.requires.order.most)) (put.costs r.state (r.place + 1) (held_after looks r.contents));
    }
