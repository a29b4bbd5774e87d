use Rattle.rom_tail.specs.Promise.{IsStreamTailed}
use Rattle.rom_replica.proofs.Closed.{if_ok, only_one, told_by}
use Rattle.rom_tail.proofs.following.tail_only.Goals as goal

pub returns-clause-session : goal.returns-clause-session
returns-clause-session g c =
    if_ok _ _ c.tail_heap.result
    (λ f session. told_by g.D.Device.shown c.args.device f.closed.device f.closed.session _ _
    (λ story of is. only_one (λ was now. IsStreamTailed g.D.Device.shown c.args.device f.closed.device g.S.Source.shown was now f.tally f.stop story) c.args.inputs.now c.index-inputs-0.result c.tail_heap.new.stream c.requires.one is) session)
    c.tail_heap.ensures.session
