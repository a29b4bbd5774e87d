use Rattle.std.proofs.Common.{inl, length, arith, ap}
use Rattle.rom_model.specs.Region.{bucket_of}
use Rattle.rom_bucket.proofs.Heads.{bucket_within, head_before, head_within}
use Rattle.rom_bucket.proofs.link.link_first.Goals as goal

pub load-first-requires : goal.load-first-requires
load-first-requires g c =
    let n = c.args.order in
    let o = c.requires.order in
    record { within = omega (arith, head_within n (bucket_of n c.args.node.key) o.least (bucket_within n c.args.node.key o.least o.most), c.head_of-link.ensures.is, c.requires.sized) }

pub link_at-requires-clause-link : goal.link_at-requires-clause-link
link_at-requires-clause-link g c =
    let n = c.args.order in
    let o = c.requires.order in
    omega (arith, head_within n (bucket_of n c.args.node.key) o.least (bucket_within n c.args.node.key o.least o.most), c.head_of-link.ensures.is, c.requires.sized, ap length c.load-first.ensures.image)

pub link_at-requires-clause-outside : goal.link_at-requires-clause-outside
link_at-requires-clause-outside g c =
    let n = c.args.order in
    let o = c.requires.order in
    inl (omega (arith, head_before n (bucket_of n c.args.node.key) o.least (bucket_within n c.args.node.key o.least o.most), c.head_of-link.ensures.is, c.requires.least))
