use Rattle.std.proofs.Common.{◌≡◌, inl, inr, ⊎_elim, ◌<◌, length, drop, slice_index, slice_get, arith, sym, ◌∙◌, ap, subst}
use Rattle.rom_model.specs.Space.{ChangesOnly, differing}
use Rattle.rom_model.specs.Region.{Contents}
use Rattle.rom_queue.specs.Queue.{with_queue, with_queue_blocks}
use Rattle.rom_queue.specs.Ends.{BeginsQueue, IsHeadUnlinked}
use Rattle.std.proofs.lemmas.Bool.{cases_lt}
use Rattle.rom_block.proofs.Apart.{sparing_then}
use Rattle.rom_queue.proofs.Heads.{no_values, head_of, may_give, given_back}
use Rattle.rom_queue.proofs.queue.queue_pop.Goals as goal

pub returns-then-head-eq0-clause-first : goal.returns-then-head-eq0-clause-first
returns-then-head-eq0-clause-first g c s k held = ap (λ vs. slice_get vs 0) (sym (no_values held.1 (omega (arith, c.load-head.ensures.word))))

pub returns-then-head-eq0-clause-contents : goal.returns-then-head-eq0-clause-contents
returns-then-head-eq0-clause-contents g c s k held =
    let none = no_values held.1 (omega (arith, c.load-head.ensures.word)) in
    let same : s.queue ≡ drop 1 s.queue = none ∙ ap (drop 1) (sym none) in
    subst (λ vs. Contents c.args.order (g.M.Look.shown.image c.load-head.new.self) (with_queue s vs) k) same
    (subst (λ w. Contents c.args.order w s k) (sym c.load-head.ensures.image) held)

pub load-value-requires : goal.load-value-requires
load-value-requires g c =
    let r = c.requires.region in
    let held : Contents c.args.order (g.M.Look.shown.image c.args.space.now) r.state r.count = r.contents in
    let h = head_of c.requires.order.least held.1 c.load-head.result c.load-head.ensures.word (omega arith) in
    omega (arith, h.inside, ap length c.load-head.ensures.image)

pub unlink_first-requires-clause-queue : goal.unlink_first-requires-clause-queue
unlink_first-requires-clause-queue g c =
    let r = c.requires.region in
    let held : Contents c.args.order (g.M.Look.shown.image c.args.space.now) r.state r.count = r.contents in
    let h = head_of c.requires.order.least held.1 c.load-head.result c.load-head.ensures.word (omega arith) in
    subst (λ v. BeginsQueue c.args.order c.load-head.result v) (sym (c.load-value.ensures.image ∙ c.load-head.ensures.image)) h.begins

pub give-requires-clause-taken : goal.give-requires-clause-taken
give-requires-clause-taken g c =
    let r = c.requires.region in
    let w1 = g.M.Look.shown.image c.unlink_first.new.space in
    let held : Contents c.args.order (g.M.Look.shown.image c.args.space.now) r.state r.count = r.contents in
    let same = c.load-value.ensures.image ∙ c.load-head.ensures.image in
    let only = subst (λ v. ChangesOnly 3 3 v w1) same c.unlink_first.ensures.others in
    may_give c.requires.order.least held.1 c.load-head.result c.load-head.ensures.word (omega arith) w1 only

pub returns-clause-others : goal.returns-clause-others
returns-clause-others g c s k held =
    let w = g.M.Look.shown.image c.args.space.now in
    let w1 = g.M.Look.shown.image c.unlink_first.new.space in
    let head = c.load-head.result in
    let same : g.M.Look.shown.image c.load-value.new.self ≡ w = c.load-value.ensures.image ∙ c.load-head.ensures.image in
    let only : ChangesOnly 3 3 w w1 = subst (λ v. ChangesOnly 3 3 v w1) same c.unlink_first.ensures.others in
    let unlinked = subst (λ v. (q : BeginsQueue c.args.order head v) → IsHeadUnlinked q w1) same c.unlink_first.ensures.unlinked in
    let value : c.load-value.result ≡ slice_index w head = c.load-value.ensures.word ∙ ap (λ v. slice_index v head) c.load-head.ensures.image in
    let some : 0 < head = omega arith in
    given_back c.requires.order.least held.1 head c.load-head.ensures.word some w1 only (g.M.Look.shown.image c.give.new.space) c.load-value.result value unlinked c.give.ensures.given c.give.ensures.others

pub returns-clause-first : goal.returns-clause-first
returns-clause-first g c s k held = let x = returns-clause-others g c s k held in ap (λ vs. slice_get vs 0) (sym x.values)

pub returns-clause-contents : goal.returns-clause-contents
returns-clause-contents g c s k held =
    let x = returns-clause-others g c s k held in
    subst (λ vs. Contents c.args.order (g.M.Look.shown.image c.give.new.space) (with_queue s vs) k) (sym (ap (drop 1) x.values)) (with_queue_blocks held.0 x.behind, x.becomes.region)

pub returns-clause-region : goal.returns-clause-region
returns-clause-region g c =
    let r = c.requires.region in
    record { state = with_queue r.state (drop 1 r.state.queue); count = r.count; contents = returns-clause-contents g c r.state r.count r.contents }

pub returns-clause-sparing : goal.returns-clause-sparing
returns-clause-sparing g c told =
    let shown = g.M.Look.shown in
    let after = c.give.new.space in
    let only = c.unlink_first.ensures.others in
    let tree = c.give.ensures.others in
    let both = sparing_then shown c.load-value.new.self c.unlink_first.new.space after only.as_long tree.as_long
    (λ k. ⊎_elim (λ lt. inr (tree.before k lt)) (λ ge. inl (only.behind k (omega (arith, ge)))) (cases_lt k 17)) c.unlink_first.ensures.sparing c.give.ensures.sparing in
    let same = ap (λ x. differing x (shown.image after)) (c.load-value.ensures.image ∙ c.load-head.ensures.image) in
    omega (arith, both told, same, c.load-head.ensures.counts.stores_made told, c.load-value.ensures.counts.stores_made told)
