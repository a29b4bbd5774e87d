use Rattle.std.proofs.Common.{◌≡◌, ◌+◌, ℕ, List, sym, subst}
use Rattle.rom_order_region.specs.State.{Pairs}
use Rattle.rom_order_region.specs.Region.{IndexContents}
use Rattle.rom_plain_rows.proofs.long.done.Goals as goal

-- the words stand for what they stood for
stand : {n : ℕ} {w w' : List ℕ} → w' ≡ w → (s : Pairs) × (k : ℕ) × IndexContents n w s k → (s : Pairs) × (k : ℕ) × IndexContents n w' s k
stand {n} same is = (is.0, is.1, subst (λ w. IndexContents n w is.0 is.1) (sym same) is.2)

pub apply-reply-requires-clause-region : goal.apply-reply-requires-clause-region
apply-reply-requires-clause-region c =
    let ready = c.if-not-is_ready.ensures in
    (ready.1, ready.2, subst (λ w. IndexContents c.args.order w ready.1 ready.2) c.words.ensures ready.3, ready.4)

pub answer-get-requires-clause-region : goal.answer-get-requires-clause-region
answer-get-requires-clause-region c =
    let ready = c.if-not-is_ready.ensures in
    let done = c.apply-reply.ensures.done ready.1 ready.2 (subst (λ w. IndexContents c.args.order w ready.1 ready.2) c.words.ensures ready.3) in
    (_, ready.2 + 1, done.1)

pub answer-from-requires-clause-region : goal.answer-from-requires-clause-region
answer-from-requires-clause-region c =
    let ready = c.if-not-is_ready.ensures in
    let done = c.apply-reply.ensures.done ready.1 ready.2 (subst (λ w. IndexContents c.args.order w ready.1 ready.2) c.words.ensures ready.3) in
    stand (c.answer-get.ensures.looks _ (ready.2 + 1) done.1).image (_, ready.2 + 1, done.1)

pub answer-range-requires-clause-region : goal.answer-range-requires-clause-region
answer-range-requires-clause-region c =
    let ready = c.if-not-is_ready.ensures in
    let done = c.apply-reply.ensures.done ready.1 ready.2 (subst (λ w. IndexContents c.args.order w ready.1 ready.2) c.words.ensures ready.3) in
    let get = (c.answer-get.ensures.looks _ (ready.2 + 1) done.1).image in
    let one = stand get (_, ready.2 + 1, done.1) in
    stand (c.answer-from.ensures.looks one.0 one.1 one.2).image one
