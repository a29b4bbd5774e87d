-- How much room the sizes leave.
use Rattle.std.proofs.Common.{◌≡◌, ℕ, ◌+◌, ◌-◌, ◌*◌, ◌^◌, ◌≤◌, List, length, sym, subst, arith}
use Rattle.std.specs.FinSet as set
use Rattle.std.specs.FinMap as map
use Rattle.rom_model.specs.State.{State, live, cap}
use Rattle.rom_model.specs.Region.{Contents}
use Rattle.rom_model.proofs.Contents.{live_fits}

-- The sizes of a well-formed region, asked one after another while the words stay, are no more than the heap
-- has room for.
pub sizes_fit : (n : ℕ) (s : State) (k : ℕ) {w w2 w3 : List ℕ} {queue members pairs blocks : ℕ} → 4 ≤ n → w2 ≡ w → w3 ≡ w2 → Contents n w s k →
    ((s : State) (k : ℕ) → Contents n w s k → queue ≡ length s.queue) → ((s : State) (k : ℕ) → Contents n w2 s k → members ≡ set.len s.members) →
    ((s : State) (k : ℕ) → Contents n w3 s k → pairs ≡ map.len s.pairs) → blocks ≡ 2 ^ (n - 4) →
    (queue + members + pairs ≤ 15 * blocks) × (15 * blocks - queue - members - pairs ≡ cap n - live s)
sizes_fit n s k least stays stays_too held queue_is members_are pairs_are blocks_are =
    let most : live s ≤ cap n = live_fits least held.1 in
    let held2 = subst (λ w. Contents n w s k) (sym stays) held in
    let held3 = subst (λ w. Contents n w s k) (sym stays_too) held2 in
    let first = queue_is s k held in
    let second = members_are s k held2 in
    let third = pairs_are s k held3 in
    (omega (arith, most, first, second, third, blocks_are), omega (arith, most, first, second, third, blocks_are))
