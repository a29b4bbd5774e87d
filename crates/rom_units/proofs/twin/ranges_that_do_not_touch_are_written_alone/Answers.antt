use Rattle.std.proofs.Common.{rules, ◌≡◌, ◌≢◌, inl, inr, ℕ, List, get_or, set, replicate, sym, ◌∙◌, ap, arith, get_or-set_other}
use Rattle.rom_device.specs.Memory.{shown_by_memory}
use Rattle.rom_twin.specs.Seen.{committed}
use Rattle.rom_units.proofs.twin.ranges_that_do_not_touch_are_written_alone.Goals as goal

-- two words are stored, each within a range
stored : (x : List ℕ) (k : ℕ) → k ≢ 5 → k ≢ 111 → get_or x k 0 ≡ get_or (set (set x 5 105) 111 211) k 0
stored x k first second = sym (get_or-set_other (set x 5 105) 111 k 211 0 second ∙ get_or-set_other x 5 k 105 0 first)

pub run_batch-requires-clause-but : goal.run_batch-requires-clause-but
run_batch-requires-clause-but g c told k lt away =
    let sevens : committed shown_by_memory c.in-Some.twin ≡ replicate 112 7 = search rules in
    let image : c.store-2.new.self.items.items ≡ set (set (replicate 112 7) 5 105) 111 211 = search rules in
    ap (λ (l : List ℕ). get_or l k 0) sevens ∙ stored (replicate 112 7) k (λ e. away (inl (omega (arith, e), omega (arith, e)))) (λ e. away (inr (inl (omega (arith, e), omega (arith, e)))))
    ∙ ap (λ (l : List ℕ). get_or l k 0) (sym image)
