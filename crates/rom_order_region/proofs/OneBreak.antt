-- Each part of the inspection comes to one thing.
use Rattle.std.proofs.Common.{◌≡◌, inl, inr, ⊎_elim, ℕ, zero, suc, ◌+◌, Bool, List, [], ◌∷◌, length, sym, ◌∙◌, ap, arith}
use Rattle.std.specs.Prelude.{Option, Some, None, Result, Ok, Err, slice_index}
use Rattle.std.proofs.lemmas.Bool.{cases_lt}
use Rattle.rom_model.specs.Tests.{tested, is_word}
use Rattle.rom_model.specs.Parts.{Then}
use Rattle.rom_model.specs.declared.unfit.Break.{Break}
use Rattle.rom_model.specs.declared.unfit.Unfit.{Unfit}
use Rattle.rom_model.specs.declared.unfit.Unfit.TheVariants.{Malformed, Old, OutOfMemory}
use Rattle.rom_model.specs.declared.unfit.Rule.TheVariants as rule
use Rattle.rom_model.proofs.Outcomes.{IsSingle, one_value, one_err, then_single}
use Rattle.rom_block.specs.Taken.{DiffersFirst}
use Rattle.rom_order_region.specs.Nodes.{node_at}
use Rattle.rom_order_region.specs.Region.{taken_pairs}
use Rattle.rom_order_region.specs.Inspection.{most_levels, Sub, LeadsToNode, FollowsChild, entry_tests, height_tests, node_over, Subtree, index_root_tests, IndexRoot, Nodes, IndexAllocatorTree, IndexInspection, FirstIndexBreak, RejectsIndex}

module _ (n : ℕ) (w : List ℕ) where
  one_leads : (seen : List ℕ) (link x y : ℕ) → LeadsToNode n w seen link x → LeadsToNode n w seen link y → x ≡ y
  one_leads seen link x y f g = omega (arith, f.here, g.here)

  follows_single : (seen : List ℕ) (link : ℕ) → IsSingle (FollowsChild n w seen link)
  follows_single seen link (Ok x) (Ok y) f g = ap (λ (z : ℕ). Ok z) (one_leads seen link x y f g)
  follows_single seen link (Ok x) (Err e) f g = absurd (g.0 x f)
  follows_single seen link (Err e) (Ok x) f g = absurd (f.0 x g)
  follows_single seen link (Err e) (Err d) f g = ap (λ (z : Break). Err z) (f.1 ∙ sym g.1)

  module _ (d : ℕ) (below : (seen : List ℕ) (link : ℕ) (low high : Option ℕ) → IsSingle (Subtree d n w seen link low high)) (seen : List ℕ) (link : ℕ) (low high : Option ℕ) where
    abbrev ends : ℕ → Sub → Sub → Result Sub Break → Type 0
    ends b left right s = s ≡ tested (height_tests n w b left.tree right.tree) record { tree = node_over n w b left.tree right.tree; seen = right.seen }

    abbrev rights : ℕ → Sub → Result Sub Break → Type 0
    rights b left = Then (Subtree d n w left.seen (node_at n b + 3) (Some (slice_index w (node_at n b))) high) (λ right s. ends b left right s)

    abbrev lefts : ℕ → List ℕ → Result Sub Break → Type 0
    lefts b reached = Then (Subtree d n w reached (node_at n b + 2) low (Some (slice_index w (node_at n b)))) (λ left. rights b left)

    abbrev entry : ℕ → Result (List ℕ) Break → Type 0
    entry b s = s ≡ tested (entry_tests n w low high b) (b ∷ seen)

    abbrev whole : ℕ → Result Sub Break → Type 0
    whole b = Then (entry b) (λ reached. lefts b reached)

    node_single : IsSingle (Then (FollowsChild n w seen link) (λ b. whole b))
    node_single = then_single (FollowsChild n w seen link) (λ b. whole b) (follows_single seen link) (λ b.
        then_single (entry b) (λ reached. lefts b reached) (one_value (tested (entry_tests n w low high b) (b ∷ seen))) (λ reached.
        then_single (Subtree d n w reached (node_at n b + 2) low (Some (slice_index w (node_at n b)))) (λ left. rights b left) (below reached (node_at n b + 2) low (Some (slice_index w (node_at n b)))) (λ left.
        then_single (Subtree d n w left.seen (node_at n b + 3) (Some (slice_index w (node_at n b))) high) (λ right s. ends b left right s) (below left.seen (node_at n b + 3) (Some (slice_index w (node_at n b))) high) (λ right.
        one_value (tested (height_tests n w b left.tree right.tree) record { tree = node_over n w b left.tree right.tree; seen = right.seen })))))

  pub subtree_single : (d : ℕ) (seen : List ℕ) (link : ℕ) (low high : Option ℕ) → IsSingle (Subtree d n w seen link low high)
  subtree_single zero seen link low high x y f g = f ∙ sym g
  subtree_single (suc d) seen link low high x y f g = ⊎_elim
      (λ empty. ⊎_elim (λ also. empty.1 ∙ sym also.1) (λ some. absurd (some.0 empty.0)) g)
      (λ some. ⊎_elim (λ empty. absurd (some.0 empty.0)) (λ also. node_single d (subtree_single d) seen link low high x y some.1 also.1) g)
      f

  abbrev sized : Sub → Result Sub Break → Type 0
  sized sub r = r ≡ tested (is_word w 4 rule.Count (length sub.seen) ∷ []) sub

  nodes_single : IsSingle (Nodes n w)
  nodes_single = then_single (Subtree most_levels n w [] 3 None None) (λ sub r. sized sub r) (subtree_single most_levels [] 3 None None) (λ sub. one_value (tested (is_word w 4 rule.Count (length sub.seen) ∷ []) sub))

  one_offset : (taken : ℕ → Bool) (x y : ℕ) → DiffersFirst n taken w x → DiffersFirst n taken w y → x ≡ y
  one_offset taken x y f g = elim (cases_lt f.node g.node) [
    | inl lt ↦ absurd (f.differs (g.first f.depth f.order f.node f.deep f.is_node lt))
    | inr ge ↦ elim (cases_lt g.node f.node) [
      | inl gt ↦ absurd (g.differs (f.first g.depth g.order g.node g.deep g.is_node gt))
      | inr le ↦ let same : f.node ≡ g.node = omega arith in omega (arith, f.here, g.here, same)
    ]
  ]

  same_break : (e d : Break) → e.offset ≡ d.offset → e.rule ≡ d.rule → e ≡ d
  same_break e d offset rule_is = λ i. record { offset = offset i; rule = rule_is i }

  allocator_single : (sub : Sub) → IsSingle (IndexAllocatorTree n w sub)
  allocator_single sub (Ok x) (Ok y) f g = ap (λ (z : Sub). Ok z) (f.0 ∙ sym g.0)
  allocator_single sub (Ok x) (Err e) f g = absurd (g.1.differs (f.1 g.1.depth g.1.order g.1.node g.1.deep g.1.is_node))
  allocator_single sub (Err e) (Ok x) f g = absurd (f.1.differs (g.1 f.1.depth f.1.order f.1.node f.1.deep f.1.is_node))
  allocator_single sub (Err e) (Err d) f g = ap (λ (z : Break). Err z) (same_break e d (one_offset (taken_pairs n sub.seen) e.offset d.offset f.1 g.1) (f.0 ∙ sym g.0))

  pub inspection_single : IsSingle (IndexInspection n w)
  inspection_single = then_single (IndexRoot w) (λ none. Then (Nodes n w) (λ sub. IndexAllocatorTree n w sub)) (one_value (tested {A = Unit {0}} (index_root_tests w) tt)) (λ none.
      then_single (Nodes n w) (λ sub. IndexAllocatorTree n w sub) nodes_single (λ sub. allocator_single sub))

  breaks_once : (e d : Break) → FirstIndexBreak n w e → FirstIndexBreak n w d → e ≡ d
  breaks_once e d broke also = one_err {A = Sub} e d (inspection_single (Err e) (Err d) broke also)

  pub rejects_once : (e d : Unfit) → RejectsIndex n w e → RejectsIndex n w d → e ≡ d
  rejects_once (Malformed offset rule) (Malformed place other) broke also =
      let same = breaks_once record { offset = offset; rule = rule } record { offset = place; rule = other } broke also in
      λ i. Malformed (same i).offset (same i).rule
  rejects_once e Old broke also = absurd also
  rejects_once e OutOfMemory broke also = absurd also
  rejects_once Old d broke also = absurd broke
  rejects_once OutOfMemory d broke also = absurd broke
