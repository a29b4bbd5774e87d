-- Each part of the inspection comes to one thing.
use Rattle.std.proofs.Common.{◌≡◌, inl, inr, ⊎_elim, ℕ, zero, suc, ◌<◌, Bool, List, [], ◌∷◌, ◌++◌, length, refl, sym, ◌∙◌, ap, subst, arith}
use Rattle.std.specs.Prelude.{Result, Ok, Err, slice_index}
use Rattle.std.proofs.lemmas.Bool.{cases_lt}
use Rattle.rom_model.specs.Region.{buckets, taken_by}
use Rattle.rom_block.specs.Taken.{DiffersFirst}
use Rattle.rom_model.specs.declared.unfit.Break.{Break}
use Rattle.rom_heap.specs.declared.inspect.version.Version.{Version}
use Rattle.rom_heap.specs.declared.inspect.walk.Walk.{Walk}
use Rattle.rom_heap.specs.declared.inspect.walk.Walk.TheVariants as along
use Rattle.rom_model.specs.Tests.{tested, checked}
use Rattle.rom_heap.specs.Tests.{root_tests, queue_tests, set_tests, map_tests}
use Rattle.rom_heap.specs.Walks.{bucket_walk, LeadsTo, next_link, node_tests, Reaches, Breaks, Walks}
use Rattle.rom_model.specs.Parts.{Then}
use Rattle.rom_model.proofs.Outcomes.{IsSingle, one_err, not_both, one_value, then_single}
use Rattle.rom_heap.specs.Parts.{Root, Queue, Set, OneByOne, Map, AllocatorTree, Structures, Inspection}

module _ (n : ℕ) (w : List ℕ) (walk : Walk) (seen : List ℕ) where
  one_block : (bs : List ℕ) (b c : ℕ) → LeadsTo n w (bs ++ seen) (next_link n walk bs) b → LeadsTo n w (bs ++ seen) (next_link n walk bs) c → b ≡ c
  one_block bs b c f g = omega (arith, f.here, g.here)

  same_reach : (bs cs : List ℕ) → Reaches n w walk seen bs → Reaches n w walk seen cs → length bs ≡ length cs → bs ≡ cs
  same_reach [] [] f g long = refl
  same_reach [] (c ∷ cs) f g long = absurd (omega (arith, long))
  same_reach (b ∷ bs) [] f g long = absurd (omega (arith, long))
  same_reach (b ∷ bs) (c ∷ cs) f g long =
      let same : bs ≡ cs = same_reach bs cs f.0 g.0 (omega (arith, long)) in
      let last : b ≡ c = one_block cs b c (subst (λ (xs : List ℕ). LeadsTo n w (xs ++ seen) (next_link n walk xs) b) same f.1) g.1 in
      λ i. last i ∷ same i

  -- behind these blocks another may be reached
  record GoesOn (bs : List ℕ) : Type 0 where
    block : ℕ
    leads : LeadsTo n w (bs ++ seen) (next_link n walk bs) block
    holds : checked (node_tests n w walk bs block) ≡ Ok tt

  goes_on : (bs cs : List ℕ) → Reaches n w walk seen bs → Reaches n w walk seen cs → length bs < length cs → GoesOn bs
  goes_on bs [] f g lt = absurd (omega (arith, lt))
  goes_on bs (c ∷ cs) f g lt = elim (cases_lt (length bs) (length cs)) [
    | inl less ↦ goes_on bs cs f g.0 less
    | inr ge ↦
        let same : cs ≡ bs = same_reach cs bs g.0 f (omega (arith, ge, lt)) in
        subst (λ (xs : List ℕ). GoesOn xs) same record { block = c; leads = g.1; holds = g.2 }
  ]

  ends_there : (bs : List ℕ) → slice_index w (next_link n walk bs) ≡ 0 → GoesOn bs → ⊥
  ends_there bs none on = omega (arith, none, on.leads.here)

  breaks_there : (bs : List ℕ) (e : Break) → Breaks n w walk seen bs e → GoesOn bs → ⊥
  breaks_there bs e broke on = ⊎_elim
      (λ astray. astray.none on.block on.leads)
      (λ refused. not_both tt e (sym on.holds ∙ ap (λ (b : ℕ). checked (node_tests n w walk bs b)) (one_block bs on.block refused.block on.leads refused.leads) ∙ refused.here))
      broke

  ends_or_breaks : (bs : List ℕ) (e : Break) → slice_index w (next_link n walk bs) ≡ 0 → Breaks n w walk seen bs e → ⊥
  ends_or_breaks bs e none broke = ⊎_elim (λ astray. astray.some none) (λ refused. omega (arith, none, refused.leads.here)) broke

  one_break : (bs : List ℕ) (e d : Break) → Breaks n w walk seen bs e → Breaks n w walk seen bs d → e ≡ d
  one_break bs e d f g = ⊎_elim
      (λ astray. ⊎_elim (λ also. astray.here ∙ sym also.here) (λ refused. absurd (astray.none refused.block refused.leads)) g)
      (λ refused. ⊎_elim
      (λ astray. absurd (astray.none refused.block refused.leads))
      (λ also. one_err {A = Unit {0}} e d (sym refused.here ∙ ap (λ (b : ℕ). checked (node_tests n w walk bs b)) (one_block bs refused.block also.block refused.leads also.leads) ∙ also.here))
      g)
      f

  -- the longer of two walks goes on behind the shorter
  reached : {C : Type 0} (bs cs : List ℕ) → Reaches n w walk seen bs → Reaches n w walk seen cs → (GoesOn bs → C) → (GoesOn cs → C) → (bs ≡ cs → C) → C
  reached bs cs f g shorter longer same = elim (cases_lt (length bs) (length cs)) [
    | inl lt ↦ shorter (goes_on bs cs f g lt)
    | inr ge ↦ elim (cases_lt (length cs) (length bs)) [
      | inl gt ↦ longer (goes_on cs bs g f gt)
      | inr le ↦ same (same_reach bs cs f g (omega (arith, ge, le)))
    ]
  ]

  ended_broke : (bs cs : List ℕ) (e : Break) → Reaches n w walk seen bs → slice_index w (next_link n walk bs) ≡ 0 → Reaches n w walk seen cs → Breaks n w walk seen cs e → ⊥
  ended_broke bs cs e f none g broke = reached bs cs f g (ends_there bs none) (breaks_there cs e broke) (λ same. ends_or_breaks cs e (subst (λ (xs : List ℕ). slice_index w (next_link n walk xs) ≡ 0) same none) broke)

  pub walks_single : (x y : Result (List ℕ) Break) → Walks n w walk seen x → Walks n w walk seen y → x ≡ y
  walks_single (Ok bs) (Ok cs) f g = reached bs cs f.0 g.0 (λ on. absurd (ends_there bs f.1 on)) (λ on. absurd (ends_there cs g.1 on)) (λ same. ap (λ (xs : List ℕ). Ok xs) same)
  walks_single (Ok bs) (Err e) f g = absurd (ended_broke bs g.0 e f.0 f.1 g.1 g.2)
  walks_single (Err e) (Ok bs) f g = absurd (ended_broke bs f.0 e g.0 g.1 f.1 f.2)
  walks_single (Err e) (Err d) f g = reached f.0 g.0 f.1 g.1
      (λ on. absurd (breaks_there f.0 e f.2 on))
      (λ on. absurd (breaks_there g.0 d g.2 on))
      (λ same. ap (λ (z : Break). Err z) (one_break g.0 e d (subst (λ (xs : List ℕ). Breaks n w walk seen xs e) same f.2) g.2))

module _ (v : Version) (n : ℕ) (w : List ℕ) where
  pub queue_single : (seen : List ℕ) → IsSingle (Queue n w seen)
  queue_single seen = then_single (Walks n w along.Queue seen) (λ blocks r. r ≡ tested (queue_tests n w blocks) (blocks ++ seen)) (walks_single n w along.Queue seen) (λ blocks. one_value (tested (queue_tests n w blocks) (blocks ++ seen)))

  pub set_single : (seen : List ℕ) → IsSingle (Set n w seen)
  set_single seen = then_single (Walks n w along.Set seen) (λ blocks r. r ≡ tested (set_tests w blocks) (blocks ++ seen)) (walks_single n w along.Set seen) (λ blocks. one_value (tested (set_tests w blocks) (blocks ++ seen)))

  one_by_one_single : (walks : ℕ → Walk) (seen : List ℕ) (i : ℕ) → IsSingle (OneByOne n w walks seen i)
  one_by_one_single walks seen zero = one_value (Ok [])
  one_by_one_single walks seen (suc i) =
      then_single (OneByOne n w walks seen i) (λ before. Then (Walks n w (walks i) (before ++ seen)) (λ blocks r. r ≡ Ok (blocks ++ before))) (one_by_one_single walks seen i)
      (λ before. then_single (Walks n w (walks i) (before ++ seen)) (λ blocks r. r ≡ Ok (blocks ++ before)) (walks_single n w (walks i) (before ++ seen)) (λ blocks. one_value (Ok (blocks ++ before))))

  pub map_single : (seen : List ℕ) → IsSingle (Map v n w seen)
  map_single seen = then_single (OneByOne n w (bucket_walk v) seen (buckets n)) (λ blocks r. r ≡ tested (map_tests w blocks) (blocks ++ seen)) (one_by_one_single (bucket_walk v) seen (buckets n)) (λ blocks. one_value (tested (map_tests w blocks) (blocks ++ seen)))

  one_difference : (T : ℕ → Bool) (x y : ℕ) → DiffersFirst n T w x → DiffersFirst n T w y → x ≡ y
  one_difference T x y f g = elim (cases_lt f.node g.node) [
    | inl lt ↦ absurd (f.differs (g.first f.depth f.order f.node f.deep f.is_node lt))
    | inr ge ↦ elim (cases_lt g.node f.node) [
      | inl gt ↦ absurd (g.differs (f.first g.depth g.order g.node g.deep g.is_node gt))
      | inr le ↦ omega (arith, f.here, g.here, ge, le)
    ]
  ]

  tree_single : (seen : List ℕ) → IsSingle (AllocatorTree n w seen)
  tree_single seen (Ok x) (Ok y) f g = ap (λ (xs : List ℕ). Ok xs) (f.0 ∙ sym g.0)
  tree_single seen (Ok x) (Err e) f g = absurd (g.1.differs (f.1 g.1.depth g.1.order g.1.node g.1.deep g.1.is_node))
  tree_single seen (Err e) (Ok x) f g = absurd (f.1.differs (g.1 f.1.depth f.1.order f.1.node f.1.deep f.1.is_node))
  tree_single seen (Err e) (Err d) f g =
      let place = one_difference (taken_by n seen) e.offset d.offset f.1 g.1 in
      let rules = f.0 ∙ sym g.0 in
      λ i. Err record { offset = place i; rule = rules i }

  structures_single : IsSingle (Structures v n w)
  structures_single =
      then_single (Root v n w) (λ none. Then (Queue n w none) (λ seen. Then (Set n w seen) (λ seen. Map v n w seen))) (one_value (tested (root_tests v n w) [])) (λ none.
      then_single (Queue n w none) (λ seen. Then (Set n w seen) (λ seen. Map v n w seen)) (queue_single none) (λ seen.
      then_single (Set n w seen) (λ seen. Map v n w seen) (set_single seen) map_single))

  pub inspection_single : IsSingle (Inspection v n w)
  inspection_single = then_single (Structures v n w) (λ seen. AllocatorTree n w seen) structures_single tree_single
