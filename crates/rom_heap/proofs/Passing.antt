-- All parts of the inspection passed, side by side.
use Rattle.std.proofs.Common.{◌≡◌, ℕ, List, [], ◌++◌, refl, sym, ◌∙◌, subst}
use Rattle.std.specs.Prelude.{Result, Ok}
use Rattle.rom_model.specs.Blocks.{AreWords}
use Rattle.rom_model.specs.Region.{buckets, taken_by}
use Rattle.rom_model.specs.declared.unfit.Break.{Break}
use Rattle.rom_heap.specs.declared.inspect.version.Version.{Version}
use Rattle.rom_heap.specs.declared.inspect.walk.Walk.TheVariants as along
use Rattle.rom_model.specs.Tests.{Test, tested, checked}
use Rattle.rom_heap.specs.Tests.{root_tests, queue_tests, set_tests, map_tests}
use Rattle.rom_heap.specs.Walks.{bucket_walk, Walks}
use Rattle.rom_model.specs.Parts.{Then}
use Rattle.rom_heap.specs.Parts.{Queue, Set, OneByOne, Map, AllocatorTree, Inspection}
use Rattle.rom_model.proofs.InTurn.{passed, passing}

-- the blocks of the queue, of the set and of the map, of each the last first
pub record HavePassed (v : Version) (n : ℕ) (w q s m : List ℕ) : Type 0 where
  pub root : checked (root_tests v n w) ≡ Ok tt
  pub queue : Walks n w along.Queue [] (Ok q)
  pub queue_ends : checked (queue_tests n w q) ≡ Ok tt
  pub set : Walks n w along.Set (q ++ []) (Ok s)
  pub set_ends : checked (set_tests w s) ≡ Ok tt
  pub map : OneByOne n w (bucket_walk v) (s ++ (q ++ [])) (buckets n) (Ok m)
  pub map_ends : checked (map_tests w m) ≡ Ok tt
  pub tree : AreWords n (taken_by n (m ++ (s ++ (q ++ [])))) w

pub record Found (v : Version) (n : ℕ) (w found : List ℕ) : Type 0 where
  pub q : List ℕ
  pub s : List ℕ
  pub m : List ℕ
  pub same : found ≡ m ++ (s ++ (q ++ []))
  pub passed : HavePassed v n w q s m

module _ (v : Version) (n : ℕ) (w : List ℕ) where
  -- the tests of a part that is walked
  record FoundWalk (R : Result (List ℕ) Break → Type 0) (tests : List ℕ → List Test) (seen found : List ℕ) : Type 0 where
    blocks : List ℕ
    walk : R (Ok blocks)
    ends : checked (tests blocks) ≡ Ok tt
    same : found ≡ blocks ++ seen

  walked : (R : Result (List ℕ) Break → Type 0) (tests : List ℕ → List Test) (seen found : List ℕ) → Then R (λ blocks r. r ≡ tested (tests blocks) (blocks ++ seen)) (Ok found) → FoundWalk R tests seen found
  walked R tests seen found is =
      let p = passed (tests is.0) (is.0 ++ seen) found (sym is.2) in
      record { blocks = is.0; walk = is.1; ends = p.all; same = p.same }

  after_set : (q s seen found : List ℕ) → checked (root_tests v n w) ≡ Ok tt → Walks n w along.Queue [] (Ok q) → checked (queue_tests n w q) ≡ Ok tt → Walks n w along.Set (q ++ []) (Ok s) → checked (set_tests w s) ≡ Ok tt
      → Map v n w (s ++ (q ++ [])) (Ok seen) → AllocatorTree n w seen (Ok found) → Found v n w found
  after_set q s seen found root queue queue_ends set set_ends map tree =
      let m = walked (OneByOne n w (bucket_walk v) (s ++ (q ++ [])) (buckets n)) (map_tests w) (s ++ (q ++ [])) seen map in
      record {
        q = q;
        s = s;
        m = m.blocks;
        same = tree.0 ∙ m.same;
        passed = record { root = root; queue = queue; queue_ends = queue_ends; set = set; set_ends = set_ends; map = m.walk; map_ends = m.ends; tree = subst (λ (xs : List ℕ). AreWords n (taken_by n xs) w) m.same tree.1 };
      }

  after_queue : (q seen found : List ℕ) → checked (root_tests v n w) ≡ Ok tt → Walks n w along.Queue [] (Ok q) → checked (queue_tests n w q) ≡ Ok tt
      → Then (Set n w (q ++ [])) (λ seen. Map v n w seen) (Ok seen) → AllocatorTree n w seen (Ok found) → Found v n w found
  after_queue q seen found root queue queue_ends rest tree =
      let s = walked (Walks n w along.Set (q ++ [])) (set_tests w) (q ++ []) rest.0 rest.1 in
      after_set q s.blocks seen found root queue queue_ends s.walk s.ends (subst (λ (xs : List ℕ). Map v n w xs (Ok seen)) s.same rest.2) tree

  after_root : (seen found : List ℕ) → checked (root_tests v n w) ≡ Ok tt → Then (Queue n w []) (λ seen. Then (Set n w seen) (λ seen. Map v n w seen)) (Ok seen) → AllocatorTree n w seen (Ok found) → Found v n w found
  after_root seen found root rest tree =
      let q = walked (Walks n w along.Queue []) (queue_tests n w) [] rest.0 rest.1 in
      after_queue q.blocks seen found root q.walk q.ends (subst (λ (xs : List ℕ). Then (Set n w xs) (λ seen. Map v n w seen) (Ok seen)) q.same rest.2) tree

  -- an inspection that breaks nowhere passed all parts
  pub all_passed : (found : List ℕ) → Inspection v n w (Ok found) → Found v n w found
  all_passed found is =
      let root = passed (root_tests v n w) [] is.1.0 (sym is.1.1) in
      after_root is.0 found root.all (subst (λ (xs : List ℕ). Then (Queue n w xs) (λ seen. Then (Set n w seen) (λ seen. Map v n w seen)) (Ok is.0)) root.same is.1.2) is.2

  -- and the other way round
  pub passed_all : (q s m : List ℕ) → HavePassed v n w q s m → Inspection v n w (Ok (m ++ (s ++ (q ++ []))))
  passed_all q s m p =
      let a = q ++ [] in
      let b = s ++ (q ++ []) in
      let c = m ++ (s ++ (q ++ [])) in
      let map : Map v n w b (Ok c) = (m, p.map, sym (passing (map_tests w m) c p.map_ends)) in
      let set : Set n w a (Ok b) = (s, p.set, sym (passing (set_tests w s) b p.set_ends)) in
      let queue : Queue n w [] (Ok a) = (q, p.queue, sym (passing (queue_tests n w q) a p.queue_ends)) in
      let tree : AllocatorTree n w c (Ok c) = (refl, p.tree) in
      (c, ([], sym (passing (root_tests v n w) [] p.root), (a, queue, (b, set, map))), tree)
