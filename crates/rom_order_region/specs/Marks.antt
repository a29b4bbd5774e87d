-- Marks of the blocks that an inspection reached, and what its code answers.
use Rattle.std.specs.Prelude.{◌≡◌, ℕ, ◌*◌, ◌^◌, Bool, List, ◌∷◌, length, Option, Result, Ok, Err, MatchResult}
use Rattle.rom_model.specs.declared.unfit.Break.{Break}
use Rattle.rom_model.specs.Parts.{Then}
use Rattle.rom_model.specs.declared.unfit.Unfit.{Unfit}
use Rattle.rom_model.specs.declared.unfit.Unfit.TheVariants.{Malformed, Old, OutOfMemory}
use Rattle.rom_block.specs.Levels.{IsMarked}
use Rattle.rom_order_region.specs.Tree.{blocks, height}
use Rattle.rom_order_region.specs.Nodes.{AreNodesApart, node_at}
use Rattle.rom_order_region.specs.Region.{taken_pairs, IndexContents}
use Rattle.rom_order_region.specs.State.{Pairs}
use Rattle.rom_order_region.specs.Inspection.{Sub, LeadsToNode, Subtree, IndexRoot, Nodes, FirstIndexBreak}
use Rattle.rom_order_region.specs.declared.inspection.Reached.{Reached}

-- of all nodes of the allocator's tree those of these blocks are marked
pub record AreNodeMarks (n : ℕ) (bs : List ℕ) (marks : List Bool) : Type 0 where
  pub as_long : length marks ≡ 2 * 2 ^ n
  pub marked : IsMarked (taken_pairs n bs) marks
  pub apart : AreNodesApart n bs

-- the marks are those of some blocks
abbrev pub AreSomeNodeMarks : ℕ → List Bool → Type 0
AreSomeNodeMarks n marks = (bs : List ℕ) × AreNodeMarks n bs marks

-- what code answers of a link, and how it leaves the marks
pub record Leads (n : ℕ) (words seen : List ℕ) (link node : ℕ) (marks : List Bool) : Type 0 where
  pub block : ℕ
  pub leads : LeadsToNode n words seen link block
  pub here : node ≡ node_at n block
  pub marked : AreNodeMarks n (block ∷ seen) marks

-- what code answers of a subtree, and how it leaves the marks
pub record HasWalkedTree (d n : ℕ) (words seen : List ℕ) (link : ℕ) (low high : Option ℕ) (reached : Reached) (marks : List Bool) : Type 0 where
  pub sub : Sub
  pub walks : Subtree d n words seen link low high (Ok sub)
  pub height_is : reached.height ≡ height sub.tree
  pub count_is : reached.count ≡ length (blocks sub.tree)
  pub marked : AreNodeMarks n sub.seen marks

-- what code answers of a subtree: what it walked with the marks that it left, or the first break
abbrev pub AnswersSub : ℕ → ℕ → List ℕ → List ℕ → ℕ → Option ℕ → Option ℕ → Result Reached Break → List Bool → Type 0
AnswersSub d n words seen link low high result marks = MatchResult result (λ reached. HasWalkedTree d n words seen link low high reached marks) (λ e. Subtree d n words seen link low high (Err e))

-- what code answers of the parts before the allocator's tree
abbrev pub AnswersNodes : ℕ → List ℕ → Result (Unit {0}) Break → List Bool → Type 0
AnswersNodes n words result marks = MatchResult result (λ done. (sub : Sub) × Then (IndexRoot words) (λ none. Nodes n words) (Ok sub) × AreNodeMarks n sub.seen marks) (λ e. Then (IndexRoot words) (λ none. Nodes n words) (Err e))

-- What the inspection answers: well-formed, or the first break, or nothing for want of memory.
abbrev pub IsIndexInspected : ℕ → List ℕ → Result (Unit {0}) Unfit → Type 0
IsIndexInspected n words (Ok done) = (s : Pairs) × (k : ℕ) × IndexContents n words s k
IsIndexInspected n words (Err (Malformed offset rule)) = FirstIndexBreak n words record { offset = offset; rule = rule }
IsIndexInspected n words (Err Old) = ⊥
IsIndexInspected n words (Err OutOfMemory) = Unit {0}
