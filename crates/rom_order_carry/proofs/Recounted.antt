-- A region whose count is another.
use Rattle.std.proofs.Common.{◌≡◌, ◌≢◌, ℕ, ◌≤◌, List, refl, ◌∙◌, arith, length-set, get_or-set_other}
use Rattle.std.specs.Prelude.{slice_index, slice_set}
use Rattle.std.proofs.lemmas.Grind.{get_or-set_at}
use Rattle.rom_model.specs.History.{LAST_COUNT}
use Rattle.rom_model.proofs.Nodes.{pow_positive}
use Rattle.rom_order_region.specs.Tree.{blocks}
use Rattle.rom_order_region.specs.State.{Pairs}
use Rattle.rom_order_region.specs.Region.{taken_pairs, IndexContents}
use Rattle.rom_order_region.proofs.Regions.{tree_same, stands_above}

-- with another count in its word 2 it stands for the same map, and for that count
pub recounted : (n : ℕ) (w : List ℕ) (s : Pairs) (j k : ℕ) → k ≤ LAST_COUNT → IndexContents n w s j → IndexContents n (slice_set w 2 k) s k
recounted n w s j k most held =
    let is = held.1 in
    let t = held.0 in
    let same : (a : ℕ) → a ≢ 2 → slice_index (slice_set w 2 k) a ≡ slice_index w a = λ a other. get_or-set_other w 2 a k 0 (λ e. other (omega (arith, e))) in (
      t,
      record {
        as_long = length-set w 2 k ∙ is.as_long;
        kind = same 0 (λ e. omega (arith, e)) ∙ is.kind;
        version = same 1 (λ e. omega (arith, e)) ∙ is.version;
        count_is = get_or-set_at w 2 2 k 0 refl (omega (arith, is.as_long));
        count_fits = most;
        top = record {
          at_is = same 3 (λ e. omega (arith, e)) ∙ is.top.at_is;
          stands = stands_above n w (slice_set w 2 k) t (λ a le. same a (λ e. omega (arith, e, le, pow_positive n))) is.top.stands;
          apart = is.top.apart;
        };
        balance = is.balance;
        size = same 4 (λ e. omega (arith, e)) ∙ is.size;
        zeros = λ a lo hi. same a (λ e. omega (arith, e, lo)) ∙ is.zeros a lo hi;
        entries_are = is.entries_are;
        tree = tree_same n (taken_pairs n (blocks t)) w (slice_set w 2 k) (λ a lo hi. same a (λ e. omega (arith, e, lo))) is.tree;
      },
    )
