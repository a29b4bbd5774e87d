-- What the words show after a word has changed
use Rattle.rom_model.specs.Blocks.{region_len}
use Rattle.std.proofs.Common.{◌≡◌, ℕ, ◌+◌, ◌-◌, ◌*◌, ◌<◌, ◌≤◌, List, length, get_or, set, take, drop, sym, ap, ◌∙◌, arith, get_or-set_other, get_or-set_same, get_or-take, get_or-drop, length-take, length-drop}
use Rattle.std.proofs.lemmas.List.{take-set-le, drop-set-lt, drop-set-add}
use Rattle.std.proofs.Math.Seq.{take-set-lt}
use Rattle.rom_rule.specs.Places.{part, shown, slots_at, table_len}
use Rattle.rom_rule.specs.declared.views.Base.{Base}

-- a word past or before the part
pub part_after : (from n : ℕ) (ws : List ℕ) (i x : ℕ) → from + n ≤ i → part from n (set ws i x) ≡ part from n ws
part_after from n ws i x past = let e : from + (i - from) ≡ i = omega arith in
    ap (λ (k : ℕ). take n (drop from (set ws k x))) (sym e) ∙ (ap (take n) (drop-set-add from ws (i - from) x) ∙ take-set-le n (drop from ws) (i - from) x (omega arith))

pub part_before : (from n : ℕ) (ws : List ℕ) (i x : ℕ) → i < from → part from n (set ws i x) ≡ part from n ws
part_before from n ws i x before = ap (take n) (drop-set-lt from ws i x before)

pub part_inside : (from n : ℕ) (ws : List ℕ) (k x : ℕ) → k < n → part from n (set ws (from + k) x) ≡ set (part from n ws) k x
part_inside from n ws k x inside = ap (take n) (drop-set-add from ws k x) ∙ take-set-lt n (drop from ws) k x inside

pub part_get : (from n : ℕ) (ws : List ℕ) (k : ℕ) → k < n → get_or (part from n ws) k 0 ≡ get_or ws (from + k) 0
part_get from n ws k low = get_or-take n (drop from ws) k 0 low ∙ get_or-drop from ws k 0

pub part_long : (from n : ℕ) (ws : List ℕ) → from + n ≤ length ws → length (part from n ws) ≡ n
part_long from n ws fits = omega (arith, length-take n (drop from ws), length-drop from ws)

module _ (b : Base) (ws : List ℕ) where
  pub shown_side : (x : ℕ) → 0 < length ws → shown b (set ws 0 x) ≡ record (shown b ws) { side = x }
  unfolding shown
  shown_side x long = λ c. record {
    side = get_or-set_same ws 0 x 0 long c;
    version = get_or-set_other ws 0 1 x 0 (λ e. omega arith) c;
    indicators = part_before 14 (8 * b.callers) ws 0 x (omega arith) c;
    slots = part_before (slots_at b.callers) (64 * b.callers) ws 0 x (omega arith) c;
    main = part_before (slots_at b.callers + 64 * b.callers) (region_len b.order) ws 0 x (omega arith) c;
    back = part_before (slots_at b.callers + 64 * b.callers + region_len b.order) (region_len b.order) ws 0 x (omega arith) c;
  }

  pub shown_version : (x : ℕ) → 1 < length ws → shown b (set ws 1 x) ≡ record (shown b ws) { version = x }
  unfolding shown
  shown_version x long = λ c. record {
    side = get_or-set_other ws 1 0 x 0 (λ e. omega arith) c;
    version = get_or-set_same ws 1 x 0 long c;
    indicators = part_before 14 (8 * b.callers) ws 1 x (omega arith) c;
    slots = part_before (slots_at b.callers) (64 * b.callers) ws 1 x (omega arith) c;
    main = part_before (slots_at b.callers + 64 * b.callers) (region_len b.order) ws 1 x (omega arith) c;
    back = part_before (slots_at b.callers + 64 * b.callers + region_len b.order) (region_len b.order) ws 1 x (omega arith) c;
  }

  pub shown_indicators : (v x : ℕ) → v < 8 * b.callers → shown b (set ws (14 + v) x) ≡ record (shown b ws) { indicators = set (shown b ws).indicators v x }
  unfolding shown
  shown_indicators v x low = λ c. record {
    side = get_or-set_other ws (14 + v) 0 x 0 (λ e. omega arith) c;
    version = get_or-set_other ws (14 + v) 1 x 0 (λ e. omega arith) c;
    indicators = part_inside 14 (8 * b.callers) ws v x low c;
    slots = part_before (slots_at b.callers) (64 * b.callers) ws (14 + v) x (omega arith) c;
    main = part_before (slots_at b.callers + 64 * b.callers) (region_len b.order) ws (14 + v) x (omega arith) c;
    back = part_before (slots_at b.callers + 64 * b.callers + region_len b.order) (region_len b.order) ws (14 + v) x (omega arith) c;
  }

  pub shown_main : (i x : ℕ) → i < region_len b.order → shown b (set ws (slots_at b.callers + 64 * b.callers + i) x) ≡ record (shown b ws) { main = set (shown b ws).main i x }
  unfolding shown
  shown_main i x low = let n : ℕ = region_len b.order in let k : ℕ = slots_at b.callers + 64 * b.callers in λ c. record {
    side = get_or-set_other ws (k + i) 0 x 0 (λ e. omega arith) c;
    version = get_or-set_other ws (k + i) 1 x 0 (λ e. omega arith) c;
    indicators = part_after 14 (8 * b.callers) ws (k + i) x (omega arith) c;
    slots = part_after (slots_at b.callers) (64 * b.callers) ws (k + i) x (omega arith) c;
    main = part_inside k n ws i x low c;
    back = part_before (k + n) n ws (k + i) x (omega arith) c;
  }

  pub shown_back : (i x : ℕ) → i < region_len b.order → shown b (set ws (slots_at b.callers + 64 * b.callers + region_len b.order + i) x) ≡ record (shown b ws) { back = set (shown b ws).back i x }
  unfolding shown
  shown_back i x low = let n : ℕ = region_len b.order in let k : ℕ = slots_at b.callers + 64 * b.callers in λ c. record {
    side = get_or-set_other ws (k + n + i) 0 x 0 (λ e. omega arith) c;
    version = get_or-set_other ws (k + n + i) 1 x 0 (λ e. omega arith) c;
    indicators = part_after 14 (8 * b.callers) ws (k + n + i) x (omega arith) c;
    slots = part_after (slots_at b.callers) (64 * b.callers) ws (k + n + i) x (omega arith) c;
    main = part_after k n ws (k + n + i) x (omega arith) c;
    back = part_inside (k + n) n ws i x low c;
  }

  pub shown_slots : (k x : ℕ) → k < 64 * b.callers → shown b (set ws (slots_at b.callers + k) x) ≡ record (shown b ws) { slots = set (shown b ws).slots k x }
  unfolding shown
  shown_slots k x low = let n : ℕ = region_len b.order in let c : ℕ = slots_at b.callers + 64 * b.callers in λ e. record {
    side = get_or-set_other ws (slots_at b.callers + k) 0 x 0 (λ f. omega arith) e;
    version = get_or-set_other ws (slots_at b.callers + k) 1 x 0 (λ f. omega arith) e;
    indicators = part_after 14 (8 * b.callers) ws (slots_at b.callers + k) x (omega arith) e;
    slots = part_inside (slots_at b.callers) (64 * b.callers) ws k x low e;
    main = part_before c n ws (slots_at b.callers + k) x (omega arith) e;
    back = part_before (c + n) n ws (slots_at b.callers + k) x (omega arith) e;
  }

  pub slots_long : table_len b.order b.callers ≤ length ws → length (shown b ws).slots ≡ 64 * b.callers
  unfolding shown
  slots_long fits = part_long (slots_at b.callers) (64 * b.callers) ws (omega arith)
