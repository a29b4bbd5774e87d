-- The table as it is opened keeps the rule
use Rattle.rom_model.specs.Blocks.{region_len}
use Rattle.std.proofs.Common.{◌≡◌, ◌≢◌, ℕ, ◌+◌, ◌-◌, ◌*◌, ◌^◌, ◌<◌, ◌≤◌, ◌⊎◌, List, [], ◌∷◌, ◌++◌, map, length, length-append, length-drop, length-set, get_or-set_same, get_or-set_other, append_assoc, get_or, set, take, drop, replicate, sym, refl, ap, ◌∙◌, subst, arith, Option, Some, Bool, true, false}
use Rattle.std.proofs.lemmas.List.{get_or-replicate, take-append-le, drop-append-le, take_all, get_or_append_left}
use Rattle.std.proofs.Math.Seq.{take-append_seam, drop-append_seam}
use Rattle.rom_rule.specs.Calls.{SlotHolds}
use Rattle.rom_rule.specs.Places.{Shown, offset_of_indicator, opening_words, part, shown, slots_at, table_len}
use Rattle.rom_rule.specs.Readers.{ShowsArrivals, HoldsNothing, IsNumbered, IsWritten, StandsAtOwn}
use Rattle.rom_rule.specs.Records.{IsCall}
use Rattle.rom_rule.specs.Rule.{IsRuled}
use Rattle.rom_rule.specs.Views.{Each, opening_plan, opening_view}
use Rattle.rom_rule.specs.declared.views.Base.{Base}
use Rattle.rom_rule.specs.declared.views.Position.TheVariants.{Out}
use Rattle.rom_rule.proofs.Dated.{dated_nothing}
use Rattle.rom_rule.proofs.Standing.{own_nowhere}
use Rattle.rom_rule.proofs.Parts.{part_before}
use mathlib.Core.Option.{some, some-injective, some-ne-none}
use lib.ListN.{get_elem?, length-replicate}
use Rattle.atomic_table.specs.Table.{opening}

abbrev pub opened : Base → Shown
opened b = record { side = 1; version = 0; indicators = replicate (8 * b.callers) 0; slots = replicate (64 * b.callers) 0; main = b.image; back = b.image }

each_one : {A : Type 0} (P : ℕ → A → Type 0) (a : A) → P 0 a → Each P (a ∷ [])
each_one P a h Rattle.std.proofs.Common.zero c e = subst (P 0) (some-injective a c e) h
each_one P a h (Rattle.std.proofs.Common.suc j) c e = absurd (some-ne-none c (sym e))

module _ {S : Type 0} (Contents : ℕ → List ℕ → S → ℕ → Type 0) (go : ℕ → S → ℕ → List ℕ → Option (S × List ℕ)) (b : Base) where
  pub opens : (ws : List ℕ) (start : S) (count : ℕ) → length ws ≡ table_len b.order b.callers → b.callers ≤ 16 → shown b ws ≡ opened b → Contents b.order b.image start count
      → IsRuled Contents go b (opening ws [] (opening_view b))
  opens ws start count wide few shows formed = record {
    plan = opening_plan b;
    writer = 0;
    start = start;
    count = count;
    opening = formed;
    wide = wide;
    limits = (few, omega arith);
    bases = each_one (λ _ c. c ≡ b) b refl;
    plans = each_one _ _ (refl, refl);
    arrivals = subst (λ (t : Shown). ShowsArrivals b.callers t.indicators (Out ∷ [])) (sym shows) (λ v low. get_or-replicate {A = ℕ} (8 * b.callers) (offset_of_indicator v) 0 0 (omega (arith, low)));
    images = each_one _ _ tt;
    written = subst (λ (t : Shown). IsWritten Contents go b start count t (opening_plan b)) (sym shows) record {
      side = refl;
      version = refl;
      main = refl;
      back = refl;
      side_low = omega arith;
      version_low = omega arith;
      published = subst (Contents b.order b.image start) (let e : count ≡ count + 0 = omega arith in e) formed;
    };
    named = each_one _ _ tt;
    remembered = each_one _ _ record { seen = ([], refl); dated = dated_nothing []; fronts = tt; joined = tt };
    recorded = record { made = refl; told = refl; in_order = tt; calls = tt };
    announced = record {
      calls = λ _. [];
      given = λ _. 0;
      closed = λ _. false;
      fresh = λ _ _. (refl, refl, refl);
      each = λ c pos low. subst (λ (t : Shown). SlotHolds (IsCall go b) t.slots c [] 0 0 []) (sym shows) record {
        given_le = omega arith;
        one_open = omega arith;
        few = omega arith;
        turn = get_or-replicate {A = ℕ} (64 * b.callers) (64 * (c - 1) + 0) 0 0 (omega arith);
        short = λ k lt. absurd (omega arith);
        posted = λ now. absurd (omega arith);
        recorded = refl;
        asked = ([], refl);
        answered = λ i x e last at. absurd (some-ne-none x (sym at));
      };
      views = each_one _ _ record {
        live = λ h. absurd (omega arith);
        joined = tt;
        mine = λ h. absurd (omega arith);
        outcomes = λ h. absurd (omega arith);
        taken_le = λ h. absurd (omega arith);
        laid_there = λ h. absurd (omega arith);
        laid_few = omega arith;
        since_le = omega arith;
        since = λ y h. absurd (omega arith);
      };
      requests = record { all_open = λ j f e. absurd (some-ne-none f (sym e)); scanned = omega arith; unmade = λ _ j f e. absurd (some-ne-none f (sym e)) };
      known = tt;
    };
    seats = record {
      differ = λ i j n e f pos. absurd (none_positive i n e pos);
      given = each_one (λ _ n. n ≤ 0) 0 (omega arith);
      standing = each_one (λ _. IsNumbered) (opening_view b) (λ h. absurd (h refl));
      own = each_one (λ _. StandsAtOwn) (opening_view b) (own_nowhere (opening_view b) (λ _. refl));
      bare = each_one (λ _. HoldsNothing) (opening_view b) (λ _. (refl, refl, refl, refl));
    };
  }
    where
      none_positive : (i n : ℕ) → get_elem? (0 ∷ []) i ≡ some n → 0 < n → ⊥
      none_positive Rattle.std.proofs.Common.zero n e pos = let z = some-injective 0 n e in omega arith
      none_positive (Rattle.std.proofs.Common.suc i) n e pos = some-ne-none n (sym e)

part_replicate : (from n m a : ℕ) → from + n ≤ m → take n (drop from (replicate m a)) ≡ replicate n a
part_replicate from Rattle.std.proofs.Common.zero m a h = refl
part_replicate Rattle.std.proofs.Common.zero (Rattle.std.proofs.Common.suc n) Rattle.std.proofs.Common.zero a h = absurd (omega arith)
part_replicate Rattle.std.proofs.Common.zero (Rattle.std.proofs.Common.suc n) (Rattle.std.proofs.Common.suc m) a h = ap (λ (l : List ℕ). a ∷ l) (part_replicate Rattle.std.proofs.Common.zero n m a (omega arith))
part_replicate (Rattle.std.proofs.Common.suc from) (Rattle.std.proofs.Common.suc n) Rattle.std.proofs.Common.zero a h = absurd (omega arith)
part_replicate (Rattle.std.proofs.Common.suc from) (Rattle.std.proofs.Common.suc n) (Rattle.std.proofs.Common.suc m) a h = part_replicate from (Rattle.std.proofs.Common.suc n) m a (omega arith)

pub opening_shows : (b : Base) → length b.image ≡ region_len b.order → shown b (opening_words b.callers b.image) ≡ opened b
unfolding shown
opening_shows b long = let n : ℕ = region_len b.order in let k : ℕ = slots_at b.callers + 64 * b.callers in let head : List ℕ = set (replicate k 0) 0 1 in let hl : length head ≡ k = length-set (replicate k 0) 0 1 ∙ length-replicate {A = ℕ} k 0 in
    let early : (from m : ℕ) → from + m ≤ k → 0 < from → part from m (opening_words b.callers b.image) ≡ replicate m 0 = (λ from m h pos.
    ap (take m) (drop-append-le from (head ++ b.image) b.image (omega (arith, length-append head b.image)) ∙ ap (λ (l : List ℕ). l ++ b.image) (drop-append-le from head b.image (omega arith)))
    ∙ (take-append-le m (drop from head ++ b.image) b.image (omega (arith, length-append (drop from head) b.image, length-drop from head)) ∙ (take-append-le m (drop from head) b.image (omega (arith, length-drop from head))
    ∙ (part_before from m (replicate k 0) 0 1 pos ∙ part_replicate from m k 0 h)))) in λ c. record {
      side = (get_or_append_left (head ++ b.image) b.image 0 0 (omega (arith, length-append head b.image)) ∙ (get_or_append_left head b.image 0 0 (omega arith) ∙ get_or-set_same (replicate k 0) 0 1 0 (omega (arith, length-replicate {A = ℕ} k 0)))) c;
      version = (get_or_append_left (head ++ b.image) b.image 0 1 (omega (arith, length-append head b.image)) ∙ (get_or_append_left head b.image 0 1 (omega arith) ∙ (get_or-set_other (replicate k 0) 0 1 1 0 (λ e. omega arith) ∙ get_or-replicate {A = ℕ} k 1 0 0 (omega arith)))) c;
      indicators = early 14 (8 * b.callers) (omega arith) (omega arith) c;
      slots = early (slots_at b.callers) (64 * b.callers) (omega arith) (omega arith) c;
      main = (ap (λ (l : List ℕ). take n (drop k l)) (append_assoc head b.image b.image) ∙ (ap (take n) (ap (λ (z : ℕ). drop z (head ++ (b.image ++ b.image))) (sym hl) ∙ drop-append_seam head (b.image ++ b.image))
          ∙ (ap (λ (z : ℕ). take z (b.image ++ b.image)) (sym long) ∙ take-append_seam b.image b.image))) c;
      back = (ap (take n) (ap (λ (z : ℕ). drop z (opening_words b.callers b.image)) (let e : k + n ≡ length (head ++ b.image) = omega (arith, length-append head b.image) in e) ∙ drop-append_seam (head ++ b.image) b.image)
          ∙ (ap (λ (z : ℕ). take z b.image) (sym long) ∙ take_all (length b.image) b.image (omega arith))) c;
    }

-- what a table is opened with
abbrev pub opened_with : ℕ → ℕ → List ℕ → ℕ → Base
opened_with order callers image faults = record { order = order; callers = callers; image = image; faults = faults }

pub image_told : (order callers faults : ℕ) (image : List ℕ) → length image ≡ region_len order → part (slots_at callers + 64 * callers) (region_len order) (opening_words callers image) ≡ image
unfolding shown
image_told order callers faults image long = ap (λ (t : Shown). t.main) (opening_shows (opened_with order callers image faults) long)

pub opens_with : {S : Type 0} (Contents : ℕ → List ℕ → S → ℕ → Type 0) (go : ℕ → S → ℕ → List ℕ → Option (S × List ℕ)) (b : Base) (order callers faults : ℕ) (image ws : List ℕ) (start : S) (count : ℕ)
    → b ≡ opened_with order callers image faults → ws ≡ opening_words callers image → length image ≡ region_len order → callers ≤ 16 → Contents order image start count → IsRuled Contents go b (opening ws [] (opening_view b))
opens_with Contents go b order callers faults image ws start count is same long few formed = let k : Base = opened_with order callers image faults in
    let head : List ℕ = replicate (slots_at callers + 64 * callers) 0 in let wide : length (opening_words callers image) ≡ table_len order callers = omega (arith, length-append (set head 0 1 ++ image) image, length-append (set head 0 1) image, length-set head 0 1, length-replicate {A = ℕ} (slots_at callers + 64 * callers) 0) in
    subst (λ (z : Base × List ℕ). IsRuled Contents go z.0 (opening z.1 [] (opening_view z.0))) (λ i. (sym is i, sym same i))
    (opens Contents go k (opening_words callers image) start count wide few (opening_shows k long) formed)
