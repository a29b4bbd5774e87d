-- Words of slots, and functions of one caller
use Rattle.rom_model.specs.declared.kept.Kept.{Kept}
use Rattle.std.proofs.Common.{◌≡◌, ◌≢◌, ℕ, ◌+◌, ◌-◌, ◌*◌, ◌^◌, ◌<◌, ◌≤◌, List, [], ◌∷◌, ◌++◌, length, get_or, set, sym, refl, ap, ◌∙◌, subst, arith, Bool, true, false, length-append, get_or-set_other, get_or-set_same}
use mathlib.Core.Logic.{dite}
use native.Mathlib.Decide.{ℕ_discrete}
use Rattle.std.specs.List.{AllByRecursion}
use Rattle.rom_rule.specs.Calls.{IsClosedCaller, IsOpen, KnowsCalls, Lies, SlotHolds, answer_words, packed, slot_word_at}
use Rattle.rom_rule.specs.Views.{CallerCalls, PlanCalls, Told}
use Rattle.rom_rule.specs.declared.views.Request.{Request}

abbrev pick : {P A : Type 0} → Dec P → A → A → A
pick (yes _) a b = a
pick (no _) a b = b

pub put : {A : Type 0} → (ℕ → A) → ℕ → A → ℕ → A
put f i a j = pick (ℕ_discrete j i) a (f j)

pub put_here : {A : Type 0} (f : ℕ → A) (i : ℕ) (a : A) → put f i a i ≡ a
unfolding put
put_here f i a = go (ℕ_discrete i i)
  where
    go : (d : Dec (i ≡ i)) → pick d a (f i) ≡ a
    go (yes _) = refl
    go (no n) = absurd (n refl)

pub put_else : {A : Type 0} (f : ℕ → A) (i : ℕ) (a : A) (j : ℕ) → j ≢ i → put f i a j ≡ f j
unfolding put
put_else f i a j other = go (ℕ_discrete j i)
  where
    go : (d : Dec (j ≡ i)) → pick d a (f j) ≡ f j
    go (yes e) = absurd (other e)
    go (no _) = refl

-- words one more
pub last_word : {A : Type 0} (ws : List A) (y d : A) → get_or (ws ++ y ∷ []) (length ws) d ≡ y
last_word [] y d = refl
last_word (z ∷ ws) y d = last_word ws y d

pub early : {A : Type 0} (ws : List A) (y d : A) (n : ℕ) → n < length ws → get_or (ws ++ y ∷ []) n d ≡ get_or ws n d
early [] y d n lt = absurd (omega arith)
early (z ∷ ws) y d Rattle.std.proofs.Common.zero lt = refl
early (z ∷ ws) y d (Rattle.std.proofs.Common.suc n) lt = early ws y d n (omega arith)

-- one word more lies in a slot
pub lies_more : (slots : List ℕ) (c from x : ℕ) (ws : List ℕ) → Lies slots c from ws → slot_word_at slots c (from + length ws) ≡ x → Lies slots c from (ws ++ x ∷ [])
lies_more slots c from x ws lies here i lt = let l = length-append ws (x ∷ []) in dite (ℕ_discrete i (length ws))
    (λ e. subst (λ (k : ℕ). slot_word_at slots c (from + k) ≡ get_or (ws ++ x ∷ []) k 0) (sym e) (here ∙ sym (last_word ws x 0)))
    (λ ne. lies i (omega arith) ∙ sym (early ws x 0 i (omega arith)))

-- what was kept of joined views, where the calls of a caller change that is not one of them
pub kept_else : (callers c : ℕ) (calls calls' : ℕ → List (List ℕ)) (closed : ℕ → Bool) (told : List Told) (ks : List Kept) → closed c ≡ false → ((d : ℕ) → d ≢ c → calls' d ≡ calls d)
    → AllByRecursion (IsClosedCaller callers calls closed told) ks → AllByRecursion (IsClosedCaller callers calls' closed told) ks
kept_else callers c calls calls' closed told [] live same h = tt
kept_else callers c calls calls' closed told (k ∷ ks) live same h = (
  (λ pos. let g = h.0 pos in (g.0, g.1, ap length (same k.number (λ e. let clash : true ≡ false = sym g.1 ∙ (ap closed e ∙ live) in cc)) ∙ g.2, g.3)),
  kept_else callers c calls calls' closed told ks live same h.1,
)

-- the words of a slot, where one word of a slot changes
module _ (slots : List ℕ) (c j x : ℕ) where
  abbrev pub changed : List ℕ
  changed = set slots (64 * (c - 1) + j) x

  pub slot_word_here : 64 * (c - 1) + j < length slots → slot_word_at changed c j ≡ x
  slot_word_here inside = get_or-set_same slots (64 * (c - 1) + j) x 0 inside

  pub slot_word_else : (d k : ℕ) → 0 < c → 0 < d → j < 64 → k < 64 → (d ≡ c → k ≢ j) → slot_word_at changed d k ≡ slot_word_at slots d k
  slot_word_else d k pc pd lj lk other = get_or-set_other slots (64 * (c - 1) + j) (64 * (d - 1) + k) x 0 (λ e. dite (ℕ_discrete d c) (λ f. other f (omega arith)) (λ n. absurd (omega arith)))

  pub lies_else : (d from : ℕ) (ws : List ℕ) → 0 < c → 0 < d → j < 64 → from + length ws ≤ 64 → (d ≡ c → (k : ℕ) → k < length ws → from + k ≢ j) → Lies slots d from ws → Lies changed d from ws
  lies_else d from ws pc pd lj fits other h i lt = slot_word_else d (from + i) pc pd lj (omega arith) (λ e. other e i lt) ∙ h i lt

  -- the calls of another caller
  pub slot_holds_else : (P : List ℕ → Type 0) (d : ℕ) (calls : List (List ℕ)) (given owe : ℕ) (answers : List Told) → 0 < c → 0 < d → j < 64 → d ≢ c → SlotHolds P slots d calls given owe answers → SlotHolds P changed d calls given owe answers
  slot_holds_else P d calls given owe answers pc pd lj ne t = record {
    given_le = t.given_le;
    one_open = t.one_open;
    few = t.few;
    turn = slot_word_else d 0 pc pd lj (omega arith) (λ e. absurd (ne e)) ∙ t.turn;
    short = t.short;
    posted = λ now. let h = (t.short given (omega arith)).0 in lies_else d 1 (packed (get_or calls given [])) pc pd lj (omega arith) (λ e. absurd (ne e)) (t.posted now);
    recorded = t.recorded;
    asked = t.asked;
    answered = λ i y all last at. let h = t.answered i y all last at in let few = h.0 in (few, lies_else d 42 (answer_words y.1) pc pd lj (omega arith) (λ e. absurd (ne e)) h.1);
  }

  -- what another view knows
  pub knows_calls_else : (callers count : ℕ) (calls calls' : ℕ → List (List ℕ)) (given : ℕ → ℕ) (closed : ℕ → Bool) (sp : PlanCalls) (t : CallerCalls) → 0 < c → j < 64 → t.number ≢ c → closed c ≡ false → ((d : ℕ) → d ≢ c → calls' d ≡ calls d)
      → KnowsCalls callers slots count calls given closed sp t → KnowsCalls callers changed count calls' given closed sp t
  knows_calls_else callers count calls calls' given closed sp t pc lj ne live same k = record {
    live = k.live;
    joined = kept_else callers c calls calls' closed sp.told t.joined live same k.joined;
    mine = λ h. k.mine h ∙ sym (same t.number ne);
    outcomes = k.outcomes;
    taken_le = k.taken_le;
    laid_there = λ h. let f = k.laid_few in lies_else t.number 1 t.laid pc h lj (omega arith) (λ z. absurd (ne z)) (k.laid_there h);
    laid_few = k.laid_few;
    since_le = k.since_le;
    since = k.since;
  }

  -- a found call of another caller
  pub open_else : (calls : List (List ℕ)) (given : ℕ) (f : Request) → 0 < c → 0 < f.caller → j < 64 → f.caller ≢ c → IsOpen slots calls given f → IsOpen changed calls given f
  open_else calls given f pc pf lj ne o = let few = o.laid_few in let few' = o.place_few in record {
    posted = o.posted;
    seq = o.seq;
    loaded = o.loaded;
    placed = lies_else f.caller 42 f.place pc pf lj (omega arith) (λ e. absurd (ne e)) o.placed;
    place_few = o.place_few;
    laid = lies_else f.caller 43 f.laid pc pf lj (omega arith) (λ e. absurd (ne e)) o.laid;
    laid_few = o.laid_few;
  }
