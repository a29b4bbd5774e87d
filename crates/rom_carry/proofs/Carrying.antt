-- Scripts of lines, whole and in parts, and what the steps rebuild that the lines are read as.
use Rattle.std.proofs.Common.{◌≡◌, ℕ, zero, suc, ◌+◌, ◌-◌, ◌*◌, ◌<◌, ◌≤◌, Bool, true, cond, decimal, List, [], ◌∷◌, ◌++◌, map, length, take, drop, get_or, refl, sym, ◌∙◌, ap, subst, arith, ne_eqb, append_assoc, append-nil, length-append}
use Rattle.std.specs.Prelude.{◌≢◌, ◌&&◌, nat_lt, slice_index, if◌then◌else◌}
use Rattle.std.specs.List.{AllByRecursion, flat_map, list_all}
use Rattle.std.proofs.Math.Nat.{suc-mul}
use Rattle.std.proofs.lemmas.Bool.{lt-ltb, ltb-true}
use Rattle.std.proofs.lemmas.Grind.{flat_map-append}
use Rattle.std.proofs.lemmas.List.{drop-drop, drop_all, get_or-take, get_or-drop, take-append-drop, take_all, take_more}
use Rattle.rom_model.specs.Blocks.{IsOrder}
use Rattle.rom_model.specs.Machine.{Machine}
use Rattle.rom_model.specs.declared.line.Step.{Step}
use Rattle.rom_model.specs.declared.line.Step.TheVariants.{Update}
use Rattle.rom_text.specs.Lines.{AreRead, lines_of, onto_first, pieces_of, without_cr}
use Rattle.rom_text.specs.Text.{line_text}
use Rattle.rom_text.proofs.Reading.{both, decimal_is_a_word, is_word}
use Rattle.rom_carry.specs.Carried.{AreCarrying, AreWritten, Bounds, RebuildLines}
use Rattle.rom_carry.specs.Rebuilds.{AreEachRead, Rebuild, Rebuilds, after_steps, told_by_steps}
use Rattle.rom_carry.specs.Scripts.{IsPlain, between, part_of, parts_from, parts_of, script_of}
use Rattle.rom_carry.proofs.Lines.{between_length}

-- what holds of each holds of each of the first so many, and of each of those behind them
pub all_take : {X : Type 0} (P : X → Type 0) (n : ℕ) (xs : List X) → AllByRecursion P xs → AllByRecursion P (take n xs)
all_take P zero xs all = tt
all_take P (suc n) [] all = tt
all_take P (suc n) (x ∷ xs) all = (all.0, all_take P n xs all.1)

pub all_drop : {X : Type 0} (P : X → Type 0) (n : ℕ) (xs : List X) → AllByRecursion P xs → AllByRecursion P (drop n xs)
all_drop P zero xs all = all
all_drop P (suc n) [] all = tt
all_drop P (suc n) (x ∷ xs) all = all_drop P n xs all.1

pub all_append : {X : Type 0} (P : X → Type 0) (xs ys : List X) → AllByRecursion P xs → AllByRecursion P ys → AllByRecursion P (xs ++ ys)
all_append P [] ys one two = two
all_append P (x ∷ xs) ys one two = (one.0, all_append P xs ys one.1 two)

-- all bytes are above CR and LF
abbrev pub is_above : List ℕ → Bool
is_above w = list_all (λ b. nat_lt 13 b) w

pub above_append : (xs ys : List ℕ) → is_above xs ≡ true → is_above ys ≡ true → is_above (xs ++ ys) ≡ true
above_append [] ys one two = two
above_append (x ∷ xs) ys one two =
    let parts = both (nat_lt 13 x) (is_above xs) one in
    ap (λ t. t && is_above (xs ++ ys)) parts.0 ∙ above_append xs ys parts.1 two

-- so are those of a word, and so of a number in digits
pub above_word : (w : List ℕ) → is_word w ≡ true → is_above w ≡ true
above_word [] word = refl
above_word (b ∷ bs) word =
    let parts = both (nat_lt 32 b) (is_word bs) word in
    ap (λ t. t && is_above bs) (lt-ltb 13 b (omega (arith, ltb-true 32 b parts.0))) ∙ above_word bs parts.1

pub above_digits : (n : ℕ) → is_above (decimal n) ≡ true
above_digits n = above_word (decimal n) (decimal_is_a_word n)

no_end : (w : List ℕ) → is_above w ≡ true → AllByRecursion (λ byte. byte ≢ 10) w
no_end [] above = tt
no_end (b ∷ bs) above = let parts = both (nat_lt 13 b) (is_above bs) above in ((λ is. omega (arith, is, ltb-true 13 b parts.0)), no_end bs parts.1)

no_return : (w : List ℕ) (k : ℕ) → is_above w ≡ true → slice_index w k ≢ 13
no_return [] k above = λ is. omega (arith, is)
no_return (b ∷ bs) zero above = let parts = both (nat_lt 13 b) (is_above bs) above in λ is. omega (arith, is, ltb-true 13 b parts.0)
no_return (b ∷ bs) (suc k) above = let parts = both (nat_lt 13 b) (is_above bs) above in no_return bs k parts.1

-- a line of bytes above CR and LF is plain
pub plain_line : (line : List ℕ) → is_above line ≡ true → IsPlain line
plain_line line above = record { no_end = no_end line above; no_return = no_return line (length line - 1) above }

-- plain lines are the lines of their script
pieces_line : (line rest : List ℕ) → AllByRecursion (λ byte. byte ≢ 10) line → pieces_of (line ++ 10 ∷ rest) ≡ line ∷ pieces_of rest
pieces_line [] rest plain = refl
pieces_line (b ∷ bs) rest plain = ap (λ t. cond t ([] ∷ pieces_of (bs ++ 10 ∷ rest)) (onto_first b (pieces_of (bs ++ 10 ∷ rest)))) (ne_eqb b 10 plain.0) ∙ ap (onto_first b) (pieces_line bs rest plain.1)

without : (line : List ℕ) → IsPlain line → without_cr line ≡ line
without line plain = ap (λ t. if t then take (length line - 1) line else line) (ne_eqb (slice_index line (length line - 1)) 13 plain.no_return)

first_line : (line rest : List ℕ) → IsPlain line → lines_of (line_text line ++ rest) ≡ line ∷ lines_of rest
first_line line rest plain = ap lines_of (append_assoc line (10 ∷ []) rest) ∙ ap (map without_cr) (pieces_line line rest plain.no_end) ∙ (λ i. without line plain i ∷ lines_of rest)

pub script_lines : (lines : List (List ℕ)) → AllByRecursion IsPlain lines → lines_of (script_of lines) ≡ lines
script_lines [] plain = refl
script_lines (line ∷ lines) plain = first_line line (script_of lines) plain.0 ∙ ap (λ rest. line ∷ rest) (script_lines lines plain.1)

-- the line at an index, of those from one on up to another
pub line_at : (from to i : ℕ) (lines : List (List ℕ)) (d : List ℕ) → from ≤ i → i < to → get_or (between from to lines) (i - from) d ≡ get_or lines i d
line_at from to i lines d behind before =
    let place : from + (i - from) ≡ i = omega (arith, behind) in
    get_or-take (to - from) (drop from lines) (i - from) d (omega (arith, behind, before)) ∙ get_or-drop from lines (i - from) d ∙ ap (λ k. get_or lines k d) place

-- the first lines, and one more behind them
pub more_lines : (lines : List (List ℕ)) (j : ℕ) (d : List ℕ) → j < length lines → script_of (take j lines) ++ line_text (get_or lines j d) ≡ script_of (take (j + 1) lines)
more_lines lines j d lt =
    ap (λ t. script_of (take j lines) ++ t) (sym (append-nil (line_text (get_or lines j d)))) ∙ sym (flat_map-append line_text (take j lines) (get_or lines j d ∷ [])) ∙ ap script_of (sym (take_more lines j d lt))

-- the same of the lines from an index on up to another
pub next_line : (from to i : ℕ) (lines : List (List ℕ)) (d : List ℕ) → to ≤ length lines → from ≤ i → i < to →
    script_of (take (i - from) (between from to lines)) ++ line_text (get_or lines i d) ≡ script_of (take (i + 1 - from) (between from to lines))
next_line from to i lines d within behind before =
    let next : i - from + 1 ≡ i + 1 - from = omega (arith, behind) in
    ap (λ line. script_of (take (i - from) (between from to lines)) ++ line_text line) (sym (line_at from to i lines d behind before))
    ∙ more_lines (between from to lines) (i - from) d (omega (arith, between_length from to lines (omega (arith, behind, before)) within, behind, before))
    ∙ ap (λ m. script_of (take m (between from to lines))) next

pub all_lines : (from to : ℕ) (lines : List (List ℕ)) → from ≤ to → to ≤ length lines → take (to - from) (between from to lines) ≡ between from to lines
all_lines from to lines order within = take_all (to - from) (between from to lines) (omega (arith, between_length from to lines order within))

-- a script of short lines is short
pub script_short : (longest : ℕ) (lines : List (List ℕ)) → AllByRecursion (λ line. length line ≤ longest) lines → length (script_of lines) ≤ length lines * (longest + 1)
script_short longest [] short = omega arith
script_short longest (line ∷ lines) short = omega (arith, length-append (line_text line) (script_of lines), length-append line (10 ∷ []), short.0, script_short longest lines short.1, suc-mul (length lines) (longest + 1))

-- the steps of some calls
abbrev pub updates : {C Q : Type 0} → List C → List (Step C Q)
updates calls = map Update calls

-- What calls do one after another.
module _ {S C Q R A : Type 0} (machine : Machine S C Q R A) (n : ℕ) where
  pub after_append : (s : S) (k : ℕ) (calls more : List C) → after_steps machine n s k (updates (calls ++ more)) ≡ after_steps machine n (after_steps machine n s k (updates calls)) (k + length calls) (updates more)
  after_append s k [] more = let e : k ≡ k + 0 = omega arith in ap (λ m. after_steps machine n s m (updates more)) e
  after_append s k (call ∷ calls) more =
      let next = (machine.step n s k call).0 in
      let e : (k + 1) + length calls ≡ k + length (call ∷ calls) = omega arith in
      after_append next (k + 1) calls more ∙ ap (λ m. after_steps machine n (after_steps machine n next (k + 1) (updates calls)) m (updates more)) e

  -- what holds of each reply to the first calls, and to those behind them, holds of all replies
  pub told_append : (P : R → Type 0) (s : S) (k : ℕ) (calls more : List C) → AllByRecursion P (told_by_steps machine n s k (updates calls)) → AllByRecursion P (told_by_steps machine n (after_steps machine n s k (updates calls)) (k + length calls) (updates more)) → AllByRecursion P (told_by_steps machine n s k (updates (calls ++ more)))
  told_append P s k [] more one two = let e : k + 0 ≡ k = omega arith in subst (λ m. AllByRecursion P (told_by_steps machine n s m (updates more))) e two
  told_append P s k (call ∷ calls) more one two =
      let next = (machine.step n s k call).0 in
      let e : k + length (call ∷ calls) ≡ (k + 1) + length calls = omega arith in
      (one.0, told_append P next (k + 1) calls more one.1 (subst (λ m. AllByRecursion P (told_by_steps machine n (after_steps machine n next (k + 1) (updates calls)) m (updates more))) e two))

  -- each update is told something
  pub told_many : (s : S) (k : ℕ) (calls : List C) → length (told_by_steps machine n s k (updates calls)) ≡ length calls
  told_many s k [] = refl
  told_many s k (call ∷ calls) = ap suc (told_many (machine.step n s k call).0 (k + 1) calls)

-- the steps of so many parts, from that number on
abbrev pub steps_from : {X : Type 0} → ℕ → ℕ → ℕ → List X → List (List X)
steps_from many number zero steps = []
steps_from many number (suc more) steps = take many (drop ((number - 1) * many) steps) ∷ steps_from many (number + 1) more steps

-- one after another they are the steps behind those before
steps_in_turn : {X : Type 0} (many m number more : ℕ) (steps : List X) → number ≡ m + 1 → length steps ≤ (m + more) * many → flat_map (λ xs. xs) (steps_from many number more steps) ≡ drop (m * many) steps
steps_in_turn many m number zero steps is few = let e : m + 0 ≡ m = omega arith in sym (drop_all (m * many) steps (subst (λ k. length steps ≤ k * many) e few))
steps_in_turn many m number (suc more) steps is few =
    let before : number - 1 ≡ m = omega (arith, is) in
    let e : m + suc more ≡ (m + 1) + more = omega arith in
    let next : m + 1 ≡ suc m = omega arith in
    let behind : (m + 1) * many ≡ m * many + many = ap (λ k. k * many) next ∙ suc-mul m many in
    (λ i. take many (drop (before i * many) steps) ++ flat_map (λ xs. xs) (steps_from many (number + 1) more steps))
    ∙ ap (λ xs. take many (drop (m * many) steps) ++ xs) (steps_in_turn many (m + 1) (number + 1) more steps (omega (arith, is)) (subst (λ k. length steps ≤ k * many) e few) ∙ ap (λ k. drop k steps) behind ∙ sym (drop-drop many (m * many) steps))
    ∙ take-append-drop many (drop (m * many) steps)

-- Lines that are read as steps.
module _ {C Q : Type 0} (Reads : List ℕ → Step C Q → Type 0) where
  pub read_take : (n : ℕ) (lines : List (List ℕ)) (steps : List (Step C Q)) → AreRead Reads lines steps → AreRead Reads (take n lines) (take n steps)
  read_take zero lines steps read = tt
  read_take (suc n) [] [] read = tt
  read_take (suc n) [] (step ∷ steps) read = absurd read
  read_take (suc n) (line ∷ lines) [] read = absurd read
  read_take (suc n) (line ∷ lines) (step ∷ steps) read = (read.0, read_take n lines steps read.1)

  pub read_drop : (n : ℕ) (lines : List (List ℕ)) (steps : List (Step C Q)) → AreRead Reads lines steps → AreRead Reads (drop n lines) (drop n steps)
  read_drop zero lines steps read = read
  read_drop (suc n) [] [] read = tt
  read_drop (suc n) [] (step ∷ steps) read = absurd read
  read_drop (suc n) (line ∷ lines) [] read = absurd read
  read_drop (suc n) (line ∷ lines) (step ∷ steps) read = read_drop n lines steps read.1

  pub read_many : (lines : List (List ℕ)) (steps : List (Step C Q)) → AreRead Reads lines steps → length steps ≡ length lines
  read_many [] [] read = refl
  read_many [] (step ∷ steps) read = absurd read
  read_many (line ∷ lines) [] read = absurd read
  read_many (line ∷ lines) (step ∷ steps) read = ap suc (read_many lines steps read.1)

  -- a script of plain lines is read as they are
  pub script_read : (lines : List (List ℕ)) (steps : List (Step C Q)) → AllByRecursion IsPlain lines → AreRead Reads lines steps → AreRead Reads (lines_of (script_of lines)) steps
  script_read lines steps plain read = subst (λ ls. AreRead Reads ls steps) (sym (script_lines lines plain)) read

module _ {S C Q R A : Type 0} (machine : Machine S C Q R A) (Reads : List ℕ → Step C Q → Type 0) (Same : S → S → Type 0) (Refused : R → Type 0) where
  -- each part of a script of plain lines is read as these lines are
  pub parts_read : (many number more : ℕ) (lines : List (List ℕ)) (steps : List (Step C Q)) → AllByRecursion IsPlain lines → AreRead Reads lines steps → AreEachRead machine Reads Same Refused (parts_from many number more lines) (steps_from many number more steps)
  parts_read many number zero lines steps plain read = tt
  parts_read many number (suc more) lines steps plain read =
      let at = (number - 1) * many in (
        script_read Reads (part_of many number lines) (take many (drop at steps)) (all_take IsPlain many (drop at lines) (all_drop IsPlain at lines plain)) (read_take Reads many (drop at lines) (drop at steps) (read_drop Reads at lines steps read)),
        parts_read many (number + 1) more lines steps plain read,
      )

  -- lines that rebuild a state in a heap of an order rebuild it as one script
  pub rebuilt_whole : (order : ℕ) (s : S) (lines : List (List ℕ)) → AllByRecursion IsPlain lines → RebuildLines machine Reads Same Refused order lines s → Rebuilds machine Reads Same Refused order (script_of lines ∷ []) s
  rebuilt_whole order s lines plain is = record {
    each_of = is.steps ∷ [];
    read = (script_read Reads lines is.steps plain is.read, tt);
    rebuild = subst (λ steps. Rebuild machine Reads Same Refused order steps s) (sym (append-nil is.steps)) is.rebuild;
  }

  -- and as the scripts of so many parts, where these have all lines
  pub rebuilt_parts : (many parts order : ℕ) (s : S) (lines : List (List ℕ)) → length lines ≤ many * parts → AllByRecursion IsPlain lines → RebuildLines machine Reads Same Refused order lines s → Rebuilds machine Reads Same Refused order (parts_of many parts lines) s
  rebuilt_parts many parts order s lines few plain is =
      let room : length is.steps ≤ (0 + parts) * many = omega (arith, few, read_many Reads lines is.steps is.read) in
      let first : 0 * many ≡ 0 = omega arith in
      let all = steps_in_turn many 0 1 parts is.steps refl room ∙ ap (λ k. drop k is.steps) first in
      record {
        each_of = steps_from many 1 parts is.steps;
        read = parts_read many 1 parts lines is.steps plain is.read;
        rebuild = subst (λ steps. Rebuild machine Reads Same Refused order steps s) (sym all) is.rebuild;
      }

  -- Lines within their bounds carry a state over, where they rebuild it in a heap of this order, and of each greater one.
  pub carried : (bounds : Bounds) (order : ℕ) (s : S) (lines : List (List ℕ)) → AreWritten bounds lines → ((greater : ℕ) → order ≤ greater → IsOrder greater → RebuildLines machine Reads Same Refused greater lines s) → AreCarrying machine Reads Same Refused bounds order s lines
  carried bounds order s lines written each = record {
    whole = λ greater above is. rebuilt_whole greater s lines written.plain (each greater above is);
    in_parts = λ greater above is. rebuilt_parts bounds.part bounds.parts greater s lines written.few written.plain (each greater above is);
  }
