-- One caller's lines and results, from an index on.
use Rattle.std.specs.Prelude.{◌≡◌, ℕ, ◌+◌, ◌<◌, ◌≤◌, true, false, List, [], ◌∷◌, ◌++◌, drop, length, Some}
use Rattle.std.proofs.Common.{refl, sym, ap, ◌∙◌, arith, get_or}
use Rattle.std.proofs.lemmas.List.{drop_all, drop_more}
use Rattle.rom_model.specs.Codes.{words_call, words_reply}
use Rattle.rom_model.specs.declared.call.Answer.{Answer}
use Rattle.rom_model.specs.declared.call.Call.{Call}
use Rattle.rom_model.specs.declared.call.Query.{Query}
use Rattle.rom_model.specs.declared.call.Reply.{Reply}
use Rattle.rom_model.specs.declared.call.Updated.TheVariants.{Done, Spent, Failed, Doubt}
use Rattle.rom_model.specs.declared.line.LineResult.{LineResult}
use Rattle.rom_model.specs.declared.line.LineResult.TheVariants as outcome
use Rattle.rom_model.specs.declared.line.Step.{Step}
use Rattle.rom_model.specs.declared.line.Step.TheVariants as line
use Rattle.rom_lines.specs.Replies.{SaysResult, undone_as}
use Rattle.rom_lines.specs.Steps.{IsLine}
use Rattle.rom_lines.specs.declared.results.Told.{Told}
use Rattle.rom_lines.specs.declared.results.Told.TheVariants as told
use Rattle.rom_lines.specs.declared.results.Undone.{Undone}
use Rattle.rom_lines.specs.declared.results.Undone.TheVariants as undone
use Rattle.rom_lines.specs.declared.script.Line.{Line}
use Rattle.rom_lines.specs.declared.script.Line.TheVariants as given
use Rattle.rom_frame.specs.declared.frame.Frame.{Frame}
use Rattle.rom_replica.specs.Merging.{begins_done, frames_left, is_done, next_place, update_by, updates}

no_update : (l : Step Call Query) (r : LineResult Reply Answer) → is_done l r ≡ false → update_by l r ≡ []
no_update (line.Update call) (outcome.Update (Done reply place)) is = absurd (let never : true ≡ false = is in cc)
no_update (line.Update call) (outcome.Update Spent) is = refl
no_update (line.Update call) (outcome.Update Failed) is = refl
no_update (line.Update call) (outcome.Update Doubt) is = refl
no_update (line.Update call) outcome.Unread is = refl
no_update (line.Update call) (outcome.Read answer front) is = refl
no_update (line.Ask query) r is = refl
no_update line.Unread r is = refl

none_without : (ls : List (Step Call Query)) → updates ls [] ≡ []
none_without [] = refl
none_without (l ∷ ls) = refl

begins_without : (ls : List (Step Call Query)) → begins_done ls [] ≡ true
begins_without [] = refl
begins_without (l ∷ ls) = refl

module _ (at : ℕ) (ls : List (Step Call Query)) (rs : List (LineResult Reply Answer)) where
  -- at the end of either none is left
  pub over_lines : length ls ≤ at → frames_left at ls rs ≡ []
  over_lines end = ap (λ xs. updates xs (drop at rs)) (drop_all at ls end)

  pub over_results : length rs ≤ at → frames_left at ls rs ≡ []
  over_results end = ap (λ xs. updates (drop at ls) xs) (drop_all at rs end) ∙ none_without (drop at ls)

  pub begins_over_lines : length ls ≤ at → begins_done (drop at ls) (drop at rs) ≡ true
  begins_over_lines end = ap (λ xs. begins_done xs (drop at rs)) (drop_all at ls end)

  pub begins_over_results : length rs ≤ at → begins_done (drop at ls) (drop at rs) ≡ true
  begins_over_results end = ap (λ xs. begins_done (drop at ls) xs) (drop_all at rs end) ∙ begins_without (drop at ls)

  -- a line and its result there
  module _ (l : Step Call Query) (r : LineResult Reply Answer) (at_l : drop at ls ≡ l ∷ drop (at + 1) ls) (at_r : drop at rs ≡ r ∷ drop (at + 1) rs) where
    pub begins_here : begins_done (drop at ls) (drop at rs) ≡ is_done l r
    begins_here = λ i. begins_done (at_l i) (at_r i)

    pub left_here : frames_left at ls rs ≡ update_by l r ++ frames_left (at + 1) ls rs
    left_here = λ i. updates (at_l i) (at_r i)

-- a line that is no update that was done is passed
pub passed : (at : ℕ) (ls : List (Step Call Query)) (rs : List (LineResult Reply Answer)) → at < length ls → at < length rs → begins_done (drop at ls) (drop at rs) ≡ false → frames_left (at + 1) ls rs ≡ frames_left at ls rs
passed at [] rs in_lines in_results none = absurd (omega (arith, in_lines))
passed at (l ∷ ls) [] in_lines in_results none = absurd (omega (arith, in_results))
passed at (l ∷ ls) (r ∷ rs) in_lines in_results none =
    let here = drop_more (l ∷ ls) at l in_lines in
    let told = drop_more (r ∷ rs) at r in_results in
    let one = get_or (l ∷ ls) at l in
    let its = get_or (r ∷ rs) at r in
    sym (left_here at (l ∷ ls) (r ∷ rs) one its here told
    ∙ ap (λ fs. fs ++ frames_left (at + 1) (l ∷ ls) (r ∷ rs)) (no_update one its (sym (begins_here at (l ∷ ls) (r ∷ rs) one its here told) ∙ none)))

-- ---- what a line and a result are, by what is handed out of them

not_undone : (l : Step Call Query) (why : Undone) → is_done l (outcome.Update (undone_as why)) ≡ false
not_undone (line.Update call) undone.Spent = refl
not_undone (line.Update call) undone.Failed = refl
not_undone (line.Update call) undone.Doubt = refl
not_undone (line.Ask query) why = refl
not_undone line.Unread why = refl

not_unread : (l : Step Call Query) → is_done l outcome.Unread ≡ false
not_unread (line.Update call) = refl
not_unread (line.Ask query) = refl
not_unread line.Unread = refl

not_read : (l : Step Call Query) (answer : Answer) (front : ℕ) → is_done l (outcome.Read answer front) ≡ false
not_read (line.Update call) answer front = refl
not_read (line.Ask query) answer front = refl
not_read line.Unread answer front = refl

pub not_done : (l : Step Call Query) (r : LineResult Reply Answer) (t : Told Answer) → SaysResult words_reply r t → ((words : _) (place : _) → t ≡ told.Done words place → ⊥) → is_done l r ≡ false
not_done l r told.Unread is other = ap (is_done l) is ∙ not_unread l
not_done l r (told.Done words place) is other = absurd (other words place refl)
not_done l r (told.Undone why) is other = ap (is_done l) is ∙ not_undone l why
not_done l r (told.Read answer front) is other = ap (is_done l) is ∙ not_read l answer.now front

pub not_update : (l : Step Call Query) (r : LineResult Reply Answer) (g : Line Query) → IsLine words_call l g → ((words : _) → g ≡ given.Update words → ⊥) → is_done l r ≡ false
not_update l r (given.Update words) is other = absurd (other words refl)
not_update l r (given.Ask query) is other = ap (λ x. is_done x r) is
not_update l r given.Unread is other = ap (λ x. is_done x r) is

-- ---- callers whose first line, if one is left, is an update that was done

pub never_undone : (at : ℕ) (ls : List (Step Call Query)) (rs : List (LineResult Reply Answer)) (r : LineResult Reply Answer) (t : Told Answer) → at < length ls → drop at rs ≡ r ∷ drop (at + 1) rs → SaysResult words_reply r t →
    ((words : _) (place : _) → t ≡ told.Done words place → ⊥) → begins_done (drop at ls) (drop at rs) ≡ true → ⊥
never_undone at [] rs r t in_lines at_r is other begins = absurd (omega (arith, in_lines))
never_undone at (l ∷ ls) rs r t in_lines at_r is other begins =
    let one = get_or (l ∷ ls) at l in
    let never : true ≡ false = sym begins ∙ (begins_here at (l ∷ ls) rs one r (drop_more (l ∷ ls) at l in_lines) at_r ∙ not_done one r t is other) in
    cc

pub never_other : (at : ℕ) (ls : List (Step Call Query)) (rs : List (LineResult Reply Answer)) (l : Step Call Query) (g : Line Query) → at < length rs → drop at ls ≡ l ∷ drop (at + 1) ls → IsLine words_call l g →
    ((words : _) → g ≡ given.Update words → ⊥) → begins_done (drop at ls) (drop at rs) ≡ true → ⊥
never_other at ls [] l g in_results at_l is other begins = absurd (omega (arith, in_results))
never_other at ls (r ∷ rs) l g in_results at_l is other begins =
    let its = get_or (r ∷ rs) at r in
    let never : true ≡ false = sym begins ∙ (begins_here at ls (r ∷ rs) l its at_l (drop_more (r ∷ rs) at r in_results) ∙ not_update l its g is other) in
    cc

first_place : (l : Step Call Query) (r : LineResult Reply Answer) (reply : Reply) (place : ℕ) (rest : List Frame) → r ≡ outcome.Update (Done reply place) → is_done l r ≡ true → Some place ≡ next_place (update_by l r ++ rest)
first_place (line.Update call) r reply place rest is done = sym (ap (λ x. next_place (update_by (line.Update call) x ++ rest)) is)
first_place (line.Ask query) r reply place rest is done = absurd (let never : false ≡ true = done in cc)
first_place line.Unread r reply place rest is done = absurd (let never : false ≡ true = done in cc)

pub place_here : (at : ℕ) (ls : List (Step Call Query)) (rs : List (LineResult Reply Answer)) (r : LineResult Reply Answer) (reply : Reply) (place : ℕ) → at < length ls → drop at rs ≡ r ∷ drop (at + 1) rs → r ≡ outcome.Update (Done reply place) →
    begins_done (drop at ls) (drop at rs) ≡ true → Some place ≡ next_place (frames_left at ls rs)
place_here at [] rs r reply place in_lines at_r is begins = absurd (omega (arith, in_lines))
place_here at (l ∷ ls) rs r reply place in_lines at_r is begins =
    let one = get_or (l ∷ ls) at l in
    let here = drop_more (l ∷ ls) at l in_lines in
    first_place one r reply place (frames_left (at + 1) (l ∷ ls) rs) is (sym (begins_here at (l ∷ ls) rs one r here at_r) ∙ begins)
    ∙ ap next_place (sym (left_here at (l ∷ ls) rs one r here at_r))
