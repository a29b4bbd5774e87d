-- What the history of four tellers has, from what each of them was told.
use Rattle.std.proofs.Common.{◌≡◌, ℕ, zero, suc, ◌+◌, ◌-◌, ◌<◌, ◌≤◌, Bool, true, cond, List, [], ◌∷◌, ◌++◌, map, length, refl, sym, ◌∙◌, ap, subst, arith, rules, append-nil}
use Rattle.std.specs.Prelude.{All, ◌==◌, filter, slice_get, slice_index_or, Some}
use Rattle.std.specs.List.{AllByRecursion, enumerate_from}
use Rattle.std.proofs.lemmas.Bool.Decides.{nat_tests}
use Rattle.std.proofs.lemmas.Option.{slice_get-get_or, slice_get_within}
use Rattle.rom_device.specs.Device.{ShownDevice}
use Rattle.rom_model.specs.Leaving.{IsClosed, IsKept}
use Rattle.rom_model.specs.Machine.{on_words}
use Rattle.rom_model.specs.Passes.{all_told}
use Rattle.rom_model.specs.Region.{Contents}
use Rattle.rom_model.specs.Seen.{StartsWith, done_in, done_one}
use Rattle.rom_model.specs.State.{State, total_of}
use Rattle.rom_model.specs.Story.{Story, own}
use Rattle.rom_model.specs.Trio.{trio}
use Rattle.rom_model.specs.declared.call.Answer.TheVariants.{Total}
use Rattle.rom_model.specs.declared.call.Updated.{Updated}
use Rattle.rom_model.specs.declared.entry.Entry.{Entry}
use Rattle.rom_model.specs.declared.kept.Kept.{Kept}
use Rattle.rom_model.specs.declared.record.Found.{Found}
use Rattle.rom_model.specs.declared.record.PassRecord.{PassRecord}
use Rattle.rom_model.proofs.Placed.{all_found, done_by_caller, history_placed, told_found}
use Rattle.rom_rule.proofs.Told.{all_append}
use Rattle.rom_store.proofs.Earlier.{starts_further}
use Rattle.rom_store.specs.Indexed.{Indexed}
use Rattle.rom_store.specs.Sessions.{IsStoryOf, SessionSeen}
use Rattle.rom_caller.specs.Worked.{AreDone}
use Rattle.bank.specs.Moved.{IsMove, moved_in}
use Rattle.bank.specs.Promise.{HasWorked, IsTallyOf, KeepsTotal, total_after}
use Rattle.bank.specs.declared.Tally.{Tally}
use Rattle.bank.proofs.Moving.{moves_keep}
use Rattle.bank.proofs.Telling.{rounds_move, same_total}

all_first : {X : Type 0} (P : X → Type 0) (xs ys : List X) → AllByRecursion P (xs ++ ys) → AllByRecursion P xs
all_first P [] ys all = tt
all_first P (x ∷ xs) ys all = (all.0, all_first P xs ys all.1)

some_at : {X : Type 0} (xs : List X) (i : ℕ) → i < length xs → (x : X) × (slice_get xs i ≡ Some x)
some_at [] i within = absurd (omega (arith, within))
some_at (x ∷ xs) zero within = (x, refl)
some_at (x ∷ xs) (suc i) within = some_at xs i (omega (arith, within))

-- a caller of four
abbrev IsOne : ℕ → Type 0
IsOne c = (0 < c) × (c ≤ 4)

abbrev Asked : Type 0
Asked = Found × Updated (List ℕ)

found_all : (rs : List PassRecord) → AllByRecursion (λ r. AllByRecursion (λ f. IsOne f.caller) r.found) rs → AllByRecursion (λ f. IsOne f.caller) (all_found rs)
found_all [] all = tt
found_all (r ∷ rs) all = all_append _ r.found (all_found rs) all.0 (found_all rs all.1)

of_map : {X Y : Type 0} (P : Y → Type 0) (f : X → Y) (xs : List X) → AllByRecursion P (map f xs) → AllByRecursion (λ x. P (f x)) xs
of_map P f [] all = tt
of_map P f (x ∷ xs) all = (all.0, of_map P f xs all.1)

-- what holds of the calls of each caller holds of all
module _ (P : Asked → Type 0) where
  here : (x : Asked) (xs : List Asked) (b : Bool) → b ≡ true → AllByRecursion P (cond b (x ∷ xs) xs) → P x
  here x xs b is all = search rules

  behind : (x : Asked) (xs : List Asked) (b : Bool) → AllByRecursion P (cond b (x ∷ xs) xs) → AllByRecursion P xs
  behind x xs b all = search rules

  by_callers : (xs : List Asked) → AllByRecursion (λ x. IsOne x.0.caller) xs → ((c : ℕ) → IsOne c → AllByRecursion P (filter (λ x. x.0.caller == c) xs)) → AllByRecursion P xs
  by_callers [] known each = tt
  by_callers (x ∷ xs) known each =
      let itself : (c : ℕ) → (c == c) ≡ true = λ c. grind (arith, nat_tests) in (
        here x (filter (λ y. y.0.caller == x.0.caller) xs) (x.0.caller == x.0.caller) (itself x.0.caller) (each x.0.caller known.0),
        by_callers xs known.1 (λ c one. behind x (filter (λ y. y.0.caller == c) xs) (x.0.caller == c) (each c one)),
      )

-- where all calls are moves, so are those of them that are done
done_moves : (xs : List Asked) → AllByRecursion (λ x. IsMove x.0.args) xs → AllByRecursion (λ y. IsMove y.1.args) (done_in xs)
done_moves [] all = tt
done_moves (x ∷ xs) all = all_append _ (done_one x.0 x.1) (done_in xs) (one x.0 x.1 all.0) (done_moves xs all.1)
  where
    one : (f : Found) (u : Updated (List ℕ)) → IsMove f.args → AllByRecursion (λ y. IsMove y.1.args) (done_one f u)
    one f u is = search rules

unplaced : (n : ℕ) (es : List Entry) → AllByRecursion (λ y. IsMove y.1.args) (enumerate_from n es) → AllByRecursion (λ e. IsMove e.args) es
unplaced n [] all = tt
unplaced n (e ∷ es) all = (all.0, unplaced (n + 1) es all.1)

module _ {D : Type 0} (shown : ShownDevice D) (tallies : List Tally) (session : SessionSeen) (done : AreDone shown trio Contents HasWorked 4 tallies session) (story : Story State) (is : IsStoryOf trio Contents session story) where
  -- what the teller at a place keeps
  keeps_at : (i : ℕ) → i < 4 → (v : Kept) × (slice_get done.keeps i ≡ Some v) × (v.number ≡ i + 1) × IsKept trio story v
  keeps_at i low = let many = done.as_many.0 in let (v, there) = some_at done.keeps i (omega (arith, low, many)) in
      (v, there, (done.among.at i v there).0, (done.kept story is).at i v there)

  low_at : (i : ℕ) (tally : Tally) → slice_get tallies i ≡ Some tally → i < 4
  low_at i tally there = let many = done.as_many.1 in let within = slice_get_within tallies i tally there in omega (arith, many, within)

  module _ (closed : IsClosed trio story 4) where
    abbrev told_whole : List Asked
    told_whole = all_told (on_words trio) story.order story.opening story.opening_count story.records

    placed : enumerate_from story.opening_count story.history ≡ done_in told_whole
    placed = ap (λ es. enumerate_from story.opening_count es) closed.recorded.made ∙ history_placed (on_words trio) story.order story.opening story.opening_count story.records

    -- each call of a teller is a move
    each : (c : ℕ) → IsOne c → AllByRecursion (λ x. IsMove x.0.args) (filter (λ x. x.0.caller == c) told_whole)
    each c one =
        let (v, keeps, number, kept) = keeps_at (c - 1) (omega (arith, one.0, one.1)) in
        let many = done.as_many.1 in let (tally, there) = some_at tallies (c - 1) (omega (arith, one.0, one.1, many)) in
        let same : v.number ≡ c = number ∙ (let back : c - 1 + 1 ≡ c = omega (arith, one.0) in back) in
        let moves = of_map IsMove (λ x. x.0.args) v.told (subst (AllByRecursion IsMove) (sym (done.did.at (c - 1) v tally keeps there).asked) (rounds_move 64)) in
        subst (λ (n : ℕ). AllByRecursion (λ x. IsMove x.0.args) (filter (λ x. x.0.caller == n) told_whole)) same (subst (AllByRecursion (λ x. IsMove x.0.args)) (sym kept.told) moves)

    all_moves : AllByRecursion (λ e. IsMove e.args) story.history
    all_moves =
        let known = of_map (λ f. IsOne f.caller) (λ x. x.0) told_whole (subst (AllByRecursion (λ f. IsOne f.caller)) (sym (told_found (on_words trio) story.order story.opening story.opening_count story.records)) (found_all story.records closed.known)) in
        unplaced story.opening_count story.history (subst (AllByRecursion (λ y. IsMove y.1.args)) (sym placed) (done_moves told_whole (by_callers (λ x. IsMove x.0.args) told_whole known each)))

    -- so the total stays
    stays : (at : List Entry) → StartsWith story.history at → total_after story.order story.opening story.opening_count at ≡ total_of story.opening
    stays at (rest, whole) = moves_keep story.order story.opening story.opening_count at (all_first _ at rest (subst (AllByRecursion (λ e. IsMove e.args)) whole all_moves))

    -- what the passes and the history have of each teller
    pub all_tallied : Indexed (λ i tally. IsTallyOf story (i + 1) tally) tallies
    all_tallied = record {
      at = λ i tally there. let (v, keeps, number, kept) = keeps_at i (low_at i tally there) in let did = done.did.at i v tally keeps there in
          let owned : own story v.number ≡ done_in v.told = ap (λ zs. filter (λ x. x.1.caller == v.number) zs) placed ∙ done_by_caller v.number told_whole ∙ ap done_in kept.told in
          subst (λ (n : ℕ). IsTallyOf story n tally) number (record { asked = ap (λ xs. map (λ x. x.0.args) xs) kept.told ∙ did.asked; moved = did.moved ∙ ap moved_in (sym owned) });
    }

    -- what the closed store is asked for
    module _ (total : ℕ) (told : (s : State) (k : ℕ) → Contents session.order session.image s k → Total total ≡ Total (total_after session.order s k session.history)) where
      same : total_of story.opening ≡ total
      same =
          let there : total ≡ total_after story.order story.opening story.opening_count story.history
          = same_total _ _ (told story.opening story.opening_count is.opening) ∙ (λ i. total_after (sym is.order_is i) story.opening story.opening_count (sym is.history i)) in
          sym (there ∙ stays story.history ([], sym (append-nil story.history)))

      pub keeps_total : KeepsTotal total story
      keeps_total = record { moves = all_moves; stays = λ at within. stays at within ∙ same }

      -- what the tellers read
      pub all_read : All (λ tally. All (λ read. read.0 ≡ total) tally.reads) tallies
      all_read = λ i d within. let tally = slice_index_or tallies i d in let there = slice_get-get_or tallies i d within in
          let (v, keeps, number, kept) = keeps_at i (low_at i tally there) in
          let did = done.did.at i v tally keeps there in let four = did.four in let reads = did.reads story.opening story.opening_count is.opening in
          λ j e low. let read = reads.at j (slice_index_or tally.reads j e) (slice_get-get_or tally.reads j e low) (omega (arith, low, four)) in
          read.total ∙ ap (λ n. total_after n story.opening story.opening_count read.at) (sym is.order_is) ∙ stays read.at (starts_further story.history v.seen read.at kept.seen read.learnt) ∙ same
