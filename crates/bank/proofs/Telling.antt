-- What a teller's calls leave of what it has seen and was told.
use Rattle.std.proofs.Common.{◌≡◌, ◌≢◌, inl, inr, ℕ, zero, suc, ◌+◌, ◌*◌, ◌<◌, ◌≤◌, Bool, cond, List, [], ◌∷◌, ◌++◌, map, length, refl, sym, ◌∙◌, ap, subst, arith, rules, append-nil, length-append, length-set, get_or-set_other, get_or-set_same, take}
use mir.Val.{bool_byte}
use Rattle.std.specs.List.{AllByRecursion, enumerate_from}
use Rattle.std.proofs.lemmas.Bool.{OnFalse_at, cases_eq}
use Rattle.std.specs.Prelude.{◌%◌, ◌==◌, filter, slice_get, slice_set, Some}
use Rattle.std.proofs.lemmas.List.{length-map, map-append, take-append-le}
use Rattle.std.proofs.lemmas.Option.{get_or_from_slice_get, slice_get-get_or, slice_get_within}
use Rattle.std.proofs.Math.Seq.{take-length}
use Rattle.std.proofs.lemmas.List.Sums.{sum_by-append}
use Rattle.atomic_table.specs.Seated.{TableId}
use Rattle.rom_model.specs.Codes.{call_words}
use Rattle.rom_model.specs.Lawful.{as_words}
use Rattle.rom_model.specs.Region.{Contents}
use Rattle.rom_model.specs.Seen.{StartsWith, done_in, done_one, next_call}
use Rattle.rom_model.specs.State.{State}
use Rattle.rom_model.specs.Trio.{trio}
use Rattle.rom_model.specs.declared.call.Answer.{Answer}
use Rattle.rom_model.specs.declared.call.Answer.TheVariants.{Total}
use Rattle.rom_model.specs.declared.call.Call.TheVariants.{Move}
use Rattle.rom_model.specs.declared.call.Query.TheVariants as query
use Rattle.rom_model.specs.declared.call.Reply.{Reply}
use Rattle.rom_model.specs.declared.call.Updated.{Updated}
use Rattle.rom_model.specs.declared.record.Found.{Found}
use Rattle.rom_rule.specs.declared.views.Base.{Base}
use Rattle.rom_rule.specs.declared.views.View.{View}
use Rattle.rom_store.specs.Callers.{Caller}
use Rattle.rom_rule.proofs.Told.{all_append}
use Rattle.rom_store.proofs.Earlier.{starts_further}
use Rattle.rom_store.specs.Closing.{kept_in}
use Rattle.rom_store.specs.Updating.{HasUpdated}
use Rattle.rom_caller.specs.Standing.{HasRead, HasUpdatedFrom, Standing}
use Rattle.bank.specs.Moved.{IsMove, is_moved, is_told_moved, moved_in}
use Rattle.bank.specs.Promise.{IsReadOf, rounds}
use Rattle.bank.specs.Tellers.{IsTeller}
use Rattle.bank.specs.declared.Tally.{Tally}

abbrev amount : Answer → ℕ
amount (Total total) = total
amount other = 0

pub same_total : (a b : ℕ) → Total a ≡ Total b → a ≡ b
same_total a b is = ap amount is

-- how many moves an update was told of
abbrev pub made : Updated Reply → ℕ
made u = cond (is_told_moved u) 1 0

at_most_one : (b : Bool) → cond b 1 0 ≤ 1
at_most_one b = search rules

pub byte_is : (b : Bool) → bool_byte b ≡ cond b 1 0
byte_is b = search rules

one_moved : (f : Found) (u : Updated Reply) → moved_in (done_one f (as_words trio u)) ≡ made u
one_moved f u = search rules

done_last : (xs : List (Found × Updated (List ℕ))) (x : Found × Updated (List ℕ)) → moved_in (done_in (xs ++ x ∷ [])) ≡ moved_in (done_in xs) + moved_in (done_one x.0 x.1)
done_last [] x = let one = sum_by-append (λ z. cond (is_moved z.1.reply) 1 0) (done_one x.0 x.1) [] in omega (arith, one)
done_last (y ∷ xs) x =
    let one = sum_by-append (λ z. cond (is_moved z.1.reply) 1 0) (done_one y.0 y.1) (done_in (xs ++ x ∷ [])) in
    let two = sum_by-append (λ z. cond (is_moved z.1.reply) 1 0) (done_one y.0 y.1) (done_in xs) in
    let rest = done_last xs x in
    omega (arith, one, two, rest)

-- what an update was asked for
abbrev pub args_of : List (Found × Updated (List ℕ)) → List (List ℕ)
args_of xs = map (λ x. x.0.args) xs

length_rounds : (n : ℕ) → length (rounds n) ≡ n
length_rounds zero = refl
length_rounds (suc n) = let last = length-append (rounds n) (call_words (Move (n % 16) ((n + 1) % 16) 1) ∷ []) in let rest = length_rounds n in omega (arith, last, rest)

pub tried : (xs : List (Found × Updated (List ℕ))) (n : ℕ) → args_of xs ≡ rounds n → length xs ≡ n
tried xs n is = sym (length-map xs (λ x. x.0.args)) ∙ ap length is ∙ length_rounds n

pub rounds_move : (n : ℕ) → AllByRecursion IsMove (rounds n)
rounds_move zero = tt
rounds_move (suc n) = all_append IsMove (rounds n) (call_words (Move (n % 16) ((n + 1) % 16) 1) ∷ []) (rounds_move n) ((n % 16, (n + 1) % 16, 1, refl), tt)

one_more : (n : ℕ) → rounds n ++ call_words (Move (n % 16) ((n + 1) % 16) 1) ∷ [] ≡ rounds (n + 1)
one_more n = ap rounds (let next : suc n ≡ n + 1 = omega arith in next)

-- what is read of a list after a store
get_stored : {X : Type 0} (xs : List X) (i : ℕ) (v x : X) → i < length xs → slice_get (slice_set xs i v) i ≡ Some x → x ≡ v
get_stored xs i v x within there = sym (get_or_from_slice_get (slice_set xs i v) i x v there) ∙ get_or-set_same xs i v v within

get_other : {X : Type 0} (xs : List X) (i j : ℕ) (v x : X) → j ≢ i → slice_get (slice_set xs i v) j ≡ Some x → slice_get xs j ≡ Some x
get_other xs i j v x other there =
    let long = length-set xs i v in let least = slice_get_within (slice_set xs i v) j x there in
    let same = sym (get_or-set_other xs i j v x other) ∙ get_or_from_slice_get (slice_set xs i v) j x x there in
    slice_get-get_or xs j x (omega (arith, long, least)) ∙ ap (λ y. Some y) same

module _ (table : TableId) (base : Base) (was now : Standing) where
  abbrev p : Caller
  p = was.caller

  abbrev q : Caller
  q = now.caller

  -- what is read stays read
  later_read : (s : State) (k round : ℕ) (more : List (Found × Updated (List ℕ))) (read : ℕ × ℕ) → StartsWith q.view.seen p.view.seen → q.view.number ≡ p.view.number → q.view.outcomes ≡ p.view.outcomes ++ more → 16 * (round + 1) ≤ length p.view.outcomes →
      IsReadOf base.order s k (kept_in p) round read → IsReadOf base.order s k (kept_in q) round read
  later_read s k round more read on number told fits is =
      let same = ap (λ (n : ℕ). filter (λ x. x.1.caller == n) (enumerate_from k is.at)) number in
      let then : take (16 * (round + 1)) q.view.outcomes ≡ take (16 * (round + 1)) p.view.outcomes = ap (λ xs. take (16 * (round + 1)) xs) told ∙ take-append-le (16 * (round + 1)) p.view.outcomes more fits in
      record {
        at = is.at;
        learnt = starts_further q.view.seen p.view.seen is.at on is.learnt;
        front = is.front;
        total = is.total;
        own = same ∙ is.own ∙ ap done_in (sym then);
      }

  -- after a move
  pub moved_one : (n rounds_read : ℕ) (tally : Tally) (u : Updated Reply) (moved : ℕ) → n < 64 → HasUpdatedFrom trio Contents table base (call_words (Move (n % 16) ((n + 1) % 16) 1)) u was now → moved ≡ tally.moved + made u →
      IsTeller table base n rounds_read was tally → IsTeller table base (n + 1) rounds_read now (record { moved = moved; reads = tally.reads })
  moved_one n rounds_read tally u moved low from count teller =
      let is = teller.tallied in let behind = teller.behind in let few = teller.few in let had = is.moved in
      let words = call_words (Move (n % 16) ((n + 1) % 16) 1) in
      let up = subst (λ (c : Caller). HasUpdated trio Contents table base words u c q) (OnFalse_at teller.outside from.has_left.still) from.updated in
      let outcomes = p.view.outcomes in let many = tried outcomes n is.asked in
      let f = next_call (kept_in p) words in
      let told : q.view.outcomes ≡ outcomes ++ (f, as_words trio u) ∷ [] = up.told (omega (arith, low, many)) in
      let last = done_last outcomes (f, as_words trio u) in let one = one_moved f u in let most = at_most_one (is_told_moved u) in
      record {
        outside = from.outside;
        of = up.of;
        few = omega (arith, few, count, most);
        behind = omega (arith, behind);
        tallied = record {
          asked = ap args_of told ∙ map-append (λ x. x.0.args) outcomes ((f, as_words trio u) ∷ []) ∙ ap (λ zs. zs ++ words ∷ []) is.asked ∙ one_more n;
          moved = (let all : moved ≡ moved_in (done_in (outcomes ++ (f, as_words trio u) ∷ [])) = omega (arith, count, had, one, last) in all) ∙ ap (λ zs. moved_in (done_in zs)) (sym told);
          four = is.four;
          reads = λ s k at. record { at = λ r read there within. later_read s k r ((f, as_words trio u) ∷ []) read up.later up.same.2 told (omega (arith, behind, within, many)) ((is.reads s k at).at r read there within) };
        };
      }

  -- after a look, behind as many rounds as were tried
  pub looked : (round total : ℕ) (tally : Tally) (told : Answer × ℕ) → round < 4 → HasRead trio Contents table base query.Total was now told → told.0 ≡ Total total →
      IsTeller table base (16 * (round + 1)) round was tally → IsTeller table base (16 * (round + 1)) (round + 1) now (record { moved = tally.moved; reads = slice_set tally.reads round (total, told.1) })
  looked round total tally told low read total_is teller =
      let is = teller.tallied in let four = is.four in let look = OnFalse_at teller.outside read.read in
      let many = tried p.view.outcomes (16 * (round + 1)) is.asked in let same : q.view.outcomes ≡ p.view.outcomes = ap (λ (v : View). v.outcomes) look.still in
      let all : q.view.outcomes ≡ take (16 * (round + 1)) q.view.outcomes = sym (take-length q.view.outcomes) ∙ ap (λ (n : ℕ). take n q.view.outcomes) (ap length same ∙ many) in
      record {
        outside = read.stands ∙ teller.outside;
        of = look.of;
        few = teller.few;
        behind = omega arith;
        tallied = record {
          asked = ap args_of same ∙ is.asked;
          moved = is.moved ∙ ap (λ zs. moved_in (done_in zs)) (sym same);
          four = length-set tally.reads round (total, told.1) ∙ is.four;
          reads = λ s k at. record {
            at = λ r has there within. elim (cases_eq r round) [
              | inl equal ↦
                  let here : IsReadOf base.order s k (kept_in q) round (total, told.1) = record { at = q.view.seen; learnt = ([], sym (append-nil q.view.seen)); front = look.front s k at; total = same_total _ _ (sym total_is ∙ look.answer s k at); own = (look.of.knows s k at).own ∙ ap done_in all } in
                  let stored = get_stored tally.reads round (total, told.1) has (omega (arith, low, four)) (subst (λ (i : ℕ). slice_get (slice_set tally.reads round (total, told.1)) i ≡ Some has) equal there) in
                  subst (λ (z : ℕ × (ℕ × ℕ)). IsReadOf base.order s k (kept_in q) z.0 z.1) (λ i. (sym equal i, sym stored i)) here
              | inr other ↦
                  let before : r < round = omega (arith, within, other) in
                  later_read s k r [] has look.later look.same.2 (same ∙ sym (append-nil p.view.outcomes)) (omega (arith, before, many)) ((is.reads s k at).at r has (get_other tally.reads round r (total, told.1) has other there) before)
            ];
          };
        };
      }
