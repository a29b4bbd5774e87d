-- Sums over what all callers were told are sums over the history.
use Rattle.std.specs.Prelude.{◌≡◌, ℕ, ◌+◌, ◌<◌, ◌≤◌, ◌==◌, Bool, true, false, cond, List, [], ◌∷◌, length, filter, zip, Some}
use Rattle.std.proofs.Common.{zero, suc, refl, sym, ap, ◌∙◌, subst, arith, ⊎_elim}
use Rattle.std.specs.List.{AllByRecursion, enumerate_from, sum_by, zip}
use Rattle.std.proofs.lemmas.Bool.Decides.{eqb_tells}
use Rattle.std.proofs.lemmas.List.Sums.{sum_by-append, sum_by-cons}
use Rattle.rom_model.specs.declared.call.Call.{Call}
use Rattle.rom_model.specs.declared.call.Call.TheVariants.{Enq, Group}
use Rattle.rom_model.specs.declared.call.Query.{Query}
use Rattle.rom_model.specs.declared.call.Reply.{Reply}
use Rattle.rom_model.specs.declared.call.Reply.TheVariants.{Queued, Head, All}
use Rattle.rom_model.specs.declared.call.Answer.{Answer}
use Rattle.rom_model.specs.declared.call.Updated.{Updated}
use Rattle.rom_model.specs.declared.call.Updated.TheVariants as told
use Rattle.rom_model.specs.declared.entry.Entry.{Entry}
use Rattle.rom_model.specs.declared.line.Step.{Step}
use Rattle.rom_model.specs.declared.line.Step.TheVariants as line
use Rattle.rom_model.specs.declared.line.LineResult.{LineResult}
use Rattle.rom_model.specs.declared.line.LineResult.TheVariants as outcome
use Rattle.rom_model.specs.declared.record.Found.{Found}
use Rattle.rom_model.specs.Codes.{call_words, reply_words, words_call, words_reply}
use Rattle.rom_model.specs.Lawful.{Answers, AreServed, IsLawful, Tells, done, done_by, posted_after}
use Rattle.rom_model.specs.Machine.{on_words}
use Rattle.rom_model.specs.Passes.{all_told}
use Rattle.rom_model.specs.Seen.{done_in}
use Rattle.rom_model.specs.State.{State}
use Rattle.rom_model.specs.Story.{Story}
use Rattle.rom_model.specs.Trio.{trio}
use Rattle.rom_model.proofs.Placed.{history_placed}
use Rattle.rom_model.proofs.Tags.{group_or_none, replies_or_none}
use Rattle.rom_script.specs.Drill.{dequeued, dequeued_by, dequeued_of, enqueued, enqueued_by, enqueued_of}
use Rattle.rom_shell.specs.Drilled.{dequeued_in, dequeued_with, enqueued_in, put_by, put_in, taken_in}

-- Of entries with their places, by what each counts for:
module _ (f : ℕ × Entry → ℕ) where
  -- those of one caller
  abbrev part : ℕ → List (ℕ × Entry) → ℕ
  part c xs = sum_by f (filter (λ x. x.1.caller == c) xs)

  -- those of so many callers, from this one on
  abbrev parts : ℕ → ℕ → List (ℕ × Entry) → ℕ
  parts c zero xs = 0
  parts c (suc n) xs = part c xs + parts (c + 1) n xs

  part_by : (c : ℕ) (x : ℕ × Entry) (xs : List (ℕ × Entry)) (b : Bool) → (x.1.caller == c) ≡ b → part c (x ∷ xs) ≡ cond b (f x) 0 + part c xs
  part_by c x xs b is = ap (λ (z : Bool). sum_by f (cond z (x ∷ filter (λ y. y.1.caller == c) xs) (filter (λ y. y.1.caller == c) xs))) is ∙ by b
    where
      by : (b : Bool) → sum_by f (cond b (x ∷ filter (λ y. y.1.caller == c) xs) (filter (λ y. y.1.caller == c) xs)) ≡ cond b (f x) 0 + part c xs
      by true = sum_by-cons f x (filter (λ y. y.1.caller == c) xs)
      by false = let none : part c xs ≡ 0 + part c xs = omega arith in none

  part_own : (c : ℕ) (x : ℕ × Entry) (xs : List (ℕ × Entry)) → x.1.caller ≡ c → part c (x ∷ xs) ≡ f x + part c xs
  part_own c x xs same = ⊎_elim (λ (is, _). part_by c x xs true is) (λ (_, not). absurd (not same)) (eqb_tells x.1.caller c)

  part_other : (c : ℕ) (x : ℕ × Entry) (xs : List (ℕ × Entry)) → (x.1.caller ≡ c → ⊥) → part c (x ∷ xs) ≡ part c xs
  part_other c x xs not = ⊎_elim (λ (_, same). absurd (not same)) (λ (is, _). let e : part c (x ∷ xs) ≡ 0 + part c xs = part_by c x xs false is in omega (arith, e)) (eqb_tells x.1.caller c)

  parts_above : (n c : ℕ) (x : ℕ × Entry) (xs : List (ℕ × Entry)) → x.1.caller < c → parts c n (x ∷ xs) ≡ parts c n xs
  parts_above zero c x xs below = refl
  parts_above (suc n) c x xs below =
      let one = part_other c x xs (λ same. absurd (omega (arith, same, below))) in
      let more = parts_above n (c + 1) x xs (omega (arith, below)) in
      omega (arith, one, more)

  parts_in : (n c : ℕ) (x : ℕ × Entry) (xs : List (ℕ × Entry)) → c ≤ x.1.caller → x.1.caller < c + n → parts c n (x ∷ xs) ≡ f x + parts c n xs
  parts_in zero c x xs low high = absurd (omega (arith, low, high))
  parts_in (suc n) c x xs low high = ⊎_elim
      (λ (_, same). let one = part_own c x xs same in let more = parts_above n (c + 1) x xs (omega (arith, same)) in omega (arith, one, more))
      (λ (_, not). let one = part_other c x xs not in let more = parts_in n (c + 1) x xs (above not) (omega (arith, high)) in omega (arith, one, more))
      (eqb_tells x.1.caller c)
    where
      above : (x.1.caller ≡ c → ⊥) → c + 1 ≤ x.1.caller
      above not = omega (arith, low, not)

  parts_none : (n c : ℕ) → parts c n [] ≡ 0
  parts_none zero c = refl
  parts_none (suc n) c = omega (arith, parts_none n (c + 1))

  -- all of them are of these callers
  all_parts : (n c : ℕ) (xs : List (ℕ × Entry)) → AllByRecursion (λ x. (c ≤ x.1.caller) × (x.1.caller < c + n)) xs → sum_by f xs ≡ parts c n xs
  all_parts n c [] all = sym (parts_none n c)
  all_parts n c (x ∷ xs) all = let one = sum_by-cons f x xs in let more = all_parts n c xs all.1 in let here = parts_in n c x xs all.0.0 all.0.1 in omega (arith, one, more, here)

-- an entry's place counts for nothing
sum_places : (g : Entry → ℕ) (k : ℕ) (es : List Entry) → sum_by (λ x. g x.1) (enumerate_from k es) ≡ sum_by g es
sum_places g k [] = refl
sum_places g k (e ∷ es) =
    let one = sum_by-cons (λ x. g x.1) (k, e) (enumerate_from (k + 1) es) in let more = sum_places g (k + 1) es in let all = sum_by-cons g e es in omega (arith, one, more, all)

-- what was told to callers of these numbers are entries of theirs
done_within : (c n : ℕ) (xs : List (Found × Updated (List ℕ))) → AllByRecursion (λ x. (c ≤ x.0.caller) × (x.0.caller < c + n)) xs → AllByRecursion (λ x. (c ≤ x.1.caller) × (x.1.caller < c + n)) (done_in xs)
done_within c n [] all = tt
done_within c n ((f, told.Done reply place) ∷ xs) all = (all.0, done_within c n xs all.1)
done_within c n ((f, told.Spent) ∷ xs) all = done_within c n xs all.1
done_within c n ((f, told.Failed) ∷ xs) all = done_within c n xs all.1
done_within c n ((f, told.Doubt) ∷ xs) all = done_within c n xs all.1

within : (n : ℕ) (xs : List (Found × Updated (List ℕ))) → AllByRecursion (λ x. (0 < x.0.caller) × (x.0.caller ≤ n)) xs → AllByRecursion (λ x. (1 ≤ x.0.caller) × (x.0.caller < 1 + n)) xs
within n [] all = tt
within n (x ∷ xs) all = ((omega (arith, all.0.0), omega (arith, all.0.1)), within n xs all.1)

-- Of a sum over what each line was told, which counts for what its entry does:
module _ (story : Story State) (g : Entry → ℕ) (line_sum : Step Call Query → LineResult Reply Answer → ℕ)
    (same : (caller seq : ℕ) (l : Step Call Query) (r : LineResult Reply Answer) → Tells trio story l r → line_sum l r ≡ sum_by (λ x. g x.1) (done_by trio caller seq l r))
    (own_sum : List (Step Call Query) → List (LineResult Reply Answer) → ℕ) (own_none : own_sum [] [] ≡ 0)
    (own_cons : (l : Step Call Query) (ls : List (Step Call Query)) (r : LineResult Reply Answer) (rs : List (LineResult Reply Answer)) → own_sum (l ∷ ls) (r ∷ rs) ≡ line_sum l r + own_sum ls rs)
    (all_sum : List (List (Step Call Query)) → List (List (LineResult Reply Answer)) → ℕ) (all_none : all_sum [] [] ≡ 0)
    (all_cons : (ls : List (Step Call Query)) (lss : List (List (Step Call Query))) (rs : List (LineResult Reply Answer)) (rss : List (List (LineResult Reply Answer))) → all_sum (ls ∷ lss) (rs ∷ rss) ≡ own_sum ls rs + all_sum lss rss) where
  -- one caller's
  one_sum : (caller seq : ℕ) (ls : List (Step Call Query)) (rs : List (LineResult Reply Answer)) → Answers trio story ls rs → own_sum ls rs ≡ sum_by (λ x. g x.1) (done trio caller seq ls rs)
  one_sum caller seq [] [] answers = own_none
  one_sum caller seq [] (r ∷ rs) answers = absurd answers
  one_sum caller seq (l ∷ ls) [] answers = absurd answers
  one_sum caller seq (l ∷ ls) (r ∷ rs) answers =
      let first = same caller seq l r answers.0 in let rest = one_sum caller (posted_after trio seq l) ls rs answers.1 in
      let both = sum_by-append (λ x. g x.1) (done_by trio caller seq l r) (done trio caller (posted_after trio seq l) ls rs) in
      let cons = own_cons l ls r rs in omega (arith, first, rest, both, cons)

  -- all callers', from this one on
  served_sum : (caller : ℕ) (lss : List (List (Step Call Query))) (rss : List (List (LineResult Reply Answer))) → AreServed trio story caller lss rss
      → all_sum lss rss ≡ parts (λ x. g x.1) caller (length lss) (enumerate_from story.opening_count story.history)
  served_sum caller [] [] served = all_none
  served_sum caller [] (rs ∷ rss) served = absurd served
  served_sum caller (ls ∷ lss) [] served = absurd served
  served_sum caller (ls ∷ lss) (rs ∷ rss) served =
      let first = one_sum caller 0 ls rs served.0.answered ∙ ap (λ zs. sum_by (λ x. g x.1) zs) (sym served.0.once) in
      let rest = served_sum (caller + 1) lss rss served.1 in let cons = all_cons ls lss rs rss in omega (arith, first, rest, cons)

  -- it is that over the history
  lawful_sum : (lss : List (List (Step Call Query))) (rss : List (List (LineResult Reply Answer))) → IsLawful trio story lss rss → all_sum lss rss ≡ sum_by g story.history
  lawful_sum lss rss lawful =
      let placed : enumerate_from story.opening_count story.history ≡ done_in (all_told (on_words trio) story.order story.opening story.opening_count story.records)
      = ap (λ (h : List Entry). enumerate_from story.opening_count h) lawful.recorded.made ∙ history_placed (on_words trio) story.order story.opening story.opening_count story.records in
      let theirs = subst (λ (xs : List (ℕ × Entry)). AllByRecursion (λ x. (1 ≤ x.1.caller) × (x.1.caller < 1 + length lss)) xs) (sym placed)
      (done_within 1 (length lss) (all_told (on_words trio) story.order story.opening story.opening_count story.records) (within (length lss) _ lawful.known)) in
      served_sum 1 lss rss lawful.served ∙ sym (all_parts (λ x. g x.1) (length lss) 1 (enumerate_from story.opening_count story.history) theirs) ∙ sum_places g story.opening_count story.history

-- what the words of a call and a reply count for is what these do; a group counts for nothing
words_put : (call : Call) (reply : Reply) → put_by (words_call (call_words call)) (words_reply (reply_words reply)) ≡ put_by (Some call) (Some reply)
words_put (Group calls) reply = group_or_none calls (λ o. put_by o (words_reply (reply_words reply)) ≡ 0) refl refl
words_put (Enq v) (All replies) = replies_or_none replies (λ o. put_by (Some (Enq v)) o ≡ 0) refl refl
words_put (Enq v) reply = refl
words_put call reply = refl

words_taken : (reply : Reply) → dequeued_with (words_reply (reply_words reply)) ≡ dequeued_with (Some reply)
words_taken (All replies) = replies_or_none replies (λ o. dequeued_with o ≡ 0) refl refl
words_taken reply = refl

put_same : (call : Call) (reply : Reply) (place : ℕ) → enqueued_by (line.Update call) (outcome.Update (told.Done reply place)) ≡ put_by (Some call) (Some reply)
put_same (Enq v) Queued place = refl
put_same call reply place = refl

taken_same : (reply : Reply) (place : ℕ) → dequeued_by (outcome.Update (told.Done reply place)) ≡ dequeued_with (Some reply)
taken_same (Head v) place = refl
taken_same reply place = refl

-- what isn't done puts nothing
spent_put : (call : Call) → enqueued_by (line.Update call) (outcome.Update told.Spent) ≡ 0
spent_put (Enq v) = refl
spent_put call = refl

failed_put : (call : Call) → enqueued_by (line.Update call) (outcome.Update told.Failed) ≡ 0
failed_put (Enq v) = refl
failed_put call = refl

doubt_put : (call : Call) → enqueued_by (line.Update call) (outcome.Update told.Doubt) ≡ 0
doubt_put (Enq v) = refl
doubt_put call = refl

put_line : (story : Story State) (caller seq : ℕ) (l : Step Call Query) (r : LineResult Reply Answer) → Tells trio story l r → enqueued_by l r ≡ sum_by (λ x. put_in x.1) (done_by trio caller seq l r)
put_line story caller seq (line.Update call) (outcome.Update (told.Done reply place)) tells =
    let words = words_put call reply in
    let here = put_same call reply place in omega (arith, words, here)
put_line story caller seq (line.Update call) (outcome.Update told.Spent) tells = spent_put call
put_line story caller seq (line.Update call) (outcome.Update told.Failed) tells = failed_put call
put_line story caller seq (line.Update call) (outcome.Update told.Doubt) tells = doubt_put call
put_line story caller seq (line.Update call) (outcome.Read answer front) tells = absurd tells
put_line story caller seq (line.Update call) outcome.Unread tells = absurd tells
put_line story caller seq (line.Ask query) r tells = refl
put_line story caller seq line.Unread r tells = refl

taken_line : (story : Story State) (caller seq : ℕ) (l : Step Call Query) (r : LineResult Reply Answer) → Tells trio story l r → dequeued_by r ≡ sum_by (λ x. taken_in x.1) (done_by trio caller seq l r)
taken_line story caller seq (line.Update call) (outcome.Update (told.Done reply place)) tells =
    let words = words_taken reply in
    let here = taken_same reply place in omega (arith, words, here)
taken_line story caller seq (line.Ask query) (outcome.Update updated) tells = absurd tells
taken_line story caller seq line.Unread (outcome.Update updated) tells = absurd tells
taken_line story caller seq l r tells = refl

-- what lawful results have put into the queue is what the history has
pub lawful_put : (story : Story State) (lss : List (List (Step Call Query))) (rss : List (List (LineResult Reply Answer))) → IsLawful trio story lss rss → enqueued lss rss ≡ enqueued_in story.history
lawful_put story = lawful_sum story put_in enqueued_by (put_line story) enqueued_of refl (λ l ls r rs. sum_by-cons (λ p. enqueued_by p.0 p.1) (l, r) (zip ls rs))
    enqueued refl (λ ls lss rs rss. sum_by-cons (λ p. enqueued_of p.0 p.1) (ls, rs) (zip lss rss))

-- and taken out
pub lawful_taken : (story : Story State) (lss : List (List (Step Call Query))) (rss : List (List (LineResult Reply Answer))) → IsLawful trio story lss rss → dequeued rss ≡ dequeued_in story.history
lawful_taken story = lawful_sum story taken_in (λ l r. dequeued_by r) (taken_line story) (λ ls rs. dequeued_of rs) refl (λ l ls r rs. sum_by-cons dequeued_by r rs)
    (λ lss rss. dequeued rss) refl (λ ls lss rs rss. sum_by-cons dequeued_of rs rss)
