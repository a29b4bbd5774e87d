-- What a pass hands on of its batch
use Rattle.std.proofs.Common.{◌≡◌, inl, ℕ, zero, suc, ◌+◌, ◌-◌, ◌<◌, ◌≤◌, List, [], ◌∷◌, ◌++◌, map, take, drop, get_or, length, slice_index, length-append, append-nil, sym, refl, ap, ◌∙◌, subst, arith, false, Option}
use Rattle.std.proofs.KnownBytes.{Appends-nil}
use Rattle.std.proofs.lemmas.List.{drop_all, nil_from_length, take_all}
use Rattle.std.proofs.Math.Seq.{drop-append_seam}
use Rattle.rom_model.specs.Blocks.{region_len}
use Rattle.rom_model.specs.declared.entry.Entry.{Entry}
use Rattle.rom_model.specs.declared.record.Fate.{Fate}
use Rattle.rom_model.specs.declared.record.Found.{Found}
use Rattle.rom_model.specs.History.{LAST_COUNT, after, batch}
use Rattle.rom_model.specs.Passes.{batch_told}
use Rattle.rom_rule.specs.declared.views.Base.{Base}
use Rattle.rom_rule.specs.declared.views.Plan.{Plan}
use Rattle.rom_rule.specs.Calls.{caller_in, found_of}
use Rattle.rom_rule.specs.Readers.{Held}
use Rattle.rom_rule.specs.Views.{Each}
use Rattle.rom_rule.proofs.Told.{at_low, at_some, length_map}
use Rattle.rom_combine.specs.declared.answering.CallAnswer.{CallAnswer}
use Rattle.rom_combine.specs.declared.scanning.Posted.{Posted}
use Rattle.rom_combine.specs.Answering.{HasGiven, SameCalls, caller_of}
use Rattle.rom_combine.specs.Applying.{IsApplied, laid_of, laid_told}
use Rattle.rom_combine.specs.Histories.{batch_found}
use Rattle.rom_combine.specs.Passing.{IsPass}
use Rattle.rom_combine.specs.Published.{IsPublished}
use Rattle.rom_combine.specs.Scanning.{posted_of}
use Rattle.rom_combine.specs.declared.passed.Passed.{Passed}
use Rattle.rom_combine.proofs.Limits.{batch_short}
use Rattle.rom_combine.proofs.Weights.{first_found, posted_args}
use Rattle.rom_combine.specs.Shipping.{Shipped, Ships, text_from, update_of, updates_of}

-- as many as were found
pub length_updates : (fs : List Posted) (gs : List CallAnswer) → length fs ≡ length gs → length (updates_of fs gs) ≡ length fs
length_updates [] gs e = refl
length_updates (f ∷ fs) [] e = absurd (omega (arith, e))
length_updates (f ∷ fs) (g ∷ gs) e = ap suc (length_updates fs gs (omega (arith, e)))

-- the words of the call of one of them
pub args_at : (fs : List Posted) (gs : List CallAnswer) (i : ℕ) (f : Posted) → length fs ≡ length gs → i < length fs → f ≡ get_or fs i f → f.args ≡ (get_or (updates_of fs gs) i ([], [])).0
args_at [] gs i f e lt at = absurd (omega (arith, lt))
args_at (x ∷ fs) [] i f e lt at = absurd (omega (arith, e))
args_at (x ∷ fs) (g ∷ gs) zero f e lt at = ap (λ (z : Posted). z.args) at
args_at (x ∷ fs) (g ∷ gs) (suc i) f e lt at = args_at fs gs i f (omega (arith, e)) (omega (arith, lt)) at

-- the words of the reply to it
pub reply_at : (fs : List Posted) (gs : List CallAnswer) (i : ℕ) (g : CallAnswer) → length fs ≡ length gs → i < length fs → g ≡ get_or gs i g → g.reply ≡ (get_or (updates_of fs gs) i ([], [])).1
reply_at [] gs i g e lt at = absurd (omega (arith, lt))
reply_at (x ∷ fs) [] i g e lt at = absurd (omega (arith, e))
reply_at (x ∷ fs) (y ∷ gs) zero g e lt at = ap (λ (z : CallAnswer). z.reply) at
reply_at (x ∷ fs) (y ∷ gs) (suc i) g e lt at = reply_at fs gs i g (omega (arith, e)) (omega (arith, lt)) at

-- the first ones
pub take_updates : (n : ℕ) (fs : List Posted) (gs : List CallAnswer) → updates_of (take n fs) (take n gs) ≡ take n (updates_of fs gs)
take_updates zero fs gs = refl
take_updates (suc n) [] gs = refl
take_updates (suc n) (f ∷ fs) [] = refl
take_updates (suc n) (f ∷ fs) (g ∷ gs) = ap (λ (l : List (List ℕ × List ℕ)). (f.args, g.reply) ∷ l) (take_updates n fs gs)

-- the first of two lists that begin so
first : {A : Type 0} (x y : A) (xs ys : List A) → x ∷ xs ≡ y ∷ ys → x ≡ y
first x y xs ys e = ap (λ l. get_or l 0 x) e

rest : {A : Type 0} (x y : A) (xs ys : List A) → x ∷ xs ≡ y ∷ ys → xs ≡ ys
rest x y xs ys e = ap (λ l. drop 1 l) e

-- Where the answers are what a published pass tells of the found calls, those that were done are the entries of its batch.
pub handed : (k : ℕ) (found : List Found) (es : List Entry) (fs : List Posted) (gs : List CallAnswer) → map laid_of gs ≡ map laid_told (batch_told k found es) → map (λ (e : Entry). e.args) es ≡ take (length es) (map (λ (f : Posted). f.args) fs) → length fs ≡ length found → length es ≤ length found → take (length es) (updates_of fs gs) ≡ map update_of es
handed k found [] fs gs told same long few = refl
handed k [] (e ∷ es) fs gs told same long few = absurd (omega (arith, few))
handed k (x ∷ found) (e ∷ es) [] gs told same long few = absurd (omega (arith, long))
handed k (x ∷ found) (e ∷ es) (f ∷ fs) [] told same long few = absurd (omega (arith, ap length told))
handed k (x ∷ found) (e ∷ es) (f ∷ fs) (g ∷ gs) told same long few =
    let args : f.args ≡ e.args = sym (first e.args f.args _ _ same) in
    let reply : g.reply ≡ e.reply = ap (λ (z : ℕ × List ℕ). drop 2 z.1) (first _ _ _ _ told) in
    let more = handed (k + 1) found es fs gs (rest _ _ _ _ told) (rest _ _ _ _ same) (omega (arith, long)) (omega (arith, few)) in
    λ j. (args j, reply j) ∷ more j

-- Nothing is handed on of no updates.
pub ships_none : (x : Shipped) → Ships x x []
ships_none x = record {
  many = 0;
  front = Appends-nil x.taken;
  whole = λ _. Appends-nil x.taken;
  ended = λ _. refl;
  cause = inl (refl, refl);
}

-- A history that stays has no updates more.
pub ships_same : (x : Shipped) (text : ℕ → List ℕ → List ℕ → List ℕ) (place : ℕ) (old new : List Entry) → new ≡ old → Ships x x (text_from text place (map update_of (drop (length old) new)))
ships_same x text place old new same = subst (λ (es : List Entry). Ships x x (text_from text place (map update_of es))) (sym (drop_all (length old) new (omega (arith, ap length same)))) (ships_none x)

-- The updates that were done are those by which the history has grown.
pub ships_grown : (was now : Shipped) (text : ℕ → List ℕ → List ℕ → List ℕ) (place k : ℕ) (old new more : List Entry) (us : List (List ℕ × List ℕ)) → place ≡ k → new ≡ old ++ more → us ≡ map update_of more → Ships was now (text_from text place us) → Ships was now (text_from text k (map update_of (drop (length old) new)))
ships_grown was now text place k old new more us at grown same ships =
    subst (λ (z : ℕ × List (List ℕ × List ℕ)). Ships was now (text_from text z.0 z.1)) (λ j. (at j, (same ∙ ap (map update_of) (sym (ap (drop (length old)) grown ∙ drop-append_seam old more))) j)) ships

module _ {S : Type 0} (Contents : ℕ → List ℕ → S → ℕ → Type 0) (step : ℕ → S → ℕ → List ℕ → Option (S × List ℕ)) (b : Base) where
  -- what is told of all found calls
  pub told_all : (s : S) (n : ℕ) (t : S) (k : ℕ) (p : Plan) (main : List ℕ) (i : ℕ) (given : List CallAnswer) → (s ≡ t) × (n ≡ k) → i ≡ length p.requests → IsApplied Contents step b t k p main i given
      → map laid_of given ≡ map laid_told (batch_told (n + length p.history) (map found_of p.requests) (batch_found Contents step b s n p))
  told_all s n t k p main i given one long a = let all : take i (map found_of p.requests) ≡ map found_of p.requests = take_all i (map found_of p.requests) (omega (arith, long, length_map found_of p.requests)) in
      a.answers_are ∙ (λ j. map laid_told (batch_told (sym one.1 j + length p.history) (all j) (batch step b.order (after step b.order (sym one.0 j) (sym one.1 j) p.history) (sym one.1 j + length p.history) (all j))))

  -- no call is answered yet whose answer is still to be given
  pub unanswered_left : (fate : Fate) (before now : ℕ) (p : Plan) (items : List CallAnswer) → HasGiven Contents step b fate before now p 0 items → Each (λ _ f. f.answered ≡ false) p.requests
  unanswered_left fate before now p items l j f e =
      let x = at_some items j (omega (arith, at_low p.requests j f e, ap length l.same, length_map caller_in p.requests, length_map caller_of items)) in (l.left j f x.0 (omega arith) e x.1).0

  -- a pass that did no call leaves the history
  pub history_stays : (p q : Plan) (callers before now : ℕ) (r : Passed) → IsPass Contents step b p q callers before now r → r.done ≡ 0 → q.history ≡ p.history
  history_stays p q callers before now r x none = x.history ∙ (ap (λ (es : List Entry). p.history ++ es) (nil_from_length _ (sym x.done ∙ none)) ∙ append-nil p.history)

  -- Where the history has grown by a batch from one count in main to another.
  pub record Grew (p : Plan) (place done : ℕ) (more : List Entry) : Type 0 where
    pub place_is : (s : S) (n : ℕ) → Contents b.order b.image s n → place ≡ n + length p.history
    pub done_is : done ≡ length more
    pub fits : place + done ≤ LAST_COUNT
    pub few : length more ≤ length p.requests

  pub has_grown : (kind : ℕ) → ((words : List ℕ) (s : S) (k : ℕ) → Contents b.order words s k → (length words ≡ region_len b.order) × (slice_index words 2 ≡ k) × (k ≤ LAST_COUNT) × (slice_index words 0 ≡ kind))
      → ((s t : S) (n k : ℕ) → Contents b.order b.image s n → Contents b.order b.image t k → (s ≡ t) × (n ≡ k))
      → (p q : Plan) (main : List ℕ) (before now place count : ℕ) (s : S) (n : ℕ) → Contents b.order b.image s n → Held Contents step b s n main p.history → place ≡ slice_index main 2 → count ≡ slice_index q.main 2 → (pb : IsPublished Contents step b p q before now)
      → (t : S) × (k : ℕ) × Contents b.order b.image t k × Held Contents step b t k q.main q.history → Grew p place (count - place) pb.more
  has_grown kind within one p q main before now place count s n op held was is pb after_held = let first = within main _ _ held in let last = within q.main _ _ after_held.3 in let same = (one s after_held.0 n after_held.1 op after_held.2).1 in
      let long : length q.history ≡ length p.history + length pb.more = ap length pb.history ∙ length-append p.history pb.more in
      let at : place ≡ n + length p.history = was ∙ first.1 in record {
        place_is = λ s' n' op'. omega (arith, at, (one s s' n n' op op').1);
        done_is = omega (arith, at, is, last.1, same, long);
        fits = omega (arith, at, is, last.1, last.2, same, long);
        few = let batched = pb.batch s n op in omega (arith, ap length batched.1, batch_short step b.order (after step b.order s n p.history) pb.front (map found_of p.requests), length_map found_of p.requests);
      }

  -- The first found calls, as many as were done, are the entries of the batch.
  pub handed_batch : (s : S) (n : ℕ) (p : Plan) (more : List Entry) (found : List Posted) (answers : List CallAnswer) (done : ℕ) → found ≡ map posted_of p.requests → more ≡ batch_found Contents step b s n p → done ≡ length more
      → map laid_of answers ≡ map laid_told (batch_told (n + length p.history) (map found_of p.requests) (batch_found Contents step b s n p)) → take done (updates_of found answers) ≡ map update_of more
  handed_batch s n p more found answers done are is done_is told = let k : ℕ = n + length p.history in let st : S = after step b.order s n p.history in let fs : List Found = map found_of p.requests in let es : List Entry = batch step b.order st k fs in
      let args : map (λ (e : Entry). e.args) es ≡ take (length es) (map (λ (f : Posted). f.args) found) = first_found step b.order st k fs ∙ ap (take (length es)) (posted_args (λ _. 0) p found are) in
      let long : length found ≡ length fs = ap length are ∙ (length_map posted_of p.requests ∙ sym (length_map found_of p.requests)) in
      ap (λ (m : ℕ). take m (updates_of found answers)) (done_is ∙ ap length is) ∙ (handed k fs es found answers told args long (batch_short step b.order st k fs) ∙ ap (map update_of) (sym is))

  -- as many answers as calls that were found
  pub length_given : (fate : Fate) (before now : ℕ) (p q : Plan) (found : List Posted) (items : List CallAnswer) → HasGiven Contents step b fate before now q 0 items → SameCalls p q → found ≡ map posted_of p.requests → length items ≡ length found
  length_given fate before now p q found items l same are = omega (arith, ap length l.same, length_map caller_in q.requests, length_map caller_of items, ap length same.1, length_map found_of q.requests, length_map found_of p.requests, ap length are, length_map posted_of p.requests)
