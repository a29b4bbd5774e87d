-- The entries of a history with their places, as its passes told them.
use Rattle.std.specs.Prelude.{◌≡◌, ℕ, ◌+◌, ◌==◌, Bool, true, false, List, [], ◌∷◌, ◌++◌, length, filter, map, nat_lt, cond, Option, Some, None}
use Rattle.std.proofs.Common.{refl, sym, ap, ◌∙◌, arith, append_assoc}
use Rattle.std.proofs.lemmas.List.Elements.{filter-append}
use Rattle.std.specs.List.{enumerate_from}
use Rattle.rom_model.specs.declared.call.Updated.{Updated}
use Rattle.rom_model.specs.declared.call.Updated.TheVariants as told
use Rattle.rom_model.specs.declared.entry.Entry.{Entry}
use Rattle.rom_model.specs.declared.line.Step.{Step}
use Rattle.rom_model.specs.declared.line.Step.TheVariants as line
use Rattle.rom_model.specs.declared.line.LineResult.{LineResult}
use Rattle.rom_model.specs.declared.line.LineResult.TheVariants as outcome
use Rattle.rom_model.specs.declared.record.Fate.{Fate}
use Rattle.rom_model.specs.declared.record.Fate.TheVariants.{Published, Failed, Doubt}
use Rattle.rom_model.specs.declared.record.Found.{Found}
use Rattle.rom_model.specs.declared.record.PassRecord.{PassRecord}
use Rattle.rom_model.specs.History.{after, left, batch, batch_of, LAST_COUNT}
use Rattle.rom_model.specs.Lawful.{asked, asked_by, done, done_by, posted_after}
use Rattle.rom_model.specs.Machine.{Machine}
use Rattle.rom_model.specs.Passes.{added, published, history_of, all_told, batch_told, fate_told}
use Rattle.rom_model.specs.Seen.{done_one, done_in}

-- the updates that some passes found, in order
abbrev pub all_found : List PassRecord → List Found
all_found [] = []
all_found (r ∷ records) = r.found ++ all_found records

pub done_in_append : (xs ys : List (Found × Updated (List ℕ))) → done_in (xs ++ ys) ≡ done_in xs ++ done_in ys
done_in_append [] ys = refl
done_in_append (x ∷ xs) ys = ap (λ zs. done_one x.0 x.1 ++ zs) (done_in_append xs ys) ∙ sym (append_assoc (done_one x.0 x.1) (done_in xs) (done_in ys))

pub enumerate_append : {X : Type 0} (n : ℕ) (xs ys : List X) → enumerate_from n (xs ++ ys) ≡ enumerate_from n xs ++ enumerate_from (n + length xs) ys
enumerate_append n [] ys = ap (λ (z : ℕ). enumerate_from z ys) (let same : n ≡ n + 0 = omega arith in same)
enumerate_append n (x ∷ xs) ys = ap (λ zs. (n, x) ∷ zs) (enumerate_append (n + 1) xs ys ∙ ap (λ (z : ℕ). enumerate_from (n + 1) xs ++ enumerate_from z ys) (let same : n + 1 + length xs ≡ n + length (x ∷ xs) = omega arith in same))

none_done : (fs : List Found) (u : Updated (List ℕ)) → ((f : Found) → done_one f u ≡ []) → done_in (map (λ f. (f, u)) fs) ≡ []
none_done [] u none = refl
none_done (f ∷ fs) u none = ap (λ zs. zs ++ done_in (map (λ g. (g, u)) fs)) (none f) ∙ none_done fs u none

none_spent : (k : ℕ) (fs : List Found) → done_in (batch_told k fs []) ≡ []
none_spent k [] = refl
none_spent k (f ∷ fs) = none_spent k fs

-- entries come only from entries, and callers agree
one_caller : (c : ℕ) (f : Found) (u : Updated (List ℕ)) → filter (λ x. x.1.caller == c) (done_one f u) ≡ done_in (filter (λ x. x.0.caller == c) ((f, u) ∷ []))
one_caller c f (told.Done reply place) = same (f.caller == c)
  where
    same : (b : Bool) → cond b ((place, record { caller = f.caller; seq = f.seq; args = f.args; reply = reply }) ∷ []) [] ≡ done_in (cond b ((f, told.Done reply place) ∷ []) [])
    same true = refl
    same false = refl
one_caller c f told.Spent = nobody (f.caller == c)
  where
    nobody : (b : Bool) → [] ≡ done_in (cond b ((f, told.Spent) ∷ []) [])
    nobody true = refl
    nobody false = refl
one_caller c f told.Failed = nobody (f.caller == c)
  where
    nobody : (b : Bool) → [] ≡ done_in (cond b ((f, told.Failed) ∷ []) [])
    nobody true = refl
    nobody false = refl
one_caller c f told.Doubt = nobody (f.caller == c)
  where
    nobody : (b : Bool) → [] ≡ done_in (cond b ((f, told.Doubt) ∷ []) [])
    nobody true = refl
    nobody false = refl

pub done_by_caller : (c : ℕ) (xs : List (Found × Updated (List ℕ))) → filter (λ x. x.1.caller == c) (done_in xs) ≡ done_in (filter (λ x. x.0.caller == c) xs)
done_by_caller c [] = refl
done_by_caller c (x ∷ xs) =
    filter-append (λ z. z.1.caller == c) (done_one x.0 x.1) (done_in xs)
    ∙ ap (λ zs. zs ++ filter (λ z. z.1.caller == c) (done_in xs)) (one_caller c x.0 x.1)
    ∙ ap (λ zs. done_in (filter (λ z. z.0.caller == c) (x ∷ [])) ++ zs) (done_by_caller c xs)
    ∙ sym (done_in_append (filter (λ z. z.0.caller == c) (x ∷ [])) (filter (λ z. z.0.caller == c) xs))
    ∙ ap done_in (sym (filter-append (λ z. z.0.caller == c) (x ∷ []) xs))

module _ {S : Type 0} (step : ℕ → S → ℕ → List ℕ → Option (S × List ℕ)) (n : ℕ) where
  cut : (k : ℕ) (f : Found) (fs : List Found) (e : Entry) (rest : List Entry) (b : Bool) → done_one f (told.Done e.reply k) ≡ (k, e) ∷ [] → enumerate_from (k + 1) rest ≡ done_in (batch_told (k + 1) fs rest) →
      enumerate_from k (cond b (e ∷ rest) []) ≡ done_in (batch_told k (f ∷ fs) (cond b (e ∷ rest) []))
  cut k f fs e rest true is same = ap (λ zs. (k, e) ∷ zs) same ∙ ap (λ zs. zs ++ done_in (batch_told (k + 1) fs rest)) (sym is)
  cut k f fs e rest false is same = sym (none_spent k fs)

  taken : (s : S) (k : ℕ) (f : Found) (fs : List Found) (rest : List Entry) (o : Option (S × List ℕ)) → enumerate_from (k + 1) rest ≡ done_in (batch_told (k + 1) fs rest) →
      enumerate_from k (batch_of step n k f o rest) ≡ done_in (batch_told k (f ∷ fs) (batch_of step n k f o rest))
  taken s k f fs rest (Some done) same = cut k f fs record { caller = f.caller; seq = f.seq; args = f.args; reply = done.1 } rest (nat_lt k LAST_COUNT) refl same
  taken s k f fs rest None same = sym (none_spent k fs)

  pub batch_placed : (s : S) (k : ℕ) (fs : List Found) → enumerate_from k (batch step n s k fs) ≡ done_in (batch_told k fs (batch step n s k fs))
  batch_placed s k [] = refl
  batch_placed s k (f ∷ fs) = taken s k f fs (batch step n (left s (step n s k f.args)) (k + 1) fs) (step n s k f.args) (batch_placed (left s (step n s k f.args)) (k + 1) fs)

  added_placed : (s : S) (k : ℕ) (fate : Fate) (fs : List Found) → enumerate_from k (published fate (batch step n s k fs)) ≡ done_in (fate_told fate k fs (batch step n s k fs))
  added_placed s k Published fs = batch_placed s k fs
  added_placed s k Failed fs = sym (none_done fs told.Failed (λ f. refl))
  added_placed s k Doubt fs = sym (none_done fs told.Doubt (λ f. refl))

  -- the entries of the history with their places are those that the passes told
  pub history_placed : (s : S) (k : ℕ) (rs : List PassRecord) → enumerate_from k (history_of step n s k rs) ≡ done_in (all_told step n s k rs)
  history_placed s k [] = refl
  history_placed s k (r ∷ rs) = let more : List Entry = added step n s k r in let s' : S = after step n s k more in let k' : ℕ = k + length more in
      enumerate_append k more (history_of step n s' k' rs)
      ∙ ap (λ zs. zs ++ enumerate_from k' (history_of step n s' k' rs)) (added_placed s k r.fate r.found)
      ∙ ap (λ zs. done_in (fate_told r.fate k r.found (batch step n s k r.found)) ++ zs) (history_placed s' k' rs)
      ∙ sym (done_in_append (fate_told r.fate k r.found (batch step n s k r.found)) (all_told step n s' k' rs))

  batch_found : (k : ℕ) (fs : List Found) (es : List Entry) → map (λ x. x.0) (batch_told k fs es) ≡ fs
  batch_found k [] es = refl
  batch_found k (f ∷ fs) [] = ap (λ zs. f ∷ zs) (batch_found k fs [])
  batch_found k (f ∷ fs) (e ∷ es) = ap (λ zs. f ∷ zs) (batch_found (k + 1) fs es)

  all_alike : (u : Updated (List ℕ)) (fs : List Found) → map (λ x. x.0) (map (λ f. let y : Found × Updated (List ℕ) = (f, u) in y) fs) ≡ fs
  all_alike u [] = refl
  all_alike u (f ∷ fs) = ap (λ zs. f ∷ zs) (all_alike u fs)

  fate_found : (fate : Fate) (k : ℕ) (fs : List Found) (es : List Entry) → map (λ x. x.0) (fate_told fate k fs es) ≡ fs
  fate_found Published k fs es = batch_found k fs es
  fate_found Failed k fs es = all_alike told.Failed fs
  fate_found Doubt k fs es = all_alike told.Doubt fs

  map_append : {X Y : Type 0} (f : X → Y) (xs ys : List X) → map f (xs ++ ys) ≡ map f xs ++ map f ys
  map_append f [] ys = refl
  map_append f (x ∷ xs) ys = ap (λ zs. f x ∷ zs) (map_append f xs ys)

  -- each found update is told something once
  pub told_found : (s : S) (k : ℕ) (rs : List PassRecord) → map (λ x. x.0) (all_told step n s k rs) ≡ all_found rs
  told_found s k [] = refl
  told_found s k (r ∷ rs) = let more : List Entry = added step n s k r in let s' : S = after step n s k more in let k' : ℕ = k + length more in
      map_append (λ x. x.0) (fate_told r.fate k r.found (batch step n s k r.found)) (all_told step n s' k' rs)
      ∙ ap (λ zs. zs ++ map (λ x. x.0) (all_told step n s' k' rs)) (fate_found r.fate k r.found (batch step n s k r.found))
      ∙ ap (λ zs. r.found ++ zs) (told_found s' k' rs)

module _ {S C Q R A : Type 0} (m : Machine S C Q R A) where
  asked_done_by : (caller seq : ℕ) (l : Step C Q) (r : LineResult R A) → done_in (asked_by m caller seq l r) ≡ done_by m caller seq l r
  asked_done_by caller seq (line.Update call) (outcome.Update (told.Done reply place)) = refl
  asked_done_by caller seq (line.Update call) (outcome.Update told.Spent) = refl
  asked_done_by caller seq (line.Update call) (outcome.Update told.Failed) = refl
  asked_done_by caller seq (line.Update call) (outcome.Update told.Doubt) = refl
  asked_done_by caller seq l r = refl

  -- a caller's lines that are done are those that were told so
  pub asked_done : (caller seq : ℕ) (ls : List (Step C Q)) (rs : List (LineResult R A)) → done_in (asked m caller seq ls rs) ≡ done m caller seq ls rs
  asked_done caller seq [] rs = refl
  asked_done caller seq (l ∷ ls) [] = refl
  asked_done caller seq (l ∷ ls) (r ∷ rs) =
      done_in_append (asked_by m caller seq l r) (asked m caller (posted_after m seq l) ls rs)
      ∙ ap (λ zs. zs ++ done_in (asked m caller (posted_after m seq l) ls rs)) (asked_done_by caller seq l r)
      ∙ ap (λ zs. done_by m caller seq l r ++ zs) (asked_done caller (posted_after m seq l) ls rs)
