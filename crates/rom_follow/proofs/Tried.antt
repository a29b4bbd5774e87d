-- What was tried of a history and done is its first part, with its replies.
use Rattle.std.proofs.Common.{◌≡◌, ℕ, ◌+◌, List, [], ◌∷◌, refl, sym, ◌∙◌, subst}
use Rattle.std.specs.Prelude.{◌++◌, drop, map, length, take, Option, Some, None, IsSomeAnd}
use Rattle.rom_model.specs.History.{IsLegal, left}
use Rattle.rom_model.specs.Seen.{done_in}
use Rattle.rom_model.specs.declared.call.Updated.{Updated}
use Rattle.rom_model.specs.declared.call.Updated.TheVariants.{Done, Spent, Failed, Doubt}
use Rattle.rom_model.specs.declared.entry.Entry.{Entry}
use Rattle.rom_model.specs.declared.record.Found.{Found}
use Rattle.rom_follow.specs.Following.{AreTries, update_of}

-- the calls that were done are the history's first ones
pub done_args : (es : List Entry) (xs : List (Found × Updated (List ℕ))) → AreTries es xs → map (λ x. x.1.args) (done_in xs) ≡ map (λ e. e.args) (take (length (done_in xs)) es)
done_args es [] tries = refl
done_args [] (x ∷ xs) tries = absurd tries
done_args (e ∷ es) ((f, Done reply place) ∷ xs) tries = λ i. tries.0 i ∷ done_args es xs tries.1 i
done_args (e ∷ es) ((f, Spent) ∷ xs) tries = done_args (e ∷ es) xs tries.1
done_args (e ∷ es) ((f, Failed) ∷ xs) tries = done_args (e ∷ es) xs tries.1
done_args (e ∷ es) ((f, Doubt) ∷ xs) tries = done_args (e ∷ es) xs tries.1

one_reply : {S : Type 0} (o : Option (S × List ℕ)) (a b : List ℕ) → IsSomeAnd o (λ d. a ≡ d.1) → IsSomeAnd o (λ d. b ≡ d.1) → a ≡ b
one_reply (Some d) a b first second = first ∙ sym second
one_reply None a b first second = absurd first

-- two legal histories of the same calls have the same replies
pub same_replies : {S : Type 0} (step : ℕ → S → ℕ → List ℕ → Option (S × List ℕ)) (order : ℕ) (s : S) (k : ℕ) (es fs : List Entry) → IsLegal step order s k es → IsLegal step order s k fs → map (λ e. e.args) es ≡ map (λ e. e.args) fs → map update_of es ≡ map update_of fs
same_replies step order s k [] [] legal legal' same = refl
same_replies step order s k [] (f ∷ fs) legal legal' same = cc
same_replies step order s k (e ∷ es) [] legal legal' same = cc
same_replies step order s k (e ∷ es) (f ∷ fs) legal legal' same =
    let args : e.args ≡ f.args = cc in
    let rest : map (λ x. x.args) es ≡ map (λ x. x.args) fs = cc in
    let there : IsSomeAnd (step order s k f.args) (λ d. e.reply ≡ d.1) = subst (λ (a : List ℕ). IsSomeAnd (step order s k a) (λ d. e.reply ≡ d.1)) args legal.0 in
    let reply : e.reply ≡ f.reply = one_reply (step order s k f.args) e.reply f.reply there legal'.0 in
    let more : IsLegal step order (left s (step order s k f.args)) (k + 1) es = subst (λ (a : List ℕ). IsLegal step order (left s (step order s k a)) (k + 1) es) args legal.1 in
    λ i. (args i, reply i) ∷ same_replies step order (left s (step order s k f.args)) (k + 1) es fs more legal'.1 rest i

-- what is tried is the entry behind those that are done
abbrev pub IsNext : List Entry → ℕ → Found → Type 0
IsNext es n f = (e : Entry) × (rest : List Entry) × (drop n es ≡ e ∷ rest) × (f.args ≡ e.args)

pub tried_next : (es : List Entry) (xs : List (Found × Updated (List ℕ))) (f : Found) (ys : List (Found × Updated (List ℕ))) → AreTries es (xs ++ (f, Doubt) ∷ ys) → IsNext es (length (done_in xs)) f
tried_next [] [] f ys tries = absurd tries
tried_next [] (x ∷ xs) f ys tries = absurd tries
tried_next (e ∷ es) [] f ys tries = (e, es, refl, tries.0)
tried_next (e ∷ es) ((g, Done reply place) ∷ xs) f ys tries = tried_next es xs f ys tries.1
tried_next (e ∷ es) ((g, Spent) ∷ xs) f ys tries = tried_next (e ∷ es) xs f ys tries.1
tried_next (e ∷ es) ((g, Failed) ∷ xs) f ys tries = tried_next (e ∷ es) xs f ys tries.1
tried_next (e ∷ es) ((g, Doubt) ∷ xs) f ys tries = tried_next (e ∷ es) xs f ys tries.1
