-- From what each caller has, in the order of the scripts, to all callers.
use Rattle.std.proofs.Common.{◌≡◌, ℕ, suc, ◌+◌, ◌-◌, ◌<◌, List, [], ◌∷◌, ◌++◌, map, length, refl, sym, ap, ◌∙◌, subst, arith, Some, option_map, get_or}
use Rattle.std.specs.Prelude.{slice_get, unwrap_or}
use Rattle.std.proofs.lemmas.Option.{slice_get_within, slice_get-map, slice_get-get_or}
use Rattle.atomic_table.specs.Seated.{TableId}
use Rattle.rom_model.specs.declared.line.Step.{Step}
use Rattle.rom_model.specs.declared.line.LineResult.{LineResult}
use Rattle.rom_model.specs.Machine.{Machine}
use Rattle.rom_model.specs.declared.kept.Kept.{Kept}
use Rattle.rom_model.specs.Story.{Story}
use Rattle.rom_model.specs.Heard.{HasHeard}
use Rattle.rom_model.specs.Leaving.{IsKept, HasLeft, HaveLeft}
use Rattle.rom_lines.specs.Replies.{Reserved}
use Rattle.rom_rule.specs.declared.views.Base.{Base}
use Rattle.rom_store.specs.Indexed.{Indexed, Both}
use Rattle.rom_store.specs.Callers.{Caller, IsCallerOf, IsNumberedCaller}
use Rattle.rom_store.specs.Closing.{joined_of, kept_in}
use Rattle.rom_store.specs.Working.{IsNext, IsPast, HasDoneLines, script_of}

module _ {S C Q R A : Type 0} (m : Machine S C Q R A) (Contents : ℕ → List ℕ → S → ℕ → Type 0) (table : TableId) (base : Base) (scripts : List (List (Step C Q))) where
  -- the jobs after their work, from the jobs before it
  pub all_past : {J : Type 0} (pass : J → Caller) (results : J → Reserved (LineResult R A)) (olds news : List J) → length news ≡ length olds →
      Indexed (λ j job. IsNext Contents m.call_words table base scripts j (pass job) (results job)) olds →
      ((i : ℕ) (b : J) → slice_get news i ≡ Some b → IsCallerOf Contents table base (pass b)) →
      ((i : ℕ) (a b : J) → slice_get olds i ≡ Some a → slice_get news i ≡ Some b → (pass b).view.number ≡ (pass a).view.number) →
      ((i : ℕ) (a b : J) → slice_get olds i ≡ Some a → slice_get news i ≡ Some b → HasDoneLines m Contents base (pass b) (script_of scripts (pass a).view.number) (results b).items) →
      Indexed (λ j job. IsPast m Contents base table scripts j (pass job) (results job).items) news
  all_past {J} pass results olds news many next of number done = record {
    at = λ i b now.
        let lt : i < length olds = omega (arith, slice_get_within news i b now, many) in
        let a : J = get_or olds i b in
        let was : slice_get olds i ≡ Some a = slice_get-get_or olds i b lt in
        let same : (pass b).view.number ≡ (pass a).view.number = number i a b was now in
        let place : (pass a).view.number + i ≡ length scripts = (next.at i a was).place in
        record { of = of i b now; place = omega arith; done = subst (λ n. HasDoneLines m Contents base (pass b) (script_of scripts n) (results b).items) (sym same) (done i a b was now) };
  }

  script_at : (i : ℕ) (ls : List (Step C Q)) → slice_get scripts i ≡ Some ls → script_of scripts (i + 1) ≡ ls
  script_at i ls at = ap (λ z. unwrap_or (slice_get scripts z) []) (let back : i + 1 - 1 ≡ i = omega arith in back) ∙ ap (λ o. unwrap_or o []) at

  module _ (story : Story S) {T : Type 0} (told_by : T → List (LineResult R A)) where
    go : (n : ℕ) (ps : List Caller) (ls : List (List (Step C Q))) (ts : List T) → length ps ≡ length ls → length ts ≡ length ls →
        ((i : ℕ) (p : Caller) (l : List (Step C Q)) (t : T) → slice_get ps i ≡ Some p → slice_get ls i ≡ Some l → slice_get ts i ≡ Some t → HasLeft m story (n + i) (kept_in p) l (told_by t)) →
        HaveLeft m story n (map kept_in ps) ls (map told_by ts)
    go n [] [] [] many told each = tt
    go n (p ∷ ps) (l ∷ ls) (t ∷ ts) many told each = (
      subst (λ z. HasLeft m story z (kept_in p) l (told_by t)) (let here : n + 0 ≡ n = omega arith in here) (each 0 p l t refl refl refl),
      go (n + 1) ps ls ts (omega arith) (omega arith) (λ i q k u at there then. subst (λ z. HasLeft m story z (kept_in q) k (told_by u)) (let on : n + suc i ≡ n + 1 + i = omega arith in on) (each (suc i) q k u at there then)),
    )
    go n [] (l ∷ ls) ts many told each = absurd (omega arith)
    go n (p ∷ ps) [] ts many told each = absurd (omega arith)
    go n [] [] (t ∷ ts) many told each = absurd (omega arith)
    go n (p ∷ ps) (l ∷ ls) [] many told each = absurd (omega arith)

    pub all_left : (ps : List Caller) (ts : List T) → length ps ≡ length scripts → length ts ≡ length scripts → Contents base.order base.image story.opening story.opening_count → story.order ≡ base.order →
        Indexed (IsNumberedCaller Contents table base) ps → Both (λ i pass t. HasDoneLines m Contents base pass (script_of scripts (i + 1)) (told_by t)) ps ts → Indexed (λ i v. IsKept m story v) (map kept_in ps) → HaveLeft m story 1 (map kept_in ps) scripts (map told_by ts)
    all_left ps ts many told at order numbered done kept = go 1 ps scripts ts many told (λ i p l t here there then. record {
      number = (numbered.at i p here).number ∙ (let one : i + 1 ≡ 1 + i = omega arith in one);
      heard = subst (λ (z : ℕ × List (Step C Q)). HasHeard m z.0 story.opening story.opening_count (kept_in p) z.1 (told_by t)) (λ j. (sym order j, script_at i l there j)) ((done.at i p t here then).heard story.opening story.opening_count at);
      kept = kept.at i (kept_in p) (slice_get-map kept_in ps i ∙ ap (option_map kept_in) here);
    })

-- what the writer takes in of callers who have learnt of nobody is what they keep
pub joined_alone : {T : Type 0} (P : ℕ → Caller → T → Type 0) → ((i : ℕ) (p : Caller) (t : T) → P i p t → p.view.joined ≡ []) → (ps : List Caller) (ts : List T) → length ts ≡ length ps → Both P ps ts → joined_of ps ≡ map kept_in ps
joined_alone P alone [] ts many all = refl
joined_alone P alone (p ∷ ps) [] many all = absurd (omega arith)
joined_alone P alone (p ∷ ps) (t ∷ ts) many all =
    let none : p.view.joined ≡ [] = alone 0 p t (all.at 0 p t refl refl) in
    let rest : joined_of ps ≡ map kept_in ps = joined_alone (λ i. P (suc i)) (λ i q u is. alone (suc i) q u is) ps ts (omega arith) (record { at = λ i q u here there. all.at (suc i) q u here there }) in
    ap (λ (zs : List Kept). kept_in p ∷ zs ++ joined_of ps) none ∙ ap (λ (zs : List Kept). kept_in p ∷ zs) rest
