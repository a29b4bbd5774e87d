-- The passes that a device went through stay so where the history grows, and one more follows.
use Rattle.std.proofs.Common.{◌≡◌, inl, inr, ⊎_elim, ℕ, ◌+◌, ◌-◌, ◌≤◌, List, [], ◌∷◌, ◌++◌, length, take, Option, refl, sym, ap, ◌∙◌, subst, arith}
use Rattle.std.proofs.lemmas.List.{take-append-le}
use Rattle.rom_model.specs.History.{after, batch}
use Rattle.rom_model.specs.Story.{Story, len_after, state_at}
use Rattle.rom_model.specs.declared.entry.Entry.{Entry}
use Rattle.rom_model.specs.declared.record.Fate.{Fate}
use Rattle.rom_model.specs.declared.record.Fate.TheVariants as fate
use Rattle.rom_model.specs.declared.record.PassRecord.{PassRecord}
use Rattle.rom_device.specs.Device.{ShownDevice}
use Rattle.rom_device.proofs.Going.{becomes_by}
use Rattle.rom_twin.specs.declared.phase.Phase.{Phase}
use Rattle.rom_combine.specs.Images.{HoldsIn}
use Rattle.rom_combine.specs.Session.{HoldsAfter}
use Rattle.rom_rule.specs.declared.views.Base.{Base}
use Rattle.rom_rule.specs.declared.views.Plan.{Plan}
use Rattle.rom_store.specs.Held.{story_at}
use Rattle.rom_store.specs.Traced.{ArePassesOn, HasPassCause, IsPassOn, MayMake, PassImage, WentThrough}

-- Where a history goes on, the states so far are the same.
pub state_stays : {S : Type 0} (step : ℕ → S → ℕ → List ℕ → Option (S × List ℕ)) (b : Base) (s : S) (k : ℕ) (p q : Plan) (more : List Entry) → q.history ≡ p.history ++ more → (len : ℕ) → len ≤ length p.history
    → state_at step (story_at b s k p) (k + len) ≡ state_at step (story_at b s k q) (k + len)
state_stays step b s k p q more history len reached = ap (λ (l : List Entry). after step b.order s k l)
    (sym (take-append-le (k + len - k) p.history more (omega (arith, reached))) ∙ ap (λ (l : List Entry). take (k + len - k) l) (sym history))

module _ {D S : Type 0} (shown : ShownDevice D) (Contents : ℕ → List ℕ → S → ℕ → Type 0) (step : ℕ → S → ℕ → List ℕ → Option (S × List ℕ)) where
  -- Of two stories with the same states so far, of which the second has at least as long a history:
  module _ (x : Story S) (history : List Entry) (records : List PassRecord) (in_doubt : Option (List Entry)) (long : length x.history ≤ length history) where
    abbrev On : Story S
    On = record x { history = history; records = records; in_doubt = in_doubt }

    module _ (same : (len : ℕ) → len ≤ length x.history → state_at step x (x.opening_count + len) ≡ state_at step On (x.opening_count + len)) where
      held_stays : (len : ℕ) → len ≤ length x.history → (i : List ℕ) → HoldsAfter Contents step x len [] i → HoldsAfter Contents step On len [] i
      held_stays len reached i = subst (λ (y : S). HoldsIn Contents x.order y (x.opening_count + len + 0) i) (same len reached)

      made_stays : (f : Fate) (r : PassRecord) → r.len ≤ length x.history → (i : List ℕ) → MayMake shown Contents step x f r i → MayMake shown Contents step On f r i
      made_stays fate.Published r reached i holds = held_stays r.len reached i holds
      made_stays fate.Failed r reached i none = none
      made_stays fate.Doubt r reached i holds = subst (λ (y : S). let n = x.opening_count + r.len in let l = batch step x.order y n r.found in HoldsIn Contents x.order (after step x.order y n l) (n + length l) i) (same r.len reached) holds

      cause_stays : (f : Fate) (at : Phase) (region : List ℕ) (was now : D) → HasPassCause shown Contents step x f at region was now → HasPassCause shown Contents step On f at region was now
      cause_stays fate.Published at region was now none = tt
      cause_stays fate.Failed at region was now why = why
      cause_stays fate.Doubt at region was now why = why

      pass_stays : (len : ℕ) (r : PassRecord) (was now : D) → IsPassOn shown Contents step x len r was now → IsPassOn shown Contents step On len r was now
      pass_stays len r was now of = record {
        before = of.before;
        after = of.after;
        phase = of.phase;
        region = of.region;
        began = of.began;
        needed = of.needed;
        cause = cause_stays r.fate of.phase of.region was now of.cause;
        unread = of.unread;
        most = of.most;
        reached = (omega (arith, of.reached.0, long), omega (arith, of.reached.1, long));
        risen = of.risen;
        mid = of.mid;
        images = λ told. becomes_by shown (PassImage shown Contents step x len r) (PassImage shown Contents step On len r)
            (λ i made. ⊎_elim (λ holds. inl (held_stays len of.reached.0 i holds)) (λ by. inr (made_stays r.fate r of.reached.1 i by)) made) was of.mid (of.images told);
        since = λ told. becomes_by shown (HoldsAfter Contents step x r.len []) (HoldsAfter Contents step On r.len []) (held_stays r.len of.reached.1) of.mid now (of.since told);
        soon = of.soon;
        dated = of.dated;
        certain = λ told grew i left. held_stays r.len of.reached.1 i (of.certain told grew i left);
      }

      -- the passes of the first are passes of the second
      pub passes_stay : (len : ℕ) (rs : List PassRecord) (was now : D) → ArePassesOn shown Contents step x len rs was now → ArePassesOn shown Contents step On len rs was now
      passes_stay len [] was now none = none
      passes_stay len (r ∷ rs) was now (next, of, on) = (next, pass_stays len r was next of, passes_stay r.len rs next now on)

  -- one more pass
  pub passes_on : (story : Story S) (len : ℕ) (rs : List PassRecord) (r : PassRecord) (was mid now : D) → ArePassesOn shown Contents step story len rs was mid → IsPassOn shown Contents step story (len_after len rs) r mid now
      → ArePassesOn shown Contents step story len (rs ++ r ∷ []) was now
  passes_on story len [] r was mid now same of = (now, subst (λ (d : D). IsPassOn shown Contents step story len r d now) same of, refl)
  passes_on story len (x ∷ rs) r was mid now (next, first, on) of = (next, first, passes_on story x.len rs r next mid now on of)

  -- none is made before the first record
  pub went_none : (story : Story S) (First : D → Type 0) (now : D) → story.records ≡ [] → First now → WentThrough shown Contents step story First now
  went_none story First now none begun = record { first = now; begun = begun; passes = subst (λ (rs : List PassRecord). ArePassesOn shown Contents step story 0 rs now now) (sym none) refl }

  -- what is in doubt at the end changes none of them
  pub went_doubt : (story : Story S) (in_doubt : Option (List Entry)) (First : D → Type 0) (now : D) → WentThrough shown Contents step story First now → WentThrough shown Contents step (record story { in_doubt = in_doubt }) First now
  went_doubt story in_doubt First now was = record {
    first = was.first;
    begun = was.begun;
    passes = passes_stay story story.history story.records in_doubt (omega arith) (λ len reached. refl) 0 story.records was.first now was.passes;
  }

  -- what is known of the device before the first of them
  pub went_since : (story : Story S) (First Second : D → Type 0) (now : D) → ((d : D) → First d → Second d) → WentThrough shown Contents step story First now → WentThrough shown Contents step story Second now
  went_since story First Second now weaker went = record { first = went.first; begun = weaker went.first went.begun; passes = went.passes }
