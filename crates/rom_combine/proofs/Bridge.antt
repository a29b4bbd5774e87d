-- From the images of a batch to the published list
use Rattle.std.proofs.Common.{◌≡◌, ◌≢◌, ◌⊎◌, inl, inr, ⊎_elim, ℕ, ◌+◌, List, ◌++◌, map, length, sym, subst, arith, Option}
use Rattle.std.proofs.lemmas.List.{take_all}
use Rattle.rom_device.specs.Device.{Runs, ShownDevice}
use Rattle.rom_header.specs.Regions.{IsCurrentRegion}
use Rattle.rom_device.specs.Device.{Becomes}
use Rattle.rom_combine.proofs.Since.{becomes_by, becomes_then}
use Rattle.rom_twin.specs.declared.phase.Phase.{Phase}
use Rattle.rom_twin.specs.declared.phase.Phase.TheVariants as phase
use Rattle.rom_combine.specs.Images.{Counting, Committable, MayPublish}
use Rattle.rom_model.specs.declared.entry.Entry.{Entry}
use Rattle.rom_model.specs.declared.record.Fate.{Fate}
use Rattle.rom_model.specs.History.{after, batch}
use Rattle.rom_rule.specs.declared.views.Base.{Base}
use Rattle.rom_rule.specs.declared.views.Plan.{Plan}
use Rattle.rom_rule.specs.Calls.{found_of}
use Rattle.rom_rule.specs.Readers.{Held}
use Rattle.rom_rule.proofs.Told.{length_map}
use Rattle.rom_combine.specs.declared.answering.CallAnswer.{CallAnswer}
use Rattle.rom_combine.specs.Applying.{IsApplied}
use Rattle.rom_combine.specs.Histories.{HoldsHistory, IsCertainSince, PassMakes, batch_found}

module _ {S : Type 0} (Contents : ℕ → List ℕ → S → ℕ → Type 0) (step : ℕ → S → ℕ → List ℕ → Option (S × List ℕ)) (b : Base) (s : S) (n : ℕ) where
  pub all_held : (t : S) (k : ℕ) (p : Plan) (main : List ℕ) (i : ℕ) (given : List CallAnswer) → (s ≡ t) × (n ≡ k) → i ≡ length p.requests → IsApplied Contents step b t k p main i given → Held Contents step b s n main (p.history ++ batch_found Contents step b s n p)
  all_held t k p main i given one long a =
      subst (λ (z : S × ℕ). Held Contents step b z.0 z.1 main (p.history ++ batch step b.order (after step b.order z.0 z.1 p.history) (z.1 + length p.history) (map found_of p.requests))) (λ j. (sym one.0 j, sym one.1 j))
      (subst (λ fs. Held Contents step b t k main (p.history ++ batch step b.order (after step b.order t k p.history) (k + length p.history) fs)) (take_all i (map found_of p.requests) (omega (arith, long, length_map found_of p.requests))) a.held)

  pub same_held : (t : S) (k : ℕ) (history : List Entry) (main : List ℕ) → (s ≡ t) × (n ≡ k) → Held Contents step b t k main history → Held Contents step b s n main history
  same_held t k history main one h = subst (λ (z : S × ℕ). Held Contents step b z.0 z.1 main history) (λ j. (sym one.0 j, sym one.1 j)) h

  module _ {D : Type 0} (shown : ShownDevice D) where
    -- up to the begin
    pub list_before : (f : Fate) (history more : List Entry) (o : ℕ) (w : List ℕ) (x y : D) → o ≡ b.order → Held Contents step b s n w history → Runs shown (Becomes (Counting o w)) x y → Runs shown (Becomes (PassMakes Contents step b s n f history more)) x y
    list_before f history more o w x y is held = becomes_by shown (Counting o w) (PassMakes Contents step b s n f history more) x y (λ i counts. inl (record { region = w; current = subst (λ (z : ℕ). IsCurrentRegion z i w) is counts; contents = held }))

    committable : (f : Fate) (p : Phase) (history more : List Entry) (o : ℕ) (w m : List ℕ) → o ≡ b.order → (p ≢ phase.Undo → MayPublish f) → Held Contents step b s n w history → Held Contents step b s n m (history ++ more)
        → (i : List ℕ) → Committable p o w m i → PassMakes Contents step b s n f history more i
    committable f p history more o w m is may held done i = ⊎_elim (λ counts. inl (record { region = w; current = subst (λ (z : ℕ). IsCurrentRegion z i w) is counts; contents = held }))
        (λ both. inr (may both.0, record { region = m; current = subst (λ (z : ℕ). IsCurrentRegion z i m) is both.1; contents = done }))

    -- up to the commit
    pub list_committed : (f : Fate) (p : Phase) (history more : List Entry) (o : ℕ) (w m : List ℕ) (x y z : D) → o ≡ b.order → (p ≢ phase.Undo → MayPublish f) → Held Contents step b s n w history → Held Contents step b s n m (history ++ more)
        → Runs shown (Becomes (Counting o w)) x y → Runs shown (Becomes (Committable p o w m)) y z → Runs shown (Becomes (PassMakes Contents step b s n f history more)) x z
    list_committed f p history more o w m x y z is may held done first second = becomes_then shown (PassMakes Contents step b s n f history more) x y z (list_before f history more o w x y is held first)
        (becomes_by shown (Committable p o w m) (PassMakes Contents step b s n f history more) y z (committable f p history more o w m is may held done) second)

    -- and to the end
    pub list_settled : (f : Fate) (history more : List Entry) (o : ℕ) (m : List ℕ) (x y z : D) → o ≡ b.order → MayPublish f → Held Contents step b s n m (history ++ more)
        → Runs shown (Becomes (PassMakes Contents step b s n f history more)) x y → Runs shown (Becomes (Counting o m)) y z → Runs shown (Becomes (PassMakes Contents step b s n f history more)) x z
    list_settled f history more o m x y z is may done first second = becomes_then shown (PassMakes Contents step b s n f history more) x y z first
        (becomes_by shown (Counting o m) (PassMakes Contents step b s n f history more) y z (λ i counts. inr (may, record { region = m; current = subst (λ (w : ℕ). IsCurrentRegion w i m) is counts; contents = done })) second)

    -- where from the middle on that region counts
    pub list_certain : (f : Fate) (history more : List Entry) (o : ℕ) (m : List ℕ) (x y z : D) → o ≡ b.order → Held Contents step b s n m (history ++ more) → Runs shown (Becomes (PassMakes Contents step b s n f history more)) x y
        → ((i : List ℕ) → shown.leaves y i → Counting o m i) → Runs shown (Becomes (Counting o m)) y z → IsCertainSince Contents step b s n shown history (history ++ more) x y z
    list_certain f history more o m x y z is done first counts second = record {
      until = becomes_by shown (PassMakes Contents step b s n f history more) (λ i. HoldsHistory Contents step b s n history i ⊎ HoldsHistory Contents step b s n (history ++ more) i) x y (λ i. ⊎_elim (λ before. inl before) (λ by. inr by.1)) first;
      certain = λ i left. holds i (counts i left);
      since = becomes_by shown (Counting o m) (HoldsHistory Contents step b s n (history ++ more)) y z holds second;
    }
      where
        holds : (i : List ℕ) → Counting o m i → HoldsHistory Contents step b s n (history ++ more) i
        holds i counts = record { region = m; current = subst (λ (w : ℕ). IsCurrentRegion w i m) is counts; contents = done }
