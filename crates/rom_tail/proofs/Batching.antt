-- What a batch of calls did to a heap, as the frames' calls see it.
use Rattle.std.proofs.Common.{◌≡◌, ◌≢◌, ℕ, ◌+◌, ◌<◌, ◌≤◌, List, [], ◌∷◌, length, map, take, refl, sym, ap, ◌∙◌, subst, arith, inl, inr, append-nil, length-append}
use Rattle.std.proofs.lemmas.List.{length-map, length-take, take_all}
use Rattle.rom_combine.proofs.Limits.{batch_fits}
use Rattle.rom_combine.specs.AtRest.{Locked}
use Rattle.rom_combine.specs.Told.{fate_of}
use Rattle.rom_combine.specs.declared.passed.Outcome.{Outcome}
use Rattle.rom_combine.specs.declared.passed.Outcome.TheVariants as outcome
use Rattle.rom_combine.specs.declared.passed.Passed.{Passed}
use Rattle.rom_device.specs.Device.{ShownDevice}
use Rattle.rom_model.proofs.Recorded.{added_legal, legal_append}
use Rattle.rom_model.specs.History.{IsLegal, LAST_COUNT, after, batch}
use Rattle.rom_model.specs.Machine.{on_words}
use Rattle.rom_model.specs.Passes.{published}
use Rattle.rom_model.specs.Region.{Contents}
use Rattle.rom_model.specs.State.{State}
use Rattle.rom_model.specs.Trio.{trio}
use Rattle.rom_model.specs.declared.entry.Entry.{Entry}
use Rattle.rom_model.specs.declared.record.Fate.{Fate}
use Rattle.rom_model.specs.declared.record.Fate.TheVariants.{Published, Failed, Doubt}
use Rattle.rom_model.specs.declared.record.Found.{Found}
use Rattle.rom_rule.specs.Views.{plan_of, records_of}
use Rattle.rom_rule.specs.declared.views.Base.{Base}
use Rattle.rom_rule.specs.declared.views.View.{View}
use Rattle.rom_store.specs.Lone.{HasDoneCalls, args_in, reply_of}
use Rattle.rom_replica.specs.declared.stop.Stop.TheVariants as stops
use Rattle.rom_tail.specs.Chased.{DoesBatch, HasDone, IsChaser, chased}

-- the replies of what is done are at hand
replies_there : (more : List Entry) (replies : List (List ℕ)) → (0 < length more → replies ≡ map reply_of more) → (length more ≤ length replies) × (map reply_of more ≡ take (length more) replies)
replies_there [] replies are = (omega arith, refl)
replies_there (e ∷ more) replies are =
    let here : replies ≡ map reply_of (e ∷ more) = are (omega arith) in
    let long : length replies ≡ length (e ∷ more) = ap length here ∙ length-map (e ∷ more) reply_of in
    (omega (arith, long), sym here ∙ sym (take_all (length (e ∷ more)) replies (omega (arith, long))))

-- what is published of a batch stays within the limit
published_fits : (order : ℕ) (s : State) (k : ℕ) (fate : Fate) (fs : List Found) → k ≤ LAST_COUNT → k + length (published fate (batch (on_words trio) order s k fs)) ≤ LAST_COUNT
published_fits order s k Published fs low = batch_fits (on_words trio) order s k fs low
published_fits order s k Failed fs low = omega (arith, low)
published_fits order s k Doubt fs low = omega (arith, low)

-- a pass that was not published adds nothing
none_added : (o : Outcome) (es : List Entry) → o ≢ outcome.Nothing → o ≢ outcome.Published → (fate_of o ≢ Published) × (published (fate_of o) es ≡ [])
none_added outcome.Nothing es some not = absurd (some refl)
none_added outcome.Published es some not = absurd (not refl)
none_added outcome.Failed es some not = (λ is. cc, refl)
none_added outcome.Doubt es some not = (λ is. cc, refl)

module _ (base : Base) (many turns count : ℕ) (was : View) (inv : IsChaser base was.base many turns (chased count was)) where
  -- where no batch was asked for
  pub unasked : (replies calls : List (List ℕ)) → LAST_COUNT ≤ turns → DoesBatch calls (chased count was) (chased (count + 0) was) replies 0 stops.Spent
  unasked replies calls spent = record {
    more = [];
    passes = [];
    batch = record {
      done_is = refl;
      fits = omega arith;
      told = omega arith;
      history = sym (append-nil (plan_of was).history);
      records = sym (append-nil (records_of (plan_of was)));
      one = omega arith;
      count_is = refl;
      args = refl;
      replies_are = refl;
      found = tt;
      ends = (tt, λ few. inr (omega (arith, spent, inv.turns_are), refl));
    };
  }

  pub still : IsChaser base was.base many turns (chased (count + 0) was)
  still = subst (λ (n : ℕ). IsChaser base was.base many turns (chased n was)) (let same : count ≡ count + 0 = omega arith in same) inv

module _ {D : Type 0} (shown : ShownDevice D) (base : Base) (many turns count : ℕ) (old new : Locked D) (calls replies : List (List ℕ)) (r : Passed)
    (inv : IsChaser base old.view.base many turns (chased count old.view)) (d : HasDoneCalls shown Contents (on_words trio) old new calls replies r) where
  abbrev had : List Entry
  had = (plan_of old.view).history

  steps : (s : State) (k : ℕ) → Contents base.order base.image s k → d.more ≡ published d.pass.fate (batch (on_words trio) base.order (after (on_words trio) base.order s k had) (k + length had) d.pass.found)
  steps s k held =
      d.steps s k (subst (λ (b : Base). Contents b.order b.image s k) (sym inv.own_is) held)
      ∙ (λ i. published d.pass.fate (batch (on_words trio) (inv.own_is i).order (after (on_words trio) (inv.own_is i).order s k had) (k + length had) d.pass.found))

  has_done : (n : ℕ) → n ≡ length d.more → (s : State) (k : ℕ) → Contents base.order base.image s k → HasDone base.order s k (chased (count + n) new.view)
  has_done n is s k held =
      let before = inv.done s k held in
      let there = steps s k held in
      let fits = published_fits base.order (after (on_words trio) base.order s k had) (k + length had) d.pass.fate d.pass.found (omega (arith, before.count_is, before.within)) in
      record {
        legal = subst (IsLegal (on_words trio) base.order s k) (sym d.history)
            (legal_append (on_words trio) base.order s k had d.more before.legal
            (subst (IsLegal (on_words trio) base.order (after (on_words trio) base.order s k had) (k + length had)) (sym there)
            (added_legal (on_words trio) base.order (after (on_words trio) base.order s k had) (k + length had) d.pass.fate d.pass.found)));
        count_is = omega (arith, before.count_is, is, ap length d.history, length-append had d.more);
        within = omega (arith, before.count_is, is, ap length there, fits);
      }

  pub keeps : (n many' turns' : ℕ) → n ≡ length d.more → new.view.base ≡ old.view.base → many' ≡ many → turns' ≡ turns + 1 → IsChaser base new.view.base many' turns' (chased (count + n) new.view)
  keeps n many' turns' is same as_many next = record {
    own_is = same ∙ inv.own_is;
    many_is = as_many ∙ inv.many_is;
    turns_are = omega (arith, next, inv.turns_are, ap length d.records, length-append (records_of (plan_of old.view)) (d.pass ∷ []));
    formed = inv.formed;
    done = has_done n is;
  }

  fits : length d.more ≤ length calls
  fits = omega (arith, ap length d.args, length-map d.more args_in, length-take (length d.more) calls)

  -- where it was published
  pub published_batch : r.outcome ≡ outcome.Published → DoesBatch calls (chased count old.view) (chased (count + r.done) new.view) replies r.done stops.Spent
  published_batch is =
      let told = replies_there d.more replies d.replies_are in
      let fate : d.pass.fate ≡ Published = d.fate_is ∙ ap fate_of is in
      record {
        more = d.more;
        passes = d.pass ∷ [];
        batch = record {
          done_is = d.done;
          fits = omega (arith, d.done, fits);
          told = omega (arith, d.done, told.0);
          history = d.history;
          records = d.records;
          one = omega arith;
          count_is = refl;
          args = d.args ∙ ap (λ (n : ℕ). take n calls) (sym d.done);
          replies_are = told.1 ∙ ap (λ (n : ℕ). take n replies) (sym d.done);
          found = (d.found, tt);
          ends = (
            (fate, tt),
            λ few.
                let s = inv.formed.0 in
                let k = inv.formed.1 in
                let held = inv.formed.2 in
                let before = inv.done s k held in
                let behind = has_done r.done d.done s k held in
                let limit = d.limit s k (subst (λ (b : Base). Contents b.order b.image s k) (sym inv.own_is) held) (omega (arith, before.count_is, before.within)) fate few in
                inl (omega (arith, behind.count_is, limit)),
          );
        };
      }

  -- and where it was not, which adds nothing
  none_done : r.outcome ≢ outcome.Published → d.more ≡ []
  none_done not =
      let s = inv.formed.0 in
      let k = inv.formed.1 in
      steps s k inv.formed.2 ∙ ap (λ (f : Fate). published f (batch (on_words trio) base.order (after (on_words trio) base.order s k had) (k + length had) d.pass.found)) d.fate_is
      ∙ (none_added r.outcome _ d.some not).1

  pub failed_batch : r.outcome ≢ outcome.Published → DoesBatch calls (chased count old.view) (chased (count + 0) new.view) replies 0 stops.DeviceFailed
  failed_batch not =
      let none = none_done not in
      record {
        more = d.more;
        passes = d.pass ∷ [];
        batch = record {
          done_is = sym (ap length none);
          fits = omega arith;
          told = omega arith;
          history = d.history;
          records = d.records;
          one = omega arith;
          count_is = refl;
          args = ap (map args_in) none;
          replies_are = ap (map reply_of) none;
          found = (d.found, tt);
          ends = (
            record { earlier = []; pass = d.pass; last = refl; published = tt; fate = λ is. (none_added r.outcome [] d.some not).0 (sym d.fate_is ∙ is); found = d.found; len_is = d.len_is },
            none,
          );
        };
      }

  pub failed_keeps : (many' turns' : ℕ) → r.outcome ≢ outcome.Published → new.view.base ≡ old.view.base → many' ≡ many → turns' ≡ turns + 1 → IsChaser base new.view.base many' turns' (chased (count + 0) new.view)
  failed_keeps many' turns' not = keeps 0 many' turns' (sym (ap length (none_done not)))
