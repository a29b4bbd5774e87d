-- The writer's stores of `side`, and the record of a pass, keep the rule.
use Rattle.std.proofs.Common.{◌≡◌, ℕ, ◌+◌, ◌≤◌, List, [], ◌∷◌, ◌++◌, map, length, set, sym, refl, ap, ◌∙◌, subst, arith, Option, append-nil, length-append, length-set, false}
use Rattle.atomic_table.specs.Table.{State, Me, step, keeps, Allows}
use mathlib.Core.Option.{none}
use Rattle.std.specs.List.{AllByRecursion}
use Rattle.rom_model.specs.declared.entry.Entry.{Entry}
use Rattle.rom_model.specs.declared.record.Fate.{Fate}
use Rattle.rom_model.specs.declared.record.Fate.TheVariants.{Published, Failed, Doubt}
use Rattle.rom_model.specs.declared.record.Found.{Found}
use Rattle.rom_model.specs.declared.record.PassRecord.{PassRecord}
use Rattle.rom_model.specs.History.{after, batch}
use Rattle.rom_model.specs.Passes.{published, fate_told, HasFault, AreRising}
use Rattle.rom_model.specs.Passes.{faults_after}
use Rattle.rom_rule.specs.Calls.{Announced, IsWhole, found_of}
use Rattle.rom_rule.specs.Kinds.{CanSwitchToBack, CanSwitchToMain, IsBatch, MayRaise, TellsEach, making, planned, raising, record_list, switched, switched_to_back, switched_to_main, with_faults_after}
use Rattle.rom_rule.specs.Places.{Shown, shown, side_at}
use Rattle.rom_rule.specs.Readers.{Held, IsWritten}
use Rattle.rom_rule.specs.Records.{IsCall, IsDated, IsRecordedFront, Recorded, Remembers}
use Rattle.rom_rule.specs.Rule.{IsRuled}
use Rattle.rom_rule.specs.Views.{Book, Each, IsWriter, PlanCalls, Remembered, Told, book_in, calls_in, is_made, plan_calls, plan_of, records_of}
use Rattle.rom_rule.specs.declared.views.Base.{Base}
use Rattle.rom_rule.specs.declared.views.Plan.{Plan}
use Rattle.rom_rule.specs.declared.views.Request.{Request}
use Rattle.rom_rule.specs.declared.views.View.{View}
use Rattle.rom_rule.proofs.Parts.{shown_side}
use Rattle.rom_rule.proofs.Told.{starts_longer}
use Rattle.rom_rule.proofs.Recording.{makes, calls_found, tells_each}
use Rattle.rom_rule.proofs.Books.{rising, remembers_on, front_longer, front_raised, book_more, book_raised}
use Rattle.rom_rule.proofs.Dated.{dated_longer, dated_raised}
use Rattle.rom_rule.proofs.Writes.{AnnouncedWith, plan_is, base_is, announced_with, writer_step, not_clear, same_view}

module _ {S : Type 0} (Contents : ℕ → List ℕ → S → ℕ → Type 0) (go : ℕ → S → ℕ → List ℕ → Option (S × List ℕ)) (b : Base) where
  abbrev St : Type 0
  St = State ℕ View

  abbrev M : Type 0
  M = Me ℕ View

  abbrev R : St → Type 0
  R = IsRuled Contents go b

  abbrev after_step : St → List ℕ → ℕ → View → St
  after_step s ws id w = record { words = ws; homes = s.homes; views = set s.views id w }

  -- The pass gets its record.
  pub record IsMade (s : St) (r : R s) (fate : Fate) (k : ℕ) (more : List Entry) (q : Plan) : Type 0 where
    pub remembers : (m : Remembered) → Remembers r.count (book_in r.plan) m → Remembers r.count (book_in q) m
    pub recorded : Recorded go b r.start r.count (book_in q)
    pub announced : AnnouncedWith Contents go b q s r (shown b s.words).slots (map calls_in s.views)
    pub tells : TellsEach fate k more r.plan

  nothing_added : (fate : Fate) (k : ℕ) (more : List Entry) → more ≡ [] → (published fate more ≡ []) × (fate_told fate k [] more ≡ [])
  nothing_added Published k more e = (e, refl)
  nothing_added Failed k more e = (refl, refl)
  nothing_added Doubt k more e = (refl, refl)

  pub makes_record : (s : St) (r : R s) (fate : Fate) (faults now moment k : ℕ) (more : List Entry) → r.plan.mine ≡ [] → Each (λ _. IsWhole) r.plan.requests → faults_after b.faults r.plan.records ≤ faults → faults ≤ now → HasFault fate faults now
      → k ≡ r.count + length r.plan.history → more ≡ batch go b.order (after go b.order r.start r.count r.plan.history) k (map found_of r.plan.requests) → IsMade s r fate k more (making fate faults now moment k more r.plan)
  makes_record s r fate faults now moment k more none_yet whole from on fault k_is more_is = let p : Plan = r.plan in let q : Plan = making fate faults now moment k more p in let sp : PlanCalls = plan_calls p in let unmade : sp.made ≡ false = ap is_made none_yet in let books = append-nil p.records in
      let before : records_of p ≡ p.records = ap (λ (l : List PassRecord). p.records ++ l) none_yet ∙ append-nil p.records in record {
        remembers = remembers_on r.count (book_in p) (book_in q) (λ l h. starts_longer p.history l (published fate more) h)
            (λ f h. front_longer r.count p.records q.mine f (subst (λ (l : List PassRecord). IsRecordedFront r.count l f) before h))
            (λ len m h. dated_longer p.records q.mine len m (subst (λ (l : List PassRecord). IsDated l len m) before h));
        recorded = new_book (map found_of p.requests) more_is (rising 0 p.scanned p.requests r.announced.requests.scanned)
            (calls_found (IsCall go b) b.callers r.count (shown b s.words).slots sp (map calls_in s.views) r.announced unmade whole)
            (subst (λ (l : List PassRecord). Recorded go b r.start r.count record { history = p.history; records = l; told = p.told }) before r.recorded);
        announced = new_speech p.requests refl;
        tells = tells_each (IsCall go b) b.callers r.count (shown b s.words).slots sp (map calls_in s.views) r.announced fate k more unmade;
      }
    where
      new_book : (found : List Found) → more ≡ batch go b.order (after go b.order r.start r.count r.plan.history) k found → AreRising 0 found → AllByRecursion (λ f. IsCall go b f.args) found
          → Recorded go b r.start r.count record { history = r.plan.history; records = r.plan.records; told = r.plan.told }
          → Recorded go b r.start r.count record { history = r.plan.history ++ published fate more; records = r.plan.records ++ record_list found record { found = found; fate = fate; faults_before = faults; faults_after = now; len = length r.plan.history + length (published fate more); committed = moment }; told = r.plan.told ++ fate_told fate k found more }
      new_book [] e rise calls h = let none_more = nothing_added fate k more e in subst (Recorded go b r.start r.count) (λ i. record {
        history = (sym (append-nil r.plan.history) ∙ ap (λ (l : List Entry). r.plan.history ++ l) (sym none_more.0)) i;
        records = sym (append-nil r.plan.records) i;
        told = (sym (append-nil r.plan.told) ∙ ap (λ (l : List Told). r.plan.told ++ l) (sym none_more.1)) i;
      }) h
      new_book (f ∷ fs) e rise calls h = book_more Contents go b r.start r.count r.plan.history r.plan.records r.plan.told fate (f ∷ fs) faults now moment k more k_is e (omega arith) rise calls from on fault h

      new_speech : (fs : List Request) → r.plan.requests ≡ fs → AnnouncedWith Contents go b (making fate faults now moment k more r.plan) s r (shown b s.words).slots (map calls_in s.views)
      new_speech [] e = let none_more = nothing_added fate k more (more_is ∙ ap (λ (l : List Request). batch go b.order (after go b.order r.start r.count r.plan.history) k (map found_of l)) e) in
          subst (λ (z : PlanCalls). Announced (IsCall go b) b.callers (shown b s.words).slots r.count z (map calls_in s.views)) (λ i. record {
            requests = r.plan.requests;
            scanned = r.plan.scanned;
            made = (ap is_made none_yet ∙ ap (λ (l : List Request). is_made (record_list (map found_of l) record { found = map found_of r.plan.requests; fate = fate; faults_before = faults; faults_after = now; len = length r.plan.history + length (published fate more); committed = moment })) (sym e)) i;
            told = (sym (append-nil r.plan.told) ∙ (ap (λ (l : List Told). r.plan.told ++ l) (sym none_more.1) ∙ ap (λ (l : List Request). r.plan.told ++ fate_told fate k (map found_of l) more) (sym e))) i;
            dealt = r.plan.dealt;
            len = ap length (sym (append-nil r.plan.history) ∙ ap (λ (l : List Entry). r.plan.history ++ l) (sym none_more.0)) i;
          }) r.announced
      new_speech (f ∷ fs) e = subst (λ (z : PlanCalls). Announced (IsCall go b) b.callers (shown b s.words).slots r.count z (map calls_in s.views)) (λ i. record {
        requests = r.plan.requests;
        scanned = r.plan.scanned;
        made = ap (λ (l : List Request). is_made (record_list (map found_of l) record { found = map found_of r.plan.requests; fate = fate; faults_before = faults; faults_after = now; len = length r.plan.history + length (published fate more); committed = moment })) (sym e) i;
        told = r.plan.told ++ fate_told fate k (map found_of r.plan.requests) more;
        dealt = r.plan.dealt;
        len = sym (length-append r.plan.history (published fate more)) i;
      }) (makes (IsCall go b) b.callers r.count (shown b s.words).slots (plan_calls r.plan) (map calls_in s.views) r.announced fate k (length (published fate more)) more (ap is_made none_yet) whole k_is)

  module _ (one : (order : ℕ) (words : List ℕ) (s t : S) (j k : ℕ) → Contents order words s j → Contents order words t k → (s ≡ t) × (j ≡ k)) where
    -- the batch, whichever state and count the image stands for
    pub the_batch : (s : St) (r : R s) (v : View) (p : Plan) (k : ℕ) (more : List Entry) → v.base ≡ b → p ≡ r.plan → k ≡ r.count + length r.plan.history → more ≡ batch go b.order (after go b.order r.start r.count r.plan.history) k (map found_of r.plan.requests) → IsBatch Contents go v.base p k more
    the_batch s r v p k more base same k_is more_is = subst (λ (z : Base × Plan). IsBatch Contents go z.0 z.1 k more) (λ i. (sym base i, sym same i)) (λ t n held. let e = one b.order b.image r.start t r.count n r.opening held in
        (k_is ∙ ap (λ (m : ℕ). m + length r.plan.history) e.1, more_is ∙ (λ i. batch go b.order (after go b.order (e.0 i) (e.1 i) r.plan.history) k (map found_of r.plan.requests))))

    -- the writer stores `side` as main
    pub switches_to_main : (before now moment slots id : ℕ) (me : M) → IsWriter me.0 (plan_of me.0) → CanSwitchToMain Contents go me.0.base (plan_of me.0) before now → Allows R slots id me side_at (λ _. 0) (λ _. switched_to_main Contents go before now moment (step slots side_at 0 0 none) me 0)
    switches_to_main before now moment slots id me writes can s r _ at _ = let v = me.0 in let is = plan_is Contents go b s r id v at writes in let base = base_is Contents go b s r id v at in let p : Plan = r.plan in
        let c : CanSwitchToMain Contents go b p before now = subst (λ (z : Base × Plan). CanSwitchToMain Contents go z.0 z.1 before now) (λ i. (base i, is.0 i)) can in
        let k : ℕ = r.count + length p.history in let more : List Entry = batch go b.order (after go b.order r.start r.count p.history) k (map found_of p.requests) in let q : Plan = switched 0 (making Published before now moment k more p) in
        let m = makes_record s r Published before now moment k more c.unmade c.whole c.from c.on tt refl refl in let e = one b.order b.image c.start r.start c.count r.count c.opening r.opening in let wide = r.wide in let l = r.limits.1 in
        let stands : Held Contents go b r.start r.count p.main (p.history ++ more)
        = subst (λ (z : S × ℕ). Held Contents go b z.0 z.1 p.main (p.history ++ batch go b.order (after go b.order z.0 z.1 p.history) (z.1 + length p.history) (map found_of p.requests))) (λ i. (e.0 i, e.1 i)) c.stands in
        let now_shown = shown_side b s.words 0 (omega arith) in (
          planned v q,
          keeps,
          tt,
          writer_step Contents go b s r id v (planned v q) q (set s.words 0 0) at is.1 refl refl refl refl refl (λ h. h) (length-set s.words 0 0) (omega arith, omega arith) (ap (λ (t : Shown). t.indicators) now_shown)
              (λ _ seen _ h. h)
              (subst (λ (t : Shown). IsWritten Contents go b r.start r.count t q) (sym now_shown) record { side = refl; version = r.written.version; main = r.written.main; back = r.written.back; side_low = omega arith; version_low = r.written.version_low; published = stands })
              (λ j x _. not_clear Contents go b p q x refl)
              m.remembers m.recorded
              (announced_with Contents go b s r id v (planned v q) q (shown b (set s.words 0 0)).slots at refl (subst (λ (t : Shown). AnnouncedWith Contents go b q s r t.slots (map calls_in s.views)) (sym now_shown) m.announced)),
          (k, more, the_batch s r v (plan_of v) k more base is.0 refl refl, subst (TellsEach Published k more) (sym is.0) m.tells, same_view Contents go b me (λ z. switched 0 (making Published before now moment k more z)) p (plan_of v) (sym is.0)),
        )

  -- this pass's record with the count of faults raised
  raises_book : (s : St) (r : R s) (before now : ℕ) → MayRaise before now r.plan.mine → ((m : Remembered) → Remembers r.count (book_in r.plan) m → Remembers r.count (book_in (raising now r.plan)) m) × Recorded go b r.start r.count (book_in (raising now r.plan)) × (plan_calls (raising now r.plan) ≡ plan_calls r.plan)
  raises_book s r before now may = by_mine r.plan.mine may r.recorded
    where
      by_mine : (mine : List PassRecord) → MayRaise before now mine → let old : Book = record { history = r.plan.history; records = r.plan.records ++ mine; told = r.plan.told } in let new : Book = record { history = r.plan.history; records = r.plan.records ++ map (with_faults_after now) mine; told = r.plan.told } in
          Recorded go b r.start r.count old → ((m : Remembered) → Remembers r.count old m → Remembers r.count new m) × Recorded go b r.start r.count new
          × ((let z : PlanCalls = record { requests = r.plan.requests; scanned = r.plan.scanned; made = is_made (map (with_faults_after now) mine); told = r.plan.told; dealt = r.plan.dealt; len = length r.plan.history } in z) ≡ record { requests = r.plan.requests; scanned = r.plan.scanned; made = is_made mine; told = r.plan.told; dealt = r.plan.dealt; len = length r.plan.history })
      by_mine [] h book = ((λ m g. g), book, refl)
      by_mine (x ∷ []) h book = (remembers_on r.count _ _ (λ l g. g) (λ f g. front_raised r.count now r.plan.records x f g) (λ len m g. dated_raised now r.plan.records x len m g), book_raised Contents go b r.start r.count r.plan.history r.plan.records r.plan.told x now h.1 book, refl)
      by_mine (x ∷ y ∷ rest) h book = absurd h

  module _ (one : (order : ℕ) (words : List ℕ) (s t : S) (j k : ℕ) → Contents order words s j → Contents order words t k → (s ≡ t) × (j ≡ k)) where
    -- the writer stores `side` as back
    pub switches_to_back : (before now slots id : ℕ) (me : M) → IsWriter me.0 (plan_of me.0) → CanSwitchToBack Contents go me.0.base (plan_of me.0) before now → Allows R slots id me side_at (λ _. 1) (λ _. switched_to_back now (step slots side_at 1 0 none) me 1)
    switches_to_back before now slots id me writes can s r _ at _ = let v = me.0 in let is = plan_is Contents go b s r id v at writes in let base = base_is Contents go b s r id v at in let p : Plan = r.plan in
        let c : CanSwitchToBack Contents go b p before now = subst (λ (z : Base × Plan). CanSwitchToBack Contents go z.0 z.1 before now) (λ i. (base i, is.0 i)) can in
        let q : Plan = switched 1 (raising now p) in let m = raises_book s r before now c.raises in let e = one b.order b.image c.start r.start c.count r.count c.opening r.opening in let wide = r.wide in let l = r.limits.1 in
        let stands : Held Contents go b r.start r.count p.back p.history = subst (λ (z : S × ℕ). Held Contents go b z.0 z.1 p.back p.history) (λ i. (e.0 i, e.1 i)) c.stands in
        let now_shown = shown_side b s.words 1 (omega arith) in (
          planned v q,
          keeps,
          tt,
          writer_step Contents go b s r id v (planned v q) q (set s.words 0 1) at is.1 refl refl refl refl refl (λ h. h) (length-set s.words 0 1) (omega arith, omega arith) (ap (λ (t : Shown). t.indicators) now_shown)
              (λ _ seen _ h. h)
              (subst (λ (t : Shown). IsWritten Contents go b r.start r.count t q) (sym now_shown) record { side = refl; version = r.written.version; main = r.written.main; back = r.written.back; side_low = omega arith; version_low = r.written.version_low; published = stands })
              (λ j x _. not_clear Contents go b p q x refl)
              m.0 m.1
              (announced_with Contents go b s r id v (planned v q) q (shown b (set s.words 0 1)).slots at refl (subst (λ (z : Shown × PlanCalls). Announced (IsCall go b) b.callers z.0.slots r.count z.1 (map calls_in s.views)) (λ i. (sym now_shown i, sym m.2 i)) r.announced)),
          same_view Contents go b me (λ z. switched 1 (raising now z)) p (plan_of v) (sym is.0),
        )
