-- The frame whose place is the count, and what becomes of it.
use Rattle.std.proofs.Common.{◌≡◌, ℕ, ◌+◌, ◌<◌, ◌≤◌, List, [], ◌∷◌, ◌++◌, length, refl, sym, ap, ◌∙◌, subst, arith, inl, inr}
use Rattle.std.specs.Prelude.{None, Option, Some}
use Rattle.std.specs.List.{AllByRecursion}
use Rattle.std.proofs.Math.ListN.{get_or, set}
use Rattle.std.proofs.lemmas.Bool.{cases_lt}
use Rattle.std.proofs.lemmas.List.{append_cancel_left, length-append}
use Rattle.atomic_table.specs.Seated.{TableId}
use Rattle.rom_model.specs.Codes.{reply_words}
use Rattle.rom_model.specs.History.{IsLegal, LAST_COUNT}
use Rattle.rom_model.specs.Lawful.{as_words}
use Rattle.rom_model.specs.Machine.{on_words}
use Rattle.rom_model.specs.Region.{Contents}
use Rattle.rom_model.specs.State.{State}
use Rattle.rom_model.specs.Trio.{trio}
use Rattle.rom_model.specs.declared.call.Reply.{Reply}
use Rattle.rom_model.specs.declared.call.Updated.{Updated}
use Rattle.rom_model.specs.declared.call.Updated.TheVariants as updated
use Rattle.rom_frame.specs.declared.frame.Frame.{Frame}
use Rattle.rom_rule.specs.CallKinds.{IsToldByPass}
use Rattle.rom_rule.specs.Views.{Told}
use Rattle.rom_rule.specs.declared.views.Base.{Base}
use Rattle.rom_store.specs.Callers.{Caller}
use Rattle.rom_follow.specs.Alone.{IsAlone, IsFollower, IsOutcome, followed, seen_by, tried_by}
use Rattle.rom_follow.specs.Answers.{IsFrameAnswer, parted_by, updates_done}
use Rattle.rom_follow.specs.Followed.{Followed, HasDoneUpdates}
use Rattle.rom_follow.specs.Taking.{TakesNextFrame, entry_at, found_at}
use Rattle.rom_follow.specs.declared.taken.Divergence.{Divergence}
use Rattle.rom_follow.specs.declared.taken.MessageTaken.{MessageTaken}
use Rattle.rom_follow.specs.declared.taken.MessageTaken.TheVariants.{Applied, Known, Early, NotAFrame, Diverged, Spent, Failed, Doubt}
use Rattle.rom_follow.proofs.Alone.{seen_is_done}

-- the caller that stands in the list of one
pub the_one : (passes : List Caller) (x p : Caller) → passes ≡ x ∷ [] → p ≡ get_or passes 0 p → p ≡ x
the_one passes x p one is = is ∙ ap (λ ps. get_or ps 0 p) one

-- a follower's list of one, and its caller
pub in_list : (table : TableId) (base : Base) (passes : List Caller) (f : Followed) (p : Caller) → IsFollower table base passes f → p ≡ get_or passes 0 p → (passes ≡ p ∷ []) × IsAlone table base p
in_list table base passes f p inv is =
    let same : p ≡ inv.only.0 = the_one passes inv.only.0 p inv.only.1 is in
    (inv.only.1 ∙ ap (λ x. x ∷ []) (sym same), subst (IsAlone table base) (sym same) inv.only.2)

pub put_one : (passes : List Caller) (p q : Caller) → passes ≡ p ∷ [] → set passes 0 q ≡ q ∷ []
put_one passes p q one = ap (λ ps. set ps 0 q) one

all_more : {X : Type 0} (P : X → Type 0) (xs : List X) (y : X) → AllByRecursion P xs → P y → AllByRecursion P (xs ++ y ∷ [])
all_more P [] y all last = (last, tt)
all_more P (x ∷ xs) y all last = (all.0, all_more P xs y all.1 last)

-- What one update leaves: of the caller before it and after it, and of the answer to its frame.
module _ (table : TableId) (base : Base) (f : Frame) (p q : Caller) (count : ℕ) where
  -- the facts that an update gives
  pub record Updates (told : Updated Reply) : Type 0 where
    pub before : IsAlone table base p
    pub after : IsAlone table base q
    pub unposted : LAST_COUNT ≤ length p.view.outcomes → (told ≡ updated.Spent) × (q ≡ p)
    pub tried : length p.view.outcomes < LAST_COUNT → q.view.outcomes ≡ p.view.outcomes ++ (found_at (length p.view.outcomes) f.call, as_words trio told) ∷ []
    pub is_told : length p.view.outcomes < LAST_COUNT → IsToldByPass Contents (on_words trio) base (found_at (length p.view.outcomes) f.call, as_words trio told) (length p.view.seen) p.view.seen q.view.seen
    pub outcome : length p.view.outcomes < LAST_COUNT → (s : State) (k : ℕ) → Contents base.order base.image s k → IsOutcome base.order s k f.call p.view told q.view
    pub done : (s : State) (k : ℕ) → Contents base.order base.image s k → HasDoneUpdates base.order s k (followed count (p ∷ []) None)

  abbrev pub as_was : Followed
  as_was = followed count (p ∷ []) None

  abbrev pub as_is : MessageTaken → Followed
  as_is taken = followed (count + updates_done taken) (q ∷ []) (parted_by taken)

  posted : (told : Updated Reply) (taken : MessageTaken) (s : State) (k : ℕ) → HasDoneUpdates base.order s k as_was → f.place ≡ count → IsFrameAnswer f.reply told taken
      → q.view.outcomes ≡ p.view.outcomes ++ (found_at (length p.view.outcomes) f.call, as_words trio told) ∷ [] → IsOutcome base.order s k f.call p.view told q.view → TakesNextFrame f as_was taken (as_is taken)
  posted (updated.Done ours at) (Applied place) s k done is answer tried outcome =
      let here : at ≡ count = outcome.0 ∙ sym done.count_is in (
        answer.0 ∙ here ∙ sym is,
        λ i. record {
          count = count + 1;
          history = (outcome.2 ∙ ap (λ r. p.view.seen ++ entry_at (length p.view.outcomes) f.call r ∷ []) answer.1) i;
          tried = (tried ∙ (λ j. p.view.outcomes ++ (found_at (length p.view.outcomes) f.call, updated.Done (reply_words (answer.1 j)) (here j)) ∷ [])) i;
          diverged = None;
        },
      )
  posted (updated.Done ours at) (Diverged place ours' theirs') s k done is answer tried outcome =
      let here : at ≡ count = outcome.0 ∙ sym done.count_is in (
        answer.0 ∙ here ∙ sym is,
        answer.2,
        (λ same. answer.3 (ap reply_words (sym answer.1) ∙ same ∙ ap reply_words answer.2)),
        λ i. record {
          count = count + 1;
          history = (outcome.2 ∙ ap (λ r. p.view.seen ++ entry_at (length p.view.outcomes) f.call r ∷ []) (sym answer.1)) i;
          tried = (tried ∙ (λ j. p.view.outcomes ++ (found_at (length p.view.outcomes) f.call, updated.Done (reply_words (sym answer.1 j)) (here j)) ∷ [])) i;
          diverged = Some record { place = place; ours = ours'; theirs = theirs' };
        },
      )
  posted updated.Spent Spent s k done is answer tried outcome =
      inl (omega (arith, is, done.count_is, done.within, outcome.1), λ i. record { count = (let none : count + 0 ≡ count = omega arith in none) i; history = outcome.0 i; tried = tried i; diverged = None })
  posted updated.Failed Failed s k done is answer tried outcome = λ i. record { count = (let none : count + 0 ≡ count = omega arith in none) i; history = outcome i; tried = tried i; diverged = None }
  posted updated.Doubt Doubt s k done is answer tried outcome = λ i. record { count = (let none : count + 0 ≡ count = omega arith in none) i; history = outcome i; tried = tried i; diverged = None }
  posted (updated.Done ours at) (Known place) s k done is answer tried outcome = absurd answer
  posted (updated.Done ours at) (Early place want) s k done is answer tried outcome = absurd answer
  posted (updated.Done ours at) NotAFrame s k done is answer tried outcome = absurd answer
  posted (updated.Done ours at) Spent s k done is answer tried outcome = absurd answer
  posted (updated.Done ours at) Failed s k done is answer tried outcome = absurd answer
  posted (updated.Done ours at) Doubt s k done is answer tried outcome = absurd answer
  posted updated.Spent (Applied place) s k done is answer tried outcome = absurd answer
  posted updated.Spent (Known place) s k done is answer tried outcome = absurd answer
  posted updated.Spent (Early place want) s k done is answer tried outcome = absurd answer
  posted updated.Spent NotAFrame s k done is answer tried outcome = absurd answer
  posted updated.Spent (Diverged place ours theirs) s k done is answer tried outcome = absurd answer
  posted updated.Spent Failed s k done is answer tried outcome = absurd answer
  posted updated.Spent Doubt s k done is answer tried outcome = absurd answer
  posted updated.Failed (Applied place) s k done is answer tried outcome = absurd answer
  posted updated.Failed (Known place) s k done is answer tried outcome = absurd answer
  posted updated.Failed (Early place want) s k done is answer tried outcome = absurd answer
  posted updated.Failed NotAFrame s k done is answer tried outcome = absurd answer
  posted updated.Failed (Diverged place ours theirs) s k done is answer tried outcome = absurd answer
  posted updated.Failed Spent s k done is answer tried outcome = absurd answer
  posted updated.Failed Doubt s k done is answer tried outcome = absurd answer
  posted updated.Doubt (Applied place) s k done is answer tried outcome = absurd answer
  posted updated.Doubt (Known place) s k done is answer tried outcome = absurd answer
  posted updated.Doubt (Early place want) s k done is answer tried outcome = absurd answer
  posted updated.Doubt NotAFrame s k done is answer tried outcome = absurd answer
  posted updated.Doubt (Diverged place ours theirs) s k done is answer tried outcome = absurd answer
  posted updated.Doubt Spent s k done is answer tried outcome = absurd answer
  posted updated.Doubt Failed s k done is answer tried outcome = absurd answer

  -- where nothing was posted, the answer is `Spent`
  only_spent : (taken : MessageTaken) → IsFrameAnswer f.reply updated.Spent taken → taken ≡ Spent
  only_spent (Applied place) answer = absurd answer
  only_spent (Known place) answer = absurd answer
  only_spent (Early place want) answer = absurd answer
  only_spent NotAFrame answer = absurd answer
  only_spent (Diverged place ours theirs) answer = absurd answer
  only_spent Spent answer = refl
  only_spent Failed answer = absurd answer
  only_spent Doubt answer = absurd answer

  unchanged : q ≡ p → as_is Spent ≡ as_was
  unchanged same = λ i. record { count = (let none : count + 0 ≡ count = omega arith in none) i; history = (same i).view.seen; tried = (same i).view.outcomes; diverged = None }

  pub next_is : (told : Updated Reply) (taken : MessageTaken) → Updates told → f.place ≡ count → IsFrameAnswer f.reply told taken → TakesNextFrame f as_was taken (as_is taken)
  next_is told taken u is answer = elim (cases_lt (length p.view.outcomes) LAST_COUNT) [
    | inl lt ↦ let formed = u.before.formed in
        posted told taken formed.0 formed.1 (u.done formed.0 formed.1 formed.2) is answer (u.tried lt) (u.outcome lt formed.0 formed.1 formed.2)
    | inr le ↦ let spent = u.unposted le in
        let taken_is : taken ≡ Spent = only_spent taken (subst (λ (t : Updated Reply). IsFrameAnswer f.reply t taken) spent.0 answer) in
        subst (λ (t : MessageTaken). TakesNextFrame f as_was t (as_is t)) (sym taken_is) (inr (le, unchanged spent.1))
  ]

  -- what was done, by what became of the update
  done_by_outcome : (told : Updated Reply) (taken : MessageTaken) (s : State) (k : ℕ) → HasDoneUpdates base.order s k as_was → IsFrameAnswer f.reply told taken → IsOutcome base.order s k f.call p.view told q.view → IsAlone table base q → Contents base.order base.image s k
      → AllByRecursion (λ x. x.0.caller ≡ 1) q.view.outcomes → HasDoneUpdates base.order s k (as_is taken)
  done_by_outcome told taken s k done answer outcome alone held own = by told taken answer outcome
    where
      same : (d : ℕ) → d ≡ 0 → (parted : Option Divergence) → q.view.seen ≡ p.view.seen → HasDoneUpdates base.order s k (followed (count + d) (q ∷ []) parted)
      same d none parted still = record {
        legal = subst (IsLegal (on_words trio) base.order s k) (sym still) done.legal;
        count_is = omega (arith, done.count_is, ap length still, none);
        within = omega (arith, done.within, none);
        done = seen_is_done table base q s k alone held;
        own = own;
      }

      one : (ours : Reply) (at : ℕ) (parted : Option Divergence) → IsOutcome base.order s k f.call p.view (updated.Done ours at) q.view → HasDoneUpdates base.order s k (followed (count + 1) (q ∷ []) parted)
      one ours at parted outcome = record {
        legal = outcome.3;
        count_is = omega (arith, done.count_is, ap length outcome.2, length-append p.view.seen (entry_at (length p.view.outcomes) f.call ours ∷ []));
        within = omega (arith, done.count_is, outcome.0, outcome.1);
        done = seen_is_done table base q s k alone held;
        own = own;
      }

      by : (told : Updated Reply) (taken : MessageTaken) → IsFrameAnswer f.reply told taken → IsOutcome base.order s k f.call p.view told q.view → HasDoneUpdates base.order s k (as_is taken)
      by (updated.Done ours at) (Applied place) answer outcome = one ours at None outcome
      by (updated.Done ours at) (Diverged place ours' theirs') answer outcome = one ours at (Some record { place = place; ours = ours'; theirs = theirs' }) outcome
      by updated.Spent Spent answer outcome = same 0 refl None outcome.0
      by updated.Failed Failed answer outcome = same 0 refl None outcome
      by updated.Doubt Doubt answer outcome = same 0 refl None outcome
      by (updated.Done ours at) (Known place) answer outcome = absurd answer
      by (updated.Done ours at) (Early place want) answer outcome = absurd answer
      by (updated.Done ours at) NotAFrame answer outcome = absurd answer
      by (updated.Done ours at) Spent answer outcome = absurd answer
      by (updated.Done ours at) Failed answer outcome = absurd answer
      by (updated.Done ours at) Doubt answer outcome = absurd answer
      by updated.Spent (Applied place) answer outcome = absurd answer
      by updated.Spent (Known place) answer outcome = absurd answer
      by updated.Spent (Early place want) answer outcome = absurd answer
      by updated.Spent NotAFrame answer outcome = absurd answer
      by updated.Spent (Diverged place ours theirs) answer outcome = absurd answer
      by updated.Spent Failed answer outcome = absurd answer
      by updated.Spent Doubt answer outcome = absurd answer
      by updated.Failed (Applied place) answer outcome = absurd answer
      by updated.Failed (Known place) answer outcome = absurd answer
      by updated.Failed (Early place want) answer outcome = absurd answer
      by updated.Failed NotAFrame answer outcome = absurd answer
      by updated.Failed (Diverged place ours theirs) answer outcome = absurd answer
      by updated.Failed Spent answer outcome = absurd answer
      by updated.Failed Doubt answer outcome = absurd answer
      by updated.Doubt (Applied place) answer outcome = absurd answer
      by updated.Doubt (Known place) answer outcome = absurd answer
      by updated.Doubt (Early place want) answer outcome = absurd answer
      by updated.Doubt NotAFrame answer outcome = absurd answer
      by updated.Doubt (Diverged place ours theirs) answer outcome = absurd answer
      by updated.Doubt Spent answer outcome = absurd answer
      by updated.Doubt Failed answer outcome = absurd answer

  pub next_done : (told : Updated Reply) (taken : MessageTaken) → Updates told → IsFrameAnswer f.reply told taken → (s : State) (k : ℕ) → Contents base.order base.image s k → HasDoneUpdates base.order s k (as_is taken)
  next_done told taken u answer s k held = elim (cases_lt (length p.view.outcomes) LAST_COUNT) [
    | inl lt ↦ let own : AllByRecursion (λ x. x.0.caller ≡ 1) q.view.outcomes = subst (AllByRecursion (λ (x : Told). x.0.caller ≡ 1)) (sym (u.tried lt)) (all_more (λ (x : Told). x.0.caller ≡ 1) p.view.outcomes _ (u.done s k held).own refl) in
        done_by_outcome told taken s k (u.done s k held) answer (u.outcome lt s k held) u.after held own
    | inr le ↦ let spent = u.unposted le in
        let taken_is : taken ≡ Spent = only_spent taken (subst (λ (t : Updated Reply). IsFrameAnswer f.reply t taken) spent.0 answer) in
        subst (λ (t : MessageTaken). HasDoneUpdates base.order s k (as_is t)) (sym taken_is) (subst (HasDoneUpdates base.order s k) (sym (unchanged spent.1)) (u.done s k held))
  ]

  pub next_follower : (told : Updated Reply) (taken : MessageTaken) → Updates told → IsFrameAnswer f.reply told taken → IsFollower table base (q ∷ []) (as_is taken)
  next_follower told taken u answer = record { only = (q, refl, u.after); done = next_done told taken u answer }

  longer_by_one : (xs : List Told) (x : Told) → xs ≡ xs ++ x ∷ [] → ⊥
  longer_by_one xs x same = omega (arith, ap length same, length-append xs (x ∷ []))

  pub next_told : (told : Updated Reply) → Updates told → (x : Told) → q.view.outcomes ≡ p.view.outcomes ++ x ∷ [] → IsToldByPass Contents (on_words trio) base x (length p.view.seen) p.view.seen q.view.seen
  next_told told u x same = elim (cases_lt (length p.view.outcomes) LAST_COUNT) [
    | inl lt ↦ let y : Told = (found_at (length p.view.outcomes) f.call, as_words trio told) in
        let ends : x ∷ [] ≡ y ∷ [] = append_cancel_left p.view.outcomes (x ∷ []) (y ∷ []) (sym same ∙ u.tried lt) in
        let one : x ≡ y = cc in
        subst (λ (z : Told). IsToldByPass Contents (on_words trio) base z (length p.view.seen) p.view.seen q.view.seen) (sym one) (u.is_told lt)
    | inr le ↦ absurd (longer_by_one p.view.outcomes x (sym (ap (λ z. z.view.outcomes) (u.unposted le).1) ∙ same))
  ]

-- So in a list of one, where the follower is seen as w before.
pub record IsTaking (table : TableId) (base : Base) (f : Frame) (passes : List Caller) (p q : Caller) (count : ℕ) (diverged : Option Divergence) (told : Updated Reply) (taken : MessageTaken) (done : ℕ) (parted : Option Divergence) (w : Followed) : Type 0 where
  pub one : passes ≡ p ∷ []
  pub seen_as : followed count passes diverged ≡ w
  pub agrees : w.diverged ≡ None
  pub next : f.place ≡ w.count
  pub updates : Updates table base f p q count told
  pub answer : IsFrameAnswer f.reply told taken
  pub done_is : done ≡ updates_done taken
  pub parted_is : parted ≡ parted_by taken

module _ (table : TableId) (base : Base) (f : Frame) (passes : List Caller) (p q : Caller) (count : ℕ) (diverged : Option Divergence) (told : Updated Reply) (taken : MessageTaken) (done : ℕ) (parted : Option Divergence) (w : Followed) (t : IsTaking table base f passes p q count diverged told taken done parted w) where
  was : as_was table base f p q count ≡ w
  was = (λ i. followed count (sym t.one i) (sym (ap (λ (x : Followed). x.diverged) t.seen_as ∙ t.agrees) i)) ∙ t.seen_as

  now_is : as_is table base f p q count taken ≡ followed (count + done) (set passes 0 q) parted
  now_is = λ i. followed (count + sym t.done_is i) (sym (put_one passes p q t.one) i) (sym t.parted_is i)

  pub takes_next : TakesNextFrame f w taken (followed (count + done) (set passes 0 q) parted)
  takes_next = subst (λ (x : Followed). TakesNextFrame f x taken (followed (count + done) (set passes 0 q) parted)) was (subst (λ (x : Followed). TakesNextFrame f (as_was table base f p q count) taken x) now_is
      (next_is table base f p q count told taken t.updates (t.next ∙ sym (ap (λ (x : Followed). x.count) t.seen_as)) t.answer))

  pub takes_done : (s : State) (k : ℕ) → Contents base.order base.image s k → HasDoneUpdates base.order s k w × HasDoneUpdates base.order s k (followed (count + done) (set passes 0 q) parted)
  takes_done s k held = (subst (HasDoneUpdates base.order s k) was (t.updates.done s k held), subst (HasDoneUpdates base.order s k) now_is (next_done table base f p q count told taken t.updates t.answer s k held))

  pub takes_follower : IsFollower table base (set passes 0 q) (followed (count + done) (set passes 0 q) parted)
  takes_follower = subst (λ (x : Followed). IsFollower table base (set passes 0 q) x) now_is (subst (λ (ps : List Caller). IsFollower table base ps (as_is table base f p q count taken)) (sym (put_one passes p q t.one)) (next_follower table base f p q count told taken t.updates t.answer))

  pub takes_told : (x : Told) → tried_by (set passes 0 q) ≡ w.tried ++ x ∷ [] → IsToldByPass Contents (on_words trio) base x (length w.history) w.history (seen_by (set passes 0 q))
  takes_told x same =
      let own : q.view.outcomes ≡ p.view.outcomes ++ x ∷ [] = ap tried_by (sym (put_one passes p q t.one)) ∙ same ∙ ap (λ (y : Followed). y.tried ++ x ∷ []) (sym was) in
      subst (λ (ps : List Caller). IsToldByPass Contents (on_words trio) base x (length w.history) w.history (seen_by ps)) (sym (put_one passes p q t.one))
      (subst (λ (y : Followed). IsToldByPass Contents (on_words trio) base x (length y.history) y.history q.view.seen) was (next_told table base f p q count told t.updates x own))

pub few_done : (taken : MessageTaken) → updates_done taken ≤ 1
few_done (Applied place) = omega arith
few_done (Known place) = omega arith
few_done (Early place want) = omega arith
few_done NotAFrame = omega arith
few_done (Diverged place ours theirs) = omega arith
few_done Spent = omega arith
few_done Failed = omega arith
few_done Doubt = omega arith
