-- A follower that has just started.
use Rattle.std.proofs.Common.{◌≡◌, ℕ, ◌+◌, ◌≤◌, List, [], ◌∷◌, length, refl, sym, ap, ◌∙◌, subst, arith}
use Rattle.std.specs.Prelude.{None, drop}
use Rattle.std.specs.List.{enumerate_from}
use Rattle.std.proofs.Math.ListN.{get_or, set}
use Rattle.atomic_table.specs.Seated.{TableId}
use Rattle.rom_model.specs.History.{LAST_COUNT}
use Rattle.rom_model.specs.Region.{Contents}
use Rattle.rom_model.specs.Seen.{done_in}
use Rattle.rom_model.specs.State.{State}
use Rattle.rom_rule.specs.declared.views.Base.{Base}
use Rattle.rom_store.specs.Callers.{Caller, IsNewCaller}
use Rattle.rom_store.specs.Indexed.{Indexed}
use Rattle.rom_follow.specs.Alone.{IsAlone, IsFollower, followed}
use Rattle.rom_follow.specs.Followed.{Followed, HasDoneUpdates}
use Rattle.rom_follow.specs.Following.{AreFirstOf, AreTries, FollowsHistory, state_after_first}
use Rattle.rom_model.specs.declared.entry.Entry.{Entry}
use Rattle.rom_rule.specs.Views.{Told}

pub first_new : (table : TableId) (base : Base) (passes : List Caller) (p : Caller) → length passes ≡ 1 → Indexed (IsNewCaller Contents table base) passes → p ≡ get_or passes 0 p → IsNewCaller Contents table base 0 p
first_new table base [] p one new is = absurd (omega (arith, one))
first_new table base (x ∷ passes) p one new is = subst (IsNewCaller Contents table base 0) (sym is) (new.at 0 x refl)

-- the list of one, in which it stands now
pub only_one : (passes : List Caller) (q : Caller) → length passes ≡ 1 → set passes 0 q ≡ q ∷ []
only_one [] q one = absurd (omega (arith, one))
only_one (x ∷ []) q one = refl
only_one (x ∷ y ∷ passes) q one = absurd (omega (arith, one))

pub new_alone : (table : TableId) (base : Base) (p : Caller) → base.callers ≡ 1 → (s : State) × (k : ℕ) × Contents base.order base.image s k → IsNewCaller Contents table base 0 p → IsAlone table base p
new_alone table base p one formed new = record { one = one; formed = formed; numbered = new.numbered; nobody = ap (λ v. v.joined) new.bare }

pub new_done : (order : ℕ) (image : List ℕ) (s : State) (k count : ℕ) (q : Caller) → ((order : ℕ) (words : List ℕ) (s : State) (k : ℕ) → Contents order words s k → k ≤ LAST_COUNT) → Contents order image s k → count ≡ k → q.view.outcomes ≡ [] → q.view.seen ≡ [] → HasDoneUpdates order s k (followed count (q ∷ []) None)
new_done order image s k count q within held is none unseen = record {
  legal = rw unseen tt;
  count_is = omega (arith, is, ap length unseen);
  within = omega (arith, is, within order image s k held);
  done = ap (enumerate_from k) unseen ∙ ap done_in (sym none);
  own = rw none tt;
}

pub new_follower : (table : TableId) (base : Base) (passes : List Caller) (q : Caller) (count : ℕ) → length passes ≡ 1 → ((order : ℕ) (words : List ℕ) (s : State) (k : ℕ) → Contents order words s k → k ≤ LAST_COUNT)
    → IsAlone table base q → q.view.outcomes ≡ [] → q.view.seen ≡ [] → ((s : State) (k : ℕ) → Contents base.order base.image s k → count ≡ k)
    → IsFollower table base (set passes 0 q) (followed count (set passes 0 q) None)
new_follower table base passes q count one within alone none unseen is =
    subst (λ ps. IsFollower table base ps (followed count ps None)) (sym (only_one passes q one)) record {
      only = (q, refl, alone);
      done = λ s k held. new_done base.order base.image s k count q within held (is s k held) none unseen;
    }

-- one that has done and tried nothing follows each history of which its heap has the state and the count after a prefix
pub none_follows : (base : Base) (s0 : State) (n0 : ℕ) (history : List Entry) (first : ℕ) (f : Followed) → f.history ≡ [] → f.tried ≡ [] → f.diverged ≡ None → first ≤ length history
    → Contents base.order base.image (state_after_first base.order s0 n0 history first) (n0 + first) → FollowsHistory base s0 n0 history first f
none_follows base s0 n0 history first f unseen untried agrees within held = record {
  within = within;
  opening = held;
  entries = subst (λ (xs : List Entry). AreFirstOf (drop first history) xs) (sym unseen) (refl {A = List (List ℕ × List ℕ)} {a = []});
  tries = subst (λ (xs : List Told). AreTries (drop first history) xs) (sym untried) tt;
  agrees = agrees;
}
