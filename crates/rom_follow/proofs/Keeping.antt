-- A follower of a history goes on following it, whatever of its frames it takes.
use Rattle.std.proofs.Common.{◌<◌, ◌≤◌, ◌≡◌, ℕ, suc, ◌+◌, List, [], ◌∷◌, ◌++◌, length, take, drop, refl, sym, ap, ◌∙◌, subst, arith, inl, inr}
use Rattle.std.specs.Prelude.{Some, None, map, slice_get}
use Rattle.std.specs.Global.{Vec}
use Rattle.std.specs.List.{enumerate_from}
use Rattle.std.proofs.lemmas.Bool.{cases_lt}
use Rattle.std.proofs.lemmas.Grind.{get_or-set_at}
use Rattle.std.proofs.lemmas.List.{drop-drop, get_or-set_other, length-append}
use Rattle.std.proofs.Math.ListN.{get_or, set}
use Rattle.std.proofs.lemmas.List.FromFn.{length-enumerate_from}
use Rattle.rom_model.specs.Codes.{call_words, reply_words}
use Rattle.rom_model.specs.History.{IsLegal}
use Rattle.rom_model.specs.Machine.{on_words}
use Rattle.rom_model.specs.Seen.{done_in}
use Rattle.rom_model.specs.State.{State}
use Rattle.rom_model.specs.Trio.{trio}
use Rattle.rom_model.specs.declared.call.Updated.{Updated}
use Rattle.rom_model.specs.declared.call.Updated.TheVariants as updated
use Rattle.rom_model.specs.declared.entry.Entry.{Entry}
use Rattle.rom_model.specs.declared.record.Found.{Found}
use Rattle.rom_frame.specs.declared.frame.Frame.{Frame}
use Rattle.rom_rule.specs.Views.{Told}
use Rattle.rom_rule.specs.declared.views.Base.{Base}
use Rattle.rom_follow.specs.Followed.{Followed, HasDoneUpdates}
use Rattle.rom_follow.specs.Following.{AgreesBelow, AreFirstOf, AreTries, FollowsHistory, state_after_first, update_of}
use Rattle.rom_follow.specs.Taking.{AreTaken, TakesFrame, TakesMessage, TakesNextFrame, found_at}
use Rattle.rom_follow.specs.declared.taken.MessageTaken.{MessageTaken}
use Rattle.rom_follow.specs.declared.taken.MessageTaken.TheVariants.{Applied, Known, Early, NotAFrame, Diverged, Spent, Failed, Doubt}
use Rattle.rom_follow.proofs.Histories.{from_element, legal_drop, legal_take}
use Rattle.rom_follow.proofs.Tried.{done_args, same_replies}

-- one try more
pub tries_more : (es : List Entry) (xs : List Told) (e : Entry) (rest : List Entry) (f : Found) (u : Updated (List ℕ)) → AreTries es xs → drop (length (done_in xs)) es ≡ e ∷ rest → f.args ≡ e.args → AreTries es (xs ++ (f, u) ∷ [])
tries_more [] [] e rest f u tries next same = absurd (let long : 0 ≡ suc (length rest) = ap length next in omega (arith, long))
tries_more [] (x ∷ xs) e rest f u tries next same = absurd tries
tries_more (d ∷ es) [] e rest f u tries next same = let one : d ≡ e = first_is d e es rest next in last u (same ∙ ap (λ (y : Entry). y.args) (sym one))
  where
    first_is : (d e : Entry) (es rest : List Entry) → d ∷ es ≡ e ∷ rest → d ≡ e
    first_is d e es rest is = cc

    last : (u : Updated (List ℕ)) → f.args ≡ d.args → AreTries (d ∷ es) ((f, u) ∷ [])
    last (updated.Done reply place) same = (same, tt)
    last updated.Spent same = (same, tt)
    last updated.Failed same = (same, tt)
    last updated.Doubt same = (same, tt)
tries_more (d ∷ es) ((g, updated.Done reply place) ∷ xs) e rest f u tries next same = (tries.0, tries_more es xs e rest f u tries.1 next same)
tries_more (d ∷ es) ((g, updated.Spent) ∷ xs) e rest f u tries next same = (tries.0, tries_more (d ∷ es) xs e rest f u tries.1 next same)
tries_more (d ∷ es) ((g, updated.Failed) ∷ xs) e rest f u tries next same = (tries.0, tries_more (d ∷ es) xs e rest f u tries.1 next same)
tries_more (d ∷ es) ((g, updated.Doubt) ∷ xs) e rest f u tries next same = (tries.0, tries_more (d ∷ es) xs e rest f u tries.1 next same)

args_in : (k : ℕ) (xs : List Entry) → map (λ x. x.1.args) (enumerate_from k xs) ≡ map (λ e. e.args) xs
args_in k [] = refl
args_in k (x ∷ xs) = ap (λ ys. x.args ∷ ys) (args_in (k + 1) xs)

-- how many were done
pub many_done : (order : ℕ) (s : State) (k : ℕ) (f : Followed) → HasDoneUpdates order s k f → length (done_in f.tried) ≡ length f.history
many_done order s k f done = ap length (sym done.done) ∙ length-enumerate_from k f.history

-- what was tried of a legal history and done is its first part, with its replies
pub first_of : (order : ℕ) (s : State) (k : ℕ) (es : List Entry) (f : Followed) → IsLegal (on_words trio) order s k es → HasDoneUpdates order s k f → AreTries es f.tried → AreFirstOf es f.history
first_of order s k es f legal done tries =
    let args : map (λ e. e.args) f.history ≡ map (λ e. e.args) (take (length f.history) es) =
    sym (args_in k f.history) ∙ ap (λ xs. map (λ x. x.1.args) xs) done.done ∙ done_args es f.tried tries ∙ ap (λ (n : ℕ). map (λ e. e.args) (take n es)) (many_done order s k f done) in
    same_replies (on_words trio) order s k f.history (take (length f.history) es) done.legal (legal_take (on_words trio) order s k (length f.history) es legal) args

module _ (base : Base) (s0 : State) (n0 : ℕ) (history : List Entry) (first : ℕ) (legal : IsLegal (on_words trio) base.order s0 n0 history) where
  -- the follower with what it tried besides
  with_tries : (w v : Followed) → FollowsHistory base s0 n0 history first w → HasDoneUpdates base.order (state_after_first base.order s0 n0 history first) (n0 + first) v → AreTries (drop first history) v.tried → v.diverged ≡ None → FollowsHistory base s0 n0 history first v
  with_tries w v follows done tries agrees = record {
    within = follows.within;
    opening = follows.opening;
    entries = first_of base.order (state_after_first base.order s0 n0 history first) (n0 + first) (drop first history) v (legal_drop (on_words trio) base.order s0 n0 first history follows.within legal) done tries;
    tries = tries;
    agrees = agrees;
  }

  module _ (f : Frame) (w v : Followed) (follows : FollowsHistory base s0 n0 history first w) (had : HasDoneUpdates base.order (state_after_first base.order s0 n0 history first) (n0 + first) w) (done : HasDoneUpdates base.order (state_after_first base.order s0 n0 history first) (n0 + first) v)
      (at : ℕ) (e : Entry) (stands : slice_get history at ≡ Some e) (place : f.place ≡ n0 + at) (args : call_words f.call ≡ e.args) (reply : reply_words f.reply ≡ e.reply) where
    -- the entry of the frame is that which comes next
    comes_next : f.place ≡ w.count → drop (length (done_in w.tried)) (drop first history) ≡ e ∷ drop (at + 1) history
    comes_next here =
        let index : first + length (done_in w.tried) ≡ at = omega (arith, here, place, had.count_is, many_done base.order (state_after_first base.order s0 n0 history first) (n0 + first) w had) in
        drop-drop (length (done_in w.tried)) first history ∙ ap (λ (n : ℕ). drop n history) index ∙ from_element history at e stands

    tried_next : f.place ≡ w.count → (u : Updated (List ℕ)) → v.tried ≡ w.tried ++ (found_at (length w.tried) f.call, u) ∷ [] → AreTries (drop first history) v.tried
    tried_next here u more = subst (λ (xs : List Told). AreTries (drop first history) xs) (sym more) (tries_more (drop first history) w.tried e (drop (at + 1) history) (found_at (length w.tried) f.call) u follows.tries (comes_next here) args)

    -- what is told otherwise is not told as the history has it
    same_told : f.place ≡ w.count → (ours : List ℕ) → v.history ≡ w.history ++ record { caller = 1; seq = length w.tried; args = call_words f.call; reply = ours } ∷ [] → AreFirstOf (drop first history) v.history → ours ≡ e.reply
    same_told here ours more entries =
        let long : length v.history ≡ suc (length w.history) = omega (arith, ap length more, length-append w.history (record { caller = 1; seq = length w.tried; args = call_words f.call; reply = ours } ∷ [])) in
        last_told w.history (drop first history) (record { caller = 1; seq = length w.tried; args = call_words f.call; reply = ours }) e (drop (at + 1) history)
        (subst (λ (n : ℕ). map update_of (w.history ++ record { caller = 1; seq = length w.tried; args = call_words f.call; reply = ours } ∷ []) ≡ map update_of (take n (drop first history))) long (subst (λ (xs : List Entry). map update_of xs ≡ map update_of (take (length v.history) (drop first history))) more entries))
        (subst (λ (n : ℕ). drop n (drop first history) ≡ e ∷ drop (at + 1) history) (many_done base.order (state_after_first base.order s0 n0 history first) (n0 + first) w had) (comes_next here))
      where
        last_told : (xs es : List Entry) (x e : Entry) (rest : List Entry) → map update_of (xs ++ x ∷ []) ≡ map update_of (take (suc (length xs)) es) → drop (length xs) es ≡ e ∷ rest → x.reply ≡ e.reply
        last_told [] [] x e rest same next = absurd (let long : 0 ≡ suc (length rest) = ap length next in omega (arith, long))
        last_told [] (d ∷ es) x e rest same next = let one : d ≡ e = cc in let two : update_of x ≡ update_of d = cc in ap (λ (p : List ℕ × List ℕ). p.1) two ∙ ap (λ (y : Entry). y.reply) one
        last_told (y ∷ xs) [] x e rest same next = absurd (let long : 0 ≡ suc (length rest) = ap length next in omega (arith, long))
        last_told (y ∷ xs) (d ∷ es) x e rest same next = last_told xs es x e rest (let tail : map update_of (xs ++ x ∷ []) ≡ map update_of (take (suc (length xs)) es) = cc in tail) next

    by_answer : (answer : MessageTaken) → f.place ≡ w.count → TakesNextFrame f w answer v → FollowsHistory base s0 n0 history first v × AgreesBelow v.count answer
    by_answer (Applied p) here next =
        let tries = tried_next here (updated.Done (reply_words f.reply) w.count) (ap (λ (x : Followed). x.tried) next.1) in
        (with_tries w v follows done tries (ap (λ (x : Followed). x.diverged) next.1 ∙ follows.agrees), omega (arith, next.0, here, ap (λ (x : Followed). x.count) next.1))
    by_answer (Diverged p ours theirs) here next =
        let tries = tried_next here (updated.Done (reply_words ours) w.count) (ap (λ (x : Followed). x.tried) next.3) in
        let entries = first_of base.order (state_after_first base.order s0 n0 history first) (n0 + first) (drop first history) v (legal_drop (on_words trio) base.order s0 n0 first history follows.within legal) done tries in
        absurd (next.2 (same_told here (reply_words ours) (ap (λ (x : Followed). x.history) next.3) entries ∙ sym reply ∙ ap reply_words (sym next.1)))
    by_answer Spent here (inl next) = (with_tries w v follows done (tried_next here updated.Spent (ap (λ (x : Followed). x.tried) next.1)) (ap (λ (x : Followed). x.diverged) next.1 ∙ follows.agrees), tt)
    by_answer Spent here (inr next) = (subst (FollowsHistory base s0 n0 history first) (sym next.1) follows, tt)
    by_answer Failed here next = (with_tries w v follows done (tried_next here updated.Failed (ap (λ (x : Followed). x.tried) next)) (ap (λ (x : Followed). x.diverged) next ∙ follows.agrees), tt)
    by_answer Doubt here next = (with_tries w v follows done (tried_next here updated.Doubt (ap (λ (x : Followed). x.tried) next)) (ap (λ (x : Followed). x.diverged) next ∙ follows.agrees), tt)
    by_answer (Known p) here next = absurd next
    by_answer (Early p want) here next = absurd next
    by_answer NotAFrame here next = absurd next

    pub keeps : (answer : MessageTaken) → TakesFrame f w answer v → FollowsHistory base s0 n0 history first v × AgreesBelow v.count answer
    keeps answer gives = elim (cases_lt f.place w.count) [
      | inl lt ↦ let known = gives.known lt in
          (subst (FollowsHistory base s0 n0 history first) (sym known.1) follows, subst (AgreesBelow v.count) (sym known.0) (omega (arith, lt, ap (λ (x : Followed). x.count) known.1)))
      | inr le ↦ elim (cases_lt w.count f.place) [
        | inl gt ↦ let early = gives.early gt in (subst (FollowsHistory base s0 n0 history first) (sym early.1) follows, subst (AgreesBelow v.count) (sym early.0) tt)
        | inr ge ↦ let here : f.place ≡ w.count = omega (arith, le, ge) in by_answer answer here (gives.next here)
      ]
    ]

pub below_more : (a b : ℕ) → a ≤ b → (t : MessageTaken) → AgreesBelow a t → AgreesBelow b t
below_more a b rises (Applied place) below = omega (arith, rises, below)
below_more a b rises (Known place) below = omega (arith, rises, below)
below_more a b rises (Early place want) below = tt
below_more a b rises NotAFrame below = tt
below_more a b rises (Diverged place ours theirs) below = absurd below
below_more a b rises Spent below = tt
below_more a b rises Failed below = tt
below_more a b rises Doubt below = tt

-- the answers so far, with one more
pub answers_more : (a b i : ℕ) (answers : List MessageTaken) (t : MessageTaken) → a ≤ b → i < length answers → ((k : ℕ) (d : MessageTaken) → k < i → AgreesBelow a (get_or answers k d)) → AgreesBelow b t
    → (k : ℕ) (d : MessageTaken) → k < i + 1 → AgreesBelow b (get_or (set answers i t) k d)
answers_more a b i answers t rises within so_far last k d low = elim (cases_lt k i) [
  | inl lt ↦ subst (AgreesBelow b) (sym (get_or-set_other answers i k t d (λ same. omega (arith, same, lt)))) (below_more a b rises (get_or answers k d) (so_far k d lt))
  | inr le ↦ let same : k ≡ i = omega (arith, low, le) in subst (AgreesBelow b) (sym (get_or-set_at answers i k t d same within)) last
]

-- one message more
pub taken_more : (messages : List (Vec ℕ)) (old mid new : Followed) (answers : List MessageTaken) (m : Vec ℕ) (a : MessageTaken) → AreTaken messages old answers mid → TakesMessage m.items mid a new → AreTaken (messages ++ m ∷ []) old (answers ++ a ∷ []) new
taken_more [] old mid new [] m a so_far next = (new, subst (λ (x : Followed). TakesMessage m.items x a new) so_far next, refl)
taken_more [] old mid new (b ∷ answers) m a so_far next = absurd so_far
taken_more (n ∷ messages) old mid new [] m a so_far next = absurd so_far
taken_more (n ∷ messages) old mid new (b ∷ answers) m a so_far next = (so_far.0, so_far.1, taken_more messages so_far.0 mid new answers m a so_far.2 next)
