-- From what each talk was to all talks, and to what of them lasts.
use Rattle.std.proofs.Common.{◌≡◌, ℕ, zero, suc, ◌+◌, ◌||◌, if◌then◌else◌, List, [], ◌∷◌, ◌++◌, map, length, reverse, refl, sym, ap, ◌∙◌, subst, arith, Some, None}
use Rattle.std.specs.Prelude.{All, slice_get}
use Rattle.std.specs.List.{AllByRecursion, list_any}
use Rattle.std.proofs.lemmas.List.{length-map}
use Rattle.std.proofs.lemmas.List.Elements.{All-from_recursion, recursion_from_All}
use Rattle.std.proofs.lemmas.Option.{IfSome_then}
use Rattle.atomic_table.specs.Seated.{TableId}
use Rattle.rom_model.specs.Heard.{HasHeard}
use Rattle.rom_model.specs.Leaving.{HaveLeft, IsClosed, IsKept}
use Rattle.rom_model.specs.Machine.{Machine, on_words}
use Rattle.rom_model.specs.Story.{Story}
use Rattle.rom_model.specs.declared.kept.Kept.{Kept}
use Rattle.rom_model.specs.declared.line.Step.{Step}
use Rattle.rom_model.specs.declared.line.LineResult.{LineResult}
use Rattle.rom_model.proofs.Leaving.{lawful}
use Rattle.rom_device.specs.Device.{ShownDevice}
use Rattle.rom_hear.specs.Events.{Event}
use Rattle.rom_hear.specs.Peers.{ShownPeer}
use Rattle.rom_hear.specs.Talking.{IsFounded}
use Rattle.rom_rule.specs.Views.{fresh_view}
use Rattle.rom_rule.specs.declared.views.Base.{Base}
use Rattle.rom_run.specs.Statuses.{is_faulted, is_unread}
use Rattle.rom_store.specs.Callers.{Caller, IsCallerOf, IsNewCaller, IsNumberedCaller}
use Rattle.rom_store.specs.Closing.{ClosedSeen, joined_of, kept_in}
use Rattle.rom_store.specs.Indexed.{Indexed}
use Rattle.rom_store.specs.Moments.{LastsFor}
use Rattle.rom_store.specs.Sessions.{EachStory}
use Rattle.rom_store.specs.Working.{HasDoneLines, HasSeenNothing}
use Rattle.rom_store.proofs.Earlier.{earlier_lasts, earlier_seen}
use Rattle.rom_text.specs.Text.{Texts}
use Rattle.rom_talk.specs.Seated.{IsSeatedReady, IsUnnoted, number_found}
use Rattle.rom_talk.specs.Serving.{IsFresh, IsReady, IsServed, Knew}
use Rattle.rom_talk.specs.Sessions.{AreTalks}
use Rattle.rom_talk.specs.Talks.{AllHaveTalked, Covers, HasTalked, IsSaidInTurn, KeepToIt, is_unheard, is_unsaid, talk_status}
use Rattle.rom_talk.specs.declared.talker.Talker.{Talker}
use Rattle.rom_talk.proofs.Pairing.{Pairs, any_mapped, any_turned, each_back, each_indexed, each_of_two, each_unmapped}

no_none : {X : Type 0} (x : X) → None ≡ Some x → ⊥
no_none x is = cc

some_one : {X : Type 0} (x y : X) → Some x ≡ Some y → x ≡ y
some_one x y is = cc

-- whoever knew so much knew what follows from it
founded_by : {R A K : Type 0} (texts : Texts R A) (F G : K → List (LineResult R A) → Type 0) (results : List (LineResult R A)) (log : List (Event K)) → ((knowing : K) (rs : List (LineResult R A)) → F knowing rs → G knowing rs) → IsFounded texts F results log → IsFounded texts G results log
founded_by texts F G results log to founded = λ before after bytes knowing at. let x = founded before after bytes knowing at in (x.0, x.1, x.2, x.3, to knowing _ x.4)

-- and whoever had done some lines has been told of them
turn_by : {C Q R A K : Type 0} (texts : Texts R A) (F G : K → List (Step C Q) → List (LineResult R A) → Type 0) (steps : List (Step C Q)) (results : List (LineResult R A)) (log : List (Event K)) →
    ((knowing : K) (ss : List (Step C Q)) (rs : List (LineResult R A)) → F knowing ss rs → G knowing ss rs) → IsSaidInTurn texts F steps results log → IsSaidInTurn texts G steps results log
turn_by texts F G steps results log to turn = λ before after bytes knowing at. let x = turn before after bytes knowing at in record { many = x.many; few = x.few; whole = x.whole; some = x.some; did = to knowing _ _ x.did }

-- what a caller keeps that has done nothing yet
record StartsAs (pass : Caller) : Type 0 where
  first : HasSeenNothing (kept_in pass)
  undated : (kept_in pass).moments ≡ []
  alone : pass.view.joined ≡ []

starts_as : (base : Base) (i : ℕ) (pass : Caller) → pass.view ≡ record (fresh_view base) { number = i + 1 } → StartsAs pass
starts_as base i pass bare = record {
  first = record { seen = ap (λ v. v.seen) bare; fronts = ap (λ v. v.fronts) bare; told = ap (λ v. v.outcomes) bare };
  undated = ap (λ v. v.moments) bare;
  alone = ap (λ v. v.joined) bare;
}

module _ {S C Q R A P : Type 0} (machine : Machine S C Q R A) (Contents : ℕ → List ℕ → S → ℕ → Type 0) (table : TableId) (base : Base) (peer : ShownPeer Caller P) (texts : Texts R A) (Reads : List ℕ → Step C Q → Type 0) where
  -- new callers and fresh peers that were brought together are ready
  pub all_ready : (passes : List Caller) (peers : List P) (ts : List (Talker P)) → ((s : S) × (k : ℕ) × Contents base.order base.image s k) →
      map (λ t. t.pass) (reverse ts) ≡ passes → map (λ t. t.peer) (reverse ts) ≡ peers → Indexed (λ _ t. IsUnnoted t) ts →
      Indexed (IsNewCaller Contents table base) passes → All (IsFresh peer) peers → All (IsSeatedReady machine Contents table base peer texts Reads) ts
  all_ready passes peers ts opened callers met unnoted new fresh =
      let Starts = λ (q : Caller). IsCallerOf Contents table base q × StartsAs q in
      let starts = each_indexed (IsNewCaller Contents table base) Starts passes (λ i q is. (is.numbered.of, starts_as base i q is.bare)) new in
      let starts_seated = each_back (λ t. Starts t.pass) ts (each_unmapped Starts (λ t. t.pass) (reverse ts) (subst (AllByRecursion Starts) (sym callers) starts)) in
      let fresh_seated = each_back (λ t. IsFresh peer t.peer) ts (each_unmapped (IsFresh peer) (λ t. t.peer) (reverse ts) (subst (AllByRecursion (IsFresh peer)) (sym met) (recursion_from_All (IsFresh peer) peers fresh))) in
      let notes = each_indexed (λ _ t. IsUnnoted t) IsUnnoted ts (λ i t is. is) unnoted in
      let both = each_of_two (λ t. Starts t.pass) (λ t. IsFresh peer t.peer) (λ t. IsReady machine Contents table base peer texts Reads t.pass t.peer) ts
      (λ t is at. record { of = is.0; first = is.1.first; undated = is.1.undated; alone = is.1.alone; fresh = at }) starts_seated fresh_seated in
      All-from_recursion _ ts (each_of_two (λ t. IsReady machine Contents table base peer texts Reads t.pass t.peer) IsUnnoted (IsSeatedReady machine Contents table base peer texts Reads) ts (λ t is so. record { opened = opened; ready = is; unnoted = so }) both notes)

  -- the talk of a talker that was this one is over
  abbrev pub Served : Talker P → Talker P → Type 0
  Served a b = IsServed machine Contents table base peer texts Reads a.pass b.pass a.peer b.peer b.ending b.unread b.faulted

  -- what was done of all talks
  abbrev pub steps_of : (was now : List (Talker P)) → Pairs Served was now → List (List (Step C Q))
  steps_of [] [] all = []
  steps_of (a ∷ was) (b ∷ now) (s, all) = s.steps ∷ steps_of was now all
  steps_of [] (b ∷ now) all = absurd all
  steps_of (a ∷ was) [] all = absurd all

  -- and what was told
  abbrev pub results_of : (was now : List (Talker P)) → Pairs Served was now → List (List (LineResult R A))
  results_of [] [] all = []
  results_of (a ∷ was) (b ∷ now) (s, all) = s.results ∷ results_of was now all
  results_of [] (b ∷ now) all = absurd all
  results_of (a ∷ was) [] all = absurd all

  many_steps : (was now : List (Talker P)) (all : Pairs Served was now) → length (steps_of was now all) ≡ length now
  many_steps [] [] all = refl
  many_steps (a ∷ was) (b ∷ now) (s, all) = ap suc (many_steps was now all)
  many_steps [] (b ∷ now) all = absurd all
  many_steps (a ∷ was) [] all = absurd all

  -- the callers are numbered from this one on
  abbrev pub AreNumbered : ℕ → List (Talker P) → Type 0
  AreNumbered n ts = (i : ℕ) (t : Talker P) → slice_get ts i ≡ Some t → t.pass.view.number ≡ n + i

  numbers_on : (n : ℕ) (t : Talker P) (ts : List (Talker P)) → AreNumbered n (t ∷ ts) → AreNumbered (n + 1) ts
  numbers_on n t ts numbers i u at = numbers (suc i) u at ∙ (let on : n + suc i ≡ n + 1 + i = omega arith in on)

  first_number : (n : ℕ) (t : Talker P) (ts : List (Talker P)) → AreNumbered n (t ∷ ts) → t.pass.view.number ≡ n
  first_number n t ts numbers = numbers 0 t refl ∙ (let here : n + 0 ≡ n = omega arith in here)

  numbered : (n : ℕ) (was now : List (Talker P)) → Pairs Served was now → AreNumbered n was → (i : ℕ) (q : Caller) → slice_get (map (λ t. t.pass) now) i ≡ Some q → IsCallerOf Contents table base q × (q.view.number ≡ n + i)
  numbered n [] [] all numbers i q at = absurd (no_none q at)
  numbered n (a ∷ was) (b ∷ now) (s, all) numbers zero q at = subst (λ (p : Caller). IsCallerOf Contents table base p × (p.view.number ≡ n + 0)) (some_one b.pass q at) (s.of, s.number ∙ numbers 0 a refl)
  numbered n (a ∷ was) (b ∷ now) (s, all) numbers (suc i) q at = let rest : IsCallerOf Contents table base q × (q.view.number ≡ n + 1 + i) = numbered (n + 1) was now all (numbers_on n a was numbers) i q at in (rest.0, rest.1 ∙ (let on : n + 1 + i ≡ n + suc i = omega arith in on))
  numbered n [] (b ∷ now) all numbers i q at = absurd all
  numbered n (a ∷ was) [] all numbers i q at = absurd all

  -- the callers after their talks, which are given back in the order of their numbers
  pub all_numbered : (was now : List (Talker P)) → Pairs Served was now → AreNumbered 1 was → Indexed (IsNumberedCaller Contents table base) (map (λ t. t.pass) now)
  all_numbered was now all numbers = record { at = λ i q at. let is = numbered 1 was now all numbers i q at in record { of = is.0; number = is.1 ∙ (let one : 1 + i ≡ i + 1 = omega arith in one) } }

  -- those that were new
  pub new_numbered : (passes : List Caller) (was : List (Talker P)) → map (λ t. t.pass) was ≡ passes → Indexed (IsNewCaller Contents table base) passes → AreNumbered 1 was
  new_numbered passes was same new i t at = (new.at i t.pass (subst (λ ps. slice_get ps i ≡ Some t.pass) same (at_pass was i t at))).numbered.number ∙ (let one : i + 1 ≡ 1 + i = omega arith in one)
    where
      at_pass : (ts : List (Talker P)) (j : ℕ) (u : Talker P) → slice_get ts j ≡ Some u → slice_get (map (λ v. v.pass) ts) j ≡ Some u.pass
      at_pass [] j u is = absurd (no_none u is)
      at_pass (v ∷ ts) zero u is = ap (λ (w : Talker P). Some w.pass) (some_one v u is)
      at_pass (v ∷ ts) (suc j) u is = at_pass ts j u is

  -- what the writer takes in of callers who have learnt of nobody is what they keep
  joined_served : (was now : List (Talker P)) → Pairs Served was now → joined_of (map (λ t. t.pass) now) ≡ map kept_in (map (λ t. t.pass) now)
  joined_served [] [] all = refl
  joined_served (a ∷ was) (b ∷ now) (s, all) =
      let none : b.pass.view.joined ≡ [] = s.served.done.alone in
      let rest : joined_of (map (λ t. t.pass) now) ≡ map kept_in (map (λ t. t.pass) now) = joined_served was now all in
      ap (λ (zs : List Kept). kept_in b.pass ∷ zs ++ joined_of (map (λ t. t.pass) now)) none ∙ ap (λ (zs : List Kept). kept_in b.pass ∷ zs) rest
  joined_served [] (b ∷ now) all = absurd all
  joined_served (a ∷ was) [] all = absurd all

  faulted_is : (was now : List (Talker P)) (all : Pairs Served was now) → list_any (λ t. t.faulted) now ≡ list_any (λ rs. list_any is_faulted rs) (results_of was now all)
  faulted_is [] [] all = refl
  faulted_is (a ∷ was) (b ∷ now) (s, all) = λ i. s.served.notes.faulted_is i || faulted_is was now all i
  faulted_is [] (b ∷ now) all = absurd all
  faulted_is (a ∷ was) [] all = absurd all

  unread_is : (was now : List (Talker P)) (all : Pairs Served was now) → list_any (λ t. t.unread) now ≡ list_any (λ rs. list_any is_unread rs) (results_of was now all)
  unread_is [] [] all = refl
  unread_is (a ∷ was) (b ∷ now) (s, all) = λ i. s.served.notes.unread_is i || unread_is was now all i
  unread_is [] (b ∷ now) all = absurd all
  unread_is (a ∷ was) [] all = absurd all

  -- the status that is found of the talkers is that of their talks
  pub found_is : (was ts : List (Talker P)) (all : Pairs Served was (reverse ts)) → number_found ts ≡ talk_status (map (λ t. t.ending) (reverse ts)) (results_of was (reverse ts) all)
  found_is was ts all =
      let faulted = sym (any_turned (λ t. t.faulted) ts) ∙ faulted_is was (reverse ts) all in
      let unsaid = sym (any_turned (λ t. is_unsaid t.ending) ts) ∙ sym (any_mapped (λ t. t.ending) is_unsaid (reverse ts)) in
      let unheard = sym (any_turned (λ t. is_unheard t.ending) ts) ∙ sym (any_mapped (λ t. t.ending) is_unheard (reverse ts)) in
      let unread = sym (any_turned (λ t. t.unread) ts) ∙ unread_is was (reverse ts) all in
      λ i. if faulted i then 7 else if unsaid i then 5 else if unheard i then 4 else if unread i then 1 else 0

  all_keep : (was now : List (Talker P)) → Pairs Served was now → KeepToIt peer (map (λ t. t.peer) was) (map (λ t. t.peer) now)
  all_keep [] [] all = tt
  all_keep (a ∷ was) (b ∷ now) (s, all) = (s.served.keeps, all_keep was now all)
  all_keep [] (b ∷ now) all = absurd all
  all_keep (a ∷ was) [] all = absurd all

  all_left : (story : Story S) → Contents base.order base.image story.opening story.opening_count → story.order ≡ base.order → (n : ℕ) (was now : List (Talker P)) (all : Pairs Served was now) → AreNumbered n was →
      AllByRecursion (λ t. IsKept machine story (kept_in t.pass)) now → HaveLeft machine story n (map kept_in (map (λ t. t.pass) now)) (steps_of was now all) (results_of was now all)
  all_left story at order n [] [] all numbers kept = tt
  all_left story at order n (a ∷ was) (b ∷ now) (s, all) numbers (is, kept) = (
    record {
      number = s.number ∙ first_number n a was numbers;
      heard = subst (λ z. HasHeard machine z story.opening story.opening_count (kept_in b.pass) s.steps s.results) (sym order) (s.served.done.heard story.opening story.opening_count at);
      kept = is;
    },
    all_left story at order (n + 1) was now all (numbers_on n a was numbers) kept,
  )
  all_left story at order n [] (b ∷ now) all numbers kept = absurd all
  all_left story at order n (a ∷ was) [] all numbers kept = absurd all

  module _ {D : Type 0} (shown : ShownDevice D) (device : D) (story : Story S) (at : Contents base.order base.image story.opening story.opening_count) (order : story.order ≡ base.order) where
    -- what a caller knew in the midst of its talk is of the history and lasts, as what it keeps at the closing
    covers : (pass : Caller) → IsKept machine story (kept_in pass) → LastsFor shown Contents (on_words machine) story device (kept_in pass) → (knowing : Caller) (results : List (LineResult R A)) →
        Knew machine Contents table base peer texts Reads pass knowing results → Covers machine Contents shown peer texts Reads story device knowing results
    covers pass kept lasts knowing results knew = record {
      told = knew.told story.opening story.opening_count at;
      of = earlier_seen story.history (kept_in pass) (kept_in knowing) kept.seen knew.seen;
      dated = knew.dated;
      lasts = earlier_lasts shown Contents (on_words machine) story device (kept_in pass) (kept_in knowing) lasts knew.moments;
    }

    has_talked : (a b : Talker P) (s : Served a b) → IsKept machine story (kept_in b.pass) → LastsFor shown Contents (on_words machine) story device (kept_in b.pass) → HasTalked machine Contents shown peer texts Reads story device a.peer b.peer b.ending s.steps s.results
    has_talked a b s kept lasts = record {
      talk = s.served.talk;
      founded = IfSome_then (peer.log b.peer) s.served.founded (λ log is. founded_by texts _ _ s.results log (covers b.pass kept lasts) is);
      in_turn = IfSome_then (peer.log b.peer) s.served.in_turn (λ log is. turn_by texts (HasDoneLines machine Contents base) _ s.steps s.results log (λ knowing steps results did. subst (λ z. HasHeard machine z story.opening story.opening_count (kept_in knowing) steps results) (sym order) (did.heard story.opening story.opening_count at)) is);
      ended = s.served.ended;
      whole = s.served.whole;
      so_far = s.served.so_far;
    }

    all_talked : (was now : List (Talker P)) (all : Pairs Served was now) → AllByRecursion (λ t. IsKept machine story (kept_in t.pass)) now → AllByRecursion (λ t. LastsFor shown Contents (on_words machine) story device (kept_in t.pass)) now →
        AllHaveTalked machine Contents shown peer texts Reads story device (map (λ t. t.peer) was) (map (λ t. t.peer) now) (map (λ t. t.ending) now) (steps_of was now all) (results_of was now all)
    all_talked [] [] all kept lasts = tt
    all_talked (a ∷ was) (b ∷ now) (s, all) (is, kept) (so, lasts) = (has_talked a b s is so, all_talked was now all kept lasts)
    all_talked [] (b ∷ now) all kept lasts = absurd all
    all_talked (a ∷ was) [] all kept lasts = absurd all

  -- what a closing says of the callers of these talks
  pub record IsClosedWith {D : Type 0} (shown : ShownDevice D) (closed : ClosedSeen D) (passes : List Caller) : Type 0 where
    pub order : closed.session.order ≡ base.order
    pub image : closed.session.image ≡ base.image
    pub closed_is : EachStory machine Contents closed.session (λ story. IsClosed machine story (length passes))
    pub callers : closed.session.callers ≡ joined_of passes
    pub kept : EachStory machine Contents closed.session (λ story. Indexed (λ _ v. IsKept machine story v) (map kept_in passes))
    pub lasts : EachStory machine Contents closed.session (λ story. AllByRecursion (LastsFor shown Contents (on_words machine) story closed.device) closed.session.callers)

  module _ {D : Type 0} (shown : ShownDevice D) (closed : ClosedSeen D) (was now : List (Talker P)) (all : Pairs Served was now) (numbers : AreNumbered 1 was) (ended : IsClosedWith shown closed (map (λ t. t.pass) now)) where
    callers_are : closed.session.callers ≡ map kept_in (map (λ t. t.pass) now)
    callers_are = ended.callers ∙ joined_served was now all

    each_kept : EachStory machine Contents closed.session (λ story. AllByRecursion (λ t. IsKept machine story (kept_in t.pass)) now)
    each_kept story is = each_unmapped (λ q. IsKept machine story (kept_in q)) (λ t. t.pass) now (each_unmapped (IsKept machine story) kept_in (map (λ t. t.pass) now)
        (each_indexed (λ _ v. IsKept machine story v) (IsKept machine story) (map kept_in (map (λ t. t.pass) now)) (λ i v so. so) (ended.kept story is)))

    each_lasts : EachStory machine Contents closed.session (λ story. AllByRecursion (λ t. LastsFor shown Contents (on_words machine) story closed.device (kept_in t.pass)) now)
    each_lasts story is = let F = LastsFor shown Contents (on_words machine) story closed.device in
        each_unmapped (λ q. F (kept_in q)) (λ t. t.pass) now (each_unmapped F kept_in (map (λ t. t.pass) now) (subst (AllByRecursion F) callers_are (ended.lasts story is)))

    opened_at : EachStory machine Contents closed.session (λ story. Contents base.order base.image story.opening story.opening_count)
    opened_at story is = subst (λ (z : ℕ × List ℕ). Contents z.0 z.1 story.opening story.opening_count) (λ j. (ended.order j, ended.image j)) is.opening

    each_left : EachStory machine Contents closed.session (λ story. HaveLeft machine story 1 closed.session.callers (steps_of was now all) (results_of was now all))
    each_left story is = subst (λ vs. HaveLeft machine story 1 vs (steps_of was now all) (results_of was now all)) (sym callers_are)
        (all_left story (opened_at story is) (is.order_is ∙ ended.order) 1 was now all numbers (each_kept story is))

    are_talks : (before after : List P) (status : ℕ) → map (λ t. t.peer) was ≡ before → after ≡ map (λ t. t.peer) now → status ≡ talk_status (map (λ t. t.ending) now) (results_of was now all) → AreTalks machine Contents shown peer texts Reads before after status closed
    are_talks before after status before_is after_is status_is =
        let scripts = steps_of was now all in
        let told = results_of was now all in
        let many : length (map (λ t. t.pass) now) ≡ length scripts = length-map now (λ t. t.pass) ∙ sym (many_steps was now all) in
        subst (λ (z : List P × List P). AreTalks machine Contents shown peer texts Reads z.0 z.1 status closed) (λ j. (before_is j, sym after_is j)) (record {
          steps = scripts;
          results = told;
          endings = map (λ t. t.ending) now;
          lawful = λ story is. lawful machine story closed.session.callers scripts told (subst (IsClosed machine story) many (ended.closed_is story is)) (each_left story is);
          left = each_left;
          lasts = ended.lasts;
          talks = λ story is. all_talked shown closed.device story (opened_at story is) (is.order_is ∙ ended.order) was now all (each_kept story is) (each_lasts story is);
          status_is = status_is;
          keeps = all_keep was now all;
        })

  pub talks_of : {D : Type 0} (shown : ShownDevice D) (closed : ClosedSeen D) (passes : List Caller) (was now : List (Talker P)) (all : Pairs Served was now) → AreNumbered 1 was → passes ≡ map (λ t. t.pass) now → IsClosedWith shown closed passes →
      (before after : List P) (status : ℕ) → map (λ t. t.peer) was ≡ before → after ≡ map (λ t. t.peer) now → status ≡ talk_status (map (λ t. t.ending) now) (results_of was now all) → AreTalks machine Contents shown peer texts Reads before after status closed
  talks_of shown closed passes was now all numbers same ended = are_talks shown closed was now all numbers (subst (IsClosedWith shown closed) same ended)
