-- What became of an update, by the word that its caller takes and the words beside it; and how many those are.
use Rattle.std.proofs.Common.{◌≡◌, ℕ, zero, suc, ◌+◌, ◌*◌, ◌^◌, ◌<◌, ◌≤◌, List, [], ◌∷◌, length, refl, sym, ap, ◌∙◌, subst, arith}
use Rattle.std.specs.Prelude.{Option, Some, None, IsSome, IsSomeAnd, option_map, slice_get}
use Rattle.rom_model.specs.declared.call.Updated.{Updated}
use Rattle.rom_model.specs.declared.call.Updated.TheVariants as told
use Rattle.rom_model.specs.declared.entry.Entry.{Entry}
use Rattle.rom_model.specs.History.{IsLegal, LAST_COUNT, left}
use Rattle.rom_model.specs.Lawful.{as_words}
use Rattle.rom_model.specs.Machine.{Machine, on_words}
use Rattle.rom_model.specs.Undone.{SPENT, FAILED, DOUBT}
use Rattle.rom_lines.specs.Replies.{HasReplyWords, done_as, undone_as, updated_as}
use Rattle.rom_lines.specs.declared.results.Became.{Became}
use Rattle.rom_lines.specs.declared.results.Became.TheVariants as became
use Rattle.rom_lines.specs.declared.results.Undone.{Undone}
use Rattle.rom_lines.specs.declared.results.Undone.TheVariants as undone
use Rattle.rom_rule.specs.Calls.{answer_words, packed}
use Rattle.rom_store.specs.Updating.{Says}

-- a place is below the last count, so that no code stands for one
abbrev pub IsWithinPlaces : {R : Type 0} → Updated R → Type 0
IsWithinPlaces (told.Done reply place) = place < LAST_COUNT
IsWithinPlaces told.Spent = Unit {0}
IsWithinPlaces told.Failed = Unit {0}
IsWithinPlaces told.Doubt = Unit {0}

-- the words of a reply are read as that reply
abbrev pub IsReadBack : {S C Q R A : Type 0} → Machine S C Q R A → Updated R → Type 0
IsReadBack m (told.Done reply place) = m.words_reply (m.reply_words reply) ≡ Some reply
IsReadBack m other = Unit {0}

module _ {S C Q R A : Type 0} (m : Machine S C Q R A) where
  -- what a word and the words beside it say is what the call was told
  pub became_is : (u : Updated R) (b : Became) (word : ℕ) (words : List ℕ) → IsWithinPlaces u → IsReadBack m u → answer_words (as_words m u) ≡ word ∷ packed words → Says b word → (updated_as m.words_reply b words ≡ u) × HasReplyWords m.words_reply b words
  became_is (told.Done reply place) (became.Done at) word words low back is says =
      let there : at ≡ place = cc in
      let beside : words ≡ m.reply_words reply = cc in
      let read : m.words_reply words ≡ Some reply = ap m.words_reply beside ∙ back in
      (ap (done_as at) read ∙ ap (λ p. told.Done reply p) there, subst IsSome (sym read) refl)
  became_is (told.Done reply place) (became.Undone undone.Spent) word words low back is says = absurd (let e : place ≡ 2 ^ 62 = cc in omega (arith, e, low))
  became_is (told.Done reply place) (became.Undone undone.Failed) word words low back is says = absurd (let e : place ≡ 2 ^ 62 + 1 = cc in omega (arith, e, low))
  became_is (told.Done reply place) (became.Undone undone.Doubt) word words low back is says = absurd (let e : place ≡ 2 ^ 62 + 2 = cc in omega (arith, e, low))
  became_is told.Spent (became.Done at) word words low back is says = absurd (says.1 (let e : word ≡ SPENT = cc in e))
  became_is told.Spent (became.Undone undone.Spent) word words low back is says = (refl, tt)
  became_is told.Spent (became.Undone undone.Failed) word words low back is says = absurd (let e : 2 ^ 62 ≡ 2 ^ 62 + 1 = cc in omega (arith, e))
  became_is told.Spent (became.Undone undone.Doubt) word words low back is says = absurd (let e : 2 ^ 62 ≡ 2 ^ 62 + 2 = cc in omega (arith, e))
  became_is told.Failed (became.Done at) word words low back is says = absurd (says.2 (let e : word ≡ FAILED = cc in e))
  became_is told.Failed (became.Undone undone.Spent) word words low back is says = absurd (let e : 2 ^ 62 + 1 ≡ 2 ^ 62 = cc in omega (arith, e))
  became_is told.Failed (became.Undone undone.Failed) word words low back is says = (refl, tt)
  became_is told.Failed (became.Undone undone.Doubt) word words low back is says = absurd (let e : 2 ^ 62 + 1 ≡ 2 ^ 62 + 2 = cc in omega (arith, e))
  became_is told.Doubt (became.Done at) word words low back is says = absurd (says.3 (let e : word ≡ DOUBT = cc in e))
  became_is told.Doubt (became.Undone undone.Spent) word words low back is says = absurd (let e : 2 ^ 62 + 2 ≡ 2 ^ 62 = cc in omega (arith, e))
  became_is told.Doubt (became.Undone undone.Failed) word words low back is says = absurd (let e : 2 ^ 62 + 2 ≡ 2 ^ 62 + 1 = cc in omega (arith, e))
  became_is told.Doubt (became.Undone undone.Doubt) word words low back is says = (refl, tt)

  -- no words stand beside a code
  none_beside : (why : Undone) (word : ℕ) (words : List ℕ) → answer_words (as_words m (undone_as why)) ≡ word ∷ packed words → words ≡ []
  none_beside undone.Spent word words is = cc
  none_beside undone.Failed word words is = cc
  none_beside undone.Doubt word words is = cc

  pub none_undone : (b : Became) (word : ℕ) (words : List ℕ) → answer_words (as_words m (updated_as m.words_reply b words)) ≡ word ∷ packed words → (why : Undone) → b ≡ became.Undone why → words ≡ []
  none_undone (became.Done place) word words is why undone = absurd (let never : became.Done place ≡ became.Undone why = undone in cc)
  none_undone (became.Undone given) word words is why undone = none_beside given word words is

  -- so they are few, if those of a reply are
  pub few_beside : (b : Became) (word : ℕ) (words : List ℕ) (most : ℕ) → answer_words (as_words m (updated_as m.words_reply b words)) ≡ word ∷ packed words → ((place : ℕ) → b ≡ became.Done place → length words ≤ most) → length words ≤ most
  few_beside (became.Done place) word words most is few = few place refl
  few_beside (became.Undone why) word words most is few = omega (arith, ap length (none_beside why word words is))

  -- the reply of an update that is done, and its words
  pub done_reply : (only : (words : List ℕ) (reply : R) → m.words_reply words ≡ Some reply → m.reply_words reply ≡ words) (b : Became) (words : List ℕ) (place : ℕ) → HasReplyWords m.words_reply b words → b ≡ became.Done place → (reply : R) × (updated_as m.words_reply b words ≡ told.Done reply place) × (m.reply_words reply ≡ words)
  done_reply only b words place some is = by_read (m.words_reply words) refl (subst (λ z. HasReplyWords m.words_reply z words) is some)
    where
      by_read : (o : Option R) → m.words_reply words ≡ o → IsSome (m.words_reply words) → (reply : R) × (updated_as m.words_reply b words ≡ told.Done reply place) × (m.reply_words reply ≡ words)
      by_read (Some reply) read there = (reply, ap (λ z. updated_as m.words_reply z words) is ∙ ap (done_as place) read, only words reply read)
      by_read None read there = absurd (cc (read, there))

  -- and what a caller is told that reads it
  pub done_by_words : (only : (words : List ℕ) (reply : R) → m.words_reply words ≡ Some reply → m.reply_words reply ≡ words) (b : Became) (words : List ℕ) (reply : R) (place : ℕ) → updated_as m.words_reply b words ≡ told.Done reply place → (b ≡ became.Done place) × (m.reply_words reply ≡ words)
  done_by_words only (became.Done at) words reply place is = by_read (m.words_reply words) refl is
    where
      by_read : (o : Option R) → m.words_reply words ≡ o → done_as at o ≡ told.Done reply place → (became.Done at ≡ became.Done place) × (m.reply_words reply ≡ words)
      by_read (Some other) read told_is =
          let there : at ≡ place = cc in
          let same : other ≡ reply = cc in
          (ap (λ p. became.Done p) there, only words reply (read ∙ ap (λ z. Some z) same))
      by_read None read told_is = absurd (cc told_is)
  done_by_words only (became.Undone undone.Spent) words reply place is = absurd cc
  done_by_words only (became.Undone undone.Failed) words reply place is = absurd cc
  done_by_words only (became.Undone undone.Doubt) words reply place is = absurd cc

  -- the step of a call that words are read as
  abbrev stepped : ℕ → S → ℕ → Option C → Option (S × List ℕ)
  stepped order s k o = option_map (λ (c : C). let done = m.step order s k c in (done.0, m.reply_words done.1)) o

  -- words that are a call's have one
  pub call_steps : (words : List ℕ) → IsSome (m.words_call words) → (order : ℕ) (s : S) (k : ℕ) → IsSome (on_words m order s k words)
  call_steps words some order s k = by_read (m.words_call words) some
    where
      by_read : (o : Option C) → IsSome o → IsSome (stepped order s k o)
      by_read (Some c) there = refl
      by_read None there = absurd (cc there)

  module _ (few : (order : ℕ) (s : S) (count : ℕ) (words : List ℕ) (call : C) → m.words_call words ≡ Some call → length (m.reply_words (m.step order s count call).1) ≤ 2 * length words) where
    entry_few : (order : ℕ) (s : S) (k : ℕ) (e : Entry) (o : Option C) → m.words_call e.args ≡ o → IsSomeAnd (stepped order s k o) (λ done. e.reply ≡ done.1) → length e.reply ≤ 2 * length e.args
    entry_few order s k e (Some c) is replied = omega (arith, ap length replied, few order s k e.args c is)
    entry_few order s k e None is replied = absurd replied

    -- in a legal history each reply has at most twice the words of its call
    pub legal_few : (order : ℕ) (s : S) (k : ℕ) (es : List Entry) (i : ℕ) (e : Entry) → IsLegal (on_words m) order s k es → slice_get es i ≡ Some e → length e.reply ≤ 2 * length e.args
    legal_few order s k [] i e legal at = absurd (cc at)
    legal_few order s k (x ∷ es) zero e legal at = subst (λ (z : Entry). length z.reply ≤ 2 * length z.args) (let same : x ≡ e = cc in same) (entry_few order s k x (m.words_call x.args) refl legal.0)
    legal_few order s k (x ∷ es) (suc i) e legal at = legal_few order (left s (on_words m order s k x.args)) (k + 1) es i e legal.1 at
