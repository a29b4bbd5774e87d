-- What follows from the status that talks lead to.
use Rattle.std.specs.Prelude.{◌≡◌, ◌⊎◌, ◌||◌, ℕ, zero, suc, Bool, true, false, if◌then◌else◌, List, [], ◌∷◌, Some, slice_get}
use Rattle.std.proofs.Common.{refl, sym, ◌∙◌, arith, inl, inr}
use Rattle.std.specs.List.{list_any}
use Rattle.rom_model.specs.Faults.{Rose}
use Rattle.rom_model.specs.Machine.{Machine}
use Rattle.rom_model.specs.Story.{Story}
use Rattle.rom_model.specs.declared.line.Step.{Step}
use Rattle.rom_model.specs.declared.line.LineResult.{LineResult}
use Rattle.rom_device.specs.Device.{ShownDevice}
use Rattle.rom_hear.specs.Peers.{ShownPeer}
use Rattle.rom_run.specs.Statuses.{is_faulted, is_unread}
use Rattle.rom_run.proofs.Completing.{once_rose}
use Rattle.rom_store.specs.Callers.{Caller}
use Rattle.rom_text.specs.Text.{Texts}
use Rattle.rom_talk.specs.Talks.{AllHaveTalked, HasEndedAs, KeepToIt, is_unheard, is_unsaid, talk_status}
use Rattle.rom_talk.specs.declared.ending.Ending.{Ending}
use Rattle.rom_talk.specs.declared.ending.Ending.TheVariants.{Over, Unheard, Unsaid}

-- The number of a status, by what is found.
abbrev found : Bool → Bool → Bool → Bool → ℕ
found faulted unsaid unheard unread = if faulted then 7 else if unsaid then 5 else if unheard then 4 else if unread then 1 else 0

found_is : (a b c d : Bool) (n : ℕ) → n ≡ found a b c d → (n ≡ 0) ⊎ (n ≡ 1) ⊎ (n ≡ 4) ⊎ (n ≡ 5) ⊎ (n ≡ 7)
found_is true b c d n is = inr (inr (inr (inr is)))
found_is false true c d n is = inr (inr (inr (inl is)))
found_is false false true d n is = inr (inr (inl is))
found_is false false false true n is = inr (inl is)
found_is false false false false n is = inl is

found_seven : (a b c d : Bool) → ◌≡◌ {A = ℕ} 7 (found a b c d) → a ≡ true
found_seven true b c d is = refl
found_seven false true c d is = absurd (omega (arith, is))
found_seven false false true d is = absurd (omega (arith, is))
found_seven false false false true is = absurd (omega (arith, is))
found_seven false false false false is = absurd (omega (arith, is))

found_five : (a b c d : Bool) → ◌≡◌ {A = ℕ} 5 (found a b c d) → b ≡ true
found_five true b c d is = absurd (omega (arith, is))
found_five false true c d is = refl
found_five false false true d is = absurd (omega (arith, is))
found_five false false false true is = absurd (omega (arith, is))
found_five false false false false is = absurd (omega (arith, is))

found_four : (a b c d : Bool) → ◌≡◌ {A = ℕ} 4 (found a b c d) → c ≡ true
found_four true b c d is = absurd (omega (arith, is))
found_four false true c d is = absurd (omega (arith, is))
found_four false false true d is = refl
found_four false false false true is = absurd (omega (arith, is))
found_four false false false false is = absurd (omega (arith, is))

module _ {R A : Type 0} (endings : List Ending) (results : List (List (LineResult R A))) (status : ℕ) (is : status ≡ talk_status endings results) where
  -- it is one of these
  pub talk_ends : (status ≡ 0) ⊎ (status ≡ 1) ⊎ (status ≡ 4) ⊎ (status ≡ 5) ⊎ (status ≡ 7)
  talk_ends = found_is (list_any (λ rs. list_any is_faulted rs) results) (list_any is_unsaid endings) (list_any is_unheard endings) (list_any (λ rs. list_any is_unread rs) results) status is

  -- with 7 a line tells of a fault
  pub talk_faulted : status ≡ 7 → list_any (λ rs. list_any is_faulted rs) results ≡ true
  talk_faulted seven = found_seven _ (list_any is_unsaid endings) (list_any is_unheard endings) (list_any (λ rs. list_any is_unread rs) results) (sym seven ∙ is)

  -- with 5 a peer took no more
  pub talk_unsaid : status ≡ 5 → list_any is_unsaid endings ≡ true
  talk_unsaid five = found_five (list_any (λ rs. list_any is_faulted rs) results) _ (list_any is_unheard endings) (list_any (λ rs. list_any is_unread rs) results) (sym five ∙ is)

  -- with 4 one could not be heard to its end
  pub talk_unheard : status ≡ 4 → list_any is_unheard endings ≡ true
  talk_unheard four = found_four (list_any (λ rs. list_any is_faulted rs) results) (list_any is_unsaid endings) _ (list_any (λ rs. list_any is_unread rs) results) (sym four ∙ is)

module _ {P : Type 0} (peer : ShownPeer Caller P) where
  -- nothing is asked of peers that stay as they are
  pub all_stay : (peers : List P) → KeepToIt peer peers peers
  all_stay [] = tt
  all_stay (p ∷ peers) = (record { asked_once = inl refl; stops_saying = inl refl; rest = refl }, all_stay peers)

  -- a peer that took no more has counted it
  rose_unsaid : (end : Ending) (was left : P) → HasEndedAs peer end was left → is_unsaid end ≡ true → Rose (peer.unsaid was) (peer.unsaid left)
  rose_unsaid Over was left ended is = absurd (let no : ⊥ = cc in no)
  rose_unsaid Unheard was left ended is = absurd (let no : ⊥ = cc in no)
  rose_unsaid Unsaid was left ended is = once_rose _ _ ended.1.once

  -- and so has one that could not be heard to its end
  rose_unheard : (end : Ending) (was left : P) → HasEndedAs peer end was left → is_unheard end ≡ true → Rose (peer.unheard was) (peer.unheard left)
  rose_unheard Over was left ended is = absurd (let no : ⊥ = cc in no)
  rose_unheard Unheard was left ended is = once_rose _ _ ended.0
  rose_unheard Unsaid was left ended is = absurd (let no : ⊥ = cc in no)

  -- at some place these two have this
  abbrev pub SomePair : (P → P → Type 0) → List P → List P → Type 0
  SomePair Has before after = (i : ℕ) × (one : P) × (other : P) × (slice_get before i ≡ Some one) × (slice_get after i ≡ Some other) × Has one other

  -- which stand one place later behind two others
  behind : (Has : P → P → Type 0) (was left : P) (before after : List P) → SomePair Has before after → SomePair Has (was ∷ before) (left ∷ after)
  behind Has was left before after (i, one, other, first, second, has) = (suc i, one, other, first, second, has)

  module _ {S C Q R A D : Type 0} (machine : Machine S C Q R A) (Contents : ℕ → List ℕ → S → ℕ → Type 0) (shown : ShownDevice D) (texts : Texts R A) (Reads : List ℕ → Step C Q → Type 0) (story : Story S) (now : D) where
    -- some talk ended so
    some_ended : (test : Ending → Bool) (Has : P → P → Type 0) → ((end : Ending) (was left : P) → HasEndedAs peer end was left → test end ≡ true → Has was left) →
        (before after : List P) (endings : List Ending) (scripts : List (List (Step C Q))) (results : List (List (LineResult R A))) →
        AllHaveTalked machine Contents shown peer texts Reads story now before after endings scripts results → list_any test endings ≡ true → SomePair Has before after
    some_ended test Has by [] [] [] [] [] all is = absurd (let no : ⊥ = cc in no)
    some_ended test Has by (was ∷ before) (left ∷ after) (end ∷ endings) (steps ∷ scripts) (results ∷ more) all is =
        go (test end) refl is (some_ended test Has by before after endings scripts more all.1)
      where
        go : (b : Bool) → test end ≡ b → (b || list_any test endings) ≡ true → (list_any test endings ≡ true → SomePair Has before after) → SomePair Has (was ∷ before) (left ∷ after)
        go true here is rest = (zero, was, left, refl, refl, by end was left all.0.ended here)
        go false here is rest = behind Has was left before after (rest is)
    some_ended test Has by before after endings scripts results all is = absurd all

    -- where one took no more its count rose
    pub some_unsaid : (before after : List P) (endings : List Ending) (scripts : List (List (Step C Q))) (results : List (List (LineResult R A))) →
        AllHaveTalked machine Contents shown peer texts Reads story now before after endings scripts results → list_any is_unsaid endings ≡ true → SomePair (λ one other. Rose (peer.unsaid one) (peer.unsaid other)) before after
    some_unsaid before after endings scripts results all is = some_ended is_unsaid _ rose_unsaid before after endings scripts results all is

    -- and where one could not be heard to its end
    pub some_unheard : (before after : List P) (endings : List Ending) (scripts : List (List (Step C Q))) (results : List (List (LineResult R A))) →
        AllHaveTalked machine Contents shown peer texts Reads story now before after endings scripts results → list_any is_unheard endings ≡ true → SomePair (λ one other. Rose (peer.unheard one) (peer.unheard other)) before after
    some_unheard before after endings scripts results all is = some_ended is_unheard _ rose_unheard before after endings scripts results all is
