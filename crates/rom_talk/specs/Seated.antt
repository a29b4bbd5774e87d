-- Callers and their peers, and what was found of their talks.
use Rattle.std.specs.Prelude.{◌≡◌, ℕ, false, if◌then◌else◌, List}
use Rattle.std.specs.List.{list_any}
use Rattle.atomic_table.specs.Seated.{TableId}
use Rattle.rom_model.specs.Machine.{Machine}
use Rattle.rom_model.specs.declared.line.Step.{Step}
use Rattle.rom_hear.specs.Peers.{ShownPeer}
use Rattle.rom_rule.specs.declared.views.Base.{Base}
use Rattle.rom_store.specs.Callers.{Caller}
use Rattle.rom_text.specs.Text.{Texts}
use Rattle.rom_talk.specs.Serving.{IsReady}
use Rattle.rom_talk.specs.Talks.{is_unheard, is_unsaid}
use Rattle.rom_talk.specs.declared.talker.Talker.{Talker}

module _ {P : Type 0} where
  -- nothing is noted of its lines
  abbrev pub IsUnnoted : Talker P → Type 0
  IsUnnoted t = (t.unread ≡ false) × (t.faulted ≡ false)

  -- the number of the status that the talks lead to
  abbrev pub number_found : List (Talker P) → ℕ
  number_found talkers =
      if list_any (λ t. t.faulted) talkers then 7 else
      if list_any (λ t. is_unsaid t.ending) talkers then 5 else
      if list_any (λ t. is_unheard t.ending) talkers then 4 else
      if list_any (λ t. t.unread) talkers then 1 else 0

-- On an opened heap, a caller that has done nothing meets a peer that nothing has passed with.
pub record IsSeatedReady {S C Q R A P : Type 0} (machine : Machine S C Q R A) (Contents : ℕ → List ℕ → S → ℕ → Type 0) (table : TableId) (base : Base) (peer : ShownPeer Caller P) (texts : Texts R A) (Reads : List ℕ → Step C Q → Type 0) (t : Talker P) : Type 0 where
  pub opened : (s : S) × (k : ℕ) × Contents base.order base.image s k
  pub ready : IsReady machine Contents table base peer texts Reads t.pass t.peer
  pub unnoted : IsUnnoted t
