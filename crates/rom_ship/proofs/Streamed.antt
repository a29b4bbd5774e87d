-- What a stream tells of each session, behind its head.
use Rattle.std.specs.Prelude.{◌≡◌, ℕ, Bool, true, false, List, ◌++◌, map, Option, Some, None, IfNone, IfSome, IsSome, IsSomeAnd, IsTrue, if◌then◌else◌}
use Rattle.std.proofs.Common.{refl, sym, subst, ◌∙◌}
use Rattle.rom_model.specs.Machine.{Machine}
use Rattle.rom_model.specs.Story.{Story}
use Rattle.rom_model.specs.declared.kept.Kept.{Kept}
use Rattle.rom_device.specs.Device.{ShownDevice}
use Rattle.rom_header.specs.Held.{Holds}
use Rattle.rom_combine.specs.Shipping.{Ships, text_from, update_of}
use Rattle.rom_text.specs.Streams.{ShownSink}
use Rattle.rom_frame.specs.declared.head.Head.{Head}
use Rattle.rom_store.specs.Sessions.{EachStory, SessionSeen}
use Rattle.rom_store.proofs.Handing.{ships_append}
use Rattle.rom_run.specs.Working.{HasSession}
use Rattle.rom_run.specs.declared.heap.Heap.TheVariants.{Standing}
use Rattle.rom_ship.specs.Streaming.{IsStreamed, head_text}
use Rattle.rom_ship.specs.Streams.{frame_text, shown_stream, sunk}
use Rattle.rom_ship.specs.declared.stream.FrameStream.{FrameStream}
use Rattle.rom_ship.proofs.Batches.{stream_of}

-- where the stream failed as it began, there was a head
pub some_failed : (head : Option Head) (failing : Bool) → IfNone head (failing ≡ false) → failing ≡ true → IsSome head
some_failed (Some h) failing on failed = refl
some_failed None failing on failed = absurd (let no : false ≡ true = sym on ∙ failed in cc)

module _ {S C Q R A D W : Type 0} (machine : Machine S C Q R A) (Contents : ℕ → List ℕ → S → ℕ → Type 0) (shown : ShownDevice D) (sink : ShownSink W) (met now : D) (given : W) (begun left : FrameStream W) (head : Option Head)
    (led : Ships (sunk sink given false) ((shown_stream sink).state begun) (head_text head))
    (first : IsTrue shown.tells_words → (order : ℕ) (s : S) (k : ℕ) → Holds Contents order (shown.words met) s k → IsSomeAnd head (λ h. h.first ≡ k)) where
  -- It was begun with the head, and then all that is done was shipped to it.
  pub stories_streamed : (P : List Kept → Story S → Type 0) (session : Option SessionSeen) → IfSome session (HasSession machine Contents shown Standing met now P) →
      IfSome session (λ s. EachStory machine Contents s (λ story. IsTrue true → Ships ((shown_stream sink).state begun) ((shown_stream sink).state left) (text_from frame_text story.opening_count (map update_of story.history)))) →
      IfSome session (λ s. EachStory machine Contents s (IsStreamed shown sink given left head))
  stories_streamed P None has shipped = tt
  stories_streamed P (Some session) has shipped = λ story is. record {
    first = λ tells. first tells story.order story.opening story.opening_count
        (subst (λ (b : Bool). IfSome (if b then Some (shown.words met) else None) (λ told. Holds Contents story.order told story.opening story.opening_count)) tells (has.each story is).opening);
    bytes = subst (λ text. Ships (sunk sink given false) ((shown_stream sink).state left) (head_text head ++ text)) (stream_of story.opening_count story.history)
        (ships_append (sunk sink given false) ((shown_stream sink).state begun) ((shown_stream sink).state left) (head_text head) _ led (shipped story is refl));
  }
