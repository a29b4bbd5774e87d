-- How records and histories end.
use Rattle.std.proofs.Common.{◌≡◌, ℕ, ◌-◌, List, [], ◌∷◌, ◌++◌, take, Option, refl, ap, arith}
use Rattle.std.proofs.lemmas.List.{take_all}
use Rattle.rom_model.specs.History.{after}
use Rattle.rom_model.specs.Story.{Story, count, len_after, state_at}
use Rattle.rom_model.specs.declared.entry.Entry.{Entry}
use Rattle.rom_model.specs.declared.record.PassRecord.{PassRecord}

-- the last record's length is where they end
pub len_more : (len : ℕ) (rs : List PassRecord) (r : PassRecord) → len_after len (rs ++ r ∷ []) ≡ r.len
len_more len [] r = refl
len_more len (x ∷ rs) r = len_more x.len rs r

-- The state where the story ends is the one after its history.
pub state_whole : {S : Type 0} (step : ℕ → S → ℕ → List ℕ → Option (S × List ℕ)) (story : Story S) → state_at step story (count story) ≡ after step story.order story.opening story.opening_count story.history
state_whole step story = ap (λ (l : List Entry). after step story.order story.opening story.opening_count l) (let all : take (count story - story.opening_count) story.history ≡ story.history = take_all (count story - story.opening_count) story.history (omega arith) in all)
