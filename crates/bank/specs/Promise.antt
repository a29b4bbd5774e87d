-- What is known of a teller that has worked, and what the history of tellers has.
use Rattle.std.specs.Prelude.{◌≡◌, ℕ, zero, suc, ◌+◌, ◌*◌, ◌%◌, ◌<◌, ◌==◌, List, [], ◌∷◌, ◌++◌, filter, length, map, take}
use Rattle.std.specs.List.{AllByRecursion, enumerate_from}
use Rattle.rom_model.specs.Codes.{call_words}
use Rattle.rom_model.specs.History.{after}
use Rattle.rom_model.specs.Lawful.{told_to}
use Rattle.rom_model.specs.Machine.{on_words}
use Rattle.rom_model.specs.Region.{Contents}
use Rattle.rom_model.specs.Seen.{StartsWith, done_in}
use Rattle.rom_model.specs.State.{State, total_of}
use Rattle.rom_model.specs.Story.{Story, own}
use Rattle.rom_model.specs.Trio.{trio}
use Rattle.rom_model.specs.declared.call.Call.TheVariants.{Move}
use Rattle.rom_model.specs.declared.entry.Entry.{Entry}
use Rattle.rom_model.specs.declared.kept.Kept.{Kept}
use Rattle.rom_rule.specs.declared.views.Base.{Base}
use Rattle.rom_store.specs.Indexed.{Indexed}
use Rattle.bank.specs.Moved.{IsMove, moved_in}
use Rattle.bank.specs.declared.Tally.{Tally}

-- the sum of the map's values in the state after these updates, in a heap of that order
abbrev pub total_after : ℕ → State → ℕ → List Entry → ℕ
total_after order s k history = total_of (after (on_words trio) order s k history)

-- the words of the first moves of a teller, who goes round the accounts and moves 1 from each to the next
abbrev pub rounds : ℕ → List (List ℕ)
rounds zero = []
rounds (suc n) = rounds n ++ call_words (Move (n % 16) ((n + 1) % 16) 1) ∷ []

-- A read of a caller behind so many rounds, and this one: its total is that of the state after the first updates of what it has seen, as many as its front says, and of the caller's own these are the ones that are done of what it had tried by then.
pub record IsReadOf (order : ℕ) (s : State) (k : ℕ) (v : Kept) (round : ℕ) (read : ℕ × ℕ) : Type 0 where
  pub at : List Entry
  pub learnt : StartsWith v.seen at
  pub front : read.1 ≡ k + length at
  pub total : read.0 ≡ total_after order s k at
  pub own : filter (λ x. x.1.caller == v.number) (enumerate_from k at) ≡ done_in (take (16 * (round + 1)) v.told)

-- A teller was told of the first n moves of its rounds and of no other update, counts those that were made, and has read behind so many rounds; there is room for four reads.
pub record HasTallied (base : Base) (n rounds_read : ℕ) (v : Kept) (tally : Tally) : Type 0 where
  pub asked : map (λ x. x.0.args) v.told ≡ rounds n
  pub moved : tally.moved ≡ moved_in (done_in v.told)
  pub four : length tally.reads ≡ 4
  pub reads : (s : State) (k : ℕ) → Contents base.order base.image s k → Indexed (λ round read. round < rounds_read → IsReadOf base.order s k v round read) tally.reads

-- what is known of each of the tellers once it has worked: it has tried 64 moves and read behind four rounds
abbrev pub HasWorked : Base → ℕ → Kept → Tally → Type 0
HasWorked base index v tally = HasTallied base 64 4 v tally

-- The passes found of this caller these 64 moves, in order, and no other update; and the history has as many that were made as it counts.
pub record IsTallyOf (story : Story State) (caller : ℕ) (tally : Tally) : Type 0 where
  pub asked : map (λ x. x.0.args) (told_to trio story caller) ≡ rounds 64
  pub moved : tally.moved ≡ moved_in (own story caller)

-- The history has moves alone, and the total in each of its states, from the opening on, is this one.
pub record KeepsTotal (total : ℕ) (story : Story State) : Type 0 where
  pub moves : AllByRecursion (λ e. IsMove e.args) story.history
  pub stays : (at : List Entry) → StartsWith story.history at → total_after story.order story.opening story.opening_count at ≡ total
