-- The frames of a batch, and what became of their calls.
use Rattle.std.specs.Prelude.{◌≡◌, ◌≢◌, ◌⊎◌, ℕ, ◌+◌, ◌<◌, ◌≤◌, List, [], ◌∷◌, ◌++◌, length, map, take, Option, Some, None, slice_get}
use Rattle.rom_model.specs.Codes.{call_words, reply_words}
use Rattle.rom_frame.specs.declared.frame.Frame.{Frame}
use Rattle.rom_replica.specs.Turns.{applied}
use Rattle.rom_replica.specs.declared.stop.Stop.{Stop}
use Rattle.rom_replica.specs.declared.stop.Stop.TheVariants.{Diverged}
use Rattle.rom_tail.specs.declared.batch.Took.{Took}

-- the words of a frame's call
abbrev pub call_in : Frame → List ℕ
call_in f = call_words f.call

-- those of its reply
abbrev pub reply_in : Frame → List ℕ
reply_in f = reply_words f.reply

-- both
abbrev pub update_in : Frame → List ℕ × List ℕ
update_in f = (call_in f, reply_in f)

-- how many of these frames' places run on from a count
abbrev pub many_next : ℕ → List Frame → ℕ
many_next count frames = length (applied count frames)

-- Of the calls of these frames whose places run on from a count, so many were done, and told these replies. If fewer were done than there are, this is why.
module _ (count : ℕ) (frames : List Frame) (replies : List (List ℕ)) (done : ℕ) (short : Stop) where
  -- This frame, behind so many that were done and told what they say, stops the batch: no more were done; or it was told another reply.
  pub record IsFirstToStop (m : ℕ) (f : Frame) (stop : Stop) : Type 0 where
    pub place : f.place ≡ count + m
    pub why : ((stop ≡ short) × (m ≡ done)) ⊎ ((stop ≡ Diverged) × (m < done) × ((reply : List ℕ) × (slice_get replies m ≡ Some reply) × (reply ≢ reply_in f)))

  -- the first of the frames that are left stops it, if one does; else none is left
  abbrev pub EndsAtFirst : ℕ → List Frame → Option Stop → Type 0
  EndsAtFirst m [] None = Unit {0}
  EndsAtFirst m (f ∷ fs) (Some stop) = IsFirstToStop m f stop
  EndsAtFirst m rest other = ⊥

  -- The frames before a stop, as many as are counted: those whose places ran on were told what they say.
  pub record IsCompared (took : Took) : Type 0 where
    pub before : List Frame
    pub rest : List Frame
    pub split : frames ≡ before ++ rest
    pub many : took.counted ≡ length before
    pub reached : many_next count before ≤ done
    pub same : map reply_in (applied count before) ≡ take (many_next count before) replies
    pub ends : EndsAtFirst (many_next count before) rest took.stop
