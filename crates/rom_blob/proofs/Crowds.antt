-- An update is told `full` only where much room is in use, in each state of a history.
use Rattle.std.proofs.Common.{◌≡◌, ℕ, ◌+◌, ◌≤◌, true, false, List, [], ◌∷◌, ◌++◌, sym, ap, subst, ◌∙◌}
use Rattle.std.specs.Prelude.{IfSome, IsNone, IsSomeAnd, None, Option, Some, option_map}
use Rattle.rom_model.specs.History.{IsLegal, after, left}
use Rattle.rom_model.specs.Machine.{on_words}
use Rattle.rom_model.specs.Story.{Story}
use Rattle.rom_model.specs.declared.entry.Entry.{Entry}
use Rattle.rom_model.specs.declared.kept.Kept.{Kept}
use Rattle.rom_device.specs.Device.{ShownDevice}
use Rattle.rom_store.specs.Sessions.{EachStory, SessionSeen}
use Rattle.rom_run.specs.Use.{HasNotRun, Use, heap_of}
use Rattle.rom_run.specs.Working.{HasSession}
use Rattle.rom_blob_region.specs.State.{BlobState, MayRefuse, blob_step}
use Rattle.rom_blob_region.specs.Region.{BlobContents}
use Rattle.rom_blob_region.specs.declared.call.BlobCall.{BlobCall}
use Rattle.rom_blob_region.specs.declared.call.BlobReply.{BlobReply}
use Rattle.rom_blob_region.specs.declared.call.BlobReply.TheVariants.{Full}
use Rattle.rom_blob_region.proofs.Bounding.{refused_bound}
use Rattle.rom_blob_region.proofs.Ranges.{IsRanged, contents_ranged, step_ranged}
use Rattle.rom_blob.specs.Blobs.{blobs}
use Rattle.rom_blob.specs.Codes.{blob_call_from_words, blob_reply_from_words, blob_reply_words}
use Rattle.rom_blob.specs.Crowded.{IsFullWhereCrowded}
use Rattle.rom_blob.specs.Tags.{blob_reply_read_back}

-- the words of a reply are of it alone
full_only : (told : BlobReply) → blob_reply_words told ≡ blob_reply_words Full → told ≡ Full
full_only told same = let both : Some told ≡ Some Full = sym (blob_reply_read_back told) ∙ ap blob_reply_from_words same in cc

module _ (n : ℕ) (le : 4 ≤ n) where
  -- the blocks after an update stand as those before
  left_ranged : (s : BlobState) (k : ℕ) (args : List ℕ) → IsRanged n s → IsRanged n (left s (on_words blobs n s k args))
  left_ranged s k args ranged = go (blob_call_from_words args)
    where
      go : (found : Option BlobCall) → IsRanged n (left s (option_map (λ call. let done = blob_step n s k call in (done.0, blob_reply_words done.1)) found))
      go None = ranged
      go (Some call) = step_ranged n s k call ranged

  -- an update that was told so
  here_crowded : (s : BlobState) (k : ℕ) (entry : Entry) (call : BlobCall) → IsRanged n s → IsSomeAnd (on_words blobs n s k entry.args) (λ done. entry.reply ≡ done.1) → blob_call_from_words entry.args ≡ Some call → entry.reply ≡ blob_reply_words Full → MayRefuse n s call
  here_crowded s k entry call ranged replied is full =
      let told : entry.reply ≡ blob_reply_words (blob_step n s k call).1 = subst (λ (found : Option BlobCall). IsSomeAnd {T = BlobState × List ℕ} (option_map (λ call. let done = blob_step n s k call in (done.0, blob_reply_words done.1)) found) (λ done. entry.reply ≡ done.1)) is replied in
      refused_bound n s le ranged k call (full_only (blob_step n s k call).1 (sym told ∙ full))

  -- behind some others
  each_crowded : (before behind : List Entry) (entry : Entry) (call : BlobCall) (s : BlobState) (k : ℕ) → IsRanged n s → IsLegal (on_words blobs) n s k (before ++ entry ∷ behind) → blob_call_from_words entry.args ≡ Some call → entry.reply ≡ blob_reply_words Full → MayRefuse n (after (on_words blobs) n s k before) call
  each_crowded [] behind entry call s k ranged legal is full = here_crowded s k entry call ranged legal.0 is full
  each_crowded (e ∷ before) behind entry call s k ranged legal is full = each_crowded before behind entry call (left s (on_words blobs n s k e.args)) (k + 1) (left_ranged s k e.args ranged) legal.1 is full

-- so in each story of a session, where its history is legal
module _ {D : Type 0} (shown : ShownDevice D) (was now : D) (P : List Kept → Story BlobState → Type 0) (legal : (callers : List Kept) (story : Story BlobState) → P callers story → IsLegal (on_words blobs) story.order story.opening story.opening_count story.history) where
  story_crowded : (use_is : Use) (seen : SessionSeen) → HasSession blobs BlobContents shown (heap_of use_is) was now P seen → EachStory blobs BlobContents seen IsFullWhereCrowded
  story_crowded use_is seen has story of before behind entry call split is full =
      let order : 4 ≤ story.order = subst (λ n. 4 ≤ n) (sym of.order_is) of.opening.1.order.least in
      let ranged : IsRanged story.order story.opening = subst (λ n. IsRanged n story.opening) (sym of.order_is) (contents_ranged of.opening) in
      let its = subst (λ history. IsLegal (on_words blobs) story.order story.opening story.opening_count history) split (legal seen.callers story (has.told story of)) in
      each_crowded story.order order before behind entry call story.opening story.opening_count ranged its is full

  -- and where there is none no session is
  pub sessions_crowded : (asked : Option Use) (status : ℕ) (session : Option SessionSeen) → IfSome asked (λ does. IfSome session (HasSession blobs BlobContents shown (heap_of does) was now P)) → (HasNotRun asked status → IsNone session)
      → IfSome session (λ seen. EachStory blobs BlobContents seen IsFullWhereCrowded)
  sessions_crowded asked status None has none = tt
  sessions_crowded None status (Some seen) has none = absurd (let never : true ≡ false = none tt in cc)
  sessions_crowded (Some does) status (Some seen) has none = story_crowded does seen has
