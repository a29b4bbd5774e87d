-- The texts of replies where there are guarded groups.
use Rattle.std.specs.Prelude.{ℕ, ◌^◌, ◌<◌, List, [], ◌∷◌, ◌++◌, codes, decimal}
use Rattle.std.specs.List.{AllByRecursion, flat_map}
use Rattle.rom_text.specs.Text.{ShownText}
use Rattle.rom_guard.specs.declared.call.GuardedReply.{GuardedReply}
use Rattle.rom_guard.specs.declared.call.GuardedReply.TheVariants as reply

module _ {T : Type 0} (told : ShownText T) where
  -- what a member was told that stands behind others, with its separator
  abbrev pub next_text : T → List ℕ
  next_text t = codes " ; " ++ told.text t

  -- what the members of a group were told that was done
  abbrev pub done_text : List T → List ℕ
  done_text [] = codes "done"
  done_text (t ∷ all) = codes "done " ++ (told.text t ++ flat_map next_text all)

  -- which member of a group did not succeed, and what it was told
  abbrev pub undone_text : ℕ → T → List ℕ
  undone_text member why = codes "undone " ++ decimal member ++ codes " " ++ told.text why

module _ {R T : Type 0} (own : ShownText R) (told : ShownText T) where
  -- what each member was told; or which one did not succeed, and what it was told
  abbrev pub guarded_text : GuardedReply R T (List T) → List ℕ
  guarded_text (reply.Own r) = own.text r
  guarded_text (reply.All all) = done_text told all
  guarded_text (reply.Undone member why) = undone_text told member why

  -- the numbers of a reply are of their types
  abbrev pub GuardedFits : GuardedReply R T (List T) → Type 0
  GuardedFits (reply.Own r) = own.Fits r
  GuardedFits (reply.All all) = AllByRecursion told.Fits all
  GuardedFits (reply.Undone member why) = (member < 2 ^ 64) × told.Fits why

  -- how a reply is printed
  abbrev pub shown_guarded : ShownText (GuardedReply R T (List T))
  shown_guarded = record { text = guarded_text; Fits = GuardedFits }
