-- The words that name what an update is told.
use Rattle.std.specs.Prelude.{◌≡◌, ℕ, false, ◌||◌, if◌then◌else◌, List, [], ◌∷◌, ◌++◌, codes, decimal}
use Rattle.std.proofs.Common.{refl, ap, ◌∙◌}
use Rattle.std.proofs.lemmas.Bool.{or_parts}
use Rattle.std.proofs.lemmas.List.{append_assoc}
use Rattle.std.specs.List.{AllByRecursion}
use Rattle.std.specs.Str.{bytes_eq}
use Rattle.rom_model.specs.declared.call.SingleReply.TheVariants as single
use Rattle.rom_model.specs.declared.call.Reply.{Reply}
use Rattle.rom_model.specs.declared.call.Reply.TheVariants as reply
use Rattle.rom_text.specs.Trio.{ReplyFits, reply_text}
use Rattle.rom_text.proofs.Naming.{IsNamed, number_of}
use Rattle.rom_text.proofs.Reading.{decimal_is_a_word, decimal_read, wide, with_spaces}
use Rattle.rom_script.proofs.GroupLines as lines
use Rattle.rom_guard.specs.Texts.{GuardedFits, guarded_text}
use Rattle.rom_guard.specs.declared.call.GuardedReply.{GuardedReply}
use Rattle.rom_guard.specs.declared.call.GuardedReply.TheVariants as guarded
use Rattle.rom_ledger.specs.declared.call.LedgerTold.{LedgerTold}
use Rattle.rom_ledger.specs.declared.call.LedgerTold.TheVariants as told
use Rattle.rom_ledger.specs.declared.call.LedgerReply.{LedgerReply}
use Rattle.rom_ledger.specs.declared.call.LedgerReply.TheVariants as answer
use Rattle.rom_ledger.specs.State.{reply_to}
use Rattle.rom_ledger.specs.Texts.{ToldFits, shown_ledger_reply, shown_told, told_text}
use Rattle.rom_ledger.proofs.Said.{alone_are_words, alone_seen, alone_spaced, done_are_words, done_seen, done_spaced, done_words, said, seen_in, with_number, word_of}

-- a reply
abbrev pub Told : Type 0
Told = GuardedReply LedgerReply LedgerTold (List LedgerTold)

-- the first of what was told
abbrev first_of : List LedgerTold → LedgerTold
first_of [] = told.Other 0
first_of (t ∷ all) = t

-- what words tell of one update
abbrev alone_of : List (List ℕ) → LedgerTold
alone_of ws = first_of (seen_in ws).1

-- which member did not succeed, and what it was told
abbrev undone_of : List (List ℕ) → Told
undone_of [] = guarded.All []
undone_of (i ∷ ws) = guarded.Undone (number_of (i ∷ [])) (alone_of ws)

-- the reply that words name
abbrev pub reply_by : List ℕ → List (List ℕ) → Told
reply_by w ws =
    if bytes_eq w (codes "all") then guarded.Own (answer.Heap (reply.All (lines.seen_in ws).1)) else
    (if bytes_eq w (codes "done") then guarded.All (seen_in ws).1 else
    (if bytes_eq w (codes "undone") then undone_of ws else guarded.Own (reply_to (alone_of (w ∷ ws)))))

-- the word begins no reply to a group
own_by : (w : List ℕ) (ws : List (List ℕ)) → (bytes_eq w (codes "all") || (bytes_eq w (codes "done") || bytes_eq w (codes "undone"))) ≡ false → reply_by w ws ≡ guarded.Own (reply_to (alone_of (w ∷ ws)))
own_by w ws none =
    let one = or_parts (bytes_eq w (codes "all")) (bytes_eq w (codes "done") || bytes_eq w (codes "undone")) none in
    let two = or_parts (bytes_eq w (codes "done")) (bytes_eq w (codes "undone")) one.1 in
    let own : Told = guarded.Own (reply_to (alone_of (w ∷ ws))) in
    let undone : Told = undone_of ws in
    let done : Told = guarded.All (seen_in ws).1 in
    ap (λ b. if b then guarded.Own (answer.Heap (reply.All (lines.seen_in ws).1)) else (if bytes_eq w (codes "done") then done else (if bytes_eq w (codes "undone") then undone else own))) one.0
    ∙ (ap (λ b. if b then done else (if bytes_eq w (codes "undone") then undone else own)) two.0
    ∙ ap (λ b. if b then undone else own) two.1)

-- what an update of one structure is told that is done alone
alone_named : (t : LedgerTold) → ToldFits t → IsNamed reply_by (told_text t) (guarded.Own (reply_to t))
alone_named t fits = record {
  first = (said t).word;
  others = with_number (said t).number [];
  is = alone_spaced t;
  begun = (said t).begun;
  words = alone_are_words t;
  names = own_by (said t).word (with_number (said t).number []) (said t).alone ∙ ap (λ s. guarded.Own (reply_to (first_of s.1))) (alone_seen t fits);
}

-- what a heap tells
heap_named : (r : Reply) → ReplyFits r → IsNamed reply_by (reply_text r) (guarded.Own (answer.Heap r))
heap_named reply.Queued fits = alone_named (told.Heap single.Queued) fits
heap_named reply.Full fits = alone_named (told.Heap single.Full) fits
heap_named (reply.Head v) fits = alone_named (told.Heap (single.Head v)) fits
heap_named reply.Empty fits = alone_named (told.Heap single.Empty) fits
heap_named reply.Added fits = alone_named (told.Heap single.Added) fits
heap_named reply.Present fits = alone_named (told.Heap single.Present) fits
heap_named reply.Removed fits = alone_named (told.Heap single.Removed) fits
heap_named reply.Absent fits = alone_named (told.Heap single.Absent) fits
heap_named reply.NoPrior fits = alone_named (told.Heap single.NoPrior) fits
heap_named (reply.Was v) fits = alone_named (told.Heap (single.Was v)) fits
heap_named reply.Moved fits = alone_named (told.Heap single.Moved) fits
heap_named (reply.Short v) fits = alone_named (told.Heap (single.Short v)) fits
heap_named reply.Over fits = alone_named (told.Heap single.Over) fits
heap_named (reply.All replies) fits = record {
  first = codes "all";
  others = lines.group_words replies;
  is = lines.all_spaced replies;
  begun = refl;
  words = lines.group_are_words replies;
  names = ap (λ s. guarded.Own (answer.Heap (reply.All s.1))) (lines.group_seen replies fits);
}

-- what the members of a guarded group were told
done_named : (all : List LedgerTold) → AllByRecursion ToldFits all → IsNamed reply_by (guarded_text shown_ledger_reply shown_told (guarded.All all)) (guarded.All all)
done_named all fits = record {
  first = codes "done";
  others = done_words all;
  is = done_spaced all;
  begun = refl;
  words = done_are_words all;
  names = ap (λ s. guarded.All s.1) (done_seen all fits);
}

undone_spaced : (i : ℕ) (w : List ℕ) (ws : List (List ℕ)) → codes "undone " ++ decimal i ++ codes " " ++ with_spaces w ws ≡ with_spaces (codes "undone") (decimal i ∷ w ∷ ws)
undone_spaced i w ws = simp append_assoc refl

-- which one did not succeed, and what it was told
undone_named : (i : ℕ) (t : LedgerTold) → GuardedFits shown_ledger_reply shown_told (guarded.Undone i t) → IsNamed reply_by (guarded_text shown_ledger_reply shown_told (guarded.Undone i t)) (guarded.Undone i t)
undone_named i t fits = record {
  first = codes "undone";
  others = decimal i ∷ (said t).word ∷ with_number (said t).number [];
  is = ap (λ x. codes "undone " ++ decimal i ++ codes " " ++ x) (alone_spaced t) ∙ undone_spaced i (said t).word (with_number (said t).number []);
  begun = refl;
  words = (decimal_is_a_word i, (word_of t, alone_are_words t));
  names = λ j. guarded.Undone (decimal_read i (wide i fits.0) j) (first_of (alone_seen t fits.1 j).1);
}

-- a reply's text is words that name it
pub reply_named : (r : Told) → GuardedFits shown_ledger_reply shown_told r → IsNamed reply_by (guarded_text shown_ledger_reply shown_told r) r
reply_named (guarded.Own (answer.Heap r)) fits = heap_named r fits
reply_named (guarded.Own (answer.Other v)) fits = alone_named (told.Other v) fits
reply_named (guarded.All all) fits = done_named all fits
reply_named (guarded.Undone i t) fits = undone_named i t fits
