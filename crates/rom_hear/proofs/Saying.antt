-- What was said of a text, by one who knew this.
use Rattle.std.specs.Prelude.{◌≡◌, ℕ, List, [], ◌∷◌, ◌++◌, length, take, drop, option_map, Option, None, Some, Result, Ok, Err}
use Rattle.std.specs.List.{concat}
use Rattle.std.specs.Io.KnownBytes.{Appends, Keeps, WriteAppends}
use Rattle.std.specs.Result.{MatchResult}
use Rattle.std.proofs.Common.{refl, sym, ap, subst, ◌∙◌, append_assoc, append-nil, arith}
use Rattle.std.proofs.lemmas.List.{append_cancel_left, drop_at, drop_all, map-append}
use Rattle.rom_text.specs.Streams.{AppendsText}
use Rattle.rom_hear.specs.Events.{Event, Said, pieces_said, said_in, saids}
use Rattle.rom_hear.specs.Peers.{Logs}
use Rattle.rom_hear.specs.Saying.{HasTold, OnlySaid}
use Rattle.rom_hear.proofs.Logs.{pieces_said-saids, said_in-append, said_in-saids}

module _ {K : Type 0} where
  -- nothing was said yet
  pub none_said : (knowing : K) (log now : Option (List (Event K))) → now ≡ log → OnlySaid knowing log now
  none_said knowing None now is = is
  none_said knowing (Some log) now is = subst (OnlySaid knowing (Some log)) (sym is) (sym (append-nil log) ∙ ap (λ (ps : List (Event K)). log ++ saids knowing (pieces_said ps)) (sym (drop_all (length log) log (omega arith))))

  one_more : (knowing : K) (log longer : List (Event K)) (bytes : List ℕ) → longer ≡ log ++ saids knowing (pieces_said (drop (length log) longer)) →
      longer ++ Said bytes knowing ∷ [] ≡ log ++ saids knowing (pieces_said (drop (length log) (longer ++ Said bytes knowing ∷ [])))
  one_more knowing log longer bytes only =
      let pieces : List (List ℕ) = pieces_said (drop (length log) longer) in
      let e : List (Event K) = Said bytes knowing ∷ [] in
      let all : longer ++ e ≡ log ++ (saids knowing pieces ++ e) = ap (λ (l : List (Event K)). l ++ e) only ∙ append_assoc log (saids knowing pieces) e in
      let rest : drop (length log) (longer ++ e) ≡ saids knowing pieces ++ e = ap (drop (length log)) all ∙ drop_at log (saids knowing pieces ++ e) (length log) refl in
      let said : pieces_said (drop (length log) (longer ++ e)) ≡ pieces ++ bytes ∷ [] = ap pieces_said rest ∙ pieces_said-saids knowing pieces e in
      all ∙ ap (λ (l : List (Event K)). log ++ l) (sym (ap (saids knowing) said ∙ map-append (λ (bs : List ℕ). Said bs knowing) pieces (bytes ∷ [])))

  -- a piece was said
  pub said_more : (knowing : K) (log was now : Option (List (Event K))) (bytes : List ℕ) → OnlySaid knowing log was → Logs was now (Said bytes knowing) → OnlySaid knowing log now
  said_more knowing None None now bytes only logs = logs
  said_more knowing None (Some longer) now bytes only logs = cc
  said_more knowing (Some log) None now bytes only logs = absurd only
  said_more knowing (Some log) (Some longer) None bytes only logs = absurd logs
  said_more knowing (Some log) (Some longer) (Some last) bytes only logs = subst (λ (l : List (Event K)). OnlySaid knowing (Some log) (Some l)) (sym logs) (one_more knowing log longer bytes only)

  -- it is taken
  pub said_bytes : (knowing : K) (was now : Option (List (Event K))) (bytes : List ℕ) → Logs was now (Said bytes knowing) → Appends (option_map said_in was) (option_map said_in now) bytes
  said_bytes knowing None now bytes logs = tt
  said_bytes knowing (Some log) None bytes logs = absurd logs
  said_bytes knowing (Some log) (Some longer) bytes logs = ap said_in logs ∙ said_in-append log (Said bytes knowing ∷ []) ∙ ap (λ (bs : List ℕ). said_in log ++ bs) (append-nil bytes)

  -- of a log that grew by what was said alone: these are the pieces
  of_pieces : (knowing : K) (log longer : List (Event K)) (text : List ℕ) → longer ≡ log ++ saids knowing (pieces_said (drop (length log) longer)) → said_in longer ≡ said_in log ++ text → concat (pieces_said (drop (length log) longer)) ≡ text
  of_pieces knowing log longer text only said =
      let pieces : List (List ℕ) = pieces_said (drop (length log) longer) in
      sym (said_in-saids knowing pieces)
      ∙ append_cancel_left (said_in log) _ _ (sym (said_in-append log (saids knowing pieces)) ∙ ap said_in (sym only) ∙ said)

  -- what a sink has taken of a text was said, and nothing else passed
  pub has_told : {T E : Type 0} (knowing : K) (log now : Option (List (Event K))) (result : Result T E) (text : List ℕ) → OnlySaid knowing log now →
      AppendsText (option_map said_in log) (option_map said_in now) result text → HasTold log now knowing result text
  has_told knowing None now result text only taken = only
  has_told knowing (Some log) None result text only taken = absurd only
  has_told knowing (Some log) (Some longer) (Ok v) text only taken = (pieces_said (drop (length log) longer), only, of_pieces knowing log longer text only taken)
  has_told knowing (Some log) (Some longer) (Err e) text only taken = (pieces_said (drop (length log) longer), only, (taken.0, of_pieces knowing log longer _ only taken.1))

  -- so by one saying
  pub said_by : {E : Type 0} (knowing : K) (log was now : Option (List (Event K))) (result : Result ℕ E) (piece : List ℕ) → OnlySaid knowing log was →
      MatchResult result (λ n. Logs was now (Said (take n piece) knowing)) (λ _. now ≡ was) → OnlySaid knowing log now
  said_by knowing log was now (Ok n) piece only logs = said_more knowing log was now (take n piece) only logs
  said_by knowing log was now (Err e) piece only same = subst (OnlySaid knowing log) (sym same) only

  pub said_bytes_by : {E : Type 0} (knowing : K) (was now : Option (List (Event K))) (result : Result ℕ E) (piece : List ℕ) →
      MatchResult result (λ n. Logs was now (Said (take n piece) knowing)) (λ _. now ≡ was) → WriteAppends (option_map said_in was) (option_map said_in now) result piece
  said_bytes_by knowing was now (Ok n) piece logs = said_bytes knowing was now (take n piece) logs
  said_bytes_by knowing was now (Err e) piece same = kept was now same
    where
      kept : (was now : Option (List (Event K))) → now ≡ was → Keeps (option_map said_in was) (option_map said_in now)
      kept None now same = tt
      kept (Some log) now same = subst (λ (o : Option (List (Event K))). Keeps (Some (said_in log)) (option_map said_in o)) (sym same) refl

  -- the same of one who knows the same, from the same log on
  pub same_said : (knowing same : K) (log was now : Option (List (Event K))) → same ≡ knowing → was ≡ log → OnlySaid same was now → OnlySaid knowing log now
  same_said knowing same log was now is from only = subst (λ (k : K). OnlySaid k log now) is (subst (λ (o : Option (List (Event K))). OnlySaid same o now) from only)
