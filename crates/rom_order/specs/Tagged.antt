-- The words of calls and replies stand for them alone.
use Rattle.std.proofs.Common.{◌≡◌, ℕ, List, [], ◌∷◌, Bool, true, false, refl, sym, ap, ◌∙◌, Some, None}
use Rattle.std.specs.Prelude.{Option, ◌==◌, if◌then◌else◌}
use Rattle.std.proofs.lemmas.Bool.{eqb-true}
use Rattle.rom_order_region.specs.declared.call.OrderCall.{OrderCall}
use Rattle.rom_order_region.specs.declared.call.OrderCall.TheVariants.{Put, Del}
use Rattle.rom_order_region.specs.declared.call.OrderReply.{OrderReply}
use Rattle.rom_order_region.specs.declared.call.OrderReply.TheVariants.{Was, NoPrior, Full}
use Rattle.rom_order.specs.Codes.{index_call_words, index_call_from_words, index_reply_words, index_reply_from_words}

-- the words of a call are read as that call
pub tagged_call_back : (call : OrderCall) → index_call_from_words (index_call_words call) ≡ Some call
tagged_call_back (Put k v) = refl
tagged_call_back (Del k) = refl

-- the words of a reply are read as that reply
pub tagged_reply_back : (reply : OrderReply) → index_reply_from_words (index_reply_words reply) ≡ Some reply
tagged_reply_back (Was v) = refl
tagged_reply_back NoPrior = refl
tagged_reply_back Full = refl

-- what is chosen by a test is what stands behind it, or it is chosen from the rest
choose : {X : Type 0} (b : Bool) (x c : X) (rest : Option X) (P : Type 0) → (b ≡ true → x ≡ c → P) → (rest ≡ Some c → P) → (if b then Some x else rest) ≡ Some c → P
choose true x c rest P here there is = here refl (let chosen : Some x ≡ Some c = is in cc)
choose false x c rest P here there is = there is

by_tag : {X : Type 0} (words : X → List ℕ) (tag own : ℕ) (x c : X) (behind : List ℕ) → words x ≡ own ∷ behind → (tag == own) ≡ true → x ≡ c → words c ≡ tag ∷ behind
by_tag words tag own x c behind its is same = ap words (sym same) ∙ its ∙ ap (λ t. t ∷ behind) (sym (eqb-true tag own is))

chosen : {X : Type 0} (words : X → List ℕ) (tag own : ℕ) (x c : X) (behind : List ℕ) (rest : Option X) → words x ≡ own ∷ behind → (rest ≡ Some c → words c ≡ tag ∷ behind) → (if tag == own then Some x else rest) ≡ Some c → words c ≡ tag ∷ behind
chosen words tag own x c behind rest its there = choose (tag == own) x c rest (words c ≡ tag ∷ behind) (by_tag words tag own x c behind its) there

-- words that are read as a call are the words of that call
pub tagged_call_only : (words : List ℕ) (call : OrderCall) → index_call_from_words words ≡ Some call → index_call_words call ≡ words
tagged_call_only [] call is = cc
tagged_call_only (tag ∷ []) call is = cc
tagged_call_only (tag ∷ k ∷ []) call is = chosen index_call_words tag 2 (Del k) call (k ∷ []) None refl (λ e. cc) is
tagged_call_only (tag ∷ k ∷ v ∷ []) call is = chosen index_call_words tag 1 (Put k v) call (k ∷ v ∷ []) None refl (λ e. cc) is
tagged_call_only (tag ∷ k ∷ v ∷ x ∷ more) call is = cc

-- words that are read as a reply are the words of that reply
pub tagged_reply_only : (words : List ℕ) (reply : OrderReply) → index_reply_from_words words ≡ Some reply → index_reply_words reply ≡ words
tagged_reply_only [] reply is = cc
tagged_reply_only (tag ∷ []) reply is = chosen index_reply_words tag 2 NoPrior reply [] (if tag == 3 then Some Full else None) refl (chosen index_reply_words tag 3 Full reply [] None refl (λ e. cc)) is
tagged_reply_only (tag ∷ v ∷ []) reply is = chosen index_reply_words tag 1 (Was v) reply (v ∷ []) None refl (λ e. cc) is
tagged_reply_only (tag ∷ v ∷ x ∷ more) reply is = cc
