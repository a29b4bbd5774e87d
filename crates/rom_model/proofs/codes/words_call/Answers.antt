use Rattle.std.proofs.Common.{◌≡◌, sym, ap, ◌∙◌, Some, None, List, ℕ}
use Rattle.std.specs.Prelude.{Option, IfSome, IfNone}
use Rattle.rom_model.specs.declared.call.Call.{Call}
use Rattle.rom_model.specs.Groups.{HasSize}
use Rattle.rom_model.specs.Singles.{kind_of}
use Rattle.rom_model.specs.Codes.{words_call, call_words}
use Rattle.rom_model.proofs.Tags.{call_only, call_back, has_size}
use Rattle.rom_model.proofs.codes.words_call.Goals as goal

only : (words : List ℕ) (o : Option Call) → o ≡ words_call words → IfSome o (λ x. words ≡ call_words x)
only words (Some x) is = sym (call_only words x (sym is))
only words None is = tt

size : (words : List ℕ) (o : Option Call) → o ≡ words_call words → IfSome o (λ x. HasSize (kind_of x))
size words (Some x) is = has_size words x (sym is)
size words None is = tt

none : (words : List ℕ) (o : Option Call) → o ≡ words_call words → IfNone o ((x : Call) → HasSize (kind_of x) → words ≡ call_words x → ⊥)
none words (Some x) is = tt
none words None is = λ x size same. absurd (let never : None ≡ Some x = is ∙ (ap words_call same ∙ call_back x size) in cc)

pub returns : goal.returns
returns c =
    let is = c.read_call.ensures ∙ ap words_call c.as_slice.ensures.words in
    record { call = is; size = size c.args.words.now c.read_call.result is; only = only c.args.words.now c.read_call.result is; none = none c.args.words.now c.read_call.result is }
