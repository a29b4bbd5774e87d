use Rattle.std.proofs.Common.{◌∷◌, codes, sym, subst, arith}
use Rattle.std.specs.Prelude.{IfNone}
use Rattle.rom_text.specs.Phrases.{line_words}
use Rattle.rom_blob.specs.Lines.{IsNoCall}
use Rattle.rom_blob.proofs.Asking.{set_words, no_set_bytes}
use Rattle.rom_blob.proofs.language.read_set.Goals as goal

pub returns-in_err-read_bytes-clause-none : goal.returns-in_err-read_bytes-clause-none
returns-in_err-read_bytes-clause-none c =
    let text = c.args.text.now in
    let split = c.in_ok-key in
    subst (λ o. IfNone o (IsNoCall (codes "set" ∷ line_words text))) (sym c.from_residual-in_err-read_bytes.ensures) (no_set_bytes text split.key.now split.bytes.now split.ensures.some c.in_err-read_bytes.ensures.none)

pub returns-clause-some : goal.returns-clause-some
returns-clause-some c =
    let text = c.args.text.now in
    let split = c.in_ok-key in
    let bytes = c.in_ok-read_bytes.ensures.some in
    ((omega arith, bytes.0), set_words text split.key.now split.bytes.now split.ensures.some c.in_ok-read_number.field-0 c.in_ok-read_bytes.field-0 c.in_ok-read_number.ensures.found bytes.1)
