use Rattle.std.proofs.Common.{◌≡◌, ◌+◌, ◌-◌, ◌*◌, take, drop, Some, None, sym, ap, subst, ◌∙◌, arith}
use Rattle.std.specs.Prelude.{slice_index}
use Rattle.rom_guard.specs.Working.{HasMany, list_of}
use Rattle.rom_guard.proofs.Many.{IsReadTo, read_to_more, none_of_many, all_read, one_unread}
use Rattle.rom_guard.proofs.codes.read_told_all.Goals as goal

pub returns-in_err-i-end : goal.returns-in_err-i-end
returns-in_err-i-end g c =
    let shown = g.P.Members.shown in
    let words = c.args.words.now in
    c.from_residual.ensures ∙ sym (none_of_many shown.told_words 2 words shown.words_told g.met.P.Members.told_only g.met.P.Members.told_two (λ many has. c.in_err-i-end.ensures.none many (subst (λ ws. HasMany 2 ws many) (sym c.as_slice.ensures.words) has)))

pub returns-in_err-read_told : goal.returns-in_err-read_told
returns-in_err-read_told g c =
    let shown = g.P.Members.shown in
    let words = c.args.words.now in
    let i = c.loop-i.i in
    let has : HasMany 2 words c.in_ok-i-end.i-end = subst (λ ws. HasMany 2 ws c.in_ok-i-end.i-end) c.as_slice.ensures.words c.in_ok-i-end.ensures.some in
    let unread : shown.words_told (take (2 + 2 * i + 2 - (2 + 2 * i)) (drop (2 + 2 * i) words)) ≡ None = ap (λ ws. shown.words_told (take (2 + 2 * i + 2 - (2 + 2 * i)) (drop (2 + 2 * i) ws))) (sym c.as_slice-in-loop-i.ensures.words) ∙ (sym c.read_told.ensures ∙ c.in_err-read_told.was) in
    c.from_residual-in_err-read_told.ensures ∙ sym (one_unread shown.told_words 2 words shown.words_told g.met.P.Members.told_only g.met.P.Members.told_two g.met.P.Members.told_back c.in_ok-i-end.i-end has (ap (λ ws. slice_index ws 0) c.requires.1) i c.loop-i-test.true unread)

pub loop-i-preserved : goal.loop-i-preserved
loop-i-preserved g c =
    let shown = g.P.Members.shown in
    let words = c.args.words.now in
    let i = c.loop-i.i in
    let x = c.in_ok-read_told.field-0 in
    let read : shown.words_told (take (2 + 2 * i + 2 - (2 + 2 * i)) (drop (2 + 2 * i) words)) ≡ Some x = ap (λ ws. shown.words_told (take (2 + 2 * i + 2 - (2 + 2 * i)) (drop (2 + 2 * i) ws))) (sym c.as_slice-in-loop-i.ensures.words) ∙ (sym c.read_told.ensures ∙ c.in_ok-read_told.was) in
    read_to_more shown.told_words 2 words shown.words_told g.met.P.Members.told_only i x c.loop-i.invariant read

pub invariant_of-result : goal.invariant_of-result
invariant_of-result g c =
    let shown = g.P.Members.shown in
    let words = c.args.words.now in
    let many = c.in_ok-i-end.i-end in
    let has : HasMany 2 words many = subst (λ ws. HasMany 2 ws many) c.as_slice.ensures.words c.in_ok-i-end.ensures.some in
    let end : c.loop-i.i ≡ many = omega arith in
    (all_read shown.told_words 2 words shown.words_told g.met.P.Members.told_only g.met.P.Members.told_two g.met.P.Members.told_back many has (ap (λ ws. slice_index ws 0) c.requires.1) (subst (λ k. IsReadTo shown.told_words 2 words k) end c.loop-i.invariant)).1

pub returns : goal.returns
returns g c =
    let shown = g.P.Members.shown in
    let words = c.args.words.now in
    let many = c.in_ok-i-end.i-end in
    let has : HasMany 2 words many = subst (λ ws. HasMany 2 ws many) c.as_slice.ensures.words c.in_ok-i-end.ensures.some in
    let end : c.loop-i.i ≡ many = omega arith in
    let all = all_read shown.told_words 2 words shown.words_told g.met.P.Members.told_only g.met.P.Members.told_two g.met.P.Members.told_back many has (ap (λ ws. slice_index ws 0) c.requires.1) (subst (λ k. IsReadTo shown.told_words 2 words k) end c.loop-i.invariant) in
    ap (λ o. Some (list_of o)) all.2 ∙ sym all.2
