use Rattle.std.proofs.Common.{◌≡◌, ◌∷◌, ◌+◌, true, length, take, Some, None, ap, sym, ◌∙◌, arith, length-take-le}
use Rattle.std.specs.List.{flat_map}
use Rattle.std.proofs.lemmas.List.{take_all}
use Rattle.rom_model.specs.Groups.{is_size}
use Rattle.rom_guard.specs.Guarded.{listed}
use Rattle.rom_guard.specs.Working.{list_of}
use Rattle.rom_guard.specs.Wording.{when, is_sized, listed_long, made_listed}
use Rattle.rom_guard.proofs.group.Group.of.Goals as goal

pub push_member-requires : goal.push_member-requires
push_member-requires g c =
    let write = g.P.Members.shown.member_words in
    let done = take c.loop-member.member-index c.args.members.now in
    let many : length done ≡ c.loop-member.member-index = length-take-le c.loop-member.member-index c.args.members.now (omega arith) in
    let long = listed_long write 4 g.met.P.Members.member_four done in
    let all : length c.loop-member.words ≡ 2 + length (flat_map write done) = ap length c.loop-member.invariant ∙ omega arith in
    omega arith

pub invariant_of-result : goal.invariant_of-result
invariant_of-result g c =
    let shown = g.P.Members.shown in
    let members = c.args.members.now in
    let all : c.loop-member.words ≡ 0 ∷ listed shown.member_words members = c.loop-member.invariant ∙ ap (λ ms. 0 ∷ length members ∷ flat_map shown.member_words ms) (take_all c.loop-member.member-index members c.loop-member-test.false) in
    (made_listed shown.member_words 4 shown.words_member g.met.P.Members.member_four g.met.P.Members.member_back members c.loop-member.words (is_sized (length members) c.if-members-lt-MIN_MEMBERS.false c.if-members-gt-MAX_MEMBERS.false) all).0

pub returns : goal.returns
returns g c =
    let shown = g.P.Members.shown in
    let members = c.args.members.now in
    let size : is_size (length members) ≡ true = is_sized (length members) c.if-members-lt-MIN_MEMBERS.false c.if-members-gt-MAX_MEMBERS.false in
    let all : c.loop-member.words ≡ 0 ∷ listed shown.member_words members = c.loop-member.invariant ∙ ap (λ ms. 0 ∷ length members ∷ flat_map shown.member_words ms) (take_all c.loop-member.member-index members c.loop-member-test.false) in
    let made = made_listed shown.member_words 4 shown.words_member g.met.P.Members.member_four g.met.P.Members.member_back members c.loop-member.words size all in
    ap (λ o. Some (list_of o)) made.1 ∙ sym (when (is_size (length members)) (Some members) None size)
