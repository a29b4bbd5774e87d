use Rattle.std.proofs.Common.{◌≡◌, ℕ, ◌∷◌, Bool, if◌then◌else◌, List, sym, subst, ap, ◌∙◌, refl}
use Rattle.rom_device.specs.declared.call.LoggedCall.{LoggedCall}
use Rattle.rom_device.specs.declared.call.LoggedCall.TheVariants.{Write}
use Rattle.rom_device.specs.declared.followed.Followed.{Followed}
use Rattle.rom_device.specs.Followed.{IsFollowed}
use Rattle.rom_device.proofs.Writing.{word_written}
use Rattle.rom_device.proofs.followed.Followed.after.Goals.{then-lands, else-lands}
use Rattle.rom_device.proofs.followed.Followed.after.Goals as goal

to_call : (base : List ℕ) (log : List LoggedCall) (word : Followed) (made call : LoggedCall) → call ≡ made → IsFollowed base (made ∷ log) word → IsFollowed base (call ∷ log) word
to_call base log word made call e is = subst (λ (m : LoggedCall). IsFollowed base (m ∷ log) word) (sym e) is

pub returns-then-self-clause-followed : goal.returns-then-self-clause-followed
returns-then-self-clause-followed c base log lt is =
    let reads : c.if-lands.result ≡ (if c.in-Write.lands then c.in-Write.value else c.args.self.reads) = elim c.if-lands.branch [
      | then-lands w ↦ w.result-is ∙ ap (λ (b : Bool). if b then c.in-Write.value else c.args.self.reads) (sym w.if-lands.true)
      | else-lands w ↦ w.result-is ∙ ap (λ (b : Bool). if b then c.in-Write.value else c.args.self.reads) (sym w.if-lands.false)
    ] in
    to_call _ _ _ _ _ (c.in-Write.is ∙ ap (λ a. Write a c.in-Write.value c.in-Write.lands) c.if-at-self.true)
    (word_written base log c.args.self is c.in-Write.value c.in-Write.lands lt c.if-lands.result c.in-Write.value reads (λ same. refl) (λ other. absurd (other c.if-self.true)))

pub returns-else-self-clause-followed : goal.returns-else-self-clause-followed
returns-else-self-clause-followed c base log lt is =
    let reads : c.if-lands.result ≡ (if c.in-Write.lands then c.in-Write.value else c.args.self.reads) = elim c.if-lands.branch [
      | then-lands w ↦ w.result-is ∙ ap (λ (b : Bool). if b then c.in-Write.value else c.args.self.reads) (sym w.if-lands.true)
      | else-lands w ↦ w.result-is ∙ ap (λ (b : Bool). if b then c.in-Write.value else c.args.self.reads) (sym w.if-lands.false)
    ] in
    to_call _ _ _ _ _ (c.in-Write.is ∙ ap (λ a. Write a c.in-Write.value c.in-Write.lands) c.if-at-self.true)
    (word_written base log c.args.self is c.in-Write.value c.in-Write.lands lt c.if-lands.result c.args.self.value reads (λ same. absurd (c.if-self.false same)) (λ other. refl))
