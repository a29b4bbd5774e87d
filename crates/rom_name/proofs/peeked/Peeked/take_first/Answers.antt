use Rattle.std.proofs.Common.{rules, ℕ, ◌≡◌, ◌≢◌, ◌⊎◌, ◌≤◌, ◌<◌, List, length, take, subst, sym, ◌∙◌, arith, length-take-le}
use Rattle.std.specs.Prelude.{IsFalse, IsTrue, if◌then◌else◌}
use Rattle.std.specs.Io.KnownBytes.{Keeps, prepend_known}
use Rattle.std.proofs.KnownBytes.{prepend_known-nil}
use Rattle.rom_frame.specs.Messages.{IsCount, first_word}
use Rattle.rom_frame.specs.declared.stream.message.MessageKind.TheVariants.{Broken, End, Failed}
use Rattle.rom_frame.proofs.Hearing.{same_word}
use Rattle.rom_name.specs.Peeked.{held_of}
use Rattle.rom_name.proofs.Peeking.{held_back, how_heard, no_head_heard}
use Rattle.rom_name.proofs.peeked.Peeked.take_first.Goals as goal

pub returns-else-heard-eq0 : goal.returns-else-heard-eq0
returns-else-heard-eq0 g c =
    let shown = g.S.Source.shown in
    let heard = c.next_message-heard in
    let block = heard.new.block in
    let bytes = take heard.result.len block in
    let left = shown.left c.args.self.now.source in
    let room : heard.result.len ≤ length block = search rules in
    let long : length bytes ≡ heard.result.len = length-take-le heard.result.len block room in
    let short : length bytes ≤ 512 = omega (arith, long, heard.ensures.within) in
    let unfailed : heard.result.kind ≢ Failed = search rules in
    let how = how_heard shown bytes c.args.self.now.source heard.new.source short heard.result.kind (first_word block) heard.ensures.heard unfailed
    (λ some. same_word heard.result.len block (omega (arith, some, long))) c.is_at_end.result
    (subst (λ n. IsTrue c.is_at_end.result → (heard.result.kind ≡ End) ⊎ ((heard.result.kind ≡ Broken) × ((n < 8) ⊎ IsCount (first_word block)))) (sym long) c.is_at_end.ensures.end)
    (subst (λ n. IsFalse c.is_at_end.result → (heard.result.kind ≢ End) × (heard.result.kind ≡ Broken → (8 ≤ n) × (IsCount (first_word block) → ⊥))) (sym long) c.is_at_end.ensures.going) in (
      λ h rest words is. no_head_heard shown bytes c.args.self.now.source heard.new.source short heard.result.kind heard.ensures.heard unfailed heard.ensures.bytes
          c.in_default.ensures.none h rest words
          (sym (prepend_known-nil left) ∙ (λ i. prepend_known (sym c.requires.held i) left) ∙ is),
      record {
        left = subst (λ p. Keeps (prepend_known (held_of c.args.self.now) left) (prepend_known (held_of c.hold.new.self) (shown.left p))) (sym c.hold.ensures.source)
            (subst (λ (h : List ℕ). Keeps (prepend_known (held_of c.args.self.now) left) (prepend_known h (shown.left heard.new.source))) (sym c.hold.ensures.held)
            (held_back (held_of c.args.self.now) left (shown.left heard.new.source) bytes c.requires.held heard.ensures.bytes));
        faults = (λ i. shown.faults (c.hold.ensures.source i)) ∙ how.0;
        idle = (λ i. shown.idle (if c.hold.ensures.pending i then (c.hold.ensures.before i).value else c.hold.ensures.source i))
            ∙ (λ i. shown.idle (if c.is_at_end.result then c.requires.before i else heard.new.source)) ∙ how.1
            ∙ sym (λ i. shown.idle (if c.requires.pending i then c.args.self.now.before.value else c.args.self.now.source));
      },
    )
