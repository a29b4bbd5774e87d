use Rattle.std.proofs.Common.{◌≡◌, ◌+◌, ◌-◌, List, ℕ, take, drop, length, refl, sym, ap, ◌∙◌, arith, add-one, ◌<◌, [], ◌∷◌, ◌++◌, Bool, true, false, Some, None, length-drop, length-take-le}
use Rattle.std.proofs.lemmas.List.{length-set}
use Rattle.std.proofs.Math.Seq.{take-suc-set}
use Rattle.rom_model.specs.declared.call.Single.{Single}
use Rattle.rom_model.specs.declared.call.Call.{Call}
use Rattle.rom_model.specs.declared.call.Call.TheVariants.{Group}
use Rattle.rom_model.specs.Codes.{read_single, read_all, whole, as_group}
use Rattle.std.specs.Prelude.{slice_set, Option, if◌then◌else◌}
use Rattle.rom_model.specs.Groups.{is_size}
use Rattle.rom_model.proofs.Reading.{prepend, whenever_none, read_part, length_part, read_next, read_to_end, whole_none, whole_some}
use Rattle.rom_model.proofs.codes.read_members.Goals as goal

pub loop-i-preserved : goal.loop-i-preserved
loop-i-preserved c =
    let l = c.loop-i in
    let x = c.in_ok-call.call in
    let read = read_part read_single c.args.words.now l.at c.in_ok-call.len x c.in_ok-call.ensures.read in
    record {
      so_far = l.invariant.so_far ∙ (read_next read_single c.args.many l.i (take l.i l.calls) c.args.words.now l.at c.in_ok-call.len x c.loop-i-test.true read ∙ ap (λ (xs : List Single).
          prepend xs (read_all read_single (c.args.many - (l.i + 1)) (drop (l.at + c.in_ok-call.len) c.args.words.now))) (sym (more l.calls l.i x (omega arith))));
      within = omega (arith, c.in_ok-call.ensures.within, length_part l.at c.args.words.now);
      cells = length-set l.calls l.i x ∙ l.invariant.cells;
    }
  where
    more : (calls : List Single) (i : ℕ) (x : Single) → i < length calls → take (i + 1) (slice_set calls i x) ≡ take i calls ++ x ∷ []
    more calls i x lt = ap (λ k. take k (slice_set calls i x)) (add-one i) ∙ take-suc-set calls i x lt

pub returns-then-at-words : goal.returns-then-at-words
returns-then-at-words c =
    let all = read_to_end read_single c.args.many c.loop-i.i (take c.loop-i.i c.loop-i.calls) c.args.words.now (drop c.loop-i.at c.args.words.now) c.loop-i-test.false c.loop-i.invariant.so_far in
    whenever_none (is_size c.args.many) (ap (whole Group) all ∙ whole_none Group _ (drop c.loop-i.at c.args.words.now) (omega (arith, length-drop c.loop-i.at c.args.words.now)))

pub returns : goal.returns
returns c =
    let same : c.loop-i.i ≡ c.args.many = omega arith in
    let members : List Single = take c.args.many c.loop-i.calls in
    let many : length members ≡ c.args.many = length-take-le c.args.many c.loop-i.calls (omega arith) in
    let all = read_to_end read_single c.args.many c.loop-i.i (take c.loop-i.i c.loop-i.calls) c.args.words.now (drop c.loop-i.at c.args.words.now) c.loop-i-test.false c.loop-i.invariant.so_far in
    let read = ap (whole Group) all ∙ (whole_some Group _ (drop c.loop-i.at c.args.words.now) (omega (arith, length-drop c.loop-i.at c.args.words.now)) ∙ ap (λ k. Some (Group (take k c.loop-i.calls))) same) in
    ap (λ (o : Option Call). if is_size c.args.many then o else None) read ∙ (ap (λ m. if is_size m then Some (Group members) else None) (sym many) ∙ (made (is_size (length members)) members ∙ sym (ap as_group c.of.ensures)))
  where
    made : (b : Bool) (calls : List Single) → (if b then Some (Group calls) else None) ≡ as_group (if b then Some calls else None)
    made true calls = refl
    made false calls = refl
