-- Bytes that wait in a block.
use Rattle.std.specs.Prelude.{◌≡◌, ℕ, ◌+◌, ◌-◌, ◌≤◌, List, [], ◌++◌, length, take, drop, Option, Some, None, Result, Ok, Err, OnOk}
use Rattle.std.proofs.Common.{sym, subst, ap, ◌∙◌, take-append-drop, append_assoc, append-nil, take-take, length-append, arith}
use Rattle.std.proofs.Math.Seq.{drop-append_seam, take-append_seam}
use Rattle.rom_text.specs.Gathered.{Grown}
use Rattle.rom_text.specs.Streams.{AppendsFront, AppendsText}
use Rattle.std.proofs.lemmas.List.{drop-drop, drop_all, take_all, length-take}
use Rattle.std.specs.Io.KnownBytes.{Appends, Keeps, append_known}
use Rattle.std.proofs.KnownBytes.{append_known-moved, Appends-kept}
use Rattle.rom_text.proofs.Pieces.{rest_from}

-- the sink took the first of what waits
pub handed_on : (a b : Option (List ℕ)) (items slice : List ℕ) (handed count : ℕ) → slice ≡ items → Appends a b (take count (take (length slice - handed) (drop handed slice))) →
    Keeps (append_known a (drop handed items)) (append_known b (drop (handed + count) items))
handed_on a b items slice handed count same took =
    let front : take count (take (length slice - handed) (drop handed slice)) ≡ take count (drop handed items) = ap (take count) (rest_from slice handed ∙ ap (drop handed) same) in
    append_known-moved a b (take count (drop handed items)) (drop (handed + count) items) (drop handed items)
    (subst (λ (bs : List ℕ). Appends a b bs) front took)
    (sym (take-append-drop count (drop handed items)) ∙ ap (λ (bs : List ℕ). take count (drop handed items) ++ bs) (drop-drop count handed items))

-- all is handed over
pub none_waits : (a b : Option (List ℕ)) (all items none : List ℕ) (handed : ℕ) → Keeps (append_known a all) (append_known b (drop handed items)) → length items ≤ handed → none ≡ [] →
    Keeps (append_known a all) (append_known b none)
none_waits a b all items none handed kept over is = subst (λ (bs : List ℕ). Keeps (append_known a all) (append_known b bs)) (drop_all handed items over ∙ sym is) kept

-- bytes that begin with others, and end with what waits
front_of : (x y w none text : List ℕ) (n : ℕ) → none ≡ [] → y ≡ x ++ drop (length x) y → y ++ w ≡ (x ++ none) ++ take n text → y ≡ x ++ take (length (drop (length x) y)) text
front_of x y w none text n is grown same =
    let d : List ℕ = drop (length x) y in
    let both : d ++ w ≡ take n text =
    sym (drop-append_seam x (d ++ w)) ∙ ap (drop (length x)) (sym (append_assoc x d w) ∙ ap (λ (z : List ℕ). z ++ w) (sym grown) ∙ same ∙ ap (λ (z : List ℕ). z ++ take n text) (ap (λ (z : List ℕ). x ++ z) is ∙ append-nil x)) ∙ drop-append_seam x (take n text) in
    let few : length d ≤ n = omega (arith, ap length both, length-append d w, length-take n text) in
    grown ∙ ap (λ (z : List ℕ). x ++ z) (sym (take-append_seam d w) ∙ ap (take (length d)) both ∙ take-take (length d) n text few)

-- the sink behind the block has taken some of the text, where the block has
pub taken_behind : (opened a b : Option (List ℕ)) (none w text : List ℕ) → none ≡ [] → opened ≡ a → Grown opened b → AppendsFront (append_known a none) (append_known b w) text → AppendsFront a b text
taken_behind opened a b none w text is opened_is grown some = behind a b (subst (λ (o : Option (List ℕ)). Grown o b) opened_is grown) some
  where
    behind : (a b : Option (List ℕ)) → Grown a b → AppendsFront (append_known a none) (append_known b w) text → AppendsFront a b text
    behind None b grown some = (0, tt)
    behind (Some x) None grown some = absurd grown
    behind (Some x) (Some y) grown some = (length (drop (length x) y), front_of x y w none text some.0 is grown some.1)

-- all of the text is handed over
all_behind : (a b : Option (List ℕ)) (none w text : List ℕ) → none ≡ [] → w ≡ [] → Appends (append_known a none) (append_known b w) text → Appends a b text
all_behind None b none w text is w_is all = tt
all_behind (Some x) None none w text is w_is all = absurd all
all_behind (Some x) (Some y) none w text is w_is all =
    sym (ap (λ (z : List ℕ). y ++ z) w_is ∙ append-nil y) ∙ all ∙ ap (λ (z : List ℕ). z ++ text) (ap (λ (z : List ℕ). x ++ z) is ∙ append-nil x)

-- the text is in the block, and then as much of it handed over as the call says
pub handed_text : {T E : Type 0} (opened a b c : Option (List ℕ)) (none v w text : List ℕ) (r : Result T E) → none ≡ [] → opened ≡ a → Grown opened c → Appends (append_known a none) (append_known b v) text →
    Keeps (append_known b v) (append_known c w) → OnOk r (w ≡ []) → AppendsText a c r text
handed_text opened a b c none v w text (Ok t) is opened_is grown all kept empty = all_behind a c none w text is empty (Appends-kept _ _ _ text all kept)
handed_text opened a b c none v w text (Err e) is opened_is grown all kept empty =
    taken_behind opened a c none w text is opened_is grown (length text, subst (λ (z : List ℕ). Appends (append_known a none) (append_known c w) z) (sym (take_all (length text) text (omega arith))) (Appends-kept _ _ _ text all kept))
