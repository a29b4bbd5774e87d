-- The moments of a history's entries: one for each, and that of its pass.
use Rattle.std.specs.Prelude.{◌≡◌, ℕ, zero, suc, ◌+◌, ◌-◌, ◌<◌, ◌≤◌, List, [], ◌∷◌, ◌++◌, length, replicate, slice_get, Option, Some}
use Rattle.std.proofs.Common.{refl, sym, ap, ◌∙◌, subst, arith, append_assoc, length-append}
use Rattle.std.proofs.lemmas.List.{length-replicate}
use Rattle.rom_model.specs.History.{after}
use Rattle.rom_model.specs.Moments.{moments_of}
use Rattle.rom_model.specs.Passes.{added, history_of, AreInOrder}
use Rattle.rom_model.specs.Story.{len_after}
use Rattle.rom_model.specs.declared.entry.Entry.{Entry}
use Rattle.rom_model.specs.declared.record.PassRecord.{PassRecord}

-- the moments of some first passes, then those of the rest
pub moments_append : (len : ℕ) (xs ys : List PassRecord) → moments_of len (xs ++ ys) ≡ moments_of len xs ++ moments_of (len_after len xs) ys
moments_append len [] ys = refl
moments_append len (x ∷ xs) ys = ap (λ (l : List ℕ). replicate (x.len - len) x.committed ++ l) (moments_append x.len xs ys) ∙ sym (append_assoc (replicate (x.len - len) x.committed) (moments_of x.len xs) (moments_of (len_after x.len xs) ys))

-- passes in order have one for each entry of their history
pub moments_long : {S : Type 0} (step : ℕ → S → ℕ → List ℕ → Option (S × List ℕ)) (order : ℕ) (s : S) (k len faults : ℕ) (rs : List PassRecord) → AreInOrder step order s k len faults rs → length (moments_of len rs) ≡ length (history_of step order s k rs)
moments_long step order s k len faults [] all = refl
moments_long step order s k len faults (r ∷ rs) all =
    let more : List Entry = added step order s k r in let rest : List Entry = history_of step order (after step order s k more) (k + length more) rs in
    let on = moments_long step order (after step order s k more) (k + length more) r.len r.faults_after rs all.6 in let there = all.0 in
    omega (arith, there, on, length-append more rest, length-append (replicate (r.len - len) r.committed) (moments_of r.len rs), length-replicate (r.len - len) r.committed)

get_here : (n i moment : ℕ) (ms : List ℕ) → i < n → slice_get (replicate n moment ++ ms) i ≡ Some moment
get_here zero i moment ms lt = absurd (omega arith)
get_here (suc n) zero moment ms lt = refl
get_here (suc n) (suc i) moment ms lt = get_here n i moment ms (omega arith)

get_behind : (n i moment : ℕ) (ms : List ℕ) → slice_get (replicate n moment ++ ms) (n + i) ≡ slice_get ms i
get_behind zero i moment ms = ap (slice_get ms) (let e : 0 + i ≡ i = omega arith in e)
get_behind (suc n) i moment ms = ap (slice_get (replicate (suc n) moment ++ ms)) (let e : suc n + i ≡ suc (n + i) = omega arith in e) ∙ get_behind n i moment ms

-- an entry that the first pass added has the moment of its commit,
pub moment_here : (len i : ℕ) (r : PassRecord) (rs : List PassRecord) → len + i < r.len → slice_get (moments_of len (r ∷ rs)) i ≡ Some r.committed
moment_here len i r rs lt = get_here (r.len - len) i r.committed (moments_of r.len rs) (omega arith)

-- and one behind it has that which the other passes give it
pub moment_behind : (len i : ℕ) (r : PassRecord) (rs : List PassRecord) → slice_get (moments_of len (r ∷ rs)) (r.len - len + i) ≡ slice_get (moments_of r.len rs) i
moment_behind len i r rs = get_behind (r.len - len) i r.committed (moments_of r.len rs)
