-- The calls that a pass found, in its plan and as it has them.
use Rattle.std.proofs.Common.{◌≡◌, ℕ, zero, suc, ◌+◌, ◌<◌, List, [], ◌∷◌, ◌++◌, map, take, get_or, length, refl, sym, ap, ◌∙◌, add-one, arith}
use Rattle.std.proofs.Math.Seq.{take-suc}
use Rattle.std.proofs.lemmas.List.{length-take-le, map-append}
use Rattle.rom_model.specs.declared.record.Found.{Found}
use Rattle.rom_rule.proofs.Told.{map_map}
use Rattle.rom_rule.specs.Calls.{found_of}
use Rattle.rom_rule.specs.declared.views.Plan.{Plan}
use Rattle.rom_combine.specs.Answering.{SameCalls}
use Rattle.rom_combine.specs.Scanning.{posted_of}
use Rattle.rom_combine.specs.Shipping.{reply_in}
use Rattle.rom_combine.specs.Wanted.{calls_found, posted_from, posted_in}
use Rattle.rom_combine.specs.declared.scanning.Posted.{Posted}

-- those that a scan hands out
pub posted_requests : (p : Plan) (items : List Posted) → items ≡ map posted_of p.requests → calls_found p ≡ items
posted_requests p items are = map_map posted_in found_of p.requests ∙ sym are

-- they stay while they are answered
pub same_calls_found : (p q : Plan) → SameCalls p q → calls_found q ≡ calls_found p
same_calls_found p q same = ap (λ (fs : List Found). map posted_in fs) same.1

-- one wanted call more, behind the others
posted_behind : (caller : ℕ) (calls : List (List ℕ)) (args : List ℕ) → posted_from caller (calls ++ args ∷ []) ≡ posted_from caller calls ++ record { caller = caller + length calls; args = args } ∷ []
posted_behind caller [] args = let same : caller ≡ caller + 0 = omega arith in ap (λ (n : ℕ). let p : Posted = record { caller = n; args = args } in p ∷ []) same
posted_behind caller (call ∷ calls) args =
    let same : caller + 1 + length calls ≡ caller + suc (length calls) = omega arith in
    let here : Posted = record { caller = caller; args = call } in
    ap (λ (l : List Posted). here ∷ l) (posted_behind (caller + 1) calls args ∙ ap (λ (n : ℕ). let p : Posted = record { caller = n; args = args } in posted_from (caller + 1) calls ++ p ∷ []) same)

-- The first found calls are the first wanted ones, and so is the next.
pub wanted_more : (found : List Posted) (calls : List (List ℕ)) (i : ℕ) (f : Posted) (args : List ℕ) → i < length found → i < length calls → take i found ≡ posted_from 1 (take i calls) → get_or found i f ≡ record { caller = i + 1; args = get_or calls i args } → take (i + 1) found ≡ posted_from 1 (take (i + 1) calls)
wanted_more found calls i f args low few are is =
    let many : length (take i calls) ≡ i = length-take-le i calls (omega (arith, few)) in
    let there : i + 1 ≡ 1 + length (take i calls) = omega (arith, many) in
    ap (λ (n : ℕ). take n found) (add-one i) ∙ take-suc found i f low
    ∙ (λ j. are j ++ (is ∙ ap (λ (n : ℕ). let p : Posted = record { caller = n; args = get_or calls i args } in p) there) j ∷ [])
    ∙ sym (posted_behind 1 (take i calls) (get_or calls i args))
    ∙ sym (ap (λ (n : ℕ). posted_from 1 (take n calls)) (add-one i) ∙ ap (posted_from 1) (take-suc calls i args few))

-- the replies of one update more
pub replies_more : (us : List (List ℕ × List ℕ)) (i : ℕ) → i < length us → map reply_in (take (i + 1) us) ≡ map reply_in (take i us) ++ (get_or us i ([], [])).1 ∷ []
replies_more us i lt = ap (λ (n : ℕ). map reply_in (take n us)) (add-one i) ∙ ap (map reply_in) (take-suc us i ([], []) lt) ∙ map-append reply_in (take i us) (get_or us i ([], []) ∷ [])
