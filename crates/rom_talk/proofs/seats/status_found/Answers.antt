use Rattle.std.proofs.Common.{rules, tests, ◌≡◌, ◌∙◌, sym, refl, true, false}
use Rattle.std.specs.List.{list_any}
use Rattle.std.proofs.lemmas.Iterator.{YieldsList-from_slice}
use Rattle.std.proofs.lemmas.Iterator.Search.{any_from_yields_List}
use Rattle.rom_talk.specs.Talks.{is_unheard, is_unsaid}
use Rattle.rom_talk.proofs.Seating.{number_by}
use Rattle.rom_talk.proofs.seats.status_found.Goals as goal

pub returns-then-any-2 : goal.returns-then-any-2
returns-then-any-2 g c = let ts = c.args.talkers.now in
    let faulted : list_any (λ t. t.faulted) ts ≡ false = sym (any_from_yields_List (λ t. t.faulted) _ _ c.any.result c.any.ensures.ran (YieldsList-from_slice ts c.iter.ensures.rest) (λ x b q k. search (rules, tests))) ∙ c.if-any.false in
    let unsaid : list_any (λ t. is_unsaid t.ending) ts ≡ true = sym (any_from_yields_List (λ t. is_unsaid t.ending) _ _ c.any-else-any.result c.any-else-any.ensures.ran (YieldsList-from_slice ts c.iter-else-any.ensures.rest) (λ x b q k. search (rules, tests))) ∙ c.if-any-2.true in
    sym (number_by ts false true _ _ faulted unsaid refl refl)

pub returns-then-any-3 : goal.returns-then-any-3
returns-then-any-3 g c = let ts = c.args.talkers.now in
    let faulted : list_any (λ t. t.faulted) ts ≡ false = sym (any_from_yields_List (λ t. t.faulted) _ _ c.any.result c.any.ensures.ran (YieldsList-from_slice ts c.iter.ensures.rest) (λ x b q k. search (rules, tests))) ∙ c.if-any.false in
    let unsaid : list_any (λ t. is_unsaid t.ending) ts ≡ false = sym (any_from_yields_List (λ t. is_unsaid t.ending) _ _ c.any-else-any.result c.any-else-any.ensures.ran (YieldsList-from_slice ts c.iter-else-any.ensures.rest) (λ x b q k. search (rules, tests))) ∙ c.if-any-2.false in
    let unheard : list_any (λ t. is_unheard t.ending) ts ≡ true = sym (any_from_yields_List (λ t. is_unheard t.ending) _ _ c.any-else-any-2.result c.any-else-any-2.ensures.ran (YieldsList-from_slice ts c.iter-else-any-2.ensures.rest) (λ x b q k. search (rules, tests))) ∙ c.if-any-3.true in
    sym (number_by ts false false true _ faulted unsaid unheard refl)

pub returns-then-any-4 : goal.returns-then-any-4
returns-then-any-4 g c = let ts = c.args.talkers.now in
    let faulted : list_any (λ t. t.faulted) ts ≡ false = sym (any_from_yields_List (λ t. t.faulted) _ _ c.any.result c.any.ensures.ran (YieldsList-from_slice ts c.iter.ensures.rest) (λ x b q k. search (rules, tests))) ∙ c.if-any.false in
    let unsaid : list_any (λ t. is_unsaid t.ending) ts ≡ false = sym (any_from_yields_List (λ t. is_unsaid t.ending) _ _ c.any-else-any.result c.any-else-any.ensures.ran (YieldsList-from_slice ts c.iter-else-any.ensures.rest) (λ x b q k. search (rules, tests))) ∙ c.if-any-2.false in
    let unheard : list_any (λ t. is_unheard t.ending) ts ≡ false = sym (any_from_yields_List (λ t. is_unheard t.ending) _ _ c.any-else-any-2.result c.any-else-any-2.ensures.ran (YieldsList-from_slice ts c.iter-else-any-2.ensures.rest) (λ x b q k. search (rules, tests))) ∙ c.if-any-3.false in
    let unread : list_any (λ t. t.unread) ts ≡ true = sym (any_from_yields_List (λ t. t.unread) _ _ c.any-else-any-3.result c.any-else-any-3.ensures.ran (YieldsList-from_slice ts c.iter-else-any-3.ensures.rest) (λ x b q k. search (rules, tests))) ∙ c.if-any-4.true in
    sym (number_by ts false false false true faulted unsaid unheard unread)

pub returns-else-any-4 : goal.returns-else-any-4
returns-else-any-4 g c = let ts = c.args.talkers.now in
    let faulted : list_any (λ t. t.faulted) ts ≡ false = sym (any_from_yields_List (λ t. t.faulted) _ _ c.any.result c.any.ensures.ran (YieldsList-from_slice ts c.iter.ensures.rest) (λ x b q k. search (rules, tests))) ∙ c.if-any.false in
    let unsaid : list_any (λ t. is_unsaid t.ending) ts ≡ false = sym (any_from_yields_List (λ t. is_unsaid t.ending) _ _ c.any-else-any.result c.any-else-any.ensures.ran (YieldsList-from_slice ts c.iter-else-any.ensures.rest) (λ x b q k. search (rules, tests))) ∙ c.if-any-2.false in
    let unheard : list_any (λ t. is_unheard t.ending) ts ≡ false = sym (any_from_yields_List (λ t. is_unheard t.ending) _ _ c.any-else-any-2.result c.any-else-any-2.ensures.ran (YieldsList-from_slice ts c.iter-else-any-2.ensures.rest) (λ x b q k. search (rules, tests))) ∙ c.if-any-3.false in
    let unread : list_any (λ t. t.unread) ts ≡ false = sym (any_from_yields_List (λ t. t.unread) _ _ c.any-else-any-3.result c.any-else-any-3.ensures.ran (YieldsList-from_slice ts c.iter-else-any-3.ensures.rest) (λ x b q k. search (rules, tests))) ∙ c.if-any-4.false in
    sym (number_by ts false false false false faulted unsaid unheard unread)
