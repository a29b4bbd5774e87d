use Rattle.std.proofs.Common.{◌≡◌, ◌*◌, ℕ, List, Some, arith, sym, ap, ◌∙◌}
use Rattle.std.specs.Prelude.{option_map}
use Rattle.rom_model.specs.declared.call.Call.{Call}
use Rattle.rom_model.specs.declared.call.Single.{Single}
use Rattle.rom_model.specs.State.{one}
use Rattle.rom_model.specs.Machine.{weight_on_words}
use Rattle.rom_model.specs.Codes.{read_single, words_call}
use Rattle.rom_model.specs.Trio.{trio}
use Rattle.rom_heap.proofs.Grouping.{few_stores, stores_fewer}
use Rattle.rom_heap.proofs.Worded.{some_call, single_weight, single_done}
use Rattle.rom_heap.proofs.apply.apply_words.Goals as goal

pub returns-in-Some-clause-done : goal.returns-in-Some-clause-done
returns-in-Some-clause-done g c s k held =
    let n = c.args.order in
    let x = c.in-Some.single in
    let call : (call : Call) × (words_call c.args.words.now ≡ Some call) = some_call (words_call c.args.words.now) c.requires.call in
    let first : option_map (λ (read : Single × List ℕ). read.0) (read_single c.args.words.now) ≡ Some x = ap (λ (ws : List ℕ). option_map (λ (read : Single × List ℕ). read.0) (read_single ws)) (sym c.as_slice.ensures.words) ∙ sym c.in-Some.ensures in
    let done = c.apply_one.ensures.done s k held in
    ((one n s k x).0, single_done c.args.words.now call.0 call.1 x first n s k c.apply_one.result c.put_single_reply_words.new.words done.0 c.put_single_reply_words.ensures, done.1)

pub returns-in-Some-clause-most : goal.returns-in-Some-clause-most
returns-in-Some-clause-most g c =
    let x = c.in-Some.single in
    let call : (call : Call) × (words_call c.args.words.now ≡ Some call) = some_call (words_call c.args.words.now) c.requires.call in
    let first : option_map (λ (read : Single × List ℕ). read.0) (read_single c.args.words.now) ≡ Some x = ap (λ (ws : List ℕ). option_map (λ (read : Single × List ℕ). read.0) (read_single ws)) (sym c.as_slice.ensures.words) ∙ sym c.in-Some.ensures in
    stores_fewer (32 * weight_on_words trio c.args.words.now) (omega (arith, single_weight c.args.words.now call.0 call.1 x first, few_stores c.args.order c.requires.order.most x c.apply_one.result)) c.apply_one.ensures.stores
