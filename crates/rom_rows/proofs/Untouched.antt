-- What a switch and a wait ask for and leave where no call was posted.
use Rattle.std.proofs.Common.{◌≡◌, ℕ, ◌+◌, ◌≤◌, List, [], ◌++◌, map, length, sym, refl, ap, ◌∙◌, subst, arith, Option, Some}
use mathlib.Core.Option.{some, some-ne-none}
use lib.ListN.{get_elem?}
use Rattle.rom_lr.specs.Opening.{dealt_view}
use Rattle.rom_model.specs.History.{after, batch}
use Rattle.rom_model.specs.Machine.{on_words}
use Rattle.rom_model.specs.Passes.{faults_after}
use Rattle.rom_model.specs.Region.{Contents}
use Rattle.rom_model.specs.State.{State, empty}
use Rattle.rom_model.specs.Trio.{trio}
use Rattle.rom_model.specs.declared.entry.Entry.{Entry}
use Rattle.rom_model.specs.declared.record.Fate.TheVariants.{Published}
use Rattle.rom_model.specs.declared.record.PassRecord.{PassRecord}
use Rattle.rom_rule.specs.Calls.{found_of}
use Rattle.rom_rule.specs.Kinds.{CanSwitchToMain, CanSwitchToBack, IsBatch, MayRaise, making, with_faults_after, raising, record_list, switched}
use Rattle.rom_rule.specs.Readers.{Held}
use Rattle.rom_rule.specs.Views.{plan_of}
use Rattle.rom_rule.specs.declared.views.Base.{Base}
use Rattle.rom_rule.specs.declared.views.Plan.{Plan}
use Rattle.rom_rule.specs.declared.views.Request.{Request}
use Rattle.rom_rule.specs.declared.views.View.{View}
use Rattle.rom_rows.specs.Untouched.{IsUntouched, AtRest}

abbrev go : ℕ → State → ℕ → List ℕ → Option (State × List ℕ)
go = on_words trio

module _ (b : Base) (p : Plan) (u : IsUntouched b p) where
  -- the batch of no call
  abbrev none_done : ℕ → List Entry → List Request → List Entry
  none_done k history requests = batch go b.order (after go b.order empty 0 history) k (map found_of requests)

  pub may_publish : CanSwitchToMain Contents go b p 0 0
  may_publish = record {
    unmade = u.mine;
    whole = λ j f e. absurd (some-ne-none f (sym (subst (λ (l : List Request). get_elem? l j ≡ some f) u.requests e)));
    from = subst (λ (l : List PassRecord). faults_after b.faults l ≤ 0) (sym u.records) (let none_yet = u.faults in omega arith);
    on = omega arith;
    start = empty;
    count = 0;
    opening = u.opening;
    stands = subst (λ (z : List Entry × List Request × List ℕ). let k = 0 + length z.0 in Held Contents go b empty 0 z.2 (z.0 ++ none_done k z.0 z.1)) (λ i. (sym u.history i, sym u.requests i, sym u.main i)) u.opening;
  }

  pub may_return : CanSwitchToBack Contents go b p 0 0
  may_return = record {
    raises = subst (MayRaise 0 0) (sym u.mine) tt;
    start = empty;
    count = 0;
    opening = u.opening;
    stands = subst (λ (z : List Entry × List ℕ). Held Contents go b empty 0 z.1 z.0) (λ i. (sym u.history i, sym u.back i)) u.opening;
  }

  pub after_main : (k : ℕ) (more : List Entry) → IsBatch Contents go b p k more → IsUntouched b (switched 0 (making Published 0 0 0 k more p))
  after_main k more batch_is = let e : more ≡ [] = (batch_is empty 0 u.opening).1 ∙ ap (none_done k p.history) u.requests in record {
    opening = u.opening;
    faults = u.faults;
    history = (λ i. u.history i ++ e i);
    records = u.records;
    mine = (λ i. record_list (map found_of (u.requests i)) record { found = map found_of (u.requests i); fate = Published; faults_before = 0; faults_after = 0; len = length p.history + length more; committed = 0 });
    requests = u.requests;
    main = u.main;
    back = u.back;
  }

  pub after_wait : (version : ℕ) (clear : List (ℕ × ℕ)) → IsUntouched b (record p { version = version; clear = clear })
  after_wait version clear = record { opening = u.opening; faults = u.faults; history = u.history; records = u.records; mine = u.mine; requests = u.requests; main = u.main; back = u.back }

  pub after_back : IsUntouched b (switched 1 (raising 0 p))
  after_back = record { opening = u.opening; faults = u.faults; history = u.history; records = u.records; mine = ap (map (with_faults_after 0)) u.mine; requests = u.requests; main = u.main; back = u.back }

-- the writer's view after a call that leaves it this plan
pub rests_on : (v w : View) (q : Plan) (n : ℕ) → w ≡ record v { plan = Some q; steps = n } → IsUntouched v.base q → AtRest w
rests_on v w q n e h = subst AtRest (sym e) h

-- It sends readers to main, waits, and sends them to back.
pub at_main : (v w : View) (n k : ℕ) (more : List Entry) → AtRest v → IsBatch Contents go v.base (plan_of v) k more → w ≡ record v { plan = Some (switched 0 (making Published 0 0 0 k more (plan_of v))); steps = n } → AtRest w
at_main v w n k more u batch_is e = rests_on v w _ n e (after_main v.base (plan_of v) u k more batch_is)

pub has_waited : (v w : View) (version : ℕ) (clear : List (ℕ × ℕ)) (n : ℕ) → AtRest v → w ≡ record v { plan = Some (record (plan_of v) { version = version; clear = clear }); steps = n } → AtRest w
has_waited v w version clear n u e = rests_on v w _ n e (after_wait v.base (plan_of v) u version clear)

pub at_back : (v w : View) (n : ℕ) → AtRest v → w ≡ record v { plan = Some (switched 1 (raising 0 (plan_of v))); steps = n } → AtRest w
at_back v w n u e = rests_on v w _ n e (after_back v.base (plan_of v) u)

-- as the table is opened
pub at_opening : (v : View) (b : Base) (n : ℕ) → v ≡ dealt_view b n → b.faults ≡ 0 → Contents b.order b.image empty 0 → AtRest v
at_opening v b n e none held = subst AtRest (sym e)
    record { opening = held; faults = none; history = refl; records = refl; mine = refl; requests = refl; main = refl; back = refl }

-- main stands for an empty heap
pub main_held : (v : View) → AtRest v → Contents v.base.order (plan_of v).main empty 0
main_held v u = subst (λ (m : List ℕ). Contents v.base.order m empty 0) (sym u.main) u.opening
