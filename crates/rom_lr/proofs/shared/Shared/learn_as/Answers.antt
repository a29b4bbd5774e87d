use Rattle.rom_model.specs.Machine.{on_words}
use Rattle.std.proofs.Common.{rules, arith, ◌≡◌, ℕ, ◌+◌, List, [], ◌∷◌, ◌++◌, length, ap, ◌∙◌, subst}
use Rattle.std.specs.List.{AllByRecursion}
use Rattle.rom_model.specs.Seen.{StartsWith}
use Rattle.rom_model.specs.declared.kept.Kept.{Kept}
use Rattle.rom_rule.specs.Kinds.{informed}
use Rattle.rom_rule.specs.Records.{KnowsEntries, KnowsMoments}
use Rattle.rom_rule.specs.Views.{base_of, kept_of}
use Rattle.rom_rule.specs.declared.views.View.{View}
use Rattle.rom_rule.proofs.Seats.{joins_views, catches_up}
use Rattle.rom_lr.proofs.shared.Shared.learn_as.Goals as goal

pub join_seat-requires : goal.join_seat-requires
join_seat-requires g c = (search rules, search rules, c.args.note.bare, search rules, joins_views g.O.Object.Contents (on_words g.O.Object.machine) (base_of c.args.self.now.table.shared.key) _ _ _ _ _ c.requires.picked (c.requires.out, c.args.note.idle, c.args.note.plain))

pub load-requires : goal.load-requires
load-requires g c = (search rules, search rules, rw c.side.ensures.is (catches_up g.O.Object.Contents (on_words g.O.Object.machine) (base_of c.args.self.now.table.shared.key) _ _ _ (ap (λ m. m.0.position) c.join_seat.ensures.2 ∙ c.requires.out)))

middle : (P : Kept → Type 0) (xs ys : List Kept) (y : Kept) → AllByRecursion P (xs ++ y ∷ ys) → P y
middle P [] ys y h = h.0
middle P (x ∷ xs) ys y h = middle P xs ys y h.1

pub returns-clause-learnt : goal.returns-clause-learnt
returns-clause-learnt g c = let v : View = c.args.seat.now.token.me.0 in let n : View = c.args.note.token.me.0 in let did = c.load.ensures.2 in let now : c.join_seat.new.seat.me.0 ≡ informed v n = ap (λ m. m.0) c.join_seat.ensures.2 in
    let noted : StartsWith did.0 n.seen × StartsWith did.1 n.moments = middle (λ k. StartsWith did.0 k.seen × StartsWith did.1 k.moments) v.joined n.joined (kept_of n) (subst (λ (z : View). AllByRecursion (λ k. StartsWith did.0 k.seen × StartsWith did.1 k.moments) z.joined) now did.3) in record {
      seen = did.0;
      moments = did.1;
      begins = subst (λ (z : View). StartsWith did.0 z.seen) now did.2;
      learns = noted.0;
      moments_begin = subst (λ (z : View). StartsWith did.1 z.moments) now did.4;
      moments_learn = noted.1;
      dated = subst (λ (z : View). KnowsMoments g.O.Object.Contents (on_words g.O.Object.machine) z.base did.0 did.1) now did.5;
      view = ap (λ m. m.0) did.6 ∙ ap (λ (z : View). let y : View = record z { seen = did.0; moments = did.1; steps = z.steps + 1 } in y) now ∙ (λ i. record v { seen = did.0; moments = did.1; joined = v.joined ++ kept_of n ∷ n.joined; steps = (let two : v.steps + 1 + 1 ≡ v.steps + 2 = omega arith in two) i });
      own = λ k none_open knew. subst (λ (z : View). (j : ℕ) → length z.calls ≡ length z.outcomes → KnowsEntries z.base.callers j z → KnowsEntries z.base.callers j c.load.new.seat.me.0) now did.7 k none_open record { known = knew.known; own = knew.own };
    }
