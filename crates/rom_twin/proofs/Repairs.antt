-- What a repair leaves, by the phase that it began in.
use Rattle.std.proofs.Common.{◌≡◌, ◌≢◌, inl, inr, ⊎_elim, IsTrue, ℕ, ◌+◌, ◌≤◌, List, [], length, set, refl, sym, ◌∙◌, subst, arith, length-set, get_or-set_other}
use Rattle.rom_model.specs.Blocks.{region_len}
use Rattle.rom_model.specs.Space.{ChangesOnly}
use Rattle.rom_device.specs.Device.{ShownDevice, Becomes, Does, Runs, WritesWord}
use Rattle.rom_device.proofs.Going.{becomes_by, does_by, does_on}
use Rattle.rom_header.specs.Headers.{state_word}
use Rattle.rom_header.specs.Layout.{MAIN, STATE, back_of}
use Rattle.rom_header.specs.Writing.{StateOrWithin}
use Rattle.rom_header.specs.declared.header.State.TheVariants.{Idle}
use Rattle.rom_twin.specs.Calls.{rewritten_at, rewriting_writes, repair_syncs}
use Rattle.rom_twin.specs.Images.{ImageOf, Twins, HasBack, HasMain, KeepsBack, Rewriting, Repairing, Repairable}
use Rattle.rom_ranges.specs.declared.range.Range.{Range}
use Rattle.rom_twin.specs.Ranges.{WritesRanges}
use Rattle.rom_twin.specs.Seen.{Seen, InPhase, NeedsRepair, committed}
use Rattle.rom_twin.specs.declared.phase.Phase.{Phase}
use Rattle.rom_twin.specs.declared.phase.Phase.TheVariants.{Clean, Begun, Persisted, Committed, Copied, Undo, Doubt, Redo}
use Rattle.rom_twin.proofs.Since.{now_by, now_since, since_by, becomes_then}
use Rattle.rom_twin.proofs.Phases.{committed_is, committed_now, in_phase, kept, twins_writes}

repairable : (phase : Phase) (n : ℕ) (c m w : List ℕ) → c ≡ kept phase c m → ImageOf phase n c m w → Repairable phase n c w
repairable Clean n c m w e is = (is.heap, is.back_is)
repairable Begun n c m w e is = (is.heap, is.back_is)
repairable Persisted n c m w e is = (is.heap, is.back_is)
repairable Committed n c m w e is = (is.heap, is.back_is)
repairable Copied n c m w e is = (is.heap, is.back_is ∙ sym e)
repairable Undo n c m w e (inl is) = (is.heap, is.back_is)
repairable Undo n c m w e (inr is) = (is.heap, is.back_is)
repairable Doubt n c m w e (inl is) = (is.heap, is.back_is)
repairable Doubt n c m w e (inr is) = (is.heap, is.back_is)
repairable Redo n c m w e is = subst (λ (z : List ℕ). HasMain n z w) (sym e) is

-- Either is an equation of phases, so each is one of three.
needs : (P : Phase → Type 0) (phase : Phase) → NeedsRepair phase → P Undo → P Doubt → P Redo → P phase
needs P phase (inl e) undo doubt redo = subst P (sym e) undo
needs P phase (inr (inl e)) undo doubt redo = subst P (sym e) doubt
needs P phase (inr (inr e)) undo doubt redo = subst P (sym e) redo

-- an image while a region is rewritten is still one of the phase
rewriting_is : (phase : Phase) (n : ℕ) (c m w : List ℕ) → NeedsRepair phase → c ≡ kept phase c m → Rewriting phase n c w → ImageOf phase n c m w
rewriting_is phase n c m w which =
    needs (λ p. c ≡ kept p c m → Rewriting p n c w → ImageOf p n c m w) phase which (λ e is. inl is) (λ e is. inl is) (λ e is. subst (λ (z : List ℕ). HasMain n z w) e is)

-- all phases but `Redo` are repaired alike
pub record RewritesMain (phase : Phase) (n : ℕ) : Type 0 where
  pub asks : (c w : List ℕ) → Repairable phase n c w → KeepsBack n c w
  pub gives : (c w : List ℕ) → HasBack n c w → Rewriting phase n c w
  pub at : rewritten_at phase n ≡ MAIN
  pub writes : rewriting_writes phase n ≡ region_len n + 1
  pub syncs : repair_syncs phase ≡ 2

pub not_redo : (phase : Phase) (n : ℕ) → phase ≢ Redo → RewritesMain phase n
not_redo Clean n other = record { asks = λ c w is. is; gives = λ c w is. is; at = refl; writes = refl; syncs = refl }
not_redo Begun n other = record { asks = λ c w is. is; gives = λ c w is. is; at = refl; writes = refl; syncs = refl }
not_redo Persisted n other = record { asks = λ c w is. is; gives = λ c w is. is; at = refl; writes = refl; syncs = refl }
not_redo Committed n other = record { asks = λ c w is. is; gives = λ c w is. is; at = refl; writes = refl; syncs = refl }
not_redo Copied n other = record { asks = λ c w is. is; gives = λ c w is. is; at = refl; writes = refl; syncs = refl }
not_redo Undo n other = record { asks = λ c w is. is; gives = λ c w is. is; at = refl; writes = refl; syncs = refl }
not_redo Doubt n other = record { asks = λ c w is. is; gives = λ c w is. is; at = refl; writes = refl; syncs = refl }
not_redo Redo n other = absurd (other refl)

-- the state and one region
pub state_or_joins : (at len : ℕ) (x y z : List ℕ) → StateOrWithin at len x y → StateOrWithin at len y z → StateOrWithin at len x z
state_or_joins at len x y z first second = record {
  as_long = second.as_long ∙ first.as_long;
  before = λ k h other. second.before k h other ∙ first.before k h other;
  behind = λ k h. second.behind k h ∙ first.behind k h;
}

state_or_within : (at len from count : ℕ) → at ≡ from → len ≡ count → (x y : List ℕ) → ChangesOnly from count x y → StateOrWithin at len x y
state_or_within at len from count there long x y within = record {
  as_long = within.as_long;
  before = λ k h other. within.before k (omega (arith, h, there));
  behind = λ k h. within.behind k (omega (arith, h, there, long));
}

state_or_set : (at len v : ℕ) → 4 ≤ at → (x : List ℕ) → StateOrWithin at len x (set x STATE v)
state_or_set at len v late x = record {
  as_long = length-set x STATE v;
  before = λ k h other. get_or-set_other x STATE k v 0 other;
  behind = λ k h. let other : k ≢ STATE = omega (arith, h, late) in get_or-set_other x STATE k v 0 other;
}

pub state_or_writes : (at len v : ℕ) → 4 ≤ at → (x y : List ℕ) → WritesWord STATE v x y → StateOrWithin at len x y
state_or_writes at len v late x y (inl same) = subst (λ (l : List ℕ). StateOrWithin at len x l) (sym same) record { as_long = refl; before = λ k h other. refl; behind = λ k h. refl }
state_or_writes at len v late x y (inr put) = subst (λ (l : List ℕ). StateOrWithin at len x l) (sym put) (state_or_set at len v late x)

pub rewritten_late : (phase : Phase) (n : ℕ) → 4 ≤ rewritten_at phase n
rewritten_late Clean n = omega arith
rewritten_late Begun n = omega arith
rewritten_late Persisted n = omega arith
rewritten_late Committed n = omega arith
rewritten_late Copied n = omega arith
rewritten_late Undo n = omega arith
rewritten_late Doubt n = omega arith
rewritten_late Redo n = omega arith

module _ {D : Type 0} (shown : ShownDevice D) (at len : ℕ) where
  pub does_state : (v : ℕ) → 4 ≤ at → (a b : D) → Does shown (WritesWord STATE v) a b → Does shown (StateOrWithin at len) a b
  does_state v late = does_by shown (WritesWord STATE v) (StateOrWithin at len) (state_or_writes at len v late)

  pub does_region : (rs : List Range) (from : ℕ) (m : List ℕ) → from ≡ at → length m ≡ len → (a b : D) → Does shown (WritesRanges rs from m) a b → Does shown (StateOrWithin at len) a b
  does_region rs from m there long = does_by shown (WritesRanges rs from m) (StateOrWithin at len) (λ x y writes. state_or_within at len from (length m) (sym there) (sym long) x y writes.only)

  pub does_both : (a b c : D) → Does shown (StateOrWithin at len) a b → Does shown (StateOrWithin at len) b c → Does shown (StateOrWithin at len) a c
  does_both = does_on shown (StateOrWithin at len) (state_or_joins at len)

-- The twin before the repair, of which each image is of its phase, the committed image, and the device once a region was rewritten.
module _ {D : Type 0} (shown : ShownDevice D) (reads : (d : D) → IsTrue shown.tells_images → shown.leaves d (shown.words d)) (told : IsTrue shown.tells_images) (t : Seen D) (known : InPhase shown t)
    (which : NeedsRepair t.phase) (m : List ℕ) (image_is : committed shown t ≡ m) (b : D)
    (since : ((i : List ℕ) → shown.leaves t.device i → Repairable t.phase t.order m i) → Runs shown (Becomes (Rewriting t.phase t.order m)) t.device b) where
  abbrev pub old : List ℕ
  old = committed shown t

  keeps : old ≡ kept t.phase old known.new
  keeps = committed_now shown t old known.new (reads t.device told) known.each

  all : (i : List ℕ) → shown.leaves t.device i → Repairable t.phase t.order m i
  all i left = subst (λ (l : List ℕ). Repairable t.phase t.order l i) image_is (repairable t.phase t.order old known.new i keeps (known.each i left))

  rewriting : Runs shown (Becomes (Rewriting t.phase t.order old)) t.device b
  rewriting = subst (λ (l : List ℕ). Runs shown (Becomes (Rewriting t.phase t.order l)) t.device b) (sym image_is) (since all)

  still : (i : List ℕ) → shown.leaves b i → ImageOf t.phase t.order old known.new i
  still i left = ⊎_elim (λ was. known.each i was) (λ is. rewriting_is t.phase t.order old known.new i which keeps is) (now_since shown (Rewriting t.phase t.order old) t.device b rewriting i left)

  pub repair_failed : InPhase shown (record { device = b; order = t.order; phase = t.phase })
  repair_failed = in_phase shown (record { device = b; order = t.order; phase = t.phase }) old known.new (reads b told) still

  pub repair_still : committed shown (record { device = b; order = t.order; phase = t.phase }) ≡ old
  repair_still = committed_is t.phase t.order old known.new (shown.words b) (still (shown.words b) (reads b told)) ∙ sym keeps

  pub repair_midst : Runs shown (Becomes (Repairing t.phase t.order old)) t.device b
  repair_midst = becomes_by shown (Rewriting t.phase t.order old) (Repairing t.phase t.order old) (λ i is. inl is) t.device b rewriting

  module _ (now : ((i : List ℕ) → shown.leaves t.device i → Repairable t.phase t.order m i) → (i : List ℕ) → shown.leaves b i → Twins t.order m i)
      (d : D) (does : Does shown (WritesWord STATE (state_word Idle)) b d) where
    twins : (i : List ℕ) → shown.leaves b i → Twins t.order old i
    twins i left = subst (λ (l : List ℕ). Twins t.order l i) (sym image_is) (now all i left)

    repair_now : (i : List ℕ) → shown.leaves d i → Twins t.order old i
    repair_now = now_by shown (WritesWord STATE (state_word Idle)) (Twins t.order old) b d (Twins t.order old) (does.images told) twins (twins_writes t.order Idle old)

    pub repair_done : InPhase shown (record { device = d; order = t.order; phase = Clean })
    repair_done = in_phase shown (record { device = d; order = t.order; phase = Clean }) old [] (reads d told) repair_now

    pub repair_kept : back_of t.order (shown.words d) ≡ old
    repair_kept = (repair_now (shown.words d) (reads d told)).back_is

    pub repair_since : Runs shown (Becomes (Repairing t.phase t.order old)) t.device d
    repair_since = becomes_then shown (Repairing t.phase t.order old) t.device b d repair_midst
        (since_by shown (WritesWord STATE (state_word Idle)) (Repairing t.phase t.order old) b d (Twins t.order old) (does.images told) twins (λ v w was by. inr (twins_writes t.order Idle old v w was by)))
