-- How an ear goes on.
use Rattle.std.specs.Prelude.{◌≡◌, ℕ, ◌+◌, ◌-◌, ◌^◌, ◌<◌, ◌≤◌, ◌==◌, Bool, true, false, cond, List, [], ◌∷◌, ◌++◌, length, take, drop, Option, None, Some}
use Rattle.std.proofs.Common.{inl, inr, refl, sym, ap, subst, ◌∙◌, append_assoc, append-nil, arith, length-append, length-take, length-drop, ne_eqb, zero, suc}
use Rattle.std.proofs.lemmas.List.{drop-append-le, drop-drop, map-append, take-append-le}
use Rattle.std.proofs.lemmas.Slice.{between_is}
use Rattle.std.proofs.Math.Seq.{take-append-add}
use Rattle.rom_model.specs.Faults.{FailedLast, counted}
use Rattle.rom_text.specs.Lines.{lines_of, without_cr}
use Rattle.rom_hear.specs.Events.{Event, Heard, ends_in, has_ended, has_none, heard_in, heards, known_in, whole_lines}
use Rattle.rom_hear.specs.Hearing.{Asks, AsksForOne, AsksOnce, HandsNext, HasCut, HasHanded, HasHeardNothing, IdlesBy, IdlesFor, IsAt, IsHandedOn, IsLonger, IsNext, IsNextOf, IsOver, IsPassedOver, StepsOn, line_in, waiting_in}
use Rattle.rom_hear.specs.Peers.{IsUntold, Logs, ShownPeer}
use Rattle.rom_hear.specs.declared.ear.TheConstants.{ROOM}
use Rattle.rom_hear.specs.declared.ear.Ear.{Ear}
use Rattle.rom_hear.specs.declared.ear.Next.{Next}
use Rattle.rom_hear.specs.declared.ear.Next.TheVariants as nexts
use Rattle.rom_hear.proofs.Logs.{ends_in-append, has_ended-append, heard_in-append}
use Rattle.rom_hear.proofs.Pieces.{cut_line, last_line, length-without_cr}

-- bytes that come stand behind what is left
cut_more : (heard rest : List ℕ) (lines : List (List ℕ)) (bytes : List ℕ) → HasCut false heard rest lines → HasCut (has_none bytes) (heard ++ bytes) (rest ++ bytes) lines
cut_more heard rest lines bytes cut = record {
  split = λ more at_end. ap lines_of (append_assoc heard bytes more) ∙ cut.split (bytes ++ more) (λ e. cc) ∙ ap (λ (bs : List ℕ). lines ++ lines_of bs) (sym (append_assoc rest bytes more));
  ends = λ going. omega (arith, ends_in-append heard bytes, ends_in-append rest bytes, cut.ends refl);
}

-- a line is cut at its LF
cut_at_end : (ended : Bool) (heard passed piece rest : List ℕ) (lines : List (List ℕ)) → HasCut ended heard (passed ++ (piece ++ 10 ∷ rest)) lines → ends_in (passed ++ piece) ≡ 0 →
    HasCut ended heard rest (lines ++ without_cr (passed ++ piece) ∷ [])
cut_at_end ended heard passed piece rest lines cut none = record {
  split = λ more at_end.
      let all : (passed ++ (piece ++ 10 ∷ rest)) ++ more ≡ (passed ++ piece) ++ 10 ∷ (rest ++ more) = simp append_assoc refl in
      cut.split more at_end
      ∙ ap (λ (bs : List ℕ). lines ++ lines_of bs) all
      ∙ ap (λ (ls : List (List ℕ)). lines ++ ls) (cut_line (passed ++ piece) (rest ++ more) none)
      ∙ sym (append_assoc lines (without_cr (passed ++ piece) ∷ []) (lines_of (rest ++ more)));
  ends = λ going.
      let one : ends_in (10 ∷ rest) ≡ ends_in rest + 1 = refl in
      omega (arith, cut.ends going, ends_in-append passed (piece ++ 10 ∷ rest), ends_in-append piece (10 ∷ rest), ends_in-append passed piece, none, one, length-append lines (without_cr (passed ++ piece) ∷ []));
}

-- at the end the last line needs no LF
cut_last : (heard piece : List ℕ) (lines : List (List ℕ)) → HasCut true heard piece lines → 0 < length piece → ends_in piece ≡ 0 → HasCut true heard [] (lines ++ without_cr piece ∷ [])
cut_last heard piece lines cut some none = record {
  split = λ more at_end.
      let no_more : more ≡ [] = at_end refl in
      let longer : List (List ℕ) = lines ++ without_cr piece ∷ [] in
      cut.split more at_end
      ∙ ap (λ (bs : List ℕ). lines ++ lines_of (piece ++ bs)) no_more
      ∙ ap (λ (bs : List ℕ). lines ++ lines_of bs) (append-nil piece)
      ∙ ap (λ (ls : List (List ℕ)). lines ++ ls) (last_line piece some none)
      ∙ sym (append-nil longer)
      ∙ ap (λ (bs : List ℕ). longer ++ lines_of bs) (sym no_more);
  ends = λ going. cc;
}

-- the lines that are known are those that were cut, and those of the rest
pub known_is : (ended : Bool) (heard rest : List ℕ) (lines : List (List ℕ)) → HasCut ended heard rest lines → whole_lines ended heard ≡ length lines + whole_lines ended rest
known_is true heard rest lines cut =
    ap (λ (bs : List ℕ). length (lines_of bs)) (sym (append-nil heard)) ∙ ap length (cut.split [] (λ e. refl)) ∙ length-append lines (lines_of (rest ++ []))
    ∙ ap (λ (bs : List ℕ). length lines + length (lines_of bs)) (append-nil rest)
known_is false heard rest lines cut = cut.ends refl

pub test_same : (b : Bool) → cond b true false ≡ b
test_same true = refl
test_same false = refl

-- what waits is passed over
pub passed_over : (was now : Ear) → ends_in (waiting_in was) ≡ 0 → ROOM ≤ length (waiting_in was) → waiting_in now ≡ [] → now.ended ≡ was.ended → now.long ≡ true → IsHandedOn was now
passed_over was now none full empty ended long = λ is_ended heard lines here.
    let passed : List ℕ = here.passed ++ waiting_in was in
    let over : ROOM ≤ length passed = omega (arith, full, length-append here.passed (waiting_in was)) in
    record {
      passed = passed;
      cut = subst (λ (bs : List ℕ). HasCut is_ended heard bs lines) (sym (ap (λ (bs : List ℕ). passed ++ bs) empty ∙ append-nil passed)) here.cut;
      unbroken = omega (arith, ends_in-append here.passed (waiting_in was), here.unbroken, none);
      of_long = subst (λ (b : Bool). IsPassedOver b passed) (sym long) over;
      ended_is = ended ∙ here.ended_is;
    }

-- what is handed out is none but a line
pub no_end : (long : Bool) (handed : Next) → handed ≡ cond long nexts.Long nexts.Line → handed ≡ nexts.End → ⊥
no_end true handed is end = cc
no_end false handed is end = cc

some_left : (long : Bool) (passed piece : List ℕ) → IsPassedOver long passed → (long ≡ false → 0 < length piece) → 0 < length (passed ++ piece)
some_left true passed piece over some = omega (arith, over, length-append passed piece)
some_left false passed piece over some = omega (arith, some refl, length-append passed piece)

-- what holds of each front of a list, and of the list, holds of each front of one that is longer by one
pub each_front : {X : Type 0} (P : List X → Type 0) (xs : List X) (x : X) → ((before after : List X) (y : X) → xs ≡ before ++ y ∷ after → P before) → P xs →
    (before after : List X) (y : X) → xs ++ x ∷ [] ≡ before ++ y ∷ after → P before
each_front P [] x fronts all [] after y is = all
each_front P [] x fronts all (b ∷ before) after y is = absurd (omega (arith, ap length is, length-append before (y ∷ after)))
each_front P (a ∷ xs) x fronts all [] after y is = fronts [] xs a refl
each_front P (a ∷ xs) x fronts all (b ∷ before) after y is =
    let first : a ≡ b = cc in
    let rest : xs ++ x ∷ [] ≡ before ++ y ∷ after = cc in
    subst (λ c. P (c ∷ before)) first (each_front (λ l. P (a ∷ l)) xs x (λ front later z same. fronts (a ∷ front) later z (ap (λ l. a ∷ l) same)) all before after y rest)

-- an ear that heard nothing has handed out no line
pub none_handed : (ear : Ear) → HasHeardNothing ear → HasHanded ear false [] []
none_handed ear nothing = record {
  passed = [];
  cut = record {
    split = λ more at_end. ap (λ (bs : List ℕ). lines_of (bs ++ more)) (sym nothing.waiting);
    ends = λ going. omega (arith, ap ends_in nothing.waiting);
  };
  unbroken = refl;
  of_long = subst (λ (b : Bool). IsPassedOver b []) (sym nothing.long) refl;
  ended_is = nothing.ended;
}

module _ {K : Type 0} where
  -- ---- what an ear keeps

  handed_more : (was now : Ear) (log : List (Event K)) (bytes : List ℕ) (lines : List (List ℕ)) → HasHanded was (has_ended log) (heard_in log) lines → was.ended ≡ false →
      waiting_in now ≡ waiting_in was ++ bytes → now.ended ≡ has_none bytes → now.long ≡ was.long → HasHanded now (has_ended (log ++ Heard bytes ∷ [])) (heard_in (log ++ Heard bytes ∷ [])) lines
  handed_more was now log bytes lines here going waits none long =
      let e : List (Event K) = Heard bytes ∷ [] in
      let open_yet : has_ended log ≡ false = sym here.ended_is ∙ going in
      let ends : has_ended (log ++ e) ≡ has_none bytes =
      has_ended-append log e ∙ ap (λ (b : Bool). cond b true (cond (has_none bytes) true false)) open_yet ∙ test_same (has_none bytes) in
      let heard : heard_in (log ++ e) ≡ heard_in log ++ bytes = heard_in-append log e ∙ ap (λ (bs : List ℕ). heard_in log ++ bs) (append-nil bytes) in
      let rest : (here.passed ++ waiting_in was) ++ bytes ≡ here.passed ++ waiting_in now = append_assoc here.passed (waiting_in was) bytes ∙ ap (λ (bs : List ℕ). here.passed ++ bs) (sym waits) in
      let was_cut : HasCut false (heard_in log) (here.passed ++ waiting_in was) lines = subst (λ (b : Bool). HasCut b (heard_in log) (here.passed ++ waiting_in was) lines) open_yet here.cut in
      let all : HasHanded now (has_none bytes) (heard_in log ++ bytes) lines = record {
        passed = here.passed;
        cut = subst (λ (bs : List ℕ). HasCut (has_none bytes) (heard_in log ++ bytes) bs lines) rest (cut_more (heard_in log) (here.passed ++ waiting_in was) lines bytes was_cut);
        unbroken = here.unbroken;
        of_long = subst (λ (b : Bool). IsPassedOver b here.passed) (sym long) here.of_long;
        ended_is = none;
      } in
      subst (λ (b : Bool). HasHanded now b (heard_in (log ++ e)) lines) (sym ends) (subst (λ (bs : List ℕ). HasHanded now (has_none bytes) bs lines) (sym heard) all)

  -- more came
  pub at_more : (was now : Ear) (before after : Option (List (Event K))) (bytes : List ℕ) (lines : List (List ℕ)) → IsAt was before lines → Logs before after (Heard bytes) → was.ended ≡ false →
      waiting_in now ≡ waiting_in was ++ bytes → now.ended ≡ has_none bytes → now.long ≡ was.long → IsAt now after lines
  at_more was now None after bytes lines here logs going waits none long = subst (λ (o : Option (List (Event K))). IsAt now o lines) (sym logs) tt
  at_more was now (Some log) None bytes lines here logs going waits none long = absurd logs
  at_more was now (Some log) (Some longer) bytes lines here logs going waits none long = subst (λ (l : List (Event K)). IsAt now (Some l) lines) (sym logs) (handed_more was now log bytes lines here going waits none long)

  -- nothing came
  pub at_same : (was now : Ear) (log : Option (List (Event K))) (lines : List (List ℕ)) → IsAt was log lines → waiting_in now ≡ waiting_in was → now.ended ≡ was.ended → now.long ≡ was.long → IsAt now log lines
  at_same was now None lines here waits ended long = tt
  at_same was now (Some log) lines here waits ended long = record {
    passed = here.passed;
    cut = subst (λ (bs : List ℕ). HasCut (has_ended log) (heard_in log) (here.passed ++ bs) lines) (sym waits) here.cut;
    unbroken = here.unbroken;
    of_long = subst (λ (b : Bool). IsPassedOver b here.passed) (sym long) here.of_long;
    ended_is = ended ∙ here.ended_is;
  }

  pub at_on : (was now : Ear) (log : Option (List (Event K))) (lines : List (List ℕ)) → IsHandedOn was now → IsAt was log lines → IsAt now log lines
  at_on was now None lines on here = tt
  at_on was now (Some log) lines on here = on (has_ended log) (heard_in log) lines here

  -- ---- what it hands out

  -- no line is known but those, while more may come
  pub no_more : (ear : Ear) (log : List (Event K)) (lines : List (List ℕ)) → HasHanded ear (has_ended log) (heard_in log) lines → ear.ended ≡ false → ends_in (waiting_in ear) ≡ 0 → known_in log ≡ length lines
  no_more ear log lines here going none =
      let open_yet : has_ended log ≡ false = sym here.ended_is ∙ going in
      let rest : List ℕ = here.passed ++ waiting_in ear in
      let left : whole_lines (has_ended log) rest ≡ 0 = ap (λ (b : Bool). whole_lines b rest) open_yet ∙ omega (arith, ends_in-append here.passed (waiting_in ear), here.unbroken, none) in
      omega (arith, known_is (has_ended log) (heard_in log) rest lines here.cut, left)

  -- and none, once nothing is left
  pub none_left : (ear : Ear) (log : List (Event K)) (lines : List (List ℕ)) → HasHanded ear (has_ended log) (heard_in log) lines → ear.ended ≡ true → ear.long ≡ false → waiting_in ear ≡ [] → known_in log ≡ length lines
  none_left ear log lines here over short empty =
      let passed : here.passed ≡ [] = subst (λ (b : Bool). IsPassedOver b here.passed) short here.of_long in
      let rest : List ℕ = here.passed ++ waiting_in ear in
      let nothing : rest ≡ [] = ap (λ (bs : List ℕ). bs ++ waiting_in ear) passed ∙ empty in
      let left : whole_lines (has_ended log) rest ≡ 0 = ap (λ (b : Bool). whole_lines b rest) (sym here.ended_is ∙ over) ∙ ap (λ (bs : List ℕ). length (lines_of bs)) nothing in
      omega (arith, known_is (has_ended log) (heard_in log) rest lines here.cut, left)

  -- the line that was cut, by whether its front was passed over
  next_by : (ear : Ear) (log : List (Event K)) (lines : List (List ℕ)) (passed piece : List ℕ) (long : Bool) → IsPassedOver long passed → line_in ear ≡ without_cr piece →
      HasHanded ear (has_ended log) (heard_in log) (lines ++ without_cr (passed ++ piece) ∷ []) → IsNextOf ear log lines (cond long nexts.Long nexts.Line)
  next_by ear log lines passed piece true over line all =
      (without_cr (passed ++ piece), omega (arith, over, length-append passed piece, length-without_cr (passed ++ piece)), all)
  next_by ear log lines passed piece false over line all =
      subst (λ (l : List ℕ). HasHanded ear (has_ended log) (heard_in log) (lines ++ l ∷ [])) (ap (λ (bs : List ℕ). without_cr (bs ++ piece)) over ∙ sym line) all

  -- a line that has its LF
  pub next_cut : (was now : Ear) (log : Option (List (Event K))) (lines : List (List ℕ)) (piece rest : List ℕ) → IsAt was log lines → waiting_in was ≡ piece ++ 10 ∷ rest → ends_in piece ≡ 0 →
      waiting_in now ≡ rest → now.ended ≡ was.ended → now.long ≡ false → line_in now ≡ without_cr piece → IsNext now log lines (cond was.long nexts.Long nexts.Line)
  next_cut was now None lines piece rest here waits none left ended short line = tt
  next_cut was now (Some log) lines piece rest here waits none left ended short line =
      let unbroken : ends_in (here.passed ++ piece) ≡ 0 = omega (arith, ends_in-append here.passed piece, here.unbroken, none) in
      let whole : HasCut (has_ended log) (heard_in log) (here.passed ++ (piece ++ 10 ∷ rest)) lines = subst (λ (bs : List ℕ). HasCut (has_ended log) (heard_in log) (here.passed ++ bs) lines) waits here.cut in
      let cut : HasCut (has_ended log) (heard_in log) rest (lines ++ without_cr (here.passed ++ piece) ∷ []) = cut_at_end (has_ended log) (heard_in log) here.passed piece rest lines whole unbroken in
      next_by now log lines here.passed piece was.long here.of_long line (record {
        passed = [];
        cut = subst (λ (bs : List ℕ). HasCut (has_ended log) (heard_in log) bs (lines ++ without_cr (here.passed ++ piece) ∷ [])) (sym left) cut;
        unbroken = refl;
        of_long = subst (λ (b : Bool). IsPassedOver b []) (sym short) refl;
        ended_is = ended ∙ here.ended_is;
      })

  -- the last line, where nothing more comes
  pub next_last : (was now : Ear) (log : Option (List (Event K))) (lines : List (List ℕ)) → IsAt was log lines → was.ended ≡ true → ends_in (waiting_in was) ≡ 0 → (was.long ≡ false → 0 < length (waiting_in was)) →
      waiting_in now ≡ [] → now.ended ≡ was.ended → now.long ≡ false → line_in now ≡ without_cr (waiting_in was) → IsNext now log lines (cond was.long nexts.Long nexts.Line)
  next_last was now None lines here over none some left ended short line = tt
  next_last was now (Some log) lines here over none some left ended short line =
      let piece : List ℕ = here.passed ++ waiting_in was in
      let longer : List (List ℕ) = lines ++ without_cr piece ∷ [] in
      let at_end : has_ended log ≡ true = sym here.ended_is ∙ over in
      let unbroken : ends_in piece ≡ 0 = omega (arith, ends_in-append here.passed (waiting_in was), here.unbroken, none) in
      let was_cut : HasCut true (heard_in log) piece lines = subst (λ (b : Bool). HasCut b (heard_in log) piece lines) at_end here.cut in
      let cut : HasCut true (heard_in log) [] longer = cut_last (heard_in log) piece lines was_cut (some_left was.long here.passed (waiting_in was) here.of_long some) unbroken in
      next_by now log lines here.passed (waiting_in was) was.long here.of_long line (record {
        passed = [];
        cut = subst (λ (b : Bool). HasCut b (heard_in log) (waiting_in now) longer) (sym at_end) (subst (λ (bs : List ℕ). HasCut true (heard_in log) bs longer) (sym left) cut);
        unbroken = refl;
        of_long = subst (λ (b : Bool). IsPassedOver b []) (sym short) refl;
        ended_is = ended ∙ here.ended_is;
      })

  -- none is handed out
  pub next_none : (ear : Ear) (log : Option (List (Event K))) (lines : List (List ℕ)) → IsAt ear log lines → IsNext ear log lines nexts.End
  next_none ear None lines here = tt
  next_none ear (Some log) lines here = here

  -- nothing is left
  pub is_over : (ear : Ear) (log : Option (List (Event K))) (lines : List (List ℕ)) → IsAt ear log lines → ear.ended ≡ true → ear.long ≡ false → waiting_in ear ≡ [] → IsOver log lines
  is_over ear None lines here over short empty = tt
  is_over ear (Some log) lines here over short empty = (sym here.ended_is ∙ over, none_left ear log lines here over short empty)

  -- it failed
  pub next_failed : (ear : Ear) (log : Option (List (Event K))) (lines : List (List ℕ)) → IsAt ear log lines → ear.ended ≡ false → ends_in (waiting_in ear) ≡ 0 → IsNext ear log lines nexts.Failed
  next_failed ear None lines here going none = tt
  next_failed ear (Some log) lines here going none = (here, no_more ear log lines here going none)

  -- ---- how often it asks

  pub asks_one : (ear : Ear) (before after : Option (List (Event K))) (bytes : List ℕ) (lines : List (List ℕ)) → IsAt ear before lines → Logs before after (Heard bytes) → ear.ended ≡ false → ends_in (waiting_in ear) ≡ 0 → AsksForOne before after lines
  asks_one ear None after bytes lines here logs going none = logs
  asks_one ear (Some log) None bytes lines here logs going none = absurd logs
  asks_one ear (Some log) (Some longer) bytes lines here logs going none = (bytes, logs, no_more ear log lines here going none)

  pub none_asked : (known : ℕ) (log : Option (List (Event K))) → Asks known log log
  none_asked known None = refl
  none_asked known (Some log) = record { pieces = []; grown = sym (append-nil log); asked = λ before after bytes is. absurd (omega (arith, ap length is, length-append before (bytes ∷ after))) }

  pub asked_more : (known : ℕ) (lines : List (List ℕ)) (before mid after : Option (List (Event K))) → length lines ≡ known → Asks known before mid → AsksForOne mid after lines → Asks known before after
  asked_more known lines None None after is asks more = more
  asked_more known lines None (Some mid) after is asks more = cc
  asked_more known lines (Some log) None after is asks more = absurd asks
  asked_more known lines (Some log) (Some mid) None is asks more = absurd more
  asked_more known lines (Some log) (Some mid) (Some longer) is asks more = record {
    pieces = asks.pieces ++ more.0 ∷ [];
    grown = more.1 ∙ ap (λ (l : List (Event K)). l ++ Heard more.0 ∷ []) asks.grown ∙ append_assoc log (heards asks.pieces) (Heard more.0 ∷ [])
        ∙ ap (λ (l : List (Event K)). log ++ l) (sym (map-append (λ (bs : List ℕ). Heard bs) asks.pieces (more.0 ∷ [])));
    asked = each_front (λ (front : List (List ℕ)). known_in (log ++ heards front) ≡ known) asks.pieces more.0 (λ before after bytes same. asks.asked before after bytes same)
        (ap known_in (sym asks.grown) ∙ more.2 ∙ is);
  }

  pub longer_by_one : (many : ℕ) (lines : List (List ℕ)) (before mid after : Option (List (Event K))) → IsLonger many before mid → AsksForOne mid after lines → IsLonger (many + 1) before after
  longer_by_one many lines None mid after longer more = tt
  longer_by_one many lines (Some log) mid None longer more = tt
  longer_by_one many lines (Some log) None (Some last) longer more = cc
  longer_by_one many lines (Some log) (Some mid) (Some last) longer more = omega (arith, longer, ap length more.1, length-append mid (Heard more.0 ∷ []))

  -- So many times more was asked for, and nothing was handed out yet.
  pub record HasHeardOn (ear : Ear) (before now : Option (List (Event K))) (lines : List (List ℕ)) (rounds : ℕ) : Type 0 where
    pub at : IsAt ear now lines
    pub asks : Asks (length lines) before now
    pub longer : IsLonger rounds before now

  none_longer : (log : Option (List (Event K))) → IsLonger 0 log log
  none_longer None = tt
  none_longer (Some log) = omega arith

  pub heard_first : (ear : Ear) (log : Option (List (Event K))) (lines : List (List ℕ)) → IsAt ear log lines → HasHeardOn ear log log lines 0
  heard_first ear log lines here = record { at = here; asks = none_asked (length lines) log; longer = none_longer log }

  pub heard_on : (ear now : Ear) (before mid after : Option (List (Event K))) (lines : List (List ℕ)) (rounds : ℕ) → HasHeardOn ear before mid lines rounds → StepsOn now mid after lines None → HasHeardOn now before after lines (rounds + 1)
  heard_on ear now before mid after lines rounds heard step = record {
    at = step.0;
    asks = asked_more (length lines) lines before mid after refl heard.asks step.1;
    longer = longer_by_one rounds lines before mid after heard.longer step.1;
  }

  pub hands_out : (ear now : Ear) (before mid after : Option (List (Event K))) (lines : List (List ℕ)) (rounds : ℕ) (handed : Next) → HasHeardOn ear before mid lines rounds → StepsOn now mid after lines (Some handed) → HandsNext now before after lines handed
  hands_out ear now before mid after lines rounds handed heard step = record {
    asks = subst (λ (o : Option (List (Event K))). Asks (length lines) before o) (sym step.0) heard.asks;
    next = step.1;
    at_end = λ end. inl (step.2 end);
  }

  longer_by : (many rounds : ℕ) (before now : Option (List (Event K))) → many ≤ rounds → IsLonger rounds before now → IsLonger many before now
  longer_by many rounds None now most longer = tt
  longer_by many rounds (Some log) None most longer = tt
  longer_by many rounds (Some log) (Some last) most longer = omega (arith, most, longer)

  pub hands_none : (ear : Ear) (before now : Option (List (Event K))) (lines : List (List ℕ)) (rounds : ℕ) → HasHeardOn ear before now lines rounds → 2 ^ 64 - 1 ≤ rounds → HandsNext ear before now lines nexts.End
  hands_none ear before now lines rounds heard all = record { asks = heard.asks; next = next_none ear now lines heard.at; at_end = λ end. inr (longer_by (2 ^ 64 - 1) rounds before now all heard.longer) }

module _ {K P : Type 0} (shown : ShownPeer K P) where
  -- nothing was asked for
  pub idles_same : (ended : Bool) (p : P) → IdlesBy shown ended ended p p
  idles_same true p = refl
  idles_same false p = refl

  pub idles_cut : (long ended : Bool) (p : P) → IdlesFor shown (cond long nexts.Long nexts.Line) ended ended p p
  idles_cut true ended p = (idles_same ended p, refl)
  idles_cut false ended p = (idles_same ended p, refl)

  -- more was asked for, by how many bytes came
  pub idles_by : (none was now : Bool) (old new : P) → was ≡ false → now ≡ none → shown.idle new ≡ cond none (counted (shown.idle old)) (shown.idle old) → shown.ended new ≡ none → IdlesBy shown was now old new
  idles_by true true now old new going is idle ended = cc
  idles_by false true now old new going is idle ended = cc
  idles_by true false true old new going is idle ended = record { once = idle; last = ended }
  idles_by true false false old new going is idle ended = cc
  idles_by false false true old new going is idle ended = cc
  idles_by false false false old new going is idle ended = idle

  -- one asking after others
  pub idles_on : (was mid now : Bool) (old middle new : P) → IdlesBy shown was mid old middle → (was ≡ true → mid ≡ true) → IdlesBy shown mid now middle new → (mid ≡ true → (new ≡ middle) × (now ≡ true)) → IdlesBy shown was now old new
  idles_on true true now old middle new first on second at_end = ap shown.idle (at_end refl).0 ∙ first
  idles_on true false now old middle new first on second at_end = absurd (let e : false ≡ true = on refl in cc)
  idles_on false true true old middle new first on second at_end = subst (λ (p : P). FailedLast (shown.idle old) (shown.idle p) (shown.ended p)) (sym (at_end refl).0) first
  idles_on false true false old middle new first on second at_end = absurd (let e : false ≡ true = (at_end refl).1 in cc)
  idles_on false false true old middle new first on second at_end = subst (λ n. FailedLast n (shown.idle new) (shown.ended new)) first second
  idles_on false false false old middle new first on second at_end = second ∙ first

-- whether bytes came, by how many
pub none_by : (n : ℕ) (bytes : List ℕ) → n ≤ length bytes → has_none (take n bytes) ≡ (n == 0)
none_by zero bytes few = refl
none_by (suc n) [] few = absurd (omega (arith, few))
none_by (suc n) (b ∷ bs) few = sym (ne_eqb (suc n) 0 (λ e. absurd (omega (arith, e))))

-- what waits, once bytes came behind it
pub waits_more : (bytes came behind : List ℕ) (start end n : ℕ) → start ≤ end → end ≤ length bytes → n ≤ length came →
    take (end + n - start) (drop start (take end bytes ++ (came ++ behind))) ≡ take (end - start) (drop start bytes) ++ take n came
waits_more bytes came behind start end n from within few =
    let front : List ℕ = take (end - start) (drop start bytes) in
    let before : start ≤ length (take end bytes) = omega (arith, from, length-take end bytes, within) in
    let many : end + n - start ≡ length front + n = omega (arith, from, within, length-take (end - start) (drop start bytes), length-drop start bytes) in
    ap (take (end + n - start)) (drop-append-le start (take end bytes) (came ++ behind) before ∙ ap (λ (bs : List ℕ). bs ++ (came ++ behind)) (sym (between_is bytes start end)))
    ∙ ap (λ k. take k (front ++ (came ++ behind))) many
    ∙ take-append-add front (came ++ behind) n
    ∙ ap (λ (bs : List ℕ). front ++ bs) (take-append-le n came behind few)

-- and once some of them were handed out
pub waits_behind : (bytes : List ℕ) (start end past : ℕ) → take (end - (start + past)) (drop (start + past) bytes) ≡ drop past (take (end - start) (drop start bytes))
waits_behind bytes start end past =
    between_is bytes (start + past) end ∙ sym (drop-drop past start (take end bytes)) ∙ ap (drop past) (sym (between_is bytes start end))

-- and where none came
pub waits_still : (bytes came behind : List ℕ) (start end : ℕ) → start ≤ end → end ≤ length bytes → take (end - start) (drop start (take end bytes ++ (came ++ behind))) ≡ take (end - start) (drop start bytes)
waits_still bytes came behind start end from within =
    let same : end + 0 - start ≡ end - start = omega arith in
    ap (λ k. take k (drop start (take end bytes ++ (came ++ behind)))) (sym same) ∙ waits_more bytes came behind start end 0 from within (omega arith) ∙ append-nil (take (end - start) (drop start bytes))

false_by : (b c : Bool) → (b ≡ true → c ≡ true) → c ≡ false → b ≡ false
false_by true c over is = absurd (let e : c ≡ true = over refl in cc)
false_by false c over is = refl

module _ {K P : Type 0} (shown : ShownPeer K P) where
  none_idle : (was mid : Bool) (old middle : P) → IdlesBy shown was mid old middle → (was ≡ true → mid ≡ true) → mid ≡ false → shown.idle middle ≡ shown.idle old
  none_idle true true old middle idle over is = cc
  none_idle true false old middle idle over is = idle
  none_idle false true old middle idle over is = cc
  none_idle false false old middle idle over is = idle

  untold_on : (old middle new : P) → IsUntold shown old middle → IsUntold shown middle new → IsUntold shown old new
  untold_on old middle new first second = record { unsaid = second.unsaid ∙ first.unsaid; failing = second.failing ∙ first.failing; rest = second.rest ∙ first.rest }

  idles_for : (was mid now : Ear) (old middle new : P) (handed : Next) → AsksOnce shown was mid old middle nexts.Line → AsksOnce shown mid now middle new handed → IdlesFor shown handed was.ended now.ended old new
  idles_for was mid now old middle new nexts.Failed first second =
      let going : mid.ended ≡ false = false_by mid.ended now.ended (λ e. (second.at_end e).1) second.idle.2 in
      let same : shown.idle middle ≡ shown.idle old = none_idle was.ended mid.ended old middle first.idle.0 (λ e. (first.at_end e).1) going in
      (subst (λ n. FailedLast n (shown.idle new) (shown.ended new)) same second.idle.0, second.idle.1 ∙ ap counted first.idle.1, second.idle.2)
  idles_for was mid now old middle new nexts.Line first second = (idles_on shown was.ended mid.ended now.ended old middle new first.idle.0 (λ e. (first.at_end e).1) second.idle.0 second.at_end, second.idle.1 ∙ first.idle.1)
  idles_for was mid now old middle new nexts.Long first second = (idles_on shown was.ended mid.ended now.ended old middle new first.idle.0 (λ e. (first.at_end e).1) second.idle.0 second.at_end, second.idle.1 ∙ first.idle.1)
  idles_for was mid now old middle new nexts.End first second = (idles_on shown was.ended mid.ended now.ended old middle new first.idle.0 (λ e. (first.at_end e).1) second.idle.0 second.at_end, second.idle.1 ∙ first.idle.1)

  -- one asking after others, where nothing was handed out before
  pub asks_on : (was mid now : Ear) (old middle new : P) (handed : Next) → AsksOnce shown was mid old middle nexts.Line → AsksOnce shown mid now middle new handed → AsksOnce shown was now old new handed
  asks_on was mid now old middle new handed first second = record {
    idle = idles_for was mid now old middle new handed first second;
    at_end = λ e. let m = first.at_end e in let n = second.at_end m.1 in (n.0 ∙ m.0, n.1);
    untold = untold_on old middle new first.untold second.untold;
  }

  pub asks_first : (ear : Ear) (p : P) → AsksOnce shown ear ear p p nexts.Line
  asks_first ear p = record { idle = (idles_same shown ear.ended p, refl); at_end = λ e. (refl, e); untold = record { unsaid = refl; failing = refl; rest = refl } }

  -- where none was handed out after so many rounds
  pub asks_none : (was now : Ear) (old new : P) → AsksOnce shown was now old new nexts.Line → AsksOnce shown was now old new nexts.End
  asks_none was now old new asks = record { idle = asks.idle; at_end = asks.at_end; untold = asks.untold }
