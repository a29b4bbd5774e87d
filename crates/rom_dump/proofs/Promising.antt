-- The promise, of words that are a command and of words that are none.
use Rattle.std.proofs.Common.{◌≡◌, ◌≢◌, ◌⊎◌, inl, inr, ℕ, List, refl, sym, ◌∙◌, ap, subst, arith}
use Rattle.std.specs.Prelude.{codes, IfSome, Option, Some, None}
use Rattle.rom_model.specs.declared.unfit.Unfit.{Unfit}
use Rattle.rom_open.specs.declared.reasons.Why.{Why}
use Rattle.rom_open.specs.declared.view.alone.Region.{Region}
use Rattle.rom_run.specs.Refusing.{refusal_line, refusal_status}
use Rattle.rom_run.specs.Statuses.{exit_number}
use Rattle.rom_run.proofs.Showing.{refusal_ends}
use Rattle.rom_device.specs.Device.{OnlyReads, ShownDevice}
use Rattle.rom_device.proofs.Going.{runs_none}
use Rattle.rom_text.specs.Runs.{IsCutShort, IsLineWrittenOrCutShort, IsWhollyWritten}
use Rattle.rom_text.specs.Streams.{ShownSink, StopsWriting}
use Rattle.rom_dump.specs.Promise.{DumpPromise, IsDumpStatus}
use Rattle.rom_dump.specs.Shown.{EndsAsScript, EndsAsText, IsAnsweredBy, IsCommandAnswered, IsRegionPrinted, IsWrittenOrCutShort, Telling}
use Rattle.rom_dump.specs.Words.{DumpCommand, Script, Check, Metrics, region_asked}
use Rattle.rom_dump.proofs.Showing.{put_stops}

-- the status of a refusal
refusal_three : (why : Why) (n : ℕ) → n ≡ exit_number (refusal_status why) → (n ≡ 3) ⊎ ((n ≡ 6) ⊎ (n ≡ 7))
refusal_three why n is = elim (refusal_ends why) [
  | inl named ↦ inl (is ∙ ap exit_number named)
  | inr more ↦ elim more [
    | inl memory ↦ inr (inl (is ∙ ap exit_number memory))
    | inr device ↦ inr (inr (is ∙ ap exit_number device))
  ]
]

refused_status : (does : DumpCommand) (n : ℕ) → (n ≡ 3) ⊎ ((n ≡ 6) ⊎ (n ≡ 7)) → IsDumpStatus (Some does) n
refused_status (Script file from part) n (inl e) = inr (inl e)
refused_status (Script file from part) n (inr (inl e)) = inr (inr (inr (inl e)))
refused_status (Script file from part) n (inr (inr e)) = inr (inr (inr (inr (inl e))))
refused_status (Check file from) n (inl e) = inr (inl e)
refused_status (Check file from) n (inr (inl e)) = inr (inr (inl e))
refused_status (Check file from) n (inr (inr e)) = inr (inr (inr e))
refused_status (Metrics file) n (inl e) = inr (inl e)
refused_status (Metrics file) n (inr (inl e)) = inr (inr (inr (inl e)))
refused_status (Metrics file) n (inr (inr e)) = inr (inr (inr (inr e)))

not_two : (does : DumpCommand) (n : ℕ) → IsDumpStatus (Some does) n → n ≢ 2
not_two (Script file from part) n (inl e) is = absurd (omega (arith, e, is))
not_two (Script file from part) n (inr (inl e)) is = absurd (omega (arith, e, is))
not_two (Script file from part) n (inr (inr (inl e))) is = absurd (omega (arith, e, is))
not_two (Script file from part) n (inr (inr (inr (inl e)))) is = absurd (omega (arith, e, is))
not_two (Script file from part) n (inr (inr (inr (inr (inl e))))) is = absurd (omega (arith, e, is))
not_two (Script file from part) n (inr (inr (inr (inr (inr e))))) is = absurd (omega (arith, e, is))
not_two (Check file from) n (inl e) is = absurd (omega (arith, e, is))
not_two (Check file from) n (inr (inl e)) is = absurd (omega (arith, e, is))
not_two (Check file from) n (inr (inr (inl e))) is = absurd (omega (arith, e, is))
not_two (Check file from) n (inr (inr (inr e))) is = absurd (omega (arith, e, is))
not_two (Metrics file) n (inl e) is = absurd (omega (arith, e, is))
not_two (Metrics file) n (inr (inl e)) is = absurd (omega (arith, e, is))
not_two (Metrics file) n (inr (inr (inl e))) is = absurd (omega (arith, e, is))
not_two (Metrics file) n (inr (inr (inr (inl e)))) is = absurd (omega (arith, e, is))
not_two (Metrics file) n (inr (inr (inr (inr e)))) is = absurd (omega (arith, e, is))

module _ {K : Type 0} (sink : ShownSink K) (old new : K) where
  -- a text that is printed, whole or in part, or told
  text_stops : (text : List ℕ) (n : ℕ) → EndsAsText sink text old new n → StopsWriting sink old new
  text_stops text n (inl done) = put_stops sink old new text (inl done.1)
  text_stops text n (inr cut) = put_stops sink old new text (inr cut.1)

  script_status : (file : List ℕ) (from : Option Region) (many : ℕ) (part : Option ℕ) (lines : List (List ℕ)) (n : ℕ) → EndsAsScript sink many part lines old new n → IsDumpStatus (Some (Script file from part)) n × StopsWriting sink old new
  script_status file from many (Some part) lines n (inl done) = (inl done.0, text_stops _ n (inl done))
  script_status file from many (Some part) lines n (inr cut) = (inr (inr (inl cut.0)), text_stops _ n (inr cut))
  script_status file from many None lines n (inl (within, inl done)) = (inl done.0, text_stops _ n (inl done))
  script_status file from many None lines n (inl (within, inr cut)) = (inr (inr (inl cut.0)), text_stops _ n (inr cut))
  script_status file from many None lines n (inr (long, eight, told)) = (inr (inr (inr (inr (inr eight)))), put_stops sink old new _ told)

  measured_status : (file text : List ℕ) (n : ℕ) → EndsAsText sink text old new n → IsDumpStatus (Some (Metrics file)) n × StopsWriting sink old new
  measured_status file text n (inl done) = (inl done.0, text_stops text n (inl done))
  measured_status file text n (inr cut) = (inr (inr (inl cut.0)), text_stops text n (inr cut))

  module _ (telling : Telling) where
    printed_status : (does : DumpCommand) (state : ℕ) (line : List ℕ) (order : ℕ) (region : List ℕ) (n : ℕ) → IsRegionPrinted sink telling does state line order region old new n → IsDumpStatus (Some does) n × StopsWriting sink old new
    printed_status (Script file from part) state line order region n again = script_status file from telling.bounds.part part again.lines n again.printed
    printed_status (Check file from) state line order region n put = (inl put.done, put_stops sink old new _ put.printed)
    printed_status (Metrics file) state line order region n put = measured_status file _ n put.printed

    refusal_told : (does : DumpCommand) (why : Why) (n : ℕ) → n ≡ exit_number (refusal_status why) → IsLineWrittenOrCutShort sink old new (refusal_line telling.kind why) → IsDumpStatus (Some does) n × StopsWriting sink old new
    refusal_told does why n is told = (refused_status does n (refusal_three why n is), put_stops sink old new _ told)

    -- each command ends with one of its statuses, and writes nothing behind a write that failed
    by_region : {D S : Type 0} (shown : ShownDevice D) (Contents : ℕ → List ℕ → S → ℕ → Type 0) (Rejects : ℕ → List ℕ → Unfit → Type 0) (from : Option Region) (does : DumpCommand) (was now : D) (n : ℕ) → IsAnsweredBy shown sink Contents Rejects telling from does was now old new n → IsDumpStatus (Some does) n × StopsWriting sink old new
    by_region shown Contents Rejects None does was now n (inl one) = printed_status does _ _ one.order one.region n one.printed
    by_region shown Contents Rejects None does was now n (inr none) = refusal_told does none.why n none.status_is none.told
    by_region shown Contents Rejects (Some name) does was now n (inl one) = printed_status does _ _ one.order one.region n one.printed
    by_region shown Contents Rejects (Some name) does was now n (inr none) = refusal_told does none.why n none.status_is none.told

    answered_status : {D S : Type 0} (shown : ShownDevice D) (Contents : ℕ → List ℕ → S → ℕ → Type 0) (Rejects : ℕ → List ℕ → Unfit → Type 0) (does : DumpCommand) (was now : D) (n : ℕ) → IsCommandAnswered shown sink Contents Rejects telling does was now old new n → IsDumpStatus (Some does) n × StopsWriting sink old new
    answered_status shown Contents Rejects does was now n answered = by_region shown Contents Rejects (region_asked does) does was now n answered

module _ {D K S : Type 0} (shown : ShownDevice D) (sink : ShownSink K) (Contents : ℕ → List ℕ → S → ℕ → Type 0) (Rejects : ℕ → List ℕ → Unfit → Type 0) (telling : Telling) (was : D) (old new : K) (asked : Option DumpCommand) (status : ℕ) where
  -- a device of which no call was made
  uncalled : OnlyReads shown was was
  uncalled = record {
    size = refl;
    words = λ told. refl;
    images = λ told. runs_none shown (λ x y. y ≡ x) (λ x. refl) was;
    doubts = λ told. runs_none shown (λ x y. y ≡ x) (λ x. refl) was;
    fewer = λ at is. is;
    still = λ told i left. left;
    writes = refl;
    syncs = refl;
  }

  pub no_command : asked ≡ None → status ≡ 2 → IsLineWrittenOrCutShort sink old new (codes "not a command") → sink.rest new ≡ sink.rest old → DumpPromise shown sink Contents Rejects telling asked was was old new status
  no_command none two told rest = record {
    only_reads = uncalled;
    statuses = subst (λ (o : Option DumpCommand). IsDumpStatus o status) (sym none) two;
    answered = subst (λ (o : Option DumpCommand). IfSome o (λ does. IsCommandAnswered shown sink Contents Rejects telling does was was old new status)) (sym none) tt;
    not_a_command = (λ is. none, λ is. two);
    not_a_command_told = λ is. told;
    uncalled = λ is. refl;
    writing = put_stops sink old new _ told;
    rest = rest;
  }

  pub promised : (now : D) (does : DumpCommand) (n : ℕ) → asked ≡ Some does → status ≡ n → IsCommandAnswered shown sink Contents Rejects telling does was now old new n → OnlyReads shown was now → sink.rest new ≡ sink.rest old → DumpPromise shown sink Contents Rejects telling asked was now old new status
  promised now does n some is answered only rest =
      let here : IsCommandAnswered shown sink Contents Rejects telling does was now old new status = subst (λ (m : ℕ). IsCommandAnswered shown sink Contents Rejects telling does was now old new m) (sym is) answered in
      let ends = answered_status sink old new telling shown Contents Rejects does was now status here in
      record {
        only_reads = only;
        statuses = subst (λ (o : Option DumpCommand). IsDumpStatus o status) (sym some) ends.0;
        answered = subst (λ (o : Option DumpCommand). IfSome o (λ does. IsCommandAnswered shown sink Contents Rejects telling does was now old new status)) (sym some) here;
        not_a_command = (λ two. absurd (not_two does status ends.0 two), λ none. absurd (let never : Some does ≡ None = sym some ∙ none in cc));
        not_a_command_told = λ two. absurd (not_two does status ends.0 two);
        uncalled = λ two. absurd (not_two does status ends.0 two);
        writing = ends.1;
        rest = rest;
      }
