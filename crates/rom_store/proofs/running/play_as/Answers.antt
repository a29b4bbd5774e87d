use Rattle.std.proofs.Common.{sym, ◌∙◌, ◌+◌, subst, map, length, ◌≡◌, ℕ, List}
use Rattle.std.proofs.lemmas.List.{length-map}
use Rattle.rom_model.proofs.Leaving.{lawful}
use Rattle.rom_model.specs.Leaving.{HaveLeft, IsClosed}
use Rattle.rom_store.specs.Working.{HasDoneLines, script_of}
use Rattle.rom_store.proofs.Gathering.{all_left, joined_alone}
use Rattle.rom_store.proofs.running.play_as.Goals as goal

pub returns-clause-lasts : goal.returns-clause-lasts
returns-clause-lasts g c = λ story is.
    let scripts = map (λ v. v.items) c.args.scripts.now in
    let ps = c.gather.new.passes.items in
    let closed = c.close-closed.ensures in
    let here : length scripts ≡ length c.args.scripts.now = length-map c.args.scripts.now (λ v. v.items) in
    let at = subst (λ (z : ℕ × List ℕ). g.O.Object.Contents z.0 z.1 story.opening story.opening_count) (λ j. (closed.ended.order j, closed.ended.image j)) is.opening in
    let alone = joined_alone (λ i pass told. HasDoneLines g.O.Object.machine g.O.Object.Contents g.N.Label.base pass (script_of scripts (i + 1)) told.items) (λ i pass told is. is.alone) ps c.gather.new.results.items (c.gather.ensures.results_many ∙ sym c.gather.ensures.passes_many) c.gather.ensures.done in
    record {
      left = subst (λ vs. HaveLeft g.O.Object.machine story 1 vs scripts (map (λ v. v.items) c.gather.new.results.items)) (sym (closed.callers ∙ alone)) (all_left g.O.Object.machine g.O.Object.Contents g.N.Label.table g.N.Label.base scripts story (λ v. v.items) ps c.gather.new.results.items
          (c.gather.ensures.passes_many ∙ sym here) (c.gather.ensures.results_many ∙ sym here) at (is.order_is ∙ closed.ended.order) c.gather.ensures.passes c.gather.ensures.done (closed.kept story is));
      lasts = closed.lasts story is;
    }

pub returns-clause-lawful : goal.returns-clause-lawful
returns-clause-lawful g c = λ story is.
    let m = g.O.Object.machine in
    let scripts = map (λ v. v.items) c.args.scripts.now in
    let many : length c.gather.new.passes.items ≡ length scripts = c.gather.ensures.passes_many ∙ sym (length-map c.args.scripts.now (λ v. v.items)) in
    let told = returns-clause-lasts g c story is in
    lawful m story c.close-closed.result.session.callers scripts (map (λ v. v.items) c.gather.new.results.items) (subst (λ n. IsClosed m story n) many (c.close-closed.ensures.closed story is)) told.left
