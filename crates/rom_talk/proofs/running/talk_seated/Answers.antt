use Rattle.std.proofs.Common.{◌≡◌, ◌∙◌, ap, refl, sym, subst, map, length, reverse}
use Rattle.std.proofs.lemmas.List.{length-map, length-reverse}
use Rattle.rom_run.specs.Statuses.{exit_number}
use Rattle.rom_store.specs.Callers.{IsNumberedCaller}
use Rattle.rom_store.specs.Indexed.{Indexed}
use Rattle.rom_text.specs.Text.{texts_of}
use Rattle.rom_talk.specs.Seated.{number_found}
use Rattle.rom_talk.proofs.Pairing.{pairs_of, pairs_turned}
use Rattle.rom_talk.proofs.Talked.{Served, all_numbered, found_is, new_numbered, talks_of}
use Rattle.rom_talk.proofs.running.talk_seated.Goals as goal

pub close_shipping-closed-requires-clause-passes : goal.close_shipping-closed-requires-clause-passes
close_shipping-closed-requires-clause-passes g c =
    let o = g.O.Object in let table = g.N.Label.table in let base = g.N.Label.base in let peer = g.P.Peer.shown in
    let texts = texts_of g.T.PrintReplies.shown g.O.Answer.Print.shown in let Reads = g.L.Lines.Reads in
    let olds = c.args.talkers.items in
    let news = c.serve_all.new.talkers.items in
    let S = Served o.machine o.Contents table base peer texts Reads in
    let all = pairs_turned S olds news (pairs_of S olds news c.serve_all.ensures.many c.serve_all.ensures.served) in
    let numbers = new_numbered o.machine o.Contents table base peer texts Reads _ (reverse olds) refl c.requires.callers in
    subst (Indexed (IsNumberedCaller o.Contents table base)) (sym c.part_all.ensures.passes) (all_numbered o.machine o.Contents table base peer texts Reads (reverse olds) (reverse news) all numbers)

pub close_shipping-closed-requires-clause-all : goal.close_shipping-closed-requires-clause-all
close_shipping-closed-requires-clause-all g c =
    let news = c.serve_all.new.talkers.items in
    ap length c.part_all.ensures.passes ∙ (length-map (reverse news) (λ t. t.pass) ∙ (length-reverse news ∙ (c.serve_all.ensures.many ∙ c.requires.many)))

pub returns-clause-talks : goal.returns-clause-talks
returns-clause-talks g c =
    let o = g.O.Object in let table = g.N.Label.table in let base = g.N.Label.base in let peer = g.P.Peer.shown in
    let texts = texts_of g.T.PrintReplies.shown g.O.Answer.Print.shown in let Reads = g.L.Lines.Reads in
    let olds = c.args.talkers.items in
    let news = c.serve_all.new.talkers.items in
    let S = Served o.machine o.Contents table base peer texts Reads in
    let all = pairs_turned S olds news (pairs_of S olds news c.serve_all.ensures.many c.serve_all.ensures.served) in
    let numbers = new_numbered o.machine o.Contents table base peer texts Reads _ (reverse olds) refl c.requires.callers in
    let closed = c.close_shipping-closed.ensures in
    let status : exit_number c.status_found-status.result ≡ number_found news = c.status_found-status.ensures ∙ ap number_found c.deref.ensures.value in
    talks_of o.machine o.Contents table base peer texts Reads g.D.Device.shown c.close_shipping-closed.result.0 c.part_all.new.passes.items (reverse olds) (reverse news) all numbers c.part_all.ensures.passes
    (record { order = closed.ended.order; image = closed.ended.image; closed_is = closed.closed; callers = closed.callers; kept = closed.kept; lasts = closed.lasts })
    (map (λ t. t.peer) (reverse olds)) c.part_all.new.peers.items (exit_number c.status_found-status.result) refl c.part_all.ensures.peers
    (status ∙ found_is o.machine o.Contents table base peer texts Reads (reverse olds) news all)
