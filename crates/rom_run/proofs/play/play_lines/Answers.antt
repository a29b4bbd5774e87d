use Rattle.std.proofs.Common.{◌≡◌}
use Rattle.rom_run.proofs.play.play_lines.Goals as goal

pub returns-in-Ok-clause-session : goal.returns-in-Ok-clause-session
returns-in-Ok-clause-session g c =
    let unprinted : c.play_heap.new.out ≡ c.args.out.now = c.in-Ok.ensures.unprinted in
    let session = c.in-Ok.ensures.session in
    let printed = rw unprinted at c.end_of.ensures.played in
    rw (c.end_of.ensures.session, c.end_of.ensures.device) record {
      story = session.story;
      each = session.each;
      certain = session.certain;
      told = λ story of. printed story of (session.told story of);
    }
