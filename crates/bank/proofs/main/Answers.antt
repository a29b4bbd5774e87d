use Rattle.bank.proofs.main.Goals as goal

pub total_in-put_in-requires : goal.total_in-put_in-requires
total_in-put_in-requires g c = let (was, has) = c.in-Ok.ensures.run in let (story, of) = has.run.story in (_, c.ask.ensures.told story.opening story.opening_count of.opening)
