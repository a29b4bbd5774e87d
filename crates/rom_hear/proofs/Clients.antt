-- What was heard of a client in memory, and what it has left, are its text.
use Rattle.std.specs.Prelude.{◌≡◌, ◌++◌}
use Rattle.std.proofs.Common.{sym, ap, ◌∙◌}
use Rattle.rom_hear.specs.Events.{heard_in}
use Rattle.rom_hear.specs.Memory.{IsUnmet, client_left, client_log, shown_client}
use Rattle.rom_hear.specs.declared.memory.Client.{Client}

module _ {K : Type 0} where
  pub heard_of_text : (c : Client K) → heard_in (client_log c) ++ client_left c ≡ c.text.items
  heard_of_text c = c.heard

  -- so it is where calls were made since, by what none of them changes
  pub heard_since : (old new : Client K) → shown_client.rest new ≡ shown_client.rest old → heard_in (client_log new) ++ client_left new ≡ heard_in (client_log old) ++ client_left old
  heard_since old new rest = heard_of_text new ∙ ap (λ z. z.0) rest ∙ sym (heard_of_text old)

  -- and all of it is what was left where nothing had passed
  pub heard_of_left : (old new : Client K) → IsUnmet old → shown_client.rest new ≡ shown_client.rest old → heard_in (client_log new) ++ client_left new ≡ client_left old
  heard_of_left old new unmet rest = heard_since old new rest ∙ ap (λ l. heard_in l ++ client_left old) unmet.log
