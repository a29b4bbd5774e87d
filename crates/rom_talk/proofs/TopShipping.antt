-- What was handed on of a session, by each of its stories.
use Rattle.std.specs.Prelude.{◌≡◌, ℕ, List, map, IsTrue}
use Rattle.std.proofs.Common.{subst, sym}
use Rattle.rom_combine.specs.Shipping.{Ships, ShownShipper, text_from, update_of}
use Rattle.rom_model.specs.Machine.{Machine}
use Rattle.rom_rule.specs.declared.views.Base.{Base}
use Rattle.rom_store.specs.Held.{HasShipped}
use Rattle.rom_store.specs.Sessions.{EachStory, SessionSeen}

-- A store with this opening was closed: what was handed on since is the text of each story's history.
pub stories_shipped : {S C Q R A W : Type 0} (machine : Machine S C Q R A) (Contents : ℕ → List ℕ → S → ℕ → Type 0) (ship : ShownShipper W) (base : Base) (session : SessionSeen) (shipper left : W) → session.order ≡ base.order → session.image ≡ base.image → HasShipped Contents ship base (ship.state shipper) left session.history →
    EachStory machine Contents session (λ story. IsTrue ship.tells → Ships (ship.state shipper) (ship.state left) (text_from ship.text story.opening_count (map update_of story.history)))
stories_shipped machine Contents ship base session shipper left order image shipped story is tells =
    let at : Contents base.order base.image story.opening story.opening_count = subst (λ (z : ℕ × List ℕ). Contents z.0 z.1 story.opening story.opening_count) (λ j. (order j, image j)) is.opening in
    subst (λ history. Ships (ship.state shipper) (ship.state left) (text_from ship.text story.opening_count (map update_of history))) (sym is.history) (shipped tells story.opening story.opening_count at)
