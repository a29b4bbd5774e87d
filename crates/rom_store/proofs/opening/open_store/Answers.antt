use Rattle.std.proofs.Common.{rules, arith, ◌*◌, ◌≡◌, ℕ, List, inr, refl, sym, subst}
use Rattle.std.specs.Prelude.{Err, IfErr}
use Rattle.std.proofs.lemmas.Grind.{common_steps}
use Rattle.rom_combine.specs.Costs.{WithinHeap}
use Rattle.rom_device.specs.Device.{IsSynced, Leaves}
use Rattle.rom_header.specs.Held.{Holds}
use Rattle.rom_header.specs.Regions.{IsCurrentRegion}
use Rattle.rom_recover.specs.Recovered.{Mended}
use Rattle.rom_rule.specs.Views.{base_of}
use Rattle.rom_rule.specs.declared.views.Base.{Base}
use Rattle.rom_open.specs.Refusals.{named_order}
use Rattle.rom_store.specs.Openings.{HasBeenRefused}
use Rattle.rom_store.specs.Seating.{IsSeated}
use Rattle.rom_store.proofs.Mending.{mends_within}
use Rattle.rom_store.proofs.opening.open_store.Goals as goal

pub of-requires-clause-seated : goal.of-requires-clause-seated
of-requires-clause-seated g c = subst (λ (b : Base). IsSeated g.O.Object.Contents (g.O.Object.STORES * g.O.Object.WEIGHT) b c.in-Ok.seated) (sym c.in-Ok.ensures.base_is) c.in-Ok.ensures

pub of-requires-clause-certain : goal.of-requires-clause-certain
of-requires-clause-certain g c = c.in_ok-device.ensures.opens.certain refl

pub returns-in-Ok-clause-opened : goal.returns-in-Ok-clause-opened
returns-in-Ok-clause-opened g c = record {
  order = search rules;
  fits = search rules;
  held = λ told s k contents.
      let Contents = g.O.Object.Contents in
      let words = g.D.Device.shown.words in
      let opened = c.in_ok-device.field-0 in
      let b : Base = base_of c.of.result.key in
      let order_is : b.order ≡ opened.geometry = search rules in
      let image_is : b.image ≡ opened.image.items = search rules in
      let held : Contents opened.geometry opened.image.items s k = subst (λ (z : ℕ × List ℕ). Contents z.0 z.1 s k) (λ j. (order_is j, image_is j)) contents in
      subst (λ (n : ℕ). Holds Contents n (words c.args.device) s k) (sym order_is) ((c.in_ok-device.ensures.held s k held).before told);
  holds = λ told s k contents.
      let Contents = g.O.Object.Contents in
      let words = g.D.Device.shown.words in
      let opened = c.in_ok-device.field-0 in
      let b : Base = base_of c.of.result.key in
      let device_is : c.of.result.device ≡ opened.device = search rules in
      let order_is : b.order ≡ opened.geometry = search rules in
      let image_is : b.image ≡ opened.image.items = search rules in
      let held : Contents opened.geometry opened.image.items s k = subst (λ (z : ℕ × List ℕ). Contents z.0 z.1 s k) (λ j. (order_is j, image_is j)) contents in
      subst (λ d. Holds Contents b.order (words d) s k) (sym device_is)
      (subst (λ (n : ℕ). Holds Contents n (words opened.device) s k) (sym order_is) ((c.in_ok-device.ensures.held s k held).holds told));
  held_images = λ told s k contents.
      let Contents = g.O.Object.Contents in
      let shown = g.D.Device.shown in
      let opened = c.in_ok-device.field-0 in
      let b : Base = base_of c.of.result.key in
      let device_is : c.of.result.device ≡ opened.device = search rules in
      let order_is : b.order ≡ opened.geometry = search rules in
      let image_is : b.image ≡ opened.image.items = search rules in
      let held : Contents opened.geometry opened.image.items s k = subst (λ (z : ℕ × List ℕ). Contents z.0 z.1 s k) (λ j. (order_is j, image_is j)) contents in
      subst (λ d. Leaves shown (λ i. Holds Contents b.order i s k) c.args.device d) (sym device_is)
      (subst (λ (n : ℕ). Leaves shown (λ i. Holds Contents n i s k) c.args.device opened.device) (sym order_is) ((c.in_ok-device.ensures.held s k held).images told));
  images = λ told.
      let shown = g.D.Device.shown in
      let words = shown.words c.args.device in
      let device_is : c.of.result.device ≡ c.in_ok-device.field-0.device = search rules in
      subst (λ d. Leaves shown (Mended (named_order words) words) c.args.device d) (sym device_is) (c.in_ok-device.ensures.opens.images told);
  certain =
      let device_is : c.of.result.device ≡ c.in_ok-device.field-0.device = search rules in
      subst (IsSynced g.D.Device.shown) (sym device_is) (c.in_ok-device.ensures.opens.certain refl);
  size = search rules;
  outside = λ told.
      let words = g.D.Device.shown.words in
      let device_is : c.of.result.device ≡ c.in_ok-device.field-0.device = search rules in
      subst (λ d. WithinHeap (named_order (words c.args.device)) (words c.args.device) (words d)) (sym device_is)
      (mends_within (named_order (words c.args.device)) (words c.args.device) (words c.in_ok-device.field-0.device) (c.in_ok-device.ensures.opens.left.words told));
  faults = search rules;
  rest = search rules;
  calls = search rules;
  within = search rules;
  by_order = search rules;
}

pub returns-clause-refused : goal.returns-clause-refused
returns-clause-refused g c =
    let opened = c.in_ok-device.field-0 in
    let shown = g.D.Device.shown in
    let words = shown.words c.args.device in
    let opens = c.in_ok-device.ensures.opens in
    record {
      refused = λ told.
          let current = c.in_ok-device.ensures.answer told in
          let order_is : opened.geometry ≡ named_order words = sym current.heap.header.order_is in
          inr (opened.image.items, subst (λ (n : ℕ). IsCurrentRegion n words opened.image.items) order_is current, tt);
      sizes = tt;
      size = opens.left.size;
      outside = λ told. mends_within (named_order words) words (shown.words opened.device) (opens.left.words told);
      images = opens.images;
      recovered = λ told late. opens.recovered told late;
      certain = λ late. opens.certain late;
      calls = λ told.
          let made = opens.calls told in
          record { reads = made.reads; writes = made.writes; syncs = made.syncs };
      within = opens.within;
      faults = opens.faults;
    }

pub returns-in_err-device-clause-refused : goal.returns-in_err-device-clause-refused
returns-in_err-device-clause-refused g c =
    let refused = c.in_err-device.field-0.0 in
    let shown = g.D.Device.shown in
    let words = shown.words c.args.device in
    let opens = c.in_err-device.ensures.opens in
    let is : c.from_residual.result ≡ Err refused = grind (arith, common_steps) in
    subst (λ r. IfErr r (λ e. HasBeenRefused shown g.O.Object.Contents g.O.Object.Rejects c.args.device e.device e.why)) (sym is) record {
      refused = c.in_err-device.ensures.answer;
      sizes = opens.sizes;
      size = opens.left.size;
      outside = λ told. mends_within (named_order words) words (shown.words refused.device) (opens.left.words told);
      images = opens.images;
      recovered = opens.recovered;
      certain = opens.certain;
      calls = opens.calls;
      within = opens.within;
      faults = opens.faults;
    }
