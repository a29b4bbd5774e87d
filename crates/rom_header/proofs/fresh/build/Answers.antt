use Rattle.std.proofs.Common.{◌≡◌, ◌≢◌, set, OnOk, Result, Ok, Err, ℕ, ◌+◌, ◌*◌, ◌≤◌, List, length, get_or, arith, subst, sym, ◌∙◌}
use Rattle.rom_model.specs.Blocks.{region_len}
use Rattle.rom_model.specs.Space.{ChangesOnly}
use Rattle.rom_device.proofs.Going.{leaves_none, leaves_on, leaves_then}
use Rattle.rom_header.specs.Fresh.{NoneOrNew, IsNewHeap}
use Rattle.rom_header.specs.Layout.{words_needed, MAGIC}
use Rattle.rom_header.proofs.Making.{still_none, sealed, made}
use Rattle.rom_header.proofs.fresh.build.Goals as goal

-- once the magic is put after what was laid out
put : {T E : Type 0} (r : Result T E) (order : ℕ) (image y z : List ℕ) → OnOk r (z ≡ set y 0 MAGIC) → IsNewHeap order image (set y 0 MAGIC) → OnOk r (IsNewHeap order image z)
put (Ok done) order image y z is new = subst (λ (l : List ℕ). IsNewHeap order image l) (sym is) new
put (Err failed) order image y z is new = tt

pub returns-clause-images : goal.returns-clause-images
returns-clause-images g c told =
    let shown = g.D.Device.shown in
    let words = g.met.D.Device.tells_both told in
    let order = c.args.geometry in
    let image = c.args.image.now in
    let y = shown.words c.lay_out.new.device in
    let none : get_or y 0 0 ≢ MAGIC = λ e. c.requires.none words (sym ((c.in_ok-lay_out.ensures.does.words words).before 0 (omega arith)) ∙ e) in
    let fits : words_needed order ≤ length y = omega (arith, g.met.D.Device.words_fit c.lay_out.new.device words, c.in_ok-lay_out.ensures.does.size, c.requires.fits) in
    let first = leaves_on shown (ChangesOnly 1 (7 + 2 * region_len order)) (NoneOrNew order image) c.args.device.now c.args.device.now c.lay_out.new.device (leaves_none shown _ c.args.device.now) (c.lay_out.ensures.does.images told)
    (λ x y was by. still_none order 1 (7 + 2 * region_len order) image x y (subst (λ (l : List ℕ). get_or l 0 0 ≢ MAGIC) (sym (c.requires.certain told x was)) (c.requires.none words)) (omega arith) by) in
    leaves_then shown _ _ _ _ _ (λ i by. sealed order image y i none (c.in_ok-lay_out.ensures.laid words) c.requires.image fits c.requires.order by) first (c.write_certain.ensures.images told)

pub returns-clause-made : goal.returns-clause-made
returns-clause-made g c words =
    let y = g.D.Device.shown.words c.lay_out.new.device in
    let fits : words_needed c.args.geometry ≤ length y = omega (arith, g.met.D.Device.words_fit c.lay_out.new.device words, c.in_ok-lay_out.ensures.does.size, c.requires.fits) in
    put c.write_certain.result c.args.geometry c.args.image.now y _ (c.write_certain.ensures.written words) (made c.args.geometry c.args.image.now y (c.in_ok-lay_out.ensures.laid words) c.requires.image fits c.requires.order)
