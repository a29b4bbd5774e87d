-- Seats of a table at which no call was posted.
use Rattle.std.specs.Prelude.{◌≡◌, []}
use Rattle.rom_lr.specs.Seats.{IsSeatOf, IsWriterOf, view, writer_view}
use Rattle.rom_lr.specs.declared.shared.Shared.{Shared}
use Rattle.rom_model.specs.Region.{Contents}
use Rattle.rom_model.specs.State.{empty}
use Rattle.rom_rows.specs.declared.job.Job.{Job}
use Rattle.rom_rows.specs.declared.job.Job.TheVariants.{Reads, Writes}
use Rattle.rom_rule.specs.declared.views.Base.{Base}
use Rattle.rom_rule.specs.declared.views.Plan.{Plan}
use Rattle.rom_rule.specs.declared.views.Position.TheVariants.{Out}
use Rattle.rom_rule.specs.declared.views.View.{View}
use Rattle.rom_rule.specs.Views.{plan_of}

-- The writer has found no call and published nothing, and both sides are still the opening image, which is an empty heap.
pub record IsUntouched (b : Base) (p : Plan) : Type 0 where
  pub opening : Contents b.order b.image empty 0
  pub faults : b.faults ≡ 0
  pub history : p.history ≡ []
  pub records : p.records ≡ []
  pub mine : p.mine ≡ []
  pub requests : p.requests ≡ []
  pub main : p.main ≡ b.image
  pub back : p.back ≡ b.image

-- the writer of this view has found no call and published nothing
abbrev pub AtRest : View → Type 0
AtRest v = IsUntouched v.base (plan_of v)

module _ {Object Call Query Reply Answer : Type 0} where
  -- by the kind of job: the reader's seat is out, or the writer of this table is at rest
  abbrev pub MayStart : Shared Object Call Query Reply Answer → Job → Type 0
  MayStart shared (Reads seat wrong) = IsSeatOf shared seat × ((view seat).position ≡ Out)
  MayStart shared (Writes seat) = IsWriterOf shared seat × AtRest (writer_view seat)

  -- the job's seat is one of this table, and it may start
  pub record IsJobReady (shared : Shared Object Call Query Reply Answer) (job : Job) : Type 0 where
    pub may : MayStart shared job
