-- The faults of one component, as the code passes them on.
use Rattle.std.specs.Prelude.{ℕ}
use Rattle.bz_model.specs.declared.error.KindError.{KindError}
use Rattle.bz_model.specs.declared.error.KindError.TheVariants as kind
use Rattle.bz_flat.specs.declared.error.ElabError.{ElabError}
use Rattle.bz_flat.specs.declared.error.ElabError.TheVariants.{UnknownComponent, BadParameter, PortCount, BadChannel, KindMismatch, WidthMismatch, Memory}
use Rattle.bz_elab.specs.declared.error.Fault.{Fault}
use Rattle.bz_elab.specs.declared.error.Fault.TheVariants as fault

abbrev pub fault_of : KindError → Fault
fault_of kind.UnknownComponent = fault.UnknownComponent
fault_of kind.BadParameter = fault.BadParameter
fault_of kind.Memory = fault.Memory

abbrev pub error_at : Fault → ℕ → ℕ → ElabError
error_at fault.UnknownComponent n i = UnknownComponent n i
error_at fault.BadParameter n i = BadParameter n i
error_at fault.PortCount n i = PortCount n i
error_at fault.BadChannel n i = BadChannel n i
error_at fault.KindMismatch n i = KindMismatch n i
error_at fault.WidthMismatch n i = WidthMismatch n i
error_at fault.Memory n i = Memory
