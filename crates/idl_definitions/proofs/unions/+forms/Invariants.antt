use Rattle.std.proofs.Common.{◌*◌, ◌+◌, length}
use Rattle.idl_definitions.proofs.unions.+forms.Given as goal

abbrev pub decreases-form_at : goal.decreases-form_at
decreases-form_at l = 2 * length l.types.now

abbrev pub decreases-label_form : goal.decreases-label_form
decreases-label_form l = 2 * length l.types.now + 1
