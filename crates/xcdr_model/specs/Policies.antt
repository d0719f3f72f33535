-- What a reader lets pass where types differ (DDS-XTypes 1.3, 7.6.3.7: the type consistency policy; that sequence bounds include those of maps is this profile's own).
use Rattle.std.specs.Prelude.{true, false}
use Rattle.xcdr_model.specs.declared.verdict.Policy.{Policy}

abbrev pub standard : Policy
standard = record { coercion = true; ignore_string_bounds = true; ignore_sequence_bounds = true; ignore_member_names = false }
