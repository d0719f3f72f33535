-- The rules of an object's text in print. The words are this profile's own.
use Rattle.std.specs.Prelude.{ℕ, List, codes}
use Rattle.object_formats.specs.declared.faults.ObjectRule.{ObjectRule}
use Rattle.object_formats.specs.declared.faults.ObjectRule.TheVariants as rules

abbrev pub object_rule_text : ObjectRule → List ℕ
object_rule_text rules.Long = codes "long"
object_rule_text rules.Short = codes "short"
object_rule_text rules.Kind = codes "kind"
object_rule_text rules.Padding = codes "padding"
object_rule_text rules.Delimiter = codes "delimiter"
object_rule_text rules.Flags = codes "flags"
object_rule_text rules.Text = codes "text"
object_rule_text rules.Annotation = codes "annotation"
object_rule_text rules.Identifier = codes "identifier"
object_rule_text rules.Base = codes "base"
object_rule_text rules.Trailing = codes "trailing"
