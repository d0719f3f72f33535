-- The words that are printed for rules of assignability and for why a sample is malformed (this profile's own).
use Rattle.std.specs.Prelude.{ℕ, List, codes}
use Rattle.xcdr_model.specs.declared.malformed.Why.{Why}
use Rattle.xcdr_model.specs.declared.verdict.Rule.{Rule}

abbrev pub why_text : Why → List ℕ
why_text Why.Encapsulation = codes "ENCAPSULATION"
why_text Why.Short = codes "SHORT"
why_text Why.Boolean = codes "BOOLEAN"
why_text Why.Str = codes "STRING"
why_text Why.Mask = codes "MASK"
why_text Why.Dheader = codes "DHEADER"
why_text Why.MemberSize = codes "MEMBER_SIZE"
why_text Why.LengthRest = codes "LENGTH_REST"
why_text Why.Twice = codes "TWICE"
why_text Why.MemberId = codes "MEMBER_ID"
why_text Why.Parameter = codes "PARAMETER"
why_text Why.Trailing = codes "TRAILING"

abbrev pub rule_text : Rule → List ℕ
rule_text Rule.Kind = codes "KIND"
rule_text Rule.Extensibility = codes "EXTENSIBILITY"
rule_text Rule.BitBound = codes "BIT_BOUND"
rule_text Rule.LiteralNames = codes "LITERAL_NAMES"
rule_text Rule.LiteralSet = codes "LITERAL_SET"
rule_text Rule.Dimensions = codes "DIMENSIONS"
rule_text Rule.Names = codes "NAMES"
rule_text Rule.CommonMember = codes "COMMON_MEMBER"
rule_text Rule.MustUnderstand = codes "MUST_UNDERSTAND"
rule_text Rule.KeySet = codes "KEY_SET"
rule_text Rule.KeyFit = codes "KEY_FIT"
rule_text Rule.MemberSet = codes "MEMBER_SET"
rule_text Rule.MemberIndex = codes "MEMBER_INDEX"
rule_text Rule.Discriminator = codes "DISCRIMINATOR"
rule_text Rule.Labels = codes "LABELS"
rule_text Rule.NotDelimited = codes "NOT_DELIMITED"
rule_text Rule.Coercion = codes "COERCION"
rule_text Rule.Bound = codes "BOUND"
