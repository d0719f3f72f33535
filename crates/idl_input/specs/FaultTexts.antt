-- The words that are printed for a text's fault (this profile's own).
use Rattle.std.specs.Prelude.{ℕ, List, ◌++◌, codes}
use Rattle.std.specs.Fmt.{decimal}
use Rattle.idl_input.specs.declared.faults.IdlFault.{IdlFault}
use Rattle.idl_input.specs.declared.faults.IdlFault.TheVariants.{Syntax, Unknown, Twice, NotInProfile, Annotation, Invalid, OutOfMemory}

-- its place, and the rule that is broken there
abbrev pub fault_text : IdlFault → List ℕ
fault_text (Syntax at) = decimal at ++ codes " syntax"
fault_text (Unknown at) = decimal at ++ codes " unknown"
fault_text (Twice at) = decimal at ++ codes " twice"
fault_text (NotInProfile at) = decimal at ++ codes " profile"
fault_text (Annotation at rule) = decimal at ++ codes " A" ++ decimal rule
fault_text (Invalid at fault) = decimal at ++ codes " V" ++ decimal fault.rule
fault_text OutOfMemory = codes "out of memory"
