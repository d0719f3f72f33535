-- The words of last lines that the bundle itself gives, and texts that there may be (this profile's own).
use Rattle.std.specs.Prelude.{ℕ, List, [], ◌∷◌, ◌++◌, Option, Some, None, codes}
use Rattle.std.specs.Fmt.{decimal}
use Rattle.xt_io.specs.declared.RecordFault.{RecordFault}
use Rattle.xt_io.specs.declared.RecordFault.TheVariants as record_fault

abbrev pub bundle_text : ℕ → List ℕ → List ℕ
bundle_text at why = codes "bundle " ++ decimal at ++ 32 ∷ why

-- the fault that ends a bundle
abbrev pub record_fault_text : RecordFault → List ℕ
record_fault_text (record_fault.Truncated at kind) = bundle_text at (codes "truncated")
record_fault_text (record_fault.UnknownKind at octet) = bundle_text at (codes "kind")
record_fault_text (record_fault.TooLong at kind n) = bundle_text at (codes "too-long")
record_fault_text (record_fault.TooMany at) = bundle_text at (codes "records")
record_fault_text record_fault.ReadFault = []
record_fault_text record_fault.OutOfMemory = []

-- the octets of a text, or none
abbrev pub octets_of : Option (List ℕ) → List ℕ
octets_of None = []
octets_of (Some text) = text
