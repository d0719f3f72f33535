-- The laws that what a text declares is printable, and that its printed text declares the same (this profile's own).
use Rattle.std.specs.Prelude.{◌≡◌, Ok}
use Rattle.idl_tokens.specs.Classes.{Text}
use Rattle.idl_types.specs.State.{Declared}
use Rattle.idl_printer.specs.Lines.{printed}
use Rattle.xt_idl.specs.Whole.{idl}
use Rattle.idl_laws.specs.Printable.{IsPrintable}

-- What a text declares is printable.
abbrev pub ParsedIsPrintable : Type 0
ParsedIsPrintable = (text : Text) (ds : Declared) → idl text ≡ Ok ds → IsPrintable ds

-- The printed text of what a text declares declares the same.
abbrev pub ParsedIsReadAgain : Type 0
ParsedIsReadAgain = (text : Text) (ds : Declared) → idl text ≡ Ok ds → idl (printed ds) ≡ Ok ds
