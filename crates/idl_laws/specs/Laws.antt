-- The law of printed texts: what is printed of a printable list declares the same list (this profile's own).
use Rattle.std.specs.Prelude.{◌≡◌, Ok}
use Rattle.idl_types.specs.State.{Declared}
use Rattle.idl_printer.specs.Lines.{printed}
use Rattle.xt_idl.specs.Whole.{idl}
use Rattle.idl_laws.specs.Printable.{IsPrintable}

-- What is printed of a printable list declares the same types, by the same full names and in the same order.
abbrev pub PrintedIsReadAgain : Type 0
PrintedIsReadAgain = (ds : Declared) → IsPrintable ds → idl (printed ds) ≡ Ok ds
