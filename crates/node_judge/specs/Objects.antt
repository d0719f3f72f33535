-- The literals and flags of a TypeObject as the rules see them (DDS-XTypes 1.3, 7.3.4).
use Rattle.std.specs.Prelude.{◌%◌, ◌/◌, ◌==◌, min}
use Rattle.xt_shapes.specs.Shape.{Literal, Flag}
use Rattle.type_trees.specs.Bridge.{name_number}
use Rattle.object_formats.specs.declared.objects.ObjectLiteral.{ObjectLiteral}
use Rattle.object_formats.specs.declared.objects.ObjectFlag.{ObjectFlag}

-- the flag IS_DEFAULT is 64
abbrev pub literal_in : ObjectLiteral → Literal
literal_in l = record { hash = name_number l.name; value = l.value; is_default = (l.flags / 64) % 2 == 1 }

-- a type holds a position in one octet; no valid type has one past 64
abbrev pub flag_in : ObjectFlag → Flag
flag_in f = record { hash = name_number f.name; position = min f.position 255 }
