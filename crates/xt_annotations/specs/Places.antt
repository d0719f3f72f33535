-- Where annotations may stand, and which exclude each other (DDS-XTypes 1.3, 7.3.1.2).
use Rattle.std.specs.Prelude.{ℕ, Bool, true, false, not, ◌||◌, if◌then◌else◌, nat_lt, List, [], ◌∷◌, ◌++◌, Option, Some, None}
use denote.Enum.Bare.{sameb}
use Rattle.xt_annotations.specs.contracts.places.Setting.{the_type}
use Rattle.xt_annotations.specs.declared.places.Setting.{Setting}
use Rattle.xt_annotations.specs.declared.places.Site.{Site}
use Rattle.xt_annotations.specs.declared.notes.Note.{Note}
use Rattle.xt_annotations.specs.declared.notes.Note.TheVariants as note
use Rattle.xt_annotations.specs.declared.notes.Placed.{Placed}
use Rattle.xt_annotations.specs.declared.notes.Refused.{Refused}

-- what a note sets
abbrev pub setting : Note → Setting
setting (note.Ext x) = Setting.Ext
setting (note.Nested b) = Setting.Nested
setting (note.Autoid b) = Setting.Autoid
setting (note.Id n) = Setting.Id
setting (note.HashId s) = Setting.HashId
setting (note.Key b) = Setting.Key
setting (note.Optional b) = Setting.Optional
setting (note.MustUnderstand b) = Setting.MustUnderstand
setting (note.TryConstruct t) = Setting.TryConstruct
setting (note.BitBound n) = Setting.BitBound
setting (note.Number n) = Setting.Number
setting note.DefaultLiteral = Setting.DefaultLiteral
setting (note.Position n) = Setting.Position
setting note.Topic = Setting.Topic

unfoldable pub same_setting : Setting → Setting → Bool
same_setting = sameb the_type

abbrev pub of_aggregate : Setting → Bool
of_aggregate Setting.Ext = true
of_aggregate Setting.Nested = true
of_aggregate Setting.Autoid = true
of_aggregate Setting.Topic = true
of_aggregate _ = false

abbrev pub of_enumeration : Setting → Bool
of_enumeration Setting.Ext = true
of_enumeration Setting.BitBound = true
of_enumeration _ = false

abbrev pub of_member : Setting → Bool
of_member Setting.Id = true
of_member Setting.HashId = true
of_member Setting.Key = true
of_member Setting.Optional = true
of_member Setting.MustUnderstand = true
of_member Setting.TryConstruct = true
of_member _ = false

abbrev pub of_case : Setting → Bool
of_case Setting.Id = true
of_case Setting.HashId = true
of_case Setting.TryConstruct = true
of_case _ = false

abbrev pub of_literal : Setting → Bool
of_literal Setting.Number = true
of_literal Setting.DefaultLiteral = true
of_literal _ = false

-- what may be set at a site. Before a keyword that isn't known, all that some definition may have.
abbrev pub allowed : Site → Setting → Bool
allowed Site.Structure s = of_aggregate s
allowed Site.Union s = of_aggregate s
allowed Site.Enumeration s = of_enumeration s
allowed Site.Bitmask s = same_setting s Setting.BitBound
allowed Site.Other s = false
allowed Site.AnyDefinition s = of_aggregate s || of_enumeration s
allowed Site.Member s = of_member s
allowed Site.Case s = of_case s
allowed Site.Discriminator s = same_setting s Setting.Key
allowed Site.Element s = same_setting s Setting.TryConstruct
allowed Site.Literal s = of_literal s
allowed Site.Flag s = same_setting s Setting.Position

abbrev pub has : Setting → List Placed → Bool
has s [] = false
has s (p ∷ ps) = same_setting (setting p.note) s || has s ps

-- an enumeration has at most 32 bits
abbrev pub is_wide : Site → Note → Bool
is_wide Site.Enumeration (note.BitBound n) = nat_lt 32 n
is_wide _ _ = false

-- `@id` and `@hashid` exclude each other
abbrev pub excludes : Setting → List Placed → Bool
excludes Setting.Id before = has Setting.HashId before
excludes Setting.HashId before = has Setting.Id before
excludes _ before = false

-- the rule that a note breaks at a site, behind earlier notes
unfoldable pub breaks : Site → List Placed → Note → Option ℕ
breaks site before n =
    if is_wide site n then Some 7
    else (if not (allowed site (setting n)) then Some 3
    else (if has (setting n) before then Some 4
    else (if excludes (setting n) before then Some 9 else None)))

abbrev pub refused_or : ℕ → Option ℕ → Option Refused → Option Refused
refused_or at (Some rule) later = Some (record { at = at; rule = rule })
refused_or at None later = later

-- the first note, behind earlier ones, that breaks a rule
abbrev pub first_refused : Site → List Placed → List Placed → Option Refused
first_refused site before [] = None
first_refused site before (p ∷ ps) = refused_or p.at (breaks site before p.note) (first_refused site (before ++ p ∷ []) ps)
