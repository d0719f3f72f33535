-- The annotations before a definition (OMG IDL 4.2, 7.4.15). Where they may stand depends on the keyword that follows them (own).
use Rattle.std.specs.Prelude.{ℕ, zero, suc, if◌then◌else◌, List, [], ◌∷◌, ◌++◌, Option, Some, None, Ok, Err, codes}
use Rattle.xt_annotations.specs.declared.notes.Placed.{Placed}
use Rattle.xt_annotations.specs.declared.notes.Refused.{Refused}
use Rattle.xt_annotations.specs.declared.places.Site.{Site}
use Rattle.xt_annotations.specs.Places.{first_refused}
use Rattle.idl_input.specs.declared.faults.IdlFault.TheVariants as fault
use Rattle.idl_input.specs.declared.words.Keyword.{Keyword}
use Rattle.idl_input.specs.declared.words.Keyword.TheVariants as word
use Rattle.idl_input.specs.Input.{Outcome, Parser, ◌>>=◌, ◌>>◌, pure, refuse, sees, keyword_at, note, turns}

-- A note that can't be read counts, unless an earlier one may stand before no definition at all.
abbrev pub or_earlier : Option Refused → Outcome Placed → Outcome Placed
or_earlier None o = o
or_earlier (Some r) (Ok p) = Ok p
or_earlier (Some r) (Err e) = Err (fault.Annotation r.at r.rule)

abbrev pub next_note : List Placed → Parser Placed
next_note before = λ i. or_earlier (first_refused Site.AnyDefinition [] before) (note i)

-- The number bounds the turns: each note has an octet at least.
unfoldable pub leading_from : ℕ → List Placed → Parser (List Placed)
leading_from zero before = pure before
leading_from (suc n) before = λ i. if sees (codes "@") i then (next_note before >>= λ p. leading_from n (before ++ p ∷ [])) i else Ok (before, i)

unfoldable pub leading : Parser (List Placed)
leading = λ i. leading_from (turns i) [] i

-- where notes stand, by the keyword that follows them
abbrev pub site_of : Option Keyword → Site
site_of (Some word.Struct) = Site.Structure
site_of (Some word.Union) = Site.Union
site_of (Some word.Enum) = Site.Enumeration
site_of (Some word.Bitmask) = Site.Bitmask
site_of (Some word.Typedef) = Site.Other
site_of (Some word.Module) = Site.Other
site_of _ = Site.AnyDefinition

abbrev pub judged : Option Refused → Parser (Unit {0})
judged None = pure tt
judged (Some r) = refuse (fault.Annotation r.at r.rule)

-- the annotations, judged where the keyword is known
unfoldable pub leading_notes : Parser (List Placed)
leading_notes = do
  ns ← leading
  λ i. (judged (first_refused (site_of (keyword_at i)) [] ns) >> pure ns) i
