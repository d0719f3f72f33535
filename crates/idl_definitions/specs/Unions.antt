-- Unions (DDS-XTypes 1.3, 7.3.1). A label has the form of its discriminator's type.
use Rattle.std.specs.Prelude.{ℕ, zero, suc, ◌+◌, ℤ, pos, Bool, true, false, ◌||◌, if◌then◌else◌, List, [], ◌∷◌, ◌++◌, slice_index, Option, Some, None, Ok, codes}
use Rattle.std.specs.Str.{bytes_eq}
use Rattle.xt_shapes.specs.declared.leaves.Primitive.TheVariants.{Boolean, Char8}
use Rattle.type_trees.specs.declared.types.Name.{Name}
use Rattle.type_trees.specs.declared.types.Name.TheVariants as name_of
use Rattle.type_trees.specs.declared.types.Literal.{Literal}
use Rattle.type_trees.specs.Trees.{MemberHead, CaseHead, Tree, prim, enumeration, union, alias}
use Rattle.type_trees.specs.View.{cases_of}
use Rattle.xt_annotations.specs.declared.places.Site.{Site}
use Rattle.idl_tokens.specs.declared.tokens.TokenKind.{TokenKind}
use Rattle.idl_tokens.specs.Classes.{Text}
use Rattle.idl_tokens.specs.Numerals.{signed_32}
use Rattle.idl_input.specs.declared.faults.IdlFault.TheVariants as fault
use Rattle.idl_input.specs.Input.{Parser, ◌>>=◌, ◌>>◌, pure, syntax, refuse, here, eat, want, take_token, sees, sees_number, spelling, kind, next, notes_at, turns}
use Rattle.idl_types.specs.State.{State}
use Rattle.idl_types.specs.Names.{scoped}
use Rattle.idl_types.specs.Types.{a_type}
use Rattle.idl_definitions.specs.declared.settings.Settings.{Settings}
use Rattle.idl_definitions.specs.Notes.{settings}
use Rattle.idl_definitions.specs.Lists.{to_brace}
use Rattle.idl_definitions.specs.Members.{new_name, shaped}
use Rattle.idl_definitions.specs.Structures.{Made, made, new_type}

abbrev pub behind : Tree → Tree
behind (alias name t) = behind t
behind t = t

unfoldable pub truth_label : Parser ℤ
truth_label = do
  is_true ← eat (codes "TRUE")
  if is_true then pure (pos 1) else want (codes "FALSE") >> pure (pos 0)

abbrev pub is_character : TokenKind → Bool
is_character TokenKind.Character = true
is_character _ = false

unfoldable pub character_label : Parser ℤ
character_label = λ i. if is_character (kind i) then Ok (pos (slice_index (spelling i) 1), next i) else syntax i

abbrev pub or_syntax : Option ℤ → Parser ℤ
or_syntax (Some n) = λ i. Ok (n, next i)
or_syntax None = syntax

unfoldable pub number_label : Parser ℤ
number_label = λ i. if sees_number i then or_syntax (signed_32 (spelling i)) i else syntax i

abbrev pub is_named : Text → Name → Bool
is_named s (name_of.Full t) = bytes_eq t s
is_named s (name_of.Hashed h) = false

abbrev pub value_named : Text → List Literal → Option ℤ
value_named s [] = None
value_named s (l ∷ ls) = if is_named s l.name then Some l.value else value_named s ls

abbrev pub known_label : ℕ → Option ℤ → Parser ℤ
known_label at (Some v) = pure v
known_label at None = refuse (fault.Unknown at)

unfoldable pub literal_label : List Literal → Parser ℤ
literal_label ls = do
  at ← here
  s ← scoped
  known_label at (value_named s.last ls)

-- a label in the form of the discriminator's type
abbrev pub label_by : Tree → Parser ℤ
label_by (prim Boolean) = truth_label
label_by (prim Char8) = character_label
label_by (enumeration name ext bits ls) = literal_label ls
label_by _ = number_label

unfoldable pub label : Tree → Parser ℤ
label disc = label_by (behind disc)

-- Labels so far, and whether `default` is among them.
unfoldable pub labels_from : Tree → ℕ → List ℤ → Bool → Parser (List ℤ × Bool)
labels_from disc zero ls is_default = pure (ls, is_default)
labels_from disc (suc n) ls is_default = do
  labelled ← eat (codes "case")
  if labelled then (label disc >>= λ l. want (codes ":") >> labels_from disc n (ls ++ l ∷ []) is_default)
      else (do other ← eat (codes "default"); if other then want (codes ":") >> labels_from disc n ls true else pure (ls, is_default))

unfoldable pub labels : Tree → Parser (List ℤ × Bool)
labels disc = λ i. if sees (codes "case") i || sees (codes "default") i then labels_from disc (turns i) [] false i else syntax i

-- ---- cases

-- cases so far, their names, and the id after the last one's
pub record Gathered : Type 0 where
  pub cases : List (CaseHead × Tree)
  pub names : List Text
  pub following : ℕ

abbrev pub no_cases_yet : Gathered
no_cases_yet = record { cases = []; names = []; following = 0 }

abbrev pub a_case : List ℤ → Bool → MemberHead × Tree → CaseHead × Tree
a_case ls is_default m = (record { id = m.0.id; name = m.0.name; tc = m.0.tc; labels = ls; is_default = is_default }, m.1)

abbrev pub with_case : Gathered → Text → CaseHead × Tree → Gathered
with_case r s c = record { cases = r.cases ++ c ∷ []; names = r.names ++ s ∷ []; following = c.0.id + 1 }

-- one more case
unfoldable pub case : State → Bool → Tree → Gathered → Parser Gathered
case s hashed disc r = do
  ls ← labels disc
  ns ← notes_at Site.Case
  t ← a_type s
  n ← new_name r.names
  m ← shaped n.0 n.1 ns hashed r.following t
  want (codes ";")
  pure (with_case r n.1 (a_case ls.0 ls.1 m))

-- the discriminator's type, and whether it is a key
unfoldable pub discriminator : State → Parser (Tree × Bool)
discriminator s = do
  want (codes "switch")
  want (codes "(")
  ns ← notes_at Site.Discriminator
  t ← a_type s
  want (codes ")")
  pure (t, (settings ns).key)

abbrev pub union_of : Text → Settings → Tree → Bool → List (CaseHead × Tree) → Tree
union_of full set disc disc_key cs = union (record { name = Some full; ext = set.ext; nested = set.nested; hashed_ids = set.hashed; disc_key = disc_key }) disc (cases_of cs)

unfoldable pub union_def : State → Settings → Parser Made
union_def s set = do
  take_token
  n ← new_type s
  d ← discriminator s
  want (codes "{")
  r ← to_brace (case s set.hashed d.0) no_cases_yet
  want (codes ";")
  pure (made n (union_of n.full set d.0 d.1 r.cases))
