-- Members of a structure: their declarators and ids (DDS-XTypes 1.3, 7.3.1.2.1).
use Rattle.std.specs.Prelude.{ℕ, zero, suc, ◌+◌, Bool, true, false, ◌||◌, if◌then◌else◌, nat_lt, List, [], ◌∷◌, ◌++◌, codes}
use Rattle.xt_shapes.specs.declared.leaves.Try.{Try}
use Rattle.type_trees.specs.declared.types.Name.TheVariants as name_of
use Rattle.type_trees.specs.Trees.{MemberHead, Tree, array}
use Rattle.type_trees.specs.Hash.{hash_id}
use Rattle.xt_annotations.specs.declared.notes.Placed.{Placed}
use Rattle.xt_annotations.specs.declared.places.Site.{Site}
use Rattle.xt_annotations.specs.declared.places.Setting.{Setting}
use Rattle.xt_annotations.specs.Places.{has as has_setting}
use Rattle.xt_annotations.specs.Members.{with_notes}
use Rattle.idl_tokens.specs.Classes.{Text}
use Rattle.idl_tokens.specs.names.Sets.{has}
use Rattle.idl_input.specs.declared.faults.IdlFault.TheVariants as fault
use Rattle.idl_input.specs.Input.{Parser, ◌>>=◌, ◌>>◌, pure, refuse, here, eat, want, name, bound, notes_at, turns}
use Rattle.idl_types.specs.State.{State}
use Rattle.idl_types.specs.Types.{a_type}
use Rattle.idl_types.specs.Definitions.{ListedMembers}
use Rattle.idl_definitions.specs.Lists.{with_commas}

unfoldable pub dims_from : ℕ → List ℕ → Parser (List ℕ)
dims_from zero ds = pure ds
dims_from (suc n) ds = do
  more ← eat (codes "[")
  if more then (bound >>= λ d. want (codes "]") >> dims_from n (ds ++ d ∷ [])) else pure ds

unfoldable pub dims : Parser (List ℕ)
dims = λ i. dims_from (turns i) [] i

abbrev pub with_dims : Tree → List ℕ → Tree
with_dims t [] = t
with_dims t (d ∷ ds) = array (d ∷ ds) Try.Discard t

-- a type with the dimensions that come next
unfoldable pub dimensioned : Tree → Parser Tree
dimensioned t = do
  ds ← dims
  pure (with_dims t ds)

abbrev pub once : {A : Type 0} → ℕ → Bool → A → Parser A
once at true a = refuse (fault.Twice at)
once at false a = pure a

-- a name that isn't taken, and its place
unfoldable pub new_name : List Text → Parser (ℕ × Text)
new_name names = do
  at ← here
  s ← name
  once at (has s names) (at, s)

-- ---- members

abbrev pub gives_id : List Placed → Bool
gives_id ns = has_setting Setting.Id ns || has_setting Setting.HashId ns

abbrev pub own_id : Bool → ℕ → Text → ℕ
own_id true following s = hash_id s
own_id false following s = following

-- The id without `@id` and `@hashid`: the name's hash, or the previous id plus 1.
unfoldable pub id_for : ℕ → List Placed → Bool → ℕ → Text → Parser ℕ
id_for at ns hashed following s =
    if gives_id ns then pure 0 else (if nat_lt (own_id hashed following s) 4294967296 then pure (own_id hashed following s) else refuse (fault.Annotation at 7))

abbrev pub a_member : List Placed → ℕ → Text → MemberHead
a_member ns id s = with_notes ns (record { id = id; name = name_of.Full s; tc = Try.Discard; optional = false; must_understand = false; key = false })

-- a member or case of this type, with its id
abbrev pub formed : ℕ → Text → List Placed → Bool → ℕ → Tree → Parser (MemberHead × Tree)
formed at s ns hashed following whole = do
  id ← id_for at ns hashed following s
  pure (a_member ns id s, whole)

-- the dimensions behind a name, and the id
unfoldable pub shaped : ℕ → Text → List Placed → Bool → ℕ → Tree → Parser (MemberHead × Tree)
shaped at s ns hashed following t = do
  whole ← dimensioned t
  formed at s ns hashed following whole

-- members so far, the own names among them, and the id after the last one's
pub record Listed : Type 0 where
  pub members : ListedMembers
  pub names : List Text
  pub following : ℕ

abbrev pub with_member : Listed → Text → MemberHead × Tree → Listed
with_member r s m = record { members = r.members ++ m ∷ []; names = r.names ++ s ∷ []; following = m.0.id + 1 }

-- one more declarator
unfoldable pub another : List Placed → Bool → Tree → Listed → Parser Listed
another ns hashed t r = do
  n ← new_name r.names
  m ← shaped n.0 n.1 ns hashed r.following t
  pure (with_member r n.1 m)

-- members of one type
unfoldable pub members_of_type : State → Bool → Listed → Parser Listed
members_of_type s hashed r = do
  ns ← notes_at Site.Member
  t ← a_type s
  more ← with_commas (another ns hashed t) r
  want (codes ";")
  pure more
