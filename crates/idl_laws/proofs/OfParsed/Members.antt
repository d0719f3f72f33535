-- What members that were read are.
use Rattle.std.proofs.Common.{◌≡◌, refl, sym, ◌∙◌, ap, Bool, true, false, ℕ, zero, suc, ◌≤◌, List, [], ◌∷◌, ◌++◌, append_assoc}
use Rattle.std.specs.Prelude.{codes}
use Rattle.std.proofs.lemmas.List.{append-nil}
use Rattle.type_trees.specs.declared.types.Name.{Name}
use Rattle.type_trees.specs.declared.types.Name.TheVariants as name_of
use Rattle.type_trees.specs.Trees.{Tree, MemberHead}
use Rattle.type_trees.specs.View.{members_of}
use Rattle.xt_annotations.specs.declared.notes.Placed.{Placed}
use Rattle.xt_annotations.specs.declared.notes.Note.{Note}
use Rattle.xt_annotations.specs.declared.notes.Note.TheVariants as note
use Rattle.xt_annotations.specs.declared.places.Site.{Site}
use Rattle.xt_annotations.specs.Members.{with_note, with_notes}
use Rattle.idl_tokens.specs.Classes.{Text}
use Rattle.idl_tokens.specs.names.Sets.{has}
use Rattle.idl_input.specs.Words.{is_keyword}
use Rattle.idl_input.specs.Input.{here, want, turns, notes_at}
use Rattle.idl_types.specs.State.{State, Declared}
use Rattle.idl_types.specs.Definitions.{ListedMembers}
use Rattle.idl_definitions.specs.Members.{dims_from, dims, with_dims, dimensioned, once, new_name, id_for, shaped, Listed, another, members_of_type}
use Rattle.idl_definitions.specs.Structures.{inherited, members}
use Rattle.idl_laws.specs.Printable.{IsUse, IsTyped, EachBound, EachMember, is_spelled}
use Rattle.idl_laws.proofs.OfParsed.Gives.{Yields, bind, behind, next, given, fails, if_eaten, by_input, at_input, name_yields, bound_yields}
use Rattle.idl_laws.proofs.OfParsed.Lists.{commas_yield, brace_yields}
use Rattle.idl_laws.proofs.OfParsed.Sound.{Sound}
use Rattle.idl_laws.proofs.OfParsed.Uses.{use_typed}
use Rattle.idl_laws.proofs.OfParsed.Types.{type_yields}

-- ---- dimensions

bounds_more : (ds : List ℕ) (d : ℕ) → EachBound ds → d ≤ 4294967295 → EachBound (ds ++ d ∷ [])
bounds_more [] d each fits = (fits, tt)
bounds_more (e ∷ ds) d each fits = (each.0, bounds_more ds d each.1 fits)

dims_from_yields : (n : ℕ) (ds : List ℕ) → EachBound ds → Yields (dims_from n ds) EachBound
unfolding dims_from
dims_from_yields zero ds each = given each
dims_from_yields (suc n) ds each = if_eaten (codes "[") (bind bound_yields (λ d fits. next (want (codes "]")) (dims_from_yields n (ds ++ d ∷ []) (bounds_more ds d each fits)))) (given each)

dims_yields : Yields dims EachBound
unfolding dims
dims_yields = by_input (λ i. at_input (dims_from_yields (turns i) [] tt) i)

with_dims_typed : (known : Declared) (t : Tree) (ds : List ℕ) → IsUse known t → EachBound ds → IsTyped known (with_dims t ds)
with_dims_typed known t [] used each = use_typed known t used
with_dims_typed known t (d ∷ ds) used each = (refl, (each, used))

-- a type with its dimensions
pub dimensioned_yields : (known : Declared) (t : Tree) → IsUse known t → Yields (dimensioned t) (IsTyped known)
unfolding dimensioned
dimensioned_yields known t used = bind dims_yields (λ ds each. given (with_dims_typed known t ds used each))

-- ---- names

pub once_yields : {A : Type 0} (at : ℕ) (b : Bool) (a : A) (P : A → Type 0) → (b ≡ false → P a) → Yields (once at b a) P
once_yields at true a P holds = fails
once_yields at false a P holds = given (holds refl)

pub new_name_yields : (names : List Text) → Yields (new_name names) (λ n. is_keyword n.1 ≡ false)
unfolding new_name
new_name_yields names = behind here (λ at. bind name_yields (λ s free. once_yields at (has s names) (at, s) (λ n. is_keyword n.1 ≡ false) (λ _. free)))

note_keeps : (n : Note) (m : MemberHead) → (with_note n m).name ≡ m.name
note_keeps (note.Id n) m = refl
note_keeps (note.HashId s) m = refl
note_keeps (note.Key b) m = refl
note_keeps (note.Optional b) m = refl
note_keeps (note.MustUnderstand b) m = refl
note_keeps (note.TryConstruct t) m = refl
note_keeps _ m = refl

notes_keep : (ns : List Placed) (m : MemberHead) → (with_notes ns m).name ≡ m.name
notes_keep [] m = refl
notes_keep (p ∷ ps) m = notes_keep ps (with_note p.note m) ∙ note_keeps p.note m

pub spelled_name : (s : Text) (n : Name) → is_keyword s ≡ false → n ≡ name_of.Full s → is_spelled n ≡ true
spelled_name s n free e = rw (e, free) refl

-- ---- members

-- a member's name is spelled out, and its type may stand there
pub record IsMember (known : Declared) (m : MemberHead × Tree) : Type 0 where
  pub spelled : is_spelled m.0.name ≡ true
  pub typed : IsTyped known m.1

pub shaped_yields : (known : Declared) (at : ℕ) (s : Text) (ns : List Placed) (hashed : Bool) (following : ℕ) (t : Tree) → is_keyword s ≡ false → IsUse known t
    → Yields (shaped at s ns hashed following t) (IsMember known)
unfolding shaped
shaped_yields known at s ns hashed following t free used =
    bind (dimensioned_yields known t used) (λ whole typed. behind (id_for at ns hashed following s) (λ id. given (record { spelled = spelled_name s _ free (notes_keep ns _); typed = typed })))

-- members that go on with further ones
pub record GoOn (known : Declared) (first : ListedMembers) (ms : ListedMembers) : Type 0 where
  pub own : ListedMembers
  pub is : ms ≡ first ++ own
  pub each : EachMember known (members_of own)

member_more : (known : Declared) (ms : ListedMembers) (m : MemberHead × Tree) → EachMember known (members_of ms) → IsMember known m → EachMember known (members_of (ms ++ m ∷ []))
member_more known [] m each more = (more.spelled, (more.typed, tt))
member_more known (n ∷ ms) m each more = (each.0, (each.1.0, member_more known ms m each.1.1 more))

go_on : (known : Declared) (first ms : ListedMembers) (m : MemberHead × Tree) → GoOn known first ms → IsMember known m → GoOn known first (ms ++ m ∷ [])
go_on known first ms m so_far more =
    record { own = so_far.own ++ m ∷ []; is = ap (λ l. l ++ m ∷ []) so_far.is ∙ append_assoc first so_far.own (m ∷ []); each = member_more known so_far.own m so_far.each more }

another_yields : (known : Declared) (first : ListedMembers) (ns : List Placed) (hashed : Bool) (t : Tree) → IsUse known t → (r : Listed) → GoOn known first r.members
    → Yields (another ns hashed t r) (λ l. GoOn known first l.members)
unfolding another
another_yields known first ns hashed t used r so_far =
    bind (new_name_yields r.names) (λ n free. bind (shaped_yields known n.0 n.1 ns hashed r.following t free used) (λ m more. given (go_on known first r.members m so_far more)))

one_type_yields : (s : State) → Sound s.types → (first : ListedMembers) (hashed : Bool) (r : Listed) → GoOn s.types first r.members → Yields (members_of_type s hashed r) (λ l. GoOn s.types first l.members)
unfolding members_of_type
one_type_yields s sound first hashed r so_far =
    behind (notes_at Site.Member) (λ ns. bind (type_yields s sound) (λ t used. bind (commas_yield (another ns hashed t)
    (λ l. GoOn s.types first l.members) (another_yields s.types first ns hashed t used) r so_far) (λ more holds. next (want (codes ";")) (given holds))))

-- members behind those of a base
pub members_yield : (s : State) → Sound s.types → (hashed : Bool) (first : ListedMembers) → Yields (members s hashed first) (GoOn s.types first)
members_yield s sound hashed first =
    bind (brace_yields (members_of_type s hashed) (λ l. GoOn s.types first l.members) (one_type_yields s sound first hashed) (inherited first)
    (record { own = []; is = sym (append-nil first); each = tt })) (λ r holds. given holds)
