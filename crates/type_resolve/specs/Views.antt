-- What the code's parts of minimal and complete objects stand for, and what a call does that adds the objects of a type (this profile's own).
use Rattle.std.specs.Prelude.{◌≡◌, ℕ, ◌&&◌, List, [], ◌∷◌, Bool, true, false, Option, Some, None, Result, Ok, Err, map}
use Rattle.type_trees.specs.declared.types.HashId.{HashId}
use Rattle.xt_shapes.specs.declared.leaves.Try.{Try}
use Rattle.type_trees.specs.Trees.{Tree, MemberHead, CaseHead, UnionHead}
use Rattle.object_formats.specs.Objects as o
use Rattle.object_formats.specs.Objects.{Identifier, MemberPart, CasePart, Object}
use Rattle.object_formats.specs.Tables.{text_of, ek_of}
use Rattle.object_formats.specs.View as view
use Rattle.type_object.specs.Names.{named}
use Rattle.type_object.specs.Pools.{Texts}
use Rattle.type_object.specs.declared.pool.PoolFault.{PoolFault}
use Rattle.type_object.specs.declared.pool.PoolFault.TheVariants as F
use Rattle.type_resolve.specs.declared.heads.MemberHeading.{MemberHeading}
use Rattle.type_resolve.specs.declared.heads.CaseHeading.{CaseHeading}
use Rattle.type_resolve.specs.declared.sides.Identifiers.{Identifiers}
use Rattle.type_resolve.specs.declared.sides.Sides.{Sides}
use Rattle.type_resolve.specs.declared.sides.MemberSides.{MemberSides}
use Rattle.type_resolve.specs.declared.sides.CaseSides.{CaseSides}
use Rattle.type_resolve.specs.declared.objects.Pair.{Pair}
use Rattle.type_resolve.specs.declared.objects.Header.{Header}
use Rattle.type_resolve.specs.Objects.{is_plain, identifier, try_flags}
use Rattle.type_resolve.specs.Adding.{Adds, Halts}

-- whether a type is plain, and its identifiers in minimal and complete objects
abbrev pub Seen : Type 0
Seen = Bool × Identifier × Identifier

abbrev pub seen : Sides → Seen
seen s = (s.plain, view.identifier s.minimal, view.identifier s.complete)

abbrev pub sides : Tree → Seen
sides t = (is_plain t, identifier false t, identifier true t)

abbrev pub sequence_seen : ℕ → Try → Seen → Seen
sequence_seen bound tc e = (e.0, o.sequence (ek_of false e.0) (try_flags tc) bound e.1, o.sequence (ek_of true e.0) (try_flags tc) bound e.2)

abbrev pub array_seen : List ℕ → Try → Seen → Seen
array_seen dims tc e = (e.0, o.array (ek_of false e.0) (try_flags tc) dims e.1, o.array (ek_of true e.0) (try_flags tc) dims e.2)

abbrev pub map_seen : ℕ → Try → Seen → Try → Seen → Seen
map_seen bound kc k vc v = (v.0 && k.0, o.map_of (ek_of false (v.0 && k.0)) (try_flags vc) bound v.1 (try_flags kc) k.1, o.map_of (ek_of true (v.0 && k.0)) (try_flags vc) bound v.2 (try_flags kc) k.2)

abbrev pub hashes_seen : Identifiers → Seen
hashes_seen ids = (false, o.hash ids.minimal, o.hash ids.complete)

abbrev pub side : Seen → Bool → Identifier
side s false = s.1
side s true = s.2

abbrev pub id_in : Identifiers → Bool → HashId
id_in ids false = ids.minimal
id_in ids true = ids.complete

abbrev pub base_in : Option Identifiers → Bool → Identifier
base_in None c = o.none
base_in (Some ids) c = o.hash (id_in ids c)

abbrev pub Parts : Type 0 → Type 0
Parts A = List A × List A

abbrev pub member_sides : MemberSides → Parts MemberPart
member_sides m = (map view.member m.minimal, map view.member m.complete)

abbrev pub case_sides : CaseSides → Parts CasePart
case_sides m = (map view.case m.minimal, map view.case m.complete)

abbrev pub parts_in : {A : Type 0} → Parts A → Bool → List A
parts_in p false = p.0
parts_in p true = p.1

abbrev pub forms : Pair → Object × Object
forms p = (view.object p.minimal, view.object p.complete)

abbrev pub union_head : Header → Bool → UnionHead
union_head h disc_key = record { name = h.name.now; ext = h.ext; nested = h.nested; hashed_ids = h.hashed_ids; disc_key = disc_key }

abbrev pub member_head : MemberHeading → MemberHead
member_head m = record { id = m.id; name = m.name.now; tc = m.tc; optional = m.optional; must_understand = m.must_understand; key = m.key }

abbrev pub case_head : CaseHeading → CaseHead
case_head c = record { id = c.id; name = c.name.now; tc = c.tc; labels = c.labels.now; is_default = c.is_default }

abbrev pub both_forms : (Bool → Object) → Object × Object
both_forms x = (x false, x true)

abbrev pub form_texts : Object × Object → List (List ℕ)
form_texts p = text_of p.0 ∷ text_of p.1 ∷ []

abbrev pub form_ids : Object × Object → Identifiers
form_ids p = record { minimal = named (text_of p.0); complete = named (text_of p.1) }

abbrev pub itself : {A : Type 0} → A → A
itself x = x

-- what was made, where memory was not wanting
abbrev pub Makes : {X Y : Type 0} → (X → Y) → Result X PoolFault → Y → Type 0
Makes view (Ok x) y = view x ≡ y
Makes view (Err fault) y = fault ≡ F.OutOfMemory

-- what a call did that adds texts to a pool, and its answer after all of them
abbrev pub Stores : {X Y : Type 0} → (X → Y) → Result X PoolFault → Texts → List (List ℕ) → Texts → Y → Type 0
Stores view (Ok x) old texts new y = Adds old texts new × (view x ≡ y)
Stores view (Err fault) old texts new y = Halts fault old texts new

-- the same of objects that were made before, where memory was not wanting
abbrev pub AddsMade : {E : Type 0} → Result Pair E → Result Identifiers PoolFault → Texts → Texts → Type 0
AddsMade (Ok pair) result old new = Stores itself result old (form_texts (forms pair)) new (form_ids (forms pair))
AddsMade (Err e) result old new = (result ≡ Err F.OutOfMemory) × (new ≡ old)
