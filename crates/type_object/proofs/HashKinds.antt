-- The hashes in a well formed object have the kind of an object.
use Rattle.std.proofs.Common.{◌≡◌, ℕ, zero, suc, Bool, true, false, cond, List, [], ◌∷◌, ◌++◌, Some, None, refl, ap, ◌∙◌, sym, subst}
use Rattle.std.specs.Prelude.{All, IfOk, Result, Ok, Err, ◌&&◌, ◌==◌}
use Rattle.std.proofs.lemmas.Bool.{and_parts, eqb-true}
use Rattle.std.proofs.lemmas.List.Elements.{All-nil, All-cons, All-head, All-tail, All-append}
use Rattle.type_trees.specs.declared.types.HashId.{HashId}
use Rattle.type_trees.specs.Ids.{is_object_kind}
use Rattle.object_formats.specs.Format.{each_good, in_part, counted}
use Rattle.object_formats.specs.Objects.{Identifier, MemberPart, CasePart, Object}
use Rattle.object_formats.specs.Objects.{none, prim, str, sequence, array, map_of, hash, alias, enumeration, bitmask, structure, union}
use Rattle.object_formats.specs.Tables as T
use Rattle.object_formats.proofs.OwnKinds.{own_is_kind}
use Rattle.type_object.specs.References.{hashes, member_hashes, case_hashes, in_order, is_among, once, references}

abbrev HasKind : HashId → Type 0
HasKind id = is_object_kind id.kind ≡ true

abbrev HaveKinds : List HashId → Type 0
HaveKinds = All HasKind

no_hashes : HaveKinds []
no_hashes = All-nil HasKind

left : (a b : Bool) → (a && b) ≡ true → a ≡ true
left a b e = (and_parts a b e).0

right : (a b : Bool) → (a && b) ≡ true → b ≡ true
right a b e = (and_parts a b e).1

-- ---- identifiers

own_kind : (c : Bool) (good : List ℕ → Bool) (h : HashId) (b : Bool) → (h.kind == T.own c) ≡ b → in_part good (cond b (Some h.hash) None) ≡ true → HasKind h
own_kind c good h true is e = ap is_object_kind (eqb-true h.kind (T.own c) is) ∙ own_is_kind c
own_kind c good h false is e = absurd cc

hashed_kinds : (c : Bool) (t : Identifier) → (T.hashed c).good t ≡ true → HaveKinds (hashes t)
hashed_kinds c (hash h) good = All-cons HasKind h [] (own_kind c _ h (h.kind == T.own c) refl good) no_hashes
hashed_kinds c none good = no_hashes
hashed_kinds c (prim p) good = no_hashes
hashed_kinds c (str n) good = no_hashes
hashed_kinds c (sequence ek f b t) good = absurd cc
hashed_kinds c (array ek f d t) good = absurd cc
hashed_kinds c (map_of ek f b v kf k) good = absurd cc

nested_kinds : (c : Bool) (n : ℕ) (t : Identifier) → (T.nested c n).good t ≡ true → HaveKinds (hashes t)
unfolding T.nested T.too_deep
nested_kinds c zero t good = absurd cc
nested_kinds c (suc n) none good = no_hashes
nested_kinds c (suc n) (prim p) good = no_hashes
nested_kinds c (suc n) (str b) good = no_hashes
nested_kinds c (suc n) (sequence ek f b t) good = nested_kinds c n t (right _ _ (left _ _ good))
nested_kinds c (suc n) (array ek f d t) good = nested_kinds c n t (right _ _ (left _ _ good))
nested_kinds c (suc n) (map_of ek f b v kf k) good =
    let parts = right _ _ (left _ _ good) in
    All-append HasKind (hashes v) (hashes k) (nested_kinds c n v (left _ _ parts)) (nested_kinds c n k (right _ _ (right _ _ parts)))
nested_kinds c (suc n) (hash h) good = hashed_kinds c (hash h) good

identifier_kinds : (c : Bool) (t : Identifier) → (T.identifier c).good t ≡ true → HaveKinds (hashes t)
unfolding T.identifier
identifier_kinds c t good = nested_kinds c 16 t good

base_kinds : (c : Bool) (t : Identifier) → (T.base c).good t ≡ true → HaveKinds (hashes t)
unfolding T.base
base_kinds c none good = no_hashes
base_kinds c (prim p) good = no_hashes
base_kinds c (str n) good = no_hashes
base_kinds c (sequence ek f b t) good = absurd cc
base_kinds c (array ek f d t) good = absurd cc
base_kinds c (map_of ek f b v kf k) good = absurd cc
base_kinds c (hash h) good = hashed_kinds c (hash h) good

-- ---- objects

members_kinds : (c : Bool) (ms : List MemberPart) → each_good (T.member c) ms ≡ true → HaveKinds (member_hashes ms)
unfolding each_good T.member
members_kinds c [] good = no_hashes
members_kinds c (m ∷ ms) good = All-append HasKind (hashes m.ty) (member_hashes ms) (identifier_kinds c m.ty (left _ _ (right _ _ (right _ _ (left _ _ good))))) (members_kinds c ms (right _ _ good))

cases_kinds : (c : Bool) (cs : List CasePart) → each_good (T.case c) cs ≡ true → HaveKinds (case_hashes cs)
unfolding each_good T.case
cases_kinds c [] good = no_hashes
cases_kinds c (x ∷ cs) good = All-append HasKind (hashes x.ty) (case_hashes cs) (identifier_kinds c x.ty (left _ _ (right _ _ (right _ _ (left _ _ good))))) (cases_kinds c cs (right _ _ good))

order_kinds : (c : Bool) (o : Object) → (T.kinds c).good o ≡ true → HaveKinds (in_order o)
unfolding T.alias_body T.struct_body T.union_body
order_kinds c (alias n t) good =
    let none = T.no_flags.good tt in
    let closed = (T.closing c).good tt in
    let inner = (T.identifier c).good t && closed in
    let named = (counted (T.detail c)).good n in
    identifier_kinds c t (left ((T.identifier c).good t) closed (right none inner (right named (none && inner) (right none (named && (none && inner)) good))))
order_kinds c (enumeration n f b ls) good = no_hashes
order_kinds c (bitmask n b fs) good = no_hashes
order_kinds c (structure n f b ms) good =
    let parts = right _ _ good in
    All-append HasKind (hashes b) (member_hashes ms) (base_kinds c b (left _ _ (left _ _ parts))) (members_kinds c ms (right _ _ parts))
order_kinds c (union n f df d cs) good =
    let flags = (T.flags_of (T.type_flags c)).good f in
    let named = (counted (T.detail c)).good n in
    let disc_flags = (T.flags_of T.disc_flags).good df in
    let closed = (T.closing c).good tt in
    let disc = (T.identifier c).good d && closed in
    let cases = (T.listed (T.case c)).good cs in
    let parts = right named ((disc_flags && disc) && cases) (right flags (named && ((disc_flags && disc) && cases)) good) in
    All-append HasKind (hashes d) (case_hashes cs) (identifier_kinds c d (left ((T.identifier c).good d) closed (right disc_flags disc (left (disc_flags && disc) cases parts)))) (cases_kinds c cs (right (disc_flags && disc) cases parts))

once_kinds : (before hs : List HashId) → HaveKinds hs → HaveKinds (once before hs)
once_kinds before [] all = no_hashes
once_kinds before (h ∷ hs) all = by (is_among h before) (once_kinds before hs (All-tail HasKind h hs all)) (once_kinds (before ++ h ∷ []) hs (All-tail HasKind h hs all))
  where
    by : (b : Bool) → HaveKinds (once before hs) → HaveKinds (once (before ++ h ∷ []) hs) → HaveKinds (cond b (once before hs) (h ∷ once (before ++ h ∷ []) hs))
    by true old new = old
    by false old new = All-cons HasKind h (once (before ++ h ∷ []) hs) (All-head HasKind h hs all) new

pub references_kinds : (o : Object) → T.is_well_formed o ≡ true → HaveKinds (references o)
unfolding T.is_well_formed T.object references
references_kinds o good = once_kinds [] (in_order o) (order_kinds (T.is_complete o) o good)

-- the same of a call's answer
pub kinds_of_references : {E : Type 0} (result : Result (List HashId) E) (o : Object) → T.is_well_formed o ≡ true → IfOk result (λ ids. ids ≡ references o) → IfOk result (All (λ id. is_object_kind id.kind ≡ true))
kinds_of_references (Ok ids) o good is = subst HaveKinds (sym is) (references_kinds o good)
kinds_of_references (Err e) o good is = tt
