-- What is added of a type, from what is added of its parts.
use Rattle.std.proofs.Common.{◌≡◌, ℕ, List, ◌++◌, Option, sym, ap, subst, ◌∙◌}
use Rattle.std.specs.Prelude.{true, false, Result, Ok, Err, IfOk}
use Rattle.xt_shapes.specs.declared.leaves.Ext.{Ext}
use Rattle.xt_shapes.specs.declared.leaves.Primitive.{Primitive}
use Rattle.xt_shapes.specs.declared.leaves.Try.{Try}
use Rattle.type_trees.specs.declared.types.Literal.{Literal}
use Rattle.type_trees.specs.declared.types.Flag.{Flag}
use Rattle.type_trees.specs.Trees.{Tree, UnionHead, Cases, prim, str, enumeration, bitmask, sequence, array, map_of, union, alias}
use Rattle.object_formats.specs.Objects as o
use Rattle.object_formats.specs.Objects.{Object, CasePart}
use Rattle.type_object.specs.Pools.{Texts}
use Rattle.type_object.specs.declared.pool.PoolFault.{PoolFault}
use Rattle.type_object.specs.declared.pool.PoolFault.TheVariants as F
use Rattle.type_resolve.specs.declared.sides.Identifiers.{Identifiers}
use Rattle.type_resolve.specs.declared.sides.Sides.{Sides}
use Rattle.type_resolve.specs.declared.objects.Pair.{Pair}
use Rattle.type_resolve.specs.Adding.{Adds, Halts}
use Rattle.type_resolve.specs.Objects.{alias_object, enum_object, mask_object, union_object, is_plain, identifier, case_parts, texts, case_texts}
use Rattle.type_resolve.specs.Views.{Seen, seen, sides, side, Parts, parts_in, sequence_seen, array_seen, map_seen, hashes_seen, forms, form_texts, form_ids, both_forms, itself, Makes, Stores, AddsMade}
use Rattle.type_resolve.proofs.Added.{adds_none, begins_none, adds_then, halts_then, halts_front, stores_then, stores_made}

module _ {X Y : Type 0} (view : X → Y) (r : Result X PoolFault) (old new : Texts) where
  pub stores_same : (xs ys : List (List ℕ)) (y z : Y) → xs ≡ ys → y ≡ z → Stores view r old xs new y → Stores view r old ys new z
  stores_same xs ys y z e d h = subst (λ ts. Stores view r old ts new z) e (subst (λ w. Stores view r old xs new w) d h)

pub halts_same : (fault : PoolFault) (old new : Texts) (xs ys : List (List ℕ)) → xs ≡ ys → Halts fault old xs new → Halts fault old ys new
halts_same fault old new xs ys e h = subst (λ ts. Halts fault old ts new) e h

pub hashed_so : (r : Result Identifiers PoolFault) (old new : Texts) (xs : List (List ℕ)) (ids : Identifiers) → Stores itself r old xs new ids → Stores hashes_seen r old xs new (hashes_seen ids)
hashed_so (Ok i) old new xs ids h = (h.0, ap hashes_seen h.1)
hashed_so (Err f) old new xs ids h = h

-- an object's two forms, where they were made
pub forms_stored : {E : Type 0} (pair : Result Pair E) (r : Result Identifiers PoolFault) (old new : Texts) (f : Object × Object) → IfOk pair (λ p. forms p ≡ f) → AddsMade pair r old new → Stores itself r old (form_texts f) new (form_ids f)
forms_stored (Ok p) r old new f e h = subst (λ g. Stores itself r old (form_texts g) new (form_ids g)) e h
forms_stored (Err g) r old new f e h =
    let free : Stores itself (Err F.OutOfMemory) old (form_texts f) new (form_ids f) = subst (λ p. Halts F.OutOfMemory old (form_texts f) p) (sym h.1) (begins_none old (form_texts f)) in
    subst (λ s. Stores itself s old (form_texts f) new (form_ids f)) (sym h.0) free

pub pair_stores : {E : Type 0} (pair : Result Pair E) (r : Result Identifiers PoolFault) (old new : Texts) (f : Object × Object) → IfOk pair (λ p. forms p ≡ f) → AddsMade pair r old new → Stores hashes_seen r old (form_texts f) new (hashes_seen (form_ids f))
pair_stores pair r old new f e h = hashed_so r old new (form_texts f) (form_ids f) (forms_stored pair r old new f e h)

module _ (old new : Texts) where
  pub enum_stores : {E : Type 0} (pair : Result Pair E) (r : Result Identifiers PoolFault) (name : Option (List ℕ)) (ext : Ext) (bits : ℕ) (ls : List Literal)
      → IfOk pair (λ p. forms p ≡ both_forms (λ c. enum_object c name ext bits ls)) → AddsMade pair r old new → Stores hashes_seen r old (texts (enumeration name ext bits ls)) new (sides (enumeration name ext bits ls))
  unfolding texts is_plain identifier
  enum_stores pair r name ext bits ls e h = pair_stores pair r old new (both_forms (λ c. enum_object c name ext bits ls)) e h

  pub mask_stores : {E : Type 0} (pair : Result Pair E) (r : Result Identifiers PoolFault) (name : Option (List ℕ)) (bits : ℕ) (fs : List Flag)
      → IfOk pair (λ p. forms p ≡ both_forms (λ c. mask_object c name bits fs)) → AddsMade pair r old new → Stores hashes_seen r old (texts (bitmask name bits fs)) new (sides (bitmask name bits fs))
  unfolding texts is_plain identifier
  mask_stores pair r name bits fs e h = pair_stores pair r old new (both_forms (λ c. mask_object c name bits fs)) e h

  -- ---- collections

  module _ (whole t : Tree) (bound : ℕ) (tc : Try) (is : whole ≡ sequence bound tc t) where
    pub sequence_stores : (r : Result Sides PoolFault) (element : Seen) → Adds old (texts t) new → element ≡ sides t → Makes seen r (sequence_seen bound tc element) → Stores seen r old (texts whole) new (sides whole)
    unfolding texts is_plain identifier
    sequence_stores r element adds e h =
        let at : Stores seen r old (texts (sequence bound tc t)) new (sides (sequence bound tc t)) = stores_made seen r old new (texts t) _ _ adds h (ap (sequence_seen bound tc) e) in
        subst (λ w. Stores seen r old (texts w) new (sides w)) (sym is) at

    pub sequence_halts : (fault : PoolFault) → Halts fault old (texts t) new → Halts fault old (texts whole) new
    unfolding texts
    sequence_halts fault h = let at : Halts fault old (texts (sequence bound tc t)) new = h in subst (λ w. Halts fault old (texts w) new) (sym is) at

  module _ (whole t : Tree) (dims : List ℕ) (tc : Try) (is : whole ≡ array dims tc t) where
    pub array_stores : (r : Result Sides PoolFault) (element : Seen) → Adds old (texts t) new → element ≡ sides t → Makes seen r (array_seen dims tc element) → Stores seen r old (texts whole) new (sides whole)
    unfolding texts is_plain identifier
    array_stores r element adds e h =
        let at : Stores seen r old (texts (array dims tc t)) new (sides (array dims tc t)) = stores_made seen r old new (texts t) _ _ adds h (ap (array_seen dims tc) e) in
        subst (λ w. Stores seen r old (texts w) new (sides w)) (sym is) at

    pub array_halts : (fault : PoolFault) → Halts fault old (texts t) new → Halts fault old (texts whole) new
    unfolding texts
    array_halts fault h = let at : Halts fault old (texts (array dims tc t)) new = h in subst (λ w. Halts fault old (texts w) new) (sym is) at

  module _ (whole k v : Tree) (bound : ℕ) (kc vc : Try) (is : whole ≡ map_of bound kc k vc v) where
    pub map_stores : (r : Result Sides PoolFault) (mid : Texts) (key value : Seen) → Adds old (texts k) mid → Adds mid (texts v) new → key ≡ sides k → value ≡ sides v → Makes seen r (map_seen bound kc key vc value) → Stores seen r old (texts whole) new (sides whole)
    unfolding texts is_plain identifier
    map_stores r mid key value first second e d h =
        let at : Stores seen r old (texts (map_of bound kc k vc v)) new (sides (map_of bound kc k vc v)) =
        stores_made seen r old new (texts k ++ texts v) _ _ (adds_then old mid new (texts k) (texts v) first second) h (ap (λ s. map_seen bound kc s vc value) e ∙ ap (λ s. map_seen bound kc (sides k) vc s) d) in
        subst (λ w. Stores seen r old (texts w) new (sides w)) (sym is) at

    pub key_halts : (fault : PoolFault) → Halts fault old (texts k) new → Halts fault old (texts whole) new
    unfolding texts
    key_halts fault h = let at : Halts fault old (texts (map_of bound kc k vc v)) new = halts_front fault old new (texts k) (texts v) h in subst (λ w. Halts fault old (texts w) new) (sym is) at

    pub value_halts : (fault : PoolFault) (mid : Texts) → Adds old (texts k) mid → Halts fault mid (texts v) new → Halts fault old (texts whole) new
    unfolding texts
    value_halts fault mid first h = let at : Halts fault old (texts (map_of bound kc k vc v)) new = halts_then fault old mid new (texts k) (texts v) first h in subst (λ w. Halts fault old (texts w) new) (sym is) at

  -- ---- aliases and unions

  module _ (whole t : Tree) (name : Option (List ℕ)) (is : whole ≡ alias name t) where
    pub alias_stores : {E : Type 0} (pair : Result Pair E) (r : Result Identifiers PoolFault) (mid : Texts) (related : Seen) → Adds old (texts t) mid → related ≡ sides t
        → IfOk pair (λ p. forms p ≡ both_forms (λ c. alias_object c name (side related c))) → AddsMade pair r mid new → Stores hashes_seen r old (texts whole) new (sides whole)
    unfolding texts is_plain identifier
    alias_stores pair r mid related adds e f h =
        let made : IfOk pair (λ p. forms p ≡ both_forms (λ c. alias_object c name (side (sides t) c))) = subst (λ s. IfOk pair (λ p. forms p ≡ both_forms (λ c. alias_object c name (side s c)))) e f in
        let at : Stores hashes_seen r old (texts (alias name t)) new (sides (alias name t)) = stores_then hashes_seen r old mid new (texts t) _ _ adds (pair_stores pair r mid new _ made h) in
        subst (λ w. Stores hashes_seen r old (texts w) new (sides w)) (sym is) at

    pub alias_halts : (fault : PoolFault) → Halts fault old (texts t) new → Halts fault old (texts whole) new
    unfolding texts
    alias_halts fault h = let at : Halts fault old (texts (alias name t)) new = halts_front fault old new (texts t) _ h in subst (λ w. Halts fault old (texts w) new) (sym is) at

  module _ (whole t : Tree) (head : UnionHead) (cs : Cases) (is : whole ≡ union head t cs) where
    pub union_stores : {E : Type 0} (pair : Result Pair E) (r : Result Identifiers PoolFault) (mid last : Texts) (disc : Seen) (cases : Parts CasePart)
        → Adds old (texts t) mid → Adds mid (case_texts cs) last → disc ≡ sides t → cases ≡ (case_parts false cs, case_parts true cs)
        → IfOk pair (λ p. forms p ≡ both_forms (λ c. union_object c head (side disc c) (parts_in cases c))) → AddsMade pair r last new → Stores hashes_seen r old (texts whole) new (sides whole)
    unfolding texts is_plain identifier
    union_stores pair r mid last disc cases first second e d f h =
        let one : IfOk pair (λ p. forms p ≡ both_forms (λ c. union_object c head (side (sides t) c) (parts_in cases c))) = subst (λ s. IfOk pair (λ p. forms p ≡ both_forms (λ c. union_object c head (side s c) (parts_in cases c)))) e f in
        let made : IfOk pair (λ p. forms p ≡ both_forms (λ c. union_object c head (side (sides t) c) (parts_in (case_parts false cs, case_parts true cs) c))) = subst (λ ps. IfOk pair (λ p. forms p ≡ both_forms (λ c. union_object c head (side (sides t) c) (parts_in ps c)))) d one in
        let at : Stores hashes_seen r old (texts (union head t cs)) new (sides (union head t cs)) =
        stores_then hashes_seen r old mid new (texts t) _ _ first (stores_then hashes_seen r mid last new (case_texts cs) _ _ second (pair_stores pair r last new _ made h)) in
        subst (λ w. Stores hashes_seen r old (texts w) new (sides w)) (sym is) at

    pub disc_halts : (fault : PoolFault) → Halts fault old (texts t) new → Halts fault old (texts whole) new
    unfolding texts
    disc_halts fault h = let at : Halts fault old (texts (union head t cs)) new = halts_front fault old new (texts t) _ h in subst (λ w. Halts fault old (texts w) new) (sym is) at

    pub cases_halts : (fault : PoolFault) (mid : Texts) → Adds old (texts t) mid → Halts fault mid (case_texts cs) new → Halts fault old (texts whole) new
    unfolding texts
    cases_halts fault mid first h = let at : Halts fault old (texts (union head t cs)) new = halts_then fault old mid new (texts t) _ first (halts_front fault mid new (case_texts cs) _ h) in subst (λ w. Halts fault old (texts w) new) (sym is) at

-- ---- types that need no objects

module _ (old : Texts) (whole : Tree) (s : Seen) where
  pub prim_stores : (p : Primitive) → whole ≡ prim p → s ≡ (true, o.prim p, o.prim p) → Adds old (texts whole) old × (s ≡ sides whole)
  unfolding texts identifier is_plain
  prim_stores p is e = let at : Adds old (texts (prim p)) old × (s ≡ sides (prim p)) = (adds_none old, e) in subst (λ w. Adds old (texts w) old × (s ≡ sides w)) (sym is) at

  pub str_stores : (n : ℕ) → whole ≡ str n → s ≡ (true, o.str n, o.str n) → Adds old (texts whole) old × (s ≡ sides whole)
  unfolding texts identifier is_plain
  str_stores n is e = let at : Adds old (texts (str n)) old × (s ≡ sides (str n)) = (adds_none old, e) in subst (λ w. Adds old (texts w) old × (s ≡ sides w)) (sym is) at
