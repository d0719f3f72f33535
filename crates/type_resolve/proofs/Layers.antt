-- The layers of a structure, one on the other.
use denote.Param.Weighed.{most}
use Rattle.std.proofs.Common.{◌≡◌, ℕ, zero, suc, ◌+◌, ◌<◌, ◌≤◌, List, [], ◌∷◌, ◌++◌, map, drop, take, max, length, get_or, refl, sym, ap, subst, ◌∙◌, append_assoc, arith}
use Rattle.std.proofs.lemmas.List.{append-nil, drop_more, drop-map, take-map}
use Rattle.std.specs.Prelude.{Bool, true, false, Option, Some, None, Result, Ok, Err, IfOk}
use mathlib.Core.Path.{fun_ext}
use Rattle.xt_shapes.specs.declared.leaves.Ext.{Ext}
use Rattle.type_trees.specs.declared.types.Base.{Base}
use Rattle.type_trees.specs.declared.types.Member.{Member}
use Rattle.type_trees.specs.declared.types.StructType.{StructType, out-StructType}
use Rattle.type_trees.specs.Trees.{MemberHead, StructHead, Members, Tree, structure}
use Rattle.type_trees.specs.View.{member_tree, members_of, members_tree, struct_tree}
use Rattle.type_trees.proofs.Views.{struct_tree_is}
use Rattle.object_formats.specs.Objects as o
use Rattle.object_formats.specs.Objects.{Identifier, MemberPart, Object}
use Rattle.type_object.specs.Pools.{Texts}
use Rattle.type_object.specs.declared.pool.PoolFault.{PoolFault}
use Rattle.type_resolve.specs.declared.sides.Identifiers.{Identifiers}
use Rattle.type_resolve.specs.declared.objects.Pair.{Pair}
use Rattle.type_resolve.specs.Adding.{Adds, Halts}
use Rattle.type_resolve.specs.Objects.{own, between, top, layers, struct_object, is_plain, member_part, layer_object, last_layer, layer_texts, member_count, identifier, member_parts, texts, member_texts, joined, both_texts}
use Rattle.type_resolve.specs.Views.{base_in, form_ids, both_forms, forms, itself, hashes_seen, sides, Parts, parts_in, Stores, AddsMade}
use Rattle.type_resolve.proofs.Added.{adds_none, adds_then, halts_then, halts_front}
use Rattle.type_resolve.proofs.Loops.{needed, none_behind}
use Rattle.type_resolve.proofs.Steps.{forms_stored}

-- ---- some of the members

pub parts_are : (c : Bool) (ms : List (MemberHead × Tree)) → member_parts c (members_of ms) ≡ map (λ m. member_part c m.0 (identifier c m.1)) ms
unfolding member_parts
parts_are c [] = refl
parts_are c (m ∷ ms) = ap (λ ps. member_part c m.0 (identifier c m.1) ∷ ps) (parts_are c ms)

pub texts_are : (ms : List (MemberHead × Tree)) → member_texts (members_of ms) ≡ map (λ m. texts m.1) ms
unfolding member_texts
texts_are [] = refl
texts_are (m ∷ ms) = ap (λ ts. texts m.1 ∷ ts) (texts_are ms)

between-map : {A B : Type 0} (f : A → B) (had count : ℕ) (xs : List A) → map f (between had count xs) ≡ between had count (map f xs)
between-map f had count xs = sym (drop-map f had (take count xs)) ∙ ap (drop had) (sym (take-map f count xs))

pub parts_between : (c : Bool) (had count : ℕ) (ms : List Member) → member_parts c (members_tree (between had count ms)) ≡ between had count (member_parts c (members_tree ms))
parts_between c had count ms =
    let f : MemberHead × Tree → MemberPart = λ m. member_part c m.0 (identifier c m.1) in
    parts_are c (map member_tree (between had count ms)) ∙ ap (map f) (between-map member_tree had count ms) ∙ between-map f had count (map member_tree ms) ∙ ap (between had count) (sym (parts_are c (map member_tree ms)))

pub texts_between : (had count : ℕ) (ms : List Member) → member_texts (members_tree (between had count ms)) ≡ between had count (member_texts (members_tree ms))
texts_between had count ms =
    let f : MemberHead × Tree → List (List ℕ) = λ m. texts m.1 in
    texts_are (map member_tree (between had count ms)) ∙ ap (map f) (between-map member_tree had count ms) ∙ between-map f had count (map member_tree ms) ∙ ap (between had count) (sym (texts_are (map member_tree ms)))

pub count_is : (ms : List Member) → member_count (members_tree ms) ≡ length ms
count_is [] = refl
count_is (m ∷ ms) = omega (arith, count_is ms)

-- ---- the layers so far

module _ (ext : Ext) (needs : List (List (List ℕ))) (parts : Bool → List MemberPart) where
  -- `rest` is still to come of the layers; `base` and `had` stand for what is done
  pub record Standing (old now : Texts) (all : List (List ℕ)) (ids : Bool → Identifier) (base : Option Identifiers) (had : ℕ) (rest : List Base) : Type 0 where
    pub before : List (List ℕ)
    pub adds : Adds old before now
    pub texts_are : before ++ layer_texts ext (base_in base) had rest needs parts ≡ all
    pub minimal : last_layer false ext (base_in base false) had rest (parts false) ≡ ids false
    pub complete : last_layer true ext (base_in base true) had rest (parts true) ≡ ids true

  abbrev pub objects : Option Identifiers → ℕ → Base → Bool → Object
  objects base had b c = layer_object c ext (base_in base c) had b (parts c)

  pub at_start : (old : Texts) (bs : List Base) → Standing old old (layer_texts ext (λ c. o.none) 0 bs needs parts) (λ c. last_layer c ext o.none 0 bs (parts c)) None 0 bs
  at_start old bs = record { before = []; adds = adds_none old; texts_are = refl; minimal = refl; complete = refl }

  named_so : (x : Bool → Object) (ids : Identifiers) → form_ids (both_forms x) ≡ ids → (λ c. own (x c)) ≡ base_in (Some ids)
  named_so x ids e = fun_ext by
    where
      by : (c : Bool) → own (x c) ≡ base_in (Some ids) c
      by false = ap (λ (i : Identifiers). o.hash i.minimal) e
      by true = ap (λ (i : Identifiers). o.hash i.complete) e

  abbrev pub layer_needs : ℕ → Base → List (List ℕ)
  layer_needs had b = joined (between had b.count needs)

  module _ (old now : Texts) (all : List (List ℕ)) (ids : Bool → Identifier) (base : Option Identifiers) (had : ℕ) (rest more : List Base) (b : Base) (is : rest ≡ b ∷ more) (h : Standing old now all ids base had rest) where
    abbrev next : List (List ℕ)
    next = layer_texts ext (λ c. own (objects base had b c)) (max had b.count) more needs parts

    split : h.before ++ (layer_needs had b ++ (both_texts (objects base had b) ++ next)) ≡ all
    split = ap (λ bs. h.before ++ layer_texts ext (base_in base) had bs needs parts) (sym is) ∙ h.texts_are

    -- the layer's own members need a text that is refused
    pub ends_in_needs : (fault : PoolFault) (new : Texts) → Halts fault now (layer_needs had b) new → Halts fault old all new
    ends_in_needs fault new k = subst (λ ts. Halts fault old ts new) split (halts_then fault old now new h.before _ h.adds (halts_front fault now new (layer_needs had b) _ k))

    module _ (mid : Texts) (needed : Adds now (layer_needs had b) mid) where
      -- one of the layer's own texts is refused
      pub ends_in_own : (fault : PoolFault) (new : Texts) → Halts fault mid (both_texts (objects base had b)) new → Halts fault old all new
      ends_in_own fault new k =
          subst (λ ts. Halts fault old ts new) split (halts_then fault old now new h.before _ h.adds (halts_then fault now mid new (layer_needs had b) _ needed (halts_front fault mid new (both_texts (objects base had b)) next k)))

      pub goes_on : (new : Texts) (made : Identifiers) (now_had : ℕ) → now_had ≡ max had b.count → Adds mid (both_texts (objects base had b)) new → made ≡ form_ids (both_forms (objects base had b)) → Standing old new all ids (Some made) now_had more
      goes_on new made now_had greatest own_added e =
          let same : (λ c. own (objects base had b c)) ≡ base_in (Some made) = named_so (objects base had b) made (sym e) in
          let whole : h.before ++ (layer_needs had b ++ (both_texts (objects base had b) ++ layer_texts ext (base_in (Some made)) now_had more needs parts)) ≡ all =
          ap (λ n. h.before ++ (layer_needs had b ++ (both_texts (objects base had b) ++ layer_texts ext (base_in (Some made)) n more needs parts))) greatest
          ∙ ap (λ f. h.before ++ (layer_needs had b ++ (both_texts (objects base had b) ++ layer_texts ext f (max had b.count) more needs parts))) (sym same) ∙ split in
          record {
            before = h.before ++ (layer_needs had b ++ both_texts (objects base had b));
            adds = adds_then old now new h.before _ h.adds (adds_then now mid new (layer_needs had b) (both_texts (objects base had b)) needed own_added);
            texts_are = append_assoc h.before (layer_needs had b ++ both_texts (objects base had b)) _ ∙ ap (λ ts. h.before ++ ts) (append_assoc (layer_needs had b) (both_texts (objects base had b)) _) ∙ whole;
            minimal = ap (λ n. last_layer false ext (base_in (Some made) false) n more (parts false)) greatest ∙ ap (λ f. last_layer false ext (f false) (max had b.count) more (parts false)) (sym same) ∙ ap (λ bs. last_layer false ext (base_in base false) had bs (parts false)) (sym is) ∙ h.minimal;
            complete = ap (λ n. last_layer true ext (base_in (Some made) true) n more (parts true)) greatest ∙ ap (λ f. last_layer true ext (f true) (max had b.count) more (parts true)) (sym same) ∙ ap (λ bs. last_layer true ext (base_in base true) had bs (parts true)) (sym is) ∙ h.complete;
          }

  pub done : (old now : Texts) (all : List (List ℕ)) (ids : Bool → Identifier) (base : Option Identifiers) (had : ℕ) → Standing old now all ids base had [] → Adds old all now × (base_in base false ≡ ids false) × (base_in base true ≡ ids true)
  done old now all ids base had h = (subst (λ ts. Adds old ts now) (sym (append-nil h.before) ∙ h.texts_are) h.adds, h.minimal, h.complete)

  -- the layer's objects, from its members
  pub layer_stored : {E : Type 0} (pair : Result Pair E) (r : Result Identifiers PoolFault) (old new : Texts) (base : Option Identifiers) (had : ℕ) (b : Base) (members : Parts MemberPart)
      → members ≡ (between had b.count (parts false), between had b.count (parts true))
      → IfOk pair (λ p. forms p ≡ both_forms (λ c. struct_object c b.name ext b.nested b.hashed_ids (base_in base c) (parts_in members c)))
      → AddsMade pair r old new → Stores itself r old (both_texts (objects base had b)) new (form_ids (both_forms (objects base had b)))
  layer_stored pair r old new base had b members e made h =
      let so : IfOk pair (λ p. forms p ≡ both_forms (objects base had b)) = subst (λ ms. IfOk pair (λ p. forms p ≡ both_forms (λ c. struct_object c b.name ext b.nested b.hashed_ids (base_in base c) (parts_in ms c)))) e made in
      forms_stored pair r old new (both_forms (objects base had b)) so h

-- ---- a whole structure

abbrev pub head_of : StructType → StructHead
head_of t = let s = out-StructType t in record { name = s.name; ext = s.ext; nested = s.nested; hashed_ids = s.hashed_ids; bases = s.bases }

module _ (h : StructHead) (ms : Members) where
  abbrev pub struct_parts : Bool → List MemberPart
  struct_parts c = member_parts c ms

  abbrev pub all_texts : List (List ℕ)
  all_texts = layer_texts h.ext (λ c. o.none) 0 (layers h (member_count ms)) (member_texts ms) struct_parts

  abbrev pub last_ids : Bool → Identifier
  last_ids c = last_layer c h.ext o.none 0 (layers h (member_count ms)) (struct_parts c)

  -- some bases are still to come
  abbrev pub StandsOn : Texts → Texts → Option Identifiers → ℕ → List Base → Type 0
  StandsOn old now base had bases = Standing h.ext (member_texts ms) struct_parts old now all_texts last_ids base had (bases ++ top h (member_count ms) ∷ [])

  pub none_yet : (old : Texts) → StandsOn old old None 0 h.bases
  none_yet old = at_start h.ext (member_texts ms) struct_parts old (layers h (member_count ms))

  top_by : (r : Result Identifiers PoolFault) (old now mid new : Texts) (base : Option Identifiers) (had : ℕ) → StandsOn old now base had [] → Adds now (layer_needs h.ext (member_texts ms) struct_parts had (top h (member_count ms))) mid
      → Stores itself r mid (both_texts (objects h.ext (member_texts ms) struct_parts base had (top h (member_count ms)))) new (form_ids (both_forms (objects h.ext (member_texts ms) struct_parts base had (top h (member_count ms)))))
      → Stores hashes_seen r old all_texts new (false, last_ids false, last_ids true)
  top_by (Ok ids) old now mid new base had stands needed k =
      let whole = goes_on h.ext (member_texts ms) struct_parts old now all_texts last_ids base had (top h (member_count ms) ∷ []) [] (top h (member_count ms)) refl stands mid needed new ids _ refl k.0 k.1 in
      let d = done h.ext (member_texts ms) struct_parts old new all_texts last_ids (Some ids) _ whole in
      (d.0, ap (λ (i : Identifier). (false, i, o.hash ids.complete)) d.1 ∙ ap (λ (i : Identifier). (false, last_ids false, i)) d.2)
  top_by (Err f) old now mid new base had stands needed k = ends_in_own h.ext (member_texts ms) struct_parts old now all_texts last_ids base had (top h (member_count ms) ∷ []) [] (top h (member_count ms)) refl stands mid needed f new k

  pub top_stored : (whole : Tree) → whole ≡ structure h ms → (r : Result Identifiers PoolFault) (old now mid new : Texts) (base : Option Identifiers) (had : ℕ) → StandsOn old now base had [] → Adds now (layer_needs h.ext (member_texts ms) struct_parts had (top h (member_count ms))) mid
      → Stores itself r mid (both_texts (objects h.ext (member_texts ms) struct_parts base had (top h (member_count ms)))) new (form_ids (both_forms (objects h.ext (member_texts ms) struct_parts base had (top h (member_count ms)))))
      → Stores hashes_seen r old (texts whole) new (sides whole)
  unfolding texts identifier is_plain
  top_stored whole is r old now mid new base had stands needed k =
      let at : Stores hashes_seen r old (texts (structure h ms)) new (sides (structure h ms)) = top_by r old now mid new base had stands needed k in
      subst (λ w. Stores hashes_seen r old (texts w) new (sides w)) (sym is) at

  pub struct_halts : (whole : Tree) → whole ≡ structure h ms → (fault : PoolFault) (old new : Texts) → Halts fault old all_texts new → Halts fault old (texts whole) new
  unfolding texts
  struct_halts whole is fault old new k = let at : Halts fault old (texts (structure h ms)) new = k in subst (λ w. Halts fault old (texts w) new) (sym is) at

-- ---- how large some of the members are

most-take : {X : Type 0} (μ : X → ℕ) (xs : List X) (n : ℕ) → most μ (take n xs) ≤ most μ xs
most-take μ [] zero = omega arith
most-take μ [] (suc n) = omega arith
most-take μ (x ∷ xs) zero = omega arith
most-take μ (x ∷ xs) (suc n) = omega (arith, most-take μ xs n)

most-drop : {X : Type 0} (μ : X → ℕ) (xs : List X) (n : ℕ) → most μ (drop n xs) ≤ most μ xs
most-drop μ [] zero = omega arith
most-drop μ [] (suc n) = omega arith
most-drop μ (x ∷ xs) zero = omega arith
most-drop μ (x ∷ xs) (suc n) = omega (arith, most-drop μ xs n)

pub most-between : {X : Type 0} (μ : X → ℕ) (had count : ℕ) (xs : List X) → most μ (between had count xs) ≤ most μ xs
most-between μ had count xs = omega (arith, most-drop μ (take count xs) had, most-take μ xs count)

-- those are members of the whole
pub most-of : {X : Type 0} (μ : X → ℕ) (had count : ℕ) (some whole : List X) → some ≡ between had count whole → most μ some ≤ most μ whole
most-of μ had count some whole is = subst (λ xs. most μ xs ≤ most μ whole) (sym is) (most-between μ had count whole)

-- ---- the loop over the bases, and what comes behind it

module _ (t : StructType) (old now : Texts) (base : Option Identifiers) (had : ℕ) where
  abbrev ms : Members
  ms = members_tree (out-StructType t).members

  abbrev Stands : List Base → Type 0
  Stands bases = StandsOn (head_of t) ms old now base had bases

  module _ (some : List Member) (b : Base) (own : some ≡ between had b.count (out-StructType t).members) where
    own_needs : needed (members_tree some) ≡ joined (between had b.count (member_texts ms))
    own_needs = ap (λ xs. needed (members_tree xs)) own ∙ ap joined (texts_between had b.count (out-StructType t).members)

    own_parts : (c : Bool) → member_parts c (members_tree some) ≡ between had b.count (member_parts c ms)
    own_parts c = ap (λ xs. member_parts c (members_tree xs)) own ∙ parts_between c had b.count (out-StructType t).members

    pub own_members : (parts : Parts MemberPart) → parts ≡ (member_parts false (members_tree some), member_parts true (members_tree some)) → parts ≡ (between had b.count (member_parts false ms), between had b.count (member_parts true ms))
    own_members parts e = e ∙ ap (λ ps. (ps, member_parts true (members_tree some))) (own_parts false) ∙ ap (λ ps. (between had b.count (member_parts false ms), ps)) (own_parts true)

    abbrev objs : Bool → Object
    objs = objects (head_of t).ext (member_texts ms) (struct_parts (head_of t) ms) base had b

    module _ (rest more : List Base) (is : rest ≡ b ∷ more) (h : Stands rest) where
      is_on : rest ++ top (head_of t) (member_count ms) ∷ [] ≡ b ∷ (more ++ top (head_of t) (member_count ms) ∷ [])
      is_on = ap (λ bs. bs ++ top (head_of t) (member_count ms) ∷ []) is

      pub base_ends : (fault : PoolFault) (new : Texts) → Halts fault now (needed (members_tree some)) new → Halts fault old (texts (struct_tree t)) new
      base_ends fault new k =
          struct_halts (head_of t) ms (struct_tree t) (struct_tree_is t) fault old new (ends_in_needs (head_of t).ext (member_texts ms) (struct_parts (head_of t) ms) old now _ _ base had _ _ b is_on h fault new (subst (λ ts. Halts fault now ts new) own_needs k))

      pub base_stops : (fault : PoolFault) (mid new : Texts) → Adds now (needed (members_tree some)) mid → Halts fault mid (both_texts objs) new → Halts fault old (texts (struct_tree t)) new
      base_stops fault mid new needed_added k =
          struct_halts (head_of t) ms (struct_tree t) (struct_tree_is t) fault old new (ends_in_own (head_of t).ext (member_texts ms) (struct_parts (head_of t) ms) old now _ _ base had _ _ b is_on h mid (subst (λ ts. Adds now ts mid) own_needs needed_added) fault new k)

      pub base_goes_on : (mid new : Texts) (made : Identifiers) (now_had : ℕ) → now_had ≡ max had b.count → Adds now (needed (members_tree some)) mid → Adds mid (both_texts objs) new → made ≡ form_ids (both_forms objs) → StandsOn (head_of t) ms old new (Some made) now_had more
      base_goes_on mid new made now_had greatest needed_added own_added e =
          goes_on (head_of t).ext (member_texts ms) (struct_parts (head_of t) ms) old now _ _ base had _ _ b is_on h mid (subst (λ ts. Adds now ts mid) own_needs needed_added) new made now_had greatest own_added e

      module _ {E : Type 0} (pair : Result Pair E) (r : Result Identifiers PoolFault) (mid new : Texts) (parts : Parts MemberPart) (needed_added : Adds now (needed (members_tree some)) mid) (e : parts ≡ (member_parts false (members_tree some), member_parts true (members_tree some)))
          (made : IfOk pair (λ p. forms p ≡ both_forms (λ c. struct_object c b.name (head_of t).ext b.nested b.hashed_ids (base_in base c) (parts_in parts c)))) (k : AddsMade pair r mid new) where
        stored : Stores itself r mid (both_texts objs) new (form_ids (both_forms objs))
        stored = layer_stored (head_of t).ext (member_texts ms) (struct_parts (head_of t) ms) pair r mid new base had b parts (own_members parts e) made k

        pub base_refused : (fault : PoolFault) → r ≡ Err fault → Halts fault old (texts (struct_tree t)) new
        base_refused fault is_err = base_stops fault mid new needed_added (subst (λ s. Stores itself s mid (both_texts objs) new (form_ids (both_forms objs))) is_err stored)

        pub base_on : (ids : Identifiers) (now_had : ℕ) → r ≡ Ok ids → now_had ≡ max had b.count → StandsOn (head_of t) ms old new (Some ids) now_had more
        base_on ids now_had is_ok greatest =
            let so : Adds mid (both_texts objs) new × (ids ≡ form_ids (both_forms objs)) = subst (λ s. Stores itself s mid (both_texts objs) new (form_ids (both_forms objs))) is_ok stored in
            base_goes_on mid new ids now_had greatest needed_added so.0 so.1

  -- the structure itself
  module _ (some : List Member) (own : some ≡ between had (length (out-StructType t).members) (out-StructType t).members) (h : Stands []) where
    own_top : some ≡ between had (top (head_of t) (member_count ms)).count (out-StructType t).members
    own_top = own ∙ ap (λ n. between had n (out-StructType t).members) (sym (count_is (out-StructType t).members))

    pub top_ends : (fault : PoolFault) (new : Texts) → Halts fault now (needed (members_tree some)) new → Halts fault old (texts (struct_tree t)) new
    top_ends fault new k =
        let b : Base = top (head_of t) (member_count ms) in
        struct_halts (head_of t) ms (struct_tree t) (struct_tree_is t) fault old new (ends_in_needs (head_of t).ext (member_texts ms) (struct_parts (head_of t) ms) old now _ _ base had (b ∷ []) [] b refl h fault new (subst (λ ts. Halts fault now ts new) (own_needs some b own_top) k))

    pub top_stores : {E : Type 0} (pair : Result Pair E) (r : Result Identifiers PoolFault) (mid new : Texts) (parts : Parts MemberPart) → Adds now (needed (members_tree some)) mid → parts ≡ (member_parts false (members_tree some), member_parts true (members_tree some))
        → IfOk pair (λ p. forms p ≡ both_forms (λ c. struct_object c (head_of t).name (head_of t).ext (head_of t).nested (head_of t).hashed_ids (base_in base c) (parts_in parts c))) → AddsMade pair r mid new → Stores hashes_seen r old (texts (struct_tree t)) new (sides (struct_tree t))
    top_stores pair r mid new parts needed_added e made k =
        let b : Base = top (head_of t) (member_count ms) in
        top_stored (head_of t) ms (struct_tree t) (struct_tree_is t) r old now mid new base had h (subst (λ ts. Adds now ts mid) (own_needs some b own_top) needed_added)
        (layer_stored (head_of t).ext (member_texts ms) (struct_parts (head_of t) ms) pair r mid new base had b parts (own_members some b own_top parts e) made k)

pub next_base : (items bases : List Base) (i : ℕ) (b : Base) → items ≡ bases → i < length items → b ≡ get_or items i b → drop i bases ≡ b ∷ drop (i + 1) bases
next_base items bases i b e lt is =
    let at : drop i items ≡ b ∷ drop (i + 1) items = drop_more items i b lt ∙ ap (λ c. c ∷ drop (i + 1) items) (sym is) in
    subst (λ xs. drop i xs ≡ b ∷ drop (i + 1) xs) e at

pub no_base_left : (t : StructType) (old now : Texts) (base : Option Identifiers) (had i : ℕ) (items : List Base) → items ≡ (out-StructType t).bases → length items ≤ i → StandsOn (head_of t) (members_tree (out-StructType t).members) old now base had (drop i (out-StructType t).bases) → StandsOn (head_of t) (members_tree (out-StructType t).members) old now base had []
no_base_left t old now base had i items e le h = subst (λ bs. StandsOn (head_of t) (members_tree (out-StructType t).members) old now base had bs) (ap (drop i) (sym e) ∙ none_behind items i le) h
