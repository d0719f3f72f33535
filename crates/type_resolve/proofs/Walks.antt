-- The walk from an identifier of a type gives the type, where its objects are in the pool.
use Rattle.std.proofs.Common.{◌≡◌, ℕ, zero, suc, ◌+◌, ◌<◌, ◌≤◌, List, [], ◌∷◌, ◌++◌, map, take, drop, length, refl, sym, ap, subst, ◌∙◌, arith}
use Rattle.std.proofs.lemmas.Bool.{lt-ltb}
use Rattle.std.proofs.lemmas.List.{length-append}
use Rattle.std.specs.Prelude.{Bool, true, false, cond, ◌||◌, Result, Ok, Err}
use Rattle.xt_shapes.specs.declared.leaves.Ext.{Ext}
use Rattle.xt_shapes.specs.declared.leaves.Ext.TheVariants as E
use Rattle.xt_shapes.specs.declared.leaves.Try.{Try}
use Rattle.xt_shapes.specs.declared.leaves.Step.{Step}
use Rattle.xt_shapes.specs.Kinds.{same_ext}
use Rattle.type_trees.specs.declared.types.HashId.{HashId}
use Rattle.type_trees.specs.declared.types.Base.{Base}
use Rattle.type_trees.specs.Trees.{Tree, MemberHead}
use Rattle.object_formats.specs.Objects as o
use Rattle.object_formats.specs.Objects.{Identifier, MemberPart, CasePart, Object}
use Rattle.object_formats.specs.Tables.{text_of}
use Rattle.type_trees.specs.Ids.{same_id}
use Rattle.type_object.specs.Names.{named}
use Rattle.type_trees.proofs.SameIds.{same_is}
use Rattle.type_object.specs.Pools.{Texts, object_at}
use Rattle.type_object.specs.References.{is_among}
use Rattle.object_walks.specs.Resolving as r
use Rattle.object_walks.specs.Resolving.{Stop, Got, Walk, ◌>>=◌, follow, present, absent, repeated, at_node, of_whole, node, walk, part, under, beneath, try_of, each, member, members, behind, of_base, base_at, bases, from_base, based}
use Rattle.type_resolve.specs.Objects.{own, between, type_flags, struct_object, layer_object}
use Rattle.type_resolve.specs.Held.{IsIn}
use Rattle.type_resolve.proofs.Back.{type_says}
use Rattle.type_trees.specs.sizes.TypeNodes.{nodes}
use Rattle.type_resolve.proofs.Weights.{weigh, weight, total}

-- ---- identifiers that a place stands in

module _ (pool : Texts) (most : ℕ) where
  -- each of them is heavier than this
  abbrev pub Above : ℕ → List HashId → Type 0
  Above w [] = Unit {0}
  Above w (i ∷ is) = (w < weigh most pool (o.hash i)) × Above w is

  pub above-less : (v w : ℕ) (is : List HashId) → v ≤ w → Above w is → Above v is
  above-less v w [] le h = tt
  above-less v w (i ∷ is) le h = (omega (arith, h.0), above-less v w is le h.1)

  other : (b : Bool) (id i : HashId) → same_id id i ≡ b → weigh most pool (o.hash id) < weigh most pool (o.hash i) → b ≡ false
  other true id i e lt = let same : weigh most pool (o.hash id) ≡ weigh most pool (o.hash i) = ap (λ h. weigh most pool (o.hash h)) (same_is id i e) in absurd (omega arith)
  other false id i e lt = refl

  or_false : (a b : Bool) → a ≡ false → b ≡ false → (a || b) ≡ false
  or_false a b e d = rw (e, d) refl

  pub not_among : (id : HashId) (is : List HashId) → Above (weigh most pool (o.hash id)) is → is_among id is ≡ false
  not_among id [] h = refl
  not_among id (i ∷ is) h = or_false (same_id id i) (is_among id is) (other (same_id id i) id i refl h.0) (not_among id is h.1)

  -- an object is followed
  pub follows : (x : Object) (is : List HashId) → IsIn pool x → Above (weigh most pool (own x)) is → follow pool is (named (text_of x)) ≡ Ok x
  follows x is here h = ap (λ b. cond b (Err (repeated (named (text_of x)))) (present (named (text_of x)) (object_at (named (text_of x)) pool))) (not_among (named (text_of x)) is h) ∙ ap (present (named (text_of x))) here

-- ---- steps

pub then_ok : {A B : Type 0} {r : Result A Stop} (f : A → Result B Stop) {x : A} {y : Result B Stop} → r ≡ Ok x → f x ≡ y → (r >>= f) ≡ y
then_ok f e d = rw e d

pub level : (pool : Texts) (levels n : ℕ) (is : List HashId) (i : Identifier) (y : Got Tree) → 0 < levels → n < 65536 → ((l : ℕ) → levels ≡ suc l → node pool (walk l pool) is i (n + 1) ≡ y) → walk levels pool is i n ≡ y
unfolding walk
level pool zero n is i y some lt h = absurd (omega arith)
level pool (suc l) n is i y some lt h = ap (λ b. cond b (node pool (walk l pool) is i (n + 1)) (Err (of_whole 16))) (lt-ltb n 65536 lt) ∙ h l refl

pub part_is : (go : Walk) (step : Step) (is : List HashId) (tc : Try) (flags : ℕ) (i : Identifier) (n m : ℕ) (t : Tree) → try_of flags ≡ tc → go is i n ≡ Ok (t, m) → part go step is flags i n ≡ Ok ((tc, t), m)
part_is go step is tc flags i n m t says e = ap (λ g. under step g >>= λ q. Ok ((try_of flags, q.0), q.1)) e ∙ ap (λ c. Ok ((c, t), m)) says

-- ---- members

abbrev pub Listed : Type 0
Listed = List (MemberHead × Tree)

abbrev pub total_nodes : Listed → ℕ
total_nodes [] = 0
total_nodes (m ∷ ms) = nodes m.1 + total_nodes ms

abbrev pub weights_of : Listed → List ℕ
weights_of ms = map (λ m. weight m.1) ms

pub total_nodes-append : (a b : Listed) → total_nodes (a ++ b) ≡ total_nodes a + total_nodes b
total_nodes-append [] b = omega arith
total_nodes-append (m ∷ a) b = let rest = total_nodes-append a b in omega arith

module _ (pool : Texts) (most : ℕ) (go : Walk) where
  -- the walk to a member's type gives the member
  abbrev pub Goes : MemberPart → MemberHead × Tree → Type 0
  Goes p m = (n : ℕ) (is : List HashId) → n + nodes m.1 ≤ 65536 → Above pool most (weight m.1) is → member go is p n ≡ Ok (m, n + nodes m.1)

  abbrev pub AllGo : List MemberPart → Listed → Type 0
  AllGo [] [] = Unit {0}
  AllGo [] (m ∷ ms) = ⊥
  AllGo (p ∷ ps) [] = ⊥
  AllGo (p ∷ ps) (m ∷ ms) = Goes p m × AllGo ps ms

  pub go-take : (n : ℕ) (ps : List MemberPart) (ms : Listed) → AllGo ps ms → AllGo (take n ps) (take n ms)
  go-take zero [] [] h = tt
  go-take (suc n) [] [] h = tt
  go-take n [] (m ∷ ms) h = absurd h
  go-take n (p ∷ ps) [] h = absurd h
  go-take zero (p ∷ ps) (m ∷ ms) h = tt
  go-take (suc n) (p ∷ ps) (m ∷ ms) h = (h.0, go-take n ps ms h.1)

  pub go-drop : (n : ℕ) (ps : List MemberPart) (ms : Listed) → AllGo ps ms → AllGo (drop n ps) (drop n ms)
  go-drop zero [] [] h = tt
  go-drop (suc n) [] [] h = tt
  go-drop n [] (m ∷ ms) h = absurd h
  go-drop n (p ∷ ps) [] h = absurd h
  go-drop zero (p ∷ ps) (m ∷ ms) h = h
  go-drop (suc n) (p ∷ ps) (m ∷ ms) h = go-drop n ps ms h.1

  pub members_are : (ps : List MemberPart) (ms : Listed) → AllGo ps ms → (n w : ℕ) (is : List HashId) → n + total_nodes ms ≤ 65536 → total (weights_of ms) ≤ w → Above pool most w is → members go is ps n ≡ Ok (ms, n + total_nodes ms)
  members_are [] [] h n w is fits light above = ap (λ k. Ok ([], k)) (omega arith)
  members_are [] (m ∷ ms) h n w is fits light above = absurd h
  members_are (p ∷ ps) [] h n w is fits light above = absurd h
  members_are (p ∷ ps) (m ∷ ms) h n w is fits light above =
      let first : member go is p n ≡ Ok (m, n + nodes m.1) = h.0 n is (omega arith) (above-less pool most (weight m.1) w is (omega arith) above) in
      let rest : members go is ps (n + nodes m.1) ≡ Ok (ms, n + nodes m.1 + total_nodes ms) = members_are ps ms h.1 (n + nodes m.1) w is (omega arith) (omega arith) above in
      then_ok _ first (then_ok _ rest (ap (λ k. Ok (m ∷ ms, k)) (omega arith)))

  -- ---- layers

  abbrev pub Stands : Ext → Identifier → ℕ → List Base → Listed → Type 0
  Stands ext base bw bs ms = (room n : ℕ) (is : List HashId) → length bs ≤ room → n + total_nodes ms ≤ 65536 → Above pool most bw is → bases room pool go ext is base n ≡ Ok ((bs, ms), n + total_nodes ms)

  pub none_stands : (ext : Ext) (bw : ℕ) → Stands ext o.none bw [] []
  none_stands ext bw room n is few fits above = ap (λ k. Ok (([], []), k)) (omega arith)

  same_ext_itself : (e : Ext) → same_ext e e ≡ true
  same_ext_itself E.Final = refl
  same_ext_itself E.Appendable = refl
  same_ext_itself E.Mutable = refl

  -- what a base gives, once its own base and its own members are walked
  based_so : (ext : Ext) (b : Base) (base : Identifier) (room : ℕ) (is : List HashId) (parts : List MemberPart) (bs : List Base) (ms more : Listed) (n k m : ℕ)
      → bases room pool go ext is base n ≡ Ok ((bs, ms), k) → members go is parts k ≡ Ok (more, m) → length (ms ++ more) ≡ b.count
      → of_base go (bases room pool go ext is) is ext (struct_object true b.name ext b.nested b.hashed_ids base parts) n ≡ Ok ((bs ++ b ∷ [], ms ++ more), m)
  based_so ext b base room is parts bs ms more n k m below own_members count =
      let says = type_says ext b.nested b.hashed_ids in
      let f = type_flags true ext b.nested b.hashed_ids in
      let kept : same_ext (r.ext_of f) ext ≡ true = ap (λ e. same_ext e ext) says.0 ∙ same_ext_itself ext in
      let inner : (bases room pool go ext is base n >>= λ q. behind q.0.1 (members go is parts q.1) >>= λ all. Ok (based b.name f q.0.0 all.0, all.1)) ≡ Ok (based b.name f bs (ms ++ more), m) = then_ok _ below (then_ok _ (then_ok _ own_members refl) refl) in
      let is_base : based b.name f bs (ms ++ more) ≡ (bs ++ b ∷ [], ms ++ more) =
      ap (λ x. (bs ++ record { name = b.name; nested = x; hashed_ids = r.bit f 16; count = length (ms ++ more) } ∷ [], ms ++ more)) says.1
      ∙ ap (λ x. (bs ++ record { name = b.name; nested = b.nested; hashed_ids = x; count = length (ms ++ more) } ∷ [], ms ++ more)) says.2
      ∙ ap (λ c. (bs ++ record { name = b.name; nested = b.nested; hashed_ids = b.hashed_ids; count = c } ∷ [], ms ++ more)) count in
      ap (λ t. cond t (bases room pool go ext is base n >>= λ q. behind q.0.1 (members go is parts q.1) >>= λ all. Ok (based b.name f q.0.0 all.0, all.1)) (Err (of_whole 17))) kept ∙ inner ∙ ap (λ s. Ok (s, m)) is_base

  pub next_stands : (ext : Ext) (base : Identifier) (bw had : ℕ) (b : Base) (parts : List MemberPart) (bs : List Base) (ms more : Listed)
      → Stands ext base bw bs ms → IsIn pool (layer_object true ext base had b parts) → AllGo (between had b.count parts) more → length (ms ++ more) ≡ b.count
      → weigh most pool (own (layer_object true ext base had b parts)) ≡ 1 + (bw + total (weights_of more)) → Stands ext (own (layer_object true ext base had b parts)) (1 + (bw + total (weights_of more))) (bs ++ b ∷ []) (ms ++ more)
  unfolding base_at
  next_stands ext base bw had b parts bs ms more stands here all count heavy zero n is few fits above = absurd (let long = length-append bs (b ∷ []) in omega arith)
  next_stands ext base bw had b parts bs ms more stands here all count heavy (suc room) n is few fits above =
      let x = layer_object true ext base had b parts in
      let id = named (text_of x) in
      let long = length-append bs (b ∷ []) in
      let sum = total_nodes-append ms more in
      let over : Above pool most (weigh most pool (own x)) is = subst (λ w. Above pool most w is) (sym heavy) above in
      let inside : Above pool most (bw + total (weights_of more)) (id ∷ is) = (omega (arith, heavy), above-less pool most (bw + total (weights_of more)) (1 + (bw + total (weights_of more))) is (omega arith) above) in
      let below : bases room pool go ext (id ∷ is) base n ≡ Ok ((bs, ms), n + total_nodes ms) = stands room n (id ∷ is) (omega arith) (omega arith) (above-less pool most bw (bw + total (weights_of more)) (id ∷ is) (omega arith) inside) in
      let mine : members go (id ∷ is) (between had b.count parts) (n + total_nodes ms) ≡ Ok (more, n + total_nodes ms + total_nodes more) = members_are (between had b.count parts) more all (n + total_nodes ms) (bw + total (weights_of more)) (id ∷ is) (omega arith) (omega arith) inside in
      then_ok _ (follows pool most x is here over) (based_so ext b base room (id ∷ is) (between had b.count parts) bs ms more n (n + total_nodes ms) (n + total_nodes ms + total_nodes more) below mine count ∙ ap (λ k. Ok ((bs ++ b ∷ [], ms ++ more), k)) (omega arith))
