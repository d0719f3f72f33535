-- What is listed of an identifier is what is reached from it, where none is met inside itself.
use Rattle.std.proofs.Common.{◌≡◌, ◌≢◌, ℕ, ◌+◌, ◌-◌, ◌≤◌, Bool, true, false, cond, ◌||◌, List, [], ◌∷◌, ◌++◌, length, Option, Some, None, inl, inr, ◌⊎◌, refl, sym, ap, subst, ◌∙◌, append_assoc, append-nil, arith}
use Rattle.std.specs.Prelude.{All, IsSome}
use Rattle.std.specs.List.{list_any, AllByRecursion, IsDistinct}
use Rattle.std.specs.Map.{lookup}
use Rattle.std.specs.Cmp.{IsEquivalence}
use Rattle.std.proofs.lemmas.Bool.{or_parts}
use Rattle.std.proofs.lemmas.List.Elements.{All-weaker}
use Rattle.std.proofs.lemmas.Map.Steps.{length-le_from_keys}
use Rattle.type_trees.specs.declared.types.HashId.{HashId}
use Rattle.type_trees.specs.Ids.{same_id}
use Rattle.type_trees.proofs.SameIds.{same_is, same_id_itself, same_id_tells}
use Rattle.object_formats.specs.Objects.{Object}
use Rattle.type_object.specs.Pools.{Texts, found, object_in, object_at}
use Rattle.type_object.specs.References.{is_among, in_order, note, references}
use Rattle.object_walks.specs.Laws.{HasReached, IsReached}
use Rattle.xt_recorder.specs.Recordings.{referred, each, listed_at, closed}
use Rattle.xt_recorder.specs.Laws.{IsBehind, AreBehind, ClosedIsReached}
use Rattle.xt_recorder.proofs.Among.{AllIn, itself_in, later_in, first_or_later, in_first, in_second, all_none, all_one, all_append, of_all, to_all, in_object, in_references}
use Rattle.xt_recorder.proofs.Hanging.{Hangs, hangs, resolved_hangs}
use Rattle.xt_recorder.proofs.Listing.{levels}

-- ---- identifiers inside one another are no more than texts

ids_lawful : IsEquivalence same_id
ids_lawful = record { refl = same_id_itself; symm = λ x y. turned x y; congr = λ x y z e. ap (λ v. same_id v z) (same_is x y e) }
  where
    turned : (x y : HashId) → same_id x y ≡ same_id y x
    turned x y = elim (same_id_tells x y) [
      | inl t ↦ t.0 ∙ sym (same_id_itself x) ∙ ap (λ z. same_id z x) t.1
      | inr t ↦ elim (same_id_tells y x) [ inl u ↦ absurd (t.1 (sym u.1)) | inr u ↦ t.0 ∙ sym u.0 ]
    ]

among_keys : (q : HashId) (ids : List HashId) → list_any (same_id q) ids ≡ is_among q ids
among_keys q [] = refl
among_keys q (i ∷ ids) = ap (λ b. same_id q i || b) (among_keys q ids)

others : (i : HashId) (ids : List HashId) → is_among i ids ≡ false → AllByRecursion (λ y. same_id i y ≡ false) ids
others i [] e = tt
others i (x ∷ ids) e = let parts = or_parts (same_id i x) (is_among i ids) e in (parts.0, others i ids parts.1)

found_is : (q : HashId) (pool : Texts) → found q pool ≡ lookup (same_id q) pool
found_is q [] = refl
found_is q (e ∷ es) = ap (λ o. cond (same_id q e.0) (Some e.1) o) (found_is q es)

has_text : (x : Object) (text : Option (List ℕ)) → object_in text ≡ Some x → IsSome text
has_text x None e = absurd (cc e)
has_text x (Some bs) e = refl

module _ (pool : Texts) where
  -- identifiers inside one another, the innermost first: each is another, with a text
  abbrev Around : List HashId → Type 0
  Around [] = Unit {0}
  Around (id ∷ inside) = (is_among id inside ≡ false) × IsSome (found id pool) × Around inside

  distinct : (inside : List HashId) → Around inside → IsDistinct same_id inside
  unfolding IsDistinct
  distinct [] a = tt
  distinct (id ∷ inside) a = (others id inside a.0, distinct inside a.2)

  texted : (inside : List HashId) → Around inside → AllIn (λ q. IsSome (found q pool)) inside
  texted [] a q m = all_none (λ k. IsSome (found k pool)) q m
  texted (id ∷ inside) a q m = elim (first_or_later q id inside m) [ inl e ↦ subst (λ k. IsSome (found k pool)) (sym e) a.1 | inr e ↦ texted inside a.2 q e ]

  few_around : (inside : List HashId) → Around inside → length inside ≤ length pool
  few_around inside a = length-le_from_keys ids_lawful inside pool (distinct inside a) (λ q m. subst (λ o. IsSome o) (found_is q pool) (texted inside a q (sym (among_keys q inside) ∙ m)))

  -- ---- lists in which each stands behind what its object refers to

  behind_more : (before ids : List HashId) (x : HashId) → AreBehind pool before ids → IsBehind pool (before ++ ids) x → AreBehind pool before (ids ++ x ∷ [])
  behind_more before [] x a b = (subst (λ l. IsBehind pool l x) (append-nil before) b, tt)
  behind_more before (i ∷ ids) x a b = (a.0, behind_more (before ++ i ∷ []) ids x a.1 (subst (λ l. IsBehind pool l x) (sym (append_assoc before (i ∷ []) ids)) b))

  same_object : (a b : Object) (text : Option Object) → text ≡ Some a → text ≡ Some b → a ≡ b
  same_object a b text e d = cc

  closed_from : (before ids : List HashId) → AreBehind pool before ids → (i : HashId) (x : Object) → is_among i ids ≡ true → object_at i pool ≡ Some x → All (λ r. is_among r (before ++ ids) ≡ true) (in_order x)
  closed_from before [] a i x m e = absurd (cc m)
  closed_from before (k ∷ ids) a i x m e = elim (first_or_later i k ids m) [
    | inl is ↦ (let same : a.0.object ≡ x = same_object a.0.object x (object_at k pool) a.0.there (ap (λ j. object_at j pool) (sym is) ∙ e) in
        let there : All (λ r. is_among r before ≡ true) (in_order x) = subst (λ y. All (λ r. is_among r before ≡ true) (in_order y)) same a.0.parts in
        All-weaker (λ r. is_among r before ≡ true) (λ r. is_among r (before ++ k ∷ ids) ≡ true) (λ r h. in_first r before (k ∷ ids) h) (in_order x) there)
    | inr later ↦ subst (λ l. All (λ r. is_among r l ≡ true) (in_order x)) (append_assoc before (k ∷ []) ids) (closed_from (before ++ k ∷ []) ids a.1 i x later e)
  ]

  apart : (before ids : List HashId) → AreBehind pool before ids → (x : HashId) → is_among x before ≡ true → AllByRecursion (λ y. same_id x y ≡ false) ids
  apart before [] a x m = tt
  apart before (y ∷ ids) a x m = (differs (same_id_tells x y), apart (before ++ y ∷ []) ids a.1 x (in_first x before (y ∷ []) m))
    where
      differs : ((same_id x y ≡ true) × (x ≡ y)) ⊎ ((same_id x y ≡ false) × (x ≢ y)) → same_id x y ≡ false
      differs (inl t) = (let e : false ≡ true = sym a.0.new ∙ ap (λ k. is_among k before) (sym t.1) ∙ m in absurd (cc e))
      differs (inr t) = t.0

  distinct_behind : (before ids : List HashId) → AreBehind pool before ids → IsDistinct same_id ids
  unfolding IsDistinct
  distinct_behind before [] a = tt
  distinct_behind before (x ∷ ids) a = (apart (before ++ x ∷ []) ids a.1 x (in_second x before (x ∷ []) (itself_in x [])), distinct_behind (before ++ x ∷ []) ids a.1)

  pub texted_behind : (before ids : List HashId) → AreBehind pool before ids → AllIn (λ q. IsSome (found q pool)) ids
  texted_behind before [] a q m = all_none (λ k. IsSome (found k pool)) q m
  texted_behind before (x ∷ ids) a q m =
      elim (first_or_later q x ids m) [ inl e ↦ subst (λ k. IsSome (found k pool)) (sym e) (has_text a.0.object (found x pool) a.0.there) | inr e ↦ texted_behind (before ++ x ∷ []) ids a.1 q e ]

  -- they are no more than texts
  pub few_behind : (ids : List HashId) → AreBehind pool [] ids → length ids ≤ length pool
  few_behind ids a = length-le_from_keys ids_lawful ids pool (distinct_behind [] ids a) (λ q m. subst (λ o. IsSome o) (found_is q pool) (texted_behind [] ids a q (sym (among_keys q ids) ∙ m)))

  -- ---- reached

  pub parts_reached : (asked id : HashId) (x : Object) → IsReached pool asked id → object_at id pool ≡ Some x → AllIn (IsReached pool asked) (in_order x)
  parts_reached asked id x r e i m ids h = of_all (λ j. is_among j ids ≡ true) (in_order x) (h.closed id x (r ids h) e) i m

  pub itself_reached : (asked : HashId) → IsReached pool asked asked
  itself_reached asked ids h = h.itself

  -- ---- what is listed

  -- what was listed stays, the wanted are listed, each stands behind its parts, and what is listed is reached where the wanted are
  record Grown (ids wanted out : List HashId) : Type 0 where
    stays : AllIn (λ r. is_among r out ≡ true) ids
    has : AllIn (λ r. is_among r out ≡ true) wanted
    ordered : AreBehind pool [] out
    reached : (asked : HashId) → AllIn (IsReached pool asked) ids → AllIn (IsReached pool asked) wanted → AllIn (IsReached pool asked) out

  abbrev Lists : (List HashId → HashId → List HashId) → HashId → Type 0
  Lists one id = (ids : List HashId) → AreBehind pool [] ids → Grown ids (id ∷ []) (one ids id)

  each_grown : (one : List HashId → HashId → List HashId) (wanted : List HashId) → AllIn (Lists one) wanted → (ids : List HashId) → AreBehind pool [] ids → Grown ids wanted (each one ids wanted)
  each_grown one [] h ids ordered = record { stays = λ r m. m; has = all_none (λ r. is_among r ids ≡ true); ordered = ordered; reached = λ asked old new. old }
  each_grown one (w ∷ ws) h ids ordered =
      let first = h w (itself_in w ws) ids ordered in
      let rest = each_grown one ws (λ r m. h r (later_in r w ws m)) (one ids w) first.ordered in
      record {
        stays = λ r m. rest.stays r (first.stays r m);
        has = λ r m. elim (first_or_later r w ws m) [ inl e ↦ subst (λ k. is_among k (each one (one ids w) ws) ≡ true) (sym e) (rest.stays w (first.has w (itself_in w []))) | inr e ↦ rest.has r e ];
        ordered = rest.ordered;
        reached = λ asked old new. rest.reached asked (first.reached asked old (all_one (IsReached pool asked) w (new w (itself_in w ws)))) (λ r m. new r (later_in r w ws m));
      }

  listed_before : (ids : List HashId) (id : HashId) → is_among id ids ≡ true → AreBehind pool [] ids → Grown ids (id ∷ []) ids
  listed_before ids id there ordered = record { stays = λ r m. m; has = all_one (λ r. is_among r ids ≡ true) id there; ordered = ordered; reached = λ asked old new. old }

  module _ (ids inner : List HashId) (id : HashId) (x : Object) (has : object_at id pool ≡ Some x) (g : Grown ids (references x) inner) where
    all_reached : (asked : HashId) → AllIn (IsReached pool asked) ids → AllIn (IsReached pool asked) (id ∷ []) → AllIn (IsReached pool asked) inner
    all_reached asked old new = g.reached asked old (λ r m. parts_reached asked id x (new id (itself_in id [])) has r (in_object r x m))

    listed_last : is_among id inner ≡ false → Grown ids (id ∷ []) (inner ++ id ∷ [])
    listed_last new = record {
      stays = λ r m. in_first r inner (id ∷ []) (g.stays r m);
      has = λ r m. in_second r inner (id ∷ []) m;
      ordered = behind_more [] inner id g.ordered (record { new = new; object = x; there = has; parts = to_all (λ r. is_among r inner ≡ true) (in_order x) (λ r m. g.has r (in_references r x m)) });
      reached = λ asked old wanted. all_append (IsReached pool asked) inner (id ∷ []) (all_reached asked old wanted) wanted;
    }

    noted_grown : Grown ids (id ∷ []) (note inner id)
    noted_grown = by (is_among id inner) refl
      where
        by : (b : Bool) → is_among id inner ≡ b → Grown ids (id ∷ []) (cond b inner (inner ++ id ∷ []))
        by true e = record { stays = g.stays; has = all_one (λ r. is_among r inner ≡ true) id e; ordered = g.ordered; reached = all_reached }
        by false e = listed_last e

  -- one level of the list
  abbrev one_level : (List HashId → HashId → List HashId) → List HashId → HashId → Option Object → List HashId
  one_level one ids id x = cond (is_among id ids) ids (note (each one ids (referred x)) id)

  level_grown : (one : List HashId → HashId → List HashId) (id : HashId) (x : Object) → object_at id pool ≡ Some x → AllIn (Lists one) (in_order x) → (ids : List HashId) → AreBehind pool [] ids → Grown ids (id ∷ []) (one_level one ids id (Some x))
  level_grown one id x has h ids ordered = by (is_among id ids) refl
    where
      by : (b : Bool) → is_among id ids ≡ b → Grown ids (id ∷ []) (cond b ids (note (each one ids (references x)) id))
      by true e = listed_before ids id e ordered
      by false e = noted_grown ids (each one ids (references x)) id x has (each_grown one (references x) (λ r m. h r (in_object r x m)) ids ordered)

  some_level : (n : ℕ) (inside : List HashId) (id : HashId) → Around (id ∷ inside) → length pool ≤ n + length inside → n ≢ 0
  some_level n inside id around room none = absurd (omega (arith, few_around (id ∷ inside) around))

  fewer : (n : ℕ) (inside : List HashId) (id : HashId) → n ≢ 0 → length pool ≤ n + length inside → length pool ≤ n - 1 + length (id ∷ inside)
  fewer n inside id some room = omega arith

  list_grown : (inside : List HashId) (id : HashId) → Hangs pool inside id → (n : ℕ) → Around inside → length pool ≤ n + length inside → Lists (listed_at n pool) id
  list_grown inside id (hangs x has new parts) n around room ids ordered =
      let here : Around (id ∷ inside) = (new, has_text x (found id pool) has, around) in
      let some = some_level n inside id here room in
      let lists : AllIn (Lists (listed_at (n - 1) pool)) (in_order x) = λ r m. list_grown (id ∷ inside) r (parts r m) (n - 1) here (fewer n inside id some room) in
      subst (λ out. Grown ids (id ∷ []) out) (sym (levels n pool ids id some ∙ ap (one_level (listed_at (n - 1) pool) ids id) has)) (level_grown (listed_at (n - 1) pool) id x has lists ids ordered)

  -- ---- with more levels

  abbrev AreSame : (List HashId → HashId → List HashId) → (List HashId → HashId → List HashId) → HashId → Type 0
  AreSame one other id = (ids : List HashId) → one ids id ≡ other ids id

  each_same : (one other : List HashId → HashId → List HashId) (wanted : List HashId) → AllIn (AreSame one other) wanted → (ids : List HashId) → each one ids wanted ≡ each other ids wanted
  each_same one other [] h ids = refl
  each_same one other (w ∷ ws) h ids = ap (λ l. each one l ws) (h w (itself_in w ws) ids) ∙ each_same one other ws (λ r m. h r (later_in r w ws m)) (other ids w)

  same_list : (inside : List HashId) (id : HashId) → Hangs pool inside id → (n k : ℕ) → Around inside → length pool ≤ n + length inside → length pool ≤ k + length inside → AreSame (listed_at n pool) (listed_at k pool) id
  same_list inside id (hangs x has new parts) n k around room space ids =
      let here : Around (id ∷ inside) = (new, has_text x (found id pool) has, around) in
      let some = some_level n inside id here room in
      let any = some_level k inside id here space in
      let same : AllIn (AreSame (listed_at (n - 1) pool) (listed_at (k - 1) pool)) (references x) = λ r m. same_list (id ∷ inside) r (parts r (in_object r x m)) (n - 1) (k - 1) here (fewer n inside id some room) (fewer k inside id any space) in
      levels n pool ids id some ∙ ap (one_level (listed_at (n - 1) pool) ids id) has
      ∙ ap (λ l. cond (is_among id ids) ids (note l id)) (each_same (listed_at (n - 1) pool) (listed_at (k - 1) pool) (references x) same ids)
      ∙ sym (levels k pool ids id any ∙ ap (one_level (listed_at (k - 1) pool) ids id) has)

pub closed_is_reached : ClosedIsReached
closed_is_reached pool id t e =
    let hanging = resolved_hangs pool id t e in
    let g = list_grown pool [] id hanging (length pool) tt (omega arith) [] tt in
    let whole : HasReached pool id (closed pool id) = record { itself = g.has id (itself_in id []); closed = λ i x m there. closed_from pool [] (closed pool id) g.ordered i x m there } in
    record {
      reached = λ i. ((λ m. g.reached id (all_none (IsReached pool id)) (all_one (IsReached pool id) id (itself_reached pool id)) i m), λ r. r (closed pool id) whole);
      ordered = g.ordered;
      levels = λ n le. same_list pool [] id hanging n (length pool) tt (omega (arith, le)) (omega arith) [];
    }
