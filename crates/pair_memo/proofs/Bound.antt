-- How many distinct pairs of identifiers there are under four kinds of examination.
use Rattle.std.proofs.Common.{◌≡◌, ℕ, ◌+◌, ◌*◌, ◌≤◌, List, [], ◌∷◌, ◌++◌, length, map, Bool, true, false, ◌&&◌, ◌||◌, refl, sym, ap, subst, ◌∙◌, arith}
use Rattle.std.specs.Prelude.{All}
use Rattle.std.specs.List.{list_any, AllByRecursion}
use Rattle.std.specs.Map.{keys_of}
use Rattle.std.specs.Set.{is_member}
use Rattle.std.proofs.lemmas.Bool.{false≢true}
use Rattle.std.proofs.lemmas.List.{length-append, length-map}
use Rattle.std.proofs.lemmas.List.Folds.{list_any-append}
use Rattle.std.proofs.lemmas.Map.Made.{length-le_from_is_member}
use Rattle.xt_shapes.specs.declared.leaves.Rep.{Rep}
use Rattle.xcdr_model.specs.declared.verdict.Policy.{Policy}
use Rattle.type_trees.specs.Ids.{same_id}
use Rattle.type_trees.specs.declared.types.HashId.{HashId}
use Rattle.type_object.specs.Pools.{Texts}
use Rattle.type_object.specs.References.{is_among}
use Rattle.object_walks.specs.Laws.{HasReached, IsReached}
use Rattle.pair_memo.specs.declared.memo.Kind.{Kind}
use Rattle.pair_memo.specs.declared.memo.Kind.TheVariants as k
use Rattle.pair_memo.specs.declared.memo.Pair.{Pair}
use Rattle.pair_memo.specs.Entries.{Entry, same_kind, same_pair}
use Rattle.pair_memo.specs.Memos.{IsMemo, IsOf}
use Rattle.pair_memo.specs.Bound.{NotesAreFew}
use Rattle.pair_memo.proofs.SameKeys.{pair_is, kind_itself, pairs_lawful}
use Rattle.pair_memo.proofs.Reaching.{of_among}

abbrev row : Kind → HashId → List HashId → List Pair
row kind x ys = map (λ (y : HashId). record { kind = kind; left = x; right = y }) ys

abbrev rows : Kind → List HashId → List HashId → List Pair
rows kind [] ys = []
rows kind (x ∷ xs) ys = row kind x ys ++ rows kind xs ys

abbrev all_pairs : List HashId → List HashId → List Pair
all_pairs xs ys = rows k.Top xs ys ++ (rows k.Plain xs ys ++ (rows k.Strong xs ys ++ rows k.Equivalent xs ys))

length_rows : (kind : Kind) (xs ys : List HashId) → length (rows kind xs ys) ≡ length xs * length ys
length_rows kind [] ys = omega arith
length_rows kind (x ∷ xs) ys =
    length-append (row kind x ys) (rows kind xs ys) ∙ ap (λ n. n + length (rows kind xs ys)) (length-map ys (λ (y : HashId). record { kind = kind; left = x; right = y })) ∙ ap (λ n. length ys + n) (length_rows kind xs ys) ∙ sym (omega arith)

length_pairs : (xs ys : List HashId) → length (all_pairs xs ys) ≡ 4 * (length xs * length ys)
length_pairs xs ys =
    let a = length_rows k.Top xs ys in
    let b = length_rows k.Plain xs ys in
    let c = length_rows k.Strong xs ys in
    let d = length_rows k.Equivalent xs ys in
    let e = length-append (rows k.Top xs ys) (rows k.Plain xs ys ++ (rows k.Strong xs ys ++ rows k.Equivalent xs ys)) in
    let f = length-append (rows k.Plain xs ys) (rows k.Strong xs ys ++ rows k.Equivalent xs ys) in
    let g = length-append (rows k.Strong xs ys) (rows k.Equivalent xs ys) in
    e ∙ ap (λ n. length (rows k.Top xs ys) + n) (f ∙ ap (λ n. length (rows k.Plain xs ys) + n) g) ∙ four (length xs * length ys) _ _ _ _ a b c d
  where
    four : (n a b c d : ℕ) → a ≡ n → b ≡ n → c ≡ n → d ≡ n → a + (b + (c + d)) ≡ 4 * n
    four n a b c d p q r s = omega arith

or_more : (c d r : Bool) → (d ≡ true → r ≡ true) → (c || d) ≡ true → (c || r) ≡ true
or_more true d r f h = refl
or_more false d r f h = f h

or_second : (c d : Bool) → d ≡ true → (c || d) ≡ true
or_second true d h = refl
or_second false d h = h

or_first : (c d : Bool) → c ≡ true → (c || d) ≡ true
or_first true d h = refl
or_first false d h = absurd (false≢true h)

module _ (q : Pair) where
  in_row : (x : HashId) (ys : List HashId) → same_id q.left x ≡ true → is_among q.right ys ≡ true → list_any (same_pair q) (row q.kind x ys) ≡ true
  in_row x [] e h = h
  in_row x (y ∷ ys) e h =
      ap (λ b. (b && (same_id q.left x && same_id q.right y)) || list_any (same_pair q) (row q.kind x ys)) (kind_itself q.kind)
      ∙ ap (λ b. (b && same_id q.right y) || list_any (same_pair q) (row q.kind x ys)) e
      ∙ or_more (same_id q.right y) (is_among q.right ys) (list_any (same_pair q) (row q.kind x ys)) (in_row x ys e) h

  either : (x : HashId) (xs ys : List HashId) (b : Bool) → same_id q.left x ≡ b → is_among q.right ys ≡ true → (is_among q.left xs ≡ true → list_any (same_pair q) (rows q.kind xs ys) ≡ true) → (b || is_among q.left xs) ≡ true
      → (list_any (same_pair q) (row q.kind x ys) || list_any (same_pair q) (rows q.kind xs ys)) ≡ true
  either x xs ys true e h rest f = or_first _ _ (in_row x ys e h)
  either x xs ys false e h rest f = or_second (list_any (same_pair q) (row q.kind x ys)) (list_any (same_pair q) (rows q.kind xs ys)) (rest f)

  in_rows : (xs ys : List HashId) → is_among q.left xs ≡ true → is_among q.right ys ≡ true → list_any (same_pair q) (rows q.kind xs ys) ≡ true
  in_rows [] ys e h = absurd (false≢true e)
  in_rows (x ∷ xs) ys e h = list_any-append (same_pair q) (row q.kind x ys) (rows q.kind xs ys) ∙ either x xs ys (same_id q.left x) refl h (λ f. in_rows xs ys f h) e

  among_first : (ps bs : List Pair) → list_any (same_pair q) ps ≡ true → list_any (same_pair q) (ps ++ bs) ≡ true
  among_first ps bs h = list_any-append (same_pair q) ps bs ∙ or_first _ _ h

  among_second : (ps bs : List Pair) → list_any (same_pair q) bs ≡ true → list_any (same_pair q) (ps ++ bs) ≡ true
  among_second ps bs h = list_any-append (same_pair q) ps bs ∙ or_second (list_any (same_pair q) ps) (list_any (same_pair q) bs) h

  in_all_by : (xs ys : List HashId) (kind : Kind) → list_any (same_pair q) (rows kind xs ys) ≡ true → list_any (same_pair q) (all_pairs xs ys) ≡ true
  in_all_by xs ys k.Top h = among_first (rows k.Top xs ys) _ h
  in_all_by xs ys k.Plain h = among_second (rows k.Top xs ys) _ (among_first (rows k.Plain xs ys) _ h)
  in_all_by xs ys k.Strong h = among_second (rows k.Top xs ys) _ (among_second (rows k.Plain xs ys) _ (among_first (rows k.Strong xs ys) _ h))
  in_all_by xs ys k.Equivalent h = among_second (rows k.Top xs ys) _ (among_second (rows k.Plain xs ys) _ (among_second (rows k.Strong xs ys) (rows k.Equivalent xs ys) h))

  in_all : (xs ys : List HashId) → is_among q.left xs ≡ true → is_among q.right ys ≡ true → list_any (same_pair q) (all_pairs xs ys) ≡ true
  in_all xs ys e h = in_all_by xs ys q.kind (in_rows xs ys e h)

-- a noted pair is of the sides' identifiers
module _ (lefts rights : List HashId) (q : Pair) where
  noted_by : (p : Pair) (rest b : Bool) → same_pair q p ≡ b → IsOf lefts rights p → (rest ≡ true → IsOf lefts rights q) → (b || rest) ≡ true → IsOf lefts rights q
  noted_by p rest true is h more e = subst (λ (x : Pair). IsOf lefts rights x) (sym (pair_is q p is)) h
  noted_by p rest false is h more e = more e

  noted_of : (es : List Entry) → AllByRecursion (λ (e : Entry). IsOf lefts rights e.0) es → is_member same_pair (keys_of es) q ≡ true → IsOf lefts rights q
  noted_of [] h e = absurd (false≢true e)
  noted_of (x ∷ es) h e = noted_by x.0 (is_member same_pair (keys_of es) q) (same_pair q x.0) refl h.0 (λ f. noted_of es h.1 f) e

pub few : NotesAreFew
few q r pool lefts rights es reader writer xs ys memo left right has_left has_right =
    let within : (p : Pair) → is_member same_pair (keys_of es) p ≡ true → is_member same_pair (all_pairs xs ys) p ≡ true = λ p m.
    let of = noted_of lefts rights p es memo.reached m in
    in_all p xs ys (of_among (λ id. IsReached pool reader id) p.left lefts left of.0 xs has_left) (of_among (λ id. IsReached pool writer id) p.right rights right of.1 ys has_right)
    in
    let few_keys = length-le_from_is_member pairs_lawful (keys_of es) (all_pairs xs ys) memo.apart within in
    subst (λ n. length es ≤ n) (length_pairs xs ys) (subst (λ n. n ≤ length (all_pairs xs ys)) (length-map es (λ (e : Entry). e.0)) few_keys)
