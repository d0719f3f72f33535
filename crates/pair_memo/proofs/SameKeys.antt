-- Keys that are told to be equal are equal.
use Rattle.std.proofs.Common.{◌≡◌, ℕ, ◌==◌, ◌&&◌, Bool, true, false, List, [], ◌∷◌, refl, sym, ap, ◌∙◌}
use Rattle.std.proofs.lemmas.Bool.{and_parts, eqb-true}
use Rattle.std.specs.Cmp.{IsEquivalence}
use Rattle.type_trees.proofs.SameIds.{same_is, same_id_itself}
use Rattle.type_trees.specs.Ids.{same_id}
use Rattle.type_trees.specs.declared.types.HashId.{HashId}
use Rattle.pair_memo.specs.contracts.memo.PairPartialEq.TheImpl as pairs
use Rattle.pair_memo.specs.contracts.memo.KindPartialEq.TheImpl as kinds
use Rattle.pair_memo.specs.declared.memo.Kind.{Kind}
use Rattle.pair_memo.specs.declared.memo.Kind.TheVariants as k
use Rattle.pair_memo.specs.declared.memo.Pair.{Pair}
use Rattle.pair_memo.specs.Entries.{same_kind, same_pair}

kind_test : (a b : Kind) → kinds.eq-value.it a b ≡ same_kind a b
kind_test k.Top k.Top = refl
kind_test k.Top k.Plain = refl
kind_test k.Top k.Strong = refl
kind_test k.Top k.Equivalent = refl
kind_test k.Plain k.Top = refl
kind_test k.Plain k.Plain = refl
kind_test k.Plain k.Strong = refl
kind_test k.Plain k.Equivalent = refl
kind_test k.Strong k.Top = refl
kind_test k.Strong k.Plain = refl
kind_test k.Strong k.Strong = refl
kind_test k.Strong k.Equivalent = refl
kind_test k.Equivalent k.Top = refl
kind_test k.Equivalent k.Plain = refl
kind_test k.Equivalent k.Strong = refl
kind_test k.Equivalent k.Equivalent = refl

pub pair_test : (p q : Pair) → pairs.eq-value.it p q ≡ same_pair p q
pair_test p q = ap (λ b. b && (same_id p.left q.left && same_id p.right q.right)) (kind_test p.kind q.kind)

pub pair_tests : pairs.eq-value.it ≡ same_pair
pair_tests = λ i p q. pair_test p q i

pub kind_itself : (a : Kind) → same_kind a a ≡ true
kind_itself k.Top = refl
kind_itself k.Plain = refl
kind_itself k.Strong = refl
kind_itself k.Equivalent = refl

kind_is : (a b : Kind) → same_kind a b ≡ true → a ≡ b
kind_is k.Top k.Top e = refl
kind_is k.Top k.Plain e = absurd cc
kind_is k.Top k.Strong e = absurd cc
kind_is k.Top k.Equivalent e = absurd cc
kind_is k.Plain k.Top e = absurd cc
kind_is k.Plain k.Plain e = refl
kind_is k.Plain k.Strong e = absurd cc
kind_is k.Plain k.Equivalent e = absurd cc
kind_is k.Strong k.Top e = absurd cc
kind_is k.Strong k.Plain e = absurd cc
kind_is k.Strong k.Strong e = refl
kind_is k.Strong k.Equivalent e = absurd cc
kind_is k.Equivalent k.Top e = absurd cc
kind_is k.Equivalent k.Plain e = absurd cc
kind_is k.Equivalent k.Strong e = absurd cc
kind_is k.Equivalent k.Equivalent e = refl

pub pair_is : (p q : Pair) → same_pair p q ≡ true → p ≡ q
pair_is p q e =
    let x = and_parts (same_kind p.kind q.kind) (same_id p.left q.left && same_id p.right q.right) e in
    let y = and_parts (same_id p.left q.left) (same_id p.right q.right) x.1 in
    ap (λ (a : Kind). record { kind = a; left = p.left; right = p.right }) (kind_is p.kind q.kind x.0)
    ∙ ap (λ (a : HashId). record { kind = q.kind; left = a; right = p.right }) (same_is p.left q.left y.0)
    ∙ ap (λ (a : HashId). record { kind = q.kind; left = q.left; right = a }) (same_is p.right q.right y.1)

pub pair_itself : (p : Pair) → same_pair p p ≡ true
pair_itself p =
    ap (λ b. b && (same_id p.left p.left && same_id p.right p.right)) (kind_itself p.kind) ∙ ap (λ b. b && same_id p.right p.right) (same_id_itself p.left) ∙ same_id_itself p.right

-- a test that tells equal from unequal is an equivalence
module _ {A : Type 0} (same : A → A → Bool) (itself : (x : A) → same x x ≡ true) (is : (x y : A) → same x y ≡ true → x ≡ y) where
  turned : (x y : A) (b c : Bool) → same x y ≡ b → same y x ≡ c → b ≡ c
  turned x y true true e f = refl
  turned x y true false e f = sym (itself x) ∙ ap (λ z. same z x) (is x y e) ∙ f
  turned x y false true e f = sym e ∙ ap (same x) (is y x f) ∙ itself x
  turned x y false false e f = refl

pub pairs_lawful : IsEquivalence same_pair
pairs_lawful = record { refl = pair_itself; symm = λ x y. symmetric x y; congr = λ x y z e. ap (λ v. same_pair v z) (pair_is x y e) }
  where
    symmetric : (x y : Pair) → same_pair x y ≡ same_pair y x
    symmetric x y = turned same_pair pair_itself pair_is x y (same_pair x y) (same_pair y x) refl refl
