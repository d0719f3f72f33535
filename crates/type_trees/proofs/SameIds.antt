-- The test of two identifiers tells whether they are the same.
use Rattle.std.proofs.Common.{◌≡◌, ◌≢◌, Bool, true, false, ◌⊎◌, inl, inr, refl, sym, ap, ◌∙◌, ◌&&◌}
use Rattle.std.specs.Prelude.{nat_eq}
use Rattle.std.specs.Str.{bytes_eq}
use Rattle.std.proofs.lemmas.Bool.{eqb-true, eqb-false}
use Rattle.std.proofs.lemmas.Slice.Eq.{bytes_eq-Decides}
use Rattle.type_trees.specs.declared.types.HashId.{HashId}
use Rattle.type_trees.specs.Ids.{same_id}

pub same_id_tells : (a b : HashId) → ((same_id a b ≡ true) × (a ≡ b)) ⊎ ((same_id a b ≡ false) × (a ≢ b))
same_id_tells a b = by (nat_eq a.kind b.kind) (bytes_eq a.hash b.hash) refl refl
  where
    by : (s t : Bool) → nat_eq a.kind b.kind ≡ s → bytes_eq a.hash b.hash ≡ t → ((same_id a b ≡ true) × (a ≡ b)) ⊎ ((same_id a b ≡ false) × (a ≢ b))
    by true true e f = let k : a.kind ≡ b.kind = eqb-true a.kind b.kind e in let h : a.hash ≡ b.hash = (bytes_eq-Decides a.hash b.hash).0 f in inl ((λ i. e i && f i), λ i. record { kind = k i; hash = h i })
    by false t e f = inr ((λ i. e i && bytes_eq a.hash b.hash), λ w. eqb-false a.kind b.kind e (ap (λ x. x.kind) w))
    by true false e f = inr ((λ i. e i && f i), λ w. let same : bytes_eq a.hash b.hash ≡ true = (bytes_eq-Decides a.hash b.hash).1 (ap (λ x. x.hash) w) in let other : true ≡ false = sym same ∙ f in absurd cc)

pub same_is : (a b : HashId) → same_id a b ≡ true → a ≡ b
same_is a b e = elim (same_id_tells a b) [ inl t ↦ t.1 | inr t ↦ (let f = t.0 in absurd cc) ]

pub same_id_itself : (a : HashId) → same_id a a ≡ true
same_id_itself a = elim (same_id_tells a a) [ inl t ↦ t.0 | inr t ↦ absurd (t.1 refl) ]
