-- Layers that stand before one more layer: they have their own members alone, whatever comes behind these.
use Rattle.std.proofs.Common.{◌≡◌, ℕ, zero, suc, ◌≤◌, List, [], ◌∷◌, ◌++◌, length, take, drop, max, refl, sym, ap, ◌∙◌, append_assoc, arith}
use Rattle.std.proofs.lemmas.List.{append-nil, take_all}
use Rattle.std.specs.Prelude.{Bool}
use mathlib.Core.Path.{fun_ext}
use Rattle.xt_shapes.specs.declared.leaves.Ext.{Ext}
use Rattle.type_trees.specs.declared.types.Base.{Base}
use Rattle.object_formats.specs.Objects.{Identifier, MemberPart, Object}
use Rattle.type_resolve.specs.Objects.{own, between, struct_object, layer_object, last_layer, layer_texts, joined, both_texts}
use Rattle.type_resolve.proofs.Present.{last_had}

-- ---- lists

take-front : {A : Type 0} (n : ℕ) (xs ys : List A) → n ≤ length xs → take n (xs ++ ys) ≡ take n xs
take-front zero [] [] le = refl
take-front zero [] (y ∷ ys) le = refl
take-front zero (x ∷ xs) ys le = refl
take-front (suc n) [] ys le = absurd (omega arith)
take-front (suc n) (x ∷ xs) ys le = ap (λ zs. x ∷ zs) (take-front n xs ys (omega arith))

drop-front : {A : Type 0} (xs ys : List A) → drop (length xs) (xs ++ ys) ≡ ys
drop-front [] [] = refl
drop-front [] (y ∷ ys) = refl
drop-front (x ∷ xs) ys = drop-front xs ys

pub between-front : {A : Type 0} (had count : ℕ) (xs ys : List A) → count ≤ length xs → between had count (xs ++ ys) ≡ between had count xs
between-front had count xs ys le = ap (drop had) (take-front count xs ys le)

pub between-behind : {A : Type 0} (had count : ℕ) (xs ys : List A) → had ≡ length xs → length (xs ++ ys) ≤ count → between had count (xs ++ ys) ≡ ys
between-behind had count xs ys e le = ap (drop had) (take_all count (xs ++ ys) le) ∙ ap (λ n. drop n (xs ++ ys)) e ∙ drop-front xs ys

-- ---- counts

abbrev pub AllWithin : List Base → ℕ → Type 0
AllWithin [] n = Unit {0}
AllWithin (b ∷ bs) n = (b.count ≤ n) × AllWithin bs n

pub had_within : (had : ℕ) (bs : List Base) (n : ℕ) → had ≤ n → AllWithin bs n → last_had had bs ≤ n
had_within had [] n le w = le
had_within had (b ∷ bs) n le w = had_within (max had b.count) bs n (omega (arith, le, w.0)) w.1

-- ---- one more layer

module _ (ext : Ext) (t : Base) where
  layer_front : (c : Bool) (base : Identifier) (had : ℕ) (b : Base) (parts more : List MemberPart) → b.count ≤ length parts → layer_object c ext base had b (parts ++ more) ≡ layer_object c ext base had b parts
  layer_front c base had b parts more le = ap (λ ps. struct_object c b.name ext b.nested b.hashed_ids base ps) (between-front had b.count parts more le)

  pub last_front : (c : Bool) (base : Identifier) (had : ℕ) (bs : List Base) (parts more : List MemberPart) → AllWithin bs (length parts)
      → last_layer c ext base had (bs ++ t ∷ []) (parts ++ more) ≡ own (layer_object c ext (last_layer c ext base had bs parts) (last_had had bs) t (parts ++ more))
  last_front c base had [] parts more w = refl
  last_front c base had (b ∷ bs) parts more w =
      ap (λ x. last_layer c ext (own x) (max had b.count) (bs ++ t ∷ []) (parts ++ more)) (layer_front c base had b parts more w.0)
      ∙ last_front c (own (layer_object c ext base had b parts)) (max had b.count) bs parts more w.1

  module _ (needs needs_behind : List (List (List ℕ))) (parts behind : Bool → List MemberPart) (as_many : (c : Bool) → length (parts c) ≡ length needs) where
    -- the last layer, on those before it
    abbrev pub last_texts : (Bool → Identifier) → ℕ → List (List ℕ)
    last_texts base had = joined (between had t.count (needs ++ needs_behind)) ++ both_texts (λ c. layer_object c ext (base c) had t (parts c ++ behind c))

    abbrev with_behind : (Bool → Identifier) → ℕ → Base → Bool → Object
    with_behind base had b c = layer_object c ext (base c) had b (parts c ++ behind c)

    abbrev alone : (Bool → Identifier) → ℕ → Base → Bool → Object
    alone base had b c = layer_object c ext (base c) had b (parts c)

    same_layer : (base : Bool → Identifier) (had : ℕ) (b : Base) → b.count ≤ length needs → with_behind base had b ≡ alone base had b
    same_layer base had b le = fun_ext (λ c. layer_front c (base c) had b (parts c) (behind c) (omega (arith, as_many c)))

    pub texts_front : (base : Bool → Identifier) (had : ℕ) (bs : List Base) → AllWithin bs (length needs)
        → layer_texts ext base had (bs ++ t ∷ []) (needs ++ needs_behind) (λ c. parts c ++ behind c)
        ≡ layer_texts ext base had bs needs parts ++ last_texts (λ c. last_layer c ext (base c) had bs (parts c)) (last_had had bs)
    texts_front base had [] w = ap (λ ts. joined (between had t.count (needs ++ needs_behind)) ++ ts) (append-nil (both_texts (λ c. layer_object c ext (base c) had t (parts c ++ behind c))))
    texts_front base had (b ∷ bs) w =
        let x : Bool → Object = λ c. layer_object c ext (base c) had b (parts c) in
        let rest : List (List ℕ) = last_texts (λ c. last_layer c ext (own (x c)) (max had b.count) bs (parts c)) (last_had (max had b.count) bs) in
        let first : List (List ℕ) = joined (between had b.count needs) in
        let inner : List (List ℕ) = layer_texts ext (λ c. own (x c)) (max had b.count) bs needs parts in
        ap (λ (f : Bool → Object). joined (between had b.count (needs ++ needs_behind)) ++ (both_texts f ++ layer_texts ext (λ c. own (f c)) (max had b.count) (bs ++ t ∷ []) (needs ++ needs_behind) (λ c. parts c ++ behind c))) (same_layer base had b w.0)
        ∙ ap (λ ns. joined ns ++ (both_texts x ++ layer_texts ext (λ c. own (x c)) (max had b.count) (bs ++ t ∷ []) (needs ++ needs_behind) (λ c. parts c ++ behind c))) (between-front had b.count needs needs_behind w.0)
        ∙ ap (λ ts. first ++ (both_texts x ++ ts)) (texts_front (λ c. own (x c)) (max had b.count) bs w.1)
        ∙ ap (λ ts. first ++ ts) (sym (append_assoc (both_texts x) inner rest))
        ∙ sym (append_assoc first (both_texts x ++ inner) rest)
